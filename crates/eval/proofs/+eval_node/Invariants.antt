-- The measure of the recursion is the node's depth.
use Rattle.table.specs.Table.{depth_at}
use Rattle.eval.proofs.+eval_node.Given as goal

abbrev pub decreases-eval_node : goal.decreases-eval_node
decreases-eval_node l = depth_at l.nodes.now l.i
