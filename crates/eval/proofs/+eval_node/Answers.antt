-- The recursion over the tree: `search` answers each goal by the laws of the walk.
use borrow.Author.Rules.{rules}
use Rattle.table.proofs.Trees.{walk}
use Rattle.eval.proofs.Walk.{walks, go-node, go-falls}
use Rattle.eval.proofs.+eval_node.Goals as goal

ruleset laws = (walk, walks, rules)

pub leaf-requires-clause-p_in_bounds : goal.leaf-requires-clause-p_in_bounds
leaf-requires-clause-p_in_bounds t c = search laws

pub returns-then-k-le-REF : goal.returns-then-k-le-REF
returns-then-k-le-REF t c = search laws

pub returns-in_default : goal.returns-in_default
returns-in_default t c = search laws

pub eval_node-b-requires : goal.eval_node-b-requires
eval_node-b-requires t c = (search go-falls depth 9, search (go-node, rules) depth 9)

pub returns : goal.returns
returns t c = search laws
