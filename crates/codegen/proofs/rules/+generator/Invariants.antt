-- The number that falls at each call of the cycle: nine times the node's depth, and a rank made of its kind and the rule.
use Rattle.codegen.proofs.Walk.{level, value_rank, operand_rank, test_rank, branch_rank, jumps_rank}
use Rattle.codegen.proofs.rules.+generator.Given as goal

abbrev pub decreases-gen_arms : goal.decreases-gen_arms
decreases-gen_arms l = level l.nodes.now l.i 1

abbrev pub decreases-gen_operator : goal.decreases-gen_operator
decreases-gen_operator l = level l.nodes.now l.i 2

abbrev pub decreases-gen_branch : goal.decreases-gen_branch
decreases-gen_branch l = level l.nodes.now l.i (branch_rank l.nodes.now l.i)

abbrev pub decreases-gen_code_inner : goal.decreases-gen_code_inner
decreases-gen_code_inner l = level l.nodes.now l.i (value_rank l.nodes.now l.i)

abbrev pub decreases-gen_cond_value : goal.decreases-gen_cond_value
decreases-gen_cond_value l = level l.nodes.now l.i 6

abbrev pub decreases-gen_into : goal.decreases-gen_into
decreases-gen_into l = level l.nodes.now l.i 8

abbrev pub decreases-gen_jumps : goal.decreases-gen_jumps
decreases-gen_jumps l = level l.nodes.now l.i (jumps_rank l.nodes.now l.i)

abbrev pub decreases-gen_junction : goal.decreases-gen_junction
decreases-gen_junction l = level l.nodes.now l.i 3

abbrev pub decreases-gen_not : goal.decreases-gen_not
decreases-gen_not l = level l.nodes.now l.i 1

abbrev pub decreases-gen_operand : goal.decreases-gen_operand
decreases-gen_operand l = level l.nodes.now l.i (operand_rank l.nodes.now l.i)

abbrev pub decreases-gen_pair : goal.decreases-gen_pair
decreases-gen_pair l = level l.nodes.now l.i 2

abbrev pub decreases-gen_ternary : goal.decreases-gen_ternary
decreases-gen_ternary l = level l.nodes.now l.i 2

abbrev pub decreases-gen_test : goal.decreases-gen_test
decreases-gen_test l = level l.nodes.now l.i (test_rank l.nodes.now l.i)

abbrev pub decreases-gen_two : goal.decreases-gen_two
decreases-gen_two l = level l.nodes.now l.i 1
