-- Plumbing: how the code goes about a node with children: it evaluates one child, and then stops or goes on with one more. What a tree means stands in Eval.
use Rattle.faults.specs.declared.Fault.{Fault}
use Rattle.std.specs.Prelude.{ℕ, ◌<◌, ◌≡◌, Bool, true, false, cond, List, leb, eqb, Option, Some, None, Result, Ok, Err}
use Rattle.faults.specs.Numbers.{wrong_kind}
use Rattle.table.specs.Table.{kind_at, child1, child2, child3}
use Rattle.table.specs.Nodes.{Node}
use Rattle.value.specs.Value.{nil, bool, int, float}
use Rattle.value.specs.Answer.{Answer, is, fault}
use Rattle.eval.specs.declared.next.Rule.{Rule}
use Rattle.eval.specs.declared.next.Rule.TheVariants as R

-- an answer as a test
abbrev pub truth_of : Answer → Result Bool Fault
truth_of (is nil) = Err wrong_kind
truth_of (is (bool t)) = Ok t
truth_of (is (int z)) = Err wrong_kind
truth_of (is (float p)) = Err wrong_kind
truth_of (fault n) = Err n

-- the rule of a kind from 6 to 26
abbrev pub rule_of : ℕ → Rule
rule_of k = cond (leb k 7) R.Unary (cond (leb k 23) R.Operator (cond (eqb k 24) R.And (cond (eqb k 25) R.Or R.Ternary)))

-- r is the rule of the node i, which has children
pub record Ruled (ws : List ℕ) (i : ℕ) (r : Rule) : Type 0 where
  pub base : ℕ
  pub node : Node ws base i
  pub inner : 5 < kind_at ws i
  pub rule : r ≡ rule_of (kind_at ws i)

-- the child that is evaluated first
abbrev pub first_of : Rule → List ℕ → ℕ → ℕ
first_of R.Unary ws i = child1 ws i
first_of R.Operator ws i = child2 ws i
first_of R.And ws i = child2 ws i
first_of R.Or ws i = child2 ws i
first_of R.Ternary ws i = child3 ws i

-- what follows on its answer
abbrev pub chosen_of : Result Bool Fault → Option ℕ → Option ℕ → Option ℕ
chosen_of (Ok true) m n = m
chosen_of (Ok false) m n = n
chosen_of (Err e) m n = None

abbrev pub after_of : Answer → Option ℕ → Option ℕ
after_of (is v) n = n
after_of (fault e) n = None

abbrev pub next_of : Rule → List ℕ → ℕ → Answer → Option ℕ
next_of R.Unary ws i a = None
next_of R.Operator ws i a = after_of a (Some (child1 ws i))
next_of R.And ws i a = chosen_of (truth_of a) (Some (child1 ws i)) None
next_of R.Or ws i a = chosen_of (truth_of a) None (Some (child1 ws i))
next_of R.Ternary ws i a = chosen_of (truth_of a) (Some (child2 ws i)) (Some (child1 ws i))
