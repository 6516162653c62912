-- Plumbing: what the code makes of a leaf and of the answers of a node's children. What a tree means stands in Eval.
use Rattle.std.specs.Prelude.{ℕ, ◌≡◌, true, false, cond, List, [], ◌∷◌, eqb, length, get_or}
use Rattle.std.specs.Int.{w64}
use Rattle.std.proofs.Common.{to_z}
use Rattle.value.specs.Value.{Datum, nil, bool, int, float, all_well}
use Rattle.ops.specs.Ops as Ops
use Rattle.ops.specs.Not as Not
use Rattle.value.specs.Answer.{Answer, is}
use Rattle.eval.specs.declared.next.Rule.{Rule}
use Rattle.eval.specs.declared.next.Rule.TheVariants as R
use Rattle.eval.specs.Apply.{on, both, test}

-- the two lists are of one length, and each pair is a value
pub record Lends (ks ps : List ℕ) : Type 0 where
  pub even : length ks ≡ length ps
  pub wells : all_well ks ps ≡ true

-- the leaf of each kind from 0 to 5, with its payload
abbrev pub leaves : List Datum → ℕ → List Answer
leaves ls p = is nil ∷ is (bool true) ∷ is (bool false) ∷ is (int (to_z w64 p)) ∷ is (float p) ∷ is (get_or ls p nil) ∷ []

-- the node's answer from the second child's, where there is one
abbrev pub joined_of : Rule → ℕ → Answer → Answer → Answer
joined_of R.Unary k a b = b
joined_of R.Operator k a b = both (Ops.binary_of k) a b
joined_of R.And k a b = test b
joined_of R.Or k a b = test b
joined_of R.Ternary k a b = b

-- and from the first child's alone, where there is none
abbrev pub alone_of : Rule → ℕ → Answer → Answer
alone_of R.Unary k a = on (cond (eqb k 6) Ops.minus_of Not.not_of) a
alone_of R.Operator k a = a
alone_of R.And k a = test a
alone_of R.Or k a = test a
alone_of R.Ternary k a = test a
