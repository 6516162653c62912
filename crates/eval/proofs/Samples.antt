-- Samples of meaning, computed from the definitions alone.
use Rattle.std.specs.Prelude.{Ok, Err}
use mathlib.Core.Path.{◌≡◌, refl}
use mathlib.Core.Bool.{true, false}
use mathlib.Core.List.{[], ◌∷◌}
use lib.IntN.{pos}
use Rattle.faults.specs.Faults.{◌or_else◌}
use Rattle.faults.specs.Faults as Faults
use Rattle.faults.specs.Numbers.{wrong_kind, mod_by_zero, out_of_range, ill_formed}
use Rattle.int64.specs.Int as I
use Rattle.table.specs.Tree as T
use Rattle.table.specs.Tree.{Tree, leaf, unary, binary, ternary}
use Rattle.value.specs.Value.{bool, of_pair, all_well}
use Rattle.ops.specs.Arith as Arith
use Rattle.ops.specs.Not as OpsNot
use Rattle.value.specs.Answer.{is, fault}
use Rattle.eval.specs.Eval.{leaf_of, unary_of, arith_of, binary_of, eval_of}
use Rattle.eval.specs.Apply.{on, both, whether, test}
use Rattle.eval.specs.Evaluate.{locals_fault}

-- ---- trees without locals

abbrev yes : Tree
yes = leaf T.yep

abbrev no : Tree
no = leaf T.nope

-- Not of Nil is 20, and 1 Mod 0 is 22
abbrev kindless : Tree
kindless = unary T.not' (leaf T.nil)

abbrev zeroless : Tree
zeroless = binary (T.arith T.mod') (leaf (T.int (pos 1))) (leaf (T.int (pos 0)))

-- left before right: of two faults the left one
left-first : (eval_of [] (binary (T.arith T.add) kindless zeroless) ≡ fault wrong_kind) × (eval_of [] (binary (T.arith T.add) zeroless kindless) ≡ fault mod_by_zero)
unfolding eval_of leaf_of unary_of arith_of on both binary_of OpsNot.not_of Arith.whole_of Arith.from_int I.operate I.rem
left-first = (refl, refl)

-- And and Or skip what they need not evaluate, and want Bool on either side
skips : (eval_of [] (binary T.and no kindless) ≡ is (bool false)) × (eval_of [] (binary T.or yes kindless) ≡ is (bool true)) × (eval_of [] (binary T.and yes kindless) ≡ fault wrong_kind) × (eval_of [] (binary T.or no (leaf T.nil)) ≡ fault wrong_kind) × (eval_of [] (binary T.or (leaf T.nil) yes) ≡ fault wrong_kind)
unfolding eval_of leaf_of unary_of on whether test binary_of OpsNot.not_of
skips = (refl, refl, refl, refl, refl)

-- a Ternary evaluates one side
picks : (eval_of [] (ternary yes no kindless) ≡ is (bool false)) × (eval_of [] (ternary no kindless yes) ≡ is (bool true)) × (eval_of [] (ternary (leaf T.nil) yes no) ≡ fault wrong_kind)
unfolding eval_of leaf_of unary_of on whether test OpsNot.not_of
picks = (refl, refl, refl)

-- ---- locals lent: too few before ill-formed, the shorter list counts, and what is beyond the base is not looked at

refusals : (locals_fault 1 [] (9 ∷ []) ≡ Err out_of_range) × (locals_fault 1 (9 ∷ []) (0 ∷ []) ≡ Err ill_formed) × (locals_fault 1 (0 ∷ 9 ∷ []) (0 ∷ []) ≡ Ok tt) × (locals_fault 0 [] [] ≡ Ok tt) × (locals_fault 2 (9 ∷ []) (0 ∷ []) ≡ Err out_of_range)
unfolding locals_fault Faults.fault ◌or_else◌ all_well of_pair
refusals = (refl, refl, refl, refl, refl)
