-- Sample tables, computed from the definitions alone.
use Rattle.std.specs.Prelude.{Some, None, Ok, Err}
use mathlib.Core.Path.{◌≡◌, refl}
use mathlib.Core.List.{List, [], ◌∷◌}
use Prim.Native.Nat.{ℕ}
use lib.IntN.{pos}
use Rattle.faults.specs.Faults.{fault, ◌or_else◌}
use Rattle.faults.specs.Numbers.{not_local, no_register}
use Rattle.table.specs.Table.{arity, children, span_fault, node_fault, nodes_fault, shape_fault, layout_fault, dest_fault, last_fault, check_of}
use Rattle.table.specs.Tree.{leaf, binary, ternary, ref, int, arith, add, cmp, lt, kind_of, build, tree_at, tree}

-- a + 5
sum : List ℕ
sum = 5 ∷ 0 ∷ 0 ∷ 1 ∷ 3 ∷ 5 ∷ 1 ∷ 1 ∷ 13 ∷ 0 ∷ 0 ∷ 2 ∷ []

-- a < b ? 1 : 2
pick : List ℕ
pick = 5 ∷ 0 ∷ 0 ∷ 1 ∷ 5 ∷ 1 ∷ 1 ∷ 1 ∷ 20 ∷ 0 ∷ 0 ∷ 2 ∷ 3 ∷ 1 ∷ 3 ∷ 1 ∷ 3 ∷ 2 ∷ 4 ∷ 1 ∷ 26 ∷ 0 ∷ 0 ∷ 3 ∷ []

numbers : (check_of sum 1 0 None ≡ Ok tt) × (check_of sum 0 0 None ≡ Err not_local) × (check_of sum 1 0 (Some 1) ≡ Err not_local) × (check_of pick 1 1 None ≡ Ok tt) × (check_of pick 65535 1 None ≡ Err no_register)
unfolding sum pick check_of shape_fault layout_fault dest_fault nodes_fault node_fault span_fault children arity last_fault fault ◌or_else◌
numbers = (refl, refl, refl, refl, refl)

trees : (tree sum 2 ≡ binary (arith add) (leaf (ref 0)) (leaf (int (pos 5)))) × (tree pick 5 ≡ ternary (binary (cmp lt) (leaf (ref 0)) (leaf (ref 1))) (leaf (int (pos 1))) (leaf (int (pos 2))))
unfolding sum pick tree tree_at build kind_of
trees = (refl, refl)
