-- A sample table of records, computed from the definitions alone.
use Rattle.std.specs.Prelude.{Some, None, Ok, Err}
use mathlib.Core.Path.{◌≡◌, refl}
use mathlib.Core.List.{List, [], ◌∷◌}
use Prim.Native.Nat.{ℕ}
use Rattle.faults.specs.Faults.{fault, ◌or_else◌}
use Rattle.faults.specs.Numbers.{bad_shape, not_local, no_room}
use Rattle.table.specs.Table.{arity, children, span_fault, node_fault, nodes_fault, shape_fault, layout_fault, dest_fault, last_fault, check_of}
use Rattle.records.specs.Records.{room_fault, flat, holding, flattened, check_nodes}
use Rattle.records.specs.declared.Node.{Node}

abbrev node : ℕ → ℕ → ℕ → ℕ → Node
node k p f d = record { kind = k; payload = p; first = f; depth = d }

-- a + 5
sum : List Node
sum = node 5 0 0 1 ∷ node 3 5 1 1 ∷ node 13 0 0 2 ∷ []

-- with room for its twelve words it has the word table's answer, with less 7; no record at all is 1
numbers : (check_nodes sum 12 1 0 None ≡ Ok tt) × (check_nodes sum 12 1 0 (Some 1) ≡ Err not_local) × (check_nodes sum 11 1 0 None ≡ Err no_room) × (check_nodes [] 0 1 0 None ≡ Err bad_shape)
unfolding sum check_nodes flat room_fault check_of shape_fault layout_fault dest_fault nodes_fault node_fault span_fault children arity last_fault fault ◌or_else◌
numbers = (refl, refl, refl, refl)

-- the words lent: the records' words and what stood after them, or all as it was
words : (flattened sum (9 ∷ 9 ∷ 9 ∷ 9 ∷ 9 ∷ 9 ∷ 9 ∷ 9 ∷ 9 ∷ 9 ∷ 9 ∷ 9 ∷ 8 ∷ []) ≡ 5 ∷ 0 ∷ 0 ∷ 1 ∷ 3 ∷ 5 ∷ 1 ∷ 1 ∷ 13 ∷ 0 ∷ 0 ∷ 2 ∷ 8 ∷ []) × (flattened sum (9 ∷ 8 ∷ []) ≡ 9 ∷ 8 ∷ [])
unfolding sum flattened holding flat room_fault fault ◌or_else◌
words = (refl, refl)
