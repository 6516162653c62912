-- A jump list of half as many places as the table has nodes is enough: codegen's `enough`, said of compiling as a whole.
use Rattle.std.specs.Prelude.{Option, Result, Ok, Err}
use Rattle.faults.specs.declared.Fault.{Fault}
use mathlib.Core.Path.{◌≡◌, refl, sym, ◌∙◌}
use mathlib.Core.List.{List}
use Prim.Native.Nat.{ℕ, ◌+◌, ◌-◌, ◌*◌, ◌≤◌}
use Rattle.table.specs.Table.{node_count, check_of}
use Rattle.table.specs.Tree.{tree}
use Rattle.compile.specs.Compile.{generated, accepted, compile_of}
use Rattle.compile.proofs.Entries.{enough}

-- With any two such lists compiling gives the same. For 65,536 nodes 32,768 places are enough.
pub places-enough :
    (ws : List ℕ) (params locals : ℕ) (dest : Option ℕ) (p q cap slot_cap : ℕ) → node_count ws ≤ 2 * p → node_count ws ≤ 2 * q →
    compile_of ws params locals dest p cap slot_cap ≡ compile_of ws params locals dest q cap slot_cap
unfolding compile_of
places-enough ws params locals dest p q cap slot_cap hp hq = go (check_of ws params locals dest) refl
  where
    go :
        (n : Result (Unit {0}) Fault) → check_of ws params locals dest ≡ n →
        accepted n (generated (tree ws (node_count ws - 1)) dest (params + locals) p cap slot_cap) ≡ accepted n (generated (tree ws (node_count ws - 1)) dest (params + locals) q cap slot_cap)
    go (Err f) e = refl
    go (Ok tt) e = enough ws params locals dest p cap slot_cap e hp ∙ sym (enough ws params locals dest q cap slot_cap e hq)
