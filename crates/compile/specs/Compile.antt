-- What compiling a node table makes, or the fault of its refusal. What is answered and left in the lent buffers is in Buffers.
use Rattle.std.specs.Prelude.{List, [], ℕ, ◌+◌, ◌-◌, Option, Some, None, Ok, Err}
use Rattle.faults.specs.Faults.{Checked}
use Rattle.table.specs.Table.{node_count, temp_base_of, check_of}
use Rattle.table.specs.Tree.{Tree, tree}
use Rattle.emit.specs.State.{Res, fail, State}
use Rattle.codegen.specs.Gen.{Value, into_d, gen}

-- nothing is emitted yet, and the first free register is the base
abbrev pub start : ℕ → ℕ → ℕ → State
start cap slot_cap base = record { words = []; cap = cap; slots = []; slot_cap = slot_cap; next = base; frame = base }

abbrev pub dst_of : Option ℕ → Option ℕ
dst_of None = None
dst_of (Some d) = Some d

-- the whole expression, in its destination if it has one
unfoldable pub root_d : Value → Option ℕ → ℕ → State → Res (ℕ × State)
root_d v None room s = v None room s
root_d v (Some d) room s = into_d v d room s

-- a table that the check accepts; temporaries start above the parameters and locals (`Regs::new`)
unfoldable pub generated : Tree → Option ℕ → ℕ → ℕ → ℕ → ℕ → Res (ℕ × State)
generated t dest base room cap slot_cap = root_d (gen t).value (dst_of dest) room (start cap slot_cap (temp_base_of base))

-- the check first, then the first failure in emission order
abbrev pub accepted : Checked → Res (ℕ × State) → Res (ℕ × State)
accepted (Ok t) m = m
accepted (Err f) m = fail f

-- compiling with a jump list of a given room, and lent room for words, and for constants in two lists of which the shorter counts
unfoldable pub compile_of : List ℕ → ℕ → ℕ → Option ℕ → ℕ → ℕ → ℕ → Res (ℕ × State)
compile_of ws params locals dest room cap slot_cap =
    accepted (check_of ws params locals dest) (generated (tree ws (node_count ws - 1)) dest (params + locals) room cap slot_cap)
