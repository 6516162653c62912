-- Plumbing: what the contracts of the routines inside `compile` ask and say. The meaning is in Compile and Buffers.
use Rattle.std.specs.Prelude.{List, ◌++◌, ℕ, ◌+◌, ◌-◌, ◌≤◌, min, length, take, replicate, Option, Some, None, Result}
use Rattle.faults.specs.declared.Fault.{Fault}
use Rattle.faults.specs.Limits.{max_nodes, max_registers}
use Rattle.table.specs.Table.{node_count}
use Rattle.table.specs.Nodes.{Node}
use Rattle.table.specs.Tree.{tree}
use Rattle.compile.specs.declared.buffers.Compiled.{Compiled}
use Rattle.compile.specs.Compile.{generated}
use Rattle.compile.specs.Buffers.{Compiles}

-- ---- the whole expression

-- the last node is a node of an accepted table, whose registers are below 65,536
pub record Root (t : List ℕ) : Type 0 where
  pub base : ℕ
  pub node : Node t base (node_count t - 1)
  pub low : base ≤ max_registers

-- a destination is a register
abbrev pub IsRegister : Option ℕ → Type 0
IsRegister None = Unit {0}
IsRegister (Some r) = r ≤ max_registers

-- ---- the buffers

-- zeros from a place on
abbrev pub zeroed : (from : ℕ) → List ℕ → List ℕ
zeroed from l = take from l ++ replicate {A = ℕ} (length l - from) 0

-- what a checked table leaves in buffers of these lengths, with any jump list that does not run out
abbrev pub Leaves : Result Compiled Fault → List ℕ → ℕ → ℕ → Option ℕ → List ℕ → List ℕ → List ℕ → ℕ → ℕ → ℕ → Type 0
Leaves q ws params locals dest c k p lc lk lp =
    Compiles q (generated (tree ws (node_count ws - 1)) dest (params + locals) max_nodes lc (min lk lp)) c k p lc lk lp
