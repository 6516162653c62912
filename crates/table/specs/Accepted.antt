-- What an accepted table holds: exactly one tree at its last node, and at each node its subtree. `proofs/Whole.antt`, `accepted`, shows it of
-- every table in which the check finds no fault.
use Rattle.std.specs.Prelude.{ℕ, ◌+◌, ◌-◌, ◌≤◌, ◌<◌, ◌≡◌, List}
use Rattle.faults.specs.Limits.{max_nodes, max_depth, max_registers}
use Rattle.table.specs.Table.{node_count, first_at, depth_at}
use Rattle.table.specs.Nodes.{Node}
use Rattle.table.specs.Tree.{Tree, tree, Holds, size, depth, RefsBelow}

-- node i holds one tree and no other; it takes the nodes from `first` to i, has the depth that the table says, and its Refs are below the base
pub record Subtree (ws : List ℕ) (base i : ℕ) : Type 0 where
  pub holds : Holds ws i (tree ws i)
  pub only : (t : Tree) → Holds ws i t → tree ws i ≡ t
  pub sized : size (tree ws i) + first_at ws i ≡ i + 1
  pub deep : depth (tree ws i) ≡ depth_at ws i
  pub refs : RefsBelow base (tree ws i)

-- the whole: the last node's tree has every node, within the limits
pub record Accepted (ws : List ℕ) (params locals : ℕ) : Type 0 where
  pub layout : params + locals ≤ max_registers
  pub some : 0 < node_count ws
  pub few : node_count ws ≤ max_nodes
  pub root : Node ws (params + locals) (node_count ws - 1)
  pub each : (i : ℕ) → i < node_count ws → Subtree ws (params + locals) i
  pub whole : size (tree ws (node_count ws - 1)) ≡ node_count ws
  pub shallow : depth (tree ws (node_count ws - 1)) ≤ max_depth
  pub refs : RefsBelow (params + locals) (tree ws (node_count ws - 1))
