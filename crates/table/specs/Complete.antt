-- The first and depth of every node, filled in by document 01: "`first` is the lowest node of the subtree, `depth` is 1 for a leaf, else one more than the
-- deepest child". All other words stay: kinds, payloads, and those after the last whole node.
use Rattle.std.specs.Prelude.{ℕ, zero, suc, ◌+◌, ◌*◌, ◌≤◌, ◌<◌, ◌≡◌, List, length, get_or, set, Option, Some, None}
use Rattle.table.specs.Table.{node_count, kind_at, payload_at, first_at, depth_at, span_at}

-- what a node's children give it. A leaf i has none, so they cover nothing: its first is i, and its depth 0 + 1.
-- Where a child is missing both are 0; no depth is 0, so the check refuses that node.
unfoldable pub span_first : Option (ℕ × ℕ) → ℕ
span_first None = 0
span_first (Some (lowest, deepest)) = lowest

unfoldable pub span_depth : Option (ℕ × ℕ) → ℕ
span_depth None = 0
span_depth (Some (lowest, deepest)) = deepest + 1

-- node i, whose children stand before it
unfoldable pub complete_node : List ℕ → ℕ → List ℕ
complete_node ws i = set (set ws (4 * i + 2) (span_first (span_at ws i))) (4 * i + 3) (span_depth (span_at ws i))

-- the nodes below n, from 0 upward
unfoldable pub complete_below : List ℕ → ℕ → List ℕ
complete_below ws zero = ws
complete_below ws (suc n) = complete_node (complete_below ws n) n

abbrev pub complete_of : List ℕ → List ℕ
complete_of ws = complete_below ws (node_count ws)

-- The same, read off the table vs that ws becomes: every node has the first and depth that its children in vs give it.
-- `proofs/complete/Laws` shows it of every table (`completed`), and that a table which the check accepts stays as it is (`accepted-stays`).
pub record Completed (ws vs : List ℕ) : Type 0 where
  pub long : length vs ≡ length ws
  pub kinds : (i : ℕ) → kind_at vs i ≡ kind_at ws i
  pub payloads : (i : ℕ) → payload_at vs i ≡ payload_at ws i
  pub firsts : (i : ℕ) → i < node_count vs → first_at vs i ≡ span_first (span_at vs i)
  pub depths : (i : ℕ) → i < node_count vs → depth_at vs i ≡ span_depth (span_at vs i)
  pub rest : (k : ℕ) → 4 * node_count vs ≤ k → get_or vs k 0 ≡ get_or ws k 0
