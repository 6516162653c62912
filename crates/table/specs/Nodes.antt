-- Plumbing: what functions over a table ask of a node and say of its children. It adds nothing to what 01 says of a table.
use Rattle.std.specs.Prelude.{ℕ, ◌-◌, ◌≤◌, ◌<◌, ◌^◌, ◌≡◌, Bool, true, List, Option, Ok}
use Rattle.faults.specs.Limits.{max_depth}
use Rattle.table.specs.Table.{node_count, kind_at, first_at, depth_at, span_at, children, kind_fault, node_fault, nodes_fault}
use Rattle.table.specs.Complete.{span_depth}

-- i is a node of a table whose nodes were all accepted
pub record Node (ws : List ℕ) (base i : ℕ) : Type 0 where
  pub checked : nodes_fault ws base (node_count ws) ≡ Ok tt
  pub inside : i < node_count ws

-- j is a child of the node i
pub record Child (ws : List ℕ) (base i j : ℕ) : Type 0 where
  pub node : Node ws base j
  pub below : j < i
  pub falls : depth_at ws j < depth_at ws i

-- i is a node of an accepted table, and its kind is at least the lowest
pub record Inner (ws : List ℕ) (i lowest : ℕ) : Type 0 where
  pub base : ℕ
  pub node : Node ws base i
  pub kind : lowest ≤ kind_at ws i

-- r is i's child at the place c
pub record ChildIs (ws : List ℕ) (i c r : ℕ) : Type 0 where
  pub is : r ≡ c
  pub of : (base : ℕ) → Node ws base i → Child ws base i r

-- no node below i begins above itself
pub record Below (ws : List ℕ) (i : ℕ) : Type 0 where
  pub inside : i ≤ node_count ws
  pub low : (j : ℕ) → j < i → first_at ws j ≤ j

-- 64 bits hold the depth
pub record Shallow (s : Option (ℕ × ℕ)) : Type 0 where
  pub fits : span_depth s < 2 ^ 64

-- the node before i, where there is one, has the first e and the depth g
pub record Last (ws : List ℕ) (i e g : ℕ) : Type 0 where
  pub first : 0 < i → e ≡ first_at ws (i - 1)
  pub depth : 0 < i → g ≡ depth_at ws (i - 1)
  pub low : e ≤ i
  pub shallow : g ≤ max_depth

-- the same, and no node below i has a fault
pub record Passed (ws : List ℕ) (base i e g : ℕ) : Type 0 where
  pub inside : i < node_count ws
  pub none : nodes_fault ws base i ≡ Ok tt
  pub last : Last ws i e g

-- of node i's children the first is still to be looked at, which ends just before e; the others have the greatest depth g
pub record Over (ws : List ℕ) (base i e g : ℕ) : Type 0 where
  pub inside : i < node_count ws
  pub none : nodes_fault ws base i ≡ Ok tt
  pub inner : 5 < kind_at ws i
  pub known : kind_at ws i ≤ 26
  pub spans : span_at ws i ≡ children ws 1 e g
  pub low : e ≤ i
  pub shallow : g ≤ max_depth

-- where r is true, node i has no fault
pub record Right (ws : List ℕ) (base i : ℕ) (r : Bool) : Type 0 where
  pub none : r ≡ true → node_fault ws base i ≡ Ok tt

-- where r is true, a leaf of kind k may have the payload p
pub record PayloadRight (k p base : ℕ) (r : Bool) : Type 0 where
  pub known : r ≡ true → kind_fault k p ≡ Ok tt
  pub refers : r ≡ true → k ≡ 5 → p < base
