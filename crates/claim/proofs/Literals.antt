-- The slots that a table's tree can take are no more than the table has literals.
use mathlib.Core.Path.{◌≡◌, ap, subst}
use mathlib.Core.Bool.{Bool, true, false, cond}
use mathlib.Core.List.{List}
use Prim.Native.Nat.{ℕ, zero, suc, ◌+◌, ◌≤◌}
use native.Mathlib.Omega.{arith}
use lib.Dec.{eqb}
use Rattle.table.specs.Table.{kind_at, payload_at, first_at, child1, child2, child3}
use Rattle.table.specs.Nodes.{Node, Child}
use Rattle.table.specs.Tree.{Leaf, Kind, leaf_kind, unary_kind, binary_kind, ternary_kind, no_kind, kind_of, tree}
use Rattle.table.proofs.Arities.{at-kind}
use Rattle.table.proofs.Trees.{View, is_leaf, is-unary, is-binary, is-ternary, view}
use Rattle.table.proofs.Held.{by-depth}
use Rattle.claim.specs.Refusals.{is_literal, literals}
use Rattle.claim.proofs.fragments.Needs.{leaf_slots, needs}

either : (t : Bool) {n : ℕ} → n ≤ 1 → cond t 1 n ≤ 1
either true h = omega arith
either false h = h

pub few-literals : (ws : List ℕ) (n : ℕ) → literals ws n ≤ n
unfolding literals
few-literals ws zero = omega arith
few-literals ws (suc n) = omega (arith, few-literals ws n, at_most (kind_at ws n))
  where
    at_most : (k : ℕ) → is_literal k ≤ 1
    at_most k = either (eqb k 3) (either (eqb k 4) (omega arith))

-- a leaf that takes a slot is a literal
Slotted : ℕ → Kind → Type 0
Slotted k (leaf_kind f) = (p : ℕ) → leaf_slots (f p) ≤ is_literal k
Slotted k (unary_kind o) = Unit {0}
Slotted k (binary_kind o) = Unit {0}
Slotted k ternary_kind = Unit {0}
Slotted k no_kind = Unit {0}

slotted : (k : ℕ) (f : ℕ → Leaf) → kind_of k ≡ leaf_kind f → (p : ℕ) → leaf_slots (f p) ≤ is_literal k
unfolding Slotted
slotted k f e =
    subst (Slotted k) e
    (at-kind Slotted (λ j l. tt)
    (λ p. omega arith, (λ p. omega arith, (λ p. omega arith, (λ p. omega arith, (λ p. omega arith, (λ p. omega arith, omega arith)))))) k)

module _ (ws : List ℕ) (base : ℕ) where
  -- the nodes of i's subtree are those from its first up to i
  Counted : ℕ → Type 0
  Counted i = (needs (tree ws i)).slots + literals ws (first_at ws i) ≤ literals ws (suc i)

  counted_step : (i : ℕ) → Node ws base i → ((j : ℕ) → Child ws base i j → Counted j) → Counted i
  unfolding Counted needs literals
  counted_step i n ih = go (view n)
    where
      go : {a : ℕ} → View ws base i a → Counted i
      go (is_leaf f v) = rw v.is (omega (arith, slotted (kind_at ws i) f v.kind (payload_at ws i), ap (literals ws) v.at.first))
      go (is-unary o v) =
          let a = v.at in
          let x = ih _ a.last in
          let e : suc (child1 ws i) ≡ i = omega arith in
          rw v.is (omega (arith, ap (literals ws) e, ap (literals ws) a.first))
      go (is-binary o v) =
          let a = v.at in
          let x = ih _ a.left in
          let y = ih _ a.right in
          let e : suc (child1 ws i) ≡ i = omega arith in
          let d : suc (child2 ws i) ≡ first_at ws (child1 ws i) = omega arith in
          rw v.is (omega (arith, ap (literals ws) e, ap (literals ws) d, ap (literals ws) a.first))
      go (is-ternary v) =
          let a = v.at in
          let x = ih _ a.test in
          let y = ih _ a.yes in
          let z = ih _ a.no in
          let e : suc (child1 ws i) ≡ i = omega arith in
          let d : suc (child2 ws i) ≡ first_at ws (child1 ws i) = omega arith in
          let c : suc (child3 ws i) ≡ first_at ws (child2 ws i) = omega arith in
          rw v.is (omega (arith, ap (literals ws) e, ap (literals ws) d, ap (literals ws) c, ap (literals ws) a.first))

  pub tree-literals : (i : ℕ) → Node ws base i → (needs (tree ws i)).slots ≤ literals ws (suc i)
  unfolding Counted
  tree-literals i n = omega (arith, by-depth ws base Counted counted_step i n)
