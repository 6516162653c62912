-- What a branch takes in of a node: the laws of comparisons and of their literals.
use Rattle.std.specs.Prelude.{Option, Some, None}
use Rattle.insns.specs.declared.op.Imm16.{Imm16}
use mathlib.Core.Path.{◌≡◌, refl, sym, ap, ◌∙◌}
use mathlib.Core.Bool.{Bool}
use mathlib.Core.List.{List}
use mathlib.Core.Logic.{inl, inr}
use Prim.Native.Nat.{ℕ, ◌<◌, ◌≤◌}
use native.Mathlib.Omega.{arith as numbers}
use borrow.Author.Tests.{le-leb, lt-leb}
use Rattle.table.specs.Table.{kind_at, child1, child2}
use Rattle.table.specs.Nodes.{Inner, ChildIs}
use Rattle.table.specs.Tree.{Cmp, Binary, arith, cmp, and, or, binary_kind, kind_of, tree}
use Rattle.table.proofs.Arities.{binary-code, arith-codes, cmp-codes}
use Rattle.table.proofs.Trees.{View, is_leaf, is-unary, is-binary, is-ternary, view, BinaryAt, binary-in}
use Rattle.insns.specs.declared.op.Cmp.{Cmp as JumpCmp}
use Rattle.insns.specs.declared.op.Imm16.{Imm16 as Imm16s}
use Rattle.fold.specs.declared.How.{How}
use Rattle.fold.specs.Literal.{as_imm16}
use Rattle.fold.specs.Opcodes.{mirror, branch_of}
use Rattle.fold.specs.Fold.{one, compare_pick}
use Rattle.fold.specs.Nodes.{Comparison, TestIs, pick_of}

-- ---- the comparison at a node

module _ {ws : List ℕ} {i : ℕ} (h : Comparison ws i) where
  cmp-in : (c : Cmp) × BinaryAt ws h.base i (cmp c)
  cmp-in = let l = h.low in let q = h.high in go (binary-in h.node (omega numbers) (omega numbers))
    where
      go : (o : Binary) × BinaryAt ws h.base i o → (c : Cmp) × BinaryAt ws h.base i (cmp c)
      go (arith o, v) = absurd (let p = binary-code (kind_at ws i) (arith o) v.kind in let q = arith-codes o in let u = h.low in omega numbers)
      go (cmp c, v) = (c, v)
      go (and, v) = absurd (let p = binary-code (kind_at ws i) and v.kind in let u = h.high in omega numbers)
      go (or, v) = absurd (let p = binary-code (kind_at ws i) or v.kind in let u = h.high in omega numbers)

  module _ {k : ℕ} (e : k ≡ kind_at ws i) (sense : Bool) {a b : ℕ} (da : ChildIs ws i (child2 ws i) a) (db : ChildIs ws i (child1 ws i) b) {right : Option Imm16} (er : right ≡ as_imm16 (tree ws b)) where
    picked : (left : Option Imm16) → left ≡ as_imm16 (tree ws a) → (c : Cmp) × (kind_of k ≡ binary_kind (cmp c)) × (pick_of (tree ws i) sense ≡ compare_pick c (tree ws a) (tree ws b) left right sense)
    unfolding pick_of
    picked left el =
        let v = cmp-in in
        let p = da.is in
        let q = db.is in
        (v.0, rw e v.1.kind, rw (v.1.is, el, er, p, q))

    pub compare-right : {r : JumpCmp} {n : Imm16s} → right ≡ Some n → ((c : Cmp) → kind_of k ≡ binary_kind (cmp c) → r ≡ branch_of c sense)
        → TestIs ws i (Some (a, (How.Imm r n))) (pick_of (tree ws i) sense)
    compare-right {n = n} g f =
        let v = picked (as_imm16 (tree ws a)) refl in
        let w = f v.0 v.1 in
        (v.2 ∙ ap (λ (x : Option Imm16). compare_pick v.0 (tree ws a) (tree ws b) (as_imm16 (tree ws a)) x sense) g ∙ ap (λ (x : JumpCmp). one (tree ws a) (How.Imm x n)) (sym w), inl da.of)

    module _ {left : Option Imm16} (el : left ≡ as_imm16 (tree ws a)) (g : right ≡ None) where
      pair : (c : Cmp) → compare_pick c (tree ws a) (tree ws b) left right sense ≡ compare_pick c (tree ws a) (tree ws b) left None sense
      pair c = ap (λ (x : Option Imm16). compare_pick c (tree ws a) (tree ws b) left x sense) g

      pub compare-left : {r : JumpCmp} {n : Imm16s} → left ≡ Some n → ((c : Cmp) → kind_of k ≡ binary_kind (cmp c) → r ≡ branch_of (mirror c) sense)
          → TestIs ws i (Some (b, (How.Imm r n))) (pick_of (tree ws i) sense)
      compare-left {n = n} q f =
          let v = picked left el in
          let w = f v.0 v.1 in
          (v.2 ∙ pair v.0 ∙ ap (λ (x : Option Imm16). compare_pick v.0 (tree ws a) (tree ws b) x None sense) q ∙ ap (λ (x : JumpCmp). one (tree ws b) (How.Imm x n)) (sym w), inl db.of)

      pub compare-both : left ≡ None → TestIs ws i None (pick_of (tree ws i) sense)
      compare-both q = let v = picked left el in v.2 ∙ pair v.0 ∙ ap (λ (x : Option Imm16). compare_pick v.0 (tree ws a) (tree ws b) x None sense) q

-- ---- what a branch takes in of any node

module _ {ws : List ℕ} {i : ℕ} (h : Inner ws i 0) {k : ℕ} (e : k ≡ kind_at ws i) where
  alone : (sense : Bool) → (18 ≤ k → k ≤ 23 → ⊥) → pick_of (tree ws i) sense ≡ one (tree ws i) (How.Bool sense)
  unfolding pick_of
  alone sense g = go _ (view h.node)
    where
      op : (o : Binary) → BinaryAt ws h.base i o → pick_of (tree ws i) sense ≡ one (tree ws i) (How.Bool sense)
      op (arith o) v = rw v.is
      op (cmp c) v = absurd (let p = binary-code (kind_at ws i) (cmp c) v.kind in let q = cmp-codes c in g (omega numbers) (omega numbers))
      op and v = rw v.is
      op or v = rw v.is

      go : (n : ℕ) → View ws h.base i n → pick_of (tree ws i) sense ≡ one (tree ws i) (How.Bool sense)
      go n (is_leaf f v) = rw v.is
      go n (is-unary o v) = rw v.is
      go n (is-binary o v) = op o v
      go n (is-ternary v) = rw v.is

  pub test_low : (sense : Bool) → k < 18 → TestIs ws i (Some (i, (How.Bool sense))) (pick_of (tree ws i) sense)
  test_low sense l =
      let q : kind_at ws i < 18 = rw e at l in
      (alone sense (λ a b. omega numbers), inr (refl, rw (lt-leb 18 (kind_at ws i) q)))

  pub test-high : (sense : Bool) → 23 < k → TestIs ws i (Some (i, (How.Bool sense))) (pick_of (tree ws i) sense)
  test-high sense l =
      let q : 23 < kind_at ws i = rw e at l in
      (alone sense (λ a b. omega numbers), inr (refl, rw (le-leb 18 (kind_at ws i) (omega numbers), lt-leb (kind_at ws i) 23 q)))

  pub test-compare : 18 ≤ k → k ≤ 23 → Comparison ws i
  test-compare l g = record { base = h.base; node = h.node; low = omega numbers; high = omega numbers }

pub ruleset tests = (test_low, test-high, test-compare)
