-- The generator's rules of a tree, by what one instruction takes in of it.
use Rattle.std.specs.Prelude.{Option, Some, None}
use Rattle.insns.specs.declared.op.Imm16.{Imm16}
use mathlib.Core.Path.{◌≡◌, refl, sym, ap}
use mathlib.Core.Bool.{Bool}
use Prim.Native.Nat.{ℕ}
use native.Mathlib.Omega.{arith as numbers}
use Rattle.table.specs.Tree.{minus, not', Arith, Cmp, Binary, arith, cmp, and, or, Tree, leaf, unary, binary, ternary}
use Rattle.fold.specs.declared.Tail.{Tail}
use Rattle.fold.specs.declared.How.{How}
use Rattle.emit.specs.State.{State}
use Rattle.fold.specs.Fold.{fold_of, one, two, compare_pick}
use Rattle.fold.specs.Nodes.{op_fold, left_of, operand_of, pick_of}
use Rattle.fold.specs.Opcodes.{three_of, branch_of}
use Rattle.fold.specs.Literal.{as_imm16}
use Rattle.codegen.specs.Gen.{Value, gen, one_v, two_v, operand, binary_v, one_b, pair_b, compare_b}

-- `first` is the left operand's value
pub first-is : (t : Tree) → (gen t).first ≡ (gen (left_of t)).value
unfolding gen
first-is (leaf l) = refl
first-is (unary minus a) = refl
first-is (unary not' a) = refl
first-is (binary (arith o) a b) = refl
first-is (binary (cmp c) a b) = refl
first-is (binary and a b) = refl
first-is (binary or a b) = refl
first-is (ternary c a b) = refl

-- the operand that a fold leaves
operand-is : (tail : Tail) (a b : Tree) (o : Binary) → operand tail (gen a).value (gen a).first ≡ (gen (operand_of tail (binary o a b))).value
operand-is Tail.Not a b o = refl
operand-is (Tail.Imm k n) a b o = refl
operand-is (Tail.Shift k n) a b o = refl
operand-is (Tail.Mask lo len) a b o = refl
operand-is (Tail.ShiftMask k lo len) a b o = first-is a

module _ (dst : Option ℕ) (room : ℕ) (s : State) where
  -- an operator that takes in all but one operand
  folds : (tail : Tail) (t u : Tree) → (gen u).value ≡ one_v tail (gen t).value → one_v tail (gen t).value dst room s ≡ (gen u).value dst room s
  folds tail t u e = ap (λ (v : Value). v dst room s) (sym e)

  fold-of-binary : (tail : Tail) (o : Arith) (a b : Tree) (f : Option Tail) → f ≡ Some tail →
      one_v tail (gen (operand_of tail (binary (arith o) a b))).value dst room s ≡ binary_v f (three_of o) (gen a).value (gen a).first (gen b).value dst room s
  unfolding binary_v
  fold-of-binary tail o a b f e = rw (e, operand-is tail a b (arith o))

  pub fold_is : (t : Tree) {tail : Tail} → op_fold t ≡ Some tail → one_v tail (gen (operand_of tail t)).value dst room s ≡ (gen t).value dst room s
  unfolding gen op_fold
  fold_is (leaf l) e = absurd (let z : ◌≡◌ {A = ℕ} 0 1 = cc in omega numbers)
  fold_is (unary minus a) e = rw (into-is e)
    where
      into-is : {a b : Tail} → Some a ≡ Some b → b ≡ a
      into-is e = cc
  fold_is (unary not' a) e = rw (into-is e)
    where
      into-is : {a b : Tail} → Some a ≡ Some b → b ≡ a
      into-is e = cc
  fold_is (binary (arith o) a b) {tail} e = fold-of-binary tail o a b (fold_of o a b) e
  fold_is (binary (cmp c) a b) e = absurd (let z : ◌≡◌ {A = ℕ} 0 1 = cc in omega numbers)
  fold_is (binary and a b) e = absurd (let z : ◌≡◌ {A = ℕ} 0 1 = cc in omega numbers)
  fold_is (binary or a b) e = absurd (let z : ◌≡◌ {A = ℕ} 0 1 = cc in omega numbers)
  fold_is (ternary c a b) e = absurd (let z : ◌≡◌ {A = ℕ} 0 1 = cc in omega numbers)

  -- one that takes in nothing
  pub general-is : (o : Arith) (a b : Tree) → fold_of o a b ≡ None → two_v (three_of o) (gen a).value (gen b).value dst room s ≡ (gen (binary (arith o) a b)).value dst room s
  unfolding gen binary_v
  general-is o a b e = rw e

module _ (room : ℕ) (s : State) where
  one-is : {t u : Tree} {h how : How} → one t h ≡ one u how → one_b how (gen u).value room s ≡ one_b h (gen t).value room s
  one-is {t} {u} {h} {how} e =
      let p : u ≡ t = cc in
      let q : how ≡ h = cc in
      rw (p, q)

  compare-one : (c : Cmp) (a b : Tree) (l r : Option Imm16) (sense : Bool) {u : Tree} {how : How} → compare_pick c a b l r sense ≡ one u how →
      one_b how (gen u).value room s ≡ compare_b c l r (gen a).value (gen b).value sense room s
  unfolding compare_b
  compare-one c a b l (Some n) sense e = one-is e
  compare-one c a b (Some n) None sense e = one-is e
  compare-one c a b None None sense e = absurd (let z : ◌≡◌ {A = ℕ} 0 1 = cc in omega numbers)

  compare-both : (c : Cmp) (a b : Tree) (l r : Option Imm16) (sense : Bool) → compare_pick c a b l r sense ≡ two →
      pair_b (branch_of c sense) (gen a).value (gen b).value room s ≡ compare_b c l r (gen a).value (gen b).value sense room s
  unfolding compare_b
  compare-both c a b l (Some n) sense e = absurd (let z : ◌≡◌ {A = ℕ} 0 1 = cc in omega numbers)
  compare-both c a b (Some n) None sense e = absurd (let z : ◌≡◌ {A = ℕ} 0 1 = cc in omega numbers)
  compare-both c a b None None sense e = refl

  -- a tree whose branch is not made of others' branches
  abbrev pub Alone : Tree → Type 0
  Alone (leaf l) = Unit {0}
  Alone (unary minus a) = Unit {0}
  Alone (unary not' a) = ⊥
  Alone (binary (arith o) a b) = Unit {0}
  Alone (binary (cmp c) a b) = Unit {0}
  Alone (binary and a b) = ⊥
  Alone (binary or a b) = ⊥
  Alone (ternary c a b) = Unit {0}

  pub pick-one : (t : Tree) (sense : Bool) {u : Tree} {how : How} → Alone t → pick_of t sense ≡ one u how → one_b how (gen u).value room s ≡ (gen t).branch sense room s
  unfolding gen pick_of
  pick-one (leaf l) sense al e = one-is e
  pick-one (unary minus a) sense al e = one-is e
  pick-one (unary not' a) sense al e = absurd al
  pick-one (binary (arith o) a b) sense al e = one-is e
  pick-one (binary (cmp c) a b) sense al e = compare-one c a b (as_imm16 a) (as_imm16 b) sense e
  pick-one (binary and a b) sense al e = absurd al
  pick-one (binary or a b) sense al e = absurd al
  pick-one (ternary c a b) sense al e = one-is e

  pub pick-both : (c : Cmp) (a b : Tree) (sense : Bool) → pick_of (binary (cmp c) a b) sense ≡ two →
      pair_b (branch_of c sense) (gen a).value (gen b).value room s ≡ (gen (binary (cmp c) a b)).branch sense room s
  unfolding gen pick_of
  pick-both c a b sense e = compare-both c a b (as_imm16 a) (as_imm16 b) sense e
