-- What an operator takes in of a node: the laws of its folds, and of the instruction of two registers.
use Rattle.std.specs.Prelude.{Option, Some, None}
use Rattle.insns.specs.declared.op.Imm16.{Imm16}
use mathlib.Core.Path.{◌≡◌, refl, sym, ap, ◌∙◌}
use mathlib.Core.Bool.{Bool, true, false}
use mathlib.Core.List.{List}
use Prim.Native.Nat.{ℕ, ◌<◌, ◌≤◌}
use native.Mathlib.Omega.{arith as numbers}
use lib.Dec.{eqb, lit≤}
use lib.IntN.{ℤ}
use lib.Signed.{mag}
use borrow.Author.Tests.{eqb-true, eqb-false}
use mir.Syntax.{w64}
use mir.Val.{to_z, of_z}
use Rattle.table.specs.Table.{kind_at, child1, child2}
use Rattle.table.specs.Nodes.{Node, Child, Inner, ChildIs}
use Rattle.table.specs.Tree.{Unary, minus, not', Arith, bit_and, bit_or, bit_xor, lshift, rshift, add, sub, mul, div, mod', Binary, arith, cmp, and, or, Tree, unary, binary_kind, kind_of, tree, arith_code, binary_code}
use Rattle.table.proofs.Arities.{binary-code, cmp-codes}
use Rattle.table.proofs.Trees.{View, is_leaf, is-unary, is-binary, is-ternary, view, BinaryAt, unary-in, unary-at, binary-in, binary-at}
use Rattle.insns.specs.declared.op.Arith.{Arith as ImmArith}
use Rattle.insns.specs.declared.op.Arith.TheVariants.{Plus, Minus, Times}
use Rattle.insns.specs.declared.op.Shift.{Shift}
use Rattle.fold.specs.declared.Tail.{Tail}
use Rattle.fold.specs.Literal.{bit_run, const_of, imm_of, amount_of, amount_lit}
use Rattle.fold.specs.Fold.{shift_by, shifted_by, mask_fold, shift_fold, imm_fold, fold_by, fold_lit, minus_one, takes_shift}
use Rattle.fold.specs.Nodes.{Operator, Operand, op_fold, left_of, operand_of}
use Rattle.fold.proofs.literal.Literals.{held, const-small}
use Rattle.fold.proofs.Folding.{Folding, general, mask, shift-mask, shift-left, shift-right, plus, minus as less, times, folding}
use Rattle.fold.proofs.opcodes.KindLaws.{arith-known}

never : {X : Type 0} → ◌≡◌ {A = ℕ} 0 1 → X
never e = absurd (omega numbers)

-- ---- what a callee asks of a node

module _ {ws : List ℕ} {i lo : ℕ} (h : Inner ws i lo) where
  pub inner-at : {k m need : ℕ} → k ≡ kind_at ws i → k ≡ m → need ≤ m → Inner ws i need
  inner-at e g l = record { base = h.base; node = h.node; kind = omega numbers }

  pub inner-child : {c j : ℕ} → ChildIs ws i c j → Inner ws j 0
  inner-child d = record { base = h.base; node = (d.of _ h.node).node; kind = omega numbers }

module _ {ws : List ℕ} {i : ℕ} (h : Operator ws i) where
  pub operator-1 : Inner ws i 6
  operator-1 = record { base = h.base; node = h.node; kind = h.low }

  pub operator-2 : {k : ℕ} → k ≡ kind_at ws i → (k ≡ 6 → ⊥) → (k ≡ 7 → ⊥) → Inner ws i 8
  operator-2 e f g = record { base = h.base; node = h.node; kind = let l = h.low in up (up l (λ q. f (e ∙ q))) (λ q. g (e ∙ q)) }
    where
      up : {n m : ℕ} → n ≤ m → (m ≡ n → ⊥) → n < m
      up l d = omega numbers

  pub operator-3 : {k : ℕ} → k ≡ kind_at ws i → 7 < k → Inner ws i 8
  operator-3 e g = record { base = h.base; node = h.node; kind = omega numbers }

pub operator-child : {ws : List ℕ} {i c j : ℕ} → Operator ws i → ChildIs ws i c j → Inner ws j 0
operator-child h d = record { base = h.base; node = (d.of _ h.node).node; kind = omega numbers }

pub ruleset asks = (inner-at, inner-child, operator-1, operator-2, operator-3, operator-child, lit≤)

-- ---- a right shift of a literal

module _ {ws : List ℕ} {i : ℕ} (h : Inner ws i 0) {k : ℕ} (e : k ≡ kind_at ws i) where
  shift-by : (o : Binary) (b : Tree) → k ≡ binary_code o → (k ≡ 12 → ⊥) → None ≡ shift_by o b
  unfolding shift_by
  shift-by (arith bit_and) b q g = refl
  shift-by (arith bit_or) b q g = refl
  shift-by (arith bit_xor) b q g = refl
  shift-by (arith lshift) b q g = refl
  shift-by (arith rshift) b q g = absurd (g q)
  shift-by (arith add) b q g = refl
  shift-by (arith sub) b q g = refl
  shift-by (arith mul) b q g = refl
  shift-by (arith div) b q g = refl
  shift-by (arith mod') b q g = refl
  shift-by (cmp c) b q g = refl
  shift-by and b q g = refl
  shift-by or b q g = refl

  pub shift-other : (k ≡ 12 → ⊥) → None ≡ shifted_by (tree ws i)
  unfolding shifted_by
  shift-other g = go _ (view h.node)
    where
      go : (n : ℕ) → View ws h.base i n → None ≡ shifted_by (tree ws i)
      go n (is_leaf f v) = rw v.is
      go n (is-unary o v) = rw v.is
      go n (is-binary o v) = rw v.is (shift-by o _ (e ∙ binary-code (kind_at ws i) o v.kind) g)
      go n (is-ternary v) = rw v.is

  shift-at : k ≡ 12 → shifted_by (tree ws i) ≡ amount_lit (const_of (tree ws (child1 ws i)))
  unfolding shifted_by shift_by kind_of
  shift-at g =
      let twelve : kind_at ws i ≡ 12 = sym e ∙ g in
      let v = binary-at ws h.base i h.node (arith rshift) (rw twelve) in
      rw v.is

  module _ {j : ℕ} {l : Option ℤ} (g : k ≡ 12) (d : ChildIs ws i (child1 ws i) j) (c : l ≡ const_of (tree ws j)) where
    shift_from : amount_lit l ≡ shifted_by (tree ws i)
    shift_from = let p = d.is in ap amount_lit c ∙ sym (shift-at g ∙ ap (λ (x : ℕ). amount_lit (const_of (tree ws x))) (sym p))

    pub shift_none : l ≡ None → None ≡ shifted_by (tree ws i)
    shift_none n = sym (ap amount_lit n) ∙ shift_from

    pub shift-lit : {z : ℤ} {r : Option ℕ} → l ≡ Some z → r ≡ amount_of (to_z w64 (of_z w64 z)) → r ≡ shifted_by (tree ws i)
    shift-lit {z} n q = q ∙ ap amount_of (held z (const-small (tree ws j) (sym c ∙ n))) ∙ sym (ap amount_lit n) ∙ shift_from

-- a node that is shifted by a literal is a right shift
shifted-kind : {ws : List ℕ} {base i n : ℕ} → Node ws base i → shifted_by (tree ws i) ≡ Some n → kind_at ws i ≡ 12
shifted-kind {ws} {base} {i} {n} h e = go (eqb (kind_at ws i) 12) refl
  where
    go : (t : Bool) → eqb (kind_at ws i) 12 ≡ t → kind_at ws i ≡ 12
    go true q = eqb-true (kind_at ws i) 12 q
    go false q = never (let p : None ≡ Some n = shift-other (record { base = base; node = h; kind = omega numbers }) refl (eqb-false (kind_at ws i) 12 q) ∙ e in cc)

-- ---- folds

abbrev shift_code : Shift → ℕ
shift_code Shift.Left = 11
shift_code Shift.Right = 12

abbrev imm_code : ImmArith → ℕ
imm_code Plus = 13
imm_code Minus = 14
imm_code Times = 15

-- the fixnum z on the right
module _ {k : ℕ} (z : ℤ) (f : mag z < 9223372036854775808) {r : Option Tail} where
  pub fold-mask : {a : Option ℕ} {b : Option (ℕ × ℕ)} (s : Option ℕ) → k ≡ 8 → r ≡ mask_fold a b → a ≡ s → b ≡ bit_run (to_z w64 (of_z w64 z)) → (o : Arith) → kind_of k ≡ binary_kind (arith o) → r ≡ fold_by o s z
  unfolding fold_by
  fold-mask s h q c d o e =
      let p = arith-known 8 o h e in
      rw (← p, ← c) (q ∙ ap (mask_fold _) (d ∙ ap bit_run (held z f)))

  pub fold-shift : (sh : Shift) {b : Option ℕ} (s : Option ℕ) → r ≡ shift_fold sh b → k ≡ shift_code sh → b ≡ amount_of (to_z w64 (of_z w64 z)) → (o : Arith) → kind_of k ≡ binary_kind (arith o) → r ≡ fold_by o s z
  unfolding fold_by
  fold-shift sh s q h d o e = q ∙ ap (shift_fold sh) (d ∙ ap amount_of (held z f)) ∙ go sh h
    where
      go : (sh : Shift) → k ≡ shift_code sh → shift_fold sh (amount_of z) ≡ fold_by o s z
      go Shift.Left h = ap (λ (x : Arith). fold_by x s z) (arith-known 11 o h e)
      go Shift.Right h = ap (λ (x : Arith). fold_by x s z) (arith-known 12 o h e)

  pub fold_imm : (a : ImmArith) {b : Option Imm16} (s : Option ℕ) → r ≡ imm_fold a b → k ≡ imm_code a → b ≡ imm_of (to_z w64 (of_z w64 z)) → (o : Arith) → kind_of k ≡ binary_kind (arith o) → r ≡ fold_by o s z
  unfolding fold_by
  fold_imm a s q h d o e = q ∙ ap (imm_fold a) (d ∙ ap imm_of (held z f)) ∙ go a h
    where
      go : (a : ImmArith) → k ≡ imm_code a → imm_fold a (imm_of z) ≡ fold_by o s z
      go Plus h = ap (λ (x : Arith). fold_by x s z) (arith-known 13 o h e)
      go Minus h = ap (λ (x : Arith). fold_by x s z) (arith-known 14 o h e)
      go Times h = ap (λ (x : Arith). fold_by x s z) (arith-known 15 o h e)

pub fold-rest : {k : ℕ} (s : Option ℕ) (z : ℤ) → (k ≡ 8 → ⊥) → (k ≡ 11 → ⊥) → (k ≡ 12 → ⊥) → (k ≡ 13 → ⊥) → (k ≡ 14 → ⊥) → (k ≡ 15 → ⊥) → (o : Arith) → kind_of k ≡ binary_kind (arith o) → None ≡ fold_by o s z
unfolding fold_by
fold-rest {k} s z n8 n11 n12 n13 n14 n15 o e = go o (binary-code k (arith o) e)
  where
    go : (o : Arith) → k ≡ arith_code o → None ≡ fold_by o s z
    go bit_and h = absurd (n8 h)
    go bit_or h = refl
    go bit_xor h = refl
    go lshift h = absurd (n11 h)
    go rshift h = absurd (n12 h)
    go add h = absurd (n13 h)
    go sub h = absurd (n14 h)
    go mul h = absurd (n15 h)
    go div h = refl
    go mod' h = refl

pub ruleset folds = (fold-mask, fold-shift, fold_imm, fold-rest)

-- ---- the operator at a node

module _ {ws : List ℕ} {i : ℕ} (h : Operator ws i) where
  -- past the unary ones all are of two registers
  arith-in : 7 < kind_at ws i → (o : Arith) × BinaryAt ws h.base i (arith o)
  arith-in l = let q = h.high in go (binary-in h.node l (omega numbers))
    where
      go : (o : Binary) × BinaryAt ws h.base i o → (o : Arith) × BinaryAt ws h.base i (arith o)
      go (arith o, v) = (o, v)
      go (cmp c, v) = absurd (let p = binary-code (kind_at ws i) (cmp c) v.kind in let q = cmp-codes c in let u = h.high in omega numbers)
      go (and, v) = absurd (let p = binary-code (kind_at ws i) and v.kind in let u = h.high in omega numbers)
      go (or, v) = absurd (let p = binary-code (kind_at ws i) or v.kind in let u = h.high in omega numbers)

  module _ {k : ℕ} (e : k ≡ kind_at ws i) where
    pub fold-minus : k ≡ 6 → Some minus_one ≡ op_fold (tree ws i)
    unfolding op_fold kind_of
    fold-minus g =
        let six : kind_at ws i ≡ 6 = sym e ∙ g in
        let v = unary-at ws h.base i h.node minus (rw six) in
        rw v.is

    pub fold-not : k ≡ 7 → Some Tail.Not ≡ op_fold (tree ws i)
    unfolding op_fold kind_of
    fold-not g =
        let seven : kind_at ws i ≡ 7 = sym e ∙ g in
        let v = unary-at ws h.base i h.node not' (rw seven) in
        rw v.is

    module _ (n6 : k ≡ 6 → ⊥) (n7 : k ≡ 7 → ⊥) {j : ℕ} {l : Option ℤ} (d : ChildIs ws i (child1 ws i) j) (c : l ≡ const_of (tree ws j)) where
      past : 7 < kind_at ws i
      past = (operator-2 h e n6 n7).kind

      fold-from : (o : Arith) × (kind_of (kind_at ws i) ≡ binary_kind (arith o)) × (op_fold (tree ws i) ≡ fold_lit o (shifted_by (tree ws (child2 ws i))) l)
      unfolding op_fold
      fold-from =
          let v = arith-in past in
          let p = d.is in
          let q : l ≡ const_of (tree ws (child1 ws i)) = rw p at c in
          (v.0, v.1.kind, ap op_fold v.1.is ∙ ap (fold_lit v.0 (shifted_by (tree ws (child2 ws i)))) (sym q))

      pub fold-none : l ≡ None → None ≡ op_fold (tree ws i)
      fold-none n = let v = fold-from in sym (v.2 ∙ ap (fold_lit v.0 _) n)

      pub fold-lit : {z : ℤ} {a : ℕ} {r : Option Tail} → l ≡ Some z → ChildIs ws i (child2 ws i) a
          → ((o : Arith) → kind_of k ≡ binary_kind (arith o) → r ≡ fold_by o (shifted_by (tree ws a)) (to_z w64 (of_z w64 z))) → r ≡ op_fold (tree ws i)
      fold-lit {z} {a} {r} n b q =
          let f = const-small (tree ws j) (sym c ∙ n) in
          let v = fold-from in
          let p = b.is in
          let u : r ≡ fold_by v.0 (shifted_by (tree ws a)) (to_z w64 (of_z w64 z)) = q v.0 (ap kind_of e ∙ v.1) in
          let w : r ≡ fold_by v.0 (shifted_by (tree ws (child2 ws i))) z = rw (p, held z f) at u in
          w ∙ sym (v.2 ∙ ap (fold_lit v.0 _) n)

-- ---- the operand that a fold leaves

plain-tail : {tail u : Tail} {X : Type 0} → Some u ≡ Some tail → takes_shift u ≡ false → takes_shift tail ≡ true → X
plain-tail {tail} {u} e f t = never (let p : tail ≡ u = cc in let q : takes_shift u ≡ true = rw p at t in cc)

-- only a mask takes in a shift, and then there is one
fold-takes : {o : Arith} {s : Option ℕ} {l : Option ℤ} {f : Option Tail} {tail : Tail} → Folding o s l f → f ≡ Some tail → takes_shift tail ≡ true → (n : ℕ) × (s ≡ Some n)
fold-takes general e t = never (cc)
fold-takes (mask r) e t = plain-tail e refl t
fold-takes (shift-mask {k} r) e t = (k, refl)
fold-takes (shift-left r) e t = plain-tail e refl t
fold-takes (shift-right r) e t = plain-tail e refl t
fold-takes (plus r) e t = plain-tail e refl t
fold-takes (less r) e t = plain-tail e refl t
fold-takes (times r) e t = plain-tail e refl t

module _ {ws : List ℕ} {i : ℕ} (h : Operator ws i) {tail : Tail} (into : op_fold (tree ws i) ≡ Some tail) {k : ℕ} (e : k ≡ kind_at ws i) where
  pub operand-one : {j : ℕ} → k ≤ 7 → ChildIs ws i (child1 ws i) j → Operand ws i tail j
  unfolding op_fold
  operand-one {j} l d =
      let v = unary-in h.node h.low (omega numbers) in
      let p = d.is in
      record { is = go v.0 v.1.is p; of = d.of }
    where
      plain : (o : Unary) → tree ws i ≡ unary o (tree ws (child1 ws i)) → takes_shift tail ≡ false
      plain minus q = let z : tail ≡ minus_one = cc (sym into ∙ ap op_fold q) in rw z
      plain not' q = let z : tail ≡ Tail.Not = cc (sym into ∙ ap op_fold q) in rw z

      go : (o : Unary) → tree ws i ≡ unary o (tree ws (child1 ws i)) → j ≡ child1 ws i → tree ws j ≡ operand_of tail (tree ws i)
      go o q p = rw (plain o q, q, p)

  module _ {a : ℕ} (l : 7 < k) (d : ChildIs ws i (child2 ws i) a) where
    left_is : left_of (tree ws i) ≡ tree ws a
    left_is =
        let g : 7 < kind_at ws i = rw e at l in
        let v = arith-in h g in
        let p = d.is in
        rw (v.1.is, p)

    pub operand-left : {t : Bool} → t ≡ takes_shift tail → t ≡ false → Operand ws i tail a
    operand-left q n = let s : takes_shift tail ≡ false = sym q ∙ n in record { is = rw (s, left_is); of = d.of }

    module _ {t : Bool} (q : t ≡ takes_shift tail) (y : t ≡ true) where
      left-node : Node ws h.base a
      left-node = (d.of _ h.node).node

      shift-kind : kind_at ws a ≡ 12
      unfolding op_fold
      shift-kind =
          let g : 7 < kind_at ws i = rw e at l in
          let v = arith-in h g in
          let p = d.is in
          let w = fold-takes (folding v.0 (shifted_by (tree ws (child2 ws i))) (const_of (tree ws (child1 ws i)))) (rw v.1.is at into) (sym q ∙ y) in
          shifted-kind {n = w.0} left-node (rw p w.1)

      pub operand-inner : Inner ws a 8
      operand-inner = record { base = h.base; node = left-node; kind = let s = shift-kind in omega numbers }

      pub operand-shifted : {j : ℕ} → ChildIs ws a (child2 ws a) j → Operand ws i tail j
      operand-shifted {j} c =
          let v = binary-in left-node (let s = shift-kind in omega numbers) (let s = shift-kind in omega numbers) in
          let s : takes_shift tail ≡ true = sym q ∙ y in
          let p = c.is in
          record {
            is = rw (s, left_is, v.1.is, p);
            of = λ base n. below base n;
          }
        where
          below : (base : ℕ) → Node ws base i → Child ws base i j
          below base n =
              let b = d.of base n in
              let f = c.of base b.node in
              record { node = f.node; below = omega numbers; falls = omega numbers }

pub ruleset operands = (operand-one, operand-left, operand-inner, operand-shifted)
