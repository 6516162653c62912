-- What the tests of a literal have to show: its size, its bits, the literal at a node.
use Rattle.std.specs.Prelude.{Option, Some, None}
use mathlib.Core.Path.{◌≡◌, refl, sym, ap, subst, ◌∙◌}
use mathlib.Core.Bool.{Bool, true, false, cond, ◌&&◌}
use mathlib.Core.List.{List}
use Prim.Native.Nat.{ℕ, zero, suc, ◌+◌, ◌-◌, ◌/◌, ◌%◌, ◌<◌, ◌≤◌, ◌^◌}
use native.Mathlib.Nat.{pow-succ'}
use native.Mathlib.Omega.{arith}
use lib.Dec.{T, eqb}
use lib.Count.{count_trailing_zeros, under}
use lib.IntN.{ℤ, pos, negsuc, nat_abs}
use lib.Signed.{mag, le_z, non_neg}
use mir.Syntax.{w64}
use mir.Val.{Fits, to_z, of_z}
use borrow.Author.Tests.{ltb-true, leb-true, eq-eqb, ne_eqb, le-leb, lt-leb}
use Rattle.table.specs.Table.{kind_at, payload_at}
use Rattle.table.specs.Nodes.{Inner}
use Rattle.table.specs.Tree.{int, Tree, leaf, Kind, leaf_kind, unary_kind, binary_kind, ternary_kind, no_kind, kind_of, tree}
use Rattle.table.proofs.Arities.{at-kind}
use Rattle.table.proofs.Trees.{View, is_leaf, is-unary, is-binary, is-ternary, view, leaf-at}
use Rattle.std.proofs.lemmas.Nat.{shr_le}
use Rattle.insns.proofs.bits.Sign.{back}
use Rattle.fold.specs.Literal.{is_fixnum, fixnum, bits, run_at, run_from, bit_run, lit_of, const_of}

never : {X : Type 0} → true ≡ false → X
never e = absurd (let z : ◌≡◌ {A = ℕ} 0 1 = cc in omega arith)

-- ---- a number of 64 bits is handed on by its pattern

pub held : (z : ℤ) → mag z < 9223372036854775808 → to_z w64 (of_z w64 z) ≡ z
held z f = back w64 z f

-- ---- the bits that stand first in a number

-- std counts the same: a trailing zero is a bit equal to 0
pub zeros-are-bits : (f n : ℕ) → count_trailing_zeros f n ≡ bits 0 f n
unfolding bits count_trailing_zeros
zeros-are-bits zero n = refl
zeros-are-bits (suc f) n = go (n % 2) (zeros-are-bits f (n / 2))
  where
    go : (d : ℕ) {t u : ℕ} → t ≡ u → under d t ≡ cond (eqb d 0) (suc u) 0
    go zero e = ap suc e
    go (suc d) e = rw (ne_eqb (suc d) 0 (λ z. omega arith))

-- and a trailing one is a trailing zero of the complement
pub ones-are-bits : (f n : ℕ) → n < 2 ^ f → count_trailing_zeros f (2 ^ f - 1 - n) ≡ bits 1 f n
unfolding bits count_trailing_zeros
ones-are-bits zero n h = refl
ones-are-bits (suc f) n h =
    let q = pow-succ' 2 f in
    let half : (2 ^ suc f - 1 - n) / 2 ≡ 2 ^ f - 1 - n / 2 = omega arith in
    let odd : (2 ^ suc f - 1 - n) % 2 ≡ 1 - n % 2 = omega arith in
    let small : n % 2 < 2 = omega arith in
    rw (half, odd) (go (n % 2) small (ones-are-bits f (n / 2) (omega arith)))
  where
    go : (d : ℕ) → d < 2 → {t u : ℕ} → t ≡ u → under (1 - d) t ≡ cond (eqb d 1) (suc u) 0
    go zero l e = refl
    go (suc zero) l e = ap suc e
    go (suc (suc d)) l e = absurd (omega arith)

pub bits-le : (b f m : ℕ) → bits b f m ≤ f
unfolding bits
bits-le b zero m = omega arith
bits-le b (suc f) m = go (eqb (m % 2) b) (bits-le b f (m / 2))
  where
    go : (t : Bool) {n : ℕ} → n ≤ f → cond t (suc n) 0 ≤ suc f
    go true l = omega arith
    go false l = omega arith

pub bits_small : (b m : ℕ) {n : ℕ} → n ≡ bits b 64 m → n ≤ 64
bits_small b m e = let l = bits-le b 64 m in omega arith

-- ---- one run of ones

no_run : {A : Type 0} (t : Bool) (a b : A) → cond (t && false) a b ≡ b
no_run true a b = refl
no_run false a b = refl

module _ (z : ℤ) (f : mag z < 9223372036854775808) where
  pub run_none : le_z (to_z w64 (of_z w64 z)) (pos 0) ≡ true → None ≡ bit_run z
  unfolding bit_run
  run_none h = go z (rw (held z f) at h)
    where
      go : (y : ℤ) → le_z y (pos 0) ≡ true → None ≡ bit_run y
      go (pos n) e = let l : n ≡ 0 = omega (arith, leb-true n 0 e) in rw (eq-eqb n 0 l)
      go (negsuc n) e = refl

  module _ (h : le_z (to_z w64 (of_z w64 z)) (pos 0) ≡ false) where
    pub run-cast : T (non_neg (to_z w64 (of_z w64 z))) × Fits w64 (nat_abs (to_z w64 (of_z w64 z)))
    run-cast = rw (held z f) (go z f (rw (held z f) at h))
      where
        go : (y : ℤ) → mag y < 9223372036854775808 → le_z y (pos 0) ≡ false → T (non_neg y) × Fits w64 (nat_abs y)
        go (pos n) g e = (tt, record { fits = omega arith })
        go (negsuc n) g e = never e

    pub ones-of : (k : ℕ) {len : ℕ} → len ≡ count_trailing_zeros 64 (2 ^ 64 - 1 - nat_abs (to_z w64 (of_z w64 z)) / 2 ^ k)
        → len ≡ bits 1 64 (nat_abs (to_z w64 (of_z w64 z)) / 2 ^ k)
    ones-of k e =
        let s = run-cast.1.fits in
        let l = shr_le (nat_abs (to_z w64 (of_z w64 z))) k in
        e ∙ ones-are-bits 64 _ (omega arith)

    run_is : run_from (nat_abs (to_z w64 (of_z w64 z))) (bits 0 64 (nat_abs (to_z w64 (of_z w64 z)))) ≡ bit_run z
    unfolding bit_run
    run_is = rw (held z f) (go z (rw (held z f) at h))
      where
        go : (y : ℤ) → le_z y (pos 0) ≡ false → run_from (nat_abs y) (bits 0 64 (nat_abs y)) ≡ bit_run y
        go (pos zero) e = never e
        go (pos (suc n)) e = rw (ne_eqb (suc n) 0 (λ q. omega arith))
        go (negsuc n) e = never e

    module _ {lo : ℕ} (e : lo ≡ bits 0 64 (nat_abs (to_z w64 (of_z w64 z)))) where
      pub run-low : 62 < lo → None ≡ bit_run z
      unfolding run_from run_at
      run-low l = sym (sym run_is ∙ rw (← e, lt-leb (lo + bits 1 64 (nat_abs (to_z w64 (of_z w64 z)) / 2 ^ lo)) 62 (omega arith)) (no_run (eqb (nat_abs (to_z w64 (of_z w64 z)) / 2 ^ lo / 2 ^ bits 1 64 (nat_abs (to_z w64 (of_z w64 z)) / 2 ^ lo)) 0) (Some (lo, (bits 1 64 (nat_abs (to_z w64 (of_z w64 z)) / 2 ^ lo)))) None))

      module _ {len : ℕ} (g : len ≡ bits 1 64 (nat_abs (to_z w64 (of_z w64 z)) / 2 ^ lo)) where
        pub run_long : 62 < lo + len → None ≡ bit_run z
        unfolding run_from run_at
        run_long l = sym (sym run_is ∙ rw (← e, ← g, lt-leb (lo + len) 62 l) (no_run (eqb (nat_abs (to_z w64 (of_z w64 z)) / 2 ^ lo / 2 ^ len) 0) (Some (lo, len)) None))

        pub run-above : (nat_abs (to_z w64 (of_z w64 z)) / 2 ^ lo / 2 ^ len ≡ 0 → ⊥) → None ≡ bit_run z
        unfolding run_from run_at
        run-above n = sym (sym run_is ∙ rw (← e, ← g, ne_eqb (nat_abs (to_z w64 (of_z w64 z)) / 2 ^ lo / 2 ^ len) 0 n))

        pub run-ones : lo + len ≤ 62 → nat_abs (to_z w64 (of_z w64 z)) / 2 ^ lo / 2 ^ len ≡ 0 → Some (lo, len) ≡ bit_run z
        unfolding run_from run_at
        run-ones l n = sym (sym run_is ∙ rw (← e, ← g, eq-eqb (nat_abs (to_z w64 (of_z w64 z)) / 2 ^ lo / 2 ^ len) 0 n, le-leb (lo + len) 62 l))

-- ---- the literal at a node

module _ {ws : List ℕ} {i : ℕ} (h : Inner ws i 0) {k : ℕ} (e : k ≡ kind_at ws i) where
  pub lit_is : {p : ℕ} {z : ℤ} → k ≡ 3 → p ≡ payload_at ws i → z ≡ to_z w64 p → mag z < 9223372036854775808 → Some (to_z w64 (of_z w64 z)) ≡ lit_of (tree ws i)
  unfolding lit_of kind_of
  lit_is {z = z} g q r f =
      let three : kind_at ws i ≡ 3 = sym e ∙ g in
      let v = leaf-at ws h.base i h.node (λ (p : ℕ). int (to_z w64 p)) (rw three) in
      rw (v.is, held z f) (ap Some (r ∙ ap (to_z w64) q))

  lit-rule : ℕ → Kind → Type 0
  lit-rule k (leaf_kind f) = (k ≡ 3 → ⊥) → (p : ℕ) → None ≡ lit_of (leaf (f p))
  lit-rule k (unary_kind o) = Unit {0}
  lit-rule k (binary_kind o) = Unit {0}
  lit-rule k ternary_kind = Unit {0}
  lit-rule k no_kind = Unit {0}

  pub lit-not : (k ≡ 3 → ⊥) → None ≡ lit_of (tree ws i)
  unfolding lit_of lit-rule
  lit-not g = go _ (view h.node)
    where
      rule : lit-rule (kind_at ws i) (kind_of (kind_at ws i))
      rule = at-kind lit-rule (λ j l. tt) (λ h p. refl, (λ h p. refl, (λ h p. refl, (λ h p. absurd (h refl), (λ h p. refl, (λ h p. refl, omega arith)))))) (kind_at ws i)

      go : (n : ℕ) → View ws h.base i n → None ≡ lit_of (tree ws i)
      go n (is_leaf f v) = rw v.is (subst (lit-rule (kind_at ws i)) v.kind rule (λ q. g (e ∙ q)) _)
      go n (is-unary o v) = rw v.is
      go n (is-binary o v) = rw v.is
      go n (is-ternary v) = rw v.is

-- a constant is a fixnum, so 64 bits hold it
pub const-small : (t : Tree) {z : ℤ} → const_of t ≡ Some z → mag z < 9223372036854775808
const-small t {z} = go (lit_of t)
  where
    sized : (y : ℤ) (b : Bool) → is_fixnum y ≡ b → cond {A = Option ℤ} b (Some y) None ≡ Some z → mag z < 9223372036854775808
    sized y true q e = let s = ltb-true (mag y) 2305843009213693952 q in let p : y ≡ z = cc in rw (← p) (omega arith)
    sized y false q e = absurd (cc)

    go : (l : Option ℤ) → fixnum l ≡ Some z → mag z < 9223372036854775808
    go (Some y) e = sized y (is_fixnum y) refl e
    go None e = absurd (cc)

pub ruleset literals = (lit_is, lit-not)
