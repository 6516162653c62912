-- The kit's comparisons of floats are those of `specs/FloatOrder`, which compare whole numbers of steps.
use mathlib.Core.Path.{◌≡◌, refl, sym, ap, ap₂, ◌∙◌}
use mathlib.Core.Bool.{Bool, true, false, not, ◌&&◌, ◌||◌, beq, cond}
use Prim.Native.Nat.{ℕ, zero, suc, ◌+◌, ◌*◌, ◌/◌, ◌<◌, ◌^◌}
use native.Mathlib.Nat.{mul-pos, zero-add, add_comm}
use native.Mathlib.Decide.{dec_lt, ℕ_discrete}
use native.Mathlib.Omega.{arith}
use lib.Dec.{ltb, eqb}
use lib.Pow.{pow_pos}
use lib.Signed.{lt_z}
use lib.Ieee as Ieee
use lib.Ieee.{Float, binary64, up, down, of_bits}
use lib.Ieee.Fits.{down_pos}
use borrow.Author.Tests.{lt-ltb, le-ltb, eq-eqb, ne_eqb}
use Rattle.int64.specs.Sign.{with_sign}
use Rattle.int64.specs.Order.{Order, less, equal, greater, unordered, is_less, is_equal, is_greater, order_z, holds}
use Rattle.int64.specs.declared.order.Cmp.{Cmp}
use Rattle.int64.specs.declared.order.Cmp.TheVariants.{Eq, Ne, Lt, Le, Gt, Ge}
use Rattle.int64.proofs.sign.Laws.{never}
use Rattle.int64.proofs.order.Laws.{never_both, flip, order_z-flip}
use Rattle.float.specs.Bits as B
use Rattle.float.specs.Order as F
use Rattle.float.proofs.bits.Read.{real, Exact, read_is}
use Rattle.float.proofs.bits.Scale.{over-both, over-both', scaled-add, scaled-lt, scaled-eq, scaled-zero, scaled-positive}

-- ---- ± a steps and ± b steps, as integers

below_steps : (s t : Bool) (a b : ℕ) → Ieee.below s a t b ≡ lt_z (with_sign s a) (with_sign t b)
unfolding with_sign
below_steps false false a b = refl
below_steps false true a zero = sym (le-ltb a 0 (omega arith))
below_steps false true a (suc b) = refl
below_steps true false zero b = ap (ltb 0) (zero-add b)
below_steps true false (suc a) b = lt-ltb 0 (suc a + b) (omega arith)
below_steps true true zero zero = refl
below_steps true true zero (suc b) = le-ltb (suc b) 0 (omega arith)
below_steps true true (suc a) zero = lt-ltb 0 (suc a) (omega arith)
below_steps true true (suc a) (suc b) = elim (dec_lt b a) [
  | yes l ↦ lt-ltb (suc b) (suc a) (omega arith) ∙ sym (lt-ltb b a l)
  | no g ↦ le-ltb (suc b) (suc a) (omega arith) ∙ sym (le-ltb b a (omega arith))
]

-- equal: neither is below the other
neither : (a b : ℕ) → (not (ltb a b) && not (ltb b a)) ≡ (eqb a b && true)
neither a b = elim (dec_lt a b) [
  | yes l ↦ rw (lt-ltb a b l, ne_eqb a b (λ e. omega arith))
  | no g ↦ elim (dec_lt b a) [
    | yes l ↦ rw (le-ltb a b (omega arith), lt-ltb b a l, ne_eqb a b (λ e. omega arith))
    | no h ↦ rw (le-ltb a b (omega arith), le-ltb b a (omega arith), eq-eqb a b (omega arith))
  ]
]

and-true : (t : Bool) → (t && true) ≡ t
and-true true = refl
and-true false = refl

-- of unlike signs only two zeros are
zeros : (a b : ℕ) → not (ltb 0 (a + b)) ≡ (eqb a b && eqb a 0)
zeros a b = elim (dec_lt 0 (a + b)) [
  | yes l ↦ elim (ℕ_discrete a b) [
    | yes e ↦ rw (lt-ltb 0 (a + b) l, eq-eqb a b e, ne_eqb a 0 (λ z. omega arith))
    | no n ↦ rw (lt-ltb 0 (a + b) l, ne_eqb a b n)
  ]
  | no g ↦ rw (le-ltb 0 (a + b) (omega arith), eq-eqb a b (omega arith), eq-eqb a 0 (omega arith))
]

level-steps : (s t : Bool) (a b : ℕ) → Ieee.level s a t b ≡ (not (Ieee.below s a t b) && not (Ieee.below t b s a))
level-steps false false a b = sym (neither a b)
level-steps false true a b = sym (ap (λ (n : ℕ). not (ltb 0 n)) (add_comm b a) ∙ zeros a b)
level-steps true false a b = sym (and-true (not (ltb 0 (a + b))) ∙ zeros a b)
level-steps true true a b = swap (ltb a b) (ltb b a) (neither a b)
  where
    swap : (x y : Bool) → (not x && not y) ≡ (eqb a b && true) → (eqb a b && true) ≡ (not y && not x)
    swap true true e = sym e
    swap true false e = sym e
    swap false true e = sym e
    swap false false e = sym e

-- ---- how two stand, by the two tests

pub record Tests (lt gt eq : Bool) (o : Order) : Type 0 where
  pub is-less : lt ≡ is_less o
  pub is-greater : gt ≡ is_greater o
  pub is-equal : eq ≡ is_equal o

steps : (s t : Bool) (a b : ℕ) → Tests (Ieee.below s a t b) (Ieee.below t b s a) (Ieee.level s a t b) (order_z (with_sign s a) (with_sign t b))
unfolding order_z
steps s t a b =
    rw (level-steps s t a b, below_steps s t a b, below_steps t s b a)
    (go (lt_z (with_sign s a) (with_sign t b)) (lt_z (with_sign t b) (with_sign s a)) (never_both (with_sign s a) (with_sign t b)))
  where
    go : (x y : Bool) → (x ≡ true → y ≡ false) → Tests x y (not x && not y) (cond x less (cond y greater equal))
    go true true n = never (n refl)
    go true false n = record { is-less = refl; is-greater = refl; is-equal = refl }
    go false true n = record { is-less = refl; is-greater = refl; is-equal = refl }
    go false false n = record { is-less = refl; is-greater = refl; is-equal = refl }

-- ---- the kit's, whose finite numbers are fractions A / C and B / C

module _ (s t : Bool) (A B C a b : ℕ) (h : 0 < C) (p : A * 2 ^ 1074 ≡ a * C) (q : B * 2 ^ 1074 ≡ b * C) where
  L : 0 < 2 ^ 1074
  L = pow_pos 1074

  below-is : Ieee.below s A t B ≡ Ieee.below s a t b
  below-is = go s t
    where
      go : (s t : Bool) → Ieee.below s A t B ≡ Ieee.below s a t b
      go false false = scaled-lt (2 ^ 1074) C L h A B a b p q
      go false true = refl
      go true false = scaled-positive (2 ^ 1074) C L h (A + B) (a + b) (scaled-add (2 ^ 1074) C L h A B a b p q)
      go true true = scaled-lt (2 ^ 1074) C L h B A b a q p

  level-is : Ieee.level s A t B ≡ Ieee.level s a t b
  level-is = rw (scaled-eq (2 ^ 1074) C L h A B a b p q, scaled-zero (2 ^ 1074) C L h A a p)

infinite : (s t : Bool) → Tests (s && not t) (t && not s) (beq s t) (cond (beq s t) equal (cond s less greater))
infinite true true = record { is-less = refl; is-greater = refl; is-equal = refl }
infinite true false = record { is-less = refl; is-greater = refl; is-equal = refl }
infinite false true = record { is-less = refl; is-greater = refl; is-equal = refl }
infinite false false = record { is-less = refl; is-greater = refl; is-equal = refl }

left : (s : Bool) → Tests s (not s) false (cond s less greater)
left true = record { is-less = refl; is-greater = refl; is-equal = refl }
left false = record { is-less = refl; is-greater = refl; is-equal = refl }

right : (t : Bool) → Tests (not t) t false (cond t greater less)
right true = record { is-less = refl; is-greater = refl; is-equal = refl }
right false = record { is-less = refl; is-greater = refl; is-equal = refl }

none : Tests false false false unordered
none = record { is-less = refl; is-greater = refl; is-equal = refl }

pub order_is : (x y : Float) → Exact x → Exact y → Tests (Ieee.lt x y) (Ieee.lt y x) (Ieee.eq x y) (F.order (real x) (real y))
unfolding Ieee.lt Ieee.eq F.order
order_is Ieee.nan Ieee.nan p q = none
order_is Ieee.nan (Ieee.inf t) p q = none
order_is Ieee.nan (Ieee.fin t n d) p q = none
order_is (Ieee.inf s) Ieee.nan p q = none
order_is (Ieee.inf s) (Ieee.inf t) p q = infinite s t
order_is (Ieee.inf s) (Ieee.fin t n d) p q = left s
order_is (Ieee.fin s m e) Ieee.nan p q = none
order_is (Ieee.fin s m e) (Ieee.inf t) p q = right t
order_is (Ieee.fin s m e) (Ieee.fin t n d) p q =
    let a = m * up e * 2 ^ 1074 / down e in
    let b = n * up d * 2 ^ 1074 / down d in
    let A = m * up e * down d in
    let B = n * up d * down e in
    let C = down e * down d in
    let h = mul-pos (down_pos e) (down_pos d) in
    let x = over-both (m * up e) a (down e) (down d) p in
    let y = over-both' (n * up d) b (down d) (down e) q in
    rw (below-is s t A B C a b h x y, below-is t s B A C b a h y x, level-is s t A B C a b h x y) (steps s t a b)

-- `x >= y` asks for y <= x
both_ways : (x y : Float) → Ieee.eq y x ≡ Ieee.eq x y
unfolding Ieee.eq
both_ways Ieee.nan Ieee.nan = refl
both_ways Ieee.nan (Ieee.inf t) = refl
both_ways Ieee.nan (Ieee.fin t n d) = refl
both_ways (Ieee.inf s) Ieee.nan = refl
both_ways (Ieee.inf true) (Ieee.inf true) = refl
both_ways (Ieee.inf true) (Ieee.inf false) = refl
both_ways (Ieee.inf false) (Ieee.inf true) = refl
both_ways (Ieee.inf false) (Ieee.inf false) = refl
both_ways (Ieee.inf s) (Ieee.fin t n d) = refl
both_ways (Ieee.fin s m e) Ieee.nan = refl
both_ways (Ieee.fin s m e) (Ieee.inf t) = refl
both_ways (Ieee.fin s m e) (Ieee.fin t n d) =
    let A = m * up e * down d in
    let B = n * up d * down e in
    level-steps t s B A ∙ and_comm (Ieee.below t B s A) (Ieee.below s A t B) ∙ sym (level-steps s t A B)
  where
    and_comm : (x y : Bool) → (not x && not y) ≡ (not y && not x)
    and_comm true true = refl
    and_comm true false = refl
    and_comm false true = refl
    and_comm false false = refl

-- ---- on patterns: a, b that were read as x, y

module _ (op : Cmp) (a b : ℕ) {x y : Float} (p : x ≡ of_bits binary64 a) (q : y ≡ of_bits binary64 b) where
  tests : Tests (Ieee.lt x y) (Ieee.lt y x) (Ieee.eq x y) (F.order (B.read a) (B.read b))
  tests = rw (p, q, ← (read_is a).0, ← (read_is b).0) (order_is (of_bits binary64 a) (of_bits binary64 b) (read_is a).1 (read_is b).1)

  pub eq_is : op ≡ Eq → Ieee.eq x y ≡ holds op (F.order (B.read a) (B.read b))
  unfolding holds
  eq_is e = rw e tests.is-equal

  pub ne-is : op ≡ Ne → Ieee.ne x y ≡ holds op (F.order (B.read a) (B.read b))
  unfolding holds Ieee.ne
  ne-is e = rw e (ap not tests.is-equal)

  pub lt-is : op ≡ Lt → Ieee.lt x y ≡ holds op (F.order (B.read a) (B.read b))
  unfolding holds
  lt-is e = rw e tests.is-less

  pub le_is : op ≡ Le → Ieee.le x y ≡ holds op (F.order (B.read a) (B.read b))
  unfolding holds Ieee.le
  le_is e = rw e (ap₂ ◌||◌ tests.is-less tests.is-equal)

  pub gt-is : op ≡ Gt → Ieee.lt y x ≡ holds op (F.order (B.read a) (B.read b))
  unfolding holds
  gt-is e = rw e tests.is-greater

  pub ge-is : op ≡ Ge → Ieee.le y x ≡ holds op (F.order (B.read a) (B.read b))
  unfolding holds Ieee.le
  ge-is e = rw e (ap₂ ◌||◌ tests.is-greater (both_ways x y ∙ tests.is-equal))

pub ruleset orders = (eq_is, ne-is, lt-is, le_is, gt-is, ge-is)

-- ---- exchanged

pub order_flip : (x y : B.Real) → F.order y x ≡ flip (F.order x y)
unfolding F.order
order_flip B.nan B.nan = refl
order_flip B.nan (B.inf t) = refl
order_flip B.nan (B.fin t n) = refl
order_flip (B.inf s) B.nan = refl
order_flip (B.inf true) (B.inf true) = refl
order_flip (B.inf true) (B.inf false) = refl
order_flip (B.inf false) (B.inf true) = refl
order_flip (B.inf false) (B.inf false) = refl
order_flip (B.inf true) (B.fin t n) = refl
order_flip (B.inf false) (B.fin t n) = refl
order_flip (B.fin s m) B.nan = refl
order_flip (B.fin s m) (B.inf true) = refl
order_flip (B.fin s m) (B.inf false) = refl
order_flip (B.fin s m) (B.fin t n) = order_z-flip (with_sign s m) (with_sign t n)
