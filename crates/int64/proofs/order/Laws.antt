-- Which comparisons hold of two numbers, by their patterns.
use Rattle.std.proofs.Common.{◌≡◌, ℕ, suc, ◌-◌, ◌^◌, ◌<◌, ◌≤◌, Bool, true, false, cond, not, ◌||◌, eqb, ltb, leb, ℤ, pos, negsuc, sym, refl, ap, ◌∙◌, ap₂, arith, w64, Fits, to_z, ltb-true, le-ltb, lt-ltb, eq-eqb, ne_eqb, le-leb}
use native.Mathlib.Decide.{dec_lt}
use lib.Signed.{lt_z}
use borrow.Author.Tests.{lt-leb}
use Rattle.int64.proofs.sign.Laws.{never, up}
use Rattle.int64.specs.Order.{Order, less, equal, greater, unordered, is_less, is_equal, is_greater, order_z, holds}
use Rattle.int64.specs.declared.order.Cmp.{Cmp}
use Rattle.int64.specs.declared.order.Cmp.TheVariants.{Eq, Ne, Lt, Le, Gt, Ge}

lt_z-up : (p q : ℕ) → p < 2 ^ 64 → q < 2 ^ 64 → lt_z (to_z w64 p) (to_z w64 q) ≡ ltb (up p) (up q)
lt_z-up p q h k = elim (dec_lt p (2 ^ 63)) [
  | yes a ↦ elim (dec_lt q (2 ^ 63)) [
    | yes b ↦ rw (lt-ltb p (2 ^ 63) a, lt-ltb q (2 ^ 63) b) (same_test p q (up p) (up q) (λ l. omega arith) (λ l. omega arith))
    | no b ↦ rw (lt-ltb p (2 ^ 63) a, le-ltb q (2 ^ 63) (omega arith)) (sym (le-ltb (up p) (up q) (omega arith)))
  ]
  | no a ↦ elim (dec_lt q (2 ^ 63)) [
    | yes b ↦ rw (le-ltb p (2 ^ 63) (omega arith), lt-ltb q (2 ^ 63) b) (sym (lt-ltb (up p) (up q) (omega arith)))
    | no b ↦ rw (le-ltb p (2 ^ 63) (omega arith), le-ltb q (2 ^ 63) (omega arith)) (same_test (2 ^ 64 - suc q) (2 ^ 64 - suc p) (up p) (up q) (λ l. omega arith) (λ l. omega arith))
  ]
]
  where
    same_test : (a b c d : ℕ) → (a < b → c < d) → (b ≤ a → d ≤ c) → ltb a b ≡ ltb c d
    same_test a b c d f g = elim (dec_lt a b) [
      | yes l ↦ lt-ltb a b l ∙ sym (lt-ltb c d (f l))
      | no n ↦ let l : b ≤ a = omega arith in le-ltb a b l ∙ sym (le-ltb c d (g l))
    ]

abbrev pub order_n : ℕ → ℕ → Order
order_n a b = cond (ltb a b) less (cond (ltb b a) greater equal)

pub order-up : (p q : ℕ) → p < 2 ^ 64 → q < 2 ^ 64 → order_z (to_z w64 p) (to_z w64 q) ≡ order_n (up p) (up q)
unfolding order_z
order-up p q h k = rw (lt_z-up p q h k, lt_z-up q p k h)

-- ---- comparisons: which tests hold, by how a and b stand

record Tests (a b : ℕ) (o : Order) : Type 0 where
  eq : eqb a b ≡ is_equal o
  lt : ltb a b ≡ is_less o
  le : leb a b ≡ (is_less o || is_equal o)
  gt : ltb b a ≡ is_greater o
  ge : leb b a ≡ (is_greater o || is_equal o)

tests : (a b : ℕ) → Tests a b (order_n a b)
tests a b = elim (dec_lt a b) [
  | yes l ↦ rw (lt-ltb a b l) (record { eq = ne_eqb a b (λ e. omega arith); lt = lt-ltb a b l; le = le-leb a b (omega arith); gt = le-ltb b a (omega arith); ge = lt-leb b a l })
  | no n ↦ elim (dec_lt b a) [
    | yes l ↦ rw (le-ltb a b (omega arith), lt-ltb b a l) (record { eq = ne_eqb a b (λ e. omega arith); lt = le-ltb a b (omega arith); le = lt-leb a b l; gt = lt-ltb b a l; ge = le-leb b a (omega arith) })
    | no m ↦ rw (le-ltb a b (omega arith), le-ltb b a (omega arith)) (record { eq = eq-eqb a b (omega arith); lt = le-ltb a b (omega arith); le = le-leb a b (omega arith); gt = le-ltb b a (omega arith); ge = le-leb b a (omega arith) })
  ]
]

module _ (op : Cmp) (p q : ℕ) {a b : ℕ} (x : a ≡ up p) (y : b ≡ up q) (f : Fits w64 p) (g : Fits w64 q) where
  same : (t : ℕ → ℕ → Bool) → t (up p) (up q) ≡ holds op (order_n (up p) (up q)) → t a b ≡ holds op (order_z (to_z w64 p) (to_z w64 q))
  same t h = ap₂ t x y ∙ h ∙ ap (holds op) (sym (order-up p q f.fits g.fits))

  pub eq_is : op ≡ Eq → eqb a b ≡ holds op (order_z (to_z w64 p) (to_z w64 q))
  unfolding holds
  eq_is e = same eqb (rw e (tests (up p) (up q)).eq)

  pub ne-is : op ≡ Ne → not (eqb a b) ≡ holds op (order_z (to_z w64 p) (to_z w64 q))
  unfolding holds
  ne-is e = same (λ m n. not (eqb m n)) (rw e (ap not (tests (up p) (up q)).eq))

  pub lt-is : op ≡ Lt → ltb a b ≡ holds op (order_z (to_z w64 p) (to_z w64 q))
  unfolding holds
  lt-is e = same ltb (rw e (tests (up p) (up q)).lt)

  pub le_is : op ≡ Le → leb a b ≡ holds op (order_z (to_z w64 p) (to_z w64 q))
  unfolding holds
  le_is e = same leb (rw e (tests (up p) (up q)).le)

  pub gt-is : op ≡ Gt → ltb b a ≡ holds op (order_z (to_z w64 p) (to_z w64 q))
  unfolding holds
  gt-is e = same (λ m n. ltb n m) (rw e (tests (up p) (up q)).gt)

  pub ge-is : op ≡ Ge → leb b a ≡ holds op (order_z (to_z w64 p) (to_z w64 q))
  unfolding holds
  ge-is e = same (λ m n. leb n m) (rw e (tests (up p) (up q)).ge)

pub ruleset comparisons = (eq_is, ne-is, lt-is, le_is, gt-is, ge-is)

-- ---- exchanged

pub never_both : (a b : ℤ) → lt_z a b ≡ true → lt_z b a ≡ false
never_both (pos a) (pos b) e = le-ltb b a (omega (arith, ltb-true a b e))
never_both (pos a) (negsuc b) e = never (sym e)
never_both (negsuc a) (pos b) e = refl
never_both (negsuc a) (negsuc b) e = le-ltb a b (omega (arith, ltb-true b a e))

abbrev pub flip : Order → Order
flip less = greater
flip equal = equal
flip greater = less
flip unordered = unordered

pub order_z-flip : (a b : ℤ) → order_z b a ≡ flip (order_z a b)
unfolding order_z
order_z-flip a b = go (lt_z a b) (lt_z b a) (never_both a b)
  where
    go : (x y : Bool) → (x ≡ true → y ≡ false) → cond y less (cond x greater equal) ≡ flip (cond x less (cond y greater equal))
    go true true n = never (n refl)
    go true false n = refl
    go false true n = refl
    go false false n = refl
