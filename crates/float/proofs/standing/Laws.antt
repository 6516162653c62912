-- What the code finds of an Int beside a Float is how the two stand.
use Rattle.std.specs.Prelude.{Option, Some, None}
use mathlib.Core.Path.{◌≡◌, refl, sym, ap, ◌∙◌}
use mathlib.Core.Bool.{Bool, true, false, cond}
use Prim.Native.Nat.{ℕ, ◌+◌, ◌-◌, ◌*◌, ◌/◌, ◌%◌, ◌^◌, ◌≤◌, ◌<◌}
use native.Mathlib.Nat.{mod-eq_of_lt}
use native.Mathlib.Omega.{arith}
use lib.Dec.{ltb, leb}
use lib.IntN.{ℤ, nat_abs}
use mir.Syntax.{w64}
use mir.Val.{to_z, Fits}
use mir.ValLaws.{to_z-Fits}
use borrow.Author.Tests.{lt-ltb, le-ltb, ltb-false, leb-true, leb-false}
use Rattle.int64.specs.Patterns.{bits_of}
use Rattle.int64.specs.Sign.{negative}
use Rattle.int64.specs.Order.{order_z, holds}
use Rattle.int64.specs.declared.order.Cmp.{Cmp}
use Rattle.float.specs.Bits.{Real, sign, rest, read}
use Rattle.float.specs.Float as F
use Rattle.float.specs.Order.{order}
use Rattle.float.specs.Standing.{standing}
use Rattle.float.specs.Places.{two52, two63, is_far, whole_part, place_of, stands_by}
use Rattle.float.proofs.Ops.{of_int-exact}
use Rattle.float.proofs.standing.Wide.{wide-stands, whole-limit}

-- ---- the place of a float

pub far-minus : (s : Bool) (r : ℕ) → s ≡ true → ltb two63 r ≡ is_far s r
far-minus s r e = rw e

pub far-plus : (s : Bool) (r : ℕ) → s ≡ false → leb two63 r ≡ is_far s r
far-plus s r e = rw e

pub whole-shifted : (r : ℕ) → two52 ≤ r → r ≤ two63 → (2 ^ 52 + r % 2 ^ 52) * 2 ^ (r / 2 ^ 52 - 1075) % 2 ^ 64 ≡ whole_part r
whole-shifted r h k = mod-eq_of_lt (let l : whole_part r ≤ 2 ^ 63 = whole-limit r h k in omega arith)

module _ (q : ℕ) {s : Bool} {t : Bool} (d : s ≡ sign q) (e : t ≡ is_far s (rest q)) where
  far-is : is_far (sign q) (rest q) ≡ t
  far-is = ap (λ (b : Bool). is_far b (rest q)) (sym d) ∙ sym e

  pub place-far : t ≡ true → None ≡ place_of q
  unfolding place_of
  place-far h = rw (far-is ∙ h)

  pub place-near : t ≡ false → rest q < two52 → Some 0 ≡ place_of q
  unfolding place_of
  place-near h k = rw (far-is ∙ h, lt-ltb (rest q) two52 k)

  pub place-like : {m z : ℕ} → t ≡ false → two52 ≤ rest q → m ≡ whole_part (rest q) → z ≡ bits_of s m → Some z ≡ place_of q
  unfolding place_of
  place-like h k f g = rw (far-is ∙ h, le-ltb (rest q) two52 k) (ap Some (g ∙ rw (f, d)))

  pub near-limit : t ≡ false → rest q ≤ two63
  near-limit h = go s (sym e ∙ h)
    where
      go : (b : Bool) → is_far b (rest q) ≡ false → rest q ≤ two63
      go true k = ltb-false two63 (rest q) k
      go false k = let l : rest q < two63 = leb-false two63 (rest q) k in omega arith

-- ---- how an Int stands

module _ (op : Cmp) (p q : ℕ) (f : Fits w64 p) (w : 2 ^ 53 < nat_abs (to_z w64 p)) {a : Option ℕ} (e : a ≡ place_of q) where
  stands_by_lem : standing (to_z w64 p) q ≡ stands_by (to_z w64 p) q a
  stands_by_lem = wide-stands (to_z w64 p) q (to_z-Fits w64 p f) w ∙ ap (stands_by (to_z w64 p) q) (sym e)

  pub stands-far : {t : Bool} → a ≡ None → t ≡ holds op (order (read 0) (read q)) → t ≡ holds op (standing (to_z w64 p) q)
  unfolding standing read negative
  stands-far h d = d ∙ ap (holds op) (sym (stands_by_lem ∙ ap (stands_by (to_z w64 p) q) h))

  pub stands-like : {t : Bool} {z : ℕ} → a ≡ Some z → t ≡ holds op (order_z (to_z w64 p) (to_z w64 z)) → t ≡ holds op (standing (to_z w64 p) q)
  stands-like h d = d ∙ ap (holds op) (sym (stands_by_lem ∙ ap (stands_by (to_z w64 p) q) h))

-- an Int that is a Float
pub narrow-stands : (n : ℤ) (q : ℕ) → nat_abs n ≤ 2 ^ 53 → order (read (F.of_int n)) (read q) ≡ standing n q
unfolding standing
narrow-stands n q h = ap (λ (x : Real). order x (read q)) (of_int-exact n h)

module _ (op : Cmp) (p q : ℕ) {w : Option ℕ} (e : w ≡ F.whole (to_z w64 p)) where
  pub is_wide : w ≡ None → 2 ^ 53 < nat_abs (to_z w64 p)
  unfolding F.whole
  is_wide d = go (leb (nat_abs (to_z w64 p)) (2 ^ 53)) refl (sym e ∙ d)
    where
      go : (b : Bool) → leb (nat_abs (to_z w64 p)) (2 ^ 53) ≡ b → cond b (Some (F.of_int (to_z w64 p))) None ≡ None → 2 ^ 53 < nat_abs (to_z w64 p)
      go true l k = let z : ◌≡◌ {A = ℕ} 0 1 = cc in absurd (omega arith)
      go false l k = leb-false (nat_abs (to_z w64 p)) (2 ^ 53) l

  pub stands-narrow : {m : ℕ} {t : Bool} → w ≡ Some m → t ≡ holds op (order (read m) (read q)) → t ≡ holds op (standing (to_z w64 p) q)
  unfolding F.whole
  stands-narrow {m} {t} d g = go (leb (nat_abs (to_z w64 p)) (2 ^ 53)) refl (sym e ∙ d)
    where
      go : (b : Bool) → leb (nat_abs (to_z w64 p)) (2 ^ 53) ≡ b → cond b (Some (F.of_int (to_z w64 p))) None ≡ Some m → t ≡ holds op (standing (to_z w64 p) q)
      go true l k =
          let z : m ≡ F.of_int (to_z w64 p) = cc in
          g ∙ ap (λ (x : ℕ). holds op (order (read x) (read q))) z ∙ ap (holds op) (narrow-stands (to_z w64 p) q (leb-true (nat_abs (to_z w64 p)) (2 ^ 53) l))
      go false l k = let z : ◌≡◌ {A = ℕ} 0 1 = cc in absurd (omega arith)

pub ruleset standings = (far-minus, far-plus, whole-shifted, place-far, place-near, place-like, near-limit, stands-far, stands-like, is_wide, stands-narrow)
