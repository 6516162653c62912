-- The bits of a field read as a signed number, and as the machine holds it.
use mathlib.Core.Path.{◌≡◌, refl, sym, ap, subst, ◌∙◌}
use mathlib.Core.Bool.{Bool, true, false, cond}
use Prim.Native.Nat.{ℕ, suc, ◌*◌, ◌-◌, ◌≤◌, ◌<◌, ◌^◌}
use native.Mathlib.Omega.{arith}
use borrow.Author.Tests.{le-ltb, lt-ltb, ltb-true, ltb-false}
use lib.Dec.{ltb}
use lib.IntN.{ℤ, pos, negsuc}
use lib.Signed.{mag}
use mir.Syntax.{Width, w64}
use mir.Val.{SFits, hbits, to_z, of_z}
use mir.Facts.{to_z-of_z}
use mir.ValLaws.{to_z_pos, to_z-neg}
use native.Mathlib.Nat.{lt_of_lt_of_le}
use Rattle.decode.specs.Decode.{signed}

-- ---- bits read as a signed number

pub signed-mag : (h n : ℕ) → n < 2 * h → mag (signed h n) < h
unfolding signed
signed-mag h n l = go (ltb n h) refl
  where
    go : (t : Bool) → ltb n h ≡ t → mag (cond t (pos n) (negsuc (2 * h - suc n))) < h
    go true e = ltb-true n h e
    go false e = let k : h ≤ n = ltb-false n h e in omega arith

pub read_low : (h n : ℕ) → h ≤ 1099511627776 → n < h → to_z w64 n ≡ signed h n
unfolding signed
read_low h n l k = to_z_pos w64 n (omega arith) ∙ simp (lt-ltb n h k)

pub read-high : (h n : ℕ) → h ≤ 1099511627776 → n < 2 * h → h ≤ n → to_z w64 (18446744073709551615 - (2 * h - 1 - n)) ≡ signed h n
unfolding signed
read-high h n l k g =
    let b : 18446744073709551615 - (2 * h - 1 - n) ≡ 18446744073709551616 - suc (2 * h - suc n) = omega arith in
    ap (to_z w64) b ∙ to_z-neg w64 (2 * h - suc n) (omega arith) ∙ simp (le-ltb n h g)

-- a call's result r that is read from a field of 2 * h numbers, cast to a type that holds them
module _ (w : Width) {h n : ℕ} {r : ℤ} (e : r ≡ signed h n) (l : n < 2 * h) (wide : h ≤ 2 ^ hbits w) (small : h ≤ 1099511627776) where
  pub holds : SFits w r
  holds = record { sfits = lt_of_lt_of_le (subst (λ (z : ℤ). mag z < h) (sym e) (signed-mag h n l)) wide }

  whole64 : SFits w64 r
  whole64 = let k : mag r < h = subst (λ (z : ℤ). mag z < h) (sym e) (signed-mag h n l) in record { sfits = omega arith }

  pub narrows : SFits w (to_z w64 (of_z w64 r))
  narrows = subst (SFits w) (sym (to_z-of_z whole64)) holds

  pub narrowed : to_z w (of_z w (to_z w64 (of_z w64 r))) ≡ signed h n
  narrowed = ap (λ (z : ℤ). to_z w (of_z w z)) (to_z-of_z whole64) ∙ to_z-of_z holds ∙ e
