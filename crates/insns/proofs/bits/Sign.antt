-- A signed number as the machine holds it, its magnitude, and its bits in a field.
use mathlib.Core.Path.{◌≡◌, sym, ap, subst, ◌∙◌}
use mathlib.Core.Bool.{Bool, true, false}
use Prim.Native.Nat.{ℕ, suc, ◌*◌, ◌-◌, ◌≤◌, ◌<◌, ◌^◌}
use native.Mathlib.Omega.{arith}
use borrow.Author.Tests.{le-ltb, lt-ltb, ltb-true}
use lib.Dec.{T, leb}
use lib.IntN.{ℤ, pos, negsuc}
use lib.Signed.{mag, lt_z}
use mir.Syntax.{Width, w64}
use mir.Val.{SFits, hbits, to_z, of_z}
use mir.Facts.{to_z-of_z, sfits_widen}
use Rattle.insns.specs.Bits.{twos}

-- the test `z < 0`, as a branch leaves it
pub neg-test : {z : ℤ} {t : Bool} → SFits w64 z → lt_z (to_z w64 (of_z w64 z)) (pos 0) ≡ t → lt_z z (pos 0) ≡ t
neg-test {z} {t} f e = rw (to_z-of_z f) at e

not_neg : (n : ℕ) → lt_z (pos n) (pos 0) ≡ true → ⊥
not_neg n e = let h : n < 0 = ltb-true n 0 e in omega arith

is-neg : (n : ℕ) → lt_z (negsuc n) (pos 0) ≡ false → ⊥
is-neg n e = let z : ◌≡◌ {A = ℕ} 0 1 = cc in omega arith

pub twos-far : (h : ℕ) (z : ℤ) → h ≤ mag z → twos h z ≡ 2 * h
unfolding twos
twos-far h (pos n) l = simp (le-ltb n h l)
twos-far h (negsuc n) l = simp (le-ltb n h l)

pub twos-neg : (h : ℕ) (z : ℤ) → mag z < h → lt_z z (pos 0) ≡ true → twos h z ≡ 2 * h - suc (mag z)
unfolding twos
twos-neg h (pos n) l e = absurd (not_neg n e)
twos-neg h (negsuc n) l e = simp (lt-ltb n h l)

pub twos-pos : (h : ℕ) (z : ℤ) → mag z < h → lt_z z (pos 0) ≡ false → twos h z ≡ mag z
unfolding twos
twos-pos h (pos n) l e = simp (lt-ltb n h l)
twos-pos h (negsuc n) l e = absurd (is-neg n e)

-- A signed number cast from a narrower type to an i64, and read back.
pub widens : {w : Width} {z : ℤ} → T (leb (hbits w) (hbits w64)) → SFits w z → SFits w64 (to_z w (of_z w z))
widens narrower fits = subst (SFits w64) (sym (to_z-of_z fits)) (sfits_widen narrower fits)

pub widened : {w : Width} {z : ℤ} → T (leb (hbits w) (hbits w64)) → SFits w z → to_z w64 (of_z w64 (to_z w (of_z w z))) ≡ z
widened narrower fits = ap (λ (y : ℤ). to_z w64 (of_z w64 y)) (to_z-of_z fits) ∙ to_z-of_z {w = w64} (sfits_widen narrower fits)

-- a call's result, held as its bits and read back
pub back : (w : Width) (z : ℤ) → mag z < 2 ^ hbits w → to_z w (of_z w z) ≡ z
back w z l = to_z-of_z (record { sfits = l })
