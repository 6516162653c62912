-- Between a signed number of the code and its pattern: -1 - n has the other sign and the same `mag`.
use Rattle.std.proofs.Common.{◌≡◌, ℕ, zero, suc, ◌-◌, ◌^◌, ◌≤◌, true, false, T, ℤ, pos, negsuc, ◌-ℤ◌, nat_abs, sym, refl, ap, ◌∙◌, zero-add, arith, w64, Fits, SFits, to_z, of_z, le-ltb}
use lib.Dec.{leb-zero}
use lib.Signed.{le_z, non_neg}
use mir.ValLaws.{to_z-of_z, to_z_pos}
use Rattle.int64.proofs.sign.Laws.{never}

abbrev pub other : ℤ → ℤ
other (pos m) = negsuc m
other (negsuc m) = pos m

less_one : (z : ℤ) → negsuc 0 -ℤ z ≡ other z
less_one (pos zero) = refl
less_one (pos (suc m)) = ap (λ (k : ℕ). negsuc (suc k)) (zero-add m)
less_one (negsuc m) = rw (le-ltb (suc m) 1 (omega arith)) (ap pos (omega arith))

other_fits : (z : ℤ) → SFits w64 z → SFits w64 (other z)
other_fits (pos m) s = record { sfits = s.sfits }
other_fits (negsuc m) s = record { sfits = s.sfits }

-- ---- from a pattern past 2^63

pub down_fits : (p : ℕ) → 2 ^ 63 ≤ p → SFits w64 (negsuc 0 -ℤ to_z w64 (2 ^ 64 - 1 - p))
down_fits p h = rw (to_z_pos w64 (2 ^ 64 - 1 - p) (omega arith), less_one) (record { sfits = omega arith })

pub down_is : (p : ℕ) → Fits w64 p → 2 ^ 63 ≤ p → to_z w64 (of_z w64 (negsuc 0 -ℤ to_z w64 (2 ^ 64 - 1 - p))) ≡ to_z w64 p
down_is p f h =
    to_z-of_z w64 (negsuc 0 -ℤ to_z w64 (2 ^ 64 - 1 - p)) (down_fits p h)
    ∙ rw (to_z_pos w64 (2 ^ 64 - 1 - p) (omega arith), less_one, le-ltb p (2 ^ 63) h) (ap negsuc (omega (arith, f.fits)))

-- ---- from a number, of which `n >= 0` fitted or did not

module _ (n : ℤ) (s : SFits w64 n) where
  n-back : to_z w64 (of_z w64 n) ≡ n
  n-back = to_z-of_z w64 n s

  pub up-cast : le_z (pos 0) (to_z w64 (of_z w64 n)) ≡ true → T (non_neg (to_z w64 (of_z w64 n))) × Fits w64 (nat_abs (to_z w64 (of_z w64 n)))
  up-cast t = rw n-back (go n s (rw n-back at t))
    where
      go : (z : ℤ) → SFits w64 z → le_z (pos 0) z ≡ true → T (non_neg z) × Fits w64 (nat_abs z)
      go (pos m) f e = (tt, record { fits = omega (arith, f.sfits) })
      go (negsuc m) f e = never (sym e)

  pub up_is : le_z (pos 0) (to_z w64 (of_z w64 n)) ≡ true → nat_abs (to_z w64 (of_z w64 n)) ≡ of_z w64 n
  up_is t = rw n-back (go n (rw n-back at t))
    where
      go : (z : ℤ) → le_z (pos 0) z ≡ true → nat_abs z ≡ of_z w64 z
      go (pos m) e = refl
      go (negsuc m) e = never (sym e)

  pub other-sfits : SFits w64 (negsuc 0 -ℤ to_z w64 (of_z w64 n))
  other-sfits = rw (n-back, less_one) (other_fits n s)

  other-back : to_z w64 (of_z w64 (negsuc 0 -ℤ to_z w64 (of_z w64 n))) ≡ other n
  other-back = to_z-of_z w64 _ other-sfits ∙ rw n-back (less_one n)

  -- its absolute value is what n lacks of 2^64 - 1
  abbrev Rest : ℤ → ℤ → Type 0
  Rest z m = (T (non_neg m) × Fits w64 (nat_abs m)) × (nat_abs m ≤ 2 ^ 64 - 1) × (2 ^ 64 - 1 - nat_abs m ≡ of_z w64 z)

  rest : le_z (pos 0) (to_z w64 (of_z w64 n)) ≡ false → Rest n (other n)
  rest t = go n s (rw n-back at t)
    where
      go : (z : ℤ) → SFits w64 z → le_z (pos 0) z ≡ false → Rest z (other z)
      go (pos m) f e = never (sym (leb-zero m) ∙ e)
      go (negsuc m) f e = ((tt, record { fits = omega (arith, f.sfits) }), omega (arith, f.sfits), omega arith)

  pub below-cast : le_z (pos 0) (to_z w64 (of_z w64 n)) ≡ false
      → T (non_neg (to_z w64 (of_z w64 (negsuc 0 -ℤ to_z w64 (of_z w64 n))))) × Fits w64 (nat_abs (to_z w64 (of_z w64 (negsuc 0 -ℤ to_z w64 (of_z w64 n)))))
  below-cast t = rw other-back (rest t).0

  pub below_sub : le_z (pos 0) (to_z w64 (of_z w64 n)) ≡ false → nat_abs (to_z w64 (of_z w64 (negsuc 0 -ℤ to_z w64 (of_z w64 n)))) ≤ 2 ^ 64 - 1
  below_sub t = rw other-back (rest t).1

  pub below-is : le_z (pos 0) (to_z w64 (of_z w64 n)) ≡ false → 2 ^ 64 - 1 - nat_abs (to_z w64 (of_z w64 (negsuc 0 -ℤ to_z w64 (of_z w64 n)))) ≡ of_z w64 n
  below-is t = rw other-back (rest t).2

pub ruleset casts = (down_fits, down_is, up_is, other-sfits, below_sub, below-is)
