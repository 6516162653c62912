-- Sign and absolute value of a number by its pattern.
use Rattle.std.proofs.Common.{◌≡◌, ℕ, ◌+◌, ◌-◌, ◌*◌, ◌%◌, ◌^◌, ◌<◌, ◌≤◌, true, false, T, leb, nat_abs, sym, ◌∙◌, subst, mod-eq_of_lt, one-mul, arith, w64, to_z, le-ltb, lt-ltb, le-leb}
use native.Mathlib.Decide.{dec_le}
use lib.Pow.{pow-lt}
use borrow.Author.Tests.{lt-leb}
use Rattle.int64.specs.Sign.{negative}

pub never : {X : Type 0} → true ≡ false → X
never e = absurd (subst T e tt)

-- the number plus 2^63
abbrev pub up : ℕ → ℕ
up p = (p + 2 ^ 63) % 2 ^ 64

pub negative-is : (p : ℕ) → leb (2 ^ 63) p ≡ negative (to_z w64 p)
unfolding negative
negative-is p = elim (dec_le (2 ^ 63) p) [
  | yes h ↦ le-leb (2 ^ 63) p h ∙ sym (rw (le-ltb p (2 ^ 63) h))
  | no g ↦ lt-leb (2 ^ 63) p (omega arith) ∙ sym (rw (lt-ltb p (2 ^ 63) (omega arith)))
]

pub size-up : (p : ℕ) → p < 2 ^ 63 → p ≡ nat_abs (to_z w64 p)
size-up p h = rw (lt-ltb p (2 ^ 63) h)

pub size-down : (p : ℕ) → p < 2 ^ 64 → 2 ^ 63 ≤ p → 2 ^ 64 - 1 - p + 1 ≡ nat_abs (to_z w64 p)
size-down p h k = rw (le-ltb p (2 ^ 63) k) (omega arith)

-- `1 << k`
pub one_shifted : (k : ℕ) → k < 64 → 1 * 2 ^ k % 2 ^ 64 ≡ 2 ^ k
one_shifted k h = rw one-mul (mod-eq_of_lt (pow-lt h))
