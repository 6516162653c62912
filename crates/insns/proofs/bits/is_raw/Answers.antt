-- `is_raw` meets its contract: 1, 5 and 9 are the raw bits of values, and of the other numbers those that 4 divides.
use mathlib.Core.Path.{◌≡◌, refl}
use mathlib.Core.Bool.{Bool, true, false, ◌||◌}
use mathlib.Core.Logic.{◌⊎◌, inl, inr}
use Prim.Native.Nat.{ℕ, ◌%◌}
use lib.Dec.{eqb}
use borrow.Author.Tests.{ne_eqb}
use Rattle.insns.specs.Bits.{is_raw}
use Rattle.insns.proofs.bits.is_raw.Goals as goal

listed : (n : ℕ) → (n ≡ 1) ⊎ ((n ≡ 5) ⊎ (n ≡ 9)) → true ≡ is_raw n
unfolding is_raw
listed n (inl e) = rw e refl
listed n (inr (inl e)) = rw e refl
listed n (inr (inr e)) = rw e refl

or-none : (b : Bool) → b ≡ (b || false || false || false)
or-none true = refl
or-none false = refl

other : (n : ℕ) → ((n ≡ 1) ⊎ ((n ≡ 5) ⊎ (n ≡ 9)) → ⊥) → eqb (n % 4) 0 ≡ is_raw n
unfolding is_raw
other n p = rw (ne_eqb n 1 (λ e. p (inl e)), ne_eqb n 5 (λ e. p (inr (inl e))), ne_eqb n 9 (λ e. p (inr (inr e)))) (or-none (eqb (n % 4) 0))

pub returns-in-1 : goal.returns-in-1
returns-in-1 c = listed _ c.in-1.is

pub returns-in_default : goal.returns-in_default
returns-in_default c = search other
