-- A destination is the number before it, where there is one.
use Rattle.std.specs.Prelude.{Option, Some, None}
use Rattle.std.specs.Option.{SomeIff}
use mathlib.Core.Path.{◌≡◌, refl, ap}
use Prim.Native.Nat.{ℕ, zero, suc, ◌-◌, ◌≤◌}
use native.Mathlib.Omega.{arith}
use Rattle.vosemaqe.specs.Results.{dest_of}

pub dest-is : (d : Option ℕ) (n : ℕ) → SomeIff d (1 ≤ n) (n - 1) → d ≡ dest_of n
unfolding dest_of
dest-is None zero h = refl
dest-is None (suc n) h = absurd (h (omega arith))
dest-is (Some r) zero h = absurd (omega (arith, h.0))
dest-is (Some r) (suc n) h = ap Some (omega (arith, h.1))
