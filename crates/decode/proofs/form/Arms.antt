-- What the last arm of a `match` knows.
use mathlib.Core.Path.{◌≡◌}
use Prim.Native.Nat.{ℕ, zero, suc, ◌≤◌, zero-le}
use native.Mathlib.Omega.{arith}

-- x is none of the numbers below n, as the last arm of a `match` leaves it
abbrev pub NoneBelow : ℕ → ℕ → Type 0
NoneBelow x zero = Unit {0}
NoneBelow x (suc n) = NoneBelow x n × (x ≡ n → ⊥)

pub none : (x n : ℕ) → NoneBelow x n → n ≤ x
none x zero h = zero-le
none x (suc n) h = let l : n ≤ x = none x n h.0 in let k : x ≡ n → ⊥ = h.1 in omega arith
