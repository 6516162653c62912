-- Plumbing: digits that were doubled in place.
use Rattle.std.specs.Prelude.{ℕ, ◌+◌, ◌*◌, ◌^◌, ◌≤◌, ◌≡◌, true, List, length}
use Rattle.text.specs.Decimal.{all_digits, value_of}

-- the digits l became r, and c was carried out of the first
pub record Doubled (l r : List ℕ) (c : ℕ) : Type 0 where
  pub digits : all_digits r ≡ true
  pub twice : c * 10 ^ length l + value_of r ≡ value_of l * 2
  pub carry : c ≤ 1
