-- The mask of a mask word: 2^lo times (2^len - 1), cut to 64 bits.
use Rattle.std.specs.Prelude.{ℕ, ◌-◌, ◌*◌, ◌%◌, ◌^◌}

unfoldable pub mask_of : ℕ → ℕ → ℕ
mask_of lo len = 2 ^ lo * (2 ^ len - 1) % 2 ^ 64
