-- Numbers of 64 bits as runs of bytes, least byte first.
use Rattle.std.specs.Prelude.{◌≡◌, ℕ, ◌*◌, ◌^◌, ◌<◌, List, drop, ⊤, Option, None, Some}
use Rattle.std.specs.List.{flat_map}
use Rattle.std.specs.Int.{to_le_bytes, from_le_bytes, w64}

-- the bytes of each number, one after another
abbrev pub number_bytes : List ℕ → List ℕ
number_bytes ws = flat_map (to_le_bytes w64) ws

-- number i of the bytes; bytes that are missing count as 0
unfoldable pub nth_number : List ℕ → ℕ → ℕ
nth_number bytes i = from_le_bytes w64 (drop (8 * i) bytes)

-- known bytes lose the first n numbers, or all where there are fewer
abbrev pub DropsNumbers : Option (List ℕ) → Option (List ℕ) → ℕ → Type 0
DropsNumbers None new n = ⊤
DropsNumbers (Some xs) None n = ⊥
DropsNumbers (Some xs) (Some ys) n = ys ≡ drop (8 * n) xs

-- an element is one that number i of the bytes makes
unfoldable pub MadeOf : {T : Type 0} → (ℕ → T → Type 0) → List ℕ → ℕ → T → Type 0
MadeOf makes bytes i x = (w : ℕ) × (w < 2 ^ 64) × (w ≡ nth_number bytes i) × makes w x
