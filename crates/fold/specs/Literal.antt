-- Literals by their size, masks of one run of ones, and the literal at a node: what an instruction can take in (01, "Values", "Emission rules").
use Rattle.insns.specs.declared.op.Imm16.{Imm16}
use Rattle.std.specs.Prelude.{◌≡◌, Bool, cond, ◌&&◌, ℕ, zero, suc, ◌+◌, ◌-◌, ◌*◌, ◌/◌, ◌%◌, ◌^◌, ◌<◌, ◌≤◌, eqb, ltb, leb, ℤ, pos, negsuc, Option, Some, None}
use Rattle.std.specs.Int.Signed.{mag}
use Rattle.table.specs.Tree.{nil, yep, nope, int, float, ref, Tree, leaf, unary, binary, ternary}

-- ---- sizes: `mag z` is n of n and of -(n + 1), so each range is one bound

-- -32,768 to 32,767
abbrev pub fits16 : ℤ → Bool
fits16 z = ltb (mag z) 32768

-- -2^37 to 2^37 - 1
abbrev pub fits_imm40 : ℤ → Bool
fits_imm40 z = ltb (mag z) (2 ^ 37)

-- -2^61 to 2^61 - 1
abbrev pub is_fixnum : ℤ → Bool
is_fixnum z = ltb (mag z) (2 ^ 61)

-- ---- one run of ones

-- a run of len ones from bit lo up: z is positive and 2^lo (2^len - 1), with lo + len at most 62
pub record OneRun (z : ℤ) (lo len : ℕ) : Type 0 where
  pub is : z ≡ pos (2 ^ lo * (2 ^ len - 1))
  pub positive : 0 < 2 ^ lo * (2 ^ len - 1)
  pub short : lo + len ≤ 62

-- How a run is found (`bit_run`), as a definition that computes. That it gives `Some (lo, len)` exactly where z is that run, and `None` exactly where z
-- is no run, is proved (proofs/literal/Runs: `run-exactly`, `run_none`), so it need not be checked against 01.

-- how many bits equal to b stand first in a number, from the lowest; at most f are counted
unfoldable pub bits : ℕ → ℕ → ℕ → ℕ
bits b zero n = 0
bits b (suc f) n = cond (eqb (n % 2) b) (suc (bits b f (n / 2))) 0

-- nothing stands above the len ones from lo up, and they end at bit 62 or below
unfoldable pub run_at : ℕ → ℕ → ℕ → Option (ℕ × ℕ)
run_at m lo len = cond (eqb (m / 2 ^ lo / 2 ^ len) 0 && leb (lo + len) 62) (Some (lo, len)) None

unfoldable pub run_from : ℕ → ℕ → Option (ℕ × ℕ)
run_from m lo = run_at m lo (bits 1 64 (m / 2 ^ lo))

unfoldable pub bit_run : ℤ → Option (ℕ × ℕ)
bit_run (pos m) = cond (eqb m 0) None (run_from m (bits 0 64 m))
bit_run (negsuc m) = None

-- ---- the literal at a node

-- an Int
unfoldable pub lit_of : Tree → Option ℤ
lit_of (leaf nil) = None
lit_of (leaf yep) = None
lit_of (leaf nope) = None
lit_of (leaf (int z)) = Some z
lit_of (leaf (float p)) = None
lit_of (leaf (ref r)) = None
lit_of (unary o a) = None
lit_of (binary o a b) = None
lit_of (ternary c a b) = None

-- a constant is a literal; what folds is a fixnum (`const_value`)
abbrev pub fixnum : Option ℤ → Option ℤ
fixnum (Some z) = cond (is_fixnum z) (Some z) None
fixnum None = None

abbrev pub const_of : Tree → Option ℤ
const_of t = fixnum (lit_of t)

-- an Int of 16 bits
abbrev pub imm_of : ℤ → Option Imm16
imm_of z = cond (fits16 z) (Some (record { n = z })) None

abbrev pub imm_lit : Option ℤ → Option Imm16
imm_lit (Some z) = imm_of z
imm_lit None = None

abbrev pub as_imm16 : Tree → Option Imm16
as_imm16 t = imm_lit (lit_of t)

-- a shift's amount, 0 to 63
abbrev pub amount_of : ℤ → Option ℕ
amount_of (pos n) = cond (ltb n 64) (Some n) None
amount_of (negsuc n) = None

abbrev pub amount_lit : Option ℤ → Option ℕ
amount_lit (Some z) = amount_of z
amount_lit None = None
