-- Plumbing: how the code aims a word. It tests the displacement at 32 bits first, then changes the displacement's field of the word as a number, without
-- taking the word apart. That this is what `aim_word` of specs/Patch says is shown in proofs/patch/Field.
use Rattle.faults.specs.declared.Fault.{Fault}
use Rattle.std.specs.Prelude.{ℕ, ◌+◌, ◌*◌, ◌≤◌, ◌<◌, ◌^◌, cond, ltb, Option, Some, None, Result, Ok, Err}
use Rattle.std.specs.Int.Signed.{mag}
use Rattle.faults.specs.Numbers.{undecoded, not_branch, too_far}
use Rattle.insns.specs.Bits.{twos}
use Rattle.insns.specs.declared.op.Disp.{Disp}
use Rattle.insns.specs.declared.op.Op.{Op}
use Rattle.decode.specs.Patch.{difference, is_branch, aimed_decoded}
use Rattle.decode.specs.declared.patch.Branch.{Branch}

-- the displacement from a position to a target, if 32 bits hold it; `mag z` is n for z = n and for z = -(n + 1)
unfoldable pub reach_of : ℕ → ℕ → Option Disp
reach_of at target = cond (ltb (mag (difference at target)) (2 ^ 31)) (Some (record { by = difference at target })) None

-- a word aimed by a displacement, or one that is too far for every branch
abbrev pub unreached : Option Op → Result ℕ Fault
unreached (Some i) = cond (is_branch i) (Err too_far) (Err not_branch)
unreached None = Err undecoded

abbrev pub aimed_by : Option Op → Option Disp → Result ℕ Fault
aimed_by d (Some disp) = aimed_decoded d disp.by
aimed_by d None = unreached d

-- a word that is no branch
abbrev pub unaimed : Option Op → Result ℕ Fault
unaimed (Some i) = Err not_branch
unaimed None = Err undecoded

-- the bits below a field of 2 * half numbers, of which one is worth `place` in the word
pub record Place (low place half : ℕ) : Type 0 where
  pub below : low < place
  pub room : place * (2 * half) ≤ 2 ^ 64
  pub small : half ≤ 2 ^ 31

-- the bits below the field, and in it the displacement
unfoldable pub aim_field : ℕ → ℕ → ℕ → Option Disp → Result ℕ Fault
aim_field low place half (Some disp) = cond (ltb (twos half disp.by) (2 * half)) (Ok (low + place * twos half disp.by)) (Err too_far)
aim_field low place half None = Err too_far

-- a branch with a displacement
abbrev pub branch_by : Branch → Disp → Op
branch_by (Branch.If k val) disp = Op.If k val disp
branch_by (Branch.Jump k a b) disp = Op.Jump k a b disp
branch_by (Branch.JumpImm k a imm) disp = Op.JumpImm k a imm disp
branch_by Branch.Jmp disp = Op.Jmp disp
