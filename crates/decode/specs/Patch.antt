-- Patching: the branch word at a position gets the displacement that leads to a target. Four tests in 01's order, 12, 10, 11, 8; one word is changed,
-- or none.
use Rattle.faults.specs.declared.Fault.{Fault}
use Rattle.insns.specs.declared.Insn.{Insn}
use Rattle.std.specs.Prelude.{ℕ, Bool, true, false, ◌||◌, cond, List, [], ◌∷◌, ltb, ℤ, pos, negsuc, ◌+ℤ◌, length, get_or, set, Option, Some, None, Result, Ok, Err}
use Rattle.faults.specs.Numbers.{no_word, undecoded, not_branch, too_far}
use Rattle.insns.specs.Fields.{Width, Operand, Operands, ◌▸◌, fields, make}
use Rattle.insns.specs.Insns.{widths, form_of, operands_of}
use Rattle.insns.specs.Opcodes.{op_of}
use Rattle.insns.specs.declared.op.Op.{Op}
use Rattle.decode.specs.Decode.{decode_of}

-- target minus branch position minus one: `negsuc at` is -(at + 1)
abbrev pub difference : ℕ → ℕ → ℤ
difference at target = pos target +ℤ negsuc at

-- a branch is an instruction that declares a displacement
abbrev pub is_disp : Width → Bool
is_disp (Width.unsigned w) = false
is_disp (Width.signed w) = false
is_disp (Width.displacement w) = true
is_disp Width.i40 = false

abbrev pub has_disp : List Width → Bool
has_disp [] = false
has_disp (w ∷ ws) = is_disp w || has_disp ws

abbrev pub is_branch : Op → Bool
is_branch i = has_disp (widths (form_of i))

-- operands with another displacement z, and the word of a branch with it
abbrev pub or_disp : (w : Width) → Operand w → ℤ → Operand w
or_disp (Width.unsigned w) v z = v
or_disp (Width.signed w) v z = v
or_disp (Width.displacement w) v z = z
or_disp Width.i40 v z = v

abbrev pub with_disp : (ws : List Width) → Operands ws → ℤ → Operands ws
with_disp [] vs z = vs
with_disp (w ∷ ws) vs z = or_disp w vs.0 z ▸ with_disp ws vs.1 z

abbrev pub made_with : Op → ℤ → Option Insn
made_with i z = make (op_of (form_of i)) (fields (widths (form_of i)) (with_disp (widths (form_of i)) (operands_of i) z))

-- the field does not hold the displacement (8, where a constructor gives 9)
abbrev pub aimed_made : Option Insn → Result ℕ Fault
aimed_made (Some w) = Ok w.bits
aimed_made None = Err too_far

-- the word does not decode (10); it is no branch (11)
abbrev pub aimed_decoded : Option Op → ℤ → Result ℕ Fault
aimed_decoded (Some i) z = cond (is_branch i) (aimed_made (made_with i z)) (Err not_branch)
aimed_decoded None z = Err undecoded

-- the word w, which stands at a position, aimed at a target
unfoldable pub aim_word : ℕ → ℕ → ℕ → Result ℕ Fault
aim_word w at target = aimed_decoded (decode_of w) (difference at target)

-- what patching answers, and the words that it leaves
pub record Patching : Type 0 where
  pub answer : Result (Unit {0}) Fault
  pub words : List ℕ

abbrev pub put_aimed : Result ℕ Fault → List ℕ → ℕ → Patching
put_aimed (Ok w) ws at = record { answer = Ok tt; words = set ws at w }
put_aimed (Err f) ws at = record { answer = Err f; words = ws }

-- the word at a position aimed at a target; there is none (12)
unfoldable pub patch_of : List ℕ → ℕ → ℕ → Patching
patch_of ws at target = cond (ltb at (length ws)) (put_aimed (aim_word (get_or ws at 0) at target) ws at) (record { answer = Err no_word; words = ws })

abbrev pub is_done : Result (Unit {0}) Fault → Bool
is_done (Ok done) = true
is_done (Err f) = false

-- the words at a list of positions, all aimed at one target, from the first to the last. One that fails stops it with its fault: those before it
-- stay patched, it and those after it are as they were
unfoldable pub patch_all : List ℕ → List ℕ → ℕ → Patching
patch_all ws [] target = record { answer = Ok tt; words = ws }
patch_all ws (j ∷ js) target = cond (is_done (patch_of ws j target).answer) (patch_all (patch_of ws j target).words js target) (patch_of ws j target)
