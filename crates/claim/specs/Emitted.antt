-- 01: "It runs nop and every opcode that the generator emits." Which opcodes these are, and that the machine runs no other.
use Rattle.std.specs.Prelude.{◌≡◌, Bool, true, false, not, ◌&&◌, ◌||◌, List, ℕ, ◌%◌, ◌<◌, leb, eqb, length, get_or, Option, Some}
use Rattle.value.specs.Answer.{Answer}
use Rattle.insns.specs.declared.op.Op.{Op}
use Rattle.insns.specs.Opcodes.{op_of}
use Rattle.insns.specs.Insns.{form_of, made_of}
use Rattle.effect.specs.Effect.{Effect, write, branch, next, halt, effect_of}
use Rattle.emit.specs.State.{State}
use Rattle.claim.specs.Claim.{Accepted}

-- ---- the 44 opcodes that the generator emits, by their numbers in 001

abbrev pub between : ℕ → ℕ → ℕ → Bool
between low high op = leb low op && leb op high

-- load_imm40 to load_const; lshift to bit_xor; lshift_imm to not; if_true to jmp
abbrev pub is_emitted : ℕ → Bool
is_emitted op = between 3 5 op || between 8 12 op || between 14 26 op || between 43 65 op

abbrev pub is_nop : ℕ → Bool
is_nop op = eqb op 2

abbrev pub opcode_of : Op → ℕ
opcode_of i = op_of (form_of i)

-- ---- what is claimed

-- the machine stops at the instruction itself: 27 or 28
abbrev pub halts : Effect → Bool
halts (write d r) = false
halts (branch z r) = false
halts next = false
halts (halt n) = true

-- word k of an accepted table is that of an instruction whose opcode is one of these
pub record IsEmitted (s : State) (k : ℕ) : Type 0 where
  pub insn : Op
  pub word : made_of insn ≡ Some (record { bits = get_or s.words k 0 })
  pub among : is_emitted (opcode_of insn) ≡ true

-- some accepted table has a word with this opcode, its low byte
pub record EmittedBySome (op : ℕ) : Type 0 where
  pub table : List ℕ
  pub params : ℕ
  pub dest : Option ℕ
  pub register : ℕ
  pub state : State
  pub accepted : Accepted table params 0 dest register state
  pub at : ℕ
  pub inside : at < length state.words
  pub opcode : get_or state.words at 0 % 256 ≡ op

pub record RunsWhatIsEmitted : Type 0 where
  pub runs : (reg slot : ℕ → Answer) (i : Op) → halts (effect_of reg slot i) ≡ not (is_nop (opcode_of i) || is_emitted (opcode_of i))
  pub only :
      (ws : List ℕ) (params locals : ℕ) (dest : Option ℕ) (r : ℕ) (s : State) → Accepted ws params locals dest r s →
      (k : ℕ) → k < length s.words → IsEmitted s k
  pub each : (op : ℕ) → is_emitted op ≡ true → EmittedBySome op
