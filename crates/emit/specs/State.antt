-- The generator's state, and the steps that change it: registers, constant slots, words. A step gives an answer and the state after it, or a refusal.
use Rattle.insns.specs.declared.Insn.{Insn}
use Rattle.std.specs.Prelude.{Bool, false, cond, List, [], ◌∷◌, ◌++◌, ℕ, suc, ◌+◌, max, ltb, eqb, ℤ, pos, negsuc, length, Option, Some, None, Ok, Err}
use Rattle.faults.specs.declared.Fault.{Fault}
use Rattle.faults.specs.Numbers.{no_register, no_slot, no_room, no_fit}
use Rattle.faults.specs.Faults.{Checked}
use Rattle.faults.specs.Limits.{max_registers}
use Rattle.value.specs.Value.{Datum, nil, bool, int, float}
use Rattle.insns.specs.declared.op.Op.{Op}
use Rattle.insns.specs.Insns.{made_of}

-- an answer, or the fault of a refusal
pub data Res (A : Type 0) : Type 0 where
  done : A → Res A
  fail : Fault → Res A

-- one step after another: a refusal ends them. A `do` block writes it `x ← step`
abbrev pub bind : {A B : Type 0} → Res A → (A → Res B) → Res B
bind (done a) k = k a
bind (fail f) k = fail f

-- a step that answers nothing, as far as it is not refused
abbrev pub checked : {A : Type 0} → Checked → A → Res A
checked (Ok u) a = done a
checked (Err f) a = fail f

-- The words and the constants so far, how many of each there is room for, the next free register and the highest register count.
pub record State : Type 0 where
  pub words : List ℕ
  pub cap : ℕ
  pub slots : List Datum
  pub slot_cap : ℕ
  pub next : ℕ
  pub frame : ℕ

-- the position of the next word
abbrev pub here : State → ℕ
here s = length s.words

-- with other words, other constants, other registers
abbrev pub with_words : List ℕ → State → State
with_words ws s =
    record { words = ws; cap = s.cap; slots = s.slots; slot_cap = s.slot_cap; next = s.next; frame = s.frame }

abbrev pub with_slots : List Datum → State → State
with_slots ks s =
    record { words = s.words; cap = s.cap; slots = ks; slot_cap = s.slot_cap; next = s.next; frame = s.frame }

abbrev pub with_registers : ℕ → ℕ → State → State
with_registers next frame s =
    record { words = s.words; cap = s.cap; slots = s.slots; slot_cap = s.slot_cap; next = next; frame = frame }

-- the registers from m up are free again (`free_to`)
abbrev pub release : ℕ → State → State
release m s = with_registers m s.frame s

-- the first free register (`alloc`); 5 where there is none. The frame is the highest register count so far
unfoldable pub alloc_d : State → Res (ℕ × State)
alloc_d s =
    cond (ltb s.next max_registers)
    (done (s.next, with_registers (s.next + 1) (max s.frame (s.next + 1)) s))
    (fail no_register)

-- the register that is asked for, or the first free one
unfoldable pub dest_d : Option ℕ → State → Res (ℕ × State)
dest_d (Some d) s = done (d, s)
dest_d None s = alloc_d s

-- ---- constants

-- two constants are one: both Ints or both Floats, with one payload, bit for bit
abbrev pub same_int : ℤ → ℤ → Bool
same_int (pos a) (pos b) = eqb a b
same_int (pos a) (negsuc b) = false
same_int (negsuc a) (pos b) = false
same_int (negsuc a) (negsuc b) = eqb a b

abbrev pub alike : Datum → Datum → Bool
alike nil y = false
alike (bool b) y = false
alike (int a) nil = false
alike (int a) (bool b) = false
alike (int a) (int b) = same_int a b
alike (int a) (float q) = false
alike (float p) nil = false
alike (float p) (bool b) = false
alike (float p) (int b) = false
alike (float p) (float q) = eqb p q

-- the first slot that holds c; the place after the last where none does
unfoldable pub seek : Datum → List Datum → ℕ
seek c [] = 0
seek c (x ∷ xs) = cond (alike x c) 0 (suc (seek c xs))

-- what c adds to the slots: nothing where one holds it already
abbrev pub fresh : Datum → List Datum → List Datum
fresh c ks = cond (ltb (seek c ks) (length ks)) [] (c ∷ [])

-- the slot of c, whose place is given back (`push_const`): the first that holds it, or else a new one; 6 where there is none
unfoldable pub slot_d : Datum → State → Res (ℕ × State)
slot_d c s =
    cond (ltb (seek c s.slots) (length s.slots))
    (done (seek c s.slots, s))
    (cond (ltb (length s.slots) s.slot_cap)
    (done (length s.slots, with_slots (s.slots ++ (c ∷ [])) s))
    (fail no_slot))

-- one word more; 9 where an operand does not fit its field, 7 where there is no room. The register d, whose value the word makes, is the answer
unfoldable pub store_d : Option Insn → ℕ → State → Res (ℕ × State)
store_d None d s = fail no_fit
store_d (Some w) d s = cond (ltb (here s) s.cap) (done (d, with_words (s.words ++ (w.bits ∷ [])) s)) (fail no_room)

-- the word of an instruction (`emit`)
abbrev pub emit_d : Op → ℕ → State → Res (ℕ × State)
emit_d op d s = store_d (made_of op) d s
