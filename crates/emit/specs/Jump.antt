-- Branches and patching: the steps that the generator's rules of branches are made of. A branch is emitted with displacement 0, and its position is
-- kept in a list until its target is known.
use Rattle.insns.specs.declared.Insn.{Insn}
use Rattle.std.specs.Prelude.{Bool, true, false, cond, List, [], ◌∷◌, ◌++◌, ℕ, ltb, pos, Option}
use Rattle.faults.specs.Numbers.{no_room}
use Rattle.insns.specs.declared.op.Op.{Op}
use Rattle.insns.specs.declared.op.Cmp.{Cmp as JumpCmp}
use Rattle.insns.specs.declared.op.Disp.{Disp}
use Rattle.insns.specs.declared.op.Sense.{Sense}
use Rattle.insns.specs.Insns.{made_of}
use Rattle.decode.specs.Patch.{patch_of, patch_all, Patching}
use Rattle.fold.specs.declared.How.{How}
use Rattle.emit.specs.State.{Res, done, fail, bind as ◌>>=◌, checked, State, here, with_words, release, store_d, emit_d}
use Rattle.emit.specs.Steps.{load_op, raw_true, raw_false}

-- ---- patching

-- the words that patching left, or its fault (8, 10, 11, 12)
unfoldable pub patched_d : Patching → ℕ → State → Res (ℕ × State)
patched_d r d s = checked r.answer (d, with_words r.words s)

-- the branch at p goes to the next word (`patch_jump`)
abbrev pub patch_d : ℕ → ℕ → State → Res (ℕ × State)
patch_d p d s = patched_d (patch_of s.words p (here s)) d s

-- each branch of the list does (`patch_jumps`)
abbrev pub patches_d : List ℕ → ℕ → State → Res (ℕ × State)
patches_d ps d s = patched_d (patch_all s.words ps (here s)) d s

-- ---- branches

-- the displacement that is patched later
abbrev pub to_patch : Disp
to_patch = record { by = pos 0 }

abbrev pub sense_of : Bool → Sense
sense_of sense = cond sense Sense.Yes Sense.No

abbrev pub jmp_op : Op
jmp_op = Op.Jmp to_patch

-- a branch, whose position is the one jump of the list that is given back; 7 where the jump list has no room for it
unfoldable pub leap_d : Option Insn → ℕ → State → Res (List ℕ × State)
leap_d made room s = cond (ltb 0 room) (do (_, s₁) ← store_d made 0 s; done (here s ∷ [], s₁)) (fail no_room)

abbrev pub jump_d : Op → ℕ → State → Res (List ℕ × State)
jump_d op room s = leap_d (made_of op) room s

-- a branch that tests one register: as a Bool, or against a literal
abbrev pub how_op : How → ℕ → Op
how_op (How.Bool sense) a = Op.If (sense_of sense) a to_patch
how_op (How.Imm c n) a = Op.JumpImm c a n to_patch

-- the last operand is in the register x .0: its registers are released, and the branch follows
unfoldable pub leap_to : (ℕ → Op) → ℕ → ℕ → ℕ × State → Res (List ℕ × State)
leap_to op room mark x = jump_d (op x.0) room (release mark x.1)

-- a branch on one register
abbrev pub one_to : How → ℕ → ℕ → ℕ × State → Res (List ℕ × State)
one_to how room mark = leap_to (how_op how) room mark

-- one on two registers; the left operand is in a
abbrev pub pair_to : JumpCmp → ℕ → ℕ → ℕ → ℕ × State → Res (List ℕ × State)
pair_to c a room mark = leap_to (λ b. Op.Jump c a b to_patch) room mark

-- both sides of And or Or are made: the left side's jumps l go where the right side's go, or only skip the right side
unfoldable pub junction_to : Bool → List ℕ → List ℕ × State → Res (List ℕ × State)
junction_to true l y = done (l ++ y.0, y.1)
junction_to false l y = do
  (_, s) ← patches_d l 0 y.1
  done (y.0, s)

-- ---- a condition as a value: its branch is made, with the jumps js; load False, jmp, load True

-- the second half: the jumps land on the load of True, and the jmp at p behind it
unfoldable pub true_d : List ℕ → ℕ → ℕ → State → Res (ℕ × State)
true_d js p d s = do
  (_, s₁) ← patches_d js d s
  (_, s₂) ← emit_d (load_op raw_true d) d s₁
  patch_d p d s₂

unfoldable pub bool_d : List ℕ → ℕ → State → Res (ℕ × State)
bool_d js d s = do
  (_, s₁) ← emit_d (load_op raw_false d) d s
  (_, s₂) ← emit_d jmp_op d s₁
  true_d js (here s₁) d s₂

-- ---- Ternary: the then side is made; jmp over the else side, where the test's jumps js go
unfoldable pub turn_d : List ℕ → ℕ → State → Res (ℕ × State)
turn_d js d s = do
  (_, s₁) ← emit_d jmp_op d s
  patches_d js d s₁
