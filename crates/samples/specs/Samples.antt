-- The starred samples of document 01 as one list: what the definitions give, and what 01 says, both written out as numbers.
use Rattle.faults.specs.declared.Fault.{Fault}
use Rattle.insns.specs.declared.Insn.{Insn}
use Rattle.std.specs.Prelude.{false, List, [], ◌∷◌, ◌++◌, ℕ, zero, suc, ◌+◌, ◌-◌, ◌*◌, ◌^◌, length, get_or, pos, Option, Some, None, Result, Ok, Err}
use Rattle.value.specs.Value.{kind_of, payload_of}
use Rattle.value.specs.Answer.{Answer, is, fault}
use Rattle.table.specs.Tree.{Tree, leaf, int, ref, binary, cmp, lt}
use Rattle.insns.specs.declared.op.Op.{Op}
use Rattle.insns.specs.declared.op.Three.TheVariants as Three
use Rattle.insns.specs.declared.op.Shift.TheVariants as Shift
use Rattle.insns.specs.declared.op.Slot.TheVariants as Slot
use Rattle.insns.specs.declared.op.Cmp.TheVariants as Cmp
use Rattle.insns.specs.Insns.{made_of}
use Rattle.decode.specs.Patch.{aim_word}
use Rattle.eval.specs.Evaluate.{evaluate_of}
use Rattle.emit.specs.State.{Res, done, fail, State}
use Rattle.codegen.specs.Gen.{gen}
use Rattle.compile.specs.Compile.{start, compile_of}
use Rattle.machine.specs.Run.{Out, out, run_of}
use Rattle.faults.specs.Numbers.{number}
use Rattle.faults.specs.Numbers as Numbers

-- ---- answers as numbers

-- a compile of a table with so many parameters: 0, register, frame, number of slots, and the words; or the number of a refusal
abbrev pub shown : Res (ℕ × State) → List ℕ
shown (done x) = 0 ∷ x.0 ∷ x.1.frame ∷ length x.1.slots ∷ x.1.words
shown (fail f) = number f ∷ []

abbrev pub compiled : ℕ → List ℕ → List ℕ
compiled params table = shown (compile_of table params 0 None 8 8 8)

-- the words of a test that jumps if false, of register 0
abbrev pub shown_words : Res (List ℕ × State) → List ℕ
shown_words (done x) = x.1.words
shown_words (fail f) = number f ∷ []

abbrev pub tested : Tree → List ℕ
tested t = shown_words ((gen t).branch false 8 (start 8 8 1))

-- an evaluation: 0, kind and payload; or the number of a fault
abbrev pub valued : Answer → List ℕ
valued (is v) = 0 ∷ kind_of v ∷ payload_of v ∷ []
valued (fault f) = number f ∷ []

-- a run of the words of such a compile, on these registers: its number, and the pair in the register
abbrev pub ended : ℕ → Out → List ℕ
ended r (out ran ks ps) = Numbers.number_of ran.end ∷ get_or ks r 0 ∷ get_or ps r 0 ∷ []

abbrev pub ran : List ℕ → List ℕ → Res (ℕ × State) → List ℕ
ran ks ps (done x) = ended x.0 (run_of x.1.words [] [] (length x.1.words) 0 ks ps)
ran ks ps (fail f) = number f ∷ []

-- a branch aimed from a position at a target: 0, or the number of a refusal
abbrev pub aim : Result ℕ Fault → ℕ
aim (Ok w) = 0
aim (Err f) = number f

abbrev pub aimed : ℕ → ℕ → List ℕ
aimed at target = aim (aim_word 0x33 at target) ∷ []

-- the word of an instruction
abbrev pub bits_of : Option Insn → ℕ
bits_of (Some w) = w.bits
bits_of None = 0

abbrev pub word : Op → ℕ
word i = bits_of (made_of i)

-- load_imm40 of raw bits
abbrev pub load : ℕ → ℕ → ℕ
load d raw = word (Op.LoadImm40 d (record { raw = pos raw }))

-- ---- tables: kind, payload, first, depth of each node

abbrev pub node : ℕ → ℕ → ℕ → ℕ → List ℕ
node kind payload first depth = kind ∷ payload ∷ first ∷ depth ∷ []

-- register 0, an operator of that kind, and the literal n
abbrev pub with_int : ℕ → ℕ → List ℕ
with_int kind n = node 5 0 0 1 ++ node 3 n 1 1 ++ node kind 0 0 2

-- a < b ? 1 : 2
abbrev pub choice : List ℕ
choice = node 5 0 0 1 ++ node 5 1 1 1 ++ node 20 0 0 2 ++ node 3 1 3 1 ++ node 3 2 4 1 ++ node 26 0 0 3

-- !(a >= b) ? 1 : 2
abbrev pub otherwise : List ℕ
otherwise = node 5 0 0 1 ++ node 5 1 1 1 ++ node 23 0 0 2 ++ node 7 0 0 3 ++ node 3 1 4 1 ++ node 3 2 5 1 ++ node 26 0 0 4

abbrev pub nan : ℕ
nan = 0x7FF8_0000_0000_0000

-- ---- the samples: what the definitions give, and what 01 says

abbrev pub samples : List (List ℕ × List ℕ)
samples =
    -- 1: a + 5
    (compiled 1 (with_int 13 5), 0 ∷ 1 ∷ 2 ∷ 0 ∷ 5497558139159 ∷ [])
    -- 2: a + 32,768: load_imm40 1, raw 131,072; add 1, 0, 1
    ∷ (compiled 1 (with_int 13 32768), 0 ∷ 1 ∷ 2 ∷ 0 ∷ load 1 131072 ∷ word (Op.Three Three.Add 1 0 1) ∷ [])
    -- 3: a < b ? 1 : 2
    ∷ (compiled 2 choice, 0 ∷ 2 ∷ 3 ∷ 0 ∷ 0x0000020001000033 ∷ 0x04000203 ∷ 0x0000000000000141 ∷ 0x08000203 ∷ [])
    -- 4: in that tree a NaN gives 2, evaluated and run; !(a >= b) ? 1 : 2 gives 1
    ∷ (valued (evaluate_of choice 2 0 (3 ∷ 2 ∷ []) (nan ∷ 7 ∷ [])), 0 ∷ 2 ∷ 2 ∷ [])
    ∷ (ran (3 ∷ 2 ∷ 0 ∷ []) (nan ∷ 7 ∷ 0 ∷ []) (compile_of choice 2 0 None 8 8 8), 0 ∷ 2 ∷ 2 ∷ [])
    ∷ (valued (evaluate_of otherwise 2 0 (3 ∷ 2 ∷ []) (nan ∷ 7 ∷ [])), 0 ∷ 2 ∷ 1 ∷ [])
    ∷ (ran (3 ∷ 2 ∷ 0 ∷ []) (nan ∷ 7 ∷ 0 ∷ []) (compile_of otherwise 2 0 None 8 8 8), 0 ∷ 2 ∷ 1 ∷ [])
    -- 5: a test 5 < a, jumping if false: jngt_imm16 on a, 5
    ∷ (tested (binary (cmp lt) (leaf (int (pos 5))) (leaf (ref 0))), word (Op.JumpImm Cmp.Ngt 0 (record { n = pos 5 }) (record { by = pos 0 })) ∷ [])
    -- 6: a & 0xFF0 has lo 4 and len 8; a & 5 is not folded
    ∷ (compiled 1 (with_int 8 0xFF0), 0 ∷ 1 ∷ 2 ∷ 0 ∷ word (Op.BitAndMask 1 0 4 8) ∷ [])
    ∷ (compiled 1 (with_int 8 5), 0 ∷ 1 ∷ 2 ∷ 0 ∷ load 1 20 ∷ word (Op.Three Three.BitAnd 1 0 1) ∷ [])
    -- 7: the mask 2^61 - 1 folds (0, 61); 2^61 is a run, yet no fixnum
    ∷ (compiled 1 (with_int 8 (2 ^ 61 - 1)), 0 ∷ 1 ∷ 2 ∷ 0 ∷ word (Op.BitAndMask 1 0 0 61) ∷ [])
    ∷ (compiled 1 (with_int 8 (2 ^ 61)), 0 ∷ 1 ∷ 2 ∷ 1 ∷ word (Op.Slot Slot.LoadConst 1 0) ∷ word (Op.Three Three.BitAnd 1 0 1) ∷ [])
    -- 8: 2^37 - 1 is immediate, 2^37 takes a slot
    ∷ (compiled 0 (node 3 (2 ^ 37 - 1) 0 1), 0 ∷ 1 ∷ 2 ∷ 0 ∷ load 1 (4 * (2 ^ 37 - 1)) ∷ [])
    ∷ (compiled 0 (node 3 (2 ^ 37) 0 1), 0 ∷ 1 ∷ 2 ∷ 1 ∷ word (Op.Slot Slot.LoadConst 1 0) ∷ [])
    -- 9: a branch from 0 to 8,388,608 fits 24 bits, to 8,388,609 is 8; from 8,388,607 to 0 fits, from 8,388,608 is 8
    ∷ (aimed 0 8388608, 0 ∷ [])
    ∷ (aimed 0 8388609, 8 ∷ [])
    ∷ (aimed 8388607 0, 0 ∷ [])
    ∷ (aimed 8388608 0, 8 ∷ [])
    -- 10: Minus of -2^63
    ∷ (valued (evaluate_of (node 3 (2 ^ 63) 0 1 ++ node 6 0 0 2) 0 0 [] []), 21 ∷ [])
    ∷ []

-- ---- each number of compile has a table: 1 to 7, in 01's words

-- so many nodes, each Not of the one before it, the first of this depth
unfoldable pub nots_from : ℕ → ℕ → List ℕ
nots_from depth zero = []
nots_from depth (suc n) = node 7 0 0 depth ++ nots_from (suc depth) n

-- n nodes: True, and Not of the one before for each other; the last has depth n
abbrev pub nots : ℕ → List ℕ
nots n = node 1 0 0 1 ++ nots_from 2 (n - 1)

-- a compile without a destination, by its parameters and its room for jumps, words and constants
abbrev pub answered : List ℕ → ℕ → ℕ → ℕ → ℕ → List ℕ
answered table params places cap slot_cap = shown (compile_of table params 0 None places cap slot_cap)

abbrev pub refused : List (List ℕ × List ℕ)
refused =
    -- 1: table empty; not a multiple of 4 words
    (answered [] 1 8 8 8, 1 ∷ [])
    ∷ (answered (0 ∷ []) 1 8 8 8, 1 ∷ [])
    -- 2: unknown kind, non-zero payload, missing child, wrong first, wrong depth, last node's first not 0
    ∷ (answered (node 27 0 0 1) 1 8 8 8, 2 ∷ [])
    ∷ (answered (node 0 1 0 1) 1 8 8 8, 2 ∷ [])
    ∷ (answered (node 6 0 0 2) 1 8 8 8, 2 ∷ [])
    ∷ (answered (node 0 0 1 1) 1 8 8 8, 2 ∷ [])
    ∷ (answered (node 0 0 0 2) 1 8 8 8, 2 ∷ [])
    ∷ (answered (node 0 0 0 1 ++ node 0 0 1 1) 1 8 8 8, 2 ∷ [])
    -- 3: depth over 200 (02, W7); a depth that is wrong is 2, whatever its size
    ∷ (answered (nots 201) 1 8 8 8, 3 ∷ [])
    ∷ (answered (nots 199 ++ node 7 0 0 201) 1 8 8 8, 2 ∷ [])
    -- 4: Ref or destination not below the base
    ∷ (answered (node 5 1 0 1) 1 8 8 8, 4 ∷ [])
    ∷ (shown (compile_of (node 0 0 0 1) 1 0 (Some 1) 8 8 8), 4 ∷ [])
    -- 5: parameters plus locals, or an allocation, pass 65,535 registers
    ∷ (answered (node 0 0 0 1) 65536 8 8 8, 5 ∷ [])
    ∷ (answered (node 0 0 0 1) 65535 8 8 8, 5 ∷ [])
    -- 6: no constant slot left
    ∷ (answered (node 3 (2 ^ 37) 0 1) 1 8 8 0, 6 ∷ [])
    -- 7: no room for a word, or for a jump
    ∷ (answered (node 0 0 0 1) 1 8 0 8, 7 ∷ [])
    ∷ (answered choice 2 0 8 8, 7 ∷ [])
    -- 5 before 6 before 7: a literal asks for its register, then its slot, then its word
    ∷ (answered (node 3 (2 ^ 37) 0 1) 65535 8 0 0, 5 ∷ [])
    ∷ (answered (node 3 (2 ^ 37) 0 1) 1 8 0 0, 6 ∷ [])
    ∷ []

-- ---- the samples without a star, but for 65,536 nodes and 65,537 (02, W7)

-- the number alone
abbrev pub number_of : Res (ℕ × State) → List ℕ
number_of (done x) = 0 ∷ []
number_of (fail f) = number f ∷ []

-- a report: number, steps, position
abbrev pub report : Out → List ℕ
report (out r ks ps) = Numbers.number_of r.end ∷ r.steps ∷ r.position ∷ []

abbrev pub unstarred : List (List ℕ × List ℕ)
unstarred =
    -- 11: Nil with base 65,534: accepted, frame 65,535; base 65,535: 5
    (answered (node 0 0 0 1) 65534 8 8 8, 0 ∷ 65534 ∷ 65535 ∷ 0 ∷ load 65534 1 ∷ [])
    ∷ (answered (node 0 0 0 1) 65535 8 8 8, 5 ∷ [])
    -- 12: depth 200 accepted (02, W7); that 201 is 3 stands with the refusals
    ∷ (number_of (compile_of (nots 200) 1 0 None 8 200 8), 0 ∷ [])
    -- 13: a << 63 folds; a << 64 compiles in general form and faults 24, evaluated and run
    ∷ (compiled 1 (with_int 11 63), 0 ∷ 1 ∷ 2 ∷ 0 ∷ word (Op.Shift Shift.Left 1 0 63) ∷ [])
    ∷ (compiled 1 (with_int 11 64), 0 ∷ 1 ∷ 2 ∷ 0 ∷ load 1 256 ∷ word (Op.Three Three.Lshift 1 0 1) ∷ [])
    ∷ (valued (evaluate_of (with_int 11 64) 1 0 (2 ∷ []) (7 ∷ [])), 24 ∷ [])
    ∷ (ran (2 ∷ 0 ∷ []) (7 ∷ 0 ∷ []) (compile_of (with_int 11 64) 1 0 None 8 8 8), 24 ∷ 2 ∷ 64 ∷ [])
    -- 14: a lone Ref: no words, no steps, budget 0 is enough
    ∷ (answered (node 5 0 0 1) 1 0 0 0, 0 ∷ 0 ∷ 1 ∷ 0 ∷ [])
    ∷ (report (run_of [] [] [] 0 0 (2 ∷ []) (7 ∷ [])), 0 ∷ 0 ∷ 0 ∷ [])
    ∷ []

-- ---- 02, W2: equal constants share a slot

-- the sum of two literals, each of a node's kind and payload
abbrev sum : ℕ → ℕ → ℕ → ℕ → List ℕ
sum k p l q = node k p 0 1 ++ node l q 1 1 ++ node 13 0 0 2

abbrev tenth : ℕ
tenth = 0x3FB999999999999A

-- the greatest Int that takes no slot
abbrev most : ℕ
most = 2 ^ 37 - 1

-- such a compile: its loads are of these slots
abbrev of_slots : ℕ → ℕ → ℕ → List ℕ
of_slots slots a b = 0 ∷ 1 ∷ 3 ∷ slots ∷ word (Op.Slot Slot.LoadConst 1 a) ∷ word (Op.Slot Slot.LoadConst 2 b) ∷ word (Op.Three Three.Add 1 1 2) ∷ []

abbrev pub sharing : List (List ℕ × List ℕ)
sharing =
    -- 0.1 + 0.1 with one slot, and with none
    (answered (sum 4 tenth 4 tenth) 1 8 8 1, of_slots 1 0 0)
    ∷ (answered (sum 4 tenth 4 tenth) 1 8 8 0, 6 ∷ [])
    -- 0.0 + -0.0, an Int and a Float of one pattern: two slots
    ∷ (answered (sum 4 0 4 (2 ^ 63)) 1 8 8 1, 6 ∷ [])
    ∷ (answered (sum 4 0 4 (2 ^ 63)) 1 8 8 2, of_slots 2 0 1)
    ∷ (answered (sum 3 0x3FF0000000000000 4 0x3FF0000000000000) 1 8 8 1, 6 ∷ [])
    ∷ (answered (sum 3 0x3FF0000000000000 4 0x3FF0000000000000) 1 8 8 2, of_slots 2 0 1)
    -- 2^37 - 1 twice: no slot
    ∷ (answered (sum 3 most 3 most) 1 8 8 0, 0 ∷ 1 ∷ 3 ∷ 0 ∷ load 1 (4 * most) ∷ load 2 (4 * most) ∷ word (Op.Three Three.Add 1 1 2) ∷ [])
    -- 5 comes before the shared slot is looked for, 7 after it
    ∷ (answered (sum 4 tenth 4 tenth) 65534 8 8 1, 5 ∷ [])
    ∷ (answered (sum 4 tenth 4 tenth) 1 8 1 1, 7 ∷ [])
    ∷ []
