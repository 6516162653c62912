-- What a call leaves in the caller's result cells: the number of the answer, and 0 in every cell wherever the number is not 0.
use Rattle.std.specs.Prelude.{◌≡◌, List, ℕ, zero, suc, min, length, Option, Some, None, Result, Ok, Err}
use Rattle.faults.specs.declared.Fault.{Fault}
use Rattle.faults.specs.Numbers.{number, number_of}
use Rattle.value.specs.Value.{kind_of, payload_of}
use Rattle.value.specs.Answer.{Answer}
use Rattle.emit.specs.State.{Res, State}
use Rattle.compile.specs.Compile.{compile_of}
use Rattle.compile.specs.Buffers.{answered, padded, words_of, kinds_of, payloads_of}
use Rattle.compile.specs.declared.buffers.Compiled.{Compiled}
use Rattle.machine.specs.Run.{Out, out}
use Rattle.insns.specs.Fields.{made_number}
use Rattle.insns.specs.declared.Insn.{Insn}
use Rattle.insns.specs.declared.op.Op.{Op}
use Rattle.decode.specs.Decode.{decoded_number}
use Rattle.operands.specs.OfOp.{plain, plain_op}
use Rattle.operands.specs.declared.of_op.PlainOp.{PlainOp}
use Rattle.vosemaqe.specs.declared.results.Report.{Report}
use Rattle.vosemaqe.specs.declared.results.Evaluated.{Evaluated}
use Rattle.vosemaqe.specs.declared.results.Operands.{Operands}
use Rattle.vosemaqe.specs.declared.results.Encoded.{Encoded}

-- a destination: 0 is none, r + 1 the register r
unfoldable pub dest_of : ℕ → Option ℕ
dest_of zero = None
dest_of (suc r) = Some r

-- ---- compiling: number, words, slots, register, frame

abbrev pub report : ℕ → ℕ → ℕ → ℕ → ℕ → Report
report n w s r f = record { number = n; words = w; slots = s; register = r; frame = f }

abbrev pub report_of : Result Compiled Fault → Report
report_of (Ok c) = report 0 c.words c.slots c.register c.frame
report_of (Err f) = report (number f) 0 0 0 0

-- the cells and the lent buffers, c words, k kinds and p payloads of them, as the call leaves them
pub record Reported (r : Report) (m : Res (ℕ × State)) (code kinds payloads : List ℕ) (c k p : ℕ) : Type 0 where
  pub answer : r ≡ report_of (answered m)
  pub words : code ≡ padded (words_of m) c
  pub slot_kinds : kinds ≡ padded (kinds_of m) k
  pub slot_payloads : payloads ≡ padded (payloads_of m) p

-- a table compiled with so many places for jumps into code, kinds and payloads: the cells r, and what the three hold at the end
abbrev pub CompilesTo : List ℕ → ℕ → ℕ → ℕ → ℕ → List ℕ → List ℕ → List ℕ → Report → List ℕ → List ℕ → List ℕ → Type 0
CompilesTo nodes params locals dest places code kinds payloads r code' kinds' payloads' =
    Reported r (compile_of nodes params locals (dest_of dest) places (length code) (min (length kinds) (length payloads)))
    code' kinds' payloads' (length code) (length kinds) (length payloads)

-- ---- evaluating: number, kind, payload

abbrev pub evaluated : ℕ → ℕ → ℕ → Evaluated
evaluated n k p = record { number = n; kind = k; payload = p }

abbrev pub evaluated_of : Answer → Evaluated
evaluated_of (Answer.is v) = evaluated 0 (kind_of v) (payload_of v)
evaluated_of (Answer.fault f) = evaluated (number f) 0 0

-- ---- running: number, steps, position, and the registers' kinds and payloads

pub data Ended : Type 0 where
  ended : ℕ → ℕ → ℕ → List ℕ → List ℕ → Ended

abbrev pub ended_of : Out → Ended
ended_of (out r ks ps) = ended (number_of r.end) r.steps r.position ks ps

-- ---- decoding: number, opcode, five operands

abbrev pub plain_in : Option Op → PlainOp
plain_in (Some i) = plain_op i
plain_in None = plain 0 0 0 0 0 0

abbrev pub operands : ℕ → PlainOp → Operands
operands n p = record { number = n; plain = p }

abbrev pub operands_of : Option Op → Operands
operands_of d = operands (decoded_number d) (plain_in d)

-- ---- encoding: number, word

abbrev pub word_in : Option Insn → ℕ
word_in (Some w) = w.bits
word_in None = 0

abbrev pub encoded : ℕ → ℕ → Encoded
encoded n w = record { number = n; word = w }

abbrev pub encoded_of : Option Insn → Encoded
encoded_of m = encoded (made_number m) (word_in m)
