-- The exported functions leave what the routines of their names answer.
use Rattle.std.specs.Prelude.{Option, Result}
use Rattle.faults.specs.declared.Fault.{Fault}
use mathlib.Core.Path.{◌≡◌, ◌∙◌, ap}
use mathlib.Core.List.{List}
use Prim.Native.Nat.{ℕ}
use Rattle.compile.specs.Compile.{compile_of}
use Rattle.compile.specs.Buffers.{Compiles}
use Rattle.compile.specs.declared.buffers.Compiled.{Compiled}
use Rattle.vosemaqe.specs.Results.{dest_of, report_of, Reported}
use Rattle.vosemaqe.specs.declared.results.Report.{Report}

pub compile-at : (ws : List ℕ) (p l n room cap slots : ℕ) {d : Option ℕ} {q : Result Compiled Fault} {t : Report} {code kinds payloads : List ℕ} {c k m : ℕ}
    → d ≡ dest_of n → Compiles q (compile_of ws p l d room cap slots) code kinds payloads c k m → t ≡ report_of q
    → Reported t (compile_of ws p l (dest_of n) room cap slots) code kinds payloads c k m
compile-at ws p l n room cap slots e h f =
    rw (← e) (record { answer = f ∙ ap report_of h.answer; words = h.words; slot_kinds = h.slot_kinds; slot_payloads = h.slot_payloads })
