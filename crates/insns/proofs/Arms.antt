-- An arm of `encode`: the arm knows that i is j.
use Rattle.std.specs.Prelude.{Option}
use Rattle.insns.specs.declared.Insn.{Insn}
use mathlib.Core.Path.{◌≡◌, sym, ap, ◌∙◌}
use Rattle.insns.specs.Insns.{made_of}
use Rattle.insns.specs.declared.op.Op.{Op}

pub arm-made : {i j : Op} {r : Option Insn} → i ≡ j → r ≡ made_of j → r ≡ made_of i
arm-made k q = q ∙ ap made_of (sym k)
