-- `effect_of` meets its contract: each arm knows the instruction.
use borrow.Author.Rules.{rules}
use Rattle.effect.proofs.EffectLaws.{ops}
use Rattle.effect.proofs.effect_of.Goals as goal

pub returns-in-Bare : goal.returns-in-Bare
returns-in-Bare c = search (ops, rules)

pub returns-in-LoadImm40 : goal.returns-in-LoadImm40
returns-in-LoadImm40 c = search (ops, rules)

pub returns-in-Two : goal.returns-in-Two
returns-in-Two c = search (ops, rules)

pub returns-in-Slot : goal.returns-in-Slot
returns-in-Slot c = search (ops, rules)

pub returns-in-Three : goal.returns-in-Three
returns-in-Three c = search (ops, rules)

pub returns-in-Shift : goal.returns-in-Shift
returns-in-Shift c = search (ops, rules)

pub returns-in-BitAndMask : goal.returns-in-BitAndMask
returns-in-BitAndMask c = search (ops, rules)

pub returns-in-RshiftMask : goal.returns-in-RshiftMask
returns-in-RshiftMask c = search (ops, rules)

pub returns-in-Arith : goal.returns-in-Arith
returns-in-Arith c = search (ops, rules)

pub returns-in-ClosNew : goal.returns-in-ClosNew
returns-in-ClosNew c = search (ops, rules)

pub returns-in-ClosSet : goal.returns-in-ClosSet
returns-in-ClosSet c = search (ops, rules)

pub returns-in-ClosGet : goal.returns-in-ClosGet
returns-in-ClosGet c = search (ops, rules)

pub returns-in-One : goal.returns-in-One
returns-in-One c = search (ops, rules)

pub returns-in-Wide : goal.returns-in-Wide
returns-in-Wide c = search (ops, rules)

pub returns-in-If : goal.returns-in-If
returns-in-If c = search (ops, rules)

pub returns-in-Jump : goal.returns-in-Jump
returns-in-Jump c = search (ops, rules)

pub returns-in-JumpImm : goal.returns-in-JumpImm
returns-in-JumpImm c = search (ops, rules)

pub returns-in-Jmp : goal.returns-in-Jmp
returns-in-Jmp c = search (ops, rules)

pub returns-in-Call : goal.returns-in-Call
returns-in-Call c = search (ops, rules)

pub returns-in-CallHost : goal.returns-in-CallHost
returns-in-CallHost c = search (ops, rules)

pub returns-in-ById : goal.returns-in-ById
returns-in-ById c = search (ops, rules)

pub returns-in-CallMethodHost : goal.returns-in-CallMethodHost
returns-in-CallMethodHost c = search (ops, rules)

pub returns-in-RetImm40 : goal.returns-in-RetImm40
returns-in-RetImm40 c = search (ops, rules)
