-- `encode` meets its contract: the fields of the form are narrow and have room in a word, and packing makes the word.
use native.Mathlib.Omega.{arith}
use Rattle.operands.proofs.encode.Laws.{encode-by, encode-past}
use Rattle.operands.proofs.encode.encode.Goals as goal

pub returns-then-opcode-gt76 : goal.returns-then-opcode-gt76
returns-then-opcode-gt76 c = encode-past _ _ _ _ _ _ c.if-opcode-gt76.true

pub returns : goal.returns
returns c = encode-by _ _ _ _ _ _ (omega (arith, c.if-opcode-gt76.false)) c.form.ensures c.shapes_of.ensures c.field.ensures c.field-2.ensures c.field-3.ensures c.field-4.ensures c.field-5.ensures c.make.ensures
