-- `fold::shifted_by` meets its contract: a right shift by a literal, or not.
use Rattle.std.proofs.Common.{◌∙◌}
use Rattle.fold.proofs.FoldLaws.{shift-other, shift_none, shift-lit}
use Rattle.fold.proofs.shifted_by.Goals as goal

pub returns-then-kind_at-ne-RSHIFT : goal.returns-then-kind_at-ne-RSHIFT
returns-then-kind_at-ne-RSHIFT c = shift-other c.requires c.kind_at.ensures c.if-kind_at-ne-RSHIFT.true

pub returns-in_err-z : goal.returns-in_err-z
returns-in_err-z c =
    c.from_residual.ensures ∙ shift_none c.requires c.kind_at.ensures c.if-kind_at-ne-RSHIFT.false c.child_1.ensures c.const_value.ensures c.in_err-z.was

pub returns : goal.returns
returns c =
    shift-lit c.requires c.kind_at.ensures c.if-kind_at-ne-RSHIFT.false c.child_1.ensures c.const_value.ensures c.in_ok-z.was c.amount_of.ensures
