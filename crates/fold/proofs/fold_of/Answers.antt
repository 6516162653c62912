-- `fold::fold_of` meets its contract: a unary operator, or a binary one and the literal on its right.
use Rattle.std.proofs.Common.{◌∙◌}
use Rattle.fold.proofs.FoldLaws.{fold-minus, fold-not, fold-none, fold-lit}
use Rattle.fold.proofs.fold_of.Goals as goal

pub returns-then-k-eq-MINUS : goal.returns-then-k-eq-MINUS
returns-then-k-eq-MINUS c = fold-minus c.requires c.kind_at-k.ensures c.if-k-eq-MINUS.true

pub returns-then-k-eq-NOT : goal.returns-then-k-eq-NOT
returns-then-k-eq-NOT c = fold-not c.requires c.kind_at-k.ensures c.if-k-eq-NOT.true

pub returns-in_err-z : goal.returns-in_err-z
returns-in_err-z c =
    c.from_residual.ensures
    ∙ fold-none c.requires c.kind_at-k.ensures c.if-k-eq-MINUS.false c.if-k-eq-NOT.false c.child_1.ensures c.const_value.ensures c.in_err-z.was

pub returns : goal.returns
returns c =
    fold-lit c.requires c.kind_at-k.ensures c.if-k-eq-MINUS.false c.if-k-eq-NOT.false c.child_1.ensures c.const_value.ensures c.in_ok-z.was
    c.child_2.ensures c.literal_fold.ensures
