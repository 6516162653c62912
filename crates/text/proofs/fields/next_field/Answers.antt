-- What is passed is blank, and the field ends at the next blank.
use Rattle.std.proofs.Common.{sym, ◌∙◌, arith}
use Rattle.std.proofs.lemmas.Bool.{eqb-true, eqb-false}
use Rattle.text.proofs.fields.Scanning.{from-lead, none-left, one-left, one-shorter, whole}
use Rattle.text.proofs.fields.next_field.Goals as goal

pub returns-clause-place : goal.returns-clause-place
returns-clause-place c =
    rw (c.split_at.ensures.front, c.split_at.ensures.back) (whole c.args.s.now _ (from-lead c.args.s.now c.lead.ensures.value) _)

pub returns-then-is_empty-clause-fields : goal.returns-then-is_empty-clause-fields
returns-then-is_empty-clause-fields c = none-left c.args.s.now _ (from-lead c.args.s.now c.lead.ensures.value) (eqb-true _ 0 (sym c.is_empty.ensures ∙ c.if-is_empty.true))

pub returns-clause-fields : goal.returns-clause-fields
returns-clause-fields c =
    rw (c.split_at.ensures.front, c.split_at.ensures.back, c.lead-2.ensures.value) (one-left c.args.s.now _ (from-lead c.args.s.now c.lead.ensures.value) (eqb-false _ 0 (sym c.is_empty.ensures ∙ c.if-is_empty.false)))

pub returns-clause-shorter : goal.returns-clause-shorter
returns-clause-shorter c =
    let some = one-shorter c.args.s.now _ (from-lead c.args.s.now c.lead.ensures.value) (eqb-false _ 0 (sym c.is_empty.ensures ∙ c.if-is_empty.false)) in
    omega (arith, some, c.split_at.ensures.back_len)
