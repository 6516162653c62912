-- Each turn passes one field; the field found then stands where the rest behind it says.
use Rattle.std.proofs.Common.{◌≡◌, ◌∙◌, ℕ, [], get_or, ap, arith}
use Rattle.text.proofs.fields.Scanning.{nth-more, nth-here, left-over, left-shorter, stands}
use Rattle.text.specs.Fields.{fields_of}
use Rattle.text.proofs.fields.nth_part.Goals as goal

pub loop-preserved : goal.loop-preserved
loop-preserved c =
    let s = c.args.s.now in
    let r = c.loop.rest.now in
    let f = c.in-Some.field-0-0.now in
    let a = c.in-Some.after.now in
    let inv = c.loop.invariant in
    let found = c.in-Some.ensures in
    (nth-more (fields_of s) c.loop.counter (inv.0 ∙ found.fields), left-over s r f a inv.1 inv.2 found.place, left-shorter s r f a inv.1 inv.2 found.place)

pub returns-clause-s_value : goal.returns-clause-s_value
returns-clause-s_value c =
    let s = c.args.s.now in
    let f = c.in-Some-next_field.field.now in
    let inv = c.loop.invariant in
    let found = c.in-Some-next_field.ensures in
    let all : c.loop.counter ≡ c.args.n = omega (arith, c.loop-test.false, c.loop.auto.counter-end) in
    let here = nth-here (fields_of s) c.loop.counter (inv.0 ∙ found.fields) ∙ ap (λ (x : ℕ). get_or (fields_of s) x []) all in
    stands s c.loop.rest.now f c.in-Some-next_field.after.now inv.1 inv.2 found.place ∙ here
