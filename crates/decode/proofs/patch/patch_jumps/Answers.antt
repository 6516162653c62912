-- `patch::patch_jumps` meets its contract: what is left to do gives, from the words as they stand, what the whole list gives from the first words.
use mathlib.Core.Path.{refl, ◌∙◌}
use Rattle.std.proofs.lemmas.Result.{err_from_is_err_and}
use Rattle.decode.proofs.patch.Aim.{both, next, stop, end}
use Rattle.decode.proofs.patch.patch_jumps.Goals as goal

pub loop-i-init : goal.loop-i-init
loop-i-init c = refl

pub returns-in_err-patch : goal.returns-in_err-patch
returns-in_err-patch c =
    let p = err_from_is_err_and c.from_residual.result c.from_residual.ensures.1 in
    rw (p.1, p.2) (both (stop c.loop-i.words c.args.jumps.now c.loop-i.i c.args.target c.loop-i-test.true c.patch.ensures.0 c.patch.ensures.1 c.in_err-patch.was ∙ c.loop-i.invariant))

pub loop-i-preserved : goal.loop-i-preserved
loop-i-preserved c = next c.loop-i.words c.args.jumps.now c.loop-i.i c.args.target c.loop-i-test.true c.patch.ensures.0 c.patch.ensures.1 c.in_ok-patch.was ∙ c.loop-i.invariant

pub returns : goal.returns
returns c = both (end c.loop-i.words c.args.jumps.now c.loop-i.i c.args.target c.loop-i-test.false ∙ c.loop-i.invariant)
