-- What the whole part's refusal becomes.
use Rattle.std.proofs.Common.{refl}
use Rattle.std.proofs.lemmas.Result.{err_from_is_err_and}
use Rattle.text.specs.Decimal.{parts_of}
use Rattle.text.proofs.decimal.parts.Goals as goal

pub returns-in_err-a : goal.returns-in_err-a
unfolding parts_of
returns-in_err-a c = let p = err_from_is_err_and c.from_residual.result c.from_residual.ensures.1 in rw (p.1, p.2, c.in_err-a.was) refl
