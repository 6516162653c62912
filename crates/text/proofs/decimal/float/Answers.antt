-- Each return is a case of what stands in front.
use Rattle.std.proofs.lemmas.Result.{err_from_is_err_and}
use Rattle.text.proofs.decimal.Texts.{floats}
use Rattle.text.proofs.decimal.float.Goals as goal

pub returns-in_err-digits : goal.returns-in_err-digits
returns-in_err-digits c = let p = err_from_is_err_and c.from_residual.result c.from_residual.ensures.1 in rw (p.1, p.2) (search floats)

pub returns-in-Some : goal.returns-in-Some
returns-in-Some c = search floats

pub returns : goal.returns
returns c = search floats
