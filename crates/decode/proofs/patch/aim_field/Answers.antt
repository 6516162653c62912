-- `patch::aim_field` meets its contract: the field's number, or one past it.
use mathlib.Core.Path.{◌≡◌}
use native.Mathlib.Omega.{arith}
use borrow.Author.Rules.{rules}
use Rattle.std.specs.Prelude.{Some, None}
use Rattle.std.proofs.lemmas.Result.{err_from_is_err_and}
use Rattle.faults.specs.Numbers.{too_far}
use Rattle.insns.proofs.bits.Sign.{widens}
use Rattle.decode.proofs.patch.Field.{sum_fits, product-fits, none, in_field, past-field}
use Rattle.decode.proofs.patch.aim_field.Goals as goal

pub returns-in_err-disp : goal.returns-in_err-disp
returns-in_err-disp c =
    let p = err_from_is_err_and c.from_residual.result c.from_residual.ensures.1 in
    let e : c.args.r ≡ None = grind arith in
    let f : c.in_err-disp.field-0.0 ≡ too_far = grind arith in
    rw (p.1, p.2, f) (none _ _ _ e)

pub overflow_cast-disp : goal.overflow_cast-disp
overflow_cast-disp c = search (widens, rules)

pub overflow_mul-result : goal.overflow_mul-result
overflow_mul-result c = product-fits _ _ _ c.requires _ c.if-n-half.true

pub overflow_add-result : goal.overflow_add-result
overflow_add-result c = sum_fits _ _ _ c.requires _ c.if-n-half.true

pub returns-then-n-half : goal.returns-then-n-half
returns-then-n-half c = let e : c.args.r ≡ Some c.in_ok-disp.disp = grind arith in search (in_field, e, rules)

pub returns : goal.returns
returns c = let e : c.args.r ≡ Some c.in_ok-disp.disp = grind arith in search (past-field, e, rules)
