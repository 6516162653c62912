-- `cut::if_whole` meets its contract: the test is the definition's own.
use mathlib.Core.Path.{◌≡◌, refl, ◌∙◌}
use mathlib.Core.Bool.{Bool, true, false, cond}
use Rattle.std.specs.Prelude.{Some, None}
use Rattle.std.specs.Bool.{then_some}
use Rattle.insns.specs.declared.op.Op.{Op}
use Rattle.decode.specs.Decode.{whole}
use Rattle.decode.proofs.cut.if_whole.Goals as goal

some-if : (b : Bool) (i : Op) → then_some b i ≡ cond b (Some i) None
some-if true i = refl
some-if false i = refl

pub returns : goal.returns
unfolding whole
returns c = c.then_some.ensures ∙ some-if _ c.args.i
