-- `mask` meets its contract: the mask as two's complement.
use mir.Syntax.{w64}
use Rattle.effect.proofs.EffectLaws.{back}
use Rattle.effect.proofs.mask.Goals as goal

pub returns : goal.returns
returns c = cc (back w64 c.signed.result c.signed.type_inv)
