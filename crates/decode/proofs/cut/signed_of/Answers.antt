-- `cut::signed_of` meets its contract.
use Rattle.decode.proofs.Sign.{read_low, read-high}
use Rattle.decode.proofs.cut.signed_of.Goals as goal

pub returns-then-n-half : goal.returns-then-n-half
returns-then-n-half c = read_low _ _ c.requires.0 c.if-n-half.true

pub returns-else-n-half : goal.returns-else-n-half
returns-else-n-half c = read-high _ _ c.requires.0 c.requires.1 c.if-n-half.false
