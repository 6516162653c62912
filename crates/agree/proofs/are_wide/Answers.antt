-- `agree::are_wide` meets its contract: a slice of u64 has no other words.
use Rattle.agree.proofs.are_wide.Goals as goal

pub returns : goal.returns
returns c = λ i. (c.type_inv.xs i).fits
