-- `from_int` meets its contract: an integer of at most 53 digits is converted exactly.
use Rattle.float.proofs.Ops.{wide, narrow, whole_is}
use borrow.Author.Rules.{rules}
use Rattle.float.proofs.from_int.Goals as goal

pub returns-then-size-gt9007199254740992 : goal.returns-then-size-gt9007199254740992
returns-then-size-gt9007199254740992 c = search (wide, rules)

pub int_to_float-signed : goal.int_to_float-signed
int_to_float-signed c = search (narrow, rules)

pub returns : goal.returns
returns c = search (whole_is, rules)
