-- `consts::find_const` finds the first slot: what is left finds what the whole finds.
use borrow.Author.Rules.{rules}
use Rattle.emit.proofs.ConstLaws.{seeks}
use Rattle.emit.proofs.consts.find_const.Goals as goal

pub is-requires : goal.is-requires
is-requires c = search (seeks, rules)

pub returns-then-is : goal.returns-then-is
returns-then-is c = search (seeks, rules)

pub loop-k-preserved : goal.loop-k-preserved
loop-k-preserved c = search (seeks, rules)
