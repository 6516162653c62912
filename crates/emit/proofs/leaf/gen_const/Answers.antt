-- `leaf::gen_const` meets its contract: the register, then the slot and the word.
use borrow.Author.Rules.{rules}
use Rattle.emit.proofs.LeafLaws.{const-stop, const-go, fit-dest}
use Rattle.emit.proofs.leaf.gen_const.Goals as goal

pub push_const-requires : goal.push_const-requires
push_const-requires c = fit-dest c.requires _ c.dest.ensures c.in_ok-d.was

pub returns-in_err-d : goal.returns-in_err-d
returns-in_err-d c = const-stop c.requires _ _ c.dest.ensures c.in_err-d.was (search rules)

pub returns : goal.returns
returns c = search (const-go, rules, c.in_ok-d.was)
