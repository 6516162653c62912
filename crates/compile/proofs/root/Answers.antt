-- `root` generates the whole tree.
use Rattle.compile.proofs.Roots.{roots}
use borrow.Author.Rules.{rules}
use Rattle.compile.proofs.root.Goals as goal

pub gen_code_inner-requires : goal.gen_code_inner-requires
gen_code_inner-requires c = search (roots, rules)

pub gen_into-requires : goal.gen_into-requires
gen_into-requires c = search (roots, rules)

pub returns-in-None : goal.returns-in-None
returns-in-None c = search (roots, rules)

pub returns-in-Some : goal.returns-in-Some
returns-in-Some c = search (roots, rules)
