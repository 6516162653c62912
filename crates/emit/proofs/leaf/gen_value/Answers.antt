-- `leaf::gen_value` meets its contract: by the kind of the leaf.
use borrow.Author.Rules.{rules}
use Rattle.emit.proofs.LeafLaws.{leafs, leaf-of}
use Rattle.emit.proofs.leaf.gen_value.Goals as goal

pub returns-then-fits_imm40 : goal.returns-then-fits_imm40
returns-then-fits_imm40 c = leaf-of _ _ _ _ (search (leafs, rules))

pub returns-in-0 : goal.returns-in-0
returns-in-0 c = leaf-of _ _ _ _ (search (leafs, rules))

pub returns-in-1 : goal.returns-in-1
returns-in-1 c = leaf-of _ _ _ _ (search (leafs, rules))

pub returns-in-2 : goal.returns-in-2
returns-in-2 c = leaf-of _ _ _ _ (search (leafs, rules))

pub returns-else-fits_imm40 : goal.returns-else-fits_imm40
returns-else-fits_imm40 c = leaf-of _ _ _ _ (search (leafs, rules))

pub returns-in-4 : goal.returns-in-4
returns-in-4 c = leaf-of _ _ _ _ (search (leafs, rules))

pub returns-in_default : goal.returns-in_default
returns-in_default c = leaf-of _ _ _ _ (search (leafs, rules))

pub overflow_cast-result : goal.overflow_cast-result
overflow_cast-result c = search (leafs, rules)
