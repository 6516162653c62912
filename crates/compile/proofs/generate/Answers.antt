-- `generate` gives what the definition gives of a checked table.
use Rattle.emit.proofs.Laws.{kept, says-by}
use Rattle.compile.proofs.Entries.{checked, lengths, generated-done, generated-refused, root-generated}
use borrow.Author.Rules.{rules}
use Rattle.compile.proofs.generate.Goals as goal

pub finish-requires : goal.finish-requires
finish-requires c = kept c.in-Ok.is c.root-x.ensures

pub returns-in-Ok : goal.returns-in-Ok
returns-in-Ok c =
    let says = says-by (root-generated _ c.args.dest _ _ _ _ c.dst_of.ensures c.temp_base.ensures) c.root-x.ensures in
    lengths c.root-x.auto.code c.root-x.auto.kinds c.root-x.auto.payloads (generated-done says c.in-Ok.is c.finish.ensures)

pub returns-in-Err : goal.returns-in-Err
returns-in-Err c =
    let says = says-by (root-generated _ c.args.dest _ _ _ _ c.dst_of.ensures c.temp_base.ensures) c.root-x.ensures in
    lengths c.root-x.auto.code c.root-x.auto.kinds c.root-x.auto.payloads (generated-refused says c.in-Err.is c.refuse.ensures)

pub dst_of-requires : goal.dst_of-requires
dst_of-requires c = search (checked, rules)

pub temp_base-requires : goal.temp_base-requires
temp_base-requires c = search (checked, rules)

pub root-x-requires : goal.root-x-requires
root-x-requires c = search (checked, rules)
