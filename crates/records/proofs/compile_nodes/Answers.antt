-- `records::compile_nodes` meets its contract: the records are flattened, and what their words compile to is theirs.
use Rattle.std.proofs.Common.{rules, ◌/◌, ◌≤◌, length}
use Rattle.compile.proofs.Entries.{compiles-by}
use Rattle.records.proofs.Laws.{has_room}
use Rattle.records.proofs.Fills.{compile-is, compile-refused}
use Rattle.records.proofs.compile_nodes.Goals as goal

pub slice_bounds-compile-end : goal.slice_bounds-compile-end
slice_bounds-compile-end c =
    let room : length c.args.nodes.now ≤ length c.args.words.now / 4 = has_room _ _ c.in-Ok.ensures.answer in
    search rules

pub slice_bounds-compile-end-in-Ok : goal.slice_bounds-compile-end-in-Ok
slice_bounds-compile-end-in-Ok c =
    let room : length c.args.nodes.now ≤ length c.args.words.now / 4 = has_room _ _ c.in-Ok.ensures.answer in
    search rules

pub returns-in-Ok : goal.returns-in-Ok
returns-in-Ok c =
    let e = c.in-Ok.ensures in
    let g = c.args in
    let h = compile-is g.nodes.now g.words.now e.answer e.words g.params g.locals g.dest (length g.code.now) (length g.kinds.now) (length g.payloads.now) in
    (compiles-by h c.compile.ensures, e.words)

pub returns-in-Err : goal.returns-in-Err
returns-in-Err c =
    let e = c.in-Err.ensures in
    let g = c.args in
    (compiles-by (compile-refused g.nodes.now _ e.answer g.params g.locals g.dest (length g.code.now) (length g.kinds.now) (length g.payloads.now)) c.refuse.ensures, e.words)
