-- `records::check_nodes` meets its contract: the records are flattened, and what their words answer is theirs.
use Rattle.std.proofs.Common.{rules, ◌/◌, ◌≤◌, length, ◌∙◌}
use Rattle.records.proofs.Laws.{has_room, handed}
use Rattle.records.proofs.Fills.{check-is, check-refused}
use Rattle.records.proofs.check_nodes.Goals as goal

pub returns-in_err-flatten : goal.returns-in_err-flatten
returns-in_err-flatten c =
    let e = c.in_err-flatten.ensures in
    (handed c.from_residual.ensures.1 ∙ check-refused c.args.nodes.now _ e.answer c.args.params c.args.locals c.args.dest, e.words)

pub slice_bounds-check-end : goal.slice_bounds-check-end
slice_bounds-check-end c =
    let room : length c.args.nodes.now ≤ length c.args.words.now / 4 = has_room _ _ c.in_ok-flatten.ensures.answer in
    search rules

pub slice_bounds-check-end-2 : goal.slice_bounds-check-end-2
slice_bounds-check-end-2 c =
    let room : length c.args.nodes.now ≤ length c.args.words.now / 4 = has_room _ _ c.in_ok-flatten.ensures.answer in
    search rules

pub returns : goal.returns
returns c =
    let e = c.in_ok-flatten.ensures in
    let g = c.args in
    (c.check.ensures ∙ check-is g.nodes.now g.words.now e.answer e.words g.params g.locals g.dest, e.words)
