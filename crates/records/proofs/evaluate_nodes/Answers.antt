-- `records::evaluate_nodes` meets its contract: the records are flattened, and what their words answer is theirs.
use Rattle.std.proofs.Common.{rules, ◌/◌, ◌≤◌, length, ap, ◌∙◌}
use Rattle.value.specs.Answer.{result_of}
use Rattle.records.proofs.Laws.{has_room, handed}
use Rattle.records.proofs.Fills.{evaluate-is, evaluate-refused}
use Rattle.records.proofs.evaluate_nodes.Goals as goal

pub returns-in_err-flatten : goal.returns-in_err-flatten
returns-in_err-flatten c =
    let e = c.in_err-flatten.ensures in
    let g = c.args in
    (ap result_of (handed c.from_residual.ensures.1) ∙ evaluate-refused g.nodes.now _ e.answer g.params g.locals g.kinds.now g.payloads.now, e.words)

pub slice_bounds-evaluate-end : goal.slice_bounds-evaluate-end
slice_bounds-evaluate-end c =
    let room : length c.args.nodes.now ≤ length c.args.words.now / 4 = has_room _ _ c.in_ok-flatten.ensures.answer in
    search rules

pub slice_bounds-evaluate-end-2 : goal.slice_bounds-evaluate-end-2
slice_bounds-evaluate-end-2 c =
    let room : length c.args.nodes.now ≤ length c.args.words.now / 4 = has_room _ _ c.in_ok-flatten.ensures.answer in
    search rules

pub returns : goal.returns
returns c =
    let e = c.in_ok-flatten.ensures in
    let g = c.args in
    (c.evaluate.ensures ∙ evaluate-is g.nodes.now g.words.now e.answer e.words g.params g.locals g.kinds.now g.payloads.now, e.words)
