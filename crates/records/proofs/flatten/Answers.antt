-- `records::flatten` meets its contract: where there is room, each record is put, one by one.
use Rattle.std.proofs.Common.{rules, ◌≡◌, ◌+◌, ◌*◌, ◌/◌, ◌≤◌, length, refl, ◌∙◌, arith}
use Rattle.std.proofs.Math.Seq.{take-length}
use Rattle.records.specs.Records.{flat}
use Rattle.records.proofs.Laws.{has_room}
use Rattle.records.proofs.Fills.{flat-put, copied, kept}
use Rattle.records.proofs.flatten.Goals as goal

pub returns-in_err-room_fault-clause-words : goal.returns-in_err-room_fault-clause-words
returns-in_err-room_fault-clause-words c = kept c.args.nodes.now c.args.words.now c.in_err-room_fault.ensures

pub loop-i-init : goal.loop-i-init
unfolding flat
loop-i-init c = refl

pub slice_bounds-copy_from_slice-end : goal.slice_bounds-copy_from_slice-end
slice_bounds-copy_from_slice-end c =
    let room : length c.args.nodes.now ≤ length c.args.words.now / 4 = has_room _ _ c.in_ok-room_fault.ensures in
    let end : 4 * c.loop-i.i + 4 ≤ length c.loop-i.words = omega arith in
    search rules

pub loop-i-preserved : goal.loop-i-preserved
loop-i-preserved c =
    rw (c.loop-i.invariant) (flat-put c.args.nodes.now c.args.words.now c.loop-i.i _ _ _ (omega arith) (c.copy_from_slice.ensures.after ∙ c.words.ensures) (omega arith))

pub returns-clause-words : goal.returns-clause-words
returns-clause-words c =
    let i : c.loop-i.i ≡ length c.args.nodes.now = omega arith in
    (rw (i, take-length c.args.nodes.now) at c.loop-i.invariant) ∙ copied c.args.nodes.now c.args.words.now c.in_ok-room_fault.ensures
