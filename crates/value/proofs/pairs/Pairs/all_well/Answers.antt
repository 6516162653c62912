-- `all_well` meets its contract: the pair that the loop is at decides, or what follows it.
use Rattle.std.proofs.Common.{◌∙◌, sym}
use native.Mathlib.Omega.{arith}
use Rattle.value.proofs.PairLaws.{from_end, from_found}
use Rattle.value.proofs.pairs.Pairs.all_well.Goals as goal

pub returns-then-is_none : goal.returns-then-is_none
returns-then-is_none c =
    let s = c.args.self in
    sym (from_found s.kinds.now s.payloads.now c.loop-i.i _ (omega (arith, c.len-i-end.ensures)) c.from_pair.ensures c.if-is_none.ensures) ∙ c.loop-i.invariant

pub loop-i-preserved : goal.loop-i-preserved
loop-i-preserved c =
    let s = c.args.self in
    sym (from_found s.kinds.now s.payloads.now c.loop-i.i _ (omega (arith, c.len-i-end.ensures)) c.from_pair.ensures c.if-is_none.ensures) ∙ c.loop-i.invariant

pub returns : goal.returns
returns c = let s = c.args.self in sym (from_end s.kinds.now s.payloads.now c.loop-i.i (omega (arith, c.len-i-end.ensures))) ∙ c.loop-i.invariant
