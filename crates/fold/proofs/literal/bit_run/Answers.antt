-- `literal::bit_run` meets its contract: by what is found, from the lowest bit up.
use Rattle.fold.proofs.literal.Literals.{zeros-are-bits, run_none, ones-of, run-low, run_long, run-above, run-ones}
use Rattle.fold.proofs.literal.bit_run.Goals as goal

pub returns-then-mask-le0 : goal.returns-then-mask-le0
returns-then-mask-le0 c = run_none c.args.mask c.ranges.mask.sfits c.if-mask-le0.true

pub returns-then-lo-gt62 : goal.returns-then-lo-gt62
returns-then-lo-gt62 c = run-low c.args.mask c.ranges.mask.sfits c.if-mask-le0.false (zeros-are-bits 64 _) c.if-lo-gt62.true

pub returns-then-top-gt62 : goal.returns-then-top-gt62
returns-then-top-gt62 c =
    let g = ones-of c.args.mask c.ranges.mask.sfits c.if-mask-le0.false _ c.trailing_ones-len.ensures in
    run_long c.args.mask c.ranges.mask.sfits c.if-mask-le0.false (zeros-are-bits 64 _) g c.if-top-gt62.true

pub returns-then-x-len-ne0 : goal.returns-then-x-len-ne0
returns-then-x-len-ne0 c =
    let g = ones-of c.args.mask c.ranges.mask.sfits c.if-mask-le0.false _ c.trailing_ones-len.ensures in
    run-above c.args.mask c.ranges.mask.sfits c.if-mask-le0.false (zeros-are-bits 64 _) g c.if-x-len-ne0.true

pub returns : goal.returns
returns c =
    let g = ones-of c.args.mask c.ranges.mask.sfits c.if-mask-le0.false _ c.trailing_ones-len.ensures in
    run-ones c.args.mask c.ranges.mask.sfits c.if-mask-le0.false (zeros-are-bits 64 _) g c.if-top-gt62.false c.if-x-len-ne0.false
