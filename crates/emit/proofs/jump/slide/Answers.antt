-- `jump::slide` meets its contract: the jumps that were moved stand in front, and those to come are as they were.
use mathlib.Core.Path.{◌≡◌, refl}
use native.Mathlib.Omega.{arith}
use lib.ListN.{length-set}
use Rattle.emit.proofs.jump.JumpLaws.{slide-front, slide-rest}
use Rattle.emit.proofs.jump.slide.Goals as goal

pub loop-j-init : goal.loop-j-init
loop-j-init c = (refl, refl, refl)

pub loop-j-preserved : goal.loop-j-preserved
loop-j-preserved c =
    let g = c.args in
    let l = c.loop-j in
    let inv = l.invariant in (
      simp length-set inv.0,
      slide-front g.jumps.now l.jumps g.n l.j (omega arith) inv.0 inv.1 inv.2,
      slide-rest g.jumps.now l.jumps g.n l.j (omega arith) inv.0 inv.1 inv.2,
    )

pub returns : goal.returns
returns c = let e : c.loop-j.j ≡ c.args.k = omega arith in rw e at c.loop-j.invariant.1
