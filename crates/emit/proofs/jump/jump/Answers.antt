-- `jump::jump` meets its contract: no room, a refused word, or a word.
use mathlib.Core.Path.{◌≡◌}
use Prim.Native.Nat.{◌<◌}
use native.Mathlib.Omega.{arith}
use lib.ListN.{length}
use borrow.Author.Rules.{rules}
use Rattle.emit.specs.Jump.{leap_d}
use Rattle.emit.proofs.jump.JumpLaws.{jump-none, jump-made}
use Rattle.emit.proofs.jump.jump.Goals as goal

pub returns-then-is_empty : goal.returns-then-is_empty
returns-then-is_empty c =
    let e : length c.args.jumps.now ≡ 0 = grind arith in
    jump-none _ _ _ _ e

pub returns-in_err-s : goal.returns-in_err-s
unfolding leap_d
returns-in_err-s c = search rules

pub returns : goal.returns
returns c =
    let p : 0 < length c.args.jumps.now = grind arith in
    jump-made _ _ p c.emit.ensures c.in_ok-s.was
