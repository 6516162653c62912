-- `count` meets its contract: a byte is a non-negative number.
use borrow.Author.Rules.{rules}
use mir.ValLaws.{to_z_pos}
use mir.Syntax.{w64}
use Prim.Native.Nat.{◌<◌}
use lib.IntN.{pos}
use native.Mathlib.Omega.{arith}
use Rattle.effect.proofs.EffectLaws.{back}
use Rattle.effect.proofs.count.Goals as goal

pub returns : goal.returns
returns c = let n = c.args.n in let l : n < 256 = search rules in cc (to_z_pos w64 n (omega arith), back w64 (pos n) (omega arith))
