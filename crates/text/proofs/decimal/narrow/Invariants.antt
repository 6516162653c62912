-- `decimal::narrow` meets its contract. The invariant: the binary digits so far and what is left of the fraction are the number.
use mathlib.Core.Path.{◌≡◌}
use mathlib.Core.Bool.{true}
use Prim.Native.Nat.{◌+◌, ◌*◌, ◌^◌, ◌≤◌, ◌<◌}
use lib.ListN.{length}
use Rattle.text.specs.Decimal.{all_digits, value_of}
use Rattle.text.proofs.decimal.narrow.Given as goal

abbrev pub invariant-loop-m : goal.invariant-loop-m
invariant-loop-m l = ((l.m * 10 ^ length l.f + value_of l.f) * 2 ^ l.e ≡ (l.whole * 10 ^ length l.initial.f + value_of l.initial.f) * 2 ^ 1074) × (length l.f ≡ length l.initial.f) × (all_digits l.f ≡ true) × (l.m < 2 ^ 53) × (l.e ≤ 1074)

abbrev pub decreases-loop-m : goal.decreases-loop-m
decreases-loop-m l = l.e
