-- No byte that was passed is b: what is left to pass and what was passed are as many as at the start.
use Rattle.std.proofs.Common.{◌≡◌, ◌≢◌, ℕ, ◌+◌, ◌<◌, ◌≤◌, length, get_or, drop}
use Rattle.text.specs.Bytes.{index_of}
use Rattle.text.proofs.scan.find.Given as goal

abbrev pub invariant-loop-i : goal.invariant-loop-i
invariant-loop-i l = (l.i + index_of l.b (drop l.i l.s) ≡ l.from + index_of l.b (drop l.from l.s)) × (l.from ≤ l.i) × (l.i ≤ length l.s) × ((k : ℕ) → l.from ≤ k → k < l.i → get_or l.s k 0 ≢ l.b)
