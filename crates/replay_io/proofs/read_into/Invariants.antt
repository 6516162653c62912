-- The first i numbers are taken, each to its place.
use Rattle.std.proofs.Common.{◌≡◌, ℕ, ◌≤◌, ◌<◌, length, slice_index_or, IfSome}
use Rattle.replay_io.specs.Numbers.{DropsNumbers, MadeOf}
use Rattle.replay_io.proofs.read_into.Given as goal

abbrev pub invariant-loop-i : goal.invariant-loop-i
invariant-loop-i g l = record {
  rest : DropsNumbers (g.R.Read.remaining l.initial.input) (g.R.Read.remaining l.input) l.i;
  values : IfSome (g.R.Read.remaining l.initial.input) (λ xs. (k : ℕ) (d : _) → k < l.i → k < length l.room → MadeOf (goal.F-post g l.element) xs k (slice_index_or l.room k d));
  kept : (k : ℕ) (d : _) → l.i ≤ k → slice_index_or l.room k d ≡ slice_index_or l.initial.room k d;
}
