-- Plumbing: a `PairsMut` that still holds the slices that it held, each as long as it was. Who lent them learns what was written only where this is so.
use Rattle.std.specs.Prelude.{◌≡◌, length}
use Rattle.value.specs.declared.pairs.PairsMut.{PairsMut}

abbrev pub SameSlices : PairsMut → PairsMut → Type 0
SameSlices p q =
    (q.kinds.ghost_name ≡ p.kinds.ghost_name) × (q.payloads.ghost_name ≡ p.payloads.ghost_name)
    × (length q.kinds.now ≡ length p.kinds.now) × (length q.payloads.now ≡ length p.payloads.now)
