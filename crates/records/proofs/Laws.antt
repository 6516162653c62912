-- The room for so many records.
--     many, short, fits     what it is in each case
--     has_room, not-many    where it is there
use Rattle.std.specs.Prelude.{Result, Ok, Err}
use Rattle.std.specs.Result.{IsErrAnd}
use Prim.Native.Nat.{ℕ, ◌/◌, ◌≤◌, ◌<◌}
use mathlib.Core.Path.{◌≡◌, sym, ap}
use lib.Dec.{ltb}
use borrow.Author.Tests.{le-ltb, lt-ltb, ltb-false}
use Rattle.faults.specs.declared.Fault.{Fault}
use Rattle.faults.specs.Faults.{fault, ◌or_else◌}
use Rattle.faults.specs.Limits.{max_nodes}
use Rattle.faults.specs.Numbers.{bad_shape, no_room}
use Rattle.faults.proofs.Faults.{none_both, failed}
use Rattle.records.specs.Records.{room_fault}

pub many : (n m : ℕ) → max_nodes < n → Err bad_shape ≡ room_fault n m
unfolding room_fault fault ◌or_else◌
many n m h = rw (lt-ltb max_nodes n h)

pub short : (n m : ℕ) → n ≤ max_nodes → m / 4 < n → Err no_room ≡ room_fault n m
unfolding room_fault fault ◌or_else◌
short n m g h = rw (le-ltb max_nodes n g, lt-ltb (m / 4) n h)

pub fits : (n m : ℕ) → n ≤ max_nodes → n ≤ m / 4 → Ok tt ≡ room_fault n m
unfolding room_fault fault ◌or_else◌
fits n m g h = rw (le-ltb max_nodes n g, le-ltb (m / 4) n h)

pub ruleset rooms = (many, short, fits)

module _ (n m : ℕ) (e : Ok tt ≡ room_fault n m) where
  pub has_room : n ≤ m / 4
  unfolding room_fault
  has_room = ltb-false (m / 4) n (failed (ltb (m / 4) n) no_room (none_both _ _ (sym e)).1)

  pub not-many : n ≤ max_nodes
  unfolding room_fault
  not-many = ltb-false max_nodes n (failed (ltb max_nodes n) bad_shape (none_both _ _ (sym e)).0)

-- what a `?` returns
pub handed : {X : Type 0} {r : Result X Fault} {f : Fault} → IsErrAnd r (λ e. e ≡ f) → r ≡ Err f
handed {r = Ok x} h = absurd h
handed {r = Err e} h = ap Err h
