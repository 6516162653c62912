-- What holds of every outcome of an effect: one walk over `settle_of`. A statement that every position and every stop meets holds of a branch,
-- and of a write where it holds of the value that is put into a register.
use mathlib.Core.Path.{◌≡◌, refl}
use mathlib.Core.Bool.{Bool, true, false, cond}
use Prim.Native.Nat.{ℕ, suc, ◌<◌}
use lib.Dec.{ltb, leb}
use lib.IntN.{ℤ, pos, negsuc, ◌+ℤ◌}
use borrow.Author.Tests.{ltb-true}
use Rattle.faults.specs.Numbers.{wrong_kind, out_of_range}
use Rattle.faults.specs.declared.Fault.{Fault}
use Rattle.value.specs.Value.{Datum, nil, bool, int, float}
use Rattle.value.specs.Answer.{Answer, is, fault}
use Rattle.effect.specs.Effect.{Effect, write, branch, next, halt}
use Rattle.machine.specs.Step.{Next, go, put, stop, land_at, land_of, branch_of, write_of, settle_of}

-- what holds of both holds of the one that a test picks
pub picked : {A : Type 0} (P : A → Type 0) (b : Bool) {x y : A} → P x → P y → P (cond b x y)
picked P true h k = h
picked P false h k = k

module _ (P : Next → Type 0) (goes : (p : ℕ) → P (go p)) (stops : (n : Fault) → P (stop n)) where
  lands : (len : ℕ) (z : ℤ) → P (land_at len z)
  lands len (pos n) = picked P (leb n len) (goes n) (stops out_of_range)
  lands len (negsuc n) = stops out_of_range

  pub branches : (len at : ℕ) (z : ℤ) (r : Answer) → P (branch_of len at z r)
  unfolding land_of
  branches len at z (is (bool true)) = lands len (pos (suc at) +ℤ z)
  branches len at z (is (bool false)) = goes (suc at)
  branches len at z (is nil) = stops wrong_kind
  branches len at z (is (int n)) = stops wrong_kind
  branches len at z (is (float p)) = stops wrong_kind
  branches len at z (fault n) = stops n

  puts : (room at d : ℕ) (v : Datum) → (d < room → P (put (suc at) d v)) → P (write_of room at d (is v))
  puts room at d v h = by (ltb d room) refl
    where
      by : (b : Bool) → ltb d room ≡ b → P (cond b (put (suc at) d v) (stop out_of_range))
      by true e = h (ltb-true d room e)
      by false e = stops out_of_range

  pub settles : (len room at : ℕ) (e : Effect) → ((d : ℕ) (v : Datum) → e ≡ write d (is v) → d < room → P (put (suc at) d v)) → P (settle_of len room at e)
  settles len room at (write d (is v)) h = puts room at d v (h d v refl)
  settles len room at (write d (fault n)) h = picked P (ltb d room) (stops n) (stops out_of_range)
  settles len room at (branch z r) h = branches len at z r
  settles len room at next h = goes (suc at)
  settles len room at (halt n) h = stops n
