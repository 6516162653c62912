-- 02, W2: equal constants share a slot. What that makes of an accepted table's slots: no two are equal, and each is loaded by some word.
use Rattle.std.specs.Prelude.{◌≡◌, List, ℕ, ◌<◌, length, get_or, Option, Some}
use Rattle.value.specs.Value.{nil}
use Rattle.insns.specs.declared.op.Op.{Op}
use Rattle.insns.specs.declared.op.Slot.TheVariants as Slot
use Rattle.insns.specs.Insns.{made_of}
use Rattle.emit.specs.State.{State}
use Rattle.claim.specs.Claim.{Accepted}

-- a word loads slot k
pub record Loaded (s : State) (k : ℕ) : Type 0 where
  pub at : ℕ
  pub inside : at < length s.words
  pub register : ℕ
  pub word : made_of (Op.Slot Slot.LoadConst register k) ≡ Some (record { bits = get_or s.words at 0 })

pub record Shared (s : State) : Type 0 where
  pub apart : (j k : ℕ) → j < k → k < length s.slots → get_or s.slots j nil ≡ get_or s.slots k nil → ⊥
  pub loaded : (k : ℕ) → k < length s.slots → Loaded s k

abbrev pub SharesSlots : Type 0
SharesSlots = (ws : List ℕ) (params locals : ℕ) (dest : Option ℕ) (r : ℕ) (s : State) → Accepted ws params locals dest r s → Shared s
