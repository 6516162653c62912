-- Plumbing: what the contracts of the rules ask and say at a node of an accepted table. The rules' meaning is in Gen.
use Rattle.faults.specs.declared.Fault.{Fault}
use Rattle.std.specs.Prelude.{◌≡◌, Bool, true, false, List, ℕ, ◌<◌, ◌≤◌, eqb, length, None, Result}
use Rattle.std.specs.Borrow.{Bor, MutBor}
use denote.Triple.Both.{Both}
use Rattle.faults.specs.Limits.{max_registers}
use Rattle.table.specs.Table.{kind_at, child1, child2}
use Rattle.table.specs.Nodes.{Node}
use Rattle.table.specs.Tree.{tree}
use Rattle.emit.specs.declared.state.St.{St}
use Rattle.fold.specs.Fold.{two}
use Rattle.fold.specs.Nodes.{op_fold, pick_of, is_junction}
use Rattle.emit.specs.State.{Res, State}
use Rattle.emit.specs.Read.{Bufs, bufs, st_of, Fit, Says}
use Rattle.emit.specs.Lists.{Lists}
use Rattle.codegen.specs.Gen.{Value, Branch, arms_d, gen}

-- the rules of the tree at node i
abbrev pub value_at : List ℕ → ℕ → Value
value_at t i = (gen (tree t i)).value

abbrev pub branch_at : List ℕ → ℕ → Branch
branch_at t i = (gen (tree t i)).branch

-- the arms of the ternary at node i, in the register d, with the test's jumps js
abbrev pub arms_at : List ℕ → ℕ → ℕ → List ℕ → ℕ → State → Res (ℕ × State)
arms_at t i d js room s = arms_d (value_at t (child2 t i)) (value_at t (child1 t i)) d room (js, s)

-- ---- what a rule asks

-- i is a node of the accepted table t, whose registers are below 65,536, and the state's words and constants are in the buffers
pub record Ready (t : List ℕ) (b : Bufs) (i : ℕ) (st : St) : Type 0 where
  pub base : ℕ
  pub node : Node t base i
  pub low : base ≤ max_registers
  pub fit : Fit b st

-- ---- what a rule says

-- a slice that is shown, and one that is lent, at entry and at exit
abbrev pub Shown : Type 0
Shown = Both (Bor (List ℕ)) (Bor (List ℕ))

abbrev pub Lent : Type 0
Lent = Both (MutBor (List ℕ)) (MutBor (List ℕ))

-- a value rule: from the state st, which is read off the buffers at entry, the answer r is what f gives with the room of the jump list
abbrev pub GivesValue : (nodes : Shown) (code kinds payloads jumps : Lent) (st : St) (r : Result (ℕ × St) Fault) (f : ℕ → State → Res (ℕ × State)) → Type 0
GivesValue nodes code kinds payloads jumps st r f =
    Says (bufs code.exit.now kinds.exit.now payloads.exit.now) r
    (f (length jumps.entry.now) (st_of (bufs code.entry.now kinds.entry.now payloads.entry.now) st))

-- a branch rule: the same, with the jumps at the front of the list
abbrev pub GivesJumps : (nodes : Shown) (code kinds payloads jumps : Lent) (st : St) (r : Result (ℕ × St) Fault) (f : ℕ → State → Res (List ℕ × State)) → Type 0
GivesJumps nodes code kinds payloads jumps st r f =
    Lists (bufs code.exit.now kinds.exit.now payloads.exit.now) jumps.exit.now r
    (f (length jumps.entry.now) (st_of (bufs code.entry.now kinds.entry.now payloads.entry.now) st))

-- ---- what each rule is for, by the node's kind

abbrev pub IsOperator : List ℕ → ℕ → Type 0
IsOperator t i = (5 < kind_at t i) × (kind_at t i ≤ 17)

-- no immediate fits
abbrev pub IsGeneral : List ℕ → ℕ → Type 0
IsGeneral t i = (7 < kind_at t i) × (kind_at t i ≤ 17) × (op_fold (tree t i) ≡ None)

abbrev pub IsCondition : List ℕ → ℕ → Type 0
IsCondition t i = (17 < kind_at t i) × (kind_at t i ≤ 25)

abbrev pub IsTernary : List ℕ → ℕ → Type 0
IsTernary t i = 25 < kind_at t i

abbrev pub IsNot : List ℕ → ℕ → Type 0
IsNot t i = kind_at t i ≡ 7

-- a branch on it is no branch on others: neither Not, And nor Or
abbrev pub IsTest : List ℕ → ℕ → Type 0
IsTest t i = (kind_at t i ≡ 7 → ⊥) × (is_junction (kind_at t i) ≡ false)

-- a comparison without a literal of 16 bits
abbrev pub IsPair : List ℕ → ℕ → Bool → Type 0
IsPair t i sense = (17 < kind_at t i) × (kind_at t i ≤ 23) × (pick_of (tree t i) sense ≡ two)

abbrev pub IsJunction : List ℕ → ℕ → Bool → Type 0
IsJunction t i by = (is_junction (kind_at t i) ≡ true) × (by ≡ eqb (kind_at t i) 25)
