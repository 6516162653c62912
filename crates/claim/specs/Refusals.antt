-- How much a compile takes at most, and that it is refused for its table or for want of that much alone: 01's numbers 1 to 7, and no other.
use Rattle.std.specs.Prelude.{◌≡◌, cond, List, ℕ, zero, suc, ◌+◌, ◌-◌, ◌*◌, ◌/◌, ◌≤◌, ◌<◌, eqb, length, Option, Err}
use Rattle.faults.specs.Limits.{max_registers}
use Rattle.faults.specs.declared.Fault.{Fault}
use Rattle.faults.specs.Faults.{Checked, none}
use Rattle.faults.specs.Numbers.{bad_shape, no_register, no_slot, no_room, number, number_of}
use Rattle.table.specs.Table.{node_count, kind_at, depth_at, temp_base_of, check_of}
use Rattle.emit.specs.State.{Res, done, fail, State}
use Rattle.compile.specs.Compile.{compile_of}

-- registers, constant slots, words, and places in the jump list
pub record Amounts : Type 0 where
  pub registers : ℕ
  pub slots : ℕ
  pub words : ℕ
  pub places : ℕ

-- ---- what a table can need, and what is lent

-- 1 for an Int or a Float node
abbrev pub is_literal : ℕ → ℕ
is_literal kind = cond (eqb kind 3) 1 (cond (eqb kind 4) 1 0)

-- how many of the first n nodes are literals
unfoldable pub literals : List ℕ → ℕ → ℕ
literals ws zero = 0
literals ws (suc n) = literals ws n + is_literal (kind_at ws n)

-- Two temporaries for each level of the tree, a slot for each literal, 4 words for each node, and a place for every second node.
abbrev pub needed : List ℕ → ℕ → Amounts
needed ws base =
    record {
      registers = temp_base_of base + 2 * depth_at ws (node_count ws - 1);
      slots = literals ws (node_count ws);
      words = 4 * node_count ws;
      places = (node_count ws + 1) / 2;
    }

-- a caller's buffers; there are as many registers as can be named
abbrev pub lent : ℕ → ℕ → ℕ → Amounts
lent places words slots = record { registers = max_registers; slots = slots; words = words; places = places }

-- ---- what is claimed of a compile, by what it needs and what it is lent

-- an accepted table takes no more than it needs
pub record Takes (need : Amounts) (s : State) : Type 0 where
  pub frame : s.frame ≤ need.registers
  pub slots : length s.slots ≤ need.slots
  pub words : length s.words ≤ need.words

-- what a checked table can be refused for: 5, 6 or 7, and then there is less than is needed
pub data Lacks (need has : Amounts) : Fault → Type 0 where
  register : has.registers < need.registers → Lacks need has no_register
  slot : has.slots < need.slots → Lacks need has no_slot
  word : has.words < need.words → Lacks need has no_room
  place : has.places < need.places → Lacks need has no_room

-- enough is lent; registers apart
pub record Enough (need has : Amounts) : Type 0 where
  pub slots : need.slots ≤ has.slots
  pub words : need.words ≤ has.words
  pub places : need.places ≤ has.places

-- the table is at fault, or registers are lacking
pub data TableOrRegisters (check : Checked) : Fault → Type 0 where
  table : {f : Fault} → check ≡ Err f → TableOrRegisters check f
  registers : TableOrRegisters check no_register

-- a compile that gave m, of a table with this answer of its check
pub record Refusals (need has : Amounts) (check : Checked) (m : Res (ℕ × State)) : Type 0 where
  pub takes : (r : ℕ) (s : State) → m ≡ done (r, s) → Takes need s
  pub lacks : (e : Fault) → check ≡ none → m ≡ fail e → Lacks need has e
  pub enough : (e : Fault) → Enough need has → m ≡ fail e → TableOrRegisters check e
  pub accepts : check ≡ none → Enough need has → need.registers ≤ has.registers → (x : ℕ × State) × (m ≡ done x)
  pub checks : number_of check ≤ number no_register
  pub numbers : (e : Fault) → m ≡ fail e → (number bad_shape ≤ number e) × (number e ≤ number no_room)

abbrev pub RefusalsOf : List ℕ → ℕ → ℕ → Option ℕ → ℕ → ℕ → ℕ → Type 0
RefusalsOf ws params locals dest places cap slot_cap =
    Refusals (needed ws (params + locals)) (lent places cap slot_cap) (check_of ws params locals dest)
    (compile_of ws params locals dest places cap slot_cap)
