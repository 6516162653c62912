-- Plumbing: how the contracts of the code speak of the definition. The code has counts (`St`) and lent buffers, the definition one state with lists
-- (`State`). `st_of` reads that state off the buffers and `read` an answer; a contract says that what is read is what the definition gives (`Says`).
use Rattle.faults.specs.declared.Fault.{Fault}
use Rattle.std.specs.Prelude.{◌≡◌, ◌⊎◌, List, map, ℕ, ◌≤◌, ◌^◌, min, length, take, Result, Ok, Err, cond, ltb, Option, Some, None}
use Rattle.std.specs.Int.{w64}
use Rattle.std.proofs.Common.{Fits}
use Rattle.faults.specs.Limits.{max_registers}
use Rattle.table.specs.Table.{kind_at}
use Rattle.table.specs.Nodes.{Node}
use Rattle.value.specs.Value.{Datum, kind_of, payload_of, of_pair, datum_of, datums}
use Rattle.insns.specs.Bits.{twos}
use Rattle.insns.specs.declared.op.Imm16.{Imm16}
use Rattle.emit.specs.declared.state.St.{St}
use Rattle.emit.specs.State.{Res, done, fail, bind, State}

-- ---- the state

-- what is lent: the words, and the slots as kinds and payloads
pub record Bufs : Type 0 where
  pub code : List ℕ
  pub kinds : List ℕ
  pub payloads : List ℕ

abbrev pub bufs : (c k p : List ℕ) → Bufs
bufs c k p = record { code = c; kinds = k; payloads = p }

-- the constants of the first n slots; what lies behind them is not read
abbrev pub held_in : (k p : List ℕ) (n : ℕ) → List Datum
held_in k p n = datums (take n k) (take n p)

-- the definition's state: as many words and slots as the counts say, and room for as many as are lent
abbrev pub st_of : Bufs → St → State
st_of b st =
    record {
      words = take st.count b.code;
      cap = length b.code;
      slots = held_in b.kinds b.payloads st.slots;
      slot_cap = min (length b.kinds) (length b.payloads);
      next = st.next;
      frame = st.frame;
    }

-- the first n slots are there, and they are what their constants are written as
pub record Held (k p : List ℕ) (n : ℕ) : Type 0 where
  pub in_kinds : n ≤ length k
  pub in_payloads : n ≤ length p
  pub as_kinds : take n k ≡ map kind_of (held_in k p n)
  pub as_payloads : take n p ≡ map payload_of (held_in k p n)

-- the counts are within the buffers
pub record Fit (b : Bufs) (st : St) : Type 0 where
  pub words : st.count ≤ length b.code
  pub consts : Held b.kinds b.payloads st.slots

-- the registers from top up are free again
abbrev pub freed : (st : St) (top : ℕ) → St
freed st top = record { count = st.count; slots = st.slots; next = top; frame = st.frame }

-- ---- answers

-- the definition's answer, with the buffers as the code leaves them
abbrev pub read : Bufs → Result (ℕ × St) Fault → Res (ℕ × State)
read b (Ok (r, st)) = done (r, st_of b st)
read b (Err f) = fail f

abbrev pub FitAns : Bufs → Result (ℕ × St) Fault → Type 0
FitAns b (Ok (r, st)) = Fit b st
FitAns b (Err f) = Unit {0}

-- the answer r is what the definition gives
pub record Says (b : Bufs) (r : Result (ℕ × St) Fault) (m : Res (ℕ × State)) : Type 0 where
  pub is : read b r ≡ m
  pub fit : FitAns b r

-- ---- contracts of leaves. A leaf takes no slot, so it speaks for all slots, with kinds ks and payloads ps

-- from the state st, the words being c before and c' after, the answer r is what f gives
abbrev pub Steps : (c c' : List ℕ) (st : St) (r : Result (ℕ × St) Fault) (f : State → Res (ℕ × State)) → Type 0
Steps c c' st r f = (ks ps : List ℕ) → Fit (bufs c ks ps) st → Says (bufs c' ks ps) r (f (st_of (bufs c ks ps) st))

-- the same from an answer x: what f gives of its register and its state, or x where that is a refusal
abbrev pub After : (c c' : List ℕ) (x r : Result (ℕ × St) Fault) (f : ℕ × State → Res (ℕ × State)) → Type 0
After c c' x r f = (ks ps : List ℕ) → FitAns (bufs c ks ps) x → Says (bufs c' ks ps) r (bind (read (bufs c ks ps) x) f)

-- ---- a literal that takes a slot

-- the constant of a kind and a payload
abbrev pub const_of : (kind payload : ℕ) → Datum
const_of kind payload = datum_of (of_pair kind payload)

-- what a constant is written as
pub record Pair (kind payload : ℕ) : Type 0 where
  pub as_kind : kind_of (const_of kind payload) ≡ kind
  pub as_payload : payload_of (const_of kind payload) ≡ payload

-- the place k, if it is one of n
abbrev pub found : (k n : ℕ) → Option ℕ
found k n = cond (ltb k n) (Some k) None

-- an Int or a Float, and a word
pub record Literal (kind payload : ℕ) : Type 0 where
  pub is : (kind ≡ 2) ⊎ (kind ≡ 3)
  pub word : Fits w64 payload

-- ---- what a leaf of the tree asks

-- i is a leaf of an accepted table, whose registers are below 65,536
pub record LeafReady (t : List ℕ) (i : ℕ) : Type 0 where
  pub base : ℕ
  pub node : Node t base i
  pub low : base ≤ max_registers
  pub leaf : kind_at t i ≤ 5

-- ---- words that are made field by field

-- the bits of a literal in its field
abbrev pub literal_bits : Imm16 → ℕ
literal_bits imm = twos (2 ^ 15) imm.n
