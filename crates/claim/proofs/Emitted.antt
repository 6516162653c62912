-- The machine runs nop and the opcodes that the generator emits, no other; and each of them is emitted, by a small table that is compiled here.
use Rattle.std.specs.Prelude.{Option, Some, None, Ok, Err}
use mathlib.Core.Path.{◌≡◌, refl, sym, ap, subst, ◌∙◌}
use mathlib.Core.Bool.{Bool, true, false, not, ◌&&◌, ◌||◌}
use mathlib.Core.List.{List, [], ◌∷◌, ◌++◌}
use Prim.Native.Nat.{ℕ, zero, suc, ◌+◌, ◌%◌, ◌<◌}
use native.Mathlib.Omega.{arith}
use lib.Dec.{leb, ltb, eqb}
use lib.ListN.{length, get_or}
use borrow.Author.Tests.{ltb-true, ltb-false, leb-true, lt-leb, eqb-true, eqb-false}
use Rattle.faults.specs.Limits.{max_registers}
use Rattle.faults.specs.Faults as Faults
use Rattle.faults.specs.Faults.{Checked, none}
use Rattle.value.specs.Answer.{Answer}
use Rattle.table.specs.Table.{check_of}
use Rattle.table.specs.Table as Table
use Rattle.table.specs.Tree as Tree
use Rattle.insns.specs.declared.op.Op.{Op}
use Rattle.insns.specs.declared.op.Bare.{Bare}
use Rattle.insns.specs.declared.op.One.{One}
use Rattle.insns.specs.declared.op.Two.{Two}
use Rattle.insns.specs.declared.op.Slot.{Slot}
use Rattle.insns.specs.declared.op.Three.{Three}
use Rattle.insns.specs.declared.op.Shift.{Shift}
use Rattle.insns.specs.declared.op.Arith.{Arith}
use Rattle.insns.specs.declared.op.Wide.{Wide}
use Rattle.insns.specs.declared.op.Sense.{Sense}
use Rattle.insns.specs.declared.op.Cmp.{Cmp}
use Rattle.insns.specs.declared.op.Call.{Call}
use Rattle.insns.specs.declared.op.ById.{ById}
use Rattle.insns.specs.Bits as Bits
use Rattle.insns.specs.Fields as Fields
use Rattle.fold.specs.Literal as Literal
use Rattle.fold.specs.Fold as Fold
use Rattle.effect.specs.Effect.{effect_of}
use Rattle.emit.specs.State.{State, seek}
use Rattle.claim.specs.Claim.{Accepted}
use Rattle.claim.specs.Refusals.{needed}
use Rattle.claim.specs.Emitted.{is_emitted, is_nop, opcode_of, halts, IsEmitted, EmittedBySome, RunsWhatIsEmitted}
use Rattle.claim.proofs.fragments.Frag.{frag}
use Rattle.claim.proofs.fragments.Fits.{word, words_of, Fits, made, AllFit}
use Rattle.claim.proofs.fragments.Whole.{words-length}
use Rattle.claim.proofs.fragments.Laws.{and_both}
use Rattle.claim.proofs.Known.{frag_of, known}
use Rattle.claim.proofs.Refusals.{refusals}

-- ---- the machine halts at every other opcode

runs : (reg slot : ℕ → Answer) (i : Op) → halts (effect_of reg slot i) ≡ not (is_nop (opcode_of i) || is_emitted (opcode_of i))
runs reg slot (Op.Bare Bare.Panic) = refl
runs reg slot (Op.Bare Bare.Breakpoint) = refl
runs reg slot (Op.Bare Bare.Nop) = refl
runs reg slot (Op.LoadImm40 d z) = refl
runs reg slot (Op.Two Two.Mov d a) = refl
runs reg slot (Op.Two Two.BitNot d a) = refl
runs reg slot (Op.Two Two.Not d a) = refl
runs reg slot (Op.Two Two.CellSet d a) = refl
runs reg slot (Op.Two Two.CellGet d a) = refl
runs reg slot (Op.Two Two.ArrPush d a) = refl
runs reg slot (Op.Two Two.BaClone d a) = refl
runs reg slot (Op.Slot Slot.LoadConst d s) = refl
runs reg slot (Op.Slot Slot.GetGlobal d s) = refl
runs reg slot (Op.Slot Slot.SetGlobal d s) = refl
runs reg slot (Op.Slot Slot.ArrNew d s) = refl
runs reg slot (Op.Three Three.Lshift d a b) = refl
runs reg slot (Op.Three Three.Rshift d a b) = refl
runs reg slot (Op.Three Three.BitAnd d a b) = refl
runs reg slot (Op.Three Three.BitOr d a b) = refl
runs reg slot (Op.Three Three.BitXor d a b) = refl
runs reg slot (Op.Three Three.Add d a b) = refl
runs reg slot (Op.Three Three.Sub d a b) = refl
runs reg slot (Op.Three Three.Mul d a b) = refl
runs reg slot (Op.Three Three.Div d a b) = refl
runs reg slot (Op.Three Three.Modulo d a b) = refl
runs reg slot (Op.Three Three.GetIndex d a b) = refl
runs reg slot (Op.Three Three.SetIndex d a b) = refl
runs reg slot (Op.Shift Shift.Left d a n) = refl
runs reg slot (Op.Shift Shift.Right d a n) = refl
runs reg slot (Op.BitAndMask d a lo len) = refl
runs reg slot (Op.RshiftMask d a n lo len) = refl
runs reg slot (Op.Arith Arith.Plus d a z) = refl
runs reg slot (Op.Arith Arith.Minus d a z) = refl
runs reg slot (Op.Arith Arith.Times d a z) = refl
runs reg slot (Op.ClosNew d fun num) = refl
runs reg slot (Op.ClosSet clos src idx) = refl
runs reg slot (Op.ClosGet d idx) = refl
runs reg slot (Op.One One.CellNew d) = refl
runs reg slot (Op.One One.DictNew d) = refl
runs reg slot (Op.One One.Ret d) = refl
runs reg slot (Op.Wide Wide.Instanceof d val class) = refl
runs reg slot (Op.Wide Wide.InstanceofSub d val class) = refl
runs reg slot (Op.Wide Wide.GetField d val class) = refl
runs reg slot (Op.Wide Wide.SetField d val class) = refl
runs reg slot (Op.If Sense.Yes a z) = refl
runs reg slot (Op.If Sense.No a z) = refl
runs reg slot (Op.Jump Cmp.Eq a b z) = refl
runs reg slot (Op.Jump Cmp.Ne a b z) = refl
runs reg slot (Op.Jump Cmp.Lt a b z) = refl
runs reg slot (Op.Jump Cmp.Le a b z) = refl
runs reg slot (Op.Jump Cmp.Gt a b z) = refl
runs reg slot (Op.Jump Cmp.Ge a b z) = refl
runs reg slot (Op.Jump Cmp.Nlt a b z) = refl
runs reg slot (Op.Jump Cmp.Nle a b z) = refl
runs reg slot (Op.Jump Cmp.Ngt a b z) = refl
runs reg slot (Op.Jump Cmp.Nge a b z) = refl
runs reg slot (Op.JumpImm Cmp.Eq a n z) = refl
runs reg slot (Op.JumpImm Cmp.Ne a n z) = refl
runs reg slot (Op.JumpImm Cmp.Lt a n z) = refl
runs reg slot (Op.JumpImm Cmp.Le a n z) = refl
runs reg slot (Op.JumpImm Cmp.Gt a n z) = refl
runs reg slot (Op.JumpImm Cmp.Ge a n z) = refl
runs reg slot (Op.JumpImm Cmp.Nlt a n z) = refl
runs reg slot (Op.JumpImm Cmp.Nle a n z) = refl
runs reg slot (Op.JumpImm Cmp.Ngt a n z) = refl
runs reg slot (Op.JumpImm Cmp.Nge a n z) = refl
runs reg slot (Op.Jmp z) = refl
runs reg slot (Op.Call Call.Opnd start argc cache) = refl
runs reg slot (Op.Call Call.Pc start argc cache) = refl
runs reg slot (Op.Call Call.Method start argc cache) = refl
runs reg slot (Op.Call Call.IdivInt start argc cache) = refl
runs reg slot (Op.Call Call.KnownCtor start argc cache) = refl
runs reg slot (Op.CallHost host start argc) = refl
runs reg slot (Op.ById ById.Direct fun start argc) = refl
runs reg slot (Op.ById ById.Fresh fun start argc) = refl
runs reg slot (Op.CallMethodHost start argc tag cache) = refl
runs reg slot (Op.RetImm40 z) = refl

-- ---- every word of an accepted table

at-word : (F : List Op) → AllFit F → (k : ℕ) → k < length F → (i : Op) × (get_or (words_of F) k 0 ≡ word i) × Fits i
at-word [] h k lt = absurd (omega arith)
at-word (i ∷ js) h zero lt = (i, refl, h.0)
at-word (i ∷ js) h (suc k) lt = at-word js h.1 k (omega arith)

only :
    (ws : List ℕ) (params locals : ℕ) (dest : Option ℕ) (r : ℕ) (s : State) → Accepted ws params locals dest r s → (k : ℕ) → k < length s.words → IsEmitted s k
only ws params locals dest r s a =
    let q = known ws params locals dest r s a in
    let F = frag_of ws params locals dest in
    subst (λ (x : ℕ × State). (k : ℕ) → k < length x.1.words → IsEmitted x.1 k) q.is
    (λ k lt.
    let x = at-word F.code q.fine.fits k (omega (arith, words-length F.code)) in
    record { insn = x.0; word = rw x.1 (made x.2); among = x.2.emitted })

-- ---- each opcode, in the words of a small table

-- two parameters, a in register 0 and b in register 1; the word at a position has the opcode
record Sample : Type 0 where
  op : ℕ
  at : ℕ
  table : List ℕ
  dest : Option ℕ

abbrev code : Sample → List ℕ
code x = words_of (frag_of x.table 2 0 x.dest).code

abbrev passes : Checked → Bool
passes (Ok tt) = true
passes (Err f) = false

passes-none : (c : Checked) → passes c ≡ true → c ≡ none
passes-none (Ok tt) h = refl
passes-none (Err f) h = absurd (mathlib.Core.Bool.false≢true h)

test : Sample → Bool
test x =
    passes (check_of x.table 2 0 x.dest) && leb (needed x.table 2).registers max_registers && ltb x.at (length (code x))
    && eqb (get_or (code x) x.at 0 % 256) x.op

shows : (x : Sample) → test x ≡ true → EmittedBySome x.op
unfolding test
shows x h =
    let p = and_both _ _ h in
    let q = and_both _ _ p.0 in
    let t = and_both _ _ q.0 in
    let need = needed x.table 2 in
    let y =
    (refusals x.table 2 0 x.dest need.places need.words need.slots
    ).accepts (passes-none _ t.0) (record { slots = omega arith; words = omega arith; places = omega arith }) (leb-true _ max_registers t.1) in
    let a : Accepted x.table 2 0 x.dest y.0.0 y.0.1 = record { places = need.places; cap = need.words; slot_cap = need.slots; is = y.1 } in
    let k = known x.table 2 0 x.dest y.0.0 y.0.1 a in
    let e : code x ≡ y.0.1.words = ap (λ (c : ℕ × State). c.1.words) k.is in
    record {
      table = x.table;
      params = 2;
      dest = x.dest;
      register = y.0.0;
      state = y.0.1;
      accepted = a;
      at = x.at;
      inside = rw (← e) (ltb-true _ _ q.1);
      opcode = rw (← e) (eqb-true _ _ p.1);
    }

-- kind, payload, first, depth
abbrev node : ℕ → ℕ → ℕ → ℕ → List ℕ
node kind payload first depth = kind ∷ payload ∷ first ∷ depth ∷ []

-- an operator of that kind: of a and b, of a and 1
abbrev of_refs : ℕ → List ℕ
of_refs kind = node 5 0 0 1 ++ node 5 1 1 1 ++ node kind 0 0 2

abbrev with_one : ℕ → List ℕ
with_one kind = node 5 0 0 1 ++ node 3 1 1 1 ++ node kind 0 0 2

-- a test of n nodes and depth d, then nil or nil
abbrev choice : List ℕ → ℕ → ℕ → List ℕ
choice test n d = test ++ node 0 0 n 1 ++ node 0 0 (n + 1) 1 ++ node 26 0 0 (d + 1)

abbrev first : ℕ → List ℕ → Sample
first op table = record { op = op; at = 0; table = table; dest = None }

abbrev tables : List Sample
tables =
    first 3 (node 0 0 0 1)
    ∷ record { op = 4; at = 0; table = node 5 0 0 1; dest = Some 1 }
    ∷ first 5 (node 4 0 0 1)
    ∷ first 8 (of_refs 11) ∷ first 9 (of_refs 12) ∷ first 10 (of_refs 8) ∷ first 11 (of_refs 9) ∷ first 12 (of_refs 10)
    ∷ first 14 (with_one 11) ∷ first 15 (with_one 12) ∷ first 16 (with_one 8)
    ∷ first 17 (with_one 12 ++ node 3 1 3 1 ++ node 8 0 0 3)
    ∷ first 18 (of_refs 13) ∷ first 19 (of_refs 14) ∷ first 20 (of_refs 15) ∷ first 21 (of_refs 16) ∷ first 22 (of_refs 17)
    ∷ first 23 (with_one 13) ∷ first 24 (with_one 14) ∷ first 25 (with_one 15)
    ∷ first 26 (node 5 0 0 1 ++ node 7 0 0 2)
    ∷ first 43 (of_refs 25) ∷ first 44 (choice (node 5 0 0 1) 1 1)
    ∷ first 45 (of_refs 18) ∷ first 46 (of_refs 19) ∷ first 47 (of_refs 20) ∷ first 48 (of_refs 21) ∷ first 49 (of_refs 22) ∷ first 50 (of_refs 23)
    ∷ first 51 (choice (of_refs 20) 3 2) ∷ first 52 (choice (of_refs 21) 3 2) ∷ first 53 (choice (of_refs 22) 3 2) ∷ first 54 (choice (of_refs 23) 3 2)
    ∷ first 55 (with_one 18) ∷ first 56 (with_one 19) ∷ first 57 (with_one 20) ∷ first 58 (with_one 21) ∷ first 59 (with_one 22) ∷ first 60 (with_one 23)
    ∷ first 61 (choice (with_one 20) 3 2) ∷ first 62 (choice (with_one 21) 3 2) ∷ first 63 (choice (with_one 22) 3 2) ∷ first 64 (choice (with_one 23) 3 2)
    ∷ record { op = 65; at = 2; table = of_refs 20; dest = None }
    ∷ []

all : List Sample → Bool
all [] = true
all (x ∷ xs) = test x && all xs

all_hold : all tables ≡ true
unfolding all test Faults.fault Faults.◌or_else◌ Table.temp_base_of Table.arity Table.children Table.span_fault Table.node_fault Table.nodes_fault Table.shape_fault Table.layout_fault Table.dest_fault Table.last_fault Table.check_of Tree.kind_of Tree.build Tree.tree_at Tree.tree Bits.twos Bits.is_raw Fields.raw_bits Literal.bits Literal.run_at Literal.run_from Literal.bit_run Literal.lit_of Fold.shift_by Fold.shifted_by Fold.fold_by seek frag word
all_hold = refl

has : ℕ → List Sample → Bool
has op [] = false
has op (x ∷ xs) = eqb x.op op || has op xs

found : (xs : List Sample) → all xs ≡ true → (op : ℕ) → has op xs ≡ true → EmittedBySome op
unfolding all has
found [] h op e = absurd (mathlib.Core.Bool.false≢true e)
found (x ∷ xs) h op e = let p = and_both _ _ h in go (eqb x.op op) refl e p.0 (λ i. found xs p.1 op i)
  where
    go : (t : Bool) → eqb x.op op ≡ t → (t || has op xs) ≡ true → test x ≡ true → (has op xs ≡ true → EmittedBySome op) → EmittedBySome op
    go true i e k next = subst EmittedBySome (eqb-true x.op op i) (shows x k)
    go false i e k next = next e

-- every number below n that is emitted has a table
covers : ℕ → Bool
covers zero = true
covers (suc n) = (not (is_emitted n) || has n tables) && covers n

all-covered : covers 66 ≡ true
unfolding covers has
all-covered = refl

implied : (a b : Bool) → (not a || b) ≡ true → a ≡ true → b ≡ true
implied true b h e = h
implied false b h e = absurd (mathlib.Core.Bool.false≢true e)

covered : (n : ℕ) → covers n ≡ true → (k : ℕ) → k < n → is_emitted k ≡ true → has k tables ≡ true
unfolding covers
covered zero h k lt e = absurd (omega arith)
covered (suc n) h k lt e = let p = and_both _ _ h in go (eqb k n) refl p.0 (λ l. covered n p.1 k l e)
  where
    go : (t : Bool) → eqb k n ≡ t → (not (is_emitted n) || has n tables) ≡ true → (k < n → has k tables ≡ true) → has k tables ≡ true
    go true i here below =
        let z : k ≡ n = eqb-true k n i in
        subst (λ (m : ℕ). has m tables ≡ true) (sym z) (implied (is_emitted n) (has n tables) here (subst (λ (m : ℕ). is_emitted m ≡ true) z e))
    go false i here below = below (omega (arith, eqb-false k n i))

no_more : (a : Bool) → (a && false) ≡ false
no_more true = refl
no_more false = refl

past : (op : ℕ) → 65 < op → is_emitted op ≡ false
past op h = rw (lt-leb op 5 (omega arith), lt-leb op 12 (omega arith), lt-leb op 26 (omega arith), lt-leb op 65 h) (simp no_more)

each : (op : ℕ) → is_emitted op ≡ true → EmittedBySome op
each op e = go (ltb op 66) refl
  where
    go : (t : Bool) → ltb op 66 ≡ t → EmittedBySome op
    go true i = found tables all_hold op (covered 66 all-covered op (ltb-true op 66 i) e)
    go false i = absurd (mathlib.Core.Bool.false≢true (sym (past op (ltb-false op 66 i)) ∙ e))

pub emitted : RunsWhatIsEmitted
emitted = record { runs = runs; only = only; each = each }
