-- What compiling a table gives: its tree's fragment, which takes no more than the table needs; or a refusal, and then something is lacking.
use Rattle.std.specs.Prelude.{Option, Some, None, Result, Ok, Err}
use Rattle.faults.specs.declared.Fault.{Fault}
use Rattle.faults.specs.Numbers.{not_local}
use mathlib.Core.Path.{◌≡◌, refl, ap}
use mathlib.Core.List.{List, []}
use Prim.Native.Nat.{ℕ, suc, ◌+◌, ◌-◌, ◌*◌, ◌≤◌, ◌<◌, ◌^◌, max}
use native.Mathlib.Omega.{arith}
use lib.Dec.{leb}
use borrow.Author.Tests.{leb-false}
use Rattle.faults.specs.Faults.{none, ◌or_else◌}
use Rattle.faults.specs.Limits.{max_registers}
use Rattle.faults.proofs.Faults.{none_both, failed}
use Rattle.table.specs.Table.{node_count, depth_at, temp_base_of, shape_fault, layout_fault, dest_fault, nodes_fault, last_fault, check_of}
use Rattle.table.specs.Tree.{Tree, tree, RefsBelow}
use Rattle.table.proofs.Whole as Table
use Rattle.emit.specs.State.{Res, done, State}
use Rattle.codegen.specs.Gen.{gen}
use Rattle.compile.specs.Compile.{start, dst_of, root_d, generated, accepted, compile_of}
use Rattle.claim.specs.Claim.{Accepted}
use Rattle.claim.specs.Refusals.{Amounts, literals, needed}
use Rattle.claim.proofs.Literals.{few-literals, tree-literals}
use Rattle.claim.proofs.fragments.Frag.{Vf, frag, into_f}
use Rattle.claim.proofs.fragments.Fits.{words_of, far}
use Rattle.claim.proofs.fragments.Needs.{needs, closed}
use Rattle.claim.proofs.fragments.Steps.{Met, met, refused, met-then, Lacking, st}
use Rattle.claim.proofs.fragments.Bridge.{FineI, Ahead, gen-met, into-met}

-- ---- the whole expression as a fragment

abbrev pub DestLow : Option ℕ → ℕ → Type 0
DestLow None n = Unit {0}
DestLow (Some d) n = d < n

pub low-more : (dest : Option ℕ) {m n : ℕ} → m ≤ n → DestLow dest m → DestLow dest n
low-more None up h = tt
low-more (Some d) up h = omega arith

abbrev pub whole : Tree → Option ℕ → ℕ → Vf
whole t None n = (frag t).value None n []
whole t (Some d) n = into_f ((frag t).value (Some d) n []) d n

-- what compiling gives: the register and the state
abbrev pub made : ℕ → ℕ → ℕ → Vf → ℕ × State
made cap slot_cap n F = (F.reg, st cap slot_cap (words_of F.code) F.consts F.next (max n F.need))

root-met :
    (need : Amounts) (room cap slot_cap : ℕ) (near : need.words ≤ far) (named : need.slots ≤ 2 ^ 32) (t : Tree) (dest : Option ℕ) (base n : ℕ) → RefsBelow base t →
    base ≤ max_registers → n ≤ max_registers → DestLow dest max_registers → Ahead need room cap slot_cap near named (needs t) room [] [] n →
    Met (Lacking need room cap slot_cap) (root_d (gen t).value (dst_of dest) room (start cap slot_cap n)) (made cap slot_cap n (whole t dest n))
    (FineI (needs t) n (whole t dest n))
unfolding root_d
root-met need room cap slot_cap near named t None base n h up top low ah =
    met-then ((gen-met need room cap slot_cap near named t base h up).values None room [] [] n n top tt ah)
    (λ f. record { fits = f.fits; reach = f.reach; slots = f.slots; words = omega arith })
root-met need room cap slot_cap near named t (Some d) base n h up top low ah =
    into-met need room cap slot_cap near named (gen t).value (frag t).value (needs t) (gen-met need room cap slot_cap near named t base h up).values
    d room [] [] n n top low ah

-- ---- a table that the check accepts

pub check-parts :
    (ws : List ℕ) (params locals : ℕ) (dest : Option ℕ) → check_of ws params locals dest ≡ none →
    (shape_fault ws ≡ none) × (layout_fault params locals ≡ none) × (dest_fault dest (params + locals) ≡ none)
    × (nodes_fault ws (params + locals) (node_count ws) or_else last_fault ws ≡ none)
unfolding check_of
check-parts ws params locals dest h =
    let a = none_both (shape_fault ws) _ h in
    let b = none_both (layout_fault params locals) _ a.1 in
    let c = none_both (dest_fault dest (params + locals)) _ b.1 in
    (a.0, b.0, c.0, c.1)

dest-low : (dest : Option ℕ) (base : ℕ) → dest_fault dest base ≡ none → DestLow dest base
unfolding dest_fault
dest-low None base h = tt
dest-low (Some d) base h = leb-false base d (failed (leb base d) not_local h)

pub record Checked (ws : List ℕ) (params locals : ℕ) (dest : Option ℕ) : Type 0 where
  pub refs : RefsBelow (params + locals) (tree ws (node_count ws - 1))
  pub layout : params + locals ≤ max_registers
  pub low : DestLow dest (params + locals)
  -- no more is needed than is claimed, and a displacement and a slot's number fit their fields
  pub registers : (needs (tree ws (node_count ws - 1))).registers ≤ 2 * depth_at ws (node_count ws - 1)
  pub slots : (needs (tree ws (node_count ws - 1))).slots ≤ literals ws (node_count ws)
  pub words : (needs (tree ws (node_count ws - 1))).words ≤ 4 * node_count ws
  pub places : 2 * (needs (tree ws (node_count ws - 1))).places ≤ node_count ws + 1
  pub near : 4 * node_count ws ≤ far
  pub named : literals ws (node_count ws) ≤ 2 ^ 32

pub checked : (ws : List ℕ) (params locals : ℕ) (dest : Option ℕ) → check_of ws params locals dest ≡ none → Checked ws params locals dest
checked ws params locals dest h =
    let a = Table.accepted ws params locals dest h in
    let last = node_count ws - 1 in
    let n : suc (node_count ws - 1) ≡ node_count ws = omega (arith, a.some) in
    let k = closed (tree ws (node_count ws - 1)) in
    record {
      refs = a.refs;
      layout = a.layout;
      low = dest-low dest (params + locals) (check-parts ws params locals dest h).2;
      registers = omega (arith, (a.each (node_count ws - 1) (omega (arith, a.some))).deep);
      slots = omega (arith, tree-literals ws (params + locals) (node_count ws - 1) a.root, ap (literals ws) n);
      words = omega (arith, a.whole);
      places = omega (arith, a.whole);
      near = omega (arith, a.few);
      named = omega (arith, few-literals ws (node_count ws), a.few);
    }

-- the fragment of a table
abbrev pub frag_of : List ℕ → ℕ → ℕ → Option ℕ → Vf
frag_of ws params locals dest = whole (tree ws (node_count ws - 1)) dest (temp_base_of (params + locals))

pub table-met :
    (ws : List ℕ) (params locals : ℕ) (dest : Option ℕ) (room cap slot_cap : ℕ) → Checked ws params locals dest →
    Met (Lacking (needed ws (params + locals)) room cap slot_cap) (generated (tree ws (node_count ws - 1)) dest (params + locals) room cap slot_cap)
    (made cap slot_cap (temp_base_of (params + locals)) (frag_of ws params locals dest))
    (FineI (needs (tree ws (node_count ws - 1))) (temp_base_of (params + locals)) (frag_of ws params locals dest))
unfolding generated temp_base_of
table-met ws params locals dest room cap slot_cap c =
    root-met (needed ws (params + locals)) room cap slot_cap (omega arith) c.named (tree ws (node_count ws - 1)) dest (params + locals) (temp_base_of (params + locals))
    c.refs c.layout (omega (arith, c.layout)) (low-more dest c.layout c.low)
    (record { registers = omega arith; slots = omega arith; words = omega arith; places = λ e. omega arith })

-- ---- what is accepted is checked, and is the fragment

check-made : (n : Result (Unit {0}) Fault) {m : Res (ℕ × State)} {c : ℕ × State} → accepted n m ≡ done c → (n ≡ none) × (m ≡ done c)
check-made (Ok tt) h = (refl, h)
check-made (Err f) h = let z : ◌≡◌ {A = ℕ} 0 1 = cc in absurd (omega arith)

met-is : {W : Fault → Type 0} {x : Res (ℕ × State)} {a c : ℕ × State} {P : Type 0} → Met W x a P → x ≡ done c → (a ≡ c) × P
met-is {a} {c} (met e p) f = let w : a ≡ c = cc in (w, p)
met-is (refused n e h) f = let z : ◌≡◌ {A = ℕ} 0 1 = cc in absurd (omega arith)

pub record Known (ws : List ℕ) (params locals : ℕ) (dest : Option ℕ) (cap slot_cap r : ℕ) (s : State) : Type 0 where
  pub check : check_of ws params locals dest ≡ none
  pub is : made cap slot_cap (temp_base_of (params + locals)) (frag_of ws params locals dest) ≡ (r, s)
  pub fine : FineI (needs (tree ws (node_count ws - 1))) (temp_base_of (params + locals)) (frag_of ws params locals dest)

pub known :
    (ws : List ℕ) (params locals : ℕ) (dest : Option ℕ) (r : ℕ) (s : State) (a : Accepted ws params locals dest r s) →
    Known ws params locals dest a.cap a.slot_cap r s
unfolding compile_of
known ws params locals dest r s a =
    let x = check-made (check_of ws params locals dest) a.is in
    let y = met-is (table-met ws params locals dest a.places a.cap a.slot_cap (checked ws params locals dest x.0)) x.1 in
    record { check = x.0; is = y.0; fine = y.1 }
