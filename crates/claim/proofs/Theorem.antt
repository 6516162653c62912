-- Demand 3: the words of an accepted table, run, give what the tree gives.
use Rattle.faults.specs.Faults.{none}
use Rattle.std.specs.Prelude.{Option, Some, None}
use mathlib.Core.Path.{◌≡◌, refl, sym, ap, ap₂, ◌∙◌, subst}
use mathlib.Core.Bool.{true}
use mathlib.Core.List.{List, [], ◌∷◌, append-nil, map}
use Prim.Native.Nat.{ℕ, zero, suc, ◌+◌, ◌-◌, ◌≤◌, ◌<◌, ◌^◌, max}
use native.Mathlib.Omega.{arith}
use lib.ListN.{length, get_or, take}
use lib.Seq.{get_or-take}
use borrow.Author.Tests.{le-ltb}
use Rattle.faults.specs.Faults as Faults
use Rattle.table.specs.Table.{node_count, temp_base_of, dest_fault, check_of}
use Rattle.table.specs.Tree.{Tree, tree, RefsBelow}
use Rattle.value.specs.Value.{Datum, nil, kind_of, payload_of, of_pair, is_well, datum_of, datums, all_well}
use Rattle.value.specs.Answer.{Answer, is, fault}
use Rattle.eval.specs.Eval.{eval_of}
use Rattle.eval.specs.Evaluate.{locals_fault, unless, evaluate_of}
use Rattle.effect.specs.Effect as M
use Rattle.machine.specs.Run.{Out, run_of}
use Rattle.machine.specs.Datums.{value_at}
use Rattle.machine.specs.declared.run.Ran.{Ran}
use Rattle.emit.specs.State.{State}
use Rattle.compile.specs.Compile.{dst_of}
use Rattle.compile.specs.Buffers.{padded}
use Rattle.claim.specs.Claim.{reported, kinds_left, payloads_left, HasValue, InDest, Unchanged, NotDest, Kept, Agrees, Accepted, Values, Slots, Supplied, Demand3}
use Rattle.claim.specs.Entry.{Promised}
use Rattle.claim.proofs.fragments.Frag.{Vf, frag, NotDst}
use Rattle.claim.proofs.fragments.Fits.{words_of, AllFit}
use Rattle.claim.proofs.fragments.Runs.{Keep, Good, value_in}
use Rattle.claim.proofs.fragments.Laws.{and_both}
use Rattle.claim.proofs.fragments.Sound.{into-sound}
use Rattle.claim.proofs.fragments.Trees.{sound}
use Rattle.claim.proofs.fragments.Whole.{at_self, words-length, Told, Left, Fixed, fixed}
use Rattle.claim.proofs.Consts.{AllHeld, TreeHeld, frag-held, tree-held, left-slots}
use Rattle.claim.proofs.Pairs.{Wide, wide-values, run-same, same-report, same-wide, pair_is}
use Rattle.claim.proofs.Known.{DestLow, low-more, whole, made, check-parts, checked, frag_of, known}

-- ---- the fragment of a whole expression, run alone

whole-fixed :
    (t : Tree) (dest : Option ℕ) (base n : ℕ) (ls : List Datum) → RefsBelow base t → base ≤ n → DestLow dest n → AllFit (whole t dest n).code →
    Fixed (dst_of dest) base n (whole t dest n) ls (eval_of ls t)
whole-fixed t None base n ls h up low fits =
    let F = whole t None n in
    fixed None base n F ls (eval_of ls t)
    (((sound (words_of F.code) F.consts ls base t h).values None n [] up tt
    ).runs 0 (length F.code) (at_self F.code fits) (record { behind = []; is = sym (append-nil F.consts) }))
whole-fixed t (Some d) base n ls h up low fits =
    let F = whole t (Some d) n in
    fixed (Some d) base n F ls (eval_of ls t)
    ((into-sound (words_of F.code) F.consts ls base d n [] ((frag t).value (Some d) n []) (eval_of ls t) low
    ((sound (words_of F.code) F.consts ls base t h).values (Some d) n [] up low)
    ).runs 0 (length F.code) (at_self F.code fits) (record { behind = []; is = sym (append-nil F.consts) }))

-- the check without a destination, too
check-none : (ws : List ℕ) (params locals : ℕ) (dest : Option ℕ) → check_of ws params locals dest ≡ none → check_of ws params locals None ≡ none
unfolding check_of dest_fault Faults.◌or_else◌
check-none ws params locals dest h = let p = check-parts ws params locals dest h in rw (p.0, p.1, p.3) refl

-- ---- lent locals

datums-take : (n : ℕ) (ks ps : List ℕ) → datums (take n ks) (take n ps) ≡ take n (datums ks ps)
unfolding datums
datums-take zero ks ps = refl
datums-take (suc n) [] ps = refl
datums-take (suc n) (k ∷ ks) [] = refl
datums-take (suc n) (k ∷ ks) (p ∷ ps) = ap (λ (l : List Datum). datum_of (of_pair k p) ∷ l) (datums-take n ks ps)

well-take : (n : ℕ) (ks ps : List ℕ) → all_well ks ps ≡ true → all_well (take n ks) (take n ps) ≡ true
unfolding all_well
well-take zero ks ps h = refl
well-take (suc n) [] ps h = refl
well-take (suc n) (k ∷ ks) [] h = refl
well-take (suc n) (k ∷ ks) (p ∷ ps) h =
    let b = and_both (is_well (of_pair k p)) (all_well ks ps) h in rw b.0 (well-take n ks ps b.1)

-- the locals that the evaluator reads
abbrev locals_of : ℕ → List ℕ → List ℕ → List Datum
locals_of base ks ps = datums (take base ks) (take base ps)

evaluates :
    (ws : List ℕ) (params locals : ℕ) (dest : Option ℕ) (ks ps : List ℕ) → check_of ws params locals dest ≡ none → all_well ks ps ≡ true → params + locals ≤ M.size ks ps →
    eval_of (locals_of (params + locals) ks ps) (tree ws (node_count ws - 1)) ≡ evaluate_of ws params locals ks ps
unfolding evaluate_of locals_fault unless Faults.◌or_else◌ Faults.fault
evaluates ws params locals dest ks ps h w enough =
    rw (check-none ws params locals dest h, le-ltb (M.size ks ps) (params + locals) enough, well-take (params + locals) ks ps w) refl

-- ---- a fragment, and what a run of its words leaves

module _ (dest : Option ℕ) (base n : ℕ) (F : Vf) (ks ps sks sps : List ℕ) (h : Values ks ps) (k : Slots F.consts sks sps) (roomy : max n F.need ≤ M.size ks ps) where
  abbrev rs : List Datum
  rs = datums ks ps

  size_is : M.size ks ps ≡ length rs
  size_is = (wide-values ks ps h).lends.count

  -- the registers are as the fragment wants them
  good : (ls : List Datum) → ls ≡ locals_of base ks ps → base ≤ n → Good F.consts ls base n F.need (datums sks sps) rs
  good ls e up =
      record {
        slots = record { behind = k.behind; is = k.front };
        agree =
            λ i hi.
            value_in (datums ks ps) i (omega (arith, size_is))
            ∙ ap is (sym (get_or-take base (datums ks ps) i nil hi) ∙ ap (λ (l : List Datum). get_or l i nil) (sym (datums-take base ks ps) ∙ sym e));
        low = omega (arith, size_is);
        high = omega (arith, size_is);
      }

  -- a value that a register kept is a pair that it kept
  kept_pair : (o : Out) (rs' : List Datum) (i : ℕ) → Wide ks ps (kinds_left o) (payloads_left o) rs' → i < length rs → value_at rs' i ≡ value_at rs i → Unchanged ks ps o i
  kept_pair o rs' i w hi e =
      let v = get_or (datums ks ps) i nil in
      let held = value_in (datums ks ps) i hi in
      let old = pair_is (wide-values ks ps h) i v held in
      let new = pair_is w i v (e ∙ held) in
      record { kind = new.kind ∙ sym old.kind; payload = new.payload ∙ sym old.payload }

  not_dst : (dest : Option ℕ) (i : ℕ) → NotDest dest i → NotDst (dst_of dest) i
  not_dst None i d = tt
  not_dst (Some r) i d = d

  high-dst : (dest : Option ℕ) (i : ℕ) → DestLow dest n → n ≤ i → NotDst (dst_of dest) i
  high-dst None i low up = tt
  high-dst (Some r) i low up = omega arith

  kept : (dest : Option ℕ) (o : Out) (rs' : List Datum) → DestLow dest n → Wide ks ps (kinds_left o) (payloads_left o) rs' → Keep (dst_of dest) n F.need rs rs' → Kept dest n (max n F.need) ks ps o
  kept dest o rs' low w keep =
      record {
        kinds = w.kinds;
        payloads = w.payloads;
        low = λ i hi d. kept_pair o rs' i w (omega (arith, size_is)) (keep.low i hi (not_dst dest i d));
        high = λ i hi inside. kept_pair o rs' i w (omega (arith, size_is)) (keep.high i (omega arith) (high-dst dest i low (omega arith)));
      }

  agrees :
      (cap slot_cap : ℕ) (res : Answer) (o : Out) (report : Ran) (rs' : List Datum) → DestLow dest n → InDest dest F.reg → Told res (length F.code) report →
      Left (dst_of dest) n F rs rs' res → reported o ≡ report → Wide ks ps (kinds_left o) (payloads_left o) rs' →
      Agrees dest n F.reg (made cap slot_cap n F).1 ks ps res o
  agrees cap slot_cap (is v) o report rs' low chosen told left e w =
      let len : length (words_of F.code) ≡ length F.code = words-length F.code in
      let p = pair_is w F.reg v left.1 in
      record {
        outcome =
            record {
              finished = ap (λ (q : Ran). q.end) e ∙ told.0;
              position = ap (λ (q : Ran). q.position) e ∙ told.1 ∙ sym len;
              value = record { kind = p.kind; payload = p.payload };
              chosen = chosen;
            };
        steps = rw e (omega (arith, told.2));
        kept = kept dest o rs' low w left.0;
      }
  agrees cap slot_cap (fault x) o report rs' low chosen told left e w =
      let len : length (words_of F.code) ≡ length F.code = words-length F.code in
      record { outcome = ap (λ (q : Ran). q.end) e ∙ told.0; steps = rw e (omega (arith, told.1)); kept = kept None o rs' tt w left }

-- ---- demand 3

-- the report of a run, and that it is as claimed
record Ran-as (dest : Option ℕ) (n : ℕ) (c : ℕ × State) (ks ps : List ℕ) (res : Answer) (report : Ran) (o : Out) : Type 0 where
  reports : reported o ≡ report
  claim : Agrees dest n c.0 c.1 ks ps res o

in-dest : (t : Tree) (dest : Option ℕ) (n : ℕ) → InDest dest (whole t dest n).reg
in-dest t None n = tt
in-dest t (Some d) n = refl

-- a claim about a value
ended :
    (dest : Option ℕ) (n r : ℕ) (s : State) (ks ps : List ℕ) (res : Answer) (v : Datum) (o : Out) → res ≡ is v → Agrees dest n r s ks ps res o → HasValue o r v
ended dest n r s ks ps res v o e a = (subst (λ (x : Answer). Agrees dest n r s ks ps x o) e a).outcome.value

-- of a checked table whose fragment's words fit
module _ (ws : List ℕ) (params locals : ℕ) (dest : Option ℕ) (cap slot_cap : ℕ) (check : check_of ws params locals dest ≡ none)
    (fits : AllFit (frag_of ws params locals dest).code) where
  abbrev t : Tree
  t = tree ws (node_count ws - 1)

  abbrev base : ℕ
  base = params + locals

  abbrev n : ℕ
  n = temp_base_of (params + locals)

  abbrev F : Vf
  F = frag_of ws params locals dest

  abbrev c : ℕ × State
  c = made cap slot_cap n F

  -- every run of the words, with these locals
  runs :
      (ls : List Datum) →
      (report : Ran) ×
      ((ks ps sks sps : List ℕ) (budget : ℕ) → Supplied c.1 ks ps sks sps budget → ls ≡ locals_of base ks ps →
      Ran-as dest n c ks ps (eval_of ls t) report (run_of (words_of F.code) sks sps budget 0 ks ps))
  unfolding temp_base_of
  runs ls =
      let k = checked ws params locals dest check in
      let up : base ≤ n = omega arith in
      let low = low-more dest up k.low in
      let fx = whole-fixed t dest base n ls k.refs up low fits in (
        fx.report,
        λ ks ps sks sps budget l e.
            let g = good dest base n F ks ps sks sps l.registers l.slots l.room ls e up in
            let x = fx.all (datums sks sps) (datums ks ps) g budget (omega (arith, l.enough, words-length F.code)) in
            let o = run_of (words_of F.code) sks sps budget 0 ks ps in
            let same = rw x.1 at (run-same (words_of F.code) sks sps ks ps budget l.registers l.slots.values) in
            let rep = same-report o same in
            record {
              reports = rep;
              claim =
                  agrees dest base n F ks ps sks sps l.registers l.slots l.room cap slot_cap (eval_of ls t) o fx.report x.0 low (in-dest t dest n)
                  fx.told x.2 rep (same-wide o same);
            },
      )

  of-fragment : Demand3 ws params locals dest c.0 c.1
  unfolding temp_base_of
  of-fragment =
      record {
        agrees =
            λ ks ps sks sps budget l.
            subst (λ (res : Answer). Agrees dest n c.0 c.1 ks ps res (run_of (words_of F.code) sks sps budget 0 ks ps))
            (evaluates ws params locals dest ks ps check l.registers.well (omega (arith, l.room)))
            ((runs (locals_of base ks ps)).1 ks ps sks sps budget l refl).claim;
        alike =
            λ ks ps sks sps ks' ps' sks' sps' budget budget' l l' e f.
            let ls = locals_of base ks ps in
            let x = runs ls in
            let y = x.1 ks ps sks sps budget l refl in
            let y' = x.1 ks' ps' sks' sps' budget' l' (ap₂ datums e f) in
            let same = evaluates ws params locals dest ks ps check l.registers.well (omega (arith, l.room)) in
            record {
              report = y.reports ∙ sym y'.reports;
              value = λ v h. (
                ended dest n c.0 c.1 ks ps (eval_of ls t) v (run_of (words_of F.code) sks sps budget 0 ks ps) (same ∙ h) y.claim,
                ended dest n c.0 c.1 ks' ps' (eval_of ls t) v (run_of (words_of F.code) sks' sps' budget' 0 ks' ps') (same ∙ h) y'.claim,
              );
            };
      }

pub demand-3 : (ws : List ℕ) (params locals : ℕ) (dest : Option ℕ) (r : ℕ) (s : State) → Accepted ws params locals dest r s → Demand3 ws params locals dest r s
demand-3 ws params locals dest r s a =
    let k = known ws params locals dest r s a in
    subst (λ (c : ℕ × State). Demand3 ws params locals dest c.0 c.1) k.is
    (of-fragment ws params locals dest a.cap a.slot_cap k.check k.fine.fits)

-- ---- the slots that compiling leaves

whole-held : (t : Tree) (dest : Option ℕ) (n : ℕ) → TreeHeld t → AllHeld (whole t dest n).consts
whole-held t None n h = frag-held t h None n []
whole-held t (Some d) n h = frag-held t h (Some d) n []

-- The lent slots, as compiling leaves them (its constants, and zeros behind), are slots of the claim.
pub slots-left :
    (ws : List ℕ) (params locals : ℕ) (dest : Option ℕ) (r : ℕ) (s : State) → Accepted ws params locals dest r s → ((i : ℕ) → get_or ws i 0 < 2 ^ 64) → (k p : ℕ) →
    Slots s.slots (padded (map kind_of s.slots) k) (padded (map payload_of s.slots) p)
slots-left ws params locals dest r s a b k p =
    left-slots s.slots k p
    (subst (λ (c : ℕ × State). AllHeld c.1.slots) (known ws params locals dest r s a).is
    (whole-held (tree ws (node_count ws - 1)) dest (temp_base_of (params + locals)) (tree-held ws (node_count ws - 1) b)))

-- ---- an evaluation and a run, as calls give them

pub promised :
    (nodes : List ℕ) (params locals : ℕ) (words sks sps ks ps : List ℕ) (budget : ℕ) {res : Answer} {o : Out} → res ≡ evaluate_of nodes params locals ks ps →
    o ≡ run_of words sks sps budget 0 ks ps → Promised nodes params locals words sks sps ks ps budget res o
promised nodes params locals words sks sps ks ps budget e f =
    record {
      tree = e;
      run = f;
      agree =
          λ dest r s a w l.
          rw (e, f, w) ((demand-3 nodes params locals dest r s a).agrees ks ps sks sps budget l);
    }
