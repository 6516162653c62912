-- One call that compiles, evaluates and runs: its two ways out are as claimed.
use Rattle.std.specs.Prelude.{Option, Result, Ok, Err}
use Rattle.faults.specs.declared.Fault.{Fault}
use mathlib.Core.Path.{◌≡◌, refl, sym, ap, ◌∙◌}
use mathlib.Core.List.{List}
use Prim.Native.Nat.{ℕ, ◌-◌, ◌≤◌, min}
use native.Mathlib.Omega.{arith}
use lib.ListN.{length, take, replicate, length-append}
use lib.Seq.{take_at, length-take-le}
use Rattle.faults.specs.Limits.{max_nodes}
use Rattle.value.specs.Answer.{Answer}
use Rattle.eval.specs.Evaluate.{evaluate_of}
use Rattle.machine.specs.Run.{Out, out, ran}
use Rattle.emit.specs.State.{Res, done, fail, State}
use Rattle.compile.specs.declared.buffers.Compiled.{Compiled}
use Rattle.compile.specs.Compile.{compile_of}
use Rattle.compile.specs.Buffers.{Compiles, padded, words_of}
use Rattle.compile.proofs.Once.{Alike, compiles-once}
use Rattle.claim.specs.Claim.{Accepted, Wide}
use Rattle.claim.specs.Entry.{Promised, Whole}
use Rattle.claim.proofs.Theorem.{slots-left}
use Rattle.claim.proofs.Refusals.{refusals}

-- ---- what compiling answered and left

-- an accepted table's words, at the front of the buffer
record Front (w : ℕ) (code : List ℕ) (m : Res (ℕ × State)) : Type 0 where
  count : length (words_of m) ≡ w
  words : take w code ≡ words_of m

-- how many words an answer counts
abbrev count_of : Result Compiled Fault → ℕ
count_of (Ok c) = c.words
count_of (Err f) = 0

front : (m : Res (ℕ × State)) {q : Result Compiled Fault} {code sks sps : List ℕ} {c k p w n r f : ℕ} → Compiles q m code sks sps c k p → q ≡ Ok (record { words = w; slots = n; register = r; frame = f }) → Front w code m
front (done x) {c = c} {w = w} h e =
    let z : length x.1.words ≡ w = ap count_of (sym h.answer ∙ e) in
    record { count = z; words = rw h.words (take_at x.1.words _ w z) }
front (fail n) h e = let z : ◌≡◌ {A = ℕ} 0 1 = cc h.answer in absurd (omega arith)

pub front_fits : {m : Res (ℕ × State)} {q : Result Compiled Fault} {code sks sps : List ℕ} {c k p w n r f : ℕ} → Compiles q m code sks sps c k p → q ≡ Ok (record { words = w; slots = n; register = r; frame = f }) → length code ≡ c → w ≤ length code
front_fits {m} {code = code} {c = c} h e l =
    let a = (front m h e).count in
    let b : length code ≡ length (padded (words_of m) c) = ap length h.words in
    let d = length-append (words_of m) (replicate {A = ℕ} (c - length (words_of m)) 0) in
    omega arith

-- as many as the front has
pub front-count : (n : ℕ) (l : List ℕ) → n ≤ length l → n ≡ length (take n l)
front-count n l h = sym (length-take-le n l h)

-- ---- the two ways out

module _ (nodes : List ℕ) (params locals : ℕ) (dest : Option ℕ) {c k p : ℕ} (ks ps : List ℕ) (budget : ℕ) {q : Result Compiled Fault} {code sks sps : List ℕ} {res : Answer} where
  pub accepted-whole :
      {w n r f : ℕ} {o : Out} → Wide nodes → Wide ps → Compiles q (compile_of nodes params locals dest max_nodes c (min k p)) code sks sps c k p → q ≡ Ok (record { words = w; slots = n; register = r; frame = f }) →
      Promised nodes params locals (take w code) sks sps ks ps budget res o → Whole nodes params locals dest c k p ks ps budget (Ok (record { words = w; slots = n; register = r; frame = f })) code sks sps res o
  accepted-whole {w} {n} {r} {f} {o} a b h e i = rw (sym e) (go (compile_of nodes params locals dest max_nodes c (min k p)) refl h)
    where
      go : (m : Res (ℕ × State)) → m ≡ compile_of nodes params locals dest max_nodes c (min k p) → Compiles q m code sks sps c k p → Whole nodes params locals dest c k p ks ps budget q code sks sps res o
      go (fail n) is h = let z : ◌≡◌ {A = ℕ} 0 1 = cc (h.answer, e) in absurd (omega arith)
      go (done x) is h =
          let F = front (done x) h e in
          let acc : Accepted nodes params locals dest x.0 x.1 = record { places = max_nodes; cap = c; slot_cap = min k p; is = sym is } in
          let left = slots-left nodes params locals dest x.0 x.1 acc a k p in
          record {
            m = done x;
            is = is;
            compile = h;
            tree = i.tree;
            run = rw F.words at i.run;
            agree =
                λ met.
                i.agree dest x.0 x.1 acc F.words
                (record {
                  registers = record { well = met.well; words = b };
                  room = met.room;
                  slots = rw (h.slot_kinds, h.slot_payloads) left;
                  enough = met.steps;
                });
          }

  pub refused-whole :
      {n : Fault} → Compiles q (compile_of nodes params locals dest max_nodes c (min k p)) code sks sps c k p → q ≡ Err n → res ≡ evaluate_of nodes params locals ks ps →
      Whole nodes params locals dest c k p ks ps budget (Err n) code sks sps res (out (ran (Err n) 0 0) ks ps)
  refused-whole {n} h e i = rw (sym e) (go (compile_of nodes params locals dest max_nodes c (min k p)) refl h)
    where
      go : (m : Res (ℕ × State)) → m ≡ compile_of nodes params locals dest max_nodes c (min k p) → Compiles q m code sks sps c k p → Whole nodes params locals dest c k p ks ps budget q code sks sps res (out (ran (Err n) 0 0) ks ps)
      go (done x) is h = let z : ◌≡◌ {A = ℕ} 0 1 = cc (h.answer, e) in absurd (omega arith)
      go (fail f) is h =
          let z : n ≡ f = cc (h.answer, e) in
          record {
            m = fail f;
            is = is;
            compile = h;
            tree = i;
            run = rw z;
            agree = λ passed. (refusals nodes params locals dest max_nodes c (min k p)).lacks f passed (sym is);
          }

-- ---- one outcome only

-- what the whole call answers and leaves
pub whole-once :
    {nodes : List ℕ} {params locals : ℕ} {dest : Option ℕ} {c k p : ℕ} {ks ps : List ℕ} {budget : ℕ} {q q' : Result Compiled Fault} {code code' sks sks' sps sps' : List ℕ} {res res' : Answer} {o o' : Out} →
    Whole nodes params locals dest c k p ks ps budget q code sks sps res o → Whole nodes params locals dest c k p ks ps budget q' code' sks' sps' res' o' →
    Alike q q' code code' sks sks' sps sps' × (res ≡ res') × (o ≡ o')
whole-once {ks = ks} {ps = ps} {budget = budget} h h' =
    let e = h.is ∙ sym h'.is in
    let a = compiles-once e h.compile h'.compile in
    (a, h.tree ∙ sym h'.tree, h.run ∙ rw (e, a.slot_kinds, a.slot_payloads) (sym h'.run))
