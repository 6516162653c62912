-- What branches, their list and patching have to show, at a state that is read off the code's buffers.
use Rattle.std.specs.Prelude.{Option, Result, Ok, Err}
use Rattle.faults.specs.declared.Fault.{Fault}
use Rattle.insns.specs.declared.Insn.{Insn}
use mathlib.Core.Path.{◌≡◌, refl, sym, ap, ◌∙◌}
use mathlib.Core.Bool.{Bool, true, false}
use mathlib.Core.List.{List, [], ◌∷◌, ◌++◌}
use Prim.Native.Nat.{ℕ, suc, ◌+◌, ◌<◌, ◌≤◌}
use native.Mathlib.Numerals.{add-one}
use native.Mathlib.Omega.{arith}
use lib.ListN.{length, take, drop, set, get_or, replicate, length-set, length-drop, length-append}
use lib.Seq.{length-take-le, take-suc, take-suc-set, take-add, take_at, get_or-drop, drop-cons, drop-set-lt, drop-drop}
use borrow.Author.Tests.{lt-ltb}
use Rattle.faults.specs.Numbers.{no_room}
use Rattle.faults.specs.Faults.{Checked}
use Rattle.insns.specs.declared.op.Op.{Op}
use Rattle.insns.specs.Insns.{made_of}
use Rattle.decode.specs.Patch.{Patching, patch_of, patch_all}
use Rattle.emit.specs.declared.state.St.{St}
use Rattle.fold.specs.declared.How.{How}
use Rattle.emit.specs.State.{Res, done, fail, bind, checked, State, here, with_words, store_d, emit_d}
use Rattle.emit.specs.Jump.{patched_d, patch_d, patches_d, leap_d}
use Rattle.emit.specs.Jump.{jmp_op, how_op, leap_to, junction_to, turn_d, true_d, bool_d}
use Rattle.emit.specs.Steps.{load_op, raw_true, raw_false}
use Rattle.emit.specs.Read.{Bufs, bufs, st_of, freed, Fit, FitAns, Says, Steps, After}
use Rattle.emit.specs.Lists.{Jumping, AfterJumping, Counted, Joinable, Joined}
use Rattle.emit.proofs.ConstLaws.{zeros-held}
use Rattle.emit.proofs.Laws.{go, kept, says-by, came, fit_free}

-- a refusal is the definition's
fails : {b : Bufs} {x : Result (ℕ × St) Fault} {m : Res (ℕ × State)} {B : Type 0} (k : ℕ × State → Res B) {n : Fault} → x ≡ Err n → Says b x m → fail n ≡ bind m k
fails k e h = rw (← h.is, e)

-- ---- a branch

pub jump-none : (c js : List ℕ) (st : St) (made : Option Insn) → length js ≡ 0 → Jumping c c js st (Err no_room) (leap_d made (length js))
unfolding leap_d
jump-none c js st made h ks ps fit = record { is = rw h; fit = tt }

pub jump-made : {c c' : List ℕ} (js : List ℕ) {st : St} (made : Option Insn) {x : Result (ℕ × St) Fault} → 0 < length js → Steps c c' st x (store_d made 0) →
    {d : ℕ} {s : St} → x ≡ Ok (d, s) → Jumping c c' (set js 0 st.count) st (Ok (1, s)) (leap_d made (length js))
unfolding leap_d
jump-made {c} js {st} made p h e ks ps fit =
    let q = h ks ps fit in
    let w : length (take st.count c) ≡ st.count = length-take-le _ _ fit.words in
    record {
      is = rw (lt-ltb 0 (length js) p, take-suc-set js 0 st.count p, w) (go (λ y. done (st.count ∷ [], y.1)) e q);
      fit = (kept e q, simp length-set p);
    }

pub leap-go : {c c' js : List ℕ} {x : Result (ℕ × St) Fault} {a : ℕ} {s z : St} {mark : ℕ} {made : Option Insn} {r : Result (ℕ × St) Fault} (op : ℕ → Op) (room : ℕ) → x ≡ Ok (a, s) → z ≡ freed s mark → made ≡ made_of (op a)
    → Jumping c c' js z r (leap_d made room) → AfterJumping c c' js x r (leap_to op room mark)
unfolding leap_to
leap-go op room got free m h ks ps fit =
    let q = h ks ps (fit_free free (rw got at fit)) in
    record { is = q.is ∙ rw (got, m, free); fit = q.fit }

pub how-arm : {how arm : How} (a : ℕ) {r : Option Insn} → how ≡ arm → r ≡ made_of (how_op arm a) → r ≡ made_of (how_op how a)
how-arm a e h = rw e h

pub ruleset leaps = (jump-none, jump-made, leap-go, how-arm)

-- ---- patching

-- what the code makes of an answer of `patch`
abbrev pub patched_ans : Checked → ℕ → St → Result (ℕ × St) Fault
patched_ans (Ok u) d st = Ok (d, st)
patched_ans (Err f) d st = Err f

module _ {p : Checked} (d : ℕ) (st : St) where
  pub patched-no : {f : Fault} {r : Result (ℕ × St) Fault} → p ≡ Err f → r ≡ Err f → r ≡ patched_ans p d st
  patched-no e q = rw (e, q)

  pub patched-got : {u : Unit {0}} → p ≡ Ok u → Ok (d, st) ≡ patched_ans p d st
  patched-got e = rw e

module _ {c ws : List ℕ} {st : St} {a : Checked} {r : Result (ℕ × St) Fault} (d : ℕ) (ans : r ≡ patched_ans a d st) where
  -- the words before the state's end were patched, as q says
  patched-by : (q : Patching) → a ≡ q.answer → ws ≡ q.words → length ws ≡ st.count → (ks ps : List ℕ) → Fit (bufs c ks ps) st
      → Says (bufs (ws ++ drop st.count c) ks ps) r (patched_d q d (st_of (bufs c ks ps) st))
  unfolding patched_d
  patched-by q e w l ks ps fit = rw (ans, ← e) (go' a)
    where
      all : length (ws ++ drop st.count c) ≡ length c
      all = let g = fit.words in simp (length-append, length-drop) (omega arith)

      go' : (b : Checked) → Says (bufs (ws ++ drop st.count c) ks ps) (patched_ans b d st)
          (checked b (d, with_words q.words (st_of (bufs c ks ps) st)))
      go' (Ok u) = record {
        is = rw (take_at ws (drop st.count c) st.count l, all, w);
        fit = record { words = rw all fit.words; consts = fit.consts };
      }
      go' (Err f) = record { is = refl; fit = tt }

  module _ (in_code : st.count ≤ length c) (same : length ws ≡ length (take st.count c)) where
    pub patch-is : (p : ℕ) → a ≡ (patch_of (take st.count c) p st.count).answer → ws ≡ (patch_of (take st.count c) p st.count).words
        → Steps c (ws ++ drop st.count c) st r (patch_d p d)
    patch-is p e w ks ps fit =
        let size : length (take st.count c) ≡ st.count = length-take-le st.count c in_code in
        rw size (patched-by (patch_of (take st.count c) p st.count) e w (same ∙ size) ks ps fit)

    pub patches-are : (js : List ℕ) → a ≡ (patch_all (take st.count c) js st.count).answer → ws ≡ (patch_all (take st.count c) js st.count).words
        → Steps c (ws ++ drop st.count c) st r (patches_d js d)
    patches-are js e w ks ps fit =
        let size : length (take st.count c) ≡ st.count = length-take-le st.count c in_code in
        rw size (patched-by (patch_all (take st.count c) js st.count) e w (same ∙ size) ks ps fit)

pub ruleset patches = (patched-no, patched-got, patch-is, patches-are, length-take-le)

-- ---- one step after another

-- words that are in the buffer make some buffers fit: with slots of zeros
abbrev zeros : ℕ → List ℕ
zeros n = replicate {A = ℕ} n 0

some_fit : (c : List ℕ) (st : St) → st.count ≤ length c → Fit (bufs c (zeros st.slots) (zeros st.slots)) st
some_fit c st h = record { words = h; consts = zeros-held st.slots }

-- what a step leaves is in the buffer, whatever the other buffers hold
module _ {c c' : List ℕ} {st : St} {x : Result (ℕ × St) Fault} {m : List ℕ → List ℕ → Res (ℕ × State)} (in_code : st.count ≤ length c)
    (h : (ks ps : List ℕ) → Fit (bufs c ks ps) st → Says (bufs c' ks ps) x (m ks ps)) where
  pub counted : Counted c' x
  counted = go' x (h _ _ (some_fit c st in_code)).fit
    where
      go' : (y : Result (ℕ × St) Fault) → FitAns (bufs c' (zeros st.slots) (zeros st.slots)) y → Counted c' y
      go' (Ok (d, s)) f = f.words
      go' (Err n) f = tt

  pub room-kept : {a : ℕ} {s : St} → x ≡ Ok (a, s) → s.count ≤ length c'
  room-kept e = rw e at counted

pub counted-got : (c : List ℕ) {x : Result (ℕ × St) Fault} {d : ℕ} {s : St} → x ≡ Ok (d, s) → Counted c x → s.count ≤ length c
counted-got c e h = rw e at h

module _ {c c1 : List ℕ} {st : St} {x : Result (ℕ × St) Fault} (js : List ℕ) (d : ℕ) where
  pub turn-go : {a : ℕ} {s : St} {c2 : List ℕ} {r : Result (ℕ × St) Fault} → x ≡ Ok (a, s) → Steps c c1 st x (emit_d jmp_op d) → Steps c1 c2 s r (patches_d js d) → Steps c c2 st r (turn_d js d)
  unfolding turn_d
  turn-go e h g ks ps fit = let z = h ks ps fit in says-by (go (λ y. patches_d js d y.1) e z) (g ks ps (kept e z))

  pub true-go : (p : ℕ) {a : ℕ} {s : St} {c2 c3 : List ℕ} {y r : Result (ℕ × St) Fault} → x ≡ Ok (a, s) → Steps c c1 st x (patches_d js d) → Steps c1 c2 s y (emit_d (load_op raw_true d) d)
      → After c2 c3 y r (λ z. patch_d p d z.1) → Steps c c3 st r (true_d js p d)
  unfolding true_d
  true-go p e h g f ks ps fit =
      let z = h ks ps fit in
      let w = g ks ps (kept e z) in
      let q = f ks ps w.fit in
      says-by (ap (λ (m : Res (ℕ × State)). bind m (λ z. patch_d p d z.1)) w.is ∙ go (λ y. bind (emit_d (load_op raw_true d) d y.1) (λ z. patch_d p d z.1)) e z) q

  module _ {a : ℕ} {s : St} {c2 : List ℕ} {y : Result (ℕ × St) Fault} (e : x ≡ Ok (a, s)) (h : Steps c c1 st x (emit_d (load_op raw_false d) d)) (g : Steps c1 c2 s y (emit_d jmp_op d)) where
    pub bool-go : {a' : ℕ} {s' : St} {c3 : List ℕ} {r : Result (ℕ × St) Fault} → y ≡ Ok (a', s') → Steps c2 c3 s' r (true_d js s.count d) → Steps c c3 st r (bool_d js d)
    unfolding bool_d
    bool-go q f ks ps fit =
        let z = h ks ps fit in
        let w = g ks ps (kept e z) in
        let l : length (take s.count c1) ≡ s.count = length-take-le _ _ (kept e z).words in
        says-by (go (λ w. true_d js s.count d w.1) q w ∙ ap (λ (n : ℕ). bind (emit_d jmp_op d (st_of (bufs c1 ks ps) s)) (λ w. true_d js n d w.1)) (sym l) ∙ go (λ y. bind (emit_d jmp_op d y.1) (λ w. true_d js (here y.1) d w.1)) e z) (f ks ps (kept q w))

pub ruleset chains = (counted-got, came, turn-go, true-go, bool-go)

-- ---- the list of jumps

-- one more jump moved to the front: j are there, and nothing from n + j on has changed
module _ (old now : List ℕ) (n j : ℕ) (room : n + j < length old) (same : length now ≡ length old)
    (front : take j now ≡ take j (drop n old)) (rest : drop (n + j) now ≡ drop (n + j) old) where
  pub slide-front : take (j + 1) (set now j (get_or now (n + j) 0)) ≡ take (j + 1) (drop n old)
  slide-front =
      let in-now : j < length now = omega arith in
      let in-old : j < length (drop n old) = simp length-drop (omega arith) in
      let in-now' : n + j < length now = omega arith in
      let heads : ◌≡◌ {A = List ℕ} (get_or now (n + j) 0 ∷ drop (suc (n + j)) now) (get_or old (n + j) 0 ∷ drop (suc (n + j)) old) =
      sym (drop-cons now (n + j) 0 in-now') ∙ rest ∙ drop-cons old (n + j) 0 room in
      let at-now : get_or now (n + j) 0 ≡ get_or old (n + j) 0 = cc heads in
      rw (add-one j, take-suc-set now j _ in-now, take-suc (drop n old) j 0 in-old, get_or-drop n old j 0, front, at-now)

  pub slide-rest : drop (n + (j + 1)) (set now j (get_or now (n + j) 0)) ≡ drop (n + (j + 1)) old
  slide-rest =
      let past : j < n + (j + 1) = omega arith in
      let split : n + (j + 1) ≡ n + j + 1 = omega arith in
      rw (drop-set-lt (n + (j + 1)) now j _ past, split, ← drop-drop 1 (n + j) now, ← drop-drop 1 (n + j) old, rest)

-- both sides of And or Or

module _ {c js : List ℕ} {n m : ℕ} {y : Result (ℕ × St) Fault} {s : St} (ready : Joinable c js n y) (e : y ≡ Ok (m, s)) where
  pub join-room : n + m ≤ length js
  join-room = let r = rw e at ready.right in r.0

  pub join-same : {same : Bool} → same ≡ true → Joined c c js js same n y (Ok ((n + m), s))
  unfolding junction_to
  join-same g ks ps fit =
      let f = rw e at fit in
      record { is = rw (e, g, take-add n m js); fit = (f.0, join-room) }

  module _ {c' : List ℕ} {z : Result (ℕ × St) Fault} {same : Bool} (no : same ≡ false) (h : Steps c c' s z (patches_d (take n js) 0)) where
    pub join-refused : {f : Fault} {r : Result (ℕ × St) Fault} → z ≡ Err f → r ≡ Err f → Joined c c' js js same n y r
    unfolding junction_to
    join-refused q g ks ps fit =
        let f = rw e at fit in
        record { is = rw (e, no, g) (fails (λ w. done (take m (drop n js), w.1)) q (h ks ps f.0)); fit = rw g tt }

    pub join-moved : {d : ℕ} {s' : St} {js' : List ℕ} → z ≡ Ok (d, s') → take m js' ≡ take m (drop n js) → length js' ≡ length js → Joined c c' js js' same n y (Ok (m, s'))
    unfolding junction_to
    join-moved q moved kept' ks ps fit =
        let f = rw e at fit in
        let w = h ks ps f.0 in
        let r = join-room in
        record { is = rw (e, no, moved) (go (λ w. done (take m (drop n js), w.1)) q w); fit = (kept q w, omega arith) }
