-- A path of the machine is its run, so that a sound fragment, alone among the words, runs to the tree's value or stops with its fault.
use Rattle.std.specs.Prelude.{Option, None, Err}
use Rattle.faults.specs.declared.Fault.{Fault}
use Rattle.faults.specs.Faults.{none}
use mathlib.Core.Path.{◌≡◌, refl, sym, ap, ◌∙◌, subst, subst₂}
use mathlib.Core.List.{List, [], ◌∷◌, ◌++◌, append_assoc}
use Prim.Native.Nat.{ℕ, zero, suc, ◌+◌, ◌-◌, ◌≤◌, ◌<◌}
use native.Mathlib.Nat.{zero-add, suc-add}
use native.Mathlib.Omega.{arith}
use lib.ListN.{length, set, length-append, length-map}
use lib.Seq.{get_or_at}
use borrow.Author.Tests.{lt-ltb, le-ltb}
use Rattle.insns.specs.declared.op.Op.{Op}
use Rattle.decode.specs.Decode.{decode_of}
use Rattle.value.specs.Value.{Datum}
use Rattle.value.specs.Answer.{Answer, is, fault}
use Rattle.machine.specs.Step.{go, put, word_effect}
use Rattle.machine.specs.Run.{ran}
use Rattle.machine.specs.Datums.{value_at, next_of, end, values_from}
use Rattle.machine.specs.declared.run.Ran.{Ran}
use Rattle.claim.proofs.fragments.Frag.{Vf}
use Rattle.claim.proofs.fragments.Fits.{word, words_of, reads, AllFit}
use Rattle.claim.proofs.fragments.Runs.{Stands, At, Path, rest, walk, store, step, Stops, Keep, Good, VRuns}

-- ---- instructions that fit stand in their own words

snoc-length : (pre : List ℕ) (w : ℕ) → length (pre ++ w ∷ []) ≡ suc (length pre)
snoc-length pre w = omega (arith, length-append pre (w ∷ []))

at_after : (pre : List ℕ) (F : List Op) → AllFit F → At (pre ++ words_of F) (length pre) F (length (pre ++ words_of F))
at_after pre [] h = (omega (arith, length-append pre []), omega (arith, length-append pre []))
at_after pre (i ∷ js) h = (
  record {
    inside = omega (arith, length-append pre (word i ∷ words_of js));
    reads = ap decode_of (get_or_at pre (word i) (words_of js) 0 (length pre) refl) ∙ reads h.0;
  },
  subst₂ (λ (D : List ℕ) (p : ℕ). At D p js (length D)) (append_assoc pre (word i ∷ []) (words_of js)) (snoc-length pre (word i)) (at_after (pre ++ word i ∷ []) js h.1),
)

pub words-length : (F : List Op) → length (words_of F) ≡ length F
words-length F = length-map F word

pub at_self : (F : List Op) → AllFit F → At (words_of F) 0 F (length F)
at_self F h = subst (λ (q : ℕ). At (words_of F) 0 F q) (words-length F) (at_after [] F h)

-- ---- paths are runs

next-is : (C : List ℕ) (K rs : List Datum) (p : ℕ) (i : Op) → Stands C p i → next_of C K p rs ≡ step K (length C) p rs i
unfolding next_of word_effect
next-is C K rs p i h = rw h.reads refl

run-walk :
    (C : List ℕ) (K : List Datum) (k : ℕ) (rs : List Datum) (p q s : ℕ) (i : Op) → Stands C p i → step K (length C) p rs i ≡ go q →
    values_from C K (suc k) s p rs ≡ values_from C K k (suc s) q rs
unfolding values_from
run-walk C K k rs p q s i h f = rw (lt-ltb p (length C) h.inside, next-is C K rs p i h ∙ f, values_from) refl

run_store :
    (C : List ℕ) (K : List Datum) (k : ℕ) (rs : List Datum) (p q d s : ℕ) (v : Datum) (i : Op) → Stands C p i → step K (length C) p rs i ≡ put q d v →
    values_from C K (suc k) s p rs ≡ values_from C K k (suc s) q (set rs d v)
unfolding values_from
run_store C K k rs p q d s v i h f = rw (lt-ltb p (length C) h.inside, next-is C K rs p i h ∙ f, values_from) refl

run-stop :
    (C : List ℕ) (K : List Datum) (k : ℕ) (rs : List Datum) (p s : ℕ) (e : Fault) → Stops C K p rs e → values_from C K (suc k) s p rs ≡ end (ran (Err e) s p) rs
unfolding values_from
run-stop C K k rs p s e h = rw (lt-ltb p (length C) h.1.inside, next-is C K rs p h.0 h.1 ∙ h.2, values_from) refl

run_end : (C : List ℕ) (K : List Datum) (k : ℕ) (rs : List Datum) (s : ℕ) → values_from C K k s (length C) rs ≡ end (ran none s (length C)) rs
unfolding values_from
run_end C K zero rs s = rw (le-ltb (length C) (length C) (omega arith)) refl
run_end C K (suc k) rs s = rw (le-ltb (length C) (length C) (omega arith)) refl

run-path :
    (C : List ℕ) (K : List Datum) {p n q : ℕ} {rs rs' : List Datum} → Path C K p rs n q rs' → (m s : ℕ) →
    values_from C K (n + m) s p rs ≡ values_from C K m (n + s) q rs'
run-path C K rest m s = simp zero-add
run-path C K (walk {p} {q} {r} {n} {rs} {rs'} {i} e f w) m s =
    rw (suc-add n m) (run-walk C K (n + m) rs p q s i e f ∙ run-path C K w m (suc s) ∙ ap (λ (x : ℕ). values_from C K m x r rs') (omega arith))
run-path C K (store {p} {q} {r} {n} {d} {v} {rs} {rs'} {i} e f w) m s =
    rw (suc-add n m) (run_store C K (n + m) rs p q d s v i e f ∙ run-path C K w m (suc s) ∙ ap (λ (x : ℕ). values_from C K m x r rs') (omega arith))

run-split :
    (C : List ℕ) (K : List Datum) {n q budget : ℕ} {rs rs' : List Datum} → Path C K 0 rs n q rs' → n ≤ budget →
    values_from C K budget 0 0 rs ≡ values_from C K (budget - n) n q rs'
run-split C K {n} {q} {budget} {rs} {rs'} w le =
    ap (λ (k : ℕ). values_from C K k 0 0 rs) (omega arith) ∙ run-path C K w (budget - n) 0
    ∙ ap (λ (x : ℕ). values_from C K (budget - n) x q rs') (omega arith)

-- ---- a sound fragment, alone

-- what a run reports
abbrev pub Told : Answer → ℕ → Ran → Type 0
Told (is v) len r = (r.end ≡ none) × (r.position ≡ len) × (r.steps ≤ len)
Told (fault e) len r = (r.end ≡ Err e) × (r.steps < len)

-- and what it leaves
abbrev pub Left : Option ℕ → ℕ → Vf → List Datum → List Datum → Answer → Type 0
Left dst n F rs rs' (is v) = Keep dst n F.need rs rs' × (value_at rs' F.reg ≡ is v)
Left dst n F rs rs' (fault e) = Keep None n F.need rs rs'

-- the report is the same for all registers and slots with these locals and constants
pub record Fixed (dst : Option ℕ) (b n : ℕ) (F : Vf) (ls : List Datum) (res : Answer) : Type 0 where
  pub report : Ran
  pub told : Told res (length F.code) report
  pub all :
      (K rs : List Datum) → Good F.consts ls b n F.need K rs → (budget : ℕ) → length F.code ≤ budget →
      (rs' : List Datum) × (values_from (words_of F.code) K budget 0 0 rs ≡ end report rs') × Left dst n F rs rs' res

pub fixed :
    (dst : Option ℕ) (b n : ℕ) (F : Vf) (ls : List Datum) (res : Answer) →
    VRuns (words_of F.code) F.consts ls b dst n F.need F.reg 0 (length F.code) res → Fixed dst b n F ls res
fixed dst b n F ls (is v) r =
    let C = words_of F.code in
    let len : length C ≡ length F.code = words-length F.code in
    record {
      report = ran none r.count (length F.code);
      told = (refl, refl, omega (arith, r.few));
      all =
          λ K rs g budget le.
          let x = r.path K rs g in (
            x.0,
            run-split C K x.1 (omega (arith, r.few))
                ∙ ap (λ (q : ℕ). values_from C K (budget - r.count) r.count q x.0) (sym len)
                ∙ run_end C K (budget - r.count) x.0 r.count
                ∙ ap (λ (q : ℕ). end (ran none r.count q) x.0) len,
            (x.2, x.3),
          );
    }
fixed dst b n F ls (fault e) r =
    let C = words_of F.code in
    record {
      report = ran (Err e) r.count r.place;
      told = (refl, omega (arith, r.few));
      all =
          λ K rs g budget le.
          let x = r.path K rs g in (
            x.0,
            run-split C K x.1 (omega (arith, r.few))
                ∙ ap (λ (m : ℕ). values_from C K m r.count r.place x.0) (omega (arith, r.few))
                ∙ run-stop C K (budget - r.count - 1) x.0 r.place r.count e x.2,
            x.3,
          );
    }
