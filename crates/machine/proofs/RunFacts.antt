-- What follows from the definition of a run: it is determined, it is a step and then a run, and a register that no word writes keeps its contents.
use Rattle.std.specs.Prelude.{Ok, Err}
use mathlib.Core.Path.{◌≡◌, refl, sym, ◌∙◌}
use mathlib.Core.List.{List}
use Prim.Native.Nat.{ℕ, zero, suc, ◌<◌}
use lib.Dec.{ltb}
use lib.ListN.{length, get_or, set}
use lib.Seq.{get_or-set_other}
use borrow.Author.Tests.{lt-ltb}
use Rattle.faults.specs.declared.Fault.{Fault}
use Rattle.value.specs.Value.{kind_of, payload_of}
use Rattle.value.specs.Answer.{Answer, is}
use Rattle.effect.specs.Effect.{write, size, held}
use Rattle.machine.specs.Step.{Next, go, put, stop, settle_of, word_effect, after, lent, step_of}
use Rattle.machine.specs.Run.{Out, out, ran, run_from}
use Rattle.machine.specs.declared.run.Ran.{Ran}
use Rattle.machine.proofs.Outcomes.{picked, settles}
use Rattle.machine.proofs.StepLaws.{stop-keeps}

-- ---- one outcome only

pub determined : {x : Out} {r r' : Ran} {ks ks' ps ps' : List ℕ} → out r ks ps ≡ x → out r' ks' ps' ≡ x → (r ≡ r') × (ks ≡ ks') × (ps ≡ ps')
determined e f = (cc, cc, cc)

-- ---- a step and then a run

module _ (ws sks sps ks ps : List ℕ) (n s at : ℕ) (h : at < length ws) {ks' ps' : List ℕ} where
  pub step-then-run : {p : ℕ} → step_of ws sks sps at ks ps ≡ after (Ok p) ks' ps' → run_from ws sks sps (suc n) s at ks ps ≡ run_from ws sks sps n (suc s) p ks' ps'
  unfolding run_from
  step-then-run e = rw (lt-ltb at (length ws) h, e)

  -- a stopping step is not counted and writes nothing
  pub step-then-stop : {e : Fault} → step_of ws sks sps at ks ps ≡ after (Err e) ks' ps' → run_from ws sks sps (suc n) s at ks ps ≡ out (ran (Err e) s at) ks ps
  unfolding run_from
  step-then-stop {e} q = let k = stop-keeps ws sks sps ks ps at e q in rw (lt-ltb at (length ws) h, q, k.0, k.1)

-- ---- a register that no word writes

-- no word of the code asks for a write to r, whatever it reads
pub record Spares (ws : List ℕ) (r : ℕ) : Type 0 where
  pub spares : (at : ℕ) (reg slot : ℕ → Answer) (d : ℕ) (x : Answer) → word_effect reg slot (get_or ws at 0) ≡ write d x → d ≡ r → ⊥

-- what both lists hold at r is what it was
pub record Kept (r : ℕ) (ks ps ks' ps' : List ℕ) : Type 0 where
  pub kind : get_or ks' r 0 ≡ get_or ks r 0
  pub payload : get_or ps' r 0 ≡ get_or ps r 0

abbrev KeptOut : ℕ → List ℕ → List ℕ → Out → Type 0
KeptOut r ks ps (out o ks' ps') = Kept r ks ps ks' ps'

pub record Keeps (r : ℕ) (ks ps : List ℕ) (o : Out) : Type 0 where
  pub keeps : KeptOut r ks ps o

same : {r : ℕ} {ks ps : List ℕ} → Kept r ks ps ks ps
same = record { kind = refl; payload = refl }

abbrev Elsewhere : ℕ → Next → Type 0
Elsewhere r (go p) = Unit {0}
Elsewhere r (put p d v) = d ≡ r → ⊥
Elsewhere r (stop n) = Unit {0}

-- what is kept in a step and then in the rest is kept
onward : {r : ℕ} {ks ps ks' ps' : List ℕ} (o : Out) → Kept r ks ps ks' ps' → Keeps r ks' ps' o → Keeps r ks ps o
onward (out q ks'' ps'') k h = record { keeps = record { kind = h.keeps.kind ∙ k.kind; payload = h.keeps.payload ∙ k.payload } }

module _ (ws sks sps : List ℕ) (r : ℕ) (free : Spares ws r) where
  module _ (n s at : ℕ) (ks ps : List ℕ) (again : (p : ℕ) (ks ps : List ℕ) → Keeps r ks ps (run_from ws sks sps n (suc s) p ks ps)) where
    turn : (x : Next) → Elsewhere r x → Keeps r ks ps
        (elim (lent ks ps x) [ after q ks' ps' ↦ elim q [ Ok p ↦ run_from ws sks sps n (suc s) p ks' ps' | Err e ↦ out (ran (Err e) s at) ks' ps' ] ])
    turn (go p) h = again p ks ps
    turn (put p d v) h =
        onward (run_from ws sks sps n (suc s) p (set ks d (kind_of v)) (set ps d (payload_of v)))
        (let g : r ≡ d → ⊥ = λ e. h (sym e) in record { kind = rw get_or-set_other; payload = rw get_or-set_other })
        (again p (set ks d (kind_of v)) (set ps d (payload_of v)))
    turn (stop e) h = record { keeps = same }

  pub untouched : (n s at : ℕ) (ks ps : List ℕ) → Keeps r ks ps (run_from ws sks sps n s at ks ps)
  unfolding run_from step_of
  untouched zero s at ks ps = picked (Keeps r ks ps) (ltb at (length ws)) (record { keeps = same }) (record { keeps = same })
  untouched (suc n) s at ks ps =
      picked (Keeps r ks ps) (ltb at (length ws))
      (turn n s at ks ps (λ p ks ps. untouched n (suc s) p ks ps) (settle_of (length ws) (size ks ps) at (word_effect (held ks ps) (held sks sps) (get_or ws at 0)))
      (settles (Elsewhere r) (λ p. tt) (λ n. tt) (length ws) (size ks ps) at (word_effect (held ks ps) (held sks sps) (get_or ws at 0))
      (λ d v q l. free.spares at (held ks ps) (held sks sps) d (is v) q)))
      (record { keeps = same })
