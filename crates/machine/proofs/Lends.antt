-- Lent lists of pairs do as the values that they lend do: `lent-run`.
use mathlib.Core.Path.{◌≡◌, refl, sym, ap, ◌∙◌, fun_ext}
use mathlib.Core.Bool.{Bool, true, false, cond}
use mathlib.Core.List.{List}
use Prim.Native.Nat.{ℕ, zero, suc, ◌<◌}
use native.Mathlib.Omega.{arith}
use lib.Dec.{ltb, eqb}
use lib.ListN.{length, get_or, set, length-set}
use lib.Seq.{get_or-set_same, get_or-set_other}
use borrow.Author.Tests.{lt-ltb, ltb-true, eqb-true, eqb-false}
use Rattle.value.specs.Value.{Datum, kind_of, payload_of}
use Rattle.value.specs.Answer.{is}
use Rattle.value.proofs.RoundTrip.{Holds, pair-back}
use Rattle.effect.specs.Effect.{size, held}
use Rattle.machine.specs.Step.{Next, go, put, stop, word_effect, lent, step_of}
use Rattle.machine.specs.Run.{Out, out, run_from}
use Rattle.machine.specs.Datums.{value_at, next_of, End, end, values_from}
use Rattle.ops.proofs.Closed.{Held}
use Rattle.machine.proofs.RunFacts.{step-then-run, step-then-stop}
use Rattle.machine.proofs.Written.{Put, fine-word, settled}

-- two lists lend these values, and each has a lent form that reads back as itself
pub record Lends (ks ps : List ℕ) (rs : List Datum) : Type 0 where
  pub count : size ks ps ≡ length rs
  pub reads : (r : ℕ) → held ks ps r ≡ value_at rs r
  pub fine : (r : ℕ) → Held (value_at rs r)

-- ---- a value written

module _ {ks ps : List ℕ} {rs : List Datum} (l : Lends ks ps rs) (d : ℕ) (v : Datum) (here : d < length rs) (h : Holds v) where
  in_kinds : d < length ks
  in_kinds = omega (arith, l.count)

  in_payloads : d < length ps
  in_payloads = omega (arith, l.count)

  room : size (set ks d (kind_of v)) (set ps d (payload_of v)) ≡ size ks ps
  room = rw (length-set, length-set)

  same_read : held (set ks d (kind_of v)) (set ps d (payload_of v)) d ≡ is v
  unfolding held
  same_read =
      let k : d < size ks ps = omega (arith, l.count) in
      let a = in_kinds in
      let b = in_payloads in
      rw (room, lt-ltb d (size ks ps) k, get_or-set_same, get_or-set_same, pair-back v h)

  same-value : value_at (set rs d v) d ≡ is v
  unfolding value_at
  same-value = rw (length-set, lt-ltb d (length rs) here, get_or-set_same)

  other-read : (r : ℕ) → (r ≡ d → ⊥) → held (set ks d (kind_of v)) (set ps d (payload_of v)) r ≡ held ks ps r
  unfolding held
  other-read r n = rw (room, get_or-set_other, get_or-set_other)

  other-value : (r : ℕ) → (r ≡ d → ⊥) → value_at (set rs d v) r ≡ value_at rs r
  unfolding value_at
  other-value r n = rw (length-set, get_or-set_other)

  pub lends-set : Lends (set ks d (kind_of v)) (set ps d (payload_of v)) (set rs d v)
  lends-set = record { count = room ∙ l.count ∙ sym (length-set rs d v); reads = λ r. reads' r (eqb r d) refl; fine = λ r. fine' r (eqb r d) refl }
    where
      reads' : (r : ℕ) (b : Bool) → eqb r d ≡ b → held (set ks d (kind_of v)) (set ps d (payload_of v)) r ≡ value_at (set rs d v) r
      reads' r true e = rw (eqb-true r d e) (same_read ∙ sym same-value)
      reads' r false e = other-read r (eqb-false r d e) ∙ l.reads r ∙ sym (other-value r (eqb-false r d e))

      fine' : (r : ℕ) (b : Bool) → eqb r d ≡ b → Held (value_at (set rs d v) r)
      fine' r true e = rw (eqb-true r d e, same-value) (record { back = h })
      fine' r false e = rw (other-value r (eqb-false r d e)) (l.fine r)

-- ---- a step

module _ {ks ps sks sps : List ℕ} {rs ss : List Datum} (l : Lends ks ps rs) (m : Lends sks sps ss) where
  pub same_step : (ws : List ℕ) (at : ℕ) → step_of ws sks sps at ks ps ≡ lent ks ps (next_of ws ss at rs)
  unfolding step_of next_of
  same_step ws at = rw (l.count, fun_ext l.reads, fun_ext m.reads)

  pub same-put : (ws : List ℕ) (at : ℕ) → Put (length rs) (next_of ws ss at rs)
  unfolding next_of
  same-put ws at = settled (length ws) (length rs) at (word_effect (value_at rs) (value_at ss) (get_or ws at 0)) (fine-word (value_at rs) (value_at ss) l.fine m.fine (get_or ws at 0))

-- ---- a run: the same report, and the lists at the end lend the values at the end

abbrev pub Match : Out → End → Type 0
Match (out r ks ps) (end q rs) = (r ≡ q) × Lends ks ps rs

pub record Same (o : Out) (e : End) : Type 0 where
  pub same : Match o e

either : (b : Bool) {x x' : Out} {y y' : End} → Same x y → Same x' y' → Same (cond b x x') (cond b y y')
either true h k = h
either false h k = k

module _ (ws sks sps : List ℕ) (ss : List Datum) (m : Lends sks sps ss) (n s at : ℕ) {ks ps : List ℕ} {rs : List Datum} (l : Lends ks ps rs)
    (again : (p : ℕ) (ks ps : List ℕ) (rs : List Datum) → Lends ks ps rs → Same (run_from ws sks sps n (suc s) p ks ps) (values_from ws ss n (suc s) p rs)) where
  stepped : {x : Next} → next_of ws ss at rs ≡ x → step_of ws sks sps at ks ps ≡ lent ks ps x
  stepped e = same_step l m ws at ∙ ap (lent ks ps) e

  turn : at < length ws → (x : Next) → next_of ws ss at rs ≡ x → Put (length rs) x → Same (run_from ws sks sps (suc n) s at ks ps) (values_from ws ss (suc n) s at rs)
  unfolding values_from
  turn h (go p) e k = rw (step-then-run ws sks sps ks ps n s at h (stepped e), lt-ltb at (length ws) h, e) (again p ks ps rs l)
  turn h (put p d v) e k =
      rw (step-then-run ws sks sps ks ps n s at h (stepped e), lt-ltb at (length ws) h, e)
      (again p (set ks d (kind_of v)) (set ps d (payload_of v)) (set rs d v) (lends-set l d v k.0 k.1))
  turn h (stop f) e k = rw (step-then-stop ws sks sps ks ps n s at h (stepped e), lt-ltb at (length ws) h, e) (record { same = (refl, l) })

  goes : (b : Bool) → ltb at (length ws) ≡ b → Same (run_from ws sks sps (suc n) s at ks ps) (values_from ws ss (suc n) s at rs)
  unfolding run_from values_from
  goes true e = turn (ltb-true at (length ws) e) (next_of ws ss at rs) refl (same-put l m ws at)
  goes false e = rw e (record { same = (refl, l) })

pub lent-run : (ws sks sps : List ℕ) (ss : List Datum) → Lends sks sps ss → (n s at : ℕ) {ks ps : List ℕ} {rs : List Datum} → Lends ks ps rs → Same (run_from ws sks sps n s at ks ps) (values_from ws ss n s at rs)
unfolding run_from values_from
lent-run ws sks sps ss m zero s at l = either (ltb at (length ws)) (record { same = (refl, l) }) (record { same = (refl, l) })
lent-run ws sks sps ss m (suc n) s at l = goes ws sks sps ss m n s at l (λ p ks ps rs l'. lent-run ws sks sps ss m n (suc s) p l') (ltb at (length ws)) refl
