-- Registers lent as pairs: a run over them is the run over their values, its payloads stay 64 bits wide, and a value read back is the pair.
use Rattle.std.specs.Prelude.{Ok, Err}
use mathlib.Core.Path.{◌≡◌, refl, sym, ◌∙◌}
use mathlib.Core.Bool.{Bool, true, false, cond}
use mathlib.Core.List.{List}
use Prim.Native.Nat.{ℕ, zero, suc, ◌<◌, ◌^◌}
use native.Mathlib.Omega.{arith}
use lib.Dec.{ltb, eqb}
use lib.ListN.{length, get_or, set, length-set}
use lib.Seq.{get_or-set_same, get_or-set_other}
use mir.Syntax.{w64}
use mir.Facts.{Fits-of_z}
use borrow.Author.Tests.{le-ltb, eqb-true, eqb-false}
use Rattle.faults.specs.Numbers.{out_of_range}
use Rattle.value.specs.Value.{Datum, nil, bool, int, float, kind_of, payload_of, Read, well, ill, of_pair, datums}
use Rattle.value.specs.Answer.{is, fault}
use Rattle.value.proofs.RoundTrip.{value-back}
use Rattle.value.proofs.RoundTrip as Pair
use Rattle.effect.specs.Effect.{size, held, of_read}
use Rattle.machine.specs.Step.{Next, go, put, stop, after, lent}
use Rattle.machine.specs.Run.{Out, out, ran, run_from, run_of}
use Rattle.machine.specs.Datums.{value_at, next_of, End, end, values_from}
use Rattle.machine.proofs.Lends.{Lends, lends-set, same_step, same-put}
use Rattle.machine.proofs.Lent.{lends}
use Rattle.machine.proofs.Written.{Put}
use Rattle.claim.specs.Claim.{Values, reported, kinds_left, payloads_left}

-- ---- the run

-- these pairs lend rs, are 64 bits wide, and are as many as those of ks₀ and ps₀
pub record Wide (ks₀ ps₀ ks ps : List ℕ) (rs : List Datum) : Type 0 where
  pub lends : Lends ks ps rs
  pub words : (i : ℕ) → get_or ps i 0 < 2 ^ 64
  pub kinds : length ks ≡ length ks₀
  pub payloads : length ps ≡ length ps₀

pub payload-low : (v : Datum) → Pair.Holds v → payload_of v < 2 ^ 64
payload-low nil h = omega arith
payload-low (bool true) h = omega arith
payload-low (bool false) h = omega arith
payload-low (int z) h = (Fits-of_z {w = w64} h).fits
payload-low (float p) h = h

wide-set :
    {ks₀ ps₀ ks ps : List ℕ} {rs : List Datum} (d : ℕ) (v : Datum) → d < length rs → Pair.Holds v → Wide ks₀ ps₀ ks ps rs →
    Wide ks₀ ps₀ (set ks d (kind_of v)) (set ps d (payload_of v)) (set rs d v)
wide-set {ks} {ps} d v here h w =
    record {
      lends = lends-set w.lends d v here h;
      words = λ i. go i (eqb i d) refl;
      kinds = length-set ks d (kind_of v) ∙ w.kinds;
      payloads = length-set ps d (payload_of v) ∙ w.payloads;
    }
  where
    room : d < length ps
    room = omega (arith, w.lends.count)

    go : (i : ℕ) (b : Bool) → eqb i d ≡ b → get_or (set ps d (payload_of v)) i 0 < 2 ^ 64
    go i true e =
        let r = room in
        rw (eqb-true i d e, get_or-set_same ps d (payload_of v) 0 r) (payload-low v h)
    go i false e = rw (get_or-set_other ps d i (payload_of v) 0 (eqb-false i d e)) (w.words i)

-- what is reported is alike, and the pairs at the end lend the values at the end
abbrev Match : List ℕ → List ℕ → Out → End → Type 0
Match ks₀ ps₀ (out r ks ps) (end q rs) = (r ≡ q) × Wide ks₀ ps₀ ks ps rs

pub record Same (ks₀ ps₀ : List ℕ) (o : Out) (e : End) : Type 0 where
  pub match : Match ks₀ ps₀ o e

either : {ks₀ ps₀ : List ℕ} (b : Bool) {x x' : Out} {y y' : End} → Same ks₀ ps₀ x y → Same ks₀ ps₀ x' y' → Same ks₀ ps₀ (cond b x x') (cond b y y')
either true h k = h
either false h k = k

module _ (ks₀ ps₀ ws sks sps : List ℕ) (ss : List Datum) (m : Lends sks sps ss) where
  turn :
      (n s at : ℕ) {ks ps : List ℕ} {rs : List Datum} → Wide ks₀ ps₀ ks ps rs →
      ((p : ℕ) (ks ps : List ℕ) (rs : List Datum) → Wide ks₀ ps₀ ks ps rs → Same ks₀ ps₀ (run_from ws sks sps n (suc s) p ks ps) (values_from ws ss n (suc s) p rs)) →
      (x : Next) → Put (length rs) x →
      Same ks₀ ps₀
      (elim (lent ks ps x) [ after r ks' ps' ↦ elim r [ Ok p ↦ run_from ws sks sps n (suc s) p ks' ps' | Err e ↦ out (ran (Err e) s at) ks' ps' ] ])
      (elim x [ go p ↦ values_from ws ss n (suc s) p rs | put p d v ↦ values_from ws ss n (suc s) p (set rs d v) | stop e ↦ end (ran (Err e) s at) rs ])
  turn n s at {ks} {ps} {rs} l again (go p) h = again p ks ps rs l
  turn n s at {ks} {ps} {rs} l again (put p d v) h = again p (set ks d (kind_of v)) (set ps d (payload_of v)) (set rs d v) (wide-set d v h.0 h.1 l)
  turn n s at {ks} {ps} {rs} l again (stop e) h = record { match = (refl, l) }

  wide-run :
      (n s at : ℕ) (ks ps : List ℕ) (rs : List Datum) → Wide ks₀ ps₀ ks ps rs → Same ks₀ ps₀ (run_from ws sks sps n s at ks ps) (values_from ws ss n s at rs)
  unfolding run_from values_from
  wide-run zero s at ks ps rs l = either (ltb at (length ws)) (record { match = (refl, l) }) (record { match = (refl, l) })
  wide-run (suc n) s at ks ps rs l =
      either (ltb at (length ws))
      (rw (same_step l.lends m ws at) (turn n s at l (λ p. wide-run n (suc s) p) (next_of ws ss at rs) (same-put l.lends m ws at)))
      (record { match = (refl, l) })

pub wide-values : (ks ps : List ℕ) → Values ks ps → Wide ks ps ks ps (datums ks ps)
wide-values ks ps h = record { lends = lends ks ps h.well h.words; words = h.words; kinds = refl; payloads = refl }

-- the run over lent pairs is the run over their values
pub run-same :
    (ws sks sps ks ps : List ℕ) (budget : ℕ) → Values ks ps → Values sks sps →
    Same ks ps (run_of ws sks sps budget 0 ks ps) (values_from ws (datums sks sps) budget 0 0 (datums ks ps))
unfolding run_of
run-same ws sks sps ks ps budget h k =
    rw (le-ltb (length ws) 0 (omega arith), h.well, k.well)
    (wide-run ks ps ws sks sps (datums sks sps) (lends sks sps k.well k.words) budget 0 0 ks ps (datums ks ps) (wide-values ks ps h))

pub same-report : {ks₀ ps₀ : List ℕ} (o : Out) {q : _} {rs : List Datum} → Same ks₀ ps₀ o (end q rs) → reported o ≡ q
same-report (out r ks ps) h = h.match.0

pub same-wide : {ks₀ ps₀ : List ℕ} (o : Out) {q : _} {rs : List Datum} → Same ks₀ ps₀ o (end q rs) → Wide ks₀ ps₀ (kinds_left o) (payloads_left o) rs
same-wide (out r ks ps) h = h.match.1

-- ---- a value that is read back is the pair

pub record Pairs (ks ps : List ℕ) (i : ℕ) (v : Datum) : Type 0 where
  pub kind : get_or ks i 0 ≡ kind_of v
  pub payload : get_or ps i 0 ≡ payload_of v

read_is : (k p : ℕ) (x : Read) (v : Datum) → p < 2 ^ 64 → of_pair k p ≡ x → of_read x ≡ is v → (k ≡ kind_of v) × (p ≡ payload_of v)
read_is k p ill v h e f = let z : ◌≡◌ {A = ℕ} 0 1 = cc in absurd (omega arith)
read_is k p (well u) v h e f =
    let w : u ≡ v = cc in
    let b = rw e at (value-back k p h) in
    rw (← w) (sym b.0, sym b.1)

pub pair_is : {ks₀ ps₀ ks ps : List ℕ} {rs : List Datum} → Wide ks₀ ps₀ ks ps rs → (i : ℕ) (v : Datum) → value_at rs i ≡ is v → Pairs ks ps i v
unfolding held
pair_is {ks} {ps} w i v e = go (ltb i (size ks ps)) refl (w.lends.reads i ∙ e)
  where
    go : (b : Bool) → ltb i (size ks ps) ≡ b → cond b (of_read (of_pair (get_or ks i 0) (get_or ps i 0))) (fault out_of_range) ≡ is v → Pairs ks ps i v
    go true h f =
        let r = read_is (get_or ks i 0) (get_or ps i 0) (of_pair (get_or ks i 0) (get_or ps i 0)) v (w.words i) refl f in record { kind = r.0; payload = r.1 }
    go false h f = let z : ◌≡◌ {A = ℕ} 0 1 = cc in absurd (omega arith)
