-- Two lists of well-formed pairs lend the values that they hold (`lends`), so a run over lent lists is the run over values (`run_is`).
use mathlib.Core.Path.{◌≡◌, refl, sym, ◌∙◌}
use mathlib.Core.Bool.{Bool, true, false, cond}
use mathlib.Core.List.{List}
use Prim.Native.Nat.{ℕ, ◌≤◌, ◌<◌, ◌^◌}
use native.Mathlib.Omega.{arith}
use lib.Dec.{ltb, eqb}
use lib.ListN.{length, get_or}
use mir.Syntax.{w64}
use mir.Facts.{sfits_to_z}
use borrow.Author.Tests.{lt-ltb, le-ltb, ltb-true, ltb-false}
use Rattle.faults.specs.Numbers.{out_of_range}
use Rattle.int64.proofs.sign.Laws.{never}
use Rattle.value.specs.Value.{Read, well, ill, of_pair, is_well, all_well, datum_of, datums}
use Rattle.value.specs.Answer.{is, fault}
use Rattle.value.proofs.PairLaws.{well-at, datums-length, datum-at}
use Rattle.value.proofs.RoundTrip.{Holds}
use Rattle.effect.specs.Effect.{size, held, of_read}
use Rattle.machine.specs.Datums.{value_at, values_from}
use Rattle.machine.specs.Run.{run_of}
use Rattle.ops.proofs.Closed.{Held}
use Rattle.machine.proofs.Lends.{Lends, Same, lent-run}

reads-well : (x : Read) → is_well x ≡ true → of_read x ≡ is (datum_of x)
reads-well (well v) e = refl
reads-well ill e = never (sym e)

abbrev Good : Read → Type 0
Good (well v) = Holds v
Good ill = Unit {0}

record GoodR (x : Read) : Type 0 where
  good : Good x

picks : (b : Bool) {x y : Read} → GoodR x → GoodR y → GoodR (cond b x y)
picks true h k = h
picks false h k = k

goods : (k p : ℕ) → p < 2 ^ 64 → GoodR (of_pair k p)
unfolding of_pair
goods k p h =
    picks (eqb k 0) (picks (eqb p 0) (record { good = tt }) (record { good = tt }))
    (picks (eqb k 1) (picks (ltb p 2) (record { good = tt }) (record { good = tt }))
    (picks (eqb k 2) (record { good = sfits_to_z {w = w64} (record { fits = h }) })
    (picks (eqb k 3) (record { good = h }) (record { good = tt }))))

good-datum : (x : Read) → Good x → Holds (datum_of x)
good-datum (well v) h = h
good-datum ill h = tt

module _ (ks ps : List ℕ) (w : all_well ks ps ≡ true) (b : (i : ℕ) → get_or ps i 0 < 2 ^ 64) where
  inside : (r : ℕ) → r < size ks ps → value_at (datums ks ps) r ≡ is (datum_of (of_pair (get_or ks r 0) (get_or ps r 0)))
  unfolding value_at
  inside r h =
      let k : r < length (datums ks ps) = omega (arith, datums-length ks ps) in
      rw (lt-ltb r (length (datums ks ps)) k, datum-at ks ps r (omega arith) (omega arith))

  outside : (r : ℕ) → size ks ps ≤ r → value_at (datums ks ps) r ≡ fault out_of_range
  unfolding value_at
  outside r h = let k : length (datums ks ps) ≤ r = omega (arith, datums-length ks ps) in rw (le-ltb r (length (datums ks ps)) k)

  reads_in : (r : ℕ) → r < size ks ps → held ks ps r ≡ is (datum_of (of_pair (get_or ks r 0) (get_or ps r 0)))
  unfolding held
  reads_in r h = rw (lt-ltb r (size ks ps) h) (reads-well (of_pair (get_or ks r 0) (get_or ps r 0)) (well-at ks ps r w (omega arith) (omega arith)))

  reads-out : (r : ℕ) → size ks ps ≤ r → held ks ps r ≡ fault out_of_range
  unfolding held
  reads-out r h = rw (le-ltb r (size ks ps) h)

  pub lends : Lends ks ps (datums ks ps)
  lends = record { count = datums-length ks ps; reads = λ r. reads' r (ltb r (size ks ps)) refl; fine = λ r. fine' r (ltb r (size ks ps)) refl }
    where
      reads' : (r : ℕ) (t : Bool) → ltb r (size ks ps) ≡ t → held ks ps r ≡ value_at (datums ks ps) r
      reads' r true e = let h : r < size ks ps = ltb-true r (size ks ps) e in reads_in r h ∙ sym (inside r h)
      reads' r false e = let h : size ks ps ≤ r = ltb-false r (size ks ps) e in reads-out r h ∙ sym (outside r h)

      fine' : (r : ℕ) (t : Bool) → ltb r (size ks ps) ≡ t → Held (value_at (datums ks ps) r)
      fine' r true e = rw (inside r (ltb-true r (size ks ps) e)) (record { back = good-datum (of_pair (get_or ks r 0) (get_or ps r 0)) (goods (get_or ks r 0) (get_or ps r 0) (b r)).good })
      fine' r false e = rw (outside r (ltb-false r (size ks ps) e)) (record { back = tt })

-- ---- the whole run

pub run_is : (ws sks sps ks ps : List ℕ) (budget start : ℕ) → start ≤ length ws → all_well ks ps ≡ true → all_well sks sps ≡ true
    → ((i : ℕ) → get_or ps i 0 < 2 ^ 64) → ((i : ℕ) → get_or sps i 0 < 2 ^ 64)
    → Same (run_of ws sks sps budget start ks ps) (values_from ws (datums sks sps) budget 0 start (datums ks ps))
unfolding run_of
run_is ws sks sps ks ps budget start h w v b c =
    rw (le-ltb (length ws) start h, w, v) (lent-run ws sks sps (datums sks sps) (lends sks sps v c) budget 0 start (lends ks ps w b))
