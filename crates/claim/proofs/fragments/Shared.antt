-- The slots with a constant among them hold it at the place that is found.
use mathlib.Core.Path.{◌≡◌, refl, sym, ap, ◌∙◌}
use mathlib.Core.Bool.{Bool, true, false, cond}
use mathlib.Core.List.{List, [], ◌∷◌, ◌++◌, append-nil}
use Prim.Native.Nat.{ℕ, suc, ◌≤◌, ◌<◌}
use native.Mathlib.Omega.{arith}
use lib.Dec.{ltb}
use lib.ListN.{length, length-append, get_or}
use lib.Seq.{get_or_at}
use borrow.Author.Tests.{ltb-true, ltb-false}
use Rattle.value.specs.Value.{Datum, nil}
use Rattle.emit.specs.State.{alike, seek, fresh}
use Rattle.emit.proofs.ConstLaws.{alike_is}

pub seek-le : (v : Datum) (ks : List Datum) → seek v ks ≤ length ks
unfolding seek
seek-le v [] = omega arith
seek-le v (x ∷ xs) = go (alike x v) (seek-le v xs)
  where
    go : (t : Bool) → seek v xs ≤ length xs → cond t 0 (suc (seek v xs)) ≤ suc (length xs)
    go true h = omega arith
    go false h = omega arith

pub seek-none : (v : Datum) (ks : List Datum) → ltb (seek v ks) (length ks) ≡ false → seek v ks ≡ length ks
seek-none v ks e = omega (arith, ltb-false (seek v ks) (length ks) e, seek-le v ks)

seek-at : (v : Datum) (ks : List Datum) → seek v ks < length ks → get_or ks (seek v ks) nil ≡ v
unfolding seek
seek-at v [] h = absurd (omega arith)
seek-at v (x ∷ xs) h = go (alike x v) refl h (λ l. seek-at v xs l)
  where
    go : (t : Bool) → alike x v ≡ t → cond t 0 (suc (seek v xs)) < suc (length xs) → (seek v xs < length xs → get_or xs (seek v xs) nil ≡ v) →
        get_or (x ∷ xs) (cond t 0 (suc (seek v xs))) nil ≡ v
    go true e h again = alike_is x v e
    go false e h again = again (omega arith)

pub record Held (ks : List Datum) (k : ℕ) (v : Datum) : Type 0 where
  pub inside : k < length ks
  pub is : get_or ks k nil ≡ v

held_by : (t : Bool) (v : Datum) (ks : List Datum) → ltb (seek v ks) (length ks) ≡ t → Held (ks ++ cond t [] (v ∷ [])) (seek v ks) v
held_by true v ks e =
    let h : seek v ks < length ks = ltb-true (seek v ks) (length ks) e in
    record { inside = omega (arith, h, length-append ks []); is = ap (λ (l : List Datum). get_or l (seek v ks) nil) (append-nil ks) ∙ seek-at v ks h }
held_by false v ks e =
    let h : seek v ks ≡ length ks = seek-none v ks e in
    record { inside = omega (arith, h, length-append ks (v ∷ [])); is = get_or_at ks v [] nil (seek v ks) (sym h) }

pub held_at : (v : Datum) (ks : List Datum) → Held (ks ++ fresh v ks) (seek v ks) v
held_at v ks = held_by (ltb (seek v ks) (length ks)) v ks refl

fresh-by : (t : Bool) (v : Datum) → length (cond t [] (v ∷ [])) ≤ 1
fresh-by true v = omega arith
fresh-by false v = omega arith

pub fresh-short : (v : Datum) (ks : List Datum) → length (fresh v ks) ≤ 1
fresh-short v ks = fresh-by (ltb (seek v ks) (length ks)) v
