-- One more number is taken, and what it makes is written to its place where it has one.
use Rattle.std.proofs.Common.{◌≡◌, ℕ, ◌+◌, ◌*◌, ◌^◌, ◌≤◌, ◌<◌, List, Option, Some, None, IfSome, length, drop, set, slice_index_or, inl, inr, ap, ◌∙◌, arith, rules}
use Rattle.std.proofs.lemmas.List.{get_or-set_same, get_or-set_other, length-set, drop-drop}
use Rattle.std.proofs.Math.Nat.{eq-or-lt_of_le}
use Rattle.std.specs.Int.{from_le_bytes, w64}
use Rattle.replay_io.specs.Numbers.{nth_number, DropsNumbers, MadeOf}
use Rattle.replay_io.proofs.Made.{fewer_made}
use Rattle.replay_io.proofs.read_into.Goals as goal

one_more : (a b c : Option (List ℕ)) (i : ℕ) → DropsNumbers a b i → DropsNumbers b c 1 → DropsNumbers a c (i + 1)
one_more None b c i p q = tt
one_more (Some x) None c i p q = absurd p
one_more (Some x) (Some y) None i p q = absurd q
one_more (Some x) (Some y) (Some z) i p q =
    let all : 8 * i + 8 ≡ 8 * (i + 1) = omega arith in
    q ∙ ap (λ s. drop 8 s) p ∙ drop-drop 8 (8 * i) x ∙ ap (λ k. drop k x) all

number_there : (a b : Option (List ℕ)) (i w : ℕ) → DropsNumbers a b i → IfSome b (λ ys. w ≡ nth_number ys 0) → IfSome a (λ xs. w ≡ nth_number xs i)
unfolding nth_number
number_there None b i w p q = tt
number_there (Some x) None i w p q = absurd p
number_there (Some x) (Some y) i w p q = q ∙ ap (λ s. from_le_bytes w64 s) p

made_there : {T : Type 0} (makes : ℕ → T → Type 0) (a : Option (List ℕ)) (i w : ℕ) (v : T) → w < 2 ^ 64 → IfSome a (λ xs. w ≡ nth_number xs i) → makes w v → IfSome a (λ xs. MadeOf makes xs i v)
unfolding MadeOf
made_there makes None i w v l p q = tt
made_there makes (Some x) i w v l p q = (w, l, p, q)

-- P x k y is that y belongs at place k
one_kept : {T : Type 0} (P : List ℕ → ℕ → T → Type 0) (a : Option (List ℕ)) (old new : List T) (i : ℕ) (v : T) → new ≡ set old i v → IfSome a (λ xs. (k : ℕ) (d : T) → k < i → k < length old → P xs k (slice_index_or old k d))
    → IfSome a (λ xs. P xs i v) → IfSome a (λ xs. (k : ℕ) (d : T) → k < i + 1 → k < length new → P xs k (slice_index_or new k d))
one_kept P None old new i v e p q = tt
one_kept P (Some x) old new i v e p q = λ k d h l.
    let len : length new ≡ length old = ap length e ∙ length-set old i v in
    let most : k ≤ i = omega arith in
    elim (eq-or-lt_of_le most) [
      | inl s ↦ let here : i < length old = omega arith in rw (e, s, get_or-set_same old i v d here) q
      | inr u ↦ let there : k < length old = omega arith in rw (e, get_or-set_other old i k v d (λ z. omega arith)) (p k d u there)
    ]

others_kept : {T : Type 0} (first old new : List T) (i : ℕ) (v : T) → new ≡ set old i v → ((k : ℕ) (d : T) → i ≤ k → slice_index_or old k d ≡ slice_index_or first k d)
    → (k : ℕ) (d : T) → i + 1 ≤ k → slice_index_or new k d ≡ slice_index_or first k d
others_kept first old new i v e p k d h = ap (λ s. slice_index_or s k d) e ∙ get_or-set_other old i k v d (λ z. omega arith) ∙ p k d (omega arith)

pub loop-i-preserved : goal.loop-i-preserved
loop-i-preserved g c =
    let was = c.loop-i.invariant in
    let makes = λ (w : ℕ) (x : g.row.T.Denot). g.F.Fn.post c.args.element.now (w, tt) x in
    let read = c.in_ok-w.ensures in
    let there = number_there _ _ c.loop-i.i c.in_ok-w.w was.rest read.value in
    record {
      rest = one_more _ _ _ _ was.rest read.rest;
      values = one_kept (MadeOf makes) _ _ _ _ _ c.keep.ensures was.values (made_there makes _ c.loop-i.i c.in_ok-w.w c.element.result (search rules) there c.element.ensures);
      kept = others_kept _ _ _ _ _ c.keep.ensures was.kept;
    }

pub returns-clause-values : goal.returns-clause-values
returns-clause-values g c =
    let makes = λ (w : ℕ) (x : g.row.T.Denot). g.F.Fn.post c.args.element.now (w, tt) x in
    fewer_made (MadeOf makes) _ _ c.loop-i.i c.args.n (omega arith) c.loop-i.invariant.values
