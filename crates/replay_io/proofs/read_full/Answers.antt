-- What one more read gave stands after what was there.
use Rattle.std.proofs.Common.{◌≡◌, ℕ, ◌+◌, ◌≤◌, List, ◌++◌, Option, Some, None, length, take, sym, ap, ◌∙◌, append_assoc, rules}
use Rattle.std.proofs.lemmas.List.{take-append-le, length-take-le}
use Rattle.std.proofs.Math.Seq.{take-append-add}
use Rattle.std.proofs.lemmas.Slice.{overwrites}
use Rattle.std.specs.Io.KnownBytes.{Consumes}
use Rattle.replay_io.proofs.read_full.Goals as goal

Consumes-then : (a b c : Option (List ℕ)) (bs cs all : List ℕ) → all ≡ bs ++ cs → Consumes a b bs → Consumes b c cs → Consumes a c all
Consumes-then None b c bs cs all e p q = tt
Consumes-then (Some x) None c bs cs all e p q = absurd p
Consumes-then (Some x) (Some y) None bs cs all e p q = absurd q
Consumes-then (Some x) (Some y) (Some z) bs cs all e p q = p ∙ ap (λ l. bs ++ l) q ∙ sym (append_assoc bs cs z) ∙ ap (λ l. l ++ z) (sym e)

front_more : (a n : ℕ) (xs ys zs : List ℕ) → a ≤ length xs → n ≤ length ys → take (a + n) (take a xs ++ (ys ++ zs)) ≡ take a xs ++ take n ys
front_more a n xs ys zs la ln =
    ap (λ k. take (k + n) (take a xs ++ (ys ++ zs))) (sym (length-take-le a xs la))
    ∙ take-append-add (take a xs) (ys ++ zs) n
    ∙ ap (λ l. take a xs ++ l) (take-append-le n ys zs ln)

pub loop-done-preserved : goal.loop-done-preserved
loop-done-preserved g c =
    let read = c.in_ok-n.ensures in
    record {
      within = search (rules, overwrites);
      given = Consumes-then _ _ _ _ _ _ (front_more c.loop-done.done c.in_ok-n.n c.loop-done.bytes c.read.new.buf _ (search rules) (search rules)) c.loop-done.invariant.given read.bytes.0;
    }
