-- What the reader gave, and zeros for what it lacks, are the first eight of the bytes that it had left.
use Rattle.std.proofs.Common.{◌≡◌, ℕ, ◌-◌, ◌≤◌, ◌<◌, List, [], ◌++◌, Option, Some, None, IfSome, length, take, drop, slice_index, replicate, sym, ap, ◌∙◌, inl, inr, arith, rules}
use Rattle.std.proofs.lemmas.Bool.{cases_lt}
use Rattle.std.proofs.lemmas.List.{length-take-le, length-append, length-replicate, get_or_append_left, get_or-append_right, get_or-replicate}
use Rattle.std.proofs.Math.ListN.{drop_of_length-le}
use Rattle.std.proofs.Math.Seq.{drop-append_seam}
use Rattle.std.proofs.Math.Nat.{eq-or-lt_of_le}
use Rattle.std.proofs.lemmas.Slice.{overwrites}
use Rattle.std.specs.Io.KnownBytes.{Consumes, IsAtEnd}
use Rattle.std.specs.Int.{from_le_bytes, w64}
use Rattle.replay_io.specs.Numbers.{nth_number, DropsNumbers}
use Rattle.replay_io.proofs.read_word.Goals as goal

-- p is what was read, n bytes of it; z are zeros, q is what is left and r past the end
same_at : (p q z r : List ℕ) (n i : ℕ) → length p ≡ n → n ≤ 8 → i < 8 → (n < 8 → q ≡ []) → z ≡ replicate (8 - n) 0 → slice_index (p ++ (z ++ r)) i ≡ slice_index (p ++ q) i
same_at p q z r n i l h u e z_is = elim (cases_lt i n) [
  | inl v ↦ get_or_append_left p (z ++ r) 0 i (omega arith) ∙ sym (get_or_append_left p q 0 i (omega arith))
  | inr v ↦
      let len : length z ≡ 8 - n = ap length z_is ∙ length-replicate (8 - n) 0 in
      let zero_at : slice_index z (i - n) ≡ 0 = ap (λ s. slice_index s (i - n)) z_is ∙ get_or-replicate (8 - n) (i - n) 0 0 (omega arith) in
      let none_at : slice_index q (i - n) ≡ 0 = ap (λ s. slice_index s (i - n)) (e (omega arith)) in
      get_or-append_right p (z ++ r) n i 0 l v ∙ get_or_append_left z r 0 (i - n) (omega arith) ∙ zero_at ∙ sym none_at ∙ sym (get_or-append_right p q n i 0 l v)
]

same_number : (p q z r : List ℕ) (n : ℕ) → length p ≡ n → n ≤ 8 → (n < 8 → q ≡ []) → z ≡ replicate (8 - n) 0 → from_le_bytes w64 (p ++ (z ++ r)) ≡ from_le_bytes w64 (p ++ q)
same_number p q z r n l h e z_is =
    grind (
      arith,
      same_at p q z r n 0 l h (omega arith) e z_is,
      same_at p q z r n 1 l h (omega arith) e z_is,
      same_at p q z r n 2 l h (omega arith) e z_is,
      same_at p q z r n 3 l h (omega arith) e z_is,
      same_at p q z r n 4 l h (omega arith) e z_is,
      same_at p q z r n 5 l h (omega arith) e z_is,
      same_at p q z r n 6 l h (omega arith) e z_is,
      same_at p q z r n 7 l h (omega arith) e z_is,
    )

number_read : (old new : Option (List ℕ)) (b z r : List ℕ) (n w : ℕ) → length b ≡ 8 → n ≤ 8 → Consumes old new (take n b) → (n < 8 → IsAtEnd new) → z ≡ replicate (8 - n) 0
    → w ≡ from_le_bytes w64 (take n b ++ (z ++ r)) → IfSome old (λ xs. w ≡ nth_number xs 0)
unfolding nth_number
number_read None new b z r n w l h p e z_is v = tt
number_read (Some x) None b z r n w l h p e z_is v = absurd p
number_read (Some x) (Some y) b z r n w l h p e z_is v =
    v ∙ same_number (take n b) y z r n (length-take-le n b (omega arith)) h e z_is ∙ ap (λ s. from_le_bytes w64 s) (sym p)

dropped : (p y : List ℕ) (n : ℕ) → length p ≡ n → n ≤ 8 → (n < 8 → y ≡ []) → y ≡ drop 8 (p ++ y)
dropped p y n l h e = elim (eq-or-lt_of_le h) [
  | inl v ↦ sym (ap (λ k. drop k (p ++ y)) (sym (l ∙ v)) ∙ drop-append_seam p y)
  | inr v ↦ e v ∙ sym (drop_of_length-le (p ++ y) {i = 8} (omega (arith, length-append p y, ap length (e v), l, h)))
]

rest_read : (old new : Option (List ℕ)) (b : List ℕ) (n : ℕ) → length b ≡ 8 → n ≤ 8 → Consumes old new (take n b) → (n < 8 → IsAtEnd new) → DropsNumbers old new 1
rest_read None new b n l h p e = tt
rest_read (Some x) None b n l h p e = absurd p
rest_read (Some x) (Some y) b n l h p e = dropped (take n b) y n (length-take-le n b (omega arith)) h e ∙ ap (λ s. drop 8 s) (sym p)

pub returns-clause-value : goal.returns-clause-value
returns-clause-value g c =
    number_read _ _ c.read_full.new.bytes c.fill.new.self _ c.in_ok-n.n _ (search rules) (search rules) c.in_ok-n.ensures.bytes (λ h. c.in_ok-n.ensures.end (search rules))
    (c.fill.ensures.after (λ y same. same) ∙ ap (λ k. replicate k 0) (search (rules, overwrites))) c.from_le_bytes.ensures

pub returns-clause-rest : goal.returns-clause-rest
returns-clause-rest g c =
    rest_read _ _ c.read_full.new.bytes c.in_ok-n.n (search rules) (search rules) c.in_ok-n.ensures.bytes (λ h. c.in_ok-n.ensures.end (search rules))
