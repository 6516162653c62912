-- What the numbers of an input make, at each place of a slice.
use Rattle.std.proofs.Common.{◌≡◌, ℕ, ◌^◌, ◌≤◌, ◌<◌, List, Option, Some, None, IfSome, OnOk, Result, length, slice_index, slice_index_or, ap, ◌∙◌, arith}
use Rattle.std.proofs.lemmas.Result.{on_ok_weaker}
use Rattle.replay_io.specs.Numbers.{nth_number, MadeOf}

-- P x k y is that y belongs at place k
pub fewer_made : {T : Type 0} (P : List ℕ → ℕ → T → Type 0) (a : Option (List ℕ)) (room : List T) (i n : ℕ) → n ≤ i → IfSome a (λ xs. (k : ℕ) (d : T) → k < i → k < length room → P xs k (slice_index_or room k d))
    → IfSome a (λ xs. (k : ℕ) (d : T) → k < n → k < length room → P xs k (slice_index_or room k d))
fewer_made P None room i n l p = tt
fewer_made P (Some x) room i n l p = λ k d h. p k d (omega arith)

-- f w is what w makes
numbers_made : (makes : ℕ → ℕ → Type 0) (f : ℕ → ℕ) (a : Option (List ℕ)) (room : List ℕ) (n : ℕ) → ((w y : ℕ) → w < 2 ^ 64 → makes w y → y ≡ f w) → IfSome a (λ xs. (k : ℕ) (d : ℕ) → k < n → k < length room → MadeOf makes xs k (slice_index_or room k d))
    → IfSome a (λ xs. (k : ℕ) → k < n → k < length room → slice_index room k ≡ f (nth_number xs k))
unfolding MadeOf
numbers_made makes f None room n made p = tt
numbers_made makes f (Some x) room n made p = λ k h l. let m = p k 0 h l in made m.0 (slice_index room k) m.1 m.3 ∙ ap f m.2

pub numbers_read : {A E : Type 0} (makes : ℕ → ℕ → Type 0) (f : ℕ → ℕ) (r : Result A E) (a : Option (List ℕ)) (room : List ℕ) (n : ℕ)
    → OnOk r (IfSome a (λ xs. (k : ℕ) (d : ℕ) → k < n → k < length room → MadeOf makes xs k (slice_index_or room k d)))
    → ((w y : ℕ) → w < 2 ^ 64 → makes w y → y ≡ f w) → OnOk r (IfSome a (λ xs. (k : ℕ) → k < n → k < length room → slice_index room k ≡ f (nth_number xs k)))
numbers_read makes f r a room n p made = on_ok_weaker r (numbers_made makes f a room n made) p
