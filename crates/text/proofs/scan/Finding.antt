-- The turns of the search for a byte: `a` is where it ends.
use Rattle.std.proofs.Common.{◌≡◌, ◌≢◌, ℕ, suc, ◌+◌, ◌<◌, ◌≤◌, List, length, get_or, drop, arith, add-one, drop-cons, eq-eqb, ne_eqb, rules}
use lib.ListN.{drop_of_length-le}
use Rattle.text.specs.Bytes.{index_of}

module _ (s : List ℕ) (i b a : ℕ) (inv : i + index_of b (drop i s) ≡ a) where
  pub find_end : length s ≤ i → i ≡ a
  unfolding index_of
  find_end h = let e : index_of b (drop i s) ≡ 0 = rw (drop_of_length-le s h) in omega arith

  pub find_here : i < length s → get_or s i 0 ≡ b → i ≡ a
  unfolding index_of
  find_here h e = let z : index_of b (drop i s) ≡ 0 = rw (drop-cons s i 0 h, eq-eqb (get_or s i 0) b e) in omega arith

  pub find-on : i < length s → (get_or s i 0 ≡ b → ⊥) → i + 1 + index_of b (drop (i + 1) s) ≡ a
  unfolding index_of
  find-on h n =
      let z : index_of b (drop i s) ≡ suc (index_of b (drop (i + 1) s)) = rw (drop-cons s i 0 h, ne_eqb (get_or s i 0) b n, add-one i) in
      omega arith

pub ruleset finds = (find_end, find_here, find-on, rules)
