-- Fields found by position: where a search for a blank ends, and what the fields from a position on are.
use mathlib.Core.Path.{◌≡◌, refl, sym, ◌∙◌, ap}
use mathlib.Core.Bool.{Bool, true, false, beq}
use mathlib.Core.List.{List, [], ◌∷◌, ◌++◌}
use Prim.Native.Nat.{ℕ, ◌+◌, ◌-◌, ◌≤◌, ◌<◌}
use native.Mathlib.Numerals.{add-one}
use native.Mathlib.Omega.{arith}
use lib.Dec.{eqb}
use lib.ListN.{length, get_or, take, drop, length-drop}
use lib.Pointwise.{pointwise}
use lib.Seq.{drop-drop, get_or-drop, take_all}
use borrow.Author.Rules.{rules}
use Rattle.text.specs.Fields.{is_blank, push, opened, fields_of, same, place_from}
use Rattle.text.specs.Scan.{lead}
use Rattle.std.proofs.Common.{Option, Some, None, append_assoc, length-append}
use Rattle.std.proofs.lemmas.List.{take-append-drop}
use Rattle.std.proofs.Math.Seq.{take-append_seam, drop-append_seam}

-- ---- the search for a byte that is blank, or is not

pub lead-none : (blank : Bool) → lead blank [] ≡ 0
unfolding lead
lead-none blank = refl

pub lead-hit : (blank : Bool) (b : ℕ) (s : List ℕ) → beq (is_blank b) blank ≡ true → lead blank (b ∷ s) ≡ 0
unfolding lead
lead-hit blank b s h = rw h

pub lead-miss : (blank : Bool) (b : ℕ) (s : List ℕ) → beq (is_blank b) blank ≡ false → lead blank (b ∷ s) ≡ lead blank s + 1
unfolding lead
lead-miss blank b s h = rw (h, add-one (lead blank s))

-- ---- the first field

either : {P : Type 0} (t : Bool) → (t ≡ true → P) → (t ≡ false → P) → P
either true f g = f refl
either false f g = g refl

-- a byte that is not blank, and all up to the next blank, are one field
opens : (b : ℕ) (s : List ℕ) → opened b s (fields_of s) ≡ (b ∷ take (lead true s) s) ∷ fields_of (drop (lead true s) s)
unfolding fields_of opened push lead
opens b [] = refl
opens b (c ∷ s) = either (is_blank c) (λ h. rw h (rw h)) (λ h. rw (h, opens c s))

-- the first field of a text that begins with one
begun : List ℕ → List (List ℕ)
begun [] = []
begun (b ∷ s) = take (lead true (b ∷ s)) (b ∷ s) ∷ fields_of (drop (lead true (b ∷ s)) (b ∷ s))

-- blanks in front are no part of a field
ahead : (s : List ℕ) → fields_of s ≡ begun (drop (lead false s) s)
unfolding fields_of lead begun
ahead [] = refl
ahead (b ∷ s) = either (is_blank b) (λ h. rw h (ahead s)) (λ h. rw h (rw h (opens b s)))

some : (s : List ℕ) → 0 < length (drop (lead false s) s) → 0 < lead true (drop (lead false s) s)
unfolding lead
some [] z = absurd (omega arith)
some (b ∷ s) z = either (is_blank b) (λ h. rw h (some s (rw h at z))) (λ h. rw h (rw h (omega arith)))

pub from-lead : (s : List ℕ) {i : ℕ} → i ≡ lead false s → take (length s - i) (drop i s) ≡ drop (lead false s) s
from-lead s {i} h = rw (← h) (take_all (length s - i) (drop i s) (simp length-drop (omega arith)))

-- `t` is what stands from the first field on
module _ (s t : List ℕ) (e : t ≡ drop (lead false s) s) where
  pub none-left : length t ≡ 0 → fields_of s ≡ []
  unfolding begun
  none-left z = ahead s ∙ rw (← e, length-zero t z)
    where
      length-zero : (l : List ℕ) → length l ≡ 0 → l ≡ []
      length-zero [] h = refl
      length-zero (b ∷ l) h = absurd (omega arith)

  pub one-left : (length t ≡ 0 → ⊥) → fields_of s ≡ take (lead true t) t ∷ fields_of (drop (lead true t) t)
  unfolding begun
  one-left z = ahead s ∙ rw (← e) (opened-at t z)
    where
      opened-at : (l : List ℕ) → (length l ≡ 0 → ⊥) → begun l ≡ take (lead true l) l ∷ fields_of (drop (lead true l) l)
      opened-at [] h = absurd (h refl)
      opened-at (b ∷ l) h = refl

  pub one-shorter : (length t ≡ 0 → ⊥) → 0 < lead true t
  one-shorter z = let p : 0 < length t = omega arith in rw e (some s (rw e at p))

  -- what stands in front of `t` is blank, and t is cut in two anywhere
  pub whole : (k : ℕ) → s ≡ take (lead false s) s ++ take k t ++ drop k t
  whole k = sym (append_assoc (take (lead false s) s) (take k t) (drop k t) ∙ rw (take-append-drop k t, e) (take-append-drop (lead false s) s))

-- ---- where a field stands

-- `r` is the end of `s`: blanks, the field `f`, and what is left behind it
module _ (s r f a : List ℕ) (d : r ≡ drop (length s - length r) s) (h : length r ≤ length s) (e : r ≡ take (lead false r) r ++ f ++ a) where
  abbrev blanks : List ℕ
  blanks = take (lead false r) r

  lengths : length r ≡ length blanks + length f + length a
  lengths = ap length e ∙ length-append (blanks ++ f) a ∙ ap (λ (x : ℕ). x + length a) (length-append blanks f)

  -- what is passed of `r` is passed of `s`
  passes : (p t : List ℕ) → p ++ t ≡ r → t ≡ drop (length s - length r + length p) s
  passes p t x = sym (sym (drop-drop (length p) (length s - length r) s) ∙ ap (drop (length p)) (sym d ∙ sym x) ∙ drop-append_seam p t)

  pub left-shorter : length a ≤ length s
  left-shorter = omega (arith, lengths, h)

  pub left-over : a ≡ drop (length s - length a) s
  left-over =
      let n : length s - length a ≡ length s - length r + length (blanks ++ f) = omega (arith, lengths, length-append blanks f, h) in
      rw n (passes (blanks ++ f) a (sym e))

  pub stands : take (length s - length a - (length s - length a - length f)) (drop (length s - length a - length f) s) ≡ f
  stands =
      let n : length s - length a - length f ≡ length s - length r + length blanks = omega (arith, lengths, h) in
      let m : length s - length a - (length s - length a - length f) ≡ length f = omega (arith, lengths, h) in
      rw (m, n, ← passes blanks (f ++ a) (sym (append_assoc blanks f a) ∙ sym e)) (take-append_seam f a)

-- ---- words that are the same

-- what a comparison answers is what the definition says
same-is : (x w : List ℕ) → same x w ≡ pointwise eqb x w
unfolding same
same-is [] [] = refl
same-is [] (b ∷ w) = refl
same-is (a ∷ x) [] = refl
same-is (a ∷ x) (b ∷ w) = rw (same-is x w) refl

-- ---- the fields that are left, after so many

-- l are the fields of all, r those that are left
pub nth-more : {f : List ℕ} (l : List (List ℕ)) {r : List (List ℕ)} (i : ℕ) → drop i l ≡ f ∷ r → drop (i + 1) l ≡ r
nth-more l i e = sym (drop-drop 1 i l) ∙ ap (drop 1) e

pub nth-none : (l : List (List ℕ)) (i n : ℕ) → i ≤ n → drop i l ≡ [] → [] ≡ get_or l n []
nth-none l i n h e = let z : i + (n - i) ≡ n = omega arith in sym (ap (λ (x : ℕ). get_or l x []) (sym z) ∙ sym (get_or-drop i l (n - i) []) ∙ rw e refl)

pub nth-here : {f : List ℕ} (l : List (List ℕ)) {r : List (List ℕ)} (i : ℕ) → drop i l ≡ f ∷ r → f ≡ get_or l i []
nth-here l i e = let z : i + 0 ≡ i = omega arith in sym (ap (λ (x : ℕ). get_or l x []) (sym z) ∙ sym (get_or-drop i l 0 []) ∙ rw e refl)

-- one turn of the search for a word: q is its place
module _ (n : ℕ) (w : List ℕ) {l : List (List ℕ)} (q : Option ℕ) (inv : place_from n w l ≡ q) where
  pub place_none : l ≡ [] → None ≡ q
  unfolding place_from
  place_none e = rw e at inv

  module _ {x : List ℕ} {r : List (List ℕ)} (e : l ≡ x ∷ r) (t : Bool) (f : t ≡ pointwise eqb x w) where
    pub place_here : t ≡ true → Some n ≡ q
    unfolding place_from
    place_here z = rw (e, same-is x w, ← f, z) at inv

    pub place-more : t ≡ false → place_from (n + 1) w r ≡ q
    unfolding place_from
    place-more z = rw (e, same-is x w, ← f, z) at inv

pub ruleset nths = (nth-more, nth-none, nth-here, rules)

pub ruleset places = (place_none, place_here, place-more, rules)
