-- The fields of a line, and the place of a word in a list of words. A text is a list of bytes.
use Rattle.std.specs.Prelude.{◌≡◌, ℕ, ◌+◌, ◌-◌, ◌≤◌, Bool, true, false, ◌&&◌, ◌||◌, cond, List, [], ◌∷◌, length, take, drop, Option, Some, None, eqb}
use Prim.Native.String.{String, [] as end, ◌∷◌ as ◌then◌}
use Prim.Native.Char.{code}

-- a quoted text as bytes; every character that is quoted here is one byte
abbrev pub bytes : String → List ℕ
bytes end = []
bytes (c then s) = code c ∷ bytes s

-- ---- fields

-- a space, a tab or a carriage return
unfoldable pub is_blank : ℕ → Bool
is_blank b = eqb b 32 || eqb b 9 || eqb b 13

-- b in front of the first field; a field by itself where there is none
unfoldable pub push : ℕ → List (List ℕ) → List (List ℕ)
push b [] = (b ∷ []) ∷ []
push b (f ∷ fs) = (b ∷ f) ∷ fs

-- the fields of b and s together, where b is not blank and fs are the fields of s: before a blank, or at the end, b is a field by itself
unfoldable pub opened : ℕ → List ℕ → List (List ℕ) → List (List ℕ)
unfolding push
opened b [] fs = (b ∷ []) ∷ fs
opened b (c ∷ s) fs = cond (is_blank c) ((b ∷ []) ∷ fs) (push b fs)

-- the longest runs of bytes that are not blank, from the left
unfoldable pub fields_of : List ℕ → List (List ℕ)
unfolding opened
fields_of [] = []
fields_of (b ∷ s) = cond (is_blank b) (fields_of s) (opened b s (fields_of s))

-- f is what stands in s between two of its positions
unfoldable pub StandsIn : List ℕ → List ℕ → Type 0
StandsIn s f = (from : ℕ) × (to : ℕ) × (from ≤ to) × (to ≤ length s) × (take (to - from) (drop from s) ≡ f)

-- ---- words

unfoldable pub same : List ℕ → List ℕ → Bool
same [] [] = true
same [] (b ∷ t) = false
same (a ∷ s) [] = false
same (a ∷ s) (b ∷ t) = eqb a b && same s t

-- the place of w among words, of which the first has the number n
unfoldable pub place_from : ℕ → List ℕ → List (List ℕ) → Option ℕ
unfolding same
place_from n w [] = None
place_from n w (x ∷ xs) = cond (same x w) (Some n) (place_from (n + 1) w xs)

-- counted from 0
unfoldable pub place_of : List ℕ → List (List ℕ) → Option ℕ
unfolding place_from
place_of w xs = place_from 0 w xs
