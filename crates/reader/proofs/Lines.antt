-- The words that a line can begin with, and those that name a kind of value, as the fields of a text; what stands before a comment.
use Rattle.std.proofs.Common.{◌≡◌, refl, ap, ℕ, ◌+◌, List, map, Option, take, drop, arith}
use Rattle.text.specs.Bytes.{index_of}
use Rattle.text.specs.Fields.{bytes, is_blank, push, opened, fields_of, place_of}
use Rattle.reader.specs.Line.{first_words, value_words}

pub first_names : (w : List ℕ) {p : Option ℕ} → p ≡ place_of w (fields_of (bytes "nil true false int float ref minus not bit_and bit_or bit_xor lshift rshift add sub mul div mod eq ne lt le gt ge and or ternary params locals dest budget local title ---")) → p ≡ place_of w (map bytes first_words)
unfolding fields_of opened push is_blank
first_names w e = e

pub value_names : (w x : List ℕ) {p : Option ℕ} → w ≡ x → p ≡ place_of w (fields_of (bytes "nil true false int float")) → p ≡ place_of x (map bytes value_words)
unfolding fields_of opened push is_blank
value_names w x h e = rw h at e

pub before-comment : (s : List ℕ) {e : ℕ} → e ≡ 0 + index_of 35 (drop 0 s) → take e s ≡ take (index_of 35 s) s
before-comment s {e} h = let k : index_of 35 (drop 0 s) ≡ index_of 35 s = refl in let z : e ≡ index_of 35 s = omega arith in ap (λ (x : ℕ). take x s) z
