-- What a line of an expression's text says. A line is a list of bytes; from a # (byte 35) on it is a comment. What is left is read by its fields.
use Rattle.std.specs.Prelude.{ℕ, ◌+◌, ◌&&◌, cond, List, [], ◌∷◌, map, Option, Some, None, Result, Ok, Err, leb, ltb, eqb, length, get_or, take}
use Prim.Native.String.{String}
use Rattle.text.specs.Bytes.{index_of}
use Rattle.text.specs.Fields.{bytes, fields_of, place_of}
use Rattle.text.specs.Numeral.{unsigned_of, int_of}
use Rattle.text.specs.Decimal.{float_of}
use Rattle.text.specs.Refusals.{of_numeral}
use Rattle.text.specs.declared.decimal.DecimalError.{DecimalError}
use Rattle.text.specs.declared.numeral.NumeralError.{NumeralError}
use Rattle.reader.specs.declared.Line.{Line}
use Rattle.reader.specs.declared.Wrong.{Wrong}
use Rattle.reader.specs.declared.Trouble.{Trouble}
use Rattle.reader.specs.declared.Trouble.TheVariants.{NoSuchWord, Number, Missing, TooMuch, HalfGiven, NoValue}

-- ---- words

-- The words that a line can begin with. The first 27 are the kinds of nodes: a kind's number is its place.
abbrev pub first_words : List String
first_words =
    "nil" ∷ "true" ∷ "false" ∷ "int" ∷ "float" ∷ "ref" ∷  -- 0 to 5
    "minus" ∷ "not" ∷  -- 6, 7
    "bit_and" ∷ "bit_or" ∷ "bit_xor" ∷ "lshift" ∷ "rshift" ∷  -- 8 to 12
    "add" ∷ "sub" ∷ "mul" ∷ "div" ∷ "mod" ∷  -- 13 to 17
    "eq" ∷ "ne" ∷ "lt" ∷ "le" ∷ "gt" ∷ "ge" ∷  -- 18 to 23
    "and" ∷ "or" ∷ "ternary" ∷  -- 24 to 26
    "params" ∷ "locals" ∷ "dest" ∷ "budget" ∷  -- 27 to 30
    "local" ∷ "title" ∷ "---" ∷  -- 31 to 33
    []

-- the kinds of values
abbrev pub value_words : List String
value_words = "nil" ∷ "true" ∷ "false" ∷ "int" ∷ "float" ∷ []

-- ---- numbers. Field n of a line is at fault where it is not the number that is wanted.

abbrev pub wrong : Trouble → ℕ → Wrong
wrong t n = record { trouble = t; field = n }

unfoldable pub read_of : ℕ → Result ℕ NumeralError → Result ℕ Wrong
read_of n (Ok x) = Ok x
read_of n (Err e) = Err (wrong (Number (of_numeral e)) n)

unfoldable pub real_of : ℕ → Result ℕ DecimalError → Result ℕ Wrong
real_of n (Ok p) = Ok p
real_of n (Err e) = Err (wrong (Number e) n)

-- the payload of a kind: an Int by its two's complement, a Float by its pattern, any other an unsigned number
unfoldable pub payload_of : ℕ → ℕ → List ℕ → Result ℕ Wrong
unfolding read_of real_of
payload_of n k w = cond (eqb k 3) (read_of n (int_of w)) (cond (eqb k 4) (real_of n (float_of w)) (read_of n (unsigned_of w)))

-- field n as the payload of a kind
unfoldable pub number_of : ℕ → ℕ → List (List ℕ) → Result ℕ Wrong
unfolding payload_of
number_of k n fs = cond (ltb n (length fs)) (payload_of n k (get_or fs n [])) (Err (wrong Missing n))

-- the same of the line's last field
unfoldable pub last_of : ℕ → ℕ → List (List ℕ) → Result ℕ Wrong
unfolding number_of
last_of k n fs = cond (ltb (n + 1) (length fs)) (Err (wrong TooMuch (n + 1))) (number_of k n fs)

-- ---- nodes: the kind, its payload, then first and depth, both or neither. A payload of 0 may be left out, but not that of an Int, a Float or a Ref.

unfoldable pub bare_of : ℕ → Result Line Wrong
bare_of k = cond (leb 3 k && leb k 5) (Err (wrong Missing 1)) (Ok (Line.Node k 0))

unfoldable pub plain_of : ℕ → Result ℕ Wrong → Result Line Wrong
plain_of k (Ok p) = Ok (Line.Node k p)
plain_of k (Err w) = Err w

unfoldable pub given_of : ℕ → Result ℕ Wrong → Result ℕ Wrong → Result ℕ Wrong → Result Line Wrong
given_of k (Ok p) (Ok f) (Ok d) = Ok (Line.Given k p f d)
given_of k (Ok p) (Ok f) (Err w) = Err w
given_of k (Ok p) (Err w) d = Err w
given_of k (Err w) f d = Err w

unfoldable pub node_of : ℕ → List (List ℕ) → Result Line Wrong
unfolding bare_of plain_of given_of number_of
node_of k fs =
    cond (eqb (length fs) 1) (bare_of k)
    (cond (eqb (length fs) 2) (plain_of k (number_of k 1 fs))
    (cond (eqb (length fs) 3) (Err (wrong HalfGiven 2))
    (cond (eqb (length fs) 4) (given_of k (number_of k 1 fs) (number_of 5 2 fs) (number_of 5 3 fs))
    (Err (wrong TooMuch 4)))))

-- ---- other lines

-- params, locals, dest and budget, by their places among the words, with their number
unfoldable pub setting_of : ℕ → Result ℕ Wrong → Result Line Wrong
setting_of k (Ok x) = cond (eqb k 27) (Ok (Line.Params x)) (cond (eqb k 28) (Ok (Line.Locals x)) (cond (eqb k 29) (Ok (Line.Dest x)) (Ok (Line.Budget x))))
setting_of k (Err w) = Err w

-- the value of the next register, as a pair: kind byte and payload
unfoldable pub pair_of : ℕ → Result ℕ Wrong → Result Line Wrong
pair_of b (Ok p) = Ok (Line.Value b p)
pair_of b (Err w) = Err w

unfoldable pub atom_of : ℕ → ℕ → List (List ℕ) → Result Line Wrong
atom_of b p fs = cond (ltb 2 (length fs)) (Err (wrong TooMuch 2)) (Ok (Line.Value b p))

unfoldable pub value_of : Option ℕ → List (List ℕ) → Result Line Wrong
unfolding atom_of pair_of last_of
value_of (Some n) fs =
    cond (eqb n 0) (atom_of 0 0 fs)
    (cond (eqb n 1) (atom_of 1 1 fs)
    (cond (eqb n 2) (atom_of 1 0 fs)
    (cond (eqb n 3) (pair_of 2 (last_of 3 2 fs))
    (pair_of 3 (last_of 4 2 fs)))))
value_of None fs = Err (wrong NoValue 1)

unfoldable pub end_of : List (List ℕ) → Result Line Wrong
end_of fs = cond (ltb 1 (length fs)) (Err (wrong TooMuch 1)) (Ok Line.End)

-- ---- a line by its first word

unfoldable pub word_of : ℕ → List (List ℕ) → Result Line Wrong
unfolding node_of setting_of last_of value_of end_of
word_of k fs =
    cond (ltb k 27) (node_of k fs)
    (cond (ltb k 31) (setting_of k (last_of 5 1 fs))
    (cond (eqb k 31) (value_of (place_of (get_or fs 1 []) (map bytes value_words)) fs)
    (cond (eqb k 32) (Ok Line.Title)
    (end_of fs))))

-- a kind by its number, which may be one that no kind has
unfoldable pub kind_of : Result ℕ NumeralError → List (List ℕ) → Result Line Wrong
unfolding node_of
kind_of (Ok k) fs = node_of k fs
kind_of (Err NumeralError.NoNumber) fs = Err (wrong NoSuchWord 0)
kind_of (Err NumeralError.TooLarge) fs = Err (wrong (Number DecimalError.TooLarge) 0)

unfoldable pub first_of : Option ℕ → List (List ℕ) → Result Line Wrong
unfolding word_of kind_of
first_of (Some k) fs = word_of k fs
first_of None fs = kind_of (unsigned_of (get_or fs 0 [])) fs

unfoldable pub fields_line : List (List ℕ) → Result Line Wrong
unfolding first_of
fields_line fs = cond (eqb (length fs) 0) (Ok Line.Nothing) (first_of (place_of (get_or fs 0 []) (map bytes first_words)) fs)

unfoldable pub line_of : List ℕ → Result Line Wrong
unfolding fields_line
line_of s = fields_line (fields_of (take (index_of 35 s) s))
