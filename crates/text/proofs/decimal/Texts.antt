-- The text of a float, by its parts: one law for each answer of the readers.
use mathlib.Core.Path.{◌≡◌, refl, sym, ◌∙◌}
use mathlib.Core.Bool.{Bool, true, false}
use mathlib.Core.List.{List, [], ◌∷◌}
use Prim.Native.Nat.{ℕ, suc, ◌+◌, ◌-◌, ◌≤◌}
use native.Mathlib.Numerals.{add-one}
use native.Mathlib.Omega.{arith}
use lib.ListN.{length, take, drop, length-drop, drop_of_length-le}
use lib.Seq.{drop-cons, take_all, take-length, take-append_seam, length-take-le}
use lib.Dec.{eqb}
use lib.Pointwise.{pointwise}
use borrow.Author.Rules.{rules}
use Rattle.text.proofs.numeral.Reading.{minus-is}
use borrow.Author.Tests.{lt-ltb, le-ltb}
use Rattle.text.specs.Bytes.{index_of}
use Rattle.text.specs.Fields.{bytes, is_blank, push, opened, fields_of, place_of}
use Rattle.text.specs.Numeral.{nat_of, is_hex}
use Rattle.text.specs.Decimal.{parts_of, point_of, plain_of, signed_of, pattern_of, named_of, float_of}
use Rattle.std.proofs.Common.{Option, Some, None, Result, Ok, Err}
use Rattle.text.specs.Refusals.{of_numeral}
use Rattle.text.specs.declared.decimal.DecimalError.{DecimalError}
use Rattle.text.specs.declared.decimal.DecimalError.TheVariants.{NoNumber}
use Rattle.text.specs.declared.numeral.NumeralError.{NumeralError}

-- ---- the point: `dot` is where the first one stands

module _ (neg : Bool) (s : List ℕ) {dot : ℕ} (found : dot ≡ 0 + index_of 46 (drop 0 s)) where
  dot-is : index_of 46 s ≡ dot
  dot-is = let e : index_of 46 (drop 0 s) ≡ index_of 46 s = refl in omega arith

  pub plain-none : {r : Result ℕ NumeralError} {q : Result ℕ DecimalError} → dot ≡ length s → r ≡ nat_of 10 s → q ≡ parts_of neg r [] → q ≡ plain_of neg s
  unfolding plain_of
  plain-none z h e = e ∙ rw (h, dot-is, le-ltb dot (length s) (omega arith))

  pub plain_end : dot + 1 ≡ length s → Err NoNumber ≡ plain_of neg s
  unfolding plain_of point_of
  plain_end h = rw (dot-is, lt-ltb dot (length s) (omega arith), drop_of_length-le s {i = suc dot} (omega arith))

  module _ (l : dot ≤ length s) (ne : dot ≡ length s → ⊥) (h : dot + 1 ≡ length s → ⊥) where
    some : (r : Result ℕ NumeralError) → point_of neg r (drop (suc dot) s) ≡ parts_of neg r (drop (suc dot) s)
    unfolding point_of
    some r = rw (drop-cons s (suc dot) 0 (omega arith))

    pub plain-point :
        {r : Result ℕ NumeralError} {q : Result ℕ DecimalError} → r ≡ nat_of 10 (take dot s) → q ≡ parts_of neg r (take (length s - (dot + 1)) (drop (dot + 1) s)) → q ≡ plain_of neg s
    unfolding plain_of
    plain-point {r} {q} k e =
        e
        ∙ rw (take_all (length s - (dot + 1)) (drop (dot + 1) s) (simp length-drop (omega arith)), add-one dot)
        (sym (some r) ∙ rw (k, dot-is, lt-ltb dot (length s) (omega arith)))

pub ruleset points = (plain-none, plain_end, plain-point, length-take-le, rules)

-- ---- the sign

pub sign-minus : (s d : List ℕ) {q : Result ℕ DecimalError} → pointwise eqb (take 1 s) (45 ∷ []) ≡ true → d ≡ drop 1 s → q ≡ plain_of true d → q ≡ signed_of s
unfolding signed_of
sign-minus s d h k e = e ∙ rw (← minus-is s, h, k)

pub sign-plain : (s : List ℕ) {q : Result ℕ DecimalError} → pointwise eqb (take 1 s) (45 ∷ []) ≡ false → q ≡ plain_of false s → q ≡ signed_of s
unfolding signed_of
sign-plain s h e = e ∙ rw (← minus-is s, h)

pub ruleset sides = (sign-minus, sign-plain, rules)

-- ---- names

pub float-named : (s : List ℕ) {p : Option ℕ} {q : Result ℕ DecimalError} → is_hex s ≡ false → p ≡ place_of s (fields_of (bytes "nan inf -inf")) → q ≡ named_of p s → q ≡ float_of s
unfolding float_of fields_of opened push is_blank
float-named s h e f = f ∙ rw (e, h)

-- the digits d of a pattern
module _ (s : List ℕ) {d : List ℕ} {r : Result ℕ NumeralError} (h : is_hex s ≡ true) (k : d ≡ drop 2 s) (e : r ≡ nat_of 16 d) where
  pub pattern-is : {p : ℕ} → r ≡ Ok p → Ok p ≡ float_of s
  unfolding float_of pattern_of
  pattern-is z = sym (rw (h, ← k, ← e, z))

  pub pattern-wrong : {n : NumeralError} → r ≡ Err n → Err (of_numeral n) ≡ float_of s
  unfolding float_of pattern_of
  pattern-wrong z = sym (rw (h, ← k, ← e, z))

pub ruleset floats = (pattern-is, pattern-wrong, float-named, rules)
