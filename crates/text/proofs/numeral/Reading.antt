-- Reading digits from the left: the turns of the loop, and the tests of the readers. Assumes nothing.
use mathlib.Core.Path.{◌≡◌, refl, sym, ◌∙◌}
use mathlib.Core.Bool.{Bool, true, false, ◌&&◌}
use mathlib.Core.List.{List, [], ◌∷◌}
use Prim.Native.Nat.{ℕ, ◌+◌, ◌-◌, ◌*◌, ◌/◌, ◌^◌, ◌≤◌, ◌<◌}
use native.Mathlib.Nat.{div-lt_iff_lt-mul, le-div_iff_mul-le}
use native.Mathlib.Numerals.{add-one}
use native.Mathlib.Omega.{arith}
use lib.Dec.{eqb}
use lib.ListN.{length, get_or, take, drop, drop_of_length-le}
use lib.Pointwise.{pointwise}
use lib.Seq.{drop-cons}
use borrow.Author.Rules.{rules}
use borrow.Author.Tests.{le-leb, lt-leb}
use Rattle.text.specs.Numeral.{digit_of, more_of, read_on, nat_of, is_hex, unsigned_of, positive_of, negated_of, int_of}
use Rattle.std.proofs.Common.{Result, Ok, Err}
use Rattle.text.specs.declared.numeral.NumeralError.{NumeralError}
use Rattle.text.specs.declared.numeral.NumeralError.TheVariants.{NoNumber, TooLarge}

stays : (base : ℕ) {e : NumeralError} (s : List ℕ) → read_on base (Err e) s ≡ Err e
unfolding read_on
stays base [] = refl
stays base (b ∷ s) = refl

-- ---- one digit more

module _ (base n b : ℕ) {d : ℕ} (hd : d ≡ digit_of b) where
  pub more-none : base ≤ d → Err NoNumber ≡ more_of base n b
  unfolding more_of
  more-none h = rw (← hd, le-leb base d h)

  module _ (h : d < base) where
    pub more-large : 10 ≤ base → (18446744073709551615 - d) / base < n → Err TooLarge ≡ more_of base n b
    unfolding more_of
    more-large z l =
        let m : 18446744073709551615 - d < n * base = (div-lt_iff_lt-mul {k = base} {x = 18446744073709551615 - d} {y = n} (omega arith)).0 l in
        rw (← hd, lt-leb base d h, le-leb (2 ^ 64) (n * base + d) (omega arith))

    pub more-is : 10 ≤ base → base ≤ 16 → n ≤ (18446744073709551615 - d) / base → Ok (n * base + d) ≡ more_of base n b
    unfolding more_of
    more-is z k l =
        let m : n * base ≤ 18446744073709551615 - d = (le-div_iff_mul-le {k = base} {x = n} {y = 18446744073709551615 - d} (omega arith)).0 l in
        rw (← hd, lt-leb base d h, lt-leb (2 ^ 64) (n * base + d) (omega arith))

pub ruleset mores = (more-none, more-large, more-is, rules)

-- ---- the turns of the loop: what is left to read gives the answer, q

module _ (base n : ℕ) (s : List ℕ) (i : ℕ) (q : Result ℕ NumeralError) (inv : read_on base (Ok n) (drop i s) ≡ q) where
  pub read_done : length s ≤ i → Ok n ≡ q
  unfolding read_on
  read_done h = sym (rw (drop_of_length-le s h)) ∙ inv

  module _ {b : ℕ} {r : Result ℕ NumeralError} (at : i < length s) (hb : b ≡ get_or s i 0) (hr : r ≡ more_of base n b) where
    step : q ≡ read_on base r (drop (i + 1) s)
    unfolding read_on
    step = sym inv ∙ rw (drop-cons s i 0 at, add-one i, hr, hb)

    pub read-wrong : {e : NumeralError} → r ≡ Err e → Err e ≡ q
    read-wrong e = sym (step ∙ rw e (stays base (drop (i + 1) s)))

    pub read_more : {m : ℕ} → r ≡ Ok m → read_on base (Ok m) (drop (i + 1) s) ≡ q
    read_more e = rw (← e) (sym step)

pub some-digits : (base : ℕ) (s : List ℕ) {q : Result ℕ NumeralError} → (length s ≡ 0 → ⊥) → q ≡ read_on base (Ok 0) s → q ≡ nat_of base s
unfolding nat_of
some-digits base [] h e = absurd (h refl)
some-digits base (b ∷ s) h e = e

pub no-digits : (base : ℕ) (s : List ℕ) → length s ≡ 0 → Err NoNumber ≡ nat_of base s
unfolding nat_of
no-digits base [] h = refl
no-digits base (b ∷ s) h = absurd (omega arith)

pub ruleset turns = (read_done, read-wrong, read_more, some-digits, no-digits, rules)

-- ---- what stands in front

and-true : (t : Bool) → (t && true) ≡ t
and-true true = refl
and-true false = refl

pub hex_is : (s : List ℕ) → pointwise eqb (take 2 s) (48 ∷ 120 ∷ []) ≡ is_hex s
unfolding is_hex
hex_is [] = refl
hex_is (a ∷ []) = refl
hex_is (a ∷ b ∷ s) = rw (and-true (eqb b 120)) refl

pub minus-is : (s : List ℕ) → pointwise eqb (take 1 s) (45 ∷ []) ≡ eqb (get_or s 0 0) 45
minus-is [] = refl
minus-is (a ∷ s) = and-true (eqb a 45)

-- the readers, by what stands in front
module _ (s : List ℕ) {r : Result ℕ NumeralError} where
  pub unsigned-hex : {d : List ℕ} → is_hex s ≡ true → d ≡ drop 2 s → r ≡ nat_of 16 d → r ≡ unsigned_of s
  unfolding unsigned_of
  unsigned-hex h k e = e ∙ rw (h, k)

  pub unsigned-plain : is_hex s ≡ false → r ≡ nat_of 10 s → r ≡ unsigned_of s
  unfolding unsigned_of
  unsigned-plain h e = e ∙ rw h

  pub int-hex : {d : List ℕ} → is_hex s ≡ true → d ≡ drop 2 s → r ≡ nat_of 16 d → r ≡ int_of s
  unfolding int_of
  int-hex h k e = e ∙ rw (h, k)

  module _ {q : Result ℕ NumeralError} (h : is_hex s ≡ false) where
    pub int-minus : {d : List ℕ} → pointwise eqb (take 1 s) (45 ∷ []) ≡ true → d ≡ drop 1 s → q ≡ nat_of 10 d → r ≡ negated_of q → r ≡ int_of s
    unfolding int_of
    int-minus m k e f = f ∙ rw (h, ← minus-is s, m, e, k)

    pub int-plain : pointwise eqb (take 1 s) (45 ∷ []) ≡ false → q ≡ nat_of 10 s → r ≡ positive_of q → r ≡ int_of s
    unfolding int_of
    int-plain m e f = f ∙ rw (h, ← minus-is s, m, e)

pub ruleset readers = (unsigned-hex, unsigned-plain, int-hex, int-minus, int-plain, rules)
