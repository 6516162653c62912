-- Tests, operators and leaves, over plain values.
use Rattle.std.specs.Prelude.{Result, Ok, Err, IsErrAnd}
use Rattle.faults.specs.declared.Fault.{Fault}
use mathlib.Core.Path.{◌≡◌, refl, ◌∙◌, ap}
use mathlib.Core.Bool.{Bool, true, false, cond}
use mathlib.Core.List.{List}
use Prim.Native.Nat.{ℕ, ◌<◌}
use native.Mathlib.Omega.{arith}
use lib.Dec.{eqb}
use lib.ListN.{length, get_or}
use borrow.Author.Tests.{eq-eqb, ne_eqb, lt-ltb}
use Rattle.value.specs.Value.{nil, bool, int, float, meaning, of_pair, datums}
use Rattle.value.proofs.PairLaws.{well-at, well-is, datum-at}
use Rattle.value.specs.declared.Value.{Value}
use Rattle.ops.specs.Ops as Ops
use Rattle.ops.specs.Not as Not
use Rattle.value.specs.Answer.{Answer, is, fault, result_of}
use Rattle.eval.specs.Next.{truth_of}
use Rattle.eval.specs.Apply.{on, both, whether, test}
use Rattle.value.specs.Pairs.{size, held}
use Rattle.eval.specs.Steps.{Lends}

-- ---- a fault is what a `?` returns

pub faulted : (r : Result Value Fault) {f : Fault} {t : Answer} → fault f ≡ t → IsErrAnd r (λ e. e ≡ f) → result_of r ≡ t
faulted (Ok v) e h = absurd h
faulted (Err f) e h = ap fault h ∙ e

-- ---- tests

-- a choice is made by the truth
abbrev pub chooses : Result Bool Fault → Answer → Answer → Answer
chooses (Ok true) b c = b
chooses (Ok false) b c = c
chooses (Err n) b c = fault n

pub whether-by : (a b c : Answer) → whether a b c ≡ chooses (truth_of a) b c
unfolding whether
whether-by (is nil) b c = refl
whether-by (is (bool true)) b c = refl
whether-by (is (bool false)) b c = refl
whether-by (is (int z)) b c = refl
whether-by (is (float p)) b c = refl
whether-by (fault n) b c = refl

module _ (a : Answer) {t : Result Bool Fault} (e : t ≡ truth_of a) where
  pub test-bool : (b : Bool) → t ≡ Ok b → is (bool b) ≡ test a
  unfolding test
  test-bool true h = rw (whether-by a _ _, ← e, h)
  test-bool false h = rw (whether-by a _ _, ← e, h)

  pub test-wrong : {n : Fault} → t ≡ Err n → fault n ≡ test a
  unfolding test
  test-wrong h = rw (whether-by a _ _, ← e, h)

-- ---- operators

module _ (k : ℕ) {x : Result Value Fault} where
  pub both_left : (y : Answer) {n : Fault} → x ≡ Err n → fault n ≡ both (Ops.binary_of k) (result_of x) y
  unfolding both
  both_left y e = rw e

  module _ {y : Result Value Fault} {a : Value} (e : x ≡ Ok a) where
    pub both_right : {n : Fault} → y ≡ Err n → fault n ≡ both (Ops.binary_of k) (result_of x) (result_of y)
    unfolding both on
    both_right f = rw (e, f)

    pub both-are : {b : Value} {r : Answer} → y ≡ Ok b → r ≡ Ops.binary_of k (meaning a) (meaning b) → r ≡ both (Ops.binary_of k) (result_of x) (result_of y)
    unfolding both on
    both-are f q = rw (e, f) q

  pub unary-fault : {n : Fault} → x ≡ Err n → fault n ≡ on (cond (eqb k 6) Ops.minus_of Not.not_of) (result_of x)
  unfolding on
  unary-fault e = rw e

  module _ {a : Value} (e : x ≡ Ok a) {r : Answer} where
    pub unary-minus : k ≡ 6 → r ≡ Ops.minus_of (meaning a) → r ≡ on (cond (eqb k 6) Ops.minus_of Not.not_of) (result_of x)
    unfolding on
    unary-minus h q = rw (e, eq-eqb k 6 h) q

    pub unary-not : (k ≡ 6 → ⊥) → r ≡ Not.not_of (meaning a) → r ≡ on (cond (eqb k 6) Ops.minus_of Not.not_of) (result_of x)
    unfolding on
    unary-not h q = rw (e, ne_eqb k 6 h) q

-- a local is its value
module _ {ks ps : List ℕ} (l : Lends ks ps) {p : ℕ} (h : p < length ks) where
  pub local-is : {r : Answer} → r ≡ held ks ps p → r ≡ is (get_or (datums ks ps) p nil)
  unfolding held
  local-is q =
      let m : p < length ps = omega (arith, l.even) in
      let n : p < size ks ps = omega arith in
      rw (datum-at ks ps p h m) (rw (lt-ltb p (size ks ps) n, well-is (of_pair (get_or ks p 0) (get_or ps p 0)) (well-at ks ps p l.wells h m)) at q)
