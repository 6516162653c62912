-- The laws of faults: when a sequence of tests finds none, and what it finds otherwise.
use mathlib.Core.Path.{◌≡◌, refl, sym, ◌∙◌, ap}
use mathlib.Core.Bool.{Bool, true, false, ◌&&◌}
use borrow.Author.Tests.{lt-ltb, le-ltb, le-leb, lt-leb, eq-eqb, ne_eqb}
use Rattle.std.specs.Prelude.{Ok, Err, IsErrAnd}
use Rattle.faults.specs.declared.Fault.{Fault}
use Rattle.faults.specs.Faults.{Checked, none, fault, ◌or_else◌}

-- no fault: no fault in either
pub none_both : (a b : Checked) → a or_else b ≡ none → (a ≡ none) × (b ≡ none)
unfolding ◌or_else◌
none_both (Ok tt) b e = (refl, e)
none_both (Err f) b e = absurd (cc)

-- the first has none: the second's
pub second : (a b : Checked) → a ≡ none → a or_else b ≡ b
unfolding ◌or_else◌
second a b e = rw e

-- the first has one: the first's
pub first : (a b : Checked) {f : Fault} → a ≡ Err f → a or_else b ≡ a
unfolding ◌or_else◌
first a b e = rw e

pub none_left : (a b : Checked) → a ≡ none → b ≡ a or_else b
none_left a b e = sym (second a b e)

pub some_left : (a b : Checked) {f : Fault} → a ≡ Err f → a ≡ a or_else b
some_left a b e = sym (first a b e)

-- a chain of calls, each of which returns its fault at once: `stop` where one returns, `pass` for each before it
pub stop : {r a : Checked} (b : Checked) {f : Fault} → r ≡ a → r ≡ Err f → r ≡ a or_else b
stop {r} {a} b e n = e ∙ sym (first a b (sym e ∙ n))

-- the same at a `?`: s is the call's answer, and r what the `?` returns
pub stopped : {r s a : Checked} (b : Checked) {f : Fault} → s ≡ a → s ≡ Err f → IsErrAnd r (λ e. e ≡ f) → r ≡ a or_else b
stopped {r = Ok u} b e n h = absurd h
stopped {r = Err f} b e n h = ap Err h ∙ sym n ∙ stop b e n

pub pass : {s r a b : Checked} → s ≡ a → s ≡ none → r ≡ b → r ≡ a or_else b
pass {s} {r} {a} {b} e z h = h ∙ sym (second a b (sym e ∙ z))

-- a test that found no fault failed
pub failed : (t : Bool) (f : Fault) → fault t f ≡ none → t ≡ false
unfolding fault
failed true f e = absurd (cc)
failed false f e = refl

pub and-true : (a b : Bool) → (a && b) ≡ false → a ≡ true → b ≡ false
and-true true b e h = e
and-true false b e h = absurd (mathlib.Core.Bool.false≢true h)

-- a chain of tests in the code: `search tests`, where the definition unfolds, with `fault` and `◌or_else◌`, answers each return
pub ruleset tests = (lt-ltb, le-ltb, le-leb, lt-leb, eq-eqb, ne_eqb)
