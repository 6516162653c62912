-- The kinds that a rule has.
use mathlib.Core.Path.{◌≡◌}
use Prim.Native.Nat.{ℕ, ◌≤◌, ◌<◌}
use native.Mathlib.Omega.{arith}
use borrow.Author.Tests.{le-leb, lt-leb, ne_eqb}
use Rattle.eval.specs.Next.{rule_of}
use Rattle.eval.specs.declared.next.Rule.TheVariants as R

pub rule-unary : (k : ℕ) → k ≤ 7 → rule_of k ≡ R.Unary
rule-unary k h = rw (le-leb k 7 h)

pub rule-operator : (k : ℕ) → 7 < k → k ≤ 23 → rule_of k ≡ R.Operator
rule-operator k g h = rw (lt-leb k 7 g, le-leb k 23 h)

pub rule-ternary : (k : ℕ) → 25 < k → rule_of k ≡ R.Ternary
rule-ternary k h =
    let g : 7 < k = omega arith in
    let f : 23 < k = omega arith in
    rw (lt-leb k 7 g, lt-leb k 23 f, ne_eqb k 24 (λ e. omega arith), ne_eqb k 25 (λ e. omega arith))
