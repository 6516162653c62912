-- A run, turn by turn: what is left of it gives the whole answer. And its first check.
use Rattle.std.specs.Prelude.{Result, Ok, Err}
use Rattle.faults.specs.declared.Fault.{Fault}
use mathlib.Core.Path.{◌≡◌, sym, subst}
use mathlib.Core.List.{List}
use Prim.Native.Nat.{ℕ, zero, suc, ◌+◌, ◌-◌, ◌≤◌, ◌<◌}
use native.Mathlib.Omega.{arith}
use native.Mathlib.Numerals.{add-one}
use lib.ListN.{length}
use borrow.Author.Tests.{lt-ltb, le-ltb}
use Rattle.faults.specs.Numbers.{budget_spent, out_of_range}
use Rattle.faults.specs.Faults.{none}
use Rattle.machine.specs.Step.{after, step_of}
use Rattle.machine.specs.Run.{Out, out, ran, run_from, run_of}

-- ---- turns

module _ (ws sks sps ks ps : List ℕ) (at s : ℕ) {o : Out} where
  pub run-done : (n : ℕ) → run_from ws sks sps n s at ks ps ≡ o → length ws ≤ at → out (ran none s at) ks ps ≡ o
  unfolding run_from
  run-done zero e h = rw (le-ltb at (length ws) h) at e
  run-done (suc n) e h = rw (le-ltb at (length ws) h) at e

  module _ (budget : ℕ) (e : run_from ws sks sps (budget - s) s at ks ps ≡ o) (h : at < length ws) where
    pub run-spent : s ≡ budget → out (ran (Err budget_spent) s at) ks ps ≡ o
    unfolding run_from
    run-spent g =
        let z : budget - s ≡ 0 = omega arith in
        let f : run_from ws sks sps 0 s at ks ps ≡ o = rw z at e in
        rw (lt-ltb at (length ws) h) at f

    module _ (l : s ≤ budget) (g : s ≡ budget → ⊥) {ks' ps' : List ℕ} {r : Result ℕ Fault} (q : after r ks' ps' ≡ step_of ws sks sps at ks ps) where
      turn : run_from ws sks sps (suc (budget - (s + 1))) s at ks ps ≡ o
      turn = let z : budget - s ≡ suc (budget - (s + 1)) = omega arith in rw z at e

      pub run-stopped : {n : Fault} → r ≡ Err n → out (ran (Err n) s at) ks' ps' ≡ o
      unfolding run_from
      run-stopped f = rw (lt-ltb at (length ws) h, ← q, f) at turn

      pub run_moved : {p : ℕ} → r ≡ Ok p → run_from ws sks sps (budget - (s + 1)) (s + 1) p ks' ps' ≡ o
      unfolding run_from
      run_moved {p} f =
          subst (λ (n : ℕ). run_from ws sks sps (budget - (s + 1)) n p ks' ps' ≡ o) (sym (add-one s))
          (rw (lt-ltb at (length ws) h, ← q, f) at turn)

-- ---- before the first step

-- a start past the length is 26, whatever the pairs are
pub start-past : (ws sks sps ks ps : List ℕ) (budget start : ℕ) → length ws < start → out (ran (Err out_of_range) 0 start) ks ps ≡ run_of ws sks sps budget start ks ps
unfolding run_of
start-past ws sks sps ks ps budget start h = rw (lt-ltb (length ws) start h)

pub ruleset turns = (run-done, run-spent, run-stopped, run_moved)
