-- A run, by document 01, "The machine": the steps one after the other, until the end, a stop, or the budget is spent.
use Rattle.std.specs.Prelude.{ℕ, zero, suc, ◌-◌, cond, ◌&&◌, List, ltb, leb, length, take, drop, Ok, Err}
use Rattle.faults.specs.Numbers.{budget_spent, out_of_range, ill_formed}
use Rattle.faults.specs.Faults.{Checked, none}
use Rattle.value.specs.Value.{all_well}
use Rattle.machine.specs.Step.{after, step_of}
use Rattle.machine.specs.declared.run.Ran.{Ran}

-- the report, and what the kinds and the payloads of the registers are at the end
pub data Out : Type 0 where
  out : Ran → List ℕ → List ℕ → Out

-- "A run reports its number (0 for done), steps and position": `number_of` of its end
abbrev pub ran : Checked → ℕ → ℕ → Ran
ran e s p = record { end = e; steps = s; position = p }

-- the words, and the slots' kinds and payloads
module _ (ws sks sps : List ℕ) where
  -- the steps that are left of the budget, the steps taken, the position, the registers' kinds and payloads.
  -- The end is looked at first, then 25. "A stopping step isn't counted", and its position is reported
  unfoldable pub run_from : ℕ → ℕ → ℕ → List ℕ → List ℕ → Out
  run_from zero s at ks ps = cond (ltb at (length ws)) (out (ran (Err budget_spent) s at) ks ps) (out (ran none s at) ks ps)
  run_from (suc n) s at ks ps =
      cond (ltb at (length ws))
      (elim (step_of ws sks sps at ks ps) [
        | after r ks' ps' ↦ elim r [ Ok p ↦ run_from n (suc s) p ks' ps' | Err e ↦ out (ran (Err e) s at) ks' ps' ]
      ])
      (out (ran none s at) ks ps)

  -- "A start past the length is 26, before the check for 29"; 29 is reported at position 0. Both leave the registers unchanged
  unfoldable pub run_of : ℕ → ℕ → List ℕ → List ℕ → Out
  run_of budget start ks ps =
      cond (ltb (length ws) start) (out (ran (Err out_of_range) 0 start) ks ps)
      (cond (all_well ks ps && all_well sks sps) (run_from budget 0 start ks ps) (out (ran (Err ill_formed) 0 0) ks ps))

-- "the runner is lent only the words from its entry to its end", of a store. Bounds that are wrong are 26 at the entry
abbrev pub run_part_of : List ℕ → ℕ → ℕ → List ℕ → List ℕ → ℕ → List ℕ → List ℕ → Out
run_part_of store entry end sks sps budget ks ps =
    cond (leb entry end && leb end (length store)) (run_of (take (end - entry) (drop entry store)) sks sps budget 0 ks ps)
    (out (ran (Err out_of_range) 0 entry) ks ps)
