-- Plumbing: the same machine over a list of values in place of kinds and payloads, which is what the crate `claim` reasons about.
-- proofs/Lends shows that the machine over lent pairs does the same.
use Rattle.std.specs.Prelude.{ℕ, zero, suc, cond, List, ltb, length, get_or, set, Err}
use Rattle.faults.specs.Numbers.{budget_spent, out_of_range}
use Rattle.faults.specs.Faults.{none}
use Rattle.value.specs.Value.{Datum, nil}
use Rattle.value.specs.Answer.{Answer, is, fault}
use Rattle.machine.specs.Step.{Next, go, put, stop, settle_of, word_effect}
use Rattle.machine.specs.Run.{ran}
use Rattle.machine.specs.declared.run.Ran.{Ran}

unfoldable pub value_at : List Datum → ℕ → Answer
value_at rs r = cond (ltb r (length rs)) (is (get_or rs r nil)) (fault out_of_range)

unfoldable pub next_of : List ℕ → List Datum → ℕ → List Datum → Next
next_of ws ss at rs = settle_of (length ws) (length rs) at (word_effect (value_at rs) (value_at ss) (get_or ws at 0))

pub data End : Type 0 where
  end : Ran → List Datum → End

module _ (ws : List ℕ) (ss : List Datum) where
  unfoldable pub values_from : ℕ → ℕ → ℕ → List Datum → End
  values_from zero s at rs = cond (ltb at (length ws)) (end (ran (Err budget_spent) s at) rs) (end (ran none s at) rs)
  values_from (suc n) s at rs =
      cond (ltb at (length ws))
      (elim (next_of ws ss at rs) [
        | go p ↦ values_from n (suc s) p rs
        | put p d v ↦ values_from n (suc s) p (set rs d v)
        | stop e ↦ end (ran (Err e) s at) rs
      ])
      (end (ran none s at) rs)
