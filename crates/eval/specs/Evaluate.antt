-- The evaluation of a node table on lent locals: the first fault that refuses it, or the meaning of the tree at the last node.
use Rattle.std.specs.Prelude.{ℕ, ◌+◌, ◌-◌, min, not, List, ltb, length, take, None, Ok, Err}
use Rattle.faults.specs.Faults.{Checked, fault, ◌or_else◌}
use Rattle.faults.specs.Numbers.{out_of_range, ill_formed}
use Rattle.table.specs.Table.{node_count, check_of}
use Rattle.table.specs.Tree.{tree}
use Rattle.value.specs.Value.{all_well, datums}
use Rattle.value.specs.Answer.{Answer, fault as faulted}
use Rattle.eval.specs.Eval.{eval_of}

-- the locals are lent as pairs in two lists, of which the shorter counts; only the first `base` are looked at

-- fewer than the base are 26, then an ill-formed one is 29
unfoldable pub locals_fault : ℕ → List ℕ → List ℕ → Checked
locals_fault base ks ps =
    fault (ltb (min (length ks) (length ps)) base) out_of_range
    or_else fault (not (all_well (take base ks) (take base ps))) ill_formed

-- a fault refuses
unfoldable pub unless : Checked → Answer → Answer
unless (Ok done) r = r
unless (Err f) r = faulted f

unfoldable pub evaluate_of : List ℕ → ℕ → ℕ → List ℕ → List ℕ → Answer
evaluate_of ws params locals ks ps =
    unless
    (check_of ws params locals None or_else locals_fault (params + locals) ks ps)
    (eval_of (datums (take (params + locals) ks) (take (params + locals) ps)) (tree ws (node_count ws - 1)))
