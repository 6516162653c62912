-- `compare` meets its contract: two numbers, or any other two values.
use Rattle.std.proofs.Common.{sym, ap, ◌∙◌}
use Rattle.value.specs.Seen.{shown}
use Rattle.ops.specs.Compare.{compare_others}
use Rattle.ops.proofs.compare.Laws.{compare-yes, compare-left, compare-right}
use Rattle.ops.proofs.compare.compare.Goals as goal
use Rattle.ops.proofs.compare.compare.Goals.{in_default-via-in-Some+in_default, in_default-via-in_default}

pub returns-in-Some-Some : goal.returns-in-Some-Some
returns-in-Some-Some c = compare-yes _ _ _ c.in-Some-Some.x c.in-Some-Some.y c.in-Some-Some.ensures c.in-Some-Some.ensures' c.compare_numbers.ensures

pub returns-in_default : goal.returns-in_default
returns-in_default c =
    let others = c.compare_others.ensures ∙ ap (compare_others c.args.op) c.same.ensures in
    elim c.in_default.branch [
      | in_default-via-in-Some+in_default w ↦ compare-right _ _ _ (sym (ap shown w.in_default.is-1) ∙ c.number_of-2.ensures) others
      | in_default-via-in_default w ↦ compare-left _ _ _ (sym (ap shown w.in_default.is-0) ∙ c.number_of.ensures) others
    ]
