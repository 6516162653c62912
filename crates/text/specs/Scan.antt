-- Plumbing: where a field begins or ends, which is how the code finds it.
use Rattle.std.specs.Prelude.{ℕ, suc, Bool, cond, List, [], ◌∷◌}
use Rattle.std.specs.Bool.{beq}
use Rattle.text.specs.Fields.{is_blank}

-- how many bytes stand before the first that is blank, or is not, as asked
unfoldable pub lead : Bool → List ℕ → ℕ
lead blank [] = 0
lead blank (b ∷ s) = cond (beq (is_blank b) blank) 0 (suc (lead blank s))
