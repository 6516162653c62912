-- A byte in a list of bytes.
use Rattle.std.specs.Prelude.{ℕ, suc, cond, List, [], ◌∷◌, eqb}

-- how many bytes stand before the first b; the list's length where there is none
unfoldable pub index_of : ℕ → List ℕ → ℕ
index_of b [] = 0
index_of b (c ∷ s) = cond (eqb c b) 0 (suc (index_of b s))
