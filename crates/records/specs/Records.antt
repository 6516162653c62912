-- A table of node records, with the answers of the word table that has the same nodes. The caller lends room for its words.
use Rattle.std.specs.Prelude.{ℕ, ◌*◌, ◌/◌, min, List, [], ◌∷◌, ◌++◌, ltb, length, drop, Option, Ok, Err}
use Rattle.faults.specs.Faults.{Checked, fault, ◌or_else◌}
use Rattle.faults.specs.Limits.{max_nodes}
use Rattle.faults.specs.Numbers.{bad_shape, no_room}
use Rattle.table.specs.Table.{check_of}
use Rattle.value.specs.Answer.{Answer}
use Rattle.eval.specs.Evaluate.{unless, evaluate_of}
use Rattle.emit.specs.State.{Res, State}
use Rattle.compile.specs.Compile.{accepted, compile_of}
use Rattle.records.specs.declared.Node.{Node}

-- the words of a record: kind, payload, first, depth
abbrev pub words_of : Node → List ℕ
words_of d = d.kind ∷ d.payload ∷ d.first ∷ d.depth ∷ []

-- the words of a table of records
unfoldable pub flat : List Node → List ℕ
flat [] = []
flat (d ∷ ds) = d.kind ∷ d.payload ∷ d.first ∷ d.depth ∷ flat ds

-- so many records into so many words: 1 where they are too many for a table, as the word table's check says, then 7 where the words have no room for them
unfoldable pub room_fault : ℕ → ℕ → Checked
room_fault nodes words = fault (ltb max_nodes nodes) bad_shape or_else fault (ltb (words / 4) nodes) no_room

-- the words lent, at the end: the records' words, and what stood after them; as they were where the records are refused
unfoldable pub holding : Checked → List ℕ → List ℕ → List ℕ
holding (Ok t) new old = new
holding (Err f) new old = old

unfoldable pub flattened : List Node → List ℕ → List ℕ
flattened ds ws = holding (room_fault (length ds) (length ws)) (flat ds ++ drop (4 * length ds) ws) ws

-- the check of a table of records, with so many words lent
unfoldable pub check_nodes : List Node → ℕ → ℕ → ℕ → Option ℕ → Checked
check_nodes ds words params locals dest = room_fault (length ds) words or_else check_of (flat ds) params locals dest

-- the answer of a table of records, with so many words lent
unfoldable pub evaluate_nodes : List Node → ℕ → ℕ → ℕ → List ℕ → List ℕ → Answer
evaluate_nodes ds words params locals ks ps = unless (room_fault (length ds) words) (evaluate_of (flat ds) params locals ks ps)

-- what a table of records compiles to, with so many words lent, and the room that a compile asks for
unfoldable pub compile_nodes : List Node → ℕ → ℕ → ℕ → Option ℕ → ℕ → ℕ → ℕ → Res (ℕ × State)
compile_nodes ds words params locals dest c k p =
    accepted (room_fault (length ds) words) (compile_of (flat ds) params locals dest max_nodes c (min k p))
