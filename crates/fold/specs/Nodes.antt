-- Plumbing: what the contracts of `fold` say of a node of an accepted table, by the tree at it. The meaning is in Fold and Opcodes.
use Rattle.fold.specs.declared.How.{How}
use Rattle.std.specs.Prelude.{◌≡◌, Bool, false, cond, ◌&&◌, ◌⊎◌, List, ℕ, ◌<◌, ◌≤◌, leb, Option, Some, None}
use Rattle.table.specs.Table.{kind_at}
use Rattle.table.specs.Nodes.{Node, Child}
use Rattle.table.specs.Tree.{minus, not', arith, cmp, and, or, Tree, leaf, unary, binary, ternary, tree}
use Rattle.fold.specs.declared.Tail.{Tail}
use Rattle.fold.specs.Literal.{as_imm16}
use Rattle.fold.specs.Fold.{fold_of, minus_one, takes_shift, Picked, one, two, compare_pick}

-- ---- kinds, by their numbers

-- the six comparisons
abbrev pub is_comparison : ℕ → Bool
is_comparison k = leb 18 k && leb k 23

-- And and Or
abbrev pub is_junction : ℕ → Bool
is_junction k = leb 24 k && leb k 25

-- a unary operator, or a binary one that is no condition
pub record Operator (t : List ℕ) (i : ℕ) : Type 0 where
  pub base : ℕ
  pub node : Node t base i
  pub low : 5 < kind_at t i
  pub high : kind_at t i ≤ 17

pub record Comparison (t : List ℕ) (i : ℕ) : Type 0 where
  pub base : ℕ
  pub node : Node t base i
  pub low : 17 < kind_at t i
  pub high : kind_at t i ≤ 23

-- ---- what an operator takes in

unfoldable pub op_fold : Tree → Option Tail
op_fold (leaf l) = None
op_fold (unary minus a) = Some minus_one
op_fold (unary not' a) = Some Tail.Not
op_fold (binary (arith o) a b) = fold_of o a b
op_fold (binary (cmp c) a b) = None
op_fold (binary and a b) = None
op_fold (binary or a b) = None
op_fold (ternary c a b) = None

-- the first operand of a node; a leaf is its own
abbrev pub left_of : Tree → Tree
left_of (leaf l) = leaf l
left_of (unary o a) = a
left_of (binary o a b) = a
left_of (ternary c a b) = c

-- the operand that is left to an instruction with this tail
abbrev pub operand_of : Tail → Tree → Tree
operand_of tail t = cond (takes_shift tail) (left_of (left_of t)) (left_of t)

-- the node j holds that operand of node i
pub record Operand (t : List ℕ) (i : ℕ) (tail : Tail) (j : ℕ) : Type 0 where
  pub is : tree t j ≡ operand_of tail (tree t i)
  pub of : (base : ℕ) → Node t base i → Child t base i j

-- ---- what a branch takes in

-- a literal of a comparison; any other tree is tested whole, as a Bool
unfoldable pub pick_of : Tree → Bool → Picked Tree
pick_of (leaf l) sense = one (leaf l) (How.Bool sense)
pick_of (unary o a) sense = one (unary o a) (How.Bool sense)
pick_of (binary (arith o) a b) sense = one (binary (arith o) a b) (How.Bool sense)
pick_of (binary (cmp c) a b) sense = compare_pick c a b (as_imm16 a) (as_imm16 b) sense
pick_of (binary and a b) sense = one (binary and a b) (How.Bool sense)
pick_of (binary or a b) sense = one (binary or a b) (How.Bool sense)
pick_of (ternary c a b) sense = one (ternary c a b) (How.Bool sense)

-- the node whose value a branch on node i tests: a child, or the node itself, which then is no comparison
abbrev pub Tested : List ℕ → ℕ → ℕ → Type 0
Tested t i j = ((base : ℕ) → Node t base i → Child t base i j) ⊎ ((j ≡ i) × (is_comparison (kind_at t i) ≡ false))

-- the answer of the code, by nodes, is p, by trees
abbrev pub TestIs : List ℕ → ℕ → Option (ℕ × How) → Picked Tree → Type 0
TestIs t i (Some (j, how)) p = (p ≡ one (tree t j) how) × (Tested t i j)
TestIs t i None p = p ≡ two
