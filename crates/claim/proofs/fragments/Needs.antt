-- How much a tree takes at most, by its parts: a node adds 4 words and two registers to what its operands take.
use Prim.Native.Nat.{ℕ, ◌+◌, ◌*◌, ◌≤◌, max}
use native.Mathlib.Omega.{arith}
use Rattle.table.specs.Tree.{Leaf, nil, yep, nope, int, float, ref, Tree, leaf, unary, binary, ternary, size, depth}
use Rattle.claim.specs.Refusals.{Amounts}

pub record Within (u x : Amounts) : Type 0 where
  pub registers : u.registers ≤ x.registers
  pub slots : u.slots ≤ x.slots
  pub words : u.words ≤ x.words
  pub places : u.places ≤ x.places

-- two operands, one after the other
abbrev pub both : Amounts → Amounts → Amounts
both u v =
    record {
      registers = max u.registers v.registers;
      slots = u.slots + v.slots;
      words = u.words + v.words;
      places = u.places + v.places;
    }

-- the arms of a ternary: the jumps of the first are patched before the second is made
abbrev pub arms : Amounts → Amounts → Amounts
arms u v =
    record {
      registers = max u.registers v.registers;
      slots = u.slots + v.slots;
      words = u.words + v.words;
      places = max u.places v.places;
    }

-- both sides of a comparison: the left one keeps its register
abbrev pub pair : Amounts → Amounts → Amounts
pair u v =
    record {
      registers = max u.registers v.registers + 1;
      slots = u.slots + v.slots;
      words = u.words + v.words;
      places = u.places + v.places;
    }

-- a branch made a value
abbrev pub as_value : Amounts → Amounts
as_value u = record { registers = u.registers + 1; slots = u.slots; words = u.words + 4; places = u.places }

abbrev pub node : Amounts → Amounts
node u = record { registers = u.registers + 2; slots = u.slots; words = u.words + 4; places = u.places }

-- 1 for a literal
abbrev pub leaf_slots : Leaf → ℕ
leaf_slots nil = 0
leaf_slots yep = 0
leaf_slots nope = 0
leaf_slots (int z) = 1
leaf_slots (float p) = 1
leaf_slots (ref r) = 0

unfoldable pub needs : Tree → Amounts
needs (leaf l) = record { registers = 2; slots = leaf_slots l; words = 4; places = 1 }
needs (unary o a) = node (needs a)
needs (binary o a b) = node (both (needs a) (needs b))
needs (ternary c a b) = node (both (needs c) (arms (needs a) (needs b)))

-- by the size and the depth
pub record Closed (t : Tree) : Type 0 where
  pub registers : (needs t).registers ≤ 2 * depth t
  pub words : (needs t).words ≤ 4 * size t
  pub some : 1 ≤ (needs t).places
  pub places : 2 * (needs t).places ≤ size t + 1

pub closed : (t : Tree) → Closed t
unfolding needs size depth
closed (leaf l) = record { registers = omega arith; words = omega arith; some = omega arith; places = omega arith }
closed (unary o a) =
    let x = closed a in
    record { registers = omega arith; words = omega arith; some = omega arith; places = omega arith }
closed (binary o a b) =
    let x = closed a in
    let y = closed b in
    record { registers = omega arith; words = omega arith; some = omega arith; places = omega arith }
closed (ternary c a b) =
    let x = closed c in
    let y = closed a in
    let z = closed b in
    record { registers = omega arith; words = omega arith; some = omega arith; places = omega arith }
