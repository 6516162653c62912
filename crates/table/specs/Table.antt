-- The node table, and what its check answers: nothing, or the first fault in the order of document 01.
use Rattle.std.specs.Prelude.{ℕ, zero, suc, ◌+◌, ◌*◌, ◌-◌, ◌/◌, ◌%◌, max, not, cond, ◌&&◌, List, leb, ltb, eqb, length, get_or, Option, Some, None, Err}
use Rattle.faults.specs.Faults.{Checked, none, fault, ◌or_else◌}
use Rattle.faults.specs.Limits.{max_nodes, max_depth, max_registers}
use Rattle.float.specs.Bits.{is_finite}
use Rattle.faults.specs.Numbers.{bad_shape, bad_node, too_deep, not_local, no_register}

-- ---- four words a node: kind, payload, first, depth

abbrev pub node_count : List ℕ → ℕ
node_count ws = length ws / 4

abbrev pub kind_at : List ℕ → ℕ → ℕ
kind_at ws i = get_or ws (4 * i) 0

abbrev pub payload_at : List ℕ → ℕ → ℕ
payload_at ws i = get_or ws (4 * i + 1) 0

abbrev pub first_at : List ℕ → ℕ → ℕ
first_at ws i = get_or ws (4 * i + 2) 0

abbrev pub depth_at : List ℕ → ℕ → ℕ
depth_at ws i = get_or ws (4 * i + 3) 0

-- ---- the children of node i, from the last one down: the last is i - 1, and the one before ends just before that one's first

abbrev pub child1 : List ℕ → ℕ → ℕ
child1 ws i = i - 1

abbrev pub child2 : List ℕ → ℕ → ℕ
child2 ws i = first_at ws (child1 ws i) - 1

abbrev pub child3 : List ℕ → ℕ → ℕ
child3 ws i = first_at ws (child2 ws i) - 1

-- ---- the layout: parameters and locals, whose sum is the base. Refs, the destination and lent locals are held against the base

-- where temporaries start: at the base, yet never in register 0, as the Rust's `Regs::new` has it
unfoldable pub temp_base_of : ℕ → ℕ
temp_base_of base = max base 1

-- ---- one node

-- how many children a kind has: none up to 5 (Ref), one up to 7 (Not), two up to 25 (Or), three for 26 (Ternary)
unfoldable pub arity : ℕ → ℕ
arity k = cond (leb k 5) 0 (cond (leb k 7) 1 (cond (leb k 25) 2 3))

-- the kind is known, the payload is 0 but for kinds 3 to 5, and a Float literal, kind 4, is finite
abbrev pub kind_fault : ℕ → ℕ → Checked
kind_fault k p =
    fault (ltb 26 k) bad_node
    or_else fault (not (eqb p 0) && not (leb 3 k && leb k 5)) bad_node
    or_else fault (eqb k 4 && not (is_finite p)) bad_node

-- the n children of which the last ends just before position e: that one is missing, or their lowest node and the greatest of d and their depths
unfoldable pub children : List ℕ → ℕ → ℕ → ℕ → Option (ℕ × ℕ)
children ws zero e d = Some (e, d)
children ws (suc n) zero d = None
children ws (suc n) (suc j) d = children ws n (first_at ws j) (max d (depth_at ws j))

-- the children of node i
abbrev pub span_at : List ℕ → ℕ → Option (ℕ × ℕ)
span_at ws i = children ws (arity (kind_at ws i)) i 0

-- no child is missing, `first` is the lowest node, and `depth` one more than the deepest child's
unfoldable pub span_fault : Option (ℕ × ℕ) → ℕ → ℕ → Checked
span_fault None f d = Err bad_node
span_fault (Some (e, g)) f d = fault (not (eqb f e)) bad_node or_else fault (not (eqb d (g + 1))) bad_node

-- the depth is within its limit, and a Ref below the base
abbrev pub limit_fault : ℕ → ℕ → ℕ → ℕ → Checked
limit_fault k p d base = fault (ltb max_depth d) too_deep or_else fault (eqb k 5 && leb base p) not_local

-- at each node 2, then 3, then 4
unfoldable pub node_fault : List ℕ → ℕ → ℕ → Checked
node_fault ws base i =
    kind_fault (kind_at ws i) (payload_at ws i)
    or_else span_fault (span_at ws i) (first_at ws i) (depth_at ws i)
    or_else limit_fault (kind_at ws i) (payload_at ws i) (depth_at ws i) base

-- the first fault of the nodes below n, from 0 upward
unfoldable pub nodes_fault : List ℕ → ℕ → ℕ → Checked
nodes_fault ws base zero = none
nodes_fault ws base (suc n) = nodes_fault ws base n or_else node_fault ws base n

-- ---- the whole: 1, layout 5, destination 4, the nodes, the last node's first

unfoldable pub shape_fault : List ℕ → Checked
shape_fault ws =
    fault (eqb (length ws) 0) bad_shape
    or_else fault (not (eqb (length ws % 4) 0)) bad_shape
    or_else fault (ltb max_nodes (node_count ws)) bad_shape

unfoldable pub layout_fault : ℕ → ℕ → Checked
layout_fault params locals = fault (ltb max_registers (params + locals)) no_register

unfoldable pub dest_fault : Option ℕ → ℕ → Checked
dest_fault None base = none
dest_fault (Some r) base = fault (leb base r) not_local

unfoldable pub last_fault : List ℕ → Checked
last_fault ws = fault (not (eqb (first_at ws (node_count ws - 1)) 0)) bad_node

unfoldable pub check_of : List ℕ → ℕ → ℕ → Option ℕ → Checked
check_of ws params locals dest =
    shape_fault ws
    or_else layout_fault params locals
    or_else dest_fault dest (params + locals)
    or_else nodes_fault ws (params + locals) (node_count ws)
    or_else last_fault ws
