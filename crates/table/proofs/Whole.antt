-- What it says of the whole table that the check finds no fault.
use Rattle.std.specs.Prelude.{Option, Some, Ok}
use mathlib.Core.Path.{◌≡◌, sym, ◌∙◌}
use mathlib.Core.List.{List}
use Prim.Native.Nat.{ℕ, ◌+◌, ◌-◌, ◌%◌, ◌≤◌, ◌<◌}
use native.Mathlib.Omega.{arith}
use lib.ListN.{length}
use mir.Syntax.{w64}
use mir.Val.{Fits}
use borrow.Author.Tests.{leb-false, ltb-false, eqb-true, eqb-false, not-false}
use borrow.Author.Rules.{rules}
use Rattle.faults.specs.Faults.{Checked, none}
use Rattle.faults.specs.Numbers.{bad_shape, bad_node, not_local, no_register}
use Rattle.faults.specs.Limits.{max_nodes, max_registers}
use Rattle.table.specs.Table.{node_count, first_at, shape_fault, layout_fault, dest_fault, last_fault, check_of}
use Rattle.table.specs.Nodes.{Node}
use Rattle.table.specs.Accepted.{Accepted}
use Rattle.faults.proofs.Faults.{none_both, failed, stopped, pass}
use Rattle.table.proofs.Nodes.{ok}
use Rattle.table.proofs.Held.{subtree}

pub record Shaped (ws : List ℕ) : Type 0 where
  pub some : 0 < node_count ws
  pub few : node_count ws ≤ max_nodes

pub shape-ok : (ws : List ℕ) → shape_fault ws ≡ Ok tt → Shaped ws
unfolding shape_fault
shape-ok ws h =
    let p = none_both _ _ h in
    let q = none_both _ _ p.1 in
    let n : length ws ≡ 0 → ⊥ = eqb-false _ _ (failed _ bad_shape p.0) in
    let r : length ws % 4 ≡ 0 = eqb-true _ _ (not-false _ (failed _ bad_shape q.0)) in
    let few : node_count ws ≤ max_nodes = ltb-false _ _ (failed _ bad_shape q.1) in
    record { some = omega arith; few = few }

pub layout-ok : (params locals : ℕ) → layout_fault params locals ≡ Ok tt → params + locals ≤ max_registers
unfolding layout_fault
layout-ok params locals h = ltb-false _ _ (failed _ no_register h)

-- the same for `search`, at what `check` asks
pub base-fits : (params locals : ℕ) {l : Checked} → l ≡ layout_fault params locals → l ≡ none → Fits w64 (params + locals)
base-fits params locals e z = let h = layout-ok params locals (sym e ∙ z) in omega arith

pub some-node : (ws : List ℕ) {s : Checked} → s ≡ shape_fault ws → s ≡ none → 0 < node_count ws
some-node ws e z = (shape-ok ws (sym e ∙ z)).some

pub ruleset checks = (stopped, pass, base-fits, some-node, rules)

-- an accepted table holds exactly one tree, of all its nodes, and each node its subtree
pub accepted : (ws : List ℕ) (params locals : ℕ) (dest : Option ℕ) → check_of ws params locals dest ≡ Ok tt → Accepted ws params locals
unfolding check_of last_fault
accepted ws params locals dest h =
    let p = none_both _ _ h in
    let q = none_both _ _ p.1 in
    let r = none_both _ _ q.1 in
    let s = none_both _ _ r.1 in
    let base = params + locals in
    let sh = shape-ok ws p.0 in
    let n : Node ws (params + locals) (node_count ws - 1) = record { checked = s.0; inside = omega arith } in
    let z : first_at ws (node_count ws - 1) ≡ 0 = eqb-true _ _ (not-false _ (failed _ bad_node s.1)) in
    let o = ok ws base _ n in
    let t = subtree ws base _ n in
    record {
      layout = layout-ok params locals q.0;
      some = sh.some;
      few = sh.few;
      root = n;
      each = λ i l. subtree ws base i (record { checked = s.0; inside = l });
      whole = omega arith;
      shallow = omega arith;
      refs = t.refs;
    }

-- and its destination, where there is one, is below the base
pub dest-below : (ws : List ℕ) (params locals r : ℕ) → check_of ws params locals (Some r) ≡ Ok tt → r < params + locals
unfolding check_of dest_fault
dest-below ws params locals r h =
    let p = none_both _ _ h in
    let q = none_both _ _ p.1 in
    leb-false _ _ (failed _ not_local (none_both _ _ q.1).0)
