-- What `evaluate` has to show at each of its returns and calls.
use Rattle.std.specs.Prelude.{None, Err}
use Rattle.faults.specs.declared.Fault.{Fault}
use mathlib.Core.Path.{◌≡◌, sym, ◌∙◌}
use mathlib.Core.Bool.{Bool, true, false}
use mathlib.Core.List.{List}
use Prim.Native.Nat.{ℕ, ◌+◌, ◌-◌, ◌/◌, ◌≤◌, ◌<◌, min}
use native.Mathlib.Omega.{arith}
use lib.ListN.{length, take, length-take}
use mir.Syntax.{w64}
use mir.Val.{Fits}
use borrow.Author.Tests.{lt-ltb, le-ltb}
use Rattle.faults.specs.Faults.{Checked, none, fault, ◌or_else◌}
use Rattle.faults.specs.Numbers.{out_of_range, ill_formed}
use Rattle.faults.proofs.Faults.{second, stop}
use Rattle.table.specs.Table.{node_count, check_of}
use Rattle.table.specs.Nodes.{Node}
use Rattle.table.specs.Tree.{tree}
use Rattle.table.specs.Accepted.{Accepted}
use Rattle.table.proofs.Whole.{accepted}
use Rattle.value.specs.Value.{all_well, datums}
use Rattle.value.specs.Answer.{Answer, fault as faulted}
use Rattle.eval.specs.Eval.{eval_of}
use Rattle.eval.specs.Evaluate.{locals_fault, unless, evaluate_of}
use Rattle.eval.specs.Steps.{Lends}

-- the first n of each of two lists, neither of which is shorter
module _ (n : ℕ) (ks ps : List ℕ) {m : ℕ} (f : m ≡ min (length ks) (length ps)) (h : n ≤ m) where
  pub in_kinds : n ≡ length (take n ks)
  in_kinds = rw length-take (omega arith)

  pub in_payloads : n ≡ length (take n ps)
  in_payloads = rw length-take (omega arith)

module _ (ws : List ℕ) (params locals : ℕ) {n : Checked} (e : n ≡ check_of ws params locals None) where
  pub table-refused : (ks ps : List ℕ) {f : Fault} → n ≡ Err f → faulted f ≡ evaluate_of ws params locals ks ps
  unfolding evaluate_of unless
  table-refused ks ps h = rw (← stop _ e h, h)

  module _ (z : n ≡ none) where
    whole : Accepted ws params locals
    whole = accepted ws params locals None (sym e ∙ z)

    pub base-fits : Fits w64 (params + locals)
    base-fits = let a = whole in omega arith

    pub last-node : 1 ≤ length ws / 4
    last-node = let a = whole in omega arith

    module _ (ks ps : List ℕ) {m : ℕ} (f : m ≡ min (length ks) (length ps)) where
      pub too_few : m < params + locals → faulted out_of_range ≡ evaluate_of ws params locals ks ps
      unfolding evaluate_of locals_fault unless fault ◌or_else◌
      too_few h = let g : min (length ks) (length ps) < params + locals = omega arith in rw (second _ _ (sym e ∙ z), lt-ltb _ _ g)

      module _ (h : params + locals ≤ m) where
        enough : params + locals ≤ min (length ks) (length ps)
        enough = omega arith

        module _ {b : Bool} (w : b ≡ all_well (take (params + locals) ks) (take (params + locals) ps)) where
          pub ill-formed : b ≡ false → faulted ill_formed ≡ evaluate_of ws params locals ks ps
          unfolding evaluate_of locals_fault unless fault ◌or_else◌
          ill-formed t = rw (second _ _ (sym e ∙ z), le-ltb _ _ enough, ← w, t)

          module _ (t : b ≡ true) where
            pub root : Node ws (length (take (params + locals) ks)) (node_count ws - 1)
            root = rw (← in_kinds (params + locals) ks ps f h) whole.root

            pub lends : Lends (take (params + locals) ks) (take (params + locals) ps)
            lends = record { even = sym (in_kinds (params + locals) ks ps f h) ∙ in_payloads (params + locals) ks ps f h; wells = sym w ∙ t }

            pub evaluated : {r : Answer} → r ≡ eval_of (datums (take (params + locals) ks) (take (params + locals) ps)) (tree ws (node_count ws - 1)) → r ≡ evaluate_of ws params locals ks ps
            unfolding evaluate_of locals_fault unless fault ◌or_else◌
            evaluated q = rw (second _ _ (sym e ∙ z), le-ltb _ _ enough, ← w, t) q

pub ruleset entry = (table-refused, base-fits, last-node, too_few, in_kinds, in_payloads, ill-formed, root, lends, evaluated)
