-- The returns of the check's parts, each a law over plain values that `search parts` finds.
use Rattle.std.specs.Prelude.{Option, Some, None, Err}
use mathlib.Core.Path.{◌≡◌}
use mathlib.Core.Bool.{true, false}
use mathlib.Core.List.{List}
use Prim.Native.Nat.{ℕ, ◌+◌, ◌-◌, ◌≤◌, ◌<◌}
use native.Mathlib.Omega.{arith}
use lib.Dec.{eqb}
use borrow.Author.Tests.{le-leb, lt-leb, lt-ltb, le-ltb, eq-eqb, ne_eqb}
use Rattle.faults.specs.Faults.{none, fault, ◌or_else◌}
use Rattle.faults.specs.Limits.{max_registers}
use Rattle.faults.specs.Numbers.{bad_node, not_local, no_register}
use Rattle.table.specs.Table.{node_count, first_at, span_fault, layout_fault, dest_fault, last_fault}

-- ---- `span_fault`: a depth is one more than the children's, which the code tests from below

zero-off : (d g : ℕ) → d ≡ 0 → eqb d (g + 1) ≡ false
zero-off d g e = ne_eqb d (g + 1) (λ h. omega arith)

one-off : (d g : ℕ) → (d - 1 ≡ g → ⊥) → eqb d (g + 1) ≡ false
one-off d g n = ne_eqb d (g + 1) (λ h. n (omega arith))

one_on : (d g : ℕ) → (d ≡ 0 → ⊥) → d - 1 ≡ g → eqb d (g + 1) ≡ true
one_on d g n e = eq-eqb d (g + 1) (omega arith)

module _ {s : Option (ℕ × ℕ)} (f d : ℕ) where
  pub span-missing : s ≡ None → Err bad_node ≡ span_fault s f d
  unfolding span_fault
  span-missing q = rw q

  module _ {e g : ℕ} (q : s ≡ Some (e, g)) where
    pub span-first : (f ≡ e → ⊥) → Err bad_node ≡ span_fault s f d
    unfolding span_fault fault ◌or_else◌
    span-first h = rw (q, ne_eqb f e h)

    module _ (h : f ≡ e) where
      pub span-flat : d ≡ 0 → Err bad_node ≡ span_fault s f d
      unfolding span_fault fault ◌or_else◌
      span-flat z = rw (q, eq-eqb f e h, zero-off d g z)

      module _ (n : d ≡ 0 → ⊥) where
        pub span-depth : (d - 1 ≡ g → ⊥) → Err bad_node ≡ span_fault s f d
        unfolding span_fault fault ◌or_else◌
        span-depth o = rw (q, eq-eqb f e h, one-off d g o)

        pub span_right : d - 1 ≡ g → none ≡ span_fault s f d
        unfolding span_fault fault ◌or_else◌
        span_right o = rw (q, eq-eqb f e h, one_on d g n o)

-- ---- `layout_fault`, which never adds before it is safe to

module _ (params locals : ℕ) where
  pub layout-params : max_registers < params → Err no_register ≡ layout_fault params locals
  unfolding layout_fault fault
  layout-params h = rw (lt-ltb max_registers (params + locals) (omega arith))

  pub layout-locals : max_registers - params < locals → Err no_register ≡ layout_fault params locals
  unfolding layout_fault fault
  layout-locals h = rw (lt-ltb max_registers (params + locals) (omega arith))

  pub layout-right : params ≤ max_registers → locals ≤ max_registers - params → none ≡ layout_fault params locals
  unfolding layout_fault fault
  layout-right g h = rw (le-ltb max_registers (params + locals) (omega arith))

-- ---- `dest_fault`

module _ {dest : Option ℕ} (base : ℕ) where
  pub dest-none : dest ≡ None → none ≡ dest_fault dest base
  unfolding dest_fault
  dest-none e = rw e

  pub dest-high : {r : ℕ} → dest ≡ Some r → base ≤ r → Err not_local ≡ dest_fault dest base
  unfolding dest_fault fault
  dest-high {r} e h = rw (e, le-leb base r h)

  pub dest-low : {r : ℕ} → dest ≡ Some r → r < base → none ≡ dest_fault dest base
  unfolding dest_fault fault
  dest-low {r} e h = rw (e, lt-leb base r h)

-- ---- `last_fault`

module _ (ws : List ℕ) {r : ℕ} (e : r ≡ first_at ws (node_count ws - 1)) where
  pub last_off : (r ≡ 0 → ⊥) → Err bad_node ≡ last_fault ws
  unfolding last_fault fault
  last_off h = rw (← e, ne_eqb r 0 h)

  pub last_on : r ≡ 0 → none ≡ last_fault ws
  unfolding last_fault fault
  last_on h = rw (← e, eq-eqb r 0 h)

pub ruleset parts = (span-missing, span-first, span-flat, span-depth, span_right, layout-params, layout-locals, layout-right, dest-none, dest-high, dest-low, last_off, last_on)
