-- Where the value of an accepted table stands, and that the frame has it.
use Rattle.std.specs.Prelude.{Option, Some, None}
use Rattle.fold.specs.declared.Tail.{Tail}
use mathlib.Core.Path.{◌≡◌, refl, subst}
use mathlib.Core.Bool.{Bool, true, false}
use mathlib.Core.List.{List, []}
use Prim.Native.Nat.{ℕ, ◌+◌, ◌-◌, ◌≤◌, ◌<◌, max}
use native.Mathlib.Omega.{arith as linear}
use lib.IntN.{ℤ}
use Rattle.table.specs.Table.{node_count, temp_base_of}
use Rattle.table.specs.Tree.{Tree, leaf, unary, binary, ternary, Leaf, nil, yep, nope, int, float, ref, minus, not', arith, cmp, and, or, tree, RefsBelow}
use Rattle.table.specs.Tree as Tree
use Rattle.insns.specs.declared.op.Three.{Three}
use Rattle.fold.specs.Literal.{fits_imm40}
use Rattle.fold.specs.Fold.{fold_of}
use Rattle.fold.specs.Opcodes.{three_of}
use Rattle.emit.specs.State.{State}
use Rattle.claim.specs.Claim.{Accepted, Placed, home_of, register_of}
use Rattle.claim.proofs.fragments.Frag.{Vf, ValueF, int_f, arith_f, frag}
use Rattle.claim.proofs.Known.{DestLow, low-more, whole, checked, known}

-- a fragment's register, and that it is below what the fragment reaches
record At (n home : ℕ) (F : Vf) : Type 0 where
  home-is : F.reg ≡ home
  below : F.reg < max n F.need

int_at : (b : Bool) (z : ℤ) (n : ℕ) → At n n (int_f b z None n [])
int_at true z n = record { home-is = refl; below = omega linear }
int_at false z n = record { home-is = refl; below = omega linear }

arith-at : (f : Option Tail) (o : Three) (a first b : ValueF) (n : ℕ) → At n n (arith_f f o a first b None n [])
arith-at (Some tail) o a first b n = record { home-is = refl; below = omega linear }
arith-at None o a first b n = record { home-is = refl; below = omega linear }

tree-at : (t : Tree) (base n : ℕ) → RefsBelow base t → base ≤ n → At n (home_of t n) ((frag t).value None n [])
unfolding frag RefsBelow Tree.RefBelow
tree-at (leaf nil) base n h up = record { home-is = refl; below = omega linear }
tree-at (leaf yep) base n h up = record { home-is = refl; below = omega linear }
tree-at (leaf nope) base n h up = record { home-is = refl; below = omega linear }
tree-at (leaf (int z)) base n h up = int_at (fits_imm40 z) z n
tree-at (leaf (float p)) base n h up = record { home-is = refl; below = omega linear }
tree-at (leaf (ref r)) base n h up = record { home-is = refl; below = omega (linear, h) }
tree-at (unary minus a) base n h up = record { home-is = refl; below = omega linear }
tree-at (unary not' a) base n h up = record { home-is = refl; below = omega linear }
tree-at (binary (arith o) a b) base n h up = arith-at (fold_of o a b) (three_of o) (frag a).value (frag a).first (frag b).value n
tree-at (binary (cmp c) a b) base n h up = record { home-is = refl; below = omega linear }
tree-at (binary and a b) base n h up = record { home-is = refl; below = omega linear }
tree-at (binary or a b) base n h up = record { home-is = refl; below = omega linear }
tree-at (ternary c a b) base n h up = record { home-is = refl; below = omega linear }

whole-at : (t : Tree) (dest : Option ℕ) (base n : ℕ) → RefsBelow base t → base ≤ n → DestLow dest n → At n (register_of dest t n) (whole t dest n)
whole-at t None base n h up low = tree-at t base n h up
whole-at t (Some d) base n h up low = record { home-is = refl; below = omega (linear, low) }

-- The register is the destination, a lone Ref's own, or the first temporary, and the frame, which is at least the base, has it.
pub placed :
    (ws : List ℕ) (params locals : ℕ) (dest : Option ℕ) (r : ℕ) (s : State) → Accepted ws params locals dest r s →
    Placed dest (tree ws (node_count ws - 1)) (temp_base_of (params + locals)) r s
unfolding temp_base_of
placed ws params locals dest r s a =
    let k = known ws params locals dest r s a in
    let c = checked ws params locals dest k.check in
    let n = temp_base_of (params + locals) in
    let t = tree ws (node_count ws - 1) in
    let up : params + locals ≤ n = omega linear in
    let w = whole-at t dest (params + locals) n c.refs up (low-more dest up c.low) in
    subst (λ (x : ℕ × State). Placed dest t n x.0 x.1) k.is
    (record { frame = omega linear; inside = w.below; place = w.home-is })
