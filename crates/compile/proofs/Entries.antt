-- What the proofs of `generate`, `compile` and `compile_with` cite: what a checked table gives, from the root's answer.
use Rattle.std.specs.Prelude.{Option, Some, None, Result, Ok, Err}
use Rattle.faults.specs.declared.Fault.{Fault}
use mathlib.Core.Path.{◌≡◌, sym, ap, subst, ◌∙◌}
use mathlib.Core.List.{List}
use Prim.Native.Nat.{ℕ, ◌+◌, ◌*◌, ◌-◌, ◌<◌, ◌≤◌}
use native.Mathlib.Omega.{arith}
use Rattle.faults.specs.Limits.{max_nodes, max_registers}
use Rattle.table.specs.Table.{node_count, temp_base_of, check_of}
use Rattle.table.specs.Tree.{Tree, tree, size}
use Rattle.table.proofs.Whole.{accepted as accepted-table, dest-below}
use Rattle.compile.specs.declared.buffers.Compiled.{Compiled}
use Rattle.emit.specs.declared.state.St.{St}
use Rattle.emit.specs.State.{Res, done, fail, State}
use Rattle.emit.specs.Read.{Bufs, st_of, read, Says}
use Rattle.codegen.specs.Gen.{gen}
use Rattle.compile.specs.Compile.{start, dst_of, root_d, generated, compile_of}
use Rattle.compile.specs.Buffers.{Compiles}
use Rattle.compile.specs.Parts.{Root, IsRegister}
use Rattle.codegen.proofs.Room.{same-room, into-same}

-- ---- a checked table

module _ (ws : List ℕ) (params locals : ℕ) where
  pub checked-root : (dest : Option ℕ) → check_of ws params locals dest ≡ Ok tt → Root ws
  checked-root dest h = let a = accepted-table ws params locals dest h in record { base = params + locals; node = a.root; low = a.layout }

  pub checked-layout : (dest : Option ℕ) → check_of ws params locals dest ≡ Ok tt → params + locals ≤ max_registers
  checked-layout dest h = (accepted-table ws params locals dest h).layout

  pub checked-dest : (dest : Option ℕ) → check_of ws params locals dest ≡ Ok tt → IsRegister dest
  checked-dest None h = tt
  checked-dest (Some r) h = let a = (accepted-table ws params locals (Some r) h).layout in let b = dest-below ws params locals r h in omega arith

pub ruleset checked = (checked-root, checked-layout, checked-dest)

-- a list for every accepted table
pub few-enough : (ws : List ℕ) (params locals : ℕ) (dest : Option ℕ) → check_of ws params locals dest ≡ Ok tt → node_count ws ≤ max_nodes
few-enough ws params locals dest h = (accepted-table ws params locals dest h).few

-- ---- what is left behind is what the definition says

pub lengths : {q : Result Compiled Fault} {g : Res (ℕ × State)} {c k p : List ℕ} {lc lc' lk lk' lp lp' : ℕ} → lc ≡ lc' → lk ≡ lk' → lp ≡ lp' → Compiles q g c k p lc lk lp → Compiles q g c k p lc' lk' lp'
lengths a b d h = rw (← a, ← b, ← d) h

module _ {b : Bufs} {x : Result (ℕ × St) Fault} {g : Res (ℕ × State)} (says : Says b x g) {q : Result Compiled Fault} {c k p : List ℕ} {lc lk lp : ℕ} where
  pub generated-done : {r : ℕ} {s : St} → x ≡ Ok (r, s) → Compiles q (done (r, st_of b s)) c k p lc lk lp → Compiles q g c k p lc lk lp
  generated-done e h = subst (λ (y : Res (ℕ × State)). Compiles q y c k p lc lk lp) (ap (read b) (sym e) ∙ says.is) h

  pub generated-refused : {n : Fault} → x ≡ Err n → Compiles q (fail n) c k p lc lk lp → Compiles q g c k p lc lk lp
  generated-refused e h = subst (λ (y : Res (ℕ × State)). Compiles q y c k p lc lk lp) (ap (read b) (sym e) ∙ says.is) h

-- the root's answer is the definition's
pub root-generated : (tr : Tree) (dest : Option ℕ) (base room cap slot_cap : ℕ) {b : ℕ} {dst : Option ℕ} → dst ≡ dst_of dest → b ≡ temp_base_of base →
    root_d (gen tr).value dst room (start cap slot_cap b) ≡ generated tr dest base room cap slot_cap
unfolding generated
root-generated tr dest base room cap slot_cap {b} e i =
    ap (λ (d : Option ℕ). root_d (gen tr).value d room (start cap slot_cap b)) e
    ∙ ap (λ (x : ℕ). root_d (gen tr).value (dst_of dest) room (start cap slot_cap x)) i

-- ---- a jump list that does not run out

same-generated : (tr : Tree) (dest : Option ℕ) (base r r' cap slot_cap : ℕ) → size tr ≤ 2 * r → size tr ≤ 2 * r' → generated tr dest base r cap slot_cap ≡ generated tr dest base r' cap slot_cap
unfolding generated root_d
same-generated tr None base r r' cap slot_cap h k = (same-room tr r r' h k).value None (start cap slot_cap (temp_base_of base))
same-generated tr (Some d) base r r' cap slot_cap h k =
    into-same (gen tr).value d r r' (start cap slot_cap (temp_base_of base)) ((same-room tr r r' h k).value (Some d) (start cap slot_cap (temp_base_of base)))

-- with room for half the nodes
pub enough : (ws : List ℕ) (params locals : ℕ) (dest : Option ℕ) (room cap slot_cap : ℕ) → check_of ws params locals dest ≡ Ok tt → node_count ws ≤ 2 * room →
    generated (tree ws (node_count ws - 1)) dest (params + locals) room cap slot_cap ≡ generated (tree ws (node_count ws - 1)) dest (params + locals) max_nodes cap slot_cap
enough ws params locals dest room cap slot_cap h n =
    let a = accepted-table ws params locals dest h in
    let w = a.whole in
    let f = a.few in
    same-generated (tree ws (node_count ws - 1)) dest (params + locals) room max_nodes cap slot_cap (omega arith) (omega arith)

pub compiles-by : {q : Result Compiled Fault} {g g' : Res (ℕ × State)} {c k p : List ℕ} {lc lk lp : ℕ} → g ≡ g' → Compiles q g c k p lc lk lp → Compiles q g' c k p lc lk lp
compiles-by {q} {c = c} {k = k} {p = p} {lc = lc} {lk = lk} {lp = lp} e h = subst (λ (y : Res (ℕ × State)). Compiles q y c k p lc lk lp) e h

-- a list for half the nodes gives what a list for all of them gives
module _ (ws : List ℕ) (params locals : ℕ) (dest : Option ℕ) (cap slot_cap : ℕ) {lc lk lp : ℕ} {q : Result Compiled Fault} {c k p : List ℕ} where
  pub enough-places : (places : ℕ) → check_of ws params locals dest ≡ Ok tt → node_count ws ≤ 2 * places → Compiles q (generated (tree ws (node_count ws - 1)) dest (params + locals) places cap slot_cap) c k p lc lk lp →
      Compiles q (generated (tree ws (node_count ws - 1)) dest (params + locals) max_nodes cap slot_cap) c k p lc lk lp
  enough-places places h few m = compiles-by (enough ws params locals dest places cap slot_cap h few) m

  pub places-for-all : (places : ℕ) → check_of ws params locals dest ≡ Ok tt → max_nodes ≤ 2 * places → Compiles q (generated (tree ws (node_count ws - 1)) dest (params + locals) places cap slot_cap) c k p lc lk lp →
      Compiles q (generated (tree ws (node_count ws - 1)) dest (params + locals) max_nodes cap slot_cap) c k p lc lk lp
  places-for-all places h all = let a = few-enough ws params locals dest h in enough-places places h (omega arith)

-- `listed`: the list grows at each call, and the one that is taken is for at least as many nodes as there are
pub longer : {t most : ℕ} → 32768 - most ≡ t → 0 < most → most ≤ 4096 → 32768 - 8 * most < t
longer e h k = omega arith

pub listed-for : {n most k : ℕ} → n ≤ most → most ≤ k → n ≤ k
listed-for h k = omega arith

-- ---- the check first: the ways out of an entry, each as the definition says

module _ (ws : List ℕ) (params locals : ℕ) (dest : Option ℕ) (room cap slot_cap : ℕ) {q : Result Compiled Fault} {c k p : List ℕ} {lc lk lp : ℕ} where
  pub out-refused : {f : Fault} → Err f ≡ check_of ws params locals dest → Compiles q (fail f) c k p lc lk lp → Compiles q (compile_of ws params locals dest room cap slot_cap) c k p lc lk lp
  unfolding compile_of
  out-refused e h = rw (← e) h

  pub out-passed : Ok tt ≡ check_of ws params locals dest → Compiles q (generated (tree ws (node_count ws - 1)) dest (params + locals) room cap slot_cap) c k p lc lk lp →
      Compiles q (compile_of ws params locals dest room cap slot_cap) c k p lc lk lp
  unfolding compile_of
  out-passed e h = rw (← e) h
