-- Completing a table from node 0 upward: a node's store changes no node below it, and so not what the children of a lower node cover.
use Rattle.std.specs.Prelude.{Option, Some, None, Ok}
use mathlib.Core.Path.{◌≡◌, refl, sym, ◌∙◌, ap}
use mathlib.Core.Logic.{⊎_elim}
use mathlib.Core.List.{List}
use Prim.Native.Nat.{ℕ, zero, suc, ◌+◌, ◌-◌, ◌*◌, ◌≤◌, ◌<◌, ◌^◌, max}
use native.Mathlib.Nat.{eq-or-lt_of_le}
use native.Mathlib.Numerals.{add-one}
use native.Mathlib.Omega.{arith}
use mir.Syntax.{w64}
use mir.Val.{Fits}
use lib.ListN.{length, get_or, set, length-set}
use lib.Seq.{get_or-set_same, get_or-set_other, set-get_or}
use borrow.Author.Rules.{rules}
use Rattle.faults.proofs.Faults.{none_both}
use Rattle.table.specs.Table.{node_count, kind_at, payload_at, first_at, depth_at, arity, children, span_at, nodes_fault, check_of}
use Rattle.table.specs.Nodes.{Below, Shallow}
use Rattle.table.specs.Complete.{span_first, span_depth, complete_node, complete_below, complete_of, Completed}
use Rattle.table.proofs.Nodes.{NodeOk, node_ok}

-- ---- what the children of a node cover lies below it

-- the nodes below i begin at or below themselves, and are no deeper than there are nodes up to them
pub record Low (ws : List ℕ) (i : ℕ) : Type 0 where
  pub first : (j : ℕ) → j < i → first_at ws j ≤ j
  pub deep : (j : ℕ) → j < i → depth_at ws j ≤ j + 1

covers-first : (ws : List ℕ) (i n e d : ℕ) → Low ws i → e ≤ i → d ≤ i → span_first (children ws n e d) ≤ i
unfolding children span_first
covers-first ws i zero e d low h k = h
covers-first ws i (suc n) zero d low h k = omega arith
covers-first ws i (suc n) (suc j) d low h k =
    let a : first_at ws j ≤ j = low.first j (omega arith) in
    let b : depth_at ws j ≤ j + 1 = low.deep j (omega arith) in
    covers-first ws i n (first_at ws j) (max d (depth_at ws j)) low (omega arith) (omega arith)

covers-deep : (ws : List ℕ) (i n e d : ℕ) → Low ws i → e ≤ i → d ≤ i → span_depth (children ws n e d) ≤ i + 1
unfolding children span_depth
covers-deep ws i zero e d low h k = omega arith
covers-deep ws i (suc n) zero d low h k = omega arith
covers-deep ws i (suc n) (suc j) d low h k =
    let a : first_at ws j ≤ j = low.first j (omega arith) in
    let b : depth_at ws j ≤ j + 1 = low.deep j (omega arith) in
    covers-deep ws i n (first_at ws j) (max d (depth_at ws j)) low (omega arith) (omega arith)

-- two tables that are the same below i: the children cover the same
covers-same : (ws vs : List ℕ) (i n e d : ℕ) → Low ws i
    → ((j : ℕ) → j < i → first_at vs j ≡ first_at ws j) → ((j : ℕ) → j < i → depth_at vs j ≡ depth_at ws j)
    → e ≤ i → children vs n e d ≡ children ws n e d
unfolding children
covers-same ws vs i zero e d low f g h = refl
covers-same ws vs i (suc n) zero d low f g h = refl
covers-same ws vs i (suc n) (suc j) d low f g h =
    let a : first_at ws j ≤ j = low.first j (omega arith) in
    rw (f j (omega arith), g j (omega arith)) (covers-same ws vs i n (first_at ws j) (max d (depth_at ws j)) low f g (omega arith))

-- ---- one node's store: its first and its depth, and nothing else

module _ (vs : List ℕ) (i : ℕ) where
  stored-length : length (complete_node vs i) ≡ length vs
  unfolding complete_node
  stored-length = simp length-set

  stored_other : (k : ℕ) → (k ≡ 4 * i + 2 → ⊥) → (k ≡ 4 * i + 3 → ⊥) → get_or (complete_node vs i) k 0 ≡ get_or vs k 0
  unfolding complete_node
  stored_other k p q = get_or-set_other (set vs (4 * i + 2) (span_first (span_at vs i))) (4 * i + 3) k _ 0 q ∙ get_or-set_other vs (4 * i + 2) k _ 0 p

  stored-first : i < node_count vs → first_at (complete_node vs i) i ≡ span_first (span_at vs i)
  unfolding complete_node
  stored-first h = get_or-set_other (set vs (4 * i + 2) (span_first (span_at vs i))) (4 * i + 3) (4 * i + 2) _ 0 (λ p. omega arith) ∙ get_or-set_same vs (4 * i + 2) _ 0 (omega arith)

  stored-depth : i < node_count vs → depth_at (complete_node vs i) i ≡ span_depth (span_at vs i)
  unfolding complete_node
  stored-depth h = get_or-set_same (set vs (4 * i + 2) (span_first (span_at vs i))) (4 * i + 3) _ 0 (rw (length-set vs (4 * i + 2) (span_first (span_at vs i))) (omega arith))

-- ---- the pass: the nodes below i are done

pub record Done (ws vs : List ℕ) (i : ℕ) : Type 0 where
  pub long : length vs ≡ length ws
  pub kinds : (j : ℕ) → kind_at vs j ≡ kind_at ws j
  pub payloads : (j : ℕ) → payload_at vs j ≡ payload_at ws j
  pub rest : (k : ℕ) → 4 * node_count vs ≤ k → get_or vs k 0 ≡ get_or ws k 0
  pub low : Low vs i
  pub firsts : (j : ℕ) → j < i → first_at vs j ≡ span_first (span_at vs j)
  pub depths : (j : ℕ) → j < i → depth_at vs j ≡ span_depth (span_at vs j)

start : (ws : List ℕ) → Done ws ws 0
start ws =
    record {
      long = refl;
      kinds = λ j. refl;
      payloads = λ j. refl;
      rest = λ k h. refl;
      low = record { first = λ j h. absurd (omega arith); deep = λ j h. absurd (omega arith) };
      firsts = λ j h. absurd (omega arith);
      depths = λ j h. absurd (omega arith);
    }

module _ (ws vs : List ℕ) (i : ℕ) (d : Done ws vs i) (at : i < node_count vs) where
  us : List ℕ
  us = complete_node vs i

  old-first : (j : ℕ) → j < i → first_at us j ≡ first_at vs j
  unfolding us
  old-first j h = stored_other vs i (4 * j + 2) (λ p. omega arith) (λ p. omega arith)

  old-depth : (j : ℕ) → j < i → depth_at us j ≡ depth_at vs j
  unfolding us
  old-depth j h = stored_other vs i (4 * j + 3) (λ p. omega arith) (λ p. omega arith)

  old-kind : (j : ℕ) → kind_at us j ≡ kind_at vs j
  unfolding us
  old-kind j = stored_other vs i (4 * j) (λ p. omega arith) (λ p. omega arith)

  covered : (j : ℕ) → j ≤ i → span_at us j ≡ span_at vs j
  covered j h = rw (old-kind j) (covers-same vs us i (arity (kind_at vs j)) j 0 d.low old-first old-depth h)

  by_place : (P : ℕ → Type 0) → ((j : ℕ) → j < i → P j) → P i → (j : ℕ) → j < i + 1 → P j
  by_place P below here j h = ⊎_elim (λ p. rw p here) (below j) (eq-or-lt_of_le {n = j} {m = i} (omega arith))

  step : Done ws (complete_node vs i) (i + 1)
  unfolding us
  step =
      let few : span_first (span_at vs i) ≤ i = covers-first vs i (arity (kind_at vs i)) i 0 d.low (omega arith) (omega arith) in
      let deep : span_depth (span_at vs i) ≤ i + 1 = covers-deep vs i (arity (kind_at vs i)) i 0 d.low (omega arith) (omega arith) in
      let l : length us ≡ length vs = stored-length vs i in
      record {
        long = stored-length vs i ∙ d.long;
        kinds = λ j. old-kind j ∙ d.kinds j;
        payloads = λ j. stored_other vs i (4 * j + 1) (λ p. omega arith) (λ p. omega arith) ∙ d.payloads j;
        rest = λ k h. stored_other vs i k (λ p. omega arith) (λ p. omega arith) ∙ d.rest k (omega arith);
        low = record {
          first = by_place (λ j. first_at us j ≤ j) (λ j h. rw (old-first j h) (d.low.first j h)) (rw (stored-first vs i at) few);
          deep = by_place (λ j. depth_at us j ≤ j + 1) (λ j h. rw (old-depth j h) (d.low.deep j h)) (rw (stored-depth vs i at) deep);
        };
        firsts = by_place (λ j. first_at us j ≡ span_first (span_at us j))
            (λ j h. old-first j h ∙ d.firsts j h ∙ sym (ap span_first (covered j (omega arith))))
            (stored-first vs i at ∙ sym (ap span_first (covered i (omega arith))));
        depths = by_place (λ j. depth_at us j ≡ span_depth (span_at us j))
            (λ j h. old-depth j h ∙ d.depths j h ∙ sym (ap span_depth (covered j (omega arith))))
            (stored-depth vs i at ∙ sym (ap span_depth (covered i (omega arith))));
      }

done : (ws : List ℕ) (i : ℕ) → i ≤ node_count ws → Done ws (complete_below ws i) i
unfolding complete_below
done ws zero h = start ws
done ws (suc i) h =
    let d = done ws i (omega arith) in
    let l = d.long in
    rw add-one at (step ws (complete_below ws i) i d (omega arith))

-- every table is completed, and one that the check accepts is complete as it stands

pub completed : (ws : List ℕ) → Completed ws (complete_of ws)
completed ws =
    let d = done ws (node_count ws) (omega arith) in
    let l = d.long in
    record {
      long = d.long;
      kinds = d.kinds;
      payloads = d.payloads;
      firsts = λ j h. d.firsts j (omega arith);
      depths = λ j h. d.depths j (omega arith);
      rest = d.rest;
    }

node_stays : (ws : List ℕ) (base i : ℕ) → NodeOk ws base i → complete_node ws i ≡ ws
unfolding complete_node span_first span_depth
node_stays ws base i o =
    let s : span_at ws i ≡ Some ((first_at ws i), (depth_at ws i - 1)) = o.spans in
    let d : depth_at ws i - 1 + 1 ≡ depth_at ws i = let h = o.deep in omega arith in
    rw (s, d, set-get_or ws (4 * i + 2) 0) (set-get_or ws (4 * i + 3) 0)

below_stays : (ws : List ℕ) (base n : ℕ) → nodes_fault ws base n ≡ Ok tt → complete_below ws n ≡ ws
unfolding complete_below nodes_fault
below_stays ws base zero h = refl
below_stays ws base (suc n) h =
    let p = none_both _ _ h in
    rw (below_stays ws base n p.0) (node_stays ws base n (node_ok ws base n p.1))

pub accepted-stays : (ws : List ℕ) (params locals : ℕ) (dest : Option ℕ) → check_of ws params locals dest ≡ Ok tt → complete_of ws ≡ ws
unfolding check_of
accepted-stays ws params locals dest h =
    let p = none_both _ _ h in
    let q = none_both _ _ p.1 in
    let r = none_both _ _ q.1 in
    below_stays ws (params + locals) (node_count ws) (none_both _ _ r.1).0

-- ---- the loop of `complete`: vs is ws with the nodes below i complete; `search passes`

pub record Passed (ws vs : List ℕ) (i : ℕ) : Type 0 where
  pub is : vs ≡ complete_below ws i
  pub inside : i ≤ node_count ws

pub begins : (ws : List ℕ) → Passed ws ws 0
unfolding complete_below
begins ws = record { is = refl; inside = omega arith }

module _ {ws vs : List ℕ} {i : ℕ} (p : Passed ws vs i) where
  pub same_length : length vs ≡ length ws
  same_length = ap length p.is ∙ (done ws i p.inside).long

  pub below_of : Below vs i
  below_of = let d = done ws i p.inside in let l = d.long in rw p.is (record { inside = omega arith; low = d.low.first })

  pub shallow-of : length ws < 2 ^ 64 → Shallow (span_at vs i)
  shallow-of h =
      let vs' = complete_below ws i in
      let q = p.inside in
      let b = covers-deep vs' i (arity (kind_at vs' i)) i 0 (done ws i p.inside).low (omega arith) (omega arith) in
      rw p.is (record { fits = omega arith })

  pub goes_on : {us : List ℕ} → us ≡ complete_node vs i → i < node_count vs → Passed ws us (i + 1)
  unfolding complete_below
  goes_on e h = let l = same_length in record { is = rw (add-one, e, p.is); inside = omega arith }

  pub ends : node_count vs ≤ i → vs ≡ complete_of ws
  ends h = let l = same_length in let q = p.inside in let e : node_count ws ≡ i = omega arith in rw e p.is

pub ruleset passes = (begins, same_length, below_of, shallow-of, goes_on, ends, rules)

-- ---- the first and depth of a span

pub first-missing : {s : Option (ℕ × ℕ)} → s ≡ None → 0 ≡ span_first s
unfolding span_first
first-missing h = rw h

pub first-between : {s : Option (ℕ × ℕ)} {e d : ℕ} → s ≡ Some (e, d) → e ≡ span_first s
unfolding span_first
first-between h = rw h

pub depth-missing : {s : Option (ℕ × ℕ)} → s ≡ None → 0 ≡ span_depth s
unfolding span_depth
depth-missing h = rw h

pub depth-between : {s : Option (ℕ × ℕ)} {e d : ℕ} → s ≡ Some (e, d) → d + 1 ≡ span_depth s
unfolding span_depth
depth-between h = rw h

pub depth-fits : (s : Option (ℕ × ℕ)) (e : ℕ) {d : ℕ} → s ≡ Some (e, d) → Shallow s → Fits w64 (d + 1)
unfolding span_depth
depth-fits s e h l = let q = l.fits in record { fits = rw h at q }

pub ruleset spans = (first-missing, first-between, depth-missing, depth-between, depth-fits, rules)

-- ---- one node

module _ (ws : List ℕ) (i k n : ℕ) {s : Option (ℕ × ℕ)} (hs : s ≡ children ws n i 0) (hn : n ≡ arity k) (hk : k ≡ kind_at ws i) where
  span-is : s ≡ span_at ws i
  span-is = cc

  pub node-shallow : Shallow (span_at ws i) → Shallow s
  node-shallow h = rw span-is h

  pub node-stored : {f g : ℕ} → f ≡ span_first s → g ≡ span_depth s → set (set ws (4 * i + 2) f) (4 * i + 3) g ≡ complete_node ws i
  unfolding complete_node
  node-stored p q = rw (p, q, span-is)

pub node-room : (ws : List ℕ) (i x : ℕ) → i < node_count ws → 4 * i + 3 < length (set ws (4 * i + 2) x)
node-room ws i x h = rw (length-set ws (4 * i + 2) x) (omega arith)

pub ruleset nodes = (node-shallow, node-stored, node-room, rules)
