-- What it says of a node and its children that the check finds no fault.
use Rattle.std.specs.Prelude.{Option, Some, None, Ok, Err, IsErrAnd}
use Rattle.std.proofs.lemmas.Result.{err_from_is_err_and}
use mathlib.Core.Path.{◌≡◌, refl, sym, ◌∙◌, ap}
use mathlib.Core.Logic.{⊎_elim}
use mathlib.Core.Bool.{Bool, true, false, not, ◌&&◌}
use mathlib.Core.List.{List}
use Prim.Native.Nat.{ℕ, zero, suc, ◌+◌, ◌-◌, ◌≤◌, ◌<◌, max}
use native.Mathlib.Nat.{eq-or-lt_of_le}
use native.Mathlib.Numerals.{add-one, sub-one}
use native.Mathlib.Omega.{arith}
use lib.Dec.{leb, eqb}
use borrow.Author.Tests.{ltb-false, eqb-true, leb-false, lt-leb, not-false, eq-eqb}
use Rattle.faults.specs.declared.Fault.{Fault}
use Rattle.faults.specs.Limits.{max_depth}
use Rattle.faults.specs.Faults.{Checked, none, fault}
use Rattle.faults.specs.Numbers.{bad_node, too_deep, not_local}
use Rattle.table.specs.Table.{kind_at, payload_at, first_at, depth_at, child1, child2, child3, arity, kind_fault, limit_fault, children, span_fault, node_fault, nodes_fault, node_count}
use Rattle.table.specs.Nodes.{Node, Child, Below}
use Rattle.faults.proofs.Faults.{none_both, first, second, failed, and-true, stopped, pass}

-- ---- the children

pub no_more : (ws : List ℕ) (e d f g : ℕ) → children ws 0 e d ≡ Some (f, g) → (e ≡ f) × (d ≡ g)
unfolding children
no_more ws e d f g h =
    let p : ◌≡◌ {A = ℕ × ℕ} (e, d) (f, g) = cc in
    (ap (λ x. x.0) p, ap (λ x. x.1) p)

pub one_more : (ws : List ℕ) (n e d f g : ℕ) → children ws (suc n) e d ≡ Some (f, g) → (0 < e) × (children ws n (first_at ws (e - 1)) (max d (depth_at ws (e - 1))) ≡ Some (f, g))
unfolding children
one_more ws n zero d f g h = absurd (let z : ◌≡◌ {A = ℕ} 0 1 = cc in omega arith)
one_more ws n (suc j) d f g h = (omega arith, rw sub-one h)

-- one turn of the loop over the children
pub turn : (ws : List ℕ) (n e d : ℕ) → 0 < n → (e ≡ 0 → ⊥) → children ws n e d ≡ children ws (n - 1) (first_at ws (e - 1)) (max d (depth_at ws (e - 1)))
unfolding children
turn ws zero e d h k = absurd (omega arith)
turn ws (suc n) zero d h k = absurd (k refl)
turn ws (suc n) (suc j) d h k = rw (sub-one, sub-one)

pub turn-missing : (ws : List ℕ) (n e d : ℕ) → 0 < n → e ≡ 0 → children ws n e d ≡ None
unfolding children
turn-missing ws zero e d h k = absurd (omega arith)
turn-missing ws (suc n) e d h k = rw k

pub turn-none : (ws : List ℕ) (n e d : ℕ) → n ≤ 0 → children ws n e d ≡ Some (e, d)
unfolding children
turn-none ws zero e d h = refl
turn-none ws (suc n) e d h = absurd (omega arith)

lowest : (ws : List ℕ) (n e d f g : ℕ) → ((j : ℕ) → j < e → first_at ws j ≤ j) → children ws n e d ≡ Some (f, g) → f ≤ e
lowest ws zero e d f g low h = let p = no_more ws e d f g h in omega arith
lowest ws (suc n) e d f g low h =
    let p = one_more ws n e d f g h in
    let q : first_at ws (e - 1) ≤ e - 1 = low (e - 1) (omega arith) in
    let r : f ≤ first_at ws (e - 1) = lowest ws n (first_at ws (e - 1)) (max d (depth_at ws (e - 1))) f g (λ j l. low j (omega arith)) p.1 in
    omega arith

-- ---- one node

pub record NodeOk (ws : List ℕ) (base i : ℕ) : Type 0 where
  pub known : kind_at ws i ≤ 26
  pub spans : children ws (arity (kind_at ws i)) i 0 ≡ Some ((first_at ws i), (depth_at ws i - 1))
  pub deep : 0 < depth_at ws i
  pub shallow : depth_at ws i ≤ max_depth
  pub refers : kind_at ws i ≡ 5 → payload_at ws i < base

spans-ok : (s : Option (ℕ × ℕ)) (f d : ℕ) → span_fault s f d ≡ Ok tt → (s ≡ Some (f, (d - 1))) × (0 < d)
unfolding span_fault
spans-ok None f d h = absurd (cc)
spans-ok (Some (e, g)) f d h =
    let p = none_both (fault (not (eqb f e)) bad_node) (fault (not (eqb d (g + 1))) bad_node) h in
    let q : f ≡ e = eqb-true f e (not-false (eqb f e) (failed (not (eqb f e)) bad_node p.0)) in
    let r : d ≡ g + 1 = eqb-true d (g + 1) (not-false (eqb d (g + 1)) (failed (not (eqb d (g + 1))) bad_node p.1)) in
    let t : g ≡ d - 1 = omega arith in
    (cc, omega arith)

pub node_ok : (ws : List ℕ) (base i : ℕ) → node_fault ws base i ≡ Ok tt → NodeOk ws base i
unfolding node_fault
node_ok ws base i h =
    let p = none_both _ _ h in
    let q = none_both _ _ p.1 in
    let k = none_both _ _ p.0 in
    let l = none_both _ _ q.1 in
    let t = spans-ok _ _ _ q.0 in
    record {
      known = ltb-false _ _ (failed _ bad_node k.0);
      spans = t.0;
      deep = t.1;
      shallow = ltb-false _ _ (failed _ too_deep l.0);
      refers = λ e. leb-false _ _ (and-true _ _ (failed _ not_local l.1) (eq-eqb _ _ e));
    }

pub all-ok : (ws : List ℕ) (base n : ℕ) → nodes_fault ws base n ≡ Ok tt → (i : ℕ) → i < n → NodeOk ws base i
unfolding nodes_fault
all-ok ws base zero h i lt = absurd (omega arith)
all-ok ws base (suc n) h i lt =
    let at_most : i ≤ n = omega arith in
    let p = none_both (nodes_fault ws base n) (node_fault ws base n) h in
    let ih : i < n → NodeOk ws base i = all-ok ws base n p.0 i in
    ⊎_elim (λ e. rw e (node_ok ws base n p.1)) ih (eq-or-lt_of_le at_most)

-- a node's subtree begins at or below it
pub first-le : (ws : List ℕ) (base n : ℕ) → nodes_fault ws base n ≡ Ok tt → (i : ℕ) → i < n → first_at ws i ≤ i
unfolding nodes_fault
first-le ws base zero h i lt = absurd (omega arith)
first-le ws base (suc n) h i lt =
    let at_most : i ≤ n = omega arith in
    let p = none_both (nodes_fault ws base n) (node_fault ws base n) h in
    let ih : (j : ℕ) → j < n → first_at ws j ≤ j = first-le ws base n p.0 in
    let at : first_at ws n ≤ n = lowest ws (arity (kind_at ws n)) n 0 (first_at ws n) (depth_at ws n - 1) ih (node_ok ws base n p.1).spans in
    ⊎_elim (λ e. rw e at) (ih i) (eq-or-lt_of_le at_most)

-- ---- a node with its children, by their number

pub record Zero (ws : List ℕ) (i : ℕ) : Type 0 where
  pub first : first_at ws i ≡ i
  pub deep : depth_at ws i ≡ 1

pub record One (ws : List ℕ) (base i : ℕ) : Type 0 where
  pub last : Child ws base i (child1 ws i)
  pub ends : child1 ws i + 1 ≡ i
  pub first : first_at ws i ≡ first_at ws (child1 ws i)
  pub deep : depth_at ws i ≡ depth_at ws (child1 ws i) + 1

pub record Two (ws : List ℕ) (base i : ℕ) : Type 0 where
  pub left : Child ws base i (child2 ws i)
  pub right : Child ws base i (child1 ws i)
  pub ends : child1 ws i + 1 ≡ i
  pub joins : child2 ws i + 1 ≡ first_at ws (child1 ws i)
  pub first : first_at ws i ≡ first_at ws (child2 ws i)
  pub deep : depth_at ws i ≡ max (depth_at ws (child2 ws i)) (depth_at ws (child1 ws i)) + 1

pub record Three (ws : List ℕ) (base i : ℕ) : Type 0 where
  pub test : Child ws base i (child3 ws i)
  pub yes : Child ws base i (child2 ws i)
  pub no : Child ws base i (child1 ws i)
  pub ends : child1 ws i + 1 ≡ i
  pub joins1 : child2 ws i + 1 ≡ first_at ws (child1 ws i)
  pub joins2 : child3 ws i + 1 ≡ first_at ws (child2 ws i)
  pub first : first_at ws i ≡ first_at ws (child3 ws i)
  pub deep : depth_at ws i ≡ max (depth_at ws (child3 ws i)) (max (depth_at ws (child2 ws i)) (depth_at ws (child1 ws i))) + 1

module _ (ws : List ℕ) (base i : ℕ) (n : Node ws base i) where
  pub ok : NodeOk ws base i
  ok = all-ok ws base (node_count ws) n.checked i n.inside

  pub low : (j : ℕ) → j ≤ i → first_at ws j ≤ j
  low j h = first-le ws base (node_count ws) n.checked j (let q = n.inside in omega arith)

  child : (j : ℕ) → j < i → depth_at ws j < depth_at ws i → Child ws base i j
  child j h d = record { node = record { checked = n.checked; inside = let q = n.inside in omega arith }; below = h; falls = d }

  spans-of : (a : ℕ) → arity (kind_at ws i) ≡ a → children ws a i 0 ≡ Some ((first_at ws i), (depth_at ws i - 1))
  spans-of a e = rw e at ok.spans

  pub zero_of : arity (kind_at ws i) ≡ 0 → Zero ws i
  zero_of e =
      let p = no_more _ _ _ _ _ (spans-of 0 e) in
      let o = ok in
      record { first = omega arith; deep = omega arith }

  pub one_of : arity (kind_at ws i) ≡ 1 → One ws base i
  one_of e =
      let p = one_more _ _ _ _ _ _ (spans-of 1 e) in
      let q = no_more _ _ _ _ _ p.1 in
      let o = ok in
      record {
        last = child (i - 1) (omega arith) (omega arith);
        ends = omega arith;
        first = omega arith;
        deep = omega arith;
      }

  pub two-of : arity (kind_at ws i) ≡ 2 → Two ws base i
  two-of e =
      let p = one_more _ _ _ _ _ _ (spans-of 2 e) in
      let q = one_more _ _ _ _ _ _ p.1 in
      let r = no_more _ _ _ _ _ q.1 in
      let l = low (i - 1) (omega arith) in
      let o = ok in
      record {
        left = child (child2 ws i) (omega arith) (omega arith);
        right = child (i - 1) (omega arith) (omega arith);
        ends = omega arith;
        joins = omega arith;
        first = omega arith;
        deep = omega arith;
      }

  pub three-of : arity (kind_at ws i) ≡ 3 → Three ws base i
  three-of e =
      let p = one_more _ _ _ _ _ _ (spans-of 3 e) in
      let q = one_more _ _ _ _ _ _ p.1 in
      let r = one_more _ _ _ _ _ _ q.1 in
      let t = no_more _ _ _ _ _ r.1 in
      let l = low (i - 1) (omega arith) in
      let l' = low (child2 ws i) (omega arith) in
      let o = ok in
      record {
        test = child (child3 ws i) (omega arith) (omega arith);
        yes = child (child2 ws i) (omega arith) (omega arith);
        no = child (i - 1) (omega arith) (omega arith);
        ends = omega arith;
        joins1 = omega arith;
        joins2 = omega arith;
        first = omega arith;
        deep = omega arith;
      }

-- ---- the pass over the nodes

pub one-ahead : (ws : List ℕ) (base i : ℕ) → nodes_fault ws base i ≡ Ok tt → node_fault ws base i ≡ Ok tt → nodes_fault ws base (i + 1) ≡ Ok tt
unfolding nodes_fault
one-ahead ws base i h k = rw (add-one, second _ _ h) k

-- the first fault is the answer
pub stops : (ws : List ℕ) (base i n : ℕ) {f : Fault} → nodes_fault ws base i ≡ Ok tt → node_fault ws base i ≡ Err f → i < n → nodes_fault ws base n ≡ node_fault ws base i
unfolding nodes_fault
stops ws base i zero h k lt = absurd (omega arith)
stops ws base i (suc n) h k lt =
    let at_most : i ≤ n = omega arith in
    let ih : i < n → nodes_fault ws base n ≡ node_fault ws base i = stops ws base i n h k in
    ⊎_elim
    (λ e. rw (← e) (second _ _ h))
    (λ l. first _ _ (ih l ∙ k) ∙ ih l)
    (eq-or-lt_of_le at_most)

pub below_of : (ws : List ℕ) (base i : ℕ) → i ≤ node_count ws → nodes_fault ws base i ≡ Ok tt → Below ws i
below_of ws base i h e = record { inside = h; low = first-le ws base i e }

-- ---- the returns of `full_fault`

module _ (ws : List ℕ) (base i : ℕ) {k p : ℕ} {f : Checked} (hk : k ≡ kind_at ws i) (hp : p ≡ payload_at ws i) (hf : f ≡ kind_fault k p) where
  kind-part : f ≡ kind_fault (kind_at ws i) (payload_at ws i)
  kind-part = cc

  pub kind-stops : {e : Fault} {r : Checked} → f ≡ Err e → IsErrAnd r (λ x. x ≡ e) → r ≡ node_fault ws base i
  unfolding node_fault
  kind-stops n h = stopped _ kind-part n h

  module _ {a d x : ℕ} {g : Checked} {t : Option (ℕ × ℕ)} (z : f ≡ none) (ha : a ≡ arity k)
      (ht : t ≡ children ws a i 0) (hx : x ≡ first_at ws i) (hd : d ≡ depth_at ws i) (hg : g ≡ span_fault t x d) where
    span-part : g ≡ span_fault (children ws (arity (kind_at ws i)) i 0) (first_at ws i) (depth_at ws i)
    span-part = cc

    pub span-stops : {e : Fault} {r : Checked} → g ≡ Err e → IsErrAnd r (λ x. x ≡ e) → r ≡ node_fault ws base i
    unfolding node_fault
    span-stops n h = pass kind-part z (stopped _ span-part n h)

    pub limit-stops : {l : Checked} → g ≡ none → l ≡ limit_fault k p d base → l ≡ node_fault ws base i
    unfolding node_fault
    limit-stops {l} z' h = let q : l ≡ limit_fault (kind_at ws i) (payload_at ws i) (depth_at ws i) base = cc in pass kind-part z (pass span-part z' q)

-- ---- the loop of `children_of`: what is left to cover gives the answer, s; `search turns`

module _ (ws : List ℕ) (n e d : ℕ) (s : Option (ℕ × ℕ)) (inv : children ws n e d ≡ s) where
  pub left-missing : 0 < n → e ≡ 0 → None ≡ s
  left-missing h k = sym (turn-missing ws n e d h k) ∙ inv

  pub left-none : n ≤ 0 → Some (e, d) ≡ s
  left-none h = sym (turn-none ws n e d h) ∙ inv

  pub left-again : {f g h : ℕ} → 0 < n → (e ≡ 0 → ⊥) → f ≡ first_at ws (e - 1) → g ≡ max d h → h ≡ depth_at ws (e - 1) → children ws (n - 1) f g ≡ s
  left-again k l p q r = rw (p, q, r) (sym (turn ws n e d k l) ∙ inv)

pub left-within : {ws : List ℕ} {i : ℕ} (e : ℕ) {f : ℕ} → Below ws i → e ≤ i → (e ≡ 0 → ⊥) → f ≡ first_at ws (e - 1) → f ≤ i
left-within e b h k p = let q = b.low (e - 1) (omega arith) in omega arith

pub inside-by : {ws : List ℕ} {i : ℕ} (e : ℕ) → Below ws i → e ≤ i → (e ≡ 0 → ⊥) → e - 1 < node_count ws
inside-by e b h k = omega arith

pub ruleset turns = (left-missing, left-none, left-again, left-within, inside-by)

-- ---- the loop of `nodes_fault`: `search passes`

pub some-fault : (ws : List ℕ) (base i : ℕ) {n : ℕ} {r s : Checked} {f : Fault} → nodes_fault ws base i ≡ Ok tt → i < n → s ≡ node_fault ws base i → s ≡ Err f → IsErrAnd r (λ x. x ≡ f)
    → r ≡ nodes_fault ws base n
some-fault ws base i h lt e k q =
    let p = err_from_is_err_and _ q in
    p.1 ∙ ap Err p.2 ∙ sym k ∙ e ∙ sym (stops ws base i _ h (sym e ∙ k) lt)

pub no-fault : (ws : List ℕ) (base i : ℕ) {r : Checked} → nodes_fault ws base i ≡ Ok tt → r ≡ node_fault ws base i → r ≡ none → nodes_fault ws base (i + 1) ≡ Ok tt
no-fault ws base i h e z = one-ahead ws base i h (sym e ∙ z)

pub all-passed : (ws : List ℕ) (base i n : ℕ) → nodes_fault ws base i ≡ Ok tt → i ≤ n → n ≤ i → none ≡ nodes_fault ws base n
all-passed ws base i n h p q = let e : i ≡ n = omega arith in sym (rw e at h)

pub ruleset passes = (some-fault, no-fault, all-passed, below_of)

-- ---- a table accepted at a base is accepted at a greater one

and-raise : (t : Bool) (p base b : ℕ) → base ≤ b → (t && leb base p) ≡ false → (t && leb b p) ≡ false
and-raise false p base b h e = refl
and-raise true p base b h e = let q = leb-false base p e in lt-leb b p (omega arith)

node-raise : (ws : List ℕ) (base b i : ℕ) → base ≤ b → node_fault ws base i ≡ Ok tt → node_fault ws b i ≡ Ok tt
unfolding node_fault fault
node-raise ws base b i h e =
    let p = none_both _ _ e in
    let q = none_both _ _ p.1 in
    let l = none_both _ _ q.1 in
    rw (second _ _ p.0, second _ _ q.0, second _ _ l.0, and-raise (eqb (kind_at ws i) 5) (payload_at ws i) base b h (failed _ not_local l.1))

nodes-raise : (ws : List ℕ) (base b n : ℕ) → base ≤ b → nodes_fault ws base n ≡ Ok tt → nodes_fault ws b n ≡ Ok tt
unfolding nodes_fault
nodes-raise ws base b zero h e = refl
nodes-raise ws base b (suc n) h e =
    let p = none_both _ _ e in
    rw (second _ _ (nodes-raise ws base b n h p.0)) (node-raise ws base b n h p.1)

pub raise : {ws : List ℕ} {base b i : ℕ} → base ≤ b → Node ws base i → Node ws b i
raise {ws} {base} {b} h n = record { checked = nodes-raise ws base b (node_count ws) h n.checked; inside = n.inside }
