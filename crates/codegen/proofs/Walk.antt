-- What the proof of each rule cites at its calls: the measure falls, and a callee finds what it asks.
use Rattle.std.specs.Prelude.{Option, Some, None, Result, Ok}
use Rattle.faults.specs.declared.Fault.{Fault}
use mathlib.Core.Path.{◌≡◌, refl, sym, ap, subst, ◌∙◌}
use mathlib.Core.Bool.{Bool, true, false, cond}
use mathlib.Core.List.{List}
use mathlib.Core.Logic.{⊎_elim}
use Prim.Native.Nat.{ℕ, suc, ◌+◌, ◌*◌, ◌<◌, ◌≤◌}
use native.Mathlib.Decide.{dec_lt}
use native.Mathlib.Omega.{arith}
use lib.Dec.{leb, eqb, lit≤}
use borrow.Author.Rules.{rules}
use borrow.Author.Tests.{le-leb, lt-leb}
use Rattle.table.specs.Table.{kind_at, depth_at, child1, node_count}
use Rattle.table.specs.Nodes.{Child, Inner, ChildIs}
use Rattle.table.specs.Tree.{Unary, cmp, Tree, tree}
use Rattle.table.specs.Tree as Tree
use Rattle.table.proofs.Trees.{View, is_leaf, is-unary, is-binary, is-ternary, view, unary-in}
use Rattle.table.proofs.Arities.{binary-code, cmp-codes}
use Rattle.emit.specs.declared.state.St.{St}
use Rattle.fold.specs.declared.Tail.{Tail}
use Rattle.fold.specs.declared.How.{How}
use Rattle.emit.specs.State.{Res, State, dest_d}
use Rattle.fold.specs.Fold.{Picked, one, two}
use Rattle.emit.specs.Read.{bufs, Says, Steps, LeafReady}
use Rattle.fold.specs.Nodes.{Operand, Operator, Tested, TestIs, op_fold, pick_of, is_comparison, is_junction}
use Rattle.codegen.specs.Rules.{Ready}
use Rattle.emit.proofs.Laws.{kept}

-- ---- the measure

abbrev pub level : List ℕ → ℕ → ℕ → ℕ
level t i rank = 9 * depth_at t i + rank

-- the value of a condition goes by its branch, and the branch of anything else by its value
abbrev pub by_kind : List ℕ → ℕ → ℕ → ℕ → ℕ
by_kind t i x y = cond (leb 18 (kind_at t i)) (cond (leb (kind_at t i) 25) x y) y

abbrev pub value_rank : List ℕ → ℕ → ℕ
value_rank t i = by_kind t i 7 3

abbrev pub operand_rank : List ℕ → ℕ → ℕ
operand_rank t i = suc (value_rank t i)

abbrev pub test_rank : List ℕ → ℕ → ℕ
test_rank t i = by_kind t i 3 5

abbrev pub branch_rank : List ℕ → ℕ → ℕ
branch_rank t i = by_kind t i 4 6

abbrev pub jumps_rank : List ℕ → ℕ → ℕ
jumps_rank t i = suc (branch_rank t i)

cond-le : (b : Bool) {x y m : ℕ} → x ≤ m → y ≤ m → cond b x y ≤ m
cond-le true p q = p
cond-le false p q = q

by-kind-le : (t : List ℕ) (i x y : ℕ) → x ≤ 7 → y ≤ 7 → by_kind t i x y ≤ 7
by-kind-le t i x y p q = cond-le (leb 18 (kind_at t i)) (cond-le (leb (kind_at t i) 25) p q) q

-- at a child every rank is lower
module _ {ws : List ℕ} {i t : ℕ} (r : ℕ) (here : level ws i r ≡ t) where
  module _ {base j : ℕ} (child : Child ws base i j) where
    lower : (q : ℕ) → q ≤ 8 → level ws j q < t
    lower q h = let f = child.falls in omega arith

    operand-lower : level ws j (operand_rank ws j) < t
    operand-lower = let h = by-kind-le ws j 7 3 (omega arith) (omega arith) in lower _ (omega arith)

    jumps-lower : level ws j (jumps_rank ws j) < t
    jumps-lower = let h = by-kind-le ws j 4 6 (omega arith) (omega arith) in lower _ (omega arith)

  module _ (c k p : List ℕ) {n j : ℕ} {st : St} (child : ChildIs ws i n j) (ready : Ready ws (bufs c k p) i st) where
    pub child-operand : level ws j (operand_rank ws j) < t
    child-operand = operand-lower (child.of ready.base ready.node)

    pub child-jumps : level ws j (jumps_rank ws j) < t
    child-jumps = jumps-lower (child.of ready.base ready.node)

    pub child-branch : level ws j (branch_rank ws j) < t
    child-branch = let h = child-jumps in omega arith

    pub child-into : level ws j 8 < t
    child-into = lower (child.of ready.base ready.node) 8 (omega arith)

  pub operand-operand : (c k p : List ℕ) {j : ℕ} {st : St} {tail : Tail} → Operand ws i tail j → Ready ws (bufs c k p) i st → level ws j (operand_rank ws j) < t
  operand-operand c k p o ready = operand-lower (o.of ready.base ready.node)

-- at the node itself the ranks fall from rule to rule
cond_of : (t : List ℕ) (i x y : ℕ) → 17 < kind_at t i → kind_at t i ≤ 25 → by_kind t i x y ≡ x
cond_of t i x y h l = rw (le-leb 18 (kind_at t i) (omega arith), le-leb (kind_at t i) 25 l)

both-kinds : (t : List ℕ) (i : ℕ) (P : ℕ → ℕ → ℕ → Type 0) → P 7 4 3 → P 3 6 5 → P (value_rank t i) (branch_rank t i) (test_rank t i)
both-kinds t i P p q = pick (leb 18 (kind_at t i)) (leb (kind_at t i) 25)
  where
    pick : (a b : Bool) → P (cond a (cond b 7 3) 3) (cond a (cond b 4 6) 6) (cond a (cond b 3 5) 5)
    pick true true = p
    pick true false = q
    pick false b = q

module _ (ws : List ℕ) (i t : ℕ) where
  pub value-over-op : level ws i (value_rank ws i) ≡ t → level ws i 2 < t
  value-over-op = both-kinds ws i (λ v b u. level ws i v ≡ t → level ws i 2 < t) (λ e. omega arith) (λ e. omega arith)

  pub branch-over-junction : level ws i (branch_rank ws i) ≡ t → level ws i 3 < t
  branch-over-junction = both-kinds ws i (λ v b u. level ws i b ≡ t → level ws i 3 < t) (λ e. omega arith) (λ e. omega arith)

  pub branch-over-not : level ws i (branch_rank ws i) ≡ t → level ws i 1 < t
  branch-over-not e = let h = branch-over-junction e in omega arith

  pub branch-over-test : level ws i (branch_rank ws i) ≡ t → level ws i (test_rank ws i) < t
  branch-over-test = both-kinds ws i (λ v b u. level ws i b ≡ t → level ws i u < t) (λ e. omega arith) (λ e. omega arith)

  pub test-over-pair : level ws i (test_rank ws i) ≡ t → level ws i 2 < t
  test-over-pair = both-kinds ws i (λ v b u. level ws i u ≡ t → level ws i 2 < t) (λ e. omega arith) (λ e. omega arith)

  pub into-over-value : level ws i 8 ≡ t → level ws i (value_rank ws i) < t
  into-over-value = both-kinds ws i (λ v b u. level ws i 8 ≡ t → level ws i v < t) (λ e. omega arith) (λ e. omega arith)

  pub operand-over-value : level ws i (operand_rank ws i) ≡ t → level ws i (value_rank ws i) < t
  operand-over-value e = omega arith

  pub jumps-over-branch : level ws i (jumps_rank ws i) ≡ t → level ws i (branch_rank ws i) < t
  jumps-over-branch e = omega arith

  pub op-over-two : level ws i 2 ≡ t → level ws i 1 < t
  op-over-two e = omega arith

  pub value-over-cond : level ws i (value_rank ws i) ≡ t → 17 < kind_at ws i → kind_at ws i ≤ 25 → level ws i 6 < t
  value-over-cond e h l = let v : value_rank ws i ≡ 7 = cond_of ws i 7 3 h l in omega arith

  pub cond-over-jumps : level ws i 6 ≡ t → 17 < kind_at ws i → kind_at ws i ≤ 25 → level ws i (jumps_rank ws i) < t
  cond-over-jumps e h l = let v : branch_rank ws i ≡ 4 = cond_of ws i 4 6 h l in omega arith

-- neither a comparison nor And nor Or
not-cond : (t : List ℕ) (i x y : ℕ) → is_comparison (kind_at t i) ≡ false → is_junction (kind_at t i) ≡ false → by_kind t i x y ≡ y
not-cond t i x y nc nj =
    elim (dec_lt (kind_at t i) 18) [
      | no g ↦ elim (dec_lt 25 (kind_at t i)) [
        | no h ↦ elim (dec_lt 23 (kind_at t i)) [
          | no k ↦ (let q : true ≡ false = rw (le-leb 18 (kind_at t i) (omega arith), le-leb (kind_at t i) 23 (omega arith)) at nc in absurd (let z : ◌≡◌ {A = ℕ} 0 1 = cc in omega arith))
          | yes k ↦ (let q : true ≡ false = rw (le-leb 24 (kind_at t i) (omega arith), le-leb (kind_at t i) 25 (omega arith)) at nj in absurd (let z : ◌≡◌ {A = ℕ} 0 1 = cc in omega arith))
        ]
        | yes h ↦ rw (le-leb 18 (kind_at t i) (omega arith), lt-leb (kind_at t i) 25 h)
      ]
      | yes g ↦ rw (lt-leb 18 (kind_at t i) g)
    ]

-- the node that a test tests: a child, or the node itself, where the ranks fall
pub tested-operand : {ws : List ℕ} {i j t : ℕ} (c k p : List ℕ) {st : St} → level ws i (test_rank ws i) ≡ t → Tested ws i j → is_junction (kind_at ws i) ≡ false → Ready ws (bufs c k p) i st →
    level ws j (operand_rank ws j) < t
tested-operand {ws} {i} {j} {t} c k p e tested nj ready =
    ⊎_elim
    (λ of. operand-lower (test_rank ws i) e (of ready.base ready.node))
    (λ own.
    let m : test_rank ws i ≡ 5 = not-cond ws i 3 5 own.1 nj in
    let q : value_rank ws i ≡ 3 = not-cond ws i 7 3 own.1 nj in
    let z : level ws i (operand_rank ws i) < t = omega arith in
    subst (λ (n : ℕ). level ws n (operand_rank ws n) < t) (sym own.0) z)
    tested

pub ruleset ranks =
    (tested-operand, child-operand, child-jumps, child-branch, child-into, operand-operand, value-over-op, branch-over-junction, branch-over-not, branch-over-test, test-over-pair, into-over-value, operand-over-value, jumps-over-branch, op-over-two, value-over-cond, cond-over-jumps)

-- ---- a callee finds what it asks

module _ {ws c k p : List ℕ} {i : ℕ} {st : St} (ready : Ready ws (bufs c k p) i st) where
  pub inside : i < node_count ws
  inside = ready.node.inside

  pub inner : {m lo : ℕ} → m < kind_at ws i → lo ≤ suc m → Inner ws i lo
  inner h l = record { base = ready.base; node = ready.node; kind = omega arith }

  pub operator : 5 < kind_at ws i → kind_at ws i ≤ 17 → Operator ws i
  operator h l = record { base = ready.base; node = ready.node; low = h; high = l }

  pub leaf-ready : kind_at ws i ≤ 5 → LeafReady ws i
  leaf-ready h = record { base = ready.base; node = ready.node; low = ready.low; leaf = h }

  module _ {n j : ℕ} (child : ChildIs ws i n j) where
    pub ready-child : Ready ws (bufs c k p) j st
    ready-child = record { base = ready.base; node = (child.of ready.base ready.node).node; low = ready.low; fit = ready.fit }

    pub ready-after : {c' k' p' : List ℕ} {x : Result (ℕ × St) Fault} {a : ℕ} {s : St} {m : Res (ℕ × State)} → x ≡ Ok (a, s) → Says (bufs c' k' p') x m → Ready ws (bufs c' k' p') j s
    ready-after e h = record { base = ready.base; node = (child.of ready.base ready.node).node; low = ready.low; fit = kept e h }

  pub ready-operand : {j : ℕ} {tail : Tail} → Operand ws i tail j → Ready ws (bufs c k p) j st
  ready-operand o = record { base = ready.base; node = (o.of ready.base ready.node).node; low = ready.low; fit = ready.fit }

  pub ready-dest : {x : Result (ℕ × St) Fault} {d : ℕ} {s : St} (dst : Option ℕ) → ((c : List ℕ) → Steps c c st x (dest_d dst)) → x ≡ Ok (d, s) → Ready ws (bufs c k p) i s
  ready-dest dst h e = record { base = ready.base; node = ready.node; low = ready.low; fit = kept e (h c k p ready.fit) }

  -- an operator that takes in nothing has two operands
  pub over-unary : 5 < kind_at ws i → op_fold (tree ws i) ≡ None → 7 < kind_at ws i
  unfolding op_fold
  over-unary h e =
      elim (dec_lt 7 (kind_at ws i)) [
        | no g ↦ (let v = unary-in ready.node h (omega arith) in folds (tree ws (child1 ws i)) v.0 (sym (ap op_fold v.1.is) ∙ e))
        | yes g ↦ g
      ]
    where
      folds : (a : Tree) (o : Unary) → op_fold (Tree.unary o a) ≡ None → 7 < kind_at ws i
      folds a Tree.minus e = absurd (let z : ◌≡◌ {A = ℕ} 0 1 = cc in omega arith)
      folds a Tree.not' e = absurd (let z : ◌≡◌ {A = ℕ} 0 1 = cc in omega arith)

  -- only a comparison has two operands to compare
  pub pair-kind : (sense : Bool) → pick_of (tree ws i) sense ≡ two → (17 < kind_at ws i) × (kind_at ws i ≤ 23)
  unfolding pick_of
  pair-kind sense e = by (view ready.node)
    where
      clash : {A : Type 0} {u : Tree} {how : How} → tree ws i ≡ u → pick_of u sense ≡ one u how → A
      clash p q = let z : one _ _ ≡ two = sym q ∙ sym (ap (λ (a : Tree). pick_of a sense) p) ∙ e in absurd (let z : ◌≡◌ {A = ℕ} 0 1 = cc in omega arith)

      by : {n : ℕ} → View ws ready.base i n → (17 < kind_at ws i) × (kind_at ws i ≤ 23)
      by (is_leaf f v) = clash v.is refl
      by (is-unary o v) = clash v.is refl
      by (is-binary (Tree.arith o) v) = clash v.is refl
      by (is-binary (cmp o) v) = let k = binary-code (kind_at ws i) (cmp o) v.kind in let r = cmp-codes o in (omega arith, omega arith)
      by (is-binary Tree.and v) = clash v.is refl
      by (is-binary Tree.or v) = clash v.is refl
      by (is-ternary v) = clash v.is refl

-- And and Or, by the kind
pub junction-over : {k m : ℕ} → is_junction k ≡ true → m ≤ 23 → m < k
junction-over {k} e h =
    elim (dec_lt k 24) [
      | no g ↦ omega arith
      | yes g ↦ (let q : false ≡ true = rw (lt-leb 24 k g) at e in absurd (let z : ◌≡◌ {A = ℕ} 0 1 = cc in omega arith))
    ]

pub junction-under : {k : ℕ} → is_junction k ≡ true → k ≤ 25
junction-under {k} e =
    elim (dec_lt 25 k) [
      | no g ↦ omega arith
      | yes g ↦ (let q : false ≡ true = rw (le-leb 24 k (omega arith), lt-leb k 25 g) at e in absurd (let z : ◌≡◌ {A = ℕ} 0 1 = cc in omega arith))
    ]

-- a kind v, which the code found to be k
module _ {k v : ℕ} (is : k ≡ v) where
  pub over : {m : ℕ} → m < k → m < v
  over h = omega arith

  pub under : {m : ℕ} → k ≤ m → v ≤ m
  under h = omega arith

-- what a test takes in, as the code found it
module _ (ws : List ℕ) (i : ℕ) (p : Picked Tree) {r : Option (ℕ × How)} where
  pub picked_both : r ≡ None → TestIs ws i r p → p ≡ two
  picked_both e h = subst (λ (q : Option (ℕ × How)). TestIs ws i q p) e h

  pub picked-one : {j : ℕ} {how : How} → r ≡ Some (j, how) → TestIs ws i r p → (p ≡ one (tree ws j) how) × (Tested ws i j)
  picked-one e h = subst (λ (q : Option (ℕ × How)). TestIs ws i q p) e h

pub ruleset asked = (inside, inner, operator, leaf-ready, ready-child, ready-after, ready-operand, ready-dest, lit≤)

pub ruleset steps = (ranks, asked, rules)
