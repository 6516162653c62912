-- The answer of a node from its children's, as the code puts it together, is the meaning of its tree. `search walks` answers `eval_node`.
use Rattle.std.specs.Prelude.{Option, Some, None, Result, Ok, Err}
use Rattle.faults.specs.declared.Fault.{Fault}
use mathlib.Core.Path.{◌≡◌, refl, sym, ◌∙◌, ap, subst}
use mathlib.Core.Bool.{Bool, true, false, cond}
use mathlib.Core.List.{List}
use Prim.Native.Nat.{ℕ, ◌≤◌, ◌<◌}
use native.Mathlib.Omega.{arith}
use lib.Dec.{eqb}
use lib.ListN.{get_or}
use Rattle.faults.specs.Numbers.{ill_formed}
use Rattle.table.specs.Table.{kind_at, payload_at, depth_at, child1, child2}
use Rattle.table.specs.Nodes.{Node, Child, ChildIs}
use Rattle.table.specs.Tree as T
use Rattle.table.specs.Tree.{Leaf, Unary, Arith, Cmp, Binary, Tree, Kind, leaf_kind, unary_kind, binary_kind, ternary_kind, no_kind, kind_of, tree, unary_code, arith_code, cmp_code, binary_code}
use Rattle.table.proofs.Arities.{at-kind, leaf-le, unary-code, binary-code, ternary-code, unary-codes, arith-codes, cmp-codes}
use Rattle.table.proofs.Nodes.{ok}
use Rattle.table.proofs.Trees.{BinaryAt, View, is_leaf, is-unary, is-binary, is-ternary, view, leaf-in}
use Rattle.value.specs.Value.{Datum, bool}
use Rattle.ops.specs.Ops as Ops
use Rattle.ops.specs.Not as Not
use Rattle.value.specs.Answer.{Answer, is, fault}
use Rattle.eval.specs.Eval.{leaf_of, unary_of, arith_of, cmp_of, binary_of, eval_of}
use Rattle.eval.specs.Apply.{on, both, whether, test}
use Rattle.eval.specs.Next.{Ruled, truth_of, rule_of, first_of, next_of}
use Rattle.eval.specs.Steps.{leaves, alone_of, joined_of}
use Rattle.eval.specs.declared.next.Rule.{Rule}
use Rattle.eval.specs.declared.next.Rule.TheVariants as R
use Rattle.eval.proofs.next.Laws.{rule-unary, rule-operator, rule-ternary}
use Rattle.eval.proofs.apply.Laws.{chooses, whether-by}

-- ---- leaves: the entry of its kind is the leaf's answer

leaf-rule : List Datum → ℕ → ℕ → Kind → Type 0
leaf-rule ls p k (leaf_kind f) = leaf_of ls (f p) ≡ get_or (leaves ls p) k (fault ill_formed)
leaf-rule ls p k (unary_kind o) = Unit {0}
leaf-rule ls p k (binary_kind o) = Unit {0}
leaf-rule ls p k ternary_kind = Unit {0}
leaf-rule ls p k no_kind = Unit {0}

pub leaf-code : (ls : List Datum) (p k : ℕ) (f : ℕ → Leaf) → kind_of k ≡ leaf_kind f → leaf_of ls (f p) ≡ get_or (leaves ls p) k (fault ill_formed)
unfolding leaf-rule leaf_of
leaf-code ls p k f e = subst (leaf-rule ls p k) e (at-kind (leaf-rule ls p) (λ j l. tt) (refl, (refl, (refl, (refl, (refl, (refl, omega arith)))))) k)

-- ---- the operators by node kind are those of the tree

pub arith_is : (o : Arith) → Ops.binary_of (arith_code o) ≡ arith_of o
unfolding arith_of
arith_is T.bit_and = refl
arith_is T.bit_or = refl
arith_is T.bit_xor = refl
arith_is T.lshift = refl
arith_is T.rshift = refl
arith_is T.add = refl
arith_is T.sub = refl
arith_is T.mul = refl
arith_is T.div = refl
arith_is T.mod' = refl

pub cmp-is : (o : Cmp) → Ops.binary_of (cmp_code o) ≡ cmp_of o
unfolding cmp_of
cmp-is T.eq = refl
cmp-is T.ne = refl
cmp-is T.lt = refl
cmp-is T.le = refl
cmp-is T.gt = refl
cmp-is T.ge = refl

pub unary-is : (o : Unary) → cond (eqb (unary_code o) 6) Ops.minus_of Not.not_of ≡ unary_of o
unfolding unary_of
unary-is T.minus = refl
unary-is T.not' = refl

-- ---- one node with children, over answers alone: x is the first child's, and `e j` that of the child j

never-stops : {A : Type 0} {j : ℕ} → Some j ≡ None → A
never-stops h = absurd (let z : ◌≡◌ {A = ℕ} 0 1 = cc in omega arith)

never-goes : {A : Type 0} {j : ℕ} → None ≡ Some j → A
never-goes h = absurd (let z : ◌≡◌ {A = ℕ} 0 1 = cc in omega arith)

-- where the code stops, x gives the answer t; where it goes on with j, j is a child, and x and j's answer give it
record Gives (ws : List ℕ) (base i k : ℕ) (e : ℕ → Answer) (r : Rule) (x t : Answer) : Type 0 where
  stops : next_of r ws i x ≡ None → alone_of r k x ≡ t
  child : (j : ℕ) → next_of r ws i x ≡ Some j → Child ws base i j
  goes : (j : ℕ) → next_of r ws i x ≡ Some j → joined_of r k x (e j) ≡ t

module _ (ws : List ℕ) (base i k : ℕ) (e : ℕ → Answer) where
  unary-gives : (x : Answer) (o : Unary) → k ≡ unary_code o → Gives ws base i k e R.Unary x (on (unary_of o) x)
  unary-gives x o h = record { stops = λ s. rw (h, unary-is o); child = λ j s. never-goes s; goes = λ j s. never-goes s }

  module _ (c : Child ws base i (child1 ws i)) where
    operator-gives : (x : Answer) (f : Datum → Datum → Answer) → Ops.binary_of k ≡ f → Gives ws base i k e R.Operator x (both f x (e (child1 ws i)))
    unfolding both
    operator-gives (is v) f h =
        record {
          stops = λ s. never-stops s;
          child = λ j s. let q : child1 ws i ≡ j = cc in rw (← q) c;
          goes = λ j s. let q : child1 ws i ≡ j = cc in rw (h, q);
        }
    operator-gives (fault n) f h = record { stops = λ s. refl; child = λ j s. never-goes s; goes = λ j s. never-goes s }

module _ (ws : List ℕ) (base i k : ℕ) (e : ℕ → Answer) (x : Answer) (c : Child ws base i (child1 ws i)) where
  tests : test x ≡ chooses (truth_of x) (is (bool true)) (is (bool false))
  unfolding test
  tests = whether-by x (is (bool true)) (is (bool false))

  went : {l : ℕ} (j : ℕ) → Child ws base i l → Some l ≡ Some j → Child ws base i j
  went {l} j d s = let q : l ≡ j = cc in rw (← q) d

  and-gives : Gives ws base i k e R.And x (whether x (test (e (child1 ws i))) (is (bool false)))
  and-gives = go (truth_of x) refl
    where
      go : (t : Result Bool Fault) → truth_of x ≡ t → Gives ws base i k e R.And x (whether x (test (e (child1 ws i))) (is (bool false)))
      go (Ok true) q =
          record {
            stops = λ s. never-stops (rw q at s);
            child = λ j s. went j c (rw q at s);
            goes = λ j s. let p : Some (child1 ws i) ≡ Some j = rw q at s in let l : child1 ws i ≡ j = cc in rw (whether-by x _ _, q, l);
          }
      go (Ok false) q = record { stops = λ s. rw (whether-by x _ _, tests, q); child = λ j s. never-goes (rw q at s); goes = λ j s. never-goes (rw q at s) }
      go (Err n) q = record { stops = λ s. rw (whether-by x _ _, tests, q); child = λ j s. never-goes (rw q at s); goes = λ j s. never-goes (rw q at s) }

  or-gives : Gives ws base i k e R.Or x (whether x (is (bool true)) (test (e (child1 ws i))))
  or-gives = go (truth_of x) refl
    where
      go : (t : Result Bool Fault) → truth_of x ≡ t → Gives ws base i k e R.Or x (whether x (is (bool true)) (test (e (child1 ws i))))
      go (Ok true) q = record { stops = λ s. rw (whether-by x _ _, tests, q); child = λ j s. never-goes (rw q at s); goes = λ j s. never-goes (rw q at s) }
      go (Ok false) q =
          record {
            stops = λ s. never-stops (rw q at s);
            child = λ j s. went j c (rw q at s);
            goes = λ j s. let p : Some (child1 ws i) ≡ Some j = rw q at s in let l : child1 ws i ≡ j = cc in rw (whether-by x _ _, q, l);
          }
      go (Err n) q = record { stops = λ s. rw (whether-by x _ _, tests, q); child = λ j s. never-goes (rw q at s); goes = λ j s. never-goes (rw q at s) }

  ternary-gives : Child ws base i (child2 ws i) → Gives ws base i k e R.Ternary x (whether x (e (child2 ws i)) (e (child1 ws i)))
  ternary-gives d = go (truth_of x) refl
    where
      go : (t : Result Bool Fault) → truth_of x ≡ t → Gives ws base i k e R.Ternary x (whether x (e (child2 ws i)) (e (child1 ws i)))
      go (Ok true) q =
          record {
            stops = λ s. never-stops (rw q at s);
            child = λ j s. went j d (rw q at s);
            goes = λ j s. let p : Some (child2 ws i) ≡ Some j = rw q at s in let l : child2 ws i ≡ j = cc in rw (whether-by x _ _, q, l);
          }
      go (Ok false) q =
          record {
            stops = λ s. never-stops (rw q at s);
            child = λ j s. went j c (rw q at s);
            goes = λ j s. let p : Some (child1 ws i) ≡ Some j = rw q at s in let l : child1 ws i ≡ j = cc in rw (whether-by x _ _, q, l);
          }
      go (Err n) q = record { stops = λ s. rw (whether-by x _ _, tests, q); child = λ j s. never-goes (rw q at s); goes = λ j s. never-goes (rw q at s) }

-- ---- the same at node i of an accepted table

module _ (ls : List Datum) {ws : List ℕ} {base i : ℕ} (n : Node ws base i) where
  -- the answer of the tree at node j
  abbrev answer : ℕ → Answer
  answer j = eval_of ls (tree ws j)

  abbrev Given : Rule → Answer → Type 0
  Given r t = Gives ws base i (kind_at ws i) answer r (answer (first_of r ws i)) t

  binary-given : (o : Binary) → BinaryAt ws base i o → Given (rule_of (kind_at ws i)) (binary_of o (answer (child2 ws i)) (answer (child1 ws i)))
  unfolding binary_of
  binary-given (T.arith o) v =
      let k : kind_at ws i ≡ arith_code o = binary-code _ _ v.kind in
      let b = arith-codes o in
      rw (rule-operator (kind_at ws i) (omega arith) (omega arith)) (operator-gives ws base i (kind_at ws i) answer v.at.right _ (arith_of o) (ap Ops.binary_of k ∙ arith_is o))
  binary-given (T.cmp o) v =
      let k : kind_at ws i ≡ cmp_code o = binary-code _ _ v.kind in
      let b = cmp-codes o in
      rw (rule-operator (kind_at ws i) (omega arith) (omega arith)) (operator-gives ws base i (kind_at ws i) answer v.at.right _ (cmp_of o) (ap Ops.binary_of k ∙ cmp-is o))
  binary-given T.and v =
      let k : kind_at ws i ≡ 24 = binary-code _ _ v.kind in
      rw (ap rule_of k) (and-gives ws base i (kind_at ws i) answer _ v.at.right)
  binary-given T.or v =
      let k : kind_at ws i ≡ 25 = binary-code _ _ v.kind in
      rw (ap rule_of k) (or-gives ws base i (kind_at ws i) answer _ v.at.right)

  -- by the kind of the node
  given : 5 < kind_at ws i → Given (rule_of (kind_at ws i)) (answer i)
  unfolding eval_of
  given h = go (view n)
    where
      go : {a : ℕ} → View ws base i a → Given (rule_of (kind_at ws i)) (answer i)
      go (is_leaf f v) = absurd (let l = leaf-le _ f v.kind in omega arith)
      go (is-unary o v) =
          let k : kind_at ws i ≡ unary_code o = unary-code _ _ v.kind in
          let b = unary-codes o in
          rw (v.is, rule-unary (kind_at ws i) (omega arith)) (unary-gives ws base i (kind_at ws i) answer _ o k)
      go (is-binary o v) = rw v.is (binary-given o v)
      go (is-ternary v) =
          let k : kind_at ws i ≡ 26 = ternary-code (kind_at ws i) v.kind in
          rw (v.is, rule-ternary (kind_at ws i) (omega arith)) (ternary-gives ws base i (kind_at ws i) answer _ v.at.no v.at.yes)

-- ---- what `eval_node` has to show

pub ruled : {ws : List ℕ} {base i k : ℕ} {r : Rule} → Node ws base i → k ≡ kind_at ws i → 5 < k → r ≡ rule_of k → Ruled ws i r
ruled {ws} {base} n e g f = record { base = base; node = n; inner = omega arith; rule = f ∙ ap rule_of e }

pub ref-below : {ws : List ℕ} {base i k p : ℕ} → Node ws base i → k ≡ kind_at ws i → p ≡ payload_at ws i → k ≡ 5 → p < base
ref-below {ws} {base} {i} n e q h = rw q ((ok ws base i n).refers (sym e ∙ h))

module _ (ls : List Datum) {ws : List ℕ} {base i k : ℕ} (n : Node ws base i) (e : k ≡ kind_at ws i) where
  pub leaf-law : {p : ℕ} {r : Answer} → k ≤ 5 → p ≡ payload_at ws i → r ≡ get_or (leaves ls p) k (fault ill_formed) → r ≡ eval_of ls (tree ws i)
  unfolding eval_of
  leaf-law {p} h q u =
      let v = leaf-in n (omega arith) in
      let c : kind_of k ≡ T.leaf_kind v.0 = ap kind_of e ∙ v.1.kind in
      rw (v.1.is, ← q) (u ∙ sym (leaf-code ls p k v.0 c))

  module _ (g : 5 < k) {r : Rule} (f : r ≡ rule_of k) {c : ℕ} (d : ChildIs ws i (first_of r ws i) c) {x : Answer} (p : x ≡ eval_of ls (tree ws c)) {m : Option ℕ} (q : m ≡ next_of r ws i x) where
    rule : r ≡ rule_of (kind_at ws i)
    rule = f ∙ ap rule_of e

    here : x ≡ eval_of ls (tree ws (first_of (rule_of (kind_at ws i)) ws i))
    here = p ∙ ap (answer ls n) (d.is ∙ ap (λ (r : Rule). first_of r ws i) rule)

    given' : Gives ws base i k (answer ls n) r x (answer ls n i)
    given' = rw (here, rule, e) (given ls n (omega arith))

    pub stop-law : {s : Answer} → m ≡ None → s ≡ alone_of r k x → s ≡ eval_of ls (tree ws i)
    stop-law h a = a ∙ given'.stops (sym q ∙ h)

    module _ {j : ℕ} (h : m ≡ Some j) where
      pub go-law : {y s : Answer} → y ≡ eval_of ls (tree ws j) → s ≡ joined_of r k x y → s ≡ eval_of ls (tree ws i)
      go-law {y} b a = (rw b at a) ∙ given'.goes j (sym q ∙ h)

      pub go-node : Node ws base j
      go-node = (given'.child j (sym q ∙ h)).node

      pub go-falls : {t : ℕ} → depth_at ws i ≡ t → depth_at ws j < t
      go-falls u = let l = given'.child j (sym q ∙ h) in omega arith

pub ruleset walks = (ruled, ref-below, leaf-law, stop-law, go-law, go-node, go-falls)
