-- The branch rules: what the code's steps give is what the definition gives of the node's tree.
use Rattle.std.specs.Prelude.{None, Result, Ok, Err}
use Rattle.faults.specs.declared.Fault.{Fault}
use mathlib.Core.Path.{◌≡◌, refl, sym, ap, subst, ◌∙◌}
use mathlib.Core.Bool.{Bool, true, false, not}
use mathlib.Core.List.{List}
use Prim.Native.Nat.{ℕ, ◌-◌, ◌<◌}
use native.Mathlib.Omega.{arith as numbers}
use lib.Dec.{eqb}
use lib.ListN.{length, take, drop}
use Rattle.table.specs.Table.{kind_at, child1, child2}
use Rattle.table.specs.Nodes.{ChildIs}
use Rattle.table.specs.Tree.{Unary, minus, not', Cmp, Binary, arith, cmp, and, or, Tree, binary_kind, kind_of, tree}
use Rattle.table.proofs.Trees.{View, is_leaf, is-unary, is-binary, is-ternary, UnaryAt, BinaryAt, view, unary-in, binary-in}
use Rattle.table.proofs.Arities.{unary-code, binary-code, arith-codes, cmp-codes}
use Rattle.insns.specs.declared.op.Cmp.{Cmp as JumpCmp}
use Rattle.emit.specs.declared.state.St.{St}
use Rattle.fold.specs.declared.How.{How}
use Rattle.emit.specs.State.{Res, bind, State}
use Rattle.fold.specs.Opcodes.{branch_of}
use Rattle.fold.specs.Fold.{one}
use Rattle.fold.specs.Nodes.{is_junction, pick_of}
use Rattle.emit.specs.Jump.{one_to, pair_to, junction_to}
use Rattle.emit.specs.Read.{Bufs, bufs, st_of, Says}
use Rattle.emit.specs.Lists.{read_jumps, FitJumps, Lists, AfterJumping, Joined}
use Rattle.codegen.specs.Gen.{gen, one_b, pair_b, junction_b, same}
use Rattle.codegen.specs.Rules.{value_at, branch_at, Ready, IsTest, IsPair, IsJunction}
use Rattle.codegen.proofs.Gens.{Alone, pick-one, pick-both}
use Rattle.codegen.proofs.Parts.{stop-lists, chain-lists, go-jumps, stop-jumps, lists-by, left_is, both-steps}
use Rattle.codegen.proofs.Walk.{junction-over, junction-under}

-- the branch rule of a tree
abbrev of_branch : Bool → ℕ → State → Tree → Res (List ℕ × State)
of_branch sense room s t = (gen t).branch sense room s

module _ {ws c k p : List ℕ} {i : ℕ} {st : St} (ready : Ready ws (bufs c k p) i st) (sense : Bool) (room : ℕ) where
  abbrev start : State
  start = st_of (bufs c k p) st

  -- Not turns the sense round
  pub not-branch : {j : ℕ} → kind_at ws i ≡ 7 → ChildIs ws i (child1 ws i) j → {b : Bufs} {js : List ℕ} {r : Result (ℕ × St) Fault} → Lists b js r (branch_at ws j (not sense) room start) → Lists b js r (branch_at ws i sense room start)
  unfolding gen
  not-branch e child h =
      let v = unary-in ready.node (omega numbers) (omega numbers) in
      lists-by (ap (λ (q : ℕ). branch_at ws q (not sense) room start) child.is ∙ by v.0 v.1) h
    where
      by : (o : Unary) → UnaryAt ws ready.base i o → branch_at ws (child1 ws i) (not sense) room start ≡ branch_at ws i sense room start
      by minus v = absurd (let u = unary-code (kind_at ws i) minus v.kind in omega numbers)
      by not' v = sym (ap (of_branch sense room start) v.is)

  -- a branch on one value
  module _ (test : IsTest ws i) where
    alone : Alone room start (tree ws i)
    alone = by (view ready.node)
      where
        at : {t : Tree} → tree ws i ≡ t → Alone room start t → Alone room start (tree ws i)
        at e h = subst (Alone room start) (sym e) h

        clash : {A : Type 0} {m : ℕ} → kind_at ws i ≡ m → is_junction m ≡ true → A
        clash e h = let q : true ≡ false = sym h ∙ ap is_junction (sym e) ∙ test.1 in absurd (let z : ◌≡◌ {A = ℕ} 0 1 = cc in omega numbers)

        by : {n : ℕ} → View ws ready.base i n → Alone room start (tree ws i)
        by (is_leaf f v) = at v.is tt
        by (is-unary minus v) = at v.is tt
        by (is-unary not' v) = absurd (test.0 (unary-code (kind_at ws i) not' v.kind))
        by (is-binary (arith o) v) = at v.is tt
        by (is-binary (cmp o) v) = at v.is tt
        by (is-binary and v) = clash (binary-code (kind_at ws i) and v.kind) refl
        by (is-binary or v) = clash (binary-code (kind_at ws i) or v.kind) refl
        by (is-ternary v) = at v.is tt

    pub one-branch : (j : ℕ) {how : How} → pick_of (tree ws i) sense ≡ one (tree ws j) how → {c1 k1 p1 : List ℕ} {x : Result (ℕ × St) Fault} → Says (bufs c1 k1 p1) x (value_at ws j None room start) →
        {room' : ℕ} → room' ≡ room → {c2 js : List ℕ} {r : Result (ℕ × St) Fault} → AfterJumping c1 c2 js x r (one_to how room' st.next) → Lists (bufs c2 k1 p1) js r (branch_at ws i sense room start)
    unfolding one_b
    one-branch j {how} p {k1 = k1} {p1 = p1} h {room'} e g =
        lists-by
        (ap (λ (q : ℕ). bind (value_at ws j None room start) (one_to how q st.next)) e ∙ pick-one room start (tree ws i) sense alone p)
        (chain-lists (one_to how room' st.next) h (g k1 p1))

  -- a branch that compares two values
  module _ (pair : IsPair ws i sense) where
    record Pair (o : Cmp) : Type 0 where
      kind : kind_of (kind_at ws i) ≡ binary_kind (cmp o)
      is : pair_b (branch_of o sense) (value_at ws (child2 ws i)) (value_at ws (child1 ws i)) room start ≡ branch_at ws i sense room start

    pair_of : (o : Cmp) × Pair o
    pair_of = let v = binary-in ready.node (omega (numbers, pair.0)) (omega (numbers, pair.1)) in by v.0 v.1
      where
        by : (o : Binary) → BinaryAt ws ready.base i o → (o : Cmp) × Pair o
        by (arith o) v = absurd (let e = binary-code (kind_at ws i) (arith o) v.kind in let u = (arith-codes o).1 in let g = pair.0 in omega numbers)
        by (cmp o) v = (
          o,
          record {
            kind = v.kind;
            is = pick-both room start o (tree ws (child2 ws i)) (tree ws (child1 ws i)) sense (sym (ap (λ (q : Tree). pick_of q sense) v.is) ∙ pair.2) ∙ sym (ap (of_branch sense room start) v.is);
          },
        )
        by and v = absurd (let e = binary-code (kind_at ws i) and v.kind in let g = pair.1 in omega numbers)
        by or v = absurd (let e = binary-code (kind_at ws i) or v.kind in let g = pair.1 in omega numbers)

    module _ {l : ℕ} (left : ChildIs ws i (child2 ws i) l) {c1 k1 p1 : List ℕ} {x : Result (ℕ × St) Fault} (one : Says (bufs c1 k1 p1) x (value_at ws l None room start)) where
      pub pair-stop : (js : List ℕ) {f : Fault} {r : Result (ℕ × St) Fault} → x ≡ Err f → r ≡ Err f → Lists (bufs c1 k1 p1) js r (branch_at ws i sense room start)
      unfolding pair_b
      pair-stop js e g =
          let w = pair_of in
          lists-by w.1.is (stop-lists js (λ q. bind (value_at ws (child1 ws i) None room q.1) (pair_to (branch_of w.0 sense) q.0 room st.next)) e g (left_is room start left one))

      pub pair-branch : {a : ℕ} {s : St} → x ≡ Ok (a, s) → {r room' room'' : ℕ} → ChildIs ws i (child1 ws i) r → room' ≡ room →
          {c2 k2 p2 : List ℕ} {y : Result (ℕ × St) Fault} → Says (bufs c2 k2 p2) y (value_at ws r None room' (st_of (bufs c1 k1 p1) s)) → room'' ≡ room →
          {kd : ℕ} → kd ≡ kind_at ws i → {op : JumpCmp} → ((o : Cmp) → kind_of kd ≡ binary_kind (cmp o) → op ≡ branch_of o sense) →
          {c3 js : List ℕ} {z : Result (ℕ × St) Fault} → AfterJumping c2 c3 js y z (pair_to op a room'' st.next) → Lists (bufs c3 k2 p2) js z (branch_at ws i sense room start)
      unfolding pair_b
      pair-branch {a} {s} got {r} {room'} {room''} right e {k2 = k2} {p2 = p2} two e' kd {op} cmps g =
          let w = pair_of in
          let f : ℕ → ℕ × State → Res (List ℕ × State) = λ b. pair_to (branch_of w.0 sense) b room st.next in
          let p = chain-lists (pair_to op a room'' st.next) two (g k2 p2) in
          let o : op ≡ branch_of w.0 sense = cmps w.0 (ap kind_of kd ∙ w.1.kind) in
          lists-by
          (ap (λ (q : JumpCmp). bind (value_at ws r None room' (st_of (bufs c1 k1 p1) s)) (pair_to q a room'' st.next)) o
          ∙ ap (λ (q : ℕ). bind (value_at ws r None room' (st_of (bufs c1 k1 p1) s)) (pair_to (branch_of w.0 sense) a q st.next)) e'
          ∙ both-steps room start left one f got right e
          ∙ w.1.is)
          p

  -- And and Or
  module _ {by : Bool} (junction : IsJunction ws i by) where
    junction-is : junction_b by (branch_at ws (child2 ws i)) (branch_at ws (child1 ws i)) sense room start ≡ branch_at ws i sense room start
    unfolding gen
    junction-is =
        let v = binary-in ready.node (junction-over junction.0 (omega numbers)) (junction-under junction.0) in
        at v.0 v.1
      where
        side : {t : Tree} {m : ℕ} → tree ws i ≡ t → kind_at ws i ≡ m → (gen t).branch ≡ junction_b (eqb m 25) (branch_at ws (child2 ws i)) (branch_at ws (child1 ws i)) →
            junction_b by (branch_at ws (child2 ws i)) (branch_at ws (child1 ws i)) sense room start ≡ branch_at ws i sense room start
        side {t} {m} e q h =
            ap (λ (b : Bool). junction_b b (branch_at ws (child2 ws i)) (branch_at ws (child1 ws i)) sense room start) (junction.1 ∙ ap (λ (n : ℕ). eqb n 25) q)
            ∙ ap (λ (b : Bool → ℕ → State → Res (List ℕ × State)). b sense room start) (sym h)
            ∙ sym (ap (of_branch sense room start) e)

        at : (o : Binary) → BinaryAt ws ready.base i o → junction_b by (branch_at ws (child2 ws i)) (branch_at ws (child1 ws i)) sense room start ≡ branch_at ws i sense room start
        at (arith o) v = absurd (let e = binary-code (kind_at ws i) (arith o) v.kind in let u = (arith-codes o).1 in let g : 23 < kind_at ws i = junction-over junction.0 (omega numbers) in omega numbers)
        at (cmp o) v = absurd (let e = binary-code (kind_at ws i) (cmp o) v.kind in let u = (cmp-codes o).1 in let g : 23 < kind_at ws i = junction-over junction.0 (omega numbers) in omega numbers)
        at and v = side v.is (binary-code (kind_at ws i) and v.kind) refl
        at or v = side v.is (binary-code (kind_at ws i) or v.kind) refl

    module _ {a : ℕ} (left : ChildIs ws i (child2 ws i) a) {c1 k1 p1 l : List ℕ} {x : Result (ℕ × St) Fault} (one : Lists (bufs c1 k1 p1) l x (branch_at ws a by room start)) where
      first-is : Lists (bufs c1 k1 p1) l x (branch_at ws (child2 ws i) by room start)
      first-is = lists-by (ap (λ (q : ℕ). branch_at ws q by room start) left.is) one

      abbrev second : List ℕ × State → Res (List ℕ × State)
      second q = bind (branch_at ws (child1 ws i) sense (room - length q.0) q.1) (junction_to (same by sense) q.0)

      pub junction-stop : {f : Fault} {r : Result (ℕ × St) Fault} → x ≡ Err f → r ≡ Err f → Lists (bufs c1 k1 p1) l r (branch_at ws i sense room start)
      unfolding junction_b
      junction-stop e q = lists-by junction-is (stop-jumps second e q first-is)

      pub junction-branch : {n : ℕ} {s : St} → x ≡ Ok (n, s) → {b room' : ℕ} → ChildIs ws i (child1 ws i) b → room' ≡ room - length (take n l) →
          {c2 k2 p2 m : List ℕ} {y : Result (ℕ × St) Fault} → Lists (bufs c2 k2 p2) m y (branch_at ws b sense room' (st_of (bufs c1 k1 p1) s)) →
          (js : List ℕ) → take n js ≡ take n l → drop n js ≡ m → {sm : Bool} → sm ≡ same by sense →
          {c3 js' : List ℕ} {r : Result (ℕ × St) Fault} → Joined c2 c3 js js' sm n y r → Lists (bufs c3 k2 p2) js' r (branch_at ws i sense room start)
      unfolding junction_b
      junction-branch {n} {s} got {b} {room'} right e {c2} {k2} {p2} {m} {y} two js front back {sm} sames g =
          let S : State = st_of (bufs c1 k1 p1) s in
          let f : List ℕ × State → Res (List ℕ × State) = junction_to (same by sense) (take n l) in
          let p = g k2 p2 (subst (λ (q : List ℕ). FitJumps (bufs c2 k2 p2) q y) (sym back) two.fit) in
          lists-by
          (ap (λ (q : List ℕ). bind (read_jumps (bufs c2 k2 p2) q y) (junction_to sm (take n js))) back
          ∙ ap (λ (q : List ℕ). bind (read_jumps (bufs c2 k2 p2) m y) (junction_to sm q)) front
          ∙ ap (λ (q : Bool). bind (read_jumps (bufs c2 k2 p2) m y) (junction_to q (take n l))) sames
          ∙ ap (λ (q : Res (List ℕ × State)). bind q f) two.is
          ∙ ap (λ (q : ℕ). bind (branch_at ws q sense room' S) f) right.is
          ∙ ap (λ (q : ℕ). bind (branch_at ws (child1 ws i) sense q S) f) e
          ∙ go-jumps second got first-is
          ∙ junction-is)
          p
