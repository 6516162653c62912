-- The value rules: what the code's steps give is what the definition gives of the node's tree.
use Rattle.std.specs.Prelude.{Option, Some, None, Result, Ok, Err}
use Rattle.faults.specs.declared.Fault.{Fault}
use mathlib.Core.Path.{◌≡◌, refl, sym, ap, subst, ◌∙◌}
use mathlib.Core.Bool.{true, false}
use mathlib.Core.List.{List}
use Prim.Native.Nat.{ℕ, ◌-◌, ◌≤◌}
use native.Mathlib.Omega.{arith as numbers}
use lib.ListN.{length, take}
use lib.Seq.{length-take-le}
use Rattle.table.specs.Table.{kind_at, payload_at, child1, child2, child3}
use Rattle.table.specs.Nodes.{ChildIs}
use Rattle.table.specs.Tree.{Leaf, Arith, Binary, arith, cmp, and, or, Tree, leaf_kind, binary_kind, kind_of, tree}
use Rattle.table.proofs.Trees.{BinaryAt, leaf-in, binary-in, ternary-in}
use Rattle.table.proofs.Arities.{binary-code, arith-codes, cmp-codes}
use Rattle.insns.specs.declared.op.Three.{Three}
use Rattle.emit.specs.declared.state.St.{St}
use Rattle.fold.specs.declared.Tail.{Tail}
use Rattle.emit.specs.State.{Res, bind, State, here, dest_d}
use Rattle.emit.specs.Jump.{patch_d}
use Rattle.fold.specs.Nodes.{op_fold}
use Rattle.fold.specs.Opcodes.{three_of}
use Rattle.emit.specs.Steps.{leaf_d, tail_to, three_to, move_to}
use Rattle.emit.specs.Jump.{bool_d, turn_d}
use Rattle.emit.specs.Read.{Bufs, bufs, st_of, Says, Steps, After}
use Rattle.emit.specs.Lists.{Lists}
use Rattle.fold.specs.Nodes.{Operand}
use Rattle.codegen.specs.Gen.{gen, leaf_v, one_v, two_v, into_d, cond_v, arms_d, ternary_v}
use Rattle.codegen.specs.Rules.{value_at, branch_at, Ready, IsGeneral, IsCondition, IsTernary}
use Rattle.emit.proofs.Laws.{go, stop, kept, says-by, chain}
use Rattle.codegen.proofs.Gens.{fold_is, general-is}
use Rattle.codegen.proofs.Parts.{go-jumps, stop-says, kept-jumps, left_is, both-steps}

-- the value rule of a tree
abbrev of_value : Option ℕ → ℕ → State → Tree → Res (ℕ × State)
of_value dst room s t = (gen t).value dst room s

module _ {ws c k p : List ℕ} {i : ℕ} {st : St} (ready : Ready ws (bufs c k p) i st) (dst : Option ℕ) (room : ℕ) where
  abbrev start : State
  start = st_of (bufs c k p) st

  -- a leaf
  pub leaf-value : {b : Bufs} {r : Result (ℕ × St) Fault} → kind_at ws i ≤ 5 →
      ((f : ℕ → Leaf) → kind_of (kind_at ws i) ≡ leaf_kind f → Says b r (leaf_d (f (payload_at ws i)) dst start)) → Says b r (value_at ws i dst room start)
  unfolding gen leaf_v
  leaf-value h g =
      let v = leaf-in ready.node h in
      says-by (sym (ap (of_value dst room start) v.1.is)) (g v.0 v.1.kind)

  -- an operator that takes in all but one operand
  pub fold-value : {c1 k1 p1 c2 : List ℕ} {x r : Result (ℕ × St) Fault} {tail : Tail} {j : ℕ} → Operand ws i tail j → op_fold (tree ws i) ≡ Some tail →
      Says (bufs c1 k1 p1) x (value_at ws j None room start) → After c1 c2 x r (tail_to tail dst st.next) → Says (bufs c2 k1 p1) r (value_at ws i dst room start)
  unfolding one_v
  fold-value {k1 = k1} {p1 = p1} {tail = tail} o e h g =
      let p = chain (tail_to tail dst st.next) h (g k1 p1) in
      says-by (ap (λ (q : Tree). bind ((gen q).value None room start) (tail_to tail dst st.next)) o.is ∙ fold_is dst room start (tree ws i) e) p

  -- an operator of two registers
  module _ (general : IsGeneral ws i) where
    record Two (o : Arith) : Type 0 where
      kind : kind_of (kind_at ws i) ≡ binary_kind (arith o)
      is : two_v (three_of o) (value_at ws (child2 ws i)) (value_at ws (child1 ws i)) dst room start ≡ value_at ws i dst room start

    two-of : (o : Arith) × Two o
    unfolding op_fold
    two-of = let v = binary-in ready.node general.0 (omega numbers) in by v.0 v.1
      where
        by : (o : Binary) → BinaryAt ws ready.base i o → (o : Arith) × Two o
        by (arith o) v = (
          o,
          record {
            kind = v.kind;
            is = general-is dst room start o (tree ws (child2 ws i)) (tree ws (child1 ws i)) (sym (ap op_fold v.is) ∙ general.2) ∙ sym (ap (of_value dst room start) v.is);
          },
        )
        by (cmp o) v = absurd (let e = binary-code (kind_at ws i) (cmp o) v.kind in let u = (cmp-codes o).0 in let g = general.1 in omega numbers)
        by and v = absurd (let e = binary-code (kind_at ws i) and v.kind in let g = general.1 in omega numbers)
        by or v = absurd (let e = binary-code (kind_at ws i) or v.kind in let g = general.1 in omega numbers)

    module _ {l : ℕ} (left : ChildIs ws i (child2 ws i) l) {c1 k1 p1 : List ℕ} {x : Result (ℕ × St) Fault} (one : Says (bufs c1 k1 p1) x (value_at ws l None room start)) where
      pub two-stop : {f : Fault} {r : Result (ℕ × St) Fault} → x ≡ Err f → r ≡ Err f → Says (bufs c1 k1 p1) r (value_at ws i dst room start)
      unfolding two_v
      two-stop e g =
          let w = two-of in
          says-by w.1.is (stop (λ q. bind (value_at ws (child1 ws i) None room q.1) (three_to (three_of w.0) q.0 dst st.next)) e g (left_is room start left one))

      pub two-value : {a : ℕ} {s : St} → x ≡ Ok (a, s) → {r room' : ℕ} → ChildIs ws i (child1 ws i) r → room' ≡ room →
          {c2 k2 p2 : List ℕ} {y : Result (ℕ × St) Fault} → Says (bufs c2 k2 p2) y (value_at ws r None room' (st_of (bufs c1 k1 p1) s)) →
          {kd : ℕ} → kd ≡ kind_at ws i → {op : Three} → ((o : Arith) → kind_of kd ≡ binary_kind (arith o) → op ≡ three_of o) →
          {c3 : List ℕ} {z : Result (ℕ × St) Fault} → After c2 c3 y z (three_to op a dst st.next) → Says (bufs c3 k2 p2) z (value_at ws i dst room start)
      unfolding two_v
      two-value {a} {s} got {r} {room'} right e {k2 = k2} {p2 = p2} two kd {op} three g =
          let w = two-of in
          let f : ℕ → ℕ × State → Res (ℕ × State) = λ b. three_to (three_of w.0) b dst st.next in
          let p = chain (three_to op a dst st.next) two (g k2 p2) in
          let o : op ≡ three_of w.0 = three w.0 (ap kind_of kd ∙ w.1.kind) in
          says-by
          (ap (λ (q : Three). bind (value_at ws r None room' (st_of (bufs c1 k1 p1) s)) (three_to q a dst st.next)) o ∙ both-steps room start left one f got right e ∙ w.1.is)
          p

  -- the destination, then the branch of a condition, then the two loads
  module _ (cond : IsCondition ws i) where
    cond-is : cond_v (branch_at ws i) dst room start ≡ value_at ws i dst room start
    unfolding gen
    cond-is = let v = binary-in ready.node (omega (numbers, cond.0)) cond.1 in by v.0 v.1
      where
        at-tree : {t : Tree} → tree ws i ≡ t → cond_v (gen t).branch dst room start ≡ (gen t).value dst room start → cond_v (branch_at ws i) dst room start ≡ value_at ws i dst room start
        at-tree e h = subst (λ (q : Tree). cond_v (gen q).branch dst room start ≡ (gen q).value dst room start) (sym e) h

        by : (o : Binary) → BinaryAt ws ready.base i o → cond_v (branch_at ws i) dst room start ≡ value_at ws i dst room start
        by (arith o) v = absurd (let e = binary-code (kind_at ws i) (arith o) v.kind in let u = (arith-codes o).1 in let g = cond.0 in omega numbers)
        by (cmp o) v = at-tree v.is refl
        by and v = at-tree v.is refl
        by or v = at-tree v.is refl

    module _ {x : Result (ℕ × St) Fault} (to : (c : List ℕ) → Steps c c st x (dest_d dst)) where
      pub cond-stop : {f : Fault} {r : Result (ℕ × St) Fault} → x ≡ Err f → r ≡ Err f → Says (bufs c k p) r (value_at ws i dst room start)
      unfolding cond_v
      cond-stop e q = says-by cond-is (stop (λ d. bind (branch_at ws i true room d.1) (λ js. bool_d js.0 d.0 js.1)) e q (to c k p ready.fit))

      module _ {d : ℕ} {s : St} (got : x ≡ Ok (d, s)) {c1 k1 p1 js : List ℕ} {y : Result (ℕ × St) Fault} (test : Lists (bufs c1 k1 p1) js y (branch_at ws i true room (st_of (bufs c k p) s))) where
        cond-from : bind (branch_at ws i true room (st_of (bufs c k p) s)) (λ js. bool_d js.0 d js.1) ≡ value_at ws i dst room start
        unfolding cond_v
        cond-from = go (λ d. bind (branch_at ws i true room d.1) (λ js. bool_d js.0 d.0 js.1)) got (to c k p ready.fit) ∙ cond-is

        pub cond-refused : {f : Fault} {r : Result (ℕ × St) Fault} → y ≡ Err f → r ≡ Err f → Says (bufs c1 k1 p1) r (value_at ws i dst room start)
        cond-refused e q = says-by cond-from (stop-says (λ js. bool_d js.0 d js.1) e q test)

        pub cond_value : {n : ℕ} {t : St} → y ≡ Ok (n, t) → {c2 : List ℕ} {r : Result (ℕ × St) Fault} → Steps c1 c2 t r (bool_d (take n js) d) → Says (bufs c2 k1 p1) r (value_at ws i dst room start)
        cond_value e g = says-by (go-jumps (λ js. bool_d js.0 d js.1) e test ∙ cond-from) (g k1 p1 (kept-jumps e test))

  -- the destination, then the test's branch, then the arms
  module _ (tern : IsTernary ws i) where
    ternary-is : ternary_v (branch_at ws (child3 ws i)) (value_at ws (child2 ws i)) (value_at ws (child1 ws i)) dst room start ≡ value_at ws i dst room start
    unfolding gen
    ternary-is = sym (ap (of_value dst room start) (ternary-in ready.node tern).is)

    abbrev arms : ℕ → List ℕ × State → Res (ℕ × State)
    arms d = arms_d (value_at ws (child2 ws i)) (value_at ws (child1 ws i)) d room

    module _ {x : Result (ℕ × St) Fault} (to : (c : List ℕ) → Steps c c st x (dest_d dst)) where
      pub ternary-stop : {f : Fault} {r : Result (ℕ × St) Fault} → x ≡ Err f → r ≡ Err f → Says (bufs c k p) r (value_at ws i dst room start)
      unfolding ternary_v
      ternary-stop e q = says-by ternary-is (stop (λ d. bind (branch_at ws (child3 ws i) false room d.1) (arms d.0)) e q (to c k p ready.fit))

      module _ {d : ℕ} {s : St} (got : x ≡ Ok (d, s)) {j : ℕ} (child : ChildIs ws i (child3 ws i) j)
          {c1 k1 p1 js : List ℕ} {y : Result (ℕ × St) Fault} (test : Lists (bufs c1 k1 p1) js y (branch_at ws j false room (st_of (bufs c k p) s))) where
        ternary-from : bind (branch_at ws j false room (st_of (bufs c k p) s)) (arms d) ≡ value_at ws i dst room start
        unfolding ternary_v
        ternary-from =
            ap (λ (q : ℕ). bind (branch_at ws q false room (st_of (bufs c k p) s)) (arms d)) child.is
            ∙ go (λ d. bind (branch_at ws (child3 ws i) false room d.1) (arms d.0)) got (to c k p ready.fit)
            ∙ ternary-is

        pub ternary-refused : {f : Fault} {r : Result (ℕ × St) Fault} → y ≡ Err f → r ≡ Err f → Says (bufs c1 k1 p1) r (value_at ws i dst room start)
        ternary-refused e q = says-by ternary-from (stop-says (arms d) e q test)

        pub ternary-value : {n : ℕ} {t : St} → y ≡ Ok (n, t) → {b : Bufs} {r : Result (ℕ × St) Fault} {room' : ℕ} → room' ≡ room →
            Says b r (arms_d (value_at ws (child2 ws i)) (value_at ws (child1 ws i)) d room' (take n js, st_of (bufs c1 k1 p1) t)) → Says b r (value_at ws i dst room start)
        ternary-value {n} {t} e r h =
            says-by
            (ap (λ (q : ℕ). arms_d (value_at ws (child2 ws i)) (value_at ws (child1 ws i)) d q (take n js, st_of (bufs c1 k1 p1) t)) r ∙ go-jumps (arms d) e test ∙ ternary-from)
            h

-- a move
pub into-value : (ws : List ℕ) (i d room : ℕ) (start : State) {c1 k1 p1 c2 : List ℕ} {x r : Result (ℕ × St) Fault} → Says (bufs c1 k1 p1) x (value_at ws i (Some d) room start) →
    After c1 c2 x r (move_to d start.next) → Says (bufs c2 k1 p1) r (into_d (value_at ws i) d room start)
unfolding into_d
into-value ws i d room start {k1 = k1} {p1 = p1} h g = chain (move_to d start.next) h (g k1 p1)

-- the arms of a ternary: the then side, the turn, the else side, the end
module _ {ws : List ℕ} {i : ℕ} (d room : ℕ) (js : List ℕ) (start : State)
    {a room1 : ℕ} (yes : ChildIs ws i (child2 ws i) a) (rest : room1 ≡ room - length js)
    {c1 k1 p1 : List ℕ} {x : Result (ℕ × St) Fault} (one : Says (bufs c1 k1 p1) x (into_d (value_at ws a) d room1 start)) where
  abbrev all : Res (ℕ × State)
  all = arms_d (value_at ws (child2 ws i)) (value_at ws (child1 ws i)) d room (js, start)

  abbrev last : ℕ → ℕ × State → Res (ℕ × State)
  last p y = bind (into_d (value_at ws (child1 ws i)) d room y.1) (λ z. patch_d p d z.1)

  abbrev turned : ℕ × State → Res (ℕ × State)
  turned x = bind (turn_d js d x.1) (last (here x.1))

  then_is : Says (bufs c1 k1 p1) x (into_d (value_at ws (child2 ws i)) d (room - length js) start)
  then_is =
      says-by
      (ap (λ (q : ℕ). into_d (value_at ws q) d room1 start) yes.is ∙ ap (λ (q : ℕ). into_d (value_at ws (child2 ws i)) d q start) rest)
      one

  pub arms-stop : {f : Fault} {r : Result (ℕ × St) Fault} → x ≡ Err f → r ≡ Err f → Says (bufs c1 k1 p1) r all
  unfolding arms_d
  arms-stop e q = stop turned e q then_is

  module _ {e : ℕ} {s : St} (got : x ≡ Ok (e, s)) {js' c2 : List ℕ} {y : Result (ℕ × St) Fault} (front : js' ≡ js) (turn : Steps c1 c2 s y (turn_d js' d)) where
    turn_is : Says (bufs c2 k1 p1) y (turn_d js d (st_of (bufs c1 k1 p1) s))
    turn_is = says-by (ap (λ (q : List ℕ). turn_d q d (st_of (bufs c1 k1 p1) s)) front) (turn k1 p1 (kept got one))

    from-turn : bind (turn_d js d (st_of (bufs c1 k1 p1) s)) (last (here (st_of (bufs c1 k1 p1) s))) ≡ all
    unfolding arms_d
    from-turn = go turned got then_is

    pub arms-turned : {f : Fault} {r : Result (ℕ × St) Fault} → y ≡ Err f → r ≡ Err f → Says (bufs c2 k1 p1) r all
    arms-turned n q = says-by from-turn (stop (last (here (st_of (bufs c1 k1 p1) s))) n q turn_is)

    pub arms-value : {e' : ℕ} {t : St} → y ≡ Ok (e', t) → {b room2 : ℕ} → ChildIs ws i (child1 ws i) b → room2 ≡ room →
        {c3 k3 p3 : List ℕ} {z : Result (ℕ × St) Fault} → Says (bufs c3 k3 p3) z (into_d (value_at ws b) d room2 (st_of (bufs c2 k1 p1) t)) →
        {c4 : List ℕ} {r : Result (ℕ × St) Fault} → After c3 c4 z r (λ q. patch_d s.count d q.1) → Says (bufs c4 k3 p3) r all
    arms-value {t = t} g {b} {room2} other same {k3 = k3} {p3 = p3} two end =
        let n : length (take s.count c1) ≡ s.count = length-take-le s.count c1 (kept got one).words in
        let p = chain (λ q. patch_d s.count d q.1) two (end k3 p3) in
        says-by
        (ap (λ (q : ℕ). bind (into_d (value_at ws q) d room2 (st_of (bufs c2 k1 p1) t)) (λ z. patch_d s.count d z.1)) other.is
        ∙ ap (λ (q : ℕ). bind (into_d (value_at ws (child1 ws i)) d q (st_of (bufs c2 k1 p1) t)) (λ z. patch_d s.count d z.1)) same
        ∙ ap (λ (q : ℕ). last q (0, st_of (bufs c2 k1 p1) t)) (sym n)
        ∙ go (last (here (st_of (bufs c1 k1 p1) s))) g turn_is
        ∙ from-turn)
        p
