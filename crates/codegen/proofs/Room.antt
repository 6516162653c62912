-- A jump list of half as many places as a tree has nodes is enough: with that room or more the rules give the same.
use Rattle.std.specs.Prelude.{Option, Some, None}
use Rattle.insns.specs.declared.op.Imm16.{Imm16}
use Rattle.insns.specs.declared.Insn.{Insn}
use mathlib.Core.Path.{◌≡◌, refl, ap, ◌∙◌}
use mathlib.Core.Bool.{Bool, true, false, not, cond}
use mathlib.Core.List.{List, [], ◌∷◌, ◌++◌}
use Prim.Native.Nat.{ℕ, ◌+◌, ◌*◌, ◌-◌, ◌<◌, ◌≤◌}
use native.Mathlib.Omega.{arith as numbers}
use lib.Dec.{ltb}
use lib.ListN.{length, length-append}
use borrow.Author.Tests.{lt-ltb}
use Rattle.faults.specs.Numbers.{no_room}
use Rattle.table.specs.Tree.{minus, not', Cmp, arith, cmp, and, or, Tree, leaf, unary, binary, ternary, size}
use Rattle.insns.specs.declared.op.Three.{Three}
use Rattle.insns.specs.declared.op.Cmp.{Cmp as JumpCmp}
use Rattle.fold.specs.declared.Tail.{Tail}
use Rattle.fold.specs.declared.How.{How}
use Rattle.emit.specs.State.{Res, done, fail, bind, State, here, dest_d, store_d}
use Rattle.emit.specs.Jump.{patch_d, patches_d, leap_d}
use Rattle.fold.specs.Literal.{as_imm16}
use Rattle.fold.specs.Fold.{fold_of, minus_one}
use Rattle.fold.specs.Opcodes.{three_of}
use Rattle.emit.specs.Steps.{tail_to, three_to, move_to}
use Rattle.emit.specs.Jump.{leap_to, one_to, pair_to, junction_to, bool_d, turn_d}
use Rattle.codegen.specs.Gen.{Value, Branch, leaf_v, one_v, two_v, operand, binary_v, into_d, cond_v, arms_d, ternary_v, one_b, test_b, pair_b, compare_b, same, junction_b, gen}

-- ---- what holds of every answer that is no refusal

abbrev Given : {A : Type 0} → (A → Type 0) → Res A → Type 0
Given P (done a) = P a
Given P (fail n) = Unit {0}

given : {A : Type 0} {P : A → Type 0} (m : Res A) → ((a : A) → P a) → Given P m
given (done a) h = h a
given (fail n) h = tt

then-given : {A B : Type 0} (P : A → Type 0) (Q : B → Type 0) (m : Res A) (k : A → Res B) → Given P m → ((a : A) → P a → Given Q (k a)) → Given Q (bind m k)
then-given P Q (done a) k h g = g a h
then-given P Q (fail n) k h g = tt

-- two chains of steps are the same where their first steps are, and the rest is for what those give
bind-same : {A B : Type 0} (P : A → Type 0) {m n : Res A} (k l : A → Res B) → m ≡ n → Given P m → ((a : A) → P a → k a ≡ l a) → bind m k ≡ bind n l
bind-same P {m} {n} k l e h g = same_from m h ∙ ap (λ (q : Res _). bind q l) e
  where
    same_from : (q : Res _) → Given P q → bind q k ≡ bind q l
    same_from (done a) p = g a p
    same_from (fail f) p = refl

-- the first step is one
rest-same : {A B : Type 0} (m : Res A) {k l : A → Res B} → ((a : A) → k a ≡ l a) → bind m k ≡ bind m l
rest-same (done a) h = h a
rest-same (fail n) h = refl

abbrev Always : {A : Type 0} → A → Type 0
Always a = Unit {0}

always : {A : Type 0} (m : Res A) → Given Always m
always m = given m (λ a. tt)

-- ---- how many jumps a branch lists

abbrev Few : ℕ → List ℕ × State → Type 0
Few n x = 2 * length x.0 ≤ n + 1

pub size-some : (t : Tree) → 1 ≤ size t
unfolding size
size-some (leaf l) = omega numbers
size-some (unary o a) = omega numbers
size-some (binary o a b) = omega numbers
size-some (ternary a b c) = omega numbers

leap-few : (n : ℕ) (made : Option Insn) (room : ℕ) (s : State) → 1 ≤ n → Given (Few n) (leap_d made room s)
unfolding leap_d
leap-few n made room s h = pick (ltb 0 room)
  where
    stored : (m : Res (ℕ × State)) → Given (Few n) (bind m (λ x. done (here s ∷ [], x.1)))
    stored (done x) = omega numbers
    stored (fail f) = tt

    pick : (b : Bool) → Given (Few n) (cond b (bind (store_d made 0 s) (λ x. done (here s ∷ [], x.1))) (fail no_room))
    pick true = stored (store_d made 0 s)
    pick false = tt

one-few : (n : ℕ) (how : How) (v : Value) (room : ℕ) (s : State) → 1 ≤ n → Given (Few n) (one_b how v room s)
unfolding one_b leap_to
one-few n how v room s h = then-given Always (Few n) (v None room s) (one_to how room s.next) (always (v None room s)) (λ a u. leap-few n _ room _ h)

pair-few : (n : ℕ) (c : JumpCmp) (v w : Value) (room : ℕ) (s : State) → 1 ≤ n → Given (Few n) (pair_b c v w room s)
unfolding pair_b leap_to
pair-few n c v w room s h =
    then-given Always (Few n) (v None room s) (λ x. bind (w None room x.1) (pair_to c x.0 room s.next)) (always (v None room s)) λ x u.
    then-given Always (Few n) (w None room x.1) (pair_to c x.0 room s.next) (always (w None room x.1)) (λ y z. leap-few n _ room _ h)

compare-few : (n : ℕ) (c : Cmp) (l r : Option Imm16) (v w : Value) (sense : Bool) (room : ℕ) (s : State) → 1 ≤ n → Given (Few n) (compare_b c l r v w sense room s)
unfolding compare_b
compare-few n c l (Some k) v w sense room s h = one-few n _ v room s h
compare-few n c (Some k) None v w sense room s h = one-few n _ w room s h
compare-few n c None None v w sense room s h = pair-few n _ v w room s h

join-few : (p q : ℕ) (b : Bool) (l : List ℕ) (y : List ℕ × State) → 2 * length l ≤ p + 1 → Few q y → Given (Few (p + q + 1)) (junction_to b l y)
unfolding junction_to
join-few p q true l y h k = let e : length (l ++ y.0) ≡ length l + length y.0 = length-append l y.0 in omega numbers
join-few p q false l y h k = then-given Always (Few (p + q + 1)) (patches_d l 0 y.1) (λ z. done (y.0, z.1)) (always (patches_d l 0 y.1)) (λ z u. omega numbers)

junction-few : (p q : ℕ) (by : Bool) (a b : Branch) (sense : Bool) (room : ℕ) (s : State) →
    ((sense : Bool) (room : ℕ) (s : State) → Given (Few p) (a sense room s)) → ((sense : Bool) (room : ℕ) (s : State) → Given (Few q) (b sense room s)) →
    Given (Few (p + q + 1)) (junction_b by a b sense room s)
unfolding junction_b
junction-few p q by a b sense room s f g =
    then-given (Few p) (Few (p + q + 1)) (a by room s) (λ x. bind (b sense (room - length x.0) x.1) (junction_to (same by sense) x.0)) (f by room s) λ x u.
    then-given (Few q) (Few (p + q + 1)) (b sense (room - length x.0) x.1) (junction_to (same by sense) x.0) (g sense (room - length x.0) x.1) (λ y z. join-few p q (same by sense) x.0 y u z)

more : (n k : ℕ) (m : Res (List ℕ × State)) → n ≤ k → Given (Few n) m → Given (Few k) m
more n k (done x) h f = omega numbers
more n k (fail e) h f = tt

pub few : (t : Tree) (sense : Bool) (room : ℕ) (s : State) → Given (Few (size t)) ((gen t).branch sense room s)
unfolding gen size
few (leaf l) sense room s = one-few 1 (How.Bool sense) (leaf_v l) room s (omega numbers)
few (unary minus a) sense room s = one-few (size a + 1) (How.Bool sense) _ room s (omega numbers)
few (unary not' a) sense room s = more (size a) (size a + 1) ((gen a).branch (not sense) room s) (omega numbers) (few a (not sense) room s)
few (binary (arith o) a b) sense room s = one-few (size a + size b + 1) (How.Bool sense) _ room s (omega numbers)
few (binary (cmp c) a b) sense room s = compare-few (size a + size b + 1) c (as_imm16 a) (as_imm16 b) (gen a).value (gen b).value sense room s (omega numbers)
few (binary and a b) sense room s = junction-few (size a) (size b) false (gen a).branch (gen b).branch sense room s (few a) (few b)
few (binary or a b) sense room s = junction-few (size a) (size b) true (gen a).branch (gen b).branch sense room s (few a) (few b)
few (ternary c a b) sense room s = one-few (size c + size a + size b + 1) (How.Bool sense) _ room s (omega numbers)

-- ---- the same with either room

pub into-same : (v : Value) (d q q' : ℕ) (s : State) → v (Some d) q s ≡ v (Some d) q' s → into_d v d q s ≡ into_d v d q' s
unfolding into_d
into-same v d q q' s e = ap (λ (z : Res (ℕ × State)). bind z (move_to d s.next)) e

module _ (r r' : ℕ) where
  abbrev SameV : Value → Type 0
  SameV v = (dst : Option ℕ) (s : State) → v dst r s ≡ v dst r' s

  abbrev SameB : Branch → Type 0
  SameB b = (sense : Bool) (s : State) → b sense r s ≡ b sense r' s

  one_value : (tail : Tail) (v : Value) → SameV v → SameV (one_v tail v)
  unfolding one_v
  one_value tail v h dst s = ap (λ (q : Res (ℕ × State)). bind q (tail_to tail dst s.next)) (h None s)

  two-value : (op : Three) (v w : Value) → SameV v → SameV w → SameV (two_v op v w)
  unfolding two_v
  two-value op v w h g dst s =
      bind-same Always _ _ (h None s) (always (v None r s)) λ (x : ℕ × State) u.
      ap (λ (q : Res (ℕ × State)). bind q (three_to op x.0 dst s.next)) (g None x.1)

  operand-value : (tail : Tail) (v f : Value) → SameV v → SameV f → SameV (operand tail v f)
  operand-value Tail.Not v f h g = h
  operand-value (Tail.Imm o n) v f h g = h
  operand-value (Tail.Shift o n) v f h g = h
  operand-value (Tail.Mask lo len) v f h g = h
  operand-value (Tail.ShiftMask n lo len) v f h g = g

  binary-value : (f : Option Tail) (op : Three) (v e w : Value) → SameV v → SameV e → SameV w → SameV (binary_v f op v e w)
  unfolding binary_v
  binary-value (Some tail) op v e w h i g dst s = one_value tail (operand tail v e) (operand-value tail v e h i) dst s
  binary-value None op v e w h i g dst s = two-value op v w h g dst s

  cond_value : (b : Branch) → SameB b → SameV (cond_v b)
  unfolding cond_v
  cond_value b h dst s =
      rest-same (dest_d dst s) (λ (d : ℕ × State). ap (λ (q : Res (List ℕ × State)). bind q (λ (js : List ℕ × State). bool_d js.0 d.0 js.1)) (h true d.1))

  module _ (some : 0 < r) (some' : 0 < r') where
    leap-same : (made : Option Insn) (s : State) → leap_d made r s ≡ leap_d made r' s
    unfolding leap_d
    leap-same made s = rw (lt-ltb 0 r some, lt-ltb 0 r' some')

    one-branch : (how : How) (v : Value) (s : State) → SameV v → one_b how v r s ≡ one_b how v r' s
    unfolding one_b leap_to
    one-branch how v s h = bind-same Always _ _ (h None s) (always (v None r s)) (λ x u. leap-same _ _)

    pair-branch : (c : JumpCmp) (v w : Value) (s : State) → SameV v → SameV w → pair_b c v w r s ≡ pair_b c v w r' s
    unfolding pair_b leap_to
    pair-branch c v w s h g =
        bind-same Always _ _ (h None s) (always (v None r s)) λ (x : ℕ × State) u.
        bind-same Always _ _ (g None x.1) (always (w None r x.1)) (λ y z. leap-same _ _)

    compare-branch : (c : Cmp) (l k : Option Imm16) (v w : Value) → SameV v → SameV w → SameB (compare_b c l k v w)
    unfolding compare_b
    compare-branch c l (Some n) v w h g sense s = one-branch _ v s h
    compare-branch c (Some n) None v w h g sense s = one-branch _ w s g
    compare-branch c None None v w h g sense s = pair-branch _ v w s h g

  junction-branch : (p : ℕ) (by : Bool) (a b : Branch) → SameB a → ((sense : Bool) (s : State) → Given (Few p) (a sense r s)) →
      ((n : ℕ) → 2 * n ≤ p + 1 → (sense : Bool) (s : State) → b sense (r - n) s ≡ b sense (r' - n) s) → SameB (junction_b by a b)
  unfolding junction_b
  junction-branch p by a b h f g sense s =
      bind-same (Few p) _ _ (h by s) (f by s) λ (x : List ℕ × State) u.
      ap (λ (q : Res (List ℕ × State)). bind q (junction_to (same by sense) x.0)) (g (length x.0) u sense x.1)

  arms-value : (a b : Value) (d : ℕ) (js : List ℕ × State) →
      ((s : State) → into_d a d (r - length js.0) s ≡ into_d a d (r' - length js.0) s) → ((s : State) → into_d b d r s ≡ into_d b d r' s) → arms_d a b d r js ≡ arms_d a b d r' js
  unfolding arms_d
  arms-value a b d js h g =
      let k : ℕ × State → Res (ℕ × State) = λ x. bind (turn_d js.0 d x.1) (λ y. bind (into_d b d r y.1) (λ z. patch_d (here x.1) d z.1)) in
      ap (λ (q : Res (ℕ × State)). bind q k) (h js.1)
      ∙ rest-same (into_d a d (r' - length js.0) js.1) (λ (x : ℕ × State).
      rest-same (turn_d js.0 d x.1) (λ (y : ℕ × State).
      ap (λ (q : Res (ℕ × State)). bind q (λ (z : ℕ × State). patch_d (here x.1) d z.1)) (g y.1)))

  ternary-value : (p : ℕ) (t : Branch) (a b : Value) → SameB t → ((sense : Bool) (s : State) → Given (Few p) (t sense r s)) →
      ((n : ℕ) → 2 * n ≤ p + 1 → (dst : Option ℕ) (s : State) → a dst (r - n) s ≡ a dst (r' - n) s) → SameV b → SameV (ternary_v t a b)
  unfolding ternary_v
  ternary-value p t a b h f g k dst s =
      rest-same (dest_d dst s) (λ (d : ℕ × State).
      bind-same (Few p) (arms_d a b d.0 r) (arms_d a b d.0 r') (h false d.1) (f false d.1) (λ (js : List ℕ × State) v.
      arms-value a b d.0 js
      (λ s. into-same a d.0 _ _ s (g (length js.0) v (Some d.0) s))
      (λ s. into-same b d.0 r r' s (k (Some d.0) s))))

pub record Same (t : Tree) (r r' : ℕ) : Type 0 where
  pub value : (dst : Option ℕ) (s : State) → (gen t).value dst r s ≡ (gen t).value dst r' s
  pub branch : (sense : Bool) (s : State) → (gen t).branch sense r s ≡ (gen t).branch sense r' s
  pub first : (dst : Option ℕ) (s : State) → (gen t).first dst r s ≡ (gen t).first dst r' s

tested : (r r' : ℕ) (v : Value) → 0 < r → 0 < r' → SameV r r' v → SameB r r' (test_b v)
tested r r' v p q h sense s = one-branch r r' p q (How.Bool sense) v s h

pub same-room : (t : Tree) (r r' : ℕ) → size t ≤ 2 * r → size t ≤ 2 * r' → Same t r r'
unfolding gen size leaf_v
same-room (leaf l) r r' h k =
    record { value = λ dst s. refl; branch = tested r r' (leaf_v l) (omega numbers) (omega numbers) (λ dst s. refl); first = λ dst s. refl }
same-room (unary minus a) r r' h k =
    let x = same-room a r r' (omega numbers) (omega numbers) in
    let v = one_value r r' minus_one (gen a).value x.value in
    record { value = v; branch = tested r r' (one_v minus_one (gen a).value) (omega numbers) (omega numbers) v; first = x.value }
same-room (unary not' a) r r' h k =
    let x = same-room a r r' (omega numbers) (omega numbers) in
    record { value = one_value r r' Tail.Not (gen a).value x.value; branch = λ sense s. x.branch (not sense) s; first = x.value }
same-room (binary (arith o) a b) r r' h k =
    let x = same-room a r r' (omega numbers) (omega numbers) in
    let y = same-room b r r' (omega numbers) (omega numbers) in
    let v = binary-value r r' (fold_of o a b) (three_of o) (gen a).value (gen a).first (gen b).value x.value x.first y.value in
    record { value = v; branch = tested r r' (binary_v (fold_of o a b) (three_of o) (gen a).value (gen a).first (gen b).value) (omega numbers) (omega numbers) v; first = x.value }
same-room (binary (cmp c) a b) r r' h k =
    let x = same-room a r r' (omega numbers) (omega numbers) in
    let y = same-room b r r' (omega numbers) (omega numbers) in
    let br = compare-branch r r' (omega numbers) (omega numbers) c (as_imm16 a) (as_imm16 b) (gen a).value (gen b).value x.value y.value in
    record { value = cond_value r r' (compare_b c (as_imm16 a) (as_imm16 b) (gen a).value (gen b).value) br; branch = br; first = x.value }
same-room (binary and a b) r r' h k =
    let x = same-room a r r' (omega numbers) (omega numbers) in
    let br = junction-branch r r' (size a) false (gen a).branch (gen b).branch x.branch (λ sense s. few a sense r s) (λ n f. (same-room b (r - n) (r' - n) (omega numbers) (omega numbers)).branch) in
    record { value = cond_value r r' (junction_b false (gen a).branch (gen b).branch) br; branch = br; first = x.value }
same-room (binary or a b) r r' h k =
    let x = same-room a r r' (omega numbers) (omega numbers) in
    let br = junction-branch r r' (size a) true (gen a).branch (gen b).branch x.branch (λ sense s. few a sense r s) (λ n f. (same-room b (r - n) (r' - n) (omega numbers) (omega numbers)).branch) in
    record { value = cond_value r r' (junction_b true (gen a).branch (gen b).branch) br; branch = br; first = x.value }
same-room (ternary c a b) r r' h k =
    let x = same-room c r r' (omega numbers) (omega numbers) in
    let z = same-room b r r' (omega numbers) (omega numbers) in
    let v = ternary-value r r' (size c) (gen c).branch (gen a).value (gen b).value x.branch (λ sense s. few c sense r s) (λ n f. (same-room a (r - n) (r' - n) (omega numbers) (omega numbers)).value) z.value in
    record { value = v; branch = tested r r' (ternary_v (gen c).branch (gen a).value (gen b).value) (omega numbers) (omega numbers) v; first = x.value }
