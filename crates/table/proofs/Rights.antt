-- The check's few tests: where they all hold, the node has no fault. Each law is over plain values, and `search` finds it.
use Rattle.std.specs.Prelude.{Option, Some, Ok}
use mathlib.Core.Path.{◌≡◌, refl, sym, ◌∙◌, ap}
use mathlib.Core.Bool.{Bool, true, false, not, cond, ◌&&◌, false≢true}
use mathlib.Core.List.{List}
use Prim.Native.Nat.{ℕ, zero, suc, ◌+◌, ◌-◌, ◌≤◌, ◌<◌, max}
use native.Mathlib.Omega.{arith}
use lib.Dec.{leb, ltb, eqb}
use mir.Syntax.{w64}
use mir.Val.{Fits}
use borrow.Author.Tests.{ltb-true, leb-true, leb-false, eqb-true, le-ltb, lt-leb, eq-eqb, ne_eqb}
use Rattle.faults.specs.Faults.{Checked, none, fault, ◌or_else◌}
use Rattle.faults.specs.Limits.{max_depth}
use Rattle.float.specs.Bits.{is_finite}
use Rattle.table.specs.Table.{node_count, kind_at, payload_at, first_at, depth_at, kind_fault, children, span_at, span_fault, limit_fault, node_fault, nodes_fault}
use Rattle.table.specs.Nodes.{Below, Last, Passed, Over, Right, PayloadRight}
use Rattle.faults.proofs.Faults.{second}
use Rattle.table.proofs.Nodes.{turn, turn-missing, turn-none, all-ok, first-le, below_of, no-fault}
use Rattle.table.proofs.Arities.{arity-0, arity-1, arity-2, arity-3}

-- ---- a node has no fault where none of its three parts has one

kind-none : (k p : ℕ) → ltb 26 k ≡ false → (not (eqb p 0) && not (leb 3 k && leb k 5)) ≡ false → (eqb k 4 && not (is_finite p)) ≡ false → kind_fault k p ≡ Ok tt
unfolding fault ◌or_else◌
kind-none k p f g h = rw (f, g, h)

span_none : (s : Option (ℕ × ℕ)) (e g f d : ℕ) → s ≡ Some (e, g) → f ≡ e → d ≡ g + 1 → span_fault s f d ≡ Ok tt
unfolding span_fault fault ◌or_else◌
span_none s e g f d q h k = rw (q, eq-eqb f e h, eq-eqb d (g + 1) k)

ref-below : (k p base : ℕ) → (k ≡ 5 → p < base) → (eqb k 5 && leb base p) ≡ false
ref-below k p base h = go (eqb k 5) refl
  where
    go : (t : Bool) → eqb k 5 ≡ t → (t && leb base p) ≡ false
    go true e = lt-leb base p (h (eqb-true k 5 e))
    go false e = refl

limit-none : (k p d base : ℕ) → d ≤ max_depth → (k ≡ 5 → p < base) → limit_fault k p d base ≡ Ok tt
unfolding fault ◌or_else◌
limit-none k p d base h r = rw (le-ltb max_depth d h, ref-below k p base r)

all_none : (ws : List ℕ) (base i : ℕ) → kind_fault (kind_at ws i) (payload_at ws i) ≡ Ok tt → span_fault (span_at ws i) (first_at ws i) (depth_at ws i) ≡ Ok tt
    → limit_fault (kind_at ws i) (payload_at ws i) (depth_at ws i) base ≡ Ok tt → node_fault ws base i ≡ Ok tt
unfolding node_fault
all_none ws base i f g h = second _ _ f ∙ second _ _ g ∙ h

-- ---- the returns of `node_right` and its parts

pub right-false : (ws : List ℕ) (base i : ℕ) → Right ws base i false
right-false ws base i = record { none = λ e. absurd (false≢true e) }

pub right-none : (ws : List ℕ) (base i : ℕ) {r : Bool} → Right ws base i r → r ≡ true → none ≡ node_fault ws base i
right-none ws base i q e = sym (q.none e)

-- ---- `payload_right`: the six kinds of a leaf, one after the other

and-false : (t : Bool) → (t && false) ≡ false
and-false true = refl
and-false false = refl

finite-of : (t : Bool) → ltb (cond t 0 1) 1 ≡ true → not t ≡ false
finite-of true e = refl
finite-of false e = absurd (false≢true e)

idle : (k p base : ℕ) → k < 3 → PayloadRight k p base (ltb p 1)
idle k p base h =
    record {
      known = λ e.
          let l : p < 1 = ltb-true p 1 e in
          let z : p ≡ 0 = omega arith in
          kind-none k p (le-ltb 26 k (omega arith)) (rw (eq-eqb p 0 z)) (rw (ne_eqb k 4 (λ q. omega arith)));
      refers = λ e q. absurd (omega arith);
    }

payload-of : (k p base : ℕ) → k ≤ 5 → PayloadRight k p base (ltb (cond (eqb k 4) (cond (is_finite p) 0 1) (cond (eqb k 3) 0 p)) (cond (eqb k 5) base 1))
payload-of zero p base h = idle 0 p base (omega arith)
payload-of (suc zero) p base h = idle 1 p base (omega arith)
payload-of (suc (suc zero)) p base h = idle 2 p base (omega arith)
payload-of (suc (suc (suc zero))) p base h =
    record { known = λ e. kind-none 3 p refl (and-false (not (eqb p 0))) refl; refers = λ e q. absurd (omega arith) }
payload-of (suc (suc (suc (suc zero)))) p base h =
    record { known = λ e. kind-none 4 p refl (and-false (not (eqb p 0))) (finite-of (is_finite p) e); refers = λ e q. absurd (omega arith) }
payload-of (suc (suc (suc (suc (suc zero))))) p base h =
    record { known = λ e. kind-none 5 p refl (and-false (not (eqb p 0))) refl; refers = λ e q. ltb-true p base e }
payload-of (suc (suc (suc (suc (suc (suc k)))))) p base h = absurd (omega arith)

pub payload-is : (k p base : ℕ) {f : Bool} {x a seen b : ℕ} → k ≤ 5 → f ≡ is_finite p → x ≡ cond f 0 1 → a ≡ cond (eqb k 3) 0 p → seen ≡ cond (eqb k 4) x a
    → b ≡ cond (eqb k 5) base 1 → PayloadRight k p base (ltb seen b)
payload-is k p base h hf hx ha hs hb = rw (hs, hb, hx, hf, ha) (payload-of k p base h)

-- ---- `leaf_right`

leaf-span : (ws : List ℕ) (i : ℕ) → kind_at ws i ≤ 5 → span_at ws i ≡ Some (i, 0)
unfolding children
leaf-span ws i h = rw (arity-0 (kind_at ws i) h)

pub leaf-is : (ws : List ℕ) (base i : ℕ) {k f d p : ℕ} {r : Bool} → k ≡ kind_at ws i → k ≤ 5 → f ≡ first_at ws i → f ≡ i → d ≡ depth_at ws i → d ≡ 1
    → p ≡ payload_at ws i → PayloadRight k p base r → Right ws base i r
leaf-is ws base i {k} {f} {d} {p} hk h hf ef hd ed hp q =
    let l : kind_at ws i ≤ 5 = omega arith in
    let s : depth_at ws i ≤ max_depth = omega arith in
    record {
      none = λ e.
          all_none ws base i
          (rw (← hk, ← hp) (q.known e))
          (span_none (span_at ws i) i 0 (first_at ws i) (depth_at ws i) (leaf-span ws i l) (sym hf ∙ ef) (sym hd ∙ ed))
          (limit-none (kind_at ws i) (payload_at ws i) (depth_at ws i) base s (λ z. rw (← hp) (q.refers e (hk ∙ z))));
    }

-- ---- `over_right`: the first child is what is left

inner-kind : (k p : ℕ) → 5 < k → k ≤ 26 → p ≡ 0 → kind_fault k p ≡ Ok tt
inner-kind k p g h z = kind-none k p (le-ltb 26 k h) (rw (eq-eqb p 0 z)) (rw (ne_eqb k 4 (λ q. omega arith)))

one_left : (ws : List ℕ) (e g : ℕ) → (e ≡ 0 → ⊥) → children ws 1 e g ≡ Some ((first_at ws (e - 1)), (max g (depth_at ws (e - 1))))
one_left ws e g h = turn ws 1 e g (omega arith) h ∙ turn-none ws 0 (first_at ws (e - 1)) (max g (depth_at ws (e - 1))) (omega arith)

pub over-is : (ws : List ℕ) (base i : ℕ) {e g f x d h m p : ℕ} → Over ws base i e g → (e ≡ 0 → ⊥) → f ≡ first_at ws i → x ≡ first_at ws (e - 1) → f ≡ x
    → d ≡ depth_at ws i → h ≡ depth_at ws (e - 1) → m ≡ max g h → d ≡ m + 1 → d ≤ max_depth → p ≡ payload_at ws i → Right ws base i (eqb p 0)
over-is ws base i {e} {g} {f} {x} {d} {h} {m} {p} o n hf hx ef hd hh hm ed s hp =
    let t : depth_at ws i ≤ max_depth = omega arith in
    let u : m ≡ max g (depth_at ws (e - 1)) = rw hh at hm in
    record {
      none = λ z.
          all_none ws base i
          (inner-kind (kind_at ws i) (payload_at ws i) o.inner o.known (sym hp ∙ eqb-true p 0 z))
          (span_none (span_at ws i) (first_at ws (e - 1)) (max g (depth_at ws (e - 1))) (first_at ws i) (depth_at ws i)
          (o.spans ∙ one_left ws e g n) (sym hf ∙ ef ∙ hx) (sym hd ∙ ed ∙ ap (λ y. y + 1) u))
          (limit-none (kind_at ws i) (payload_at ws i) (depth_at ws i) base t (λ q. absurd (let k = o.inner in omega arith)));
    }

pub over-fits : {ws : List ℕ} {base i e g h m : ℕ} (one : ℕ) → Over ws base i e g → (e ≡ 0 → ⊥) → h ≡ depth_at ws (e - 1) → m ≡ max g h → one ≤ 1 → Fits w64 (m + one)
over-fits {ws} {base} {i} {e} {g} one o n hh hm k =
    let l = o.low in
    let s = o.shallow in
    let t = (all-ok ws base i o.none (e - 1) (omega arith)).shallow in
    omega arith

-- ---- `node_right`: what is left to look at, by the kind

unary-left : (ws : List ℕ) (i g : ℕ) → (0 < i → g ≡ depth_at ws (i - 1)) → children ws 1 i 0 ≡ children ws 1 i g
unary-left ws zero g h = turn-missing ws 1 0 0 (omega arith) refl ∙ sym (turn-missing ws 1 0 g (omega arith) refl)
unary-left ws (suc j) g h =
    let q : g ≡ depth_at ws (suc j - 1) = h (omega arith) in
    let m : max 0 (depth_at ws (suc j - 1)) ≡ max g (depth_at ws (suc j - 1)) = omega arith in
    one_left ws (suc j) 0 (λ z. omega arith) ∙ ap (λ x. Some (first_at ws (suc j - 1), x)) m ∙ sym (one_left ws (suc j) g (λ z. omega arith))

-- past the last child
past-last : (ws : List ℕ) (n i e g : ℕ) → e ≤ i → (0 < i → e ≡ first_at ws (i - 1)) → (0 < i → g ≡ depth_at ws (i - 1)) → children ws (suc (suc n)) i 0 ≡ children ws (suc n) e g
past-last ws n zero e g l f d = turn-missing ws (suc (suc n)) 0 0 (omega arith) refl ∙ sym (turn-missing ws (suc n) e g (omega arith) (omega arith))
past-last ws n (suc j) e g l f d =
    let a : first_at ws (suc j - 1) ≡ e = sym (f (omega arith)) in
    let b : g ≡ depth_at ws (suc j - 1) = d (omega arith) in
    let m : max 0 (depth_at ws (suc j - 1)) ≡ g = omega arith in
    let s : suc (suc n) - 1 ≡ suc n = omega arith in
    turn ws (suc (suc n)) (suc j) 0 (omega arith) (λ z. omega arith) ∙ rw (a, m, s) refl

pub two-over : (ws : List ℕ) (base i : ℕ) {k e g r : ℕ} → Passed ws base i e g → k ≡ kind_at ws i → 5 < k → k ≤ 25 → r ≡ cond (leb k 7) i e → Over ws base i r g
two-over ws base i {k} {e} {g} p hk low high hr = rw hr (go (leb k 7) refl)
  where
    go : (t : Bool) → leb k 7 ≡ t → Over ws base i (cond t i e) g
    go true h =
        let l = leb-true k 7 h in
        record {
          inside = p.inside;
          none = p.none;
          inner = omega arith;
          known = omega arith;
          spans = ap (λ a. children ws a i 0) (arity-1 (kind_at ws i) (omega arith) (omega arith)) ∙ unary-left ws i g p.last.depth;
          low = omega arith;
          shallow = p.last.shallow;
        }
    go false h =
        let l = leb-false k 7 h in
        record {
          inside = p.inside;
          none = p.none;
          inner = omega arith;
          known = omega arith;
          spans = ap (λ a. children ws a i 0) (arity-2 (kind_at ws i) (omega arith) (omega arith)) ∙ past-last ws 0 i e g p.last.low p.last.first p.last.depth;
          low = p.last.low;
          shallow = p.last.shallow;
        }

pub three-over : (ws : List ℕ) (base i : ℕ) {e g f h m : ℕ} → Passed ws base i e g → kind_at ws i ≡ 26 → (e ≡ 0 → ⊥) → f ≡ first_at ws (e - 1)
    → h ≡ depth_at ws (e - 1) → m ≡ max g h → Over ws base i f m
three-over ws base i {e} {g} {f} {h} {m} p hk n hf hh hm =
    let l = p.last.low in
    let s = p.last.shallow in
    let t = (all-ok ws base i p.none (e - 1) (omega arith)).shallow in
    let u = first-le ws base i p.none (e - 1) (omega arith) in
    record {
      inside = p.inside;
      none = p.none;
      inner = omega arith;
      known = omega arith;
      spans = ap (λ a. children ws a i 0) (arity-3 (kind_at ws i) (omega arith)) ∙ past-last ws 1 i e g l p.last.first p.last.depth
          ∙ turn ws 2 e g (omega arith) n ∙ rw (hf, hm, hh) refl;
      low = omega arith;
      shallow = omega arith;
    }

pub below-passed : {ws : List ℕ} {base i e g : ℕ} → Passed ws base i e g → Below ws i
below-passed {ws} {base} {i} p = let h = p.inside in below_of ws base i (omega arith) p.none

pub ruleset rights = (right-false, right-none, payload-is, leaf-is, over-is, over-fits, two-over, three-over, below-passed)

-- ---- the loop of `nodes_fault`

pub last-zero : (ws : List ℕ) → Last ws 0 0 0
last-zero ws = record { first = λ h. absurd (omega arith); depth = λ h. absurd (omega arith); low = omega arith; shallow = omega arith }

pub last-next : (ws : List ℕ) (base i : ℕ) {r : Checked} {f d : ℕ} → nodes_fault ws base i ≡ Ok tt → r ≡ node_fault ws base i → r ≡ none → f ≡ first_at ws i → d ≡ depth_at ws i → Last ws (i + 1) f d
last-next ws base i n q z hf hd =
    let h = no-fault ws base i n q z in
    let s = (all-ok ws base (i + 1) h i (omega arith)).shallow in
    let l = first-le ws base (i + 1) h i (omega arith) in
    let e : i + 1 - 1 ≡ i = omega arith in
    record { first = λ _. rw e hf; depth = λ _. rw e hd; low = omega arith; shallow = omega arith }

pub passed : (ws : List ℕ) (base i : ℕ) {e g : ℕ} → i < node_count ws → nodes_fault ws base i ≡ Ok tt → Last ws i e g → Passed ws base i e g
passed ws base i h n l = record { inside = h; none = n; last = l }

pub ruleset loops = (last-zero, last-next, passed)
