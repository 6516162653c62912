-- What the constant slots have to show: when two constants are one, the search for a slot, and a slot that is taken.
use Rattle.std.specs.Prelude.{Option, Some, None, Result, Err}
use Rattle.faults.specs.declared.Fault.{Fault}
use Rattle.insns.specs.declared.Insn.{Insn}
use mathlib.Core.Path.{◌≡◌, refl, sym, ap, subst, ◌∙◌}
use mathlib.Core.Bool.{Bool, true, false, ◌&&◌, cond}
use mathlib.Core.List.{List, [], ◌∷◌, ◌++◌, map, map-append}
use mathlib.Core.Logic.{⊎_elim}
use Prim.Native.Nat.{ℕ, zero, suc, ◌+◌, ◌≤◌, ◌<◌, ◌^◌, min}
use native.Mathlib.Numerals.{add-one}
use native.Mathlib.Decide.{dec_lt}
use native.Mathlib.Omega.{arith}
use lib.Dec.{ltb, eqb}
use lib.IntN.{ℤ, pos, negsuc}
use lib.ListN.{length, take, drop, set, get_or, replicate, length-set, length-replicate, drop_of_length-le}
use lib.Seq.{length-take-le, take_all, take-suc-set, drop-cons, get_or-take}
use mir.Syntax.{w64}
use mir.Val.{to_z}
use mir.ValLaws.{of_z-to_z}
use borrow.Author.Tests.{lt-ltb, le-ltb, eq-eqb, eqb-true, ltb-true}
use Rattle.faults.specs.Numbers.{no_slot, no_fit}
use Rattle.int64.proofs.sign.Laws.{never}
use Rattle.value.specs.Value.{Datum, nil, bool, int, float, kind_of, payload_of, of_pair, datums}
use Rattle.value.proofs.PairLaws.{datums-length, datum-at}
use Rattle.insns.specs.declared.op.Op.{Op}
use Rattle.insns.specs.declared.op.Slot.TheVariants as Slot
use Rattle.insns.specs.Fields.{word_if}
use Rattle.insns.specs.Insns.{made_of}
use Rattle.emit.specs.declared.state.St.{St}
use Rattle.emit.specs.State.{same_int, alike, seek, slot_d, store_d, emit_d}
use Rattle.emit.specs.Steps.{const_to}
use Rattle.emit.specs.Read.{bufs, st_of, held_in, Held, const_of, found, Pair, Literal, Fit, Says, Steps}

-- ---- two constants that are one

int_is : (a b : ℤ) → same_int a b ≡ true → a ≡ b
int_is (pos a) (pos b) e = ap pos (eqb-true a b e)
int_is (pos a) (negsuc b) e = never (sym e)
int_is (negsuc a) (pos b) e = never (sym e)
int_is (negsuc a) (negsuc b) e = ap negsuc (eqb-true a b e)

pub int_same : (a : ℤ) → same_int a a ≡ true
int_same (pos a) = eq-eqb a a refl
int_same (negsuc a) = eq-eqb a a refl

pub alike_is : (x y : Datum) → alike x y ≡ true → x ≡ y
alike_is nil y e = never (sym e)
alike_is (bool b) y e = never (sym e)
alike_is (int a) nil e = never (sym e)
alike_is (int a) (bool b) e = never (sym e)
alike_is (int a) (int b) e = ap int (int_is a b e)
alike_is (int a) (float q) e = never (sym e)
alike_is (float p) nil e = never (sym e)
alike_is (float p) (bool b) e = never (sym e)
alike_is (float p) (int b) e = never (sym e)
alike_is (float p) (float q) e = ap float (eqb-true p q e)

-- a literal is its kind and its payload
module _ {k p : ℕ} (l : Literal k p) where
  by_kind : (P : ℕ → Type 0) → P 2 → P 3 → P k
  by_kind P a b = ⊎_elim (λ e. subst P (sym e) a) (λ e. subst P (sym e) b) l.is

  pub literal-kind : kind_of (const_of k p) ≡ k
  unfolding of_pair
  literal-kind = by_kind (λ n. kind_of (const_of n p) ≡ n) refl refl

  pub literal-payload : payload_of (const_of k p) ≡ p
  unfolding of_pair
  literal-payload = by_kind (λ n. payload_of (const_of n p) ≡ p) (of_z-to_z w64 p l.word) refl

  literal-same : alike (const_of k p) (const_of k p) ≡ true
  unfolding of_pair
  literal-same = by_kind (λ n. alike (const_of n p) (const_of n p) ≡ true) (int_same (to_z w64 p)) (eq-eqb p p refl)

-- a slot that is what its constant is written as holds a literal exactly where the bits are the same
module _ {a p k q : ℕ} (kind : kind_of (const_of a p) ≡ a) (payload : payload_of (const_of a p) ≡ p) (l : Literal k q) where
  pub bits-same : (eqb a k && eqb p q) ≡ alike (const_of a p) (const_of k q)
  bits-same = by (alike (const_of a p) (const_of k q)) refl
    where
      apart : (x y : Bool) → eqb a k ≡ x → eqb p q ≡ y → alike (const_of a p) (const_of k q) ≡ false → (x && y) ≡ false
      apart true true e f g =
          never (sym (literal-same l) ∙ sym (ap (λ (n : ℕ). alike (const_of n q) (const_of k q)) (eqb-true a k e)) ∙ sym (ap (λ (n : ℕ). alike (const_of a n) (const_of k q)) (eqb-true p q f)) ∙ g)
      apart true false e f g = refl
      apart false y e f g = refl

      by : (t : Bool) → alike (const_of a p) (const_of k q) ≡ t → (eqb a k && eqb p q) ≡ t
      by true e =
          let z : const_of a p ≡ const_of k q = alike_is (const_of a p) (const_of k q) e in
          let i : a ≡ k = sym kind ∙ ap kind_of z ∙ literal-kind l in
          let j : p ≡ q = sym payload ∙ ap payload_of z ∙ literal-payload l in
          rw (eq-eqb a k i, eq-eqb p q j) refl
      by false e = apart (eqb a k) (eqb p q) refl refl e

-- ---- the constants of the slots

get_d_map : (f : Datum → ℕ) (l : List Datum) (i : ℕ) → i < length l → get_or (map f l) i 0 ≡ f (get_or l i nil)
get_d_map f [] i h = absurd (omega arith)
get_d_map f (x ∷ l) zero h = refl
get_d_map f (x ∷ l) (suc i) h = get_d_map f l i (omega arith)

module _ {ks ps : List ℕ} {n : ℕ} (held : Held ks ps n) where
  pub slots-are : length (held_in ks ps n) ≡ n
  slots-are =
      let a = length-take-le n ks held.in_kinds in
      let b = length-take-le n ps held.in_payloads in
      let d = datums-length (take n ks) (take n ps) in
      omega arith

  module _ {i : ℕ} (h : i < n) where
    slot_at : get_or (held_in ks ps n) i nil ≡ const_of (get_or ks i 0) (get_or ps i 0)
    slot_at =
        let a = length-take-le n ks held.in_kinds in
        let b = length-take-le n ps held.in_payloads in
        datum-at (take n ks) (take n ps) i (omega arith) (omega arith)
        ∙ ap (λ (x : ℕ). const_of x (get_or (take n ps) i 0)) (get_or-take n ks i 0 h)
        ∙ ap (λ (x : ℕ). const_of (get_or ks i 0) x) (get_or-take n ps i 0 h)

    slot-kind : kind_of (const_of (get_or ks i 0) (get_or ps i 0)) ≡ get_or ks i 0
    slot-kind =
        let a = slots-are in
        ap kind_of (sym slot_at)
        ∙ sym (get_d_map kind_of (held_in ks ps n) i (omega arith))
        ∙ sym (ap (λ (x : List ℕ). get_or x i 0) held.as_kinds)
        ∙ get_or-take n ks i 0 h

    slot-payload : payload_of (const_of (get_or ks i 0) (get_or ps i 0)) ≡ get_or ps i 0
    slot-payload =
        let a = slots-are in
        ap payload_of (sym slot_at)
        ∙ sym (get_d_map payload_of (held_in ks ps n) i (omega arith))
        ∙ sym (ap (λ (x : List ℕ). get_or x i 0) held.as_payloads)
        ∙ get_or-take n ps i 0 h

-- ---- the search, from place i on

abbrev from : Datum → List Datum → ℕ → ℕ
from v ds i = i + seek v (drop i ds)

from_next : (v : Datum) (ds : List Datum) (i : ℕ) → i < length ds → from v ds i ≡ cond (alike (get_or ds i nil) v) i (from v ds (i + 1))
unfolding seek
from_next v ds i h = rw (drop-cons ds i nil h, add-one i) (go (alike (get_or ds i nil) v))
  where
    go : (b : Bool) → i + cond b 0 (suc (seek v (drop (suc i) ds))) ≡ cond b i (suc i + seek v (drop (suc i) ds))
    go true = omega arith
    go false = omega arith

from_end : (v : Datum) (ds : List Datum) (i : ℕ) → length ds ≤ i → from v ds i ≡ i
unfolding seek
from_end v ds i h = rw (drop_of_length-le ds h) (omega arith)

-- what is left finds what the whole finds
pub record Seeking (ks ps : List ℕ) (n : ℕ) (v : Datum) (i : ℕ) : Type 0 where
  pub held : Held ks ps n
  pub low : i ≤ n
  pub same : from v (held_in ks ps n) i ≡ seek v (held_in ks ps n)

pub seek-start : {ks ps : List ℕ} {n : ℕ} {v : Datum} → Held ks ps n → Seeking ks ps n v 0
seek-start h = record { held = h; low = omega arith; same = omega arith }

module _ {ks ps : List ℕ} {n : ℕ} {v : Datum} {i : ℕ} (s : Seeking ks ps n v i) where
  pub seek-kinds : i < n → i < length ks
  seek-kinds h = let a = s.held.in_kinds in omega arith

  pub seek-payloads : i < n → i < length ps
  seek-payloads h = let a = s.held.in_payloads in omega arith

  pub seek-pair : i < n → Pair (get_or ks i 0) (get_or ps i 0)
  seek-pair h = record { as_kind = slot-kind s.held h; as_payload = slot-payload s.held h }

  module _ {b : Bool} (h : i < n) (e : b ≡ alike (const_of (get_or ks i 0) (get_or ps i 0)) v) where
    next : cond b i (from v (held_in ks ps n) (i + 1)) ≡ seek v (held_in ks ps n)
    next =
        let d = slots-are s.held in
        ap (λ (x : Bool). cond x i (from v (held_in ks ps n) (i + 1))) (e ∙ ap (λ (x : Datum). alike x v) (sym (slot_at s.held h)))
        ∙ sym (from_next v (held_in ks ps n) i (omega arith))
        ∙ s.same

    pub seek_hit : b ≡ true → Some i ≡ found (seek v (held_in ks ps n)) n
    seek_hit y =
        let q : i ≡ seek v (held_in ks ps n) = sym (ap (λ (x : Bool). cond x i (from v (held_in ks ps n) (i + 1))) y) ∙ next in
        rw (← q, lt-ltb i n h)

    pub seek-miss : b ≡ false → Seeking ks ps n v (i + 1)
    seek-miss y =
        record {
          held = s.held;
          low = omega arith;
          same = sym (ap (λ (x : Bool). cond x i (from v (held_in ks ps n) (i + 1))) y) ∙ next;
        }

  pub seek-done : n ≤ i → None ≡ found (seek v (held_in ks ps n)) n
  seek-done h =
      let d = slots-are s.held in
      let q : i ≡ seek v (held_in ks ps n) = sym (from_end v (held_in ks ps n) i (omega arith)) ∙ s.same in
      rw (← q, le-ltb i n h)

pub ruleset seeks = (seek-start, seek-kinds, seek-payloads, seek-pair, seek_hit, seek-miss, seek-done)

-- what was found is a place
found-some : {s n k : ℕ} {r : Option ℕ} → r ≡ found s n → r ≡ Some k → (k ≡ s) × (k < n)
found-some {s} {n} {k} e h = go' (ltb s n) refl (sym e ∙ h)
  where
    go' : (b : Bool) → ltb s n ≡ b → cond b (Some s) None ≡ Some k → (k ≡ s) × (k < n)
    go' true l q = let z : s ≡ k = cc in let m : s < n = ltb-true s n l in (sym z, omega arith)
    go' false l q = absurd (let z : ◌≡◌ {A = ℕ} 0 1 = cc in omega arith)

found-none : {s n : ℕ} {r : Option ℕ} → r ≡ found s n → r ≡ None → n ≤ s
found-none {s} {n} e h =
    elim (dec_lt s n) [
      | no g ↦ omega arith
      | yes g ↦ (let q : Some s ≡ None = rw (lt-ltb s n g) at (sym e ∙ h) in absurd (let z : ◌≡◌ {A = ℕ} 0 1 = cc in omega arith))
    ]

-- ---- slots of zeros: they are what Nil is written as

nils : (n : ℕ) → (replicate {A = ℕ} n 0 ≡ map kind_of (datums (replicate {A = ℕ} n 0) (replicate {A = ℕ} n 0))) × (replicate {A = ℕ} n 0 ≡ map payload_of (datums (replicate {A = ℕ} n 0) (replicate {A = ℕ} n 0)))
unfolding datums of_pair
nils zero = (refl, refl)
nils (suc n) = let h = nils n in (ap (λ (l : List ℕ). 0 ∷ l) h.0, ap (λ (l : List ℕ). 0 ∷ l) h.1)

pub zeros-held : (n : ℕ) → Held (replicate {A = ℕ} n 0) (replicate {A = ℕ} n 0) n
zeros-held n =
    let l : length (replicate {A = ℕ} n 0) ≡ n = length-replicate {A = ℕ} n 0 in
    let t : take n (replicate {A = ℕ} n 0) ≡ replicate {A = ℕ} n 0 = take_all n (replicate {A = ℕ} n 0) (omega arith) in
    record { in_kinds = omega arith; in_payloads = omega arith; as_kinds = rw t (nils n).0; as_payloads = rw t (nils n).1 }

-- ---- one slot more

datums-more : (xs ys : List ℕ) (a b : ℕ) → length xs ≡ length ys → datums (xs ++ (a ∷ [])) (ys ++ (b ∷ [])) ≡ datums xs ys ++ (const_of a b ∷ [])
unfolding datums
datums-more [] [] a b e = refl
datums-more [] (y ∷ ys) a b e = absurd (omega arith)
datums-more (x ∷ xs) [] a b e = absurd (omega arith)
datums-more (x ∷ xs) (y ∷ ys) a b e = ap (λ (l : List Datum). const_of x y ∷ l) (datums-more xs ys a b (omega arith))

module _ {ks ps : List ℕ} {n k p : ℕ} (held : Held ks ps n) (l : Literal k p) (in_kinds : n < length ks) (in_payloads : n < length ps) where
  held_more : held_in (set ks n k) (set ps n p) (n + 1) ≡ held_in ks ps n ++ (const_of k p ∷ [])
  held_more =
      rw (add-one n, take-suc-set ks n k in_kinds, take-suc-set ps n p in_payloads)
      (datums-more (take n ks) (take n ps) k p (length-take-le n ks held.in_kinds ∙ sym (length-take-le n ps held.in_payloads)))

  more-as : (f : Datum → ℕ) (now : List ℕ) (x : ℕ) → n < length now → take n now ≡ map f (held_in ks ps n) → f (const_of k p) ≡ x →
      take (n + 1) (set now n x) ≡ map f (held_in (set ks n k) (set ps n p) (n + 1))
  more-as f now x i e g =
      ap (λ (m : ℕ). take m (set now n x)) (add-one n)
      ∙ take-suc-set now n x i
      ∙ ap (λ (q : List ℕ). q ++ (x ∷ [])) e
      ∙ ap (λ (q : ℕ). map f (held_in ks ps n) ++ (q ∷ [])) (sym g)
      ∙ sym (map-append f (held_in ks ps n) (const_of k p ∷ []))
      ∙ ap (map f) (sym held_more)

  held_after : Held (set ks n k) (set ps n p) (n + 1)
  held_after =
      record {
        in_kinds = simp length-set (omega arith);
        in_payloads = simp length-set (omega arith);
        as_kinds = more-as kind_of ks k in_kinds held.as_kinds (literal-kind l);
        as_payloads = more-as payload_of ps p in_payloads held.as_payloads (literal-payload l);
      }

-- ---- a constant and its word

pub far-slot : (d k : ℕ) → 4294967295 < k → None ≡ made_of (Op.Slot Slot.LoadConst d k)
unfolding word_if
far-slot d k h = rw (le-ltb k (2 ^ 32) h) (go' (ltb d (2 ^ 16)) _)
  where
    go' : (t : Bool) (w : Option Insn) → None ≡ cond (t && false) w None
    go' true w = refl
    go' false w = refl

pub slot-far : (c : List ℕ) (d k : ℕ) (st : St) → 4294967295 < k → Steps c c st (Err no_fit) (emit_d (Op.Slot Slot.LoadConst d k) d)
unfolding store_d
slot-far c d k st h ks ps fit = let m : made_of (Op.Slot Slot.LoadConst d k) ≡ None = sym (far-slot d k h) in record { is = rw m; fit = tt }

abbrev taken : St → St
taken st = record { count = st.count; slots = st.slots + 1; next = st.next; frame = st.frame }

module _ {c ks ps : List ℕ} {st : St} (fit : Fit (bufs c ks ps) st) (v : Datum) (d : ℕ) {at : Option ℕ} (is_at : at ≡ found (seek v (held_in ks ps st.slots)) st.slots) where
  -- a slot holds it
  pub const-shared : {k : ℕ} {c' : List ℕ} {r : Result (ℕ × St) Fault} → at ≡ Some k → Steps c c' st r (emit_d (Op.Slot Slot.LoadConst d k) d) →
      Says (bufs c' ks ps) r (const_to v (d, st_of (bufs c ks ps) st))
  unfolding const_to slot_d
  const-shared h s =
      let q = s ks ps fit in
      let n = slots-are fit.consts in
      let f = found-some is_at h in
      let i : seek v (held_in ks ps st.slots) < length (held_in ks ps st.slots) = omega arith in
      record { is = q.is ∙ rw (lt-ltb _ _ i, ← f.0); fit = q.fit }

  module _ (new : at ≡ None) where
    none : ltb (seek v (held_in ks ps st.slots)) (length (held_in ks ps st.slots)) ≡ false
    none =
        let n = slots-are fit.consts in
        let f = found-none is_at new in
        let i : length (held_in ks ps st.slots) ≤ seek v (held_in ks ps st.slots) = omega arith in
        le-ltb _ _ i

    full : min (length ks) (length ps) ≤ st.slots → Says (bufs c ks ps) (Err no_slot) (const_to v (d, st_of (bufs c ks ps) st))
    unfolding const_to slot_d
    full h = record { is = rw (none, slots-are fit.consts, le-ltb st.slots (min (length ks) (length ps)) h); fit = tt }

    pub const-full-kinds : length ks ≤ st.slots → Says (bufs c ks ps) (Err no_slot) (const_to v (d, st_of (bufs c ks ps) st))
    const-full-kinds h = full (omega arith)

    pub const-full-payloads : length ps ≤ st.slots → Says (bufs c ks ps) (Err no_slot) (const_to v (d, st_of (bufs c ks ps) st))
    const-full-payloads h = full (omega arith)

    -- a new slot
    pub const-put : {k p : ℕ} → Literal k p → const_of k p ≡ v → {c' : List ℕ} {r : Result (ℕ × St) Fault} → st.slots < length ks → st.slots < length ps →
        Steps c c' (taken st) r (emit_d (Op.Slot Slot.LoadConst d st.slots) d) →
        Says (bufs c' (set ks st.slots k) (set ps st.slots p)) r (const_to v (d, st_of (bufs c ks ps) st))
    unfolding const_to slot_d
    const-put {k} {p} l e a b s =
        let q = s (set ks st.slots k) (set ps st.slots p) (record { words = fit.words; consts = held_after fit.consts l a b }) in
        let i : length (set ks st.slots k) ≡ length ks = length-set ks st.slots k in
        let j : length (set ps st.slots p) ≡ length ps = length-set ps st.slots p in
        record {
          is = q.is ∙ rw (none, slots-are fit.consts, lt-ltb st.slots (min (length ks) (length ps)) (omega arith), held_more fit.consts l a b, i, j, ← e);
          fit = q.fit;
        }

pub ruleset slots = (slot-far, const-shared, const-full-kinds, const-full-payloads, const-put)
