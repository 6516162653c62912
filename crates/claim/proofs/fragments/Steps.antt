-- The steps of the generator: each gives what is written here, or is refused because less is lent than is needed.
use Rattle.faults.specs.declared.Fault.{Fault}
use Rattle.std.specs.Prelude.{Option, Some, None}
use mathlib.Core.Path.{◌≡◌, refl, sym, ap, subst}
use mathlib.Core.Bool.{Bool, true, false, cond}
use mathlib.Core.List.{List, [], ◌∷◌, ◌++◌, append-nil}
use Prim.Native.Nat.{ℕ, suc, ◌+◌, ◌≤◌, ◌<◌, max}
use native.Mathlib.Omega.{arith}
use lib.Dec.{ltb, leb}
use lib.ListN.{length}
use borrow.Author.Tests.{ltb-true, ltb-false, leb-true, leb-false}
use Rattle.faults.specs.Limits.{max_registers}
use Rattle.faults.specs.Numbers.{no_register, no_slot, no_room}
use Rattle.insns.specs.declared.op.Op.{Op}
use Rattle.decode.specs.Patch.{Patching, patch_of, patch_all}
use Rattle.value.specs.Value.{Datum}
use Rattle.emit.specs.State.{Res, done, fail, bind, State, alloc_d, dest_d, seek, fresh, slot_d, store_d, emit_d}
use Rattle.emit.specs.Jump.{patched_d, patch_d, patches_d, leap_d, jump_d}
use Rattle.emit.specs.Steps.{put_d}
use Rattle.claim.specs.Refusals.{Amounts, lent, Lacks, register, slot, word, place}
use Rattle.claim.proofs.fragments.Shared.{seek-none}
use Rattle.claim.proofs.fragments.Frag.{DstLow, d_reg, d_next, d_need}
use Rattle.claim.proofs.fragments.Fits.{word as word_of, Fits, made}
use Rattle.claim.proofs.fragments.Open.{patched}

-- ---- an answer that is `a`, and then P holds; or a refusal, and then W holds of its fault

pub data Met {A : Type 0} (W : Fault → Type 0) (x : Res A) (a : A) (P : Type 0) : Type 0 where
  met : x ≡ done a → P → Met W x a P
  refused : (e : Fault) → x ≡ fail e → W e → Met W x a P

pub met-bind :
    {A B P Q : Type 0} {W : Fault → Type 0} (k : A → Res B) {x : Res A} {a : A} {c : B} → Met W x a P → (P → Met W (k a) c Q) → Met W (bind x k) c Q
met-bind {Q} {W} k {a} {c} (met e p) m = subst (λ (y : Res _). Met W (bind y k) c Q) (sym e) (m p)
met-bind k (refused n e h) m = refused n (ap (λ (y : Res _). bind y k) e) h

pub met-eq : {A P : Type 0} {W : Fault → Type 0} {x : Res A} {a b : A} → a ≡ b → Met W x a P → Met W x b P
met-eq {P} {W} {x} e m = subst (λ (y : _). Met W x y P) e m

pub met-then : {A P Q : Type 0} {W : Fault → Type 0} {x : Res A} {a : A} → Met W x a P → (P → Q) → Met W x a Q
met-then (met e p) f = met e (f p)
met-then (refused n e h) f = refused n e h

met-cond : {A P : Type 0} {W : Fault → Type 0} (t : Bool) (a : A) (e : Fault) → (t ≡ false → W e) → (t ≡ true → P) → Met W (cond t (done a) (fail e)) a P
met-cond true a e h p = met refl (p refl)
met-cond false a e h p = refused e refl (h refl)

-- ---- states

abbrev pub st : ℕ → ℕ → List ℕ → List Datum → ℕ → ℕ → State
st cap slot_cap c ks n f = record { words = c; cap = cap; slots = ks; slot_cap = slot_cap; next = n; frame = f }

pub state-eq :
    {cap slot_cap : ℕ} {A : Type 0} (a : A) {c c' : List ℕ} {ks ks' : List Datum} {n n' f f' : ℕ} → c ≡ c' → ks ≡ ks' → n ≡ n' → f ≡ f' →
    ◌≡◌ {A = A × State} (a, st cap slot_cap c ks n f) (a, st cap slot_cap c' ks' n' f')
state-eq {cap} {slot_cap} a e g h l = λ i. (a, st cap slot_cap (e i) (g i) (h i) (l i))

-- a register that can be named, and the free ones after it
pub record Taken (dst : Option ℕ) (n : ℕ) : Type 0 where
  pub low : d_reg dst n < max_registers
  pub top : d_next dst n ≤ max_registers
  pub next : d_next dst n ≤ suc n
  pub reach : d_need dst n ≤ suc n

-- ---- for what is needed in all, and what is lent: places, words and slots

abbrev pub Lacking : Amounts → ℕ → ℕ → ℕ → Fault → Type 0
Lacking need places cap slot_cap = Lacks need (lent places cap slot_cap)

module _ {need : Amounts} {places cap slot_cap : ℕ} where
  -- registers and slots

  pub dest-met :
      (dst : Option ℕ) (c : List ℕ) (ks : List Datum) (n f : ℕ) → n ≤ max_registers → DstLow dst max_registers → n < need.registers →
      Met (Lacking need places cap slot_cap) (dest_d dst (st cap slot_cap c ks n f)) (d_reg dst n, st cap slot_cap c ks (d_next dst n) (max f (d_need dst n))) (Taken dst n)
  unfolding dest_d alloc_d
  dest-met None c ks n f top low few =
      met-eq (state-eq n refl refl (omega arith) (omega arith))
      (met-cond (ltb n max_registers) (n, st cap slot_cap c ks (n + 1) (max f (n + 1))) no_register
      (λ h. register (omega (arith, ltb-false n max_registers h)))
      (λ h. let l = ltb-true n max_registers h in record { low = l; top = omega arith; next = omega arith; reach = omega arith }))
  dest-met (Some d) c ks n f top low few =
      met-eq (state-eq d refl refl refl (omega arith)) (met refl (record { low = low; top = top; next = omega arith; reach = omega arith }))

  slot-by :
      (t : Bool) (v : Datum) (c : List ℕ) (ks : List Datum) (n f : ℕ) → length ks < need.slots → ltb (seek v ks) (length ks) ≡ t →
      Met {A = ℕ × State} (Lacking need places cap slot_cap)
      (cond t (done (seek v ks, st cap slot_cap c ks n f)) (cond (ltb (length ks) slot_cap) (done (length ks, st cap slot_cap c (ks ++ v ∷ []) n f)) (fail no_slot)))
      (seek v ks, st cap slot_cap c (ks ++ cond t [] (v ∷ [])) n f) (Unit {0})
  slot-by true v c ks n f few e = met-eq (state-eq (seek v ks) refl (sym (append-nil ks)) refl refl) (met refl tt)
  slot-by false v c ks n f few e =
      rw (seek-none v ks e)
      (met-cond (ltb (length ks) slot_cap) (length ks, st cap slot_cap c (ks ++ v ∷ []) n f) no_slot
      (λ h. slot (omega (arith, ltb-false (length ks) slot_cap h))) (λ h. tt))

  pub slot-met :
      (v : Datum) (c : List ℕ) (ks : List Datum) (n f : ℕ) → length ks < need.slots →
      Met (Lacking need places cap slot_cap) (slot_d v (st cap slot_cap c ks n f)) (seek v ks, st cap slot_cap c (ks ++ fresh v ks) n f) (Unit {0})
  unfolding slot_d
  slot-met v c ks n f few = slot-by (ltb (seek v ks) (length ks)) v c ks n f few refl

  -- words

  pub emit-met :
      (i : Op) (d : ℕ) (c : List ℕ) (ks : List Datum) (n f : ℕ) → Fits i → length c < need.words →
      Met (Lacking need places cap slot_cap) (emit_d i d (st cap slot_cap c ks n f)) (d, st cap slot_cap (c ++ word_of i ∷ []) ks n f) (Unit {0})
  unfolding store_d
  emit-met i d c ks n f h few =
      rw (made h)
      (met-cond (ltb (length c) cap) (d, st cap slot_cap (c ++ word_of i ∷ []) ks n f) no_room
      (λ w. word (omega (arith, ltb-false (length c) cap w))) (λ w. tt))

  pub put-met :
      (i : ℕ → Op) (dst : Option ℕ) (c : List ℕ) (ks : List Datum) (n f : ℕ) → n ≤ max_registers → DstLow dst max_registers →
      ((d : ℕ) → d < max_registers → Fits (i d)) → n < need.registers → length c < need.words →
      Met (Lacking need places cap slot_cap) (put_d i dst (st cap slot_cap c ks n f)) (d_reg dst n, st cap slot_cap (c ++ word_of (i (d_reg dst n)) ∷ []) ks (d_next dst n) (max f (d_need dst n))) (Taken dst n)
  unfolding put_d
  put-met i dst c ks n f top low h regs few =
      met-bind _ (dest-met dst c ks n f top low regs)
      (λ t. met-then (emit-met (i (d_reg dst n)) (d_reg dst n) c ks (d_next dst n) (max f (d_need dst n)) (h (d_reg dst n) t.low) few) (λ u. t))

  -- with p places left in the jump list
  pub jump-met :
      (i : Op) (p : ℕ) (c : List ℕ) (ks : List Datum) (n f : ℕ) → Fits i → length c < need.words → (need.places ≤ places → 0 < p) →
      Met (Lacking need places cap slot_cap) (jump_d i p (st cap slot_cap c ks n f)) (length c ∷ [], st cap slot_cap (c ++ word_of i ∷ []) ks n f) (Unit {0})
  unfolding leap_d
  jump-met i p c ks n f h few some = go (ltb 0 p) refl
    where
      lacking : (b : Bool) → leb need.places places ≡ b → p ≤ 0 → places < need.places
      lacking true e none = absurd (omega (arith, some (leb-true need.places places e)))
      lacking false e none = leb-false need.places places e

      go :
          (t : Bool) → ltb 0 p ≡ t →
          Met {A = List ℕ × State} (Lacking need places cap slot_cap) (cond t (bind (emit_d i 0 (st cap slot_cap c ks n f)) (λ x. done (length c ∷ [], x.1))) (fail no_room))
          (length c ∷ [], st cap slot_cap (c ++ word_of i ∷ []) ks n f) (Unit {0})
      go true e = met-bind _ (emit-met i 0 c ks n f h few) (λ u. met refl tt)
      go false e = refused no_room refl (place (lacking (leb need.places places) refl (ltb-false 0 p e)))

-- ---- patches

patched-met :
    {W : Fault → Type 0} {cap slot_cap : ℕ} (r : Patching) (d : ℕ) (c c' : List ℕ) (ks : List Datum) (n f : ℕ) → r ≡ patched c' →
    Met W (patched_d r d (st cap slot_cap c ks n f)) (d, st cap slot_cap c' ks n f) (Unit {0})
unfolding patched_d
patched-met r d c c' ks n f e = rw e (met refl tt)

pub patch-met :
    {W : Fault → Type 0} {cap slot_cap : ℕ} (p d : ℕ) (c c' : List ℕ) (ks : List Datum) (n f : ℕ) → patch_of c p (length c) ≡ patched c' →
    Met W (patch_d p d (st cap slot_cap c ks n f)) (d, st cap slot_cap c' ks n f) (Unit {0})
patch-met p d c c' ks n f e = patched-met (patch_of c p (length c)) d c c' ks n f e

pub patches-met :
    {W : Fault → Type 0} {cap slot_cap : ℕ} (js : List ℕ) (d : ℕ) (c c' : List ℕ) (ks : List Datum) (n f : ℕ) → patch_all c js (length c) ≡ patched c' →
    Met W (patches_d js d (st cap slot_cap c ks n f)) (d, st cap slot_cap c' ks n f) (Unit {0})
patches-met js d c c' ks n f e = patched-met (patch_all c js (length c)) d c c' ks n f e
