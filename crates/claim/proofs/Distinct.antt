-- Each constant of a fragment is new to the slots before it, and one of the fragment's words loads it.
use Rattle.std.specs.Prelude.{Option, Some, None}
use Rattle.insns.specs.declared.op.Imm16.{Imm16}
use Rattle.fold.specs.declared.Tail.{Tail}
use mathlib.Core.Path.{◌≡◌, refl, sym, ap, subst, ◌∙◌}
use mathlib.Core.Bool.{Bool, true, false, not, cond}
use mathlib.Core.List.{List, [], ◌∷◌, ◌++◌, append_assoc, append-nil}
use Prim.Native.Nat.{ℕ, zero, suc, ◌+◌, ◌≤◌, ◌<◌}
use native.Mathlib.Decide.{dec_lt}
use native.Mathlib.Omega.{arith as linear}
use lib.Dec.{ltb}
use lib.IntN.{ℤ}
use lib.ListN.{length, get_or, length-append, get_or-append}
use lib.Seq.{get_or_at}
use borrow.Author.Tests.{eq-eqb}
use Rattle.int64.proofs.sign.Laws.{never}
use Rattle.value.specs.Value.{Datum}
use Rattle.value.specs.Value as Val
use Rattle.table.specs.Tree.{Tree, leaf, unary, binary, ternary, Leaf, nil, yep, nope, int, float, ref, Unary, minus, not', Cmp, Binary, arith, cmp, and, or}
use Rattle.insns.specs.declared.op.Op.{Op}
use Rattle.insns.specs.declared.op.Three.{Three}
use Rattle.fold.specs.Literal.{fits_imm40, as_imm16}
use Rattle.fold.specs.Fold.{fold_of, minus_one, takes_shift}
use Rattle.fold.specs.Opcodes.{three_of}
use Rattle.emit.specs.Steps.{raw_true, raw_false}
use Rattle.emit.specs.State.{State, alike, seek, fresh}
use Rattle.emit.proofs.ConstLaws.{int_same}
use Rattle.codegen.specs.Gen.{same}
use Rattle.claim.specs.Shared.{Loaded, SharesSlots}
use Rattle.claim.proofs.fragments.Frag.{Vf, Bf, ValueF, BranchF, Frag, d_reg, d_next, const_op, jmp_by, moved, load_f, leaf_f, int_f, into_f, second, join_f, arith_f, tail_f, compare_f, cond_f, tern_f, junc_b, unary_n, binary_n, frag}
use Rattle.claim.proofs.fragments.Fits.{word, words_of, Fits, made, AllFit}
use Rattle.claim.proofs.fragments.Shared.{seek-none}
use Rattle.claim.proofs.fragments.Whole.{words-length}
use Rattle.claim.proofs.Known.{whole, known}

-- ---- a word that loads slot k

record In (code : List Op) (k : ℕ) : Type 0 where
  front : List Op
  reg : ℕ
  back : List Op
  is : code ≡ front ++ const_op k reg ∷ back

in_left : (a b : List Op) {k : ℕ} → In a k → In (a ++ b) k
in_left a b {k} i =
    record {
      front = i.front;
      reg = i.reg;
      back = i.back ++ b;
      is = ap (λ (l : List Op). l ++ b) i.is ∙ append_assoc i.front (const_op k i.reg ∷ i.back) b;
    }

in_right : (a b : List Op) {k : ℕ} → In b k → In (a ++ b) k
in_right a b {k} i =
    record {
      front = a ++ i.front;
      reg = i.reg;
      back = i.back;
      is = ap (λ (l : List Op). a ++ l) i.is ∙ sym (append_assoc a i.front (const_op k i.reg ∷ i.back));
    }

-- ---- constants cs, new to the slots ks and to one another, and loaded by the words

abbrev Distinct : List Datum → Type 0
Distinct ks = (j k : ℕ) → j < k → k < length ks → get_or ks j Val.nil ≡ get_or ks k Val.nil → ⊥

record Good (ks cs : List Datum) (code : List Op) : Type 0 where
  apart : Distinct ks → Distinct (ks ++ cs)
  loads : (k : ℕ) → length ks ≤ k → k < length ks + length cs → In code k

nothing : (ks : List Datum) (code : List Op) → Good ks [] code
nothing ks code = record { apart = λ d. subst Distinct (sym (append-nil ks)) d; loads = λ k lo hi. absurd (omega linear) }

lift : {ks cs : List Datum} {a b : List Op} → ((k : ℕ) → In a k → In b k) → Good ks cs a → Good ks cs b
lift f g = record { apart = g.apart; loads = λ k lo hi. f k (g.loads k lo hi) }

both :
    (ks cs ds : List Datum) {a b c : List Op} → Good ks cs a → Good (ks ++ cs) ds b → ((k : ℕ) → In a k → In c k) → ((k : ℕ) → In b k → In c k) →
    Good ks (cs ++ ds) c
both ks cs ds g h f e =
    record {
      apart = λ d. subst Distinct (append_assoc ks cs ds) (h.apart (g.apart d));
      loads = λ k lo hi.
          let x = length-append ks cs in
          let y = length-append cs ds in
          elim (dec_lt k (length ks + length cs)) [
            | no n ↦ e k (h.loads k (omega linear) (omega linear))
            | yes n ↦ f k (g.loads k lo n)
          ];
    }

-- ---- a constant

seek-before : (v : Datum) (ks : List Datum) (j : ℕ) → j < seek v ks → alike (get_or ks j Val.nil) v ≡ false
unfolding seek
seek-before v [] j h = absurd (omega linear)
seek-before v (x ∷ xs) j h = go (alike x v) refl j h (seek-before v xs)
  where
    go : (t : Bool) → alike x v ≡ t → (j : ℕ) → j < cond t 0 (suc (seek v xs)) → ((j : ℕ) → j < seek v xs → alike (get_or xs j Val.nil) v ≡ false) →
        alike (get_or (x ∷ xs) j Val.nil) v ≡ false
    go true e j h again = absurd (omega linear)
    go false e zero h again = e
    go false e (suc j) h again = again j (omega linear)

module _ (v : Datum) (self : alike v v ≡ true) (ks : List Datum) where
  new_apart : seek v ks ≡ length ks → Distinct ks → Distinct (ks ++ v ∷ [])
  new_apart none d j k lt hi e =
      let n = length-append ks (v ∷ []) in
      let a : get_or (ks ++ v ∷ []) j Val.nil ≡ get_or ks j Val.nil = get_or-append ks (v ∷ []) Val.nil j (omega linear) in
      elim (dec_lt k (length ks)) [
        | no i ↦ (let z : length ks ≡ k = omega linear in let w : get_or ks j Val.nil ≡ v = sym a ∙ e ∙ get_or_at ks v [] Val.nil k z in never (sym self ∙ ap (λ (x : Datum). alike x v) (sym w) ∙ seek-before v ks j (omega linear)))
        | yes i ↦ d j k lt i (sym a ∙ e ∙ get_or-append ks (v ∷ []) Val.nil k i)
      ]

  const-good : (d : ℕ) → Good ks (fresh v ks) (const_op (seek v ks) d ∷ [])
  const-good d = go (ltb (seek v ks) (length ks)) refl
    where
      go : (t : Bool) → ltb (seek v ks) (length ks) ≡ t → Good ks (cond t [] (v ∷ [])) (const_op (seek v ks) d ∷ [])
      go true e = nothing ks (const_op (seek v ks) d ∷ [])
      go false e =
          let none = seek-none v ks e in
          record {
            apart = new_apart none;
            loads = λ k lo hi.
                let z : seek v ks ≡ k = omega linear in
                record { front = []; reg = d; back = []; is = ap (λ (m : ℕ). const_op m d ∷ []) z };
          }

-- ---- fragments

abbrev GoodV : ValueF → Type 0
GoodV v = (dst : Option ℕ) (n : ℕ) (ks : List Datum) → Good ks (v dst n ks).consts (v dst n ks).code

abbrev GoodB : BranchF → Type 0
GoodB br = (sense : Bool) (n : ℕ) (ks : List Datum) (m : ℕ) → Good ks (br sense n ks).consts ((br sense n ks).code m)

record GoodF (F : Frag) : Type 0 where
  values : GoodV F.value
  branches : GoodB F.branch
  firsts : GoodV F.first

-- one operand, then more words
one-good : (v : ValueF) (n : ℕ) (ks : List Datum) (more : List Op) → GoodV v → Good ks (v None n ks).consts ((v None n ks).code ++ more)
one-good v n ks more a = lift (λ k. in_left (v None n ks).code more) (a None n ks)

-- two operands, then more words
two_good :
    (v u : ValueF) (n : ℕ) (ks : List Datum) (more : List Op) → GoodV v → GoodV u →
    Good ks ((v None n ks).consts ++ (second v u n ks).consts) ((v None n ks).code ++ (second v u n ks).code ++ more)
two_good v u n ks more a b =
    let A = v None n ks in
    let B = second v u n ks in
    both ks A.consts B.consts (a None n ks) (b None A.next (ks ++ A.consts)) (λ k i. in_left (A.code ++ B.code) more (in_left A.code B.code i))
    (λ k i. in_left (A.code ++ B.code) more (in_right A.code B.code i))

into-good : {ks : List Datum} (v : Vf) (d n : ℕ) → Good ks v.consts v.code → Good ks (into_f v d n).consts (into_f v d n).code
into-good v d n g = lift (λ k. in_left v.code (moved d v.reg)) g

-- a test and both sides
join-good :
    (dst : Option ℕ) (n : ℕ) (ks : List Datum) (x : Bf) (a b : Vf) → ((m : ℕ) → Good ks x.consts (x.code m)) → Good (ks ++ x.consts) a.consts a.code →
    Good (ks ++ x.consts ++ a.consts) b.consts b.code → Good ks (join_f dst n x a b).consts (join_f dst n x a b).code
join-good dst n ks x a b gx ga gb =
    let X = x.code (suc (length a.code)) in
    let rest = a.code ++ jmp_by (length b.code) ∷ b.code in
    both ks (x.consts ++ a.consts) b.consts
    (both ks x.consts a.consts (gx (suc (length a.code))) ga (λ k i. in_left X rest i)
    (λ k i. in_right X rest (in_left a.code (jmp_by (length b.code) ∷ b.code) i)))
    (subst (λ (l : List Datum). Good l b.consts b.code) (append_assoc ks x.consts a.consts) gb)
    (λ k i. i)
    (λ k i. in_right X rest (in_right a.code (jmp_by (length b.code) ∷ b.code) (in_right (jmp_by (length b.code) ∷ []) b.code i)))

int-good : (t : Bool) (z : ℤ) → GoodV (int_f t z)
int-good true z dst n ks = nothing ks _
int-good false z dst n ks = const-good (Val.int z) (int_same z) ks (d_reg dst n)

leaf-good : (l : Leaf) → GoodV (leaf_f l)
leaf-good nil dst n ks = nothing ks _
leaf-good yep dst n ks = nothing ks _
leaf-good nope dst n ks = nothing ks _
leaf-good (int z) dst n ks = int-good (fits_imm40 z) z dst n ks
leaf-good (float p) dst n ks = const-good (Val.float p) (eq-eqb p p refl) ks (d_reg dst n)
leaf-good (ref r) dst n ks = nothing ks _

arith-good : (f : Option Tail) (o : Three) (v v₁ u : ValueF) → GoodV v → GoodV v₁ → GoodV u → GoodV (arith_f f o v v₁ u)
arith-good None o v v₁ u a a₁ b dst n ks = two_good v u n ks _ a b
arith-good (Some tail) o v v₁ u a a₁ b dst n ks = one-good (cond (takes_shift tail) v₁ v) n ks _ (operand (takes_shift tail))
  where
    operand : (t : Bool) → GoodV (cond t v₁ v)
    operand true = a₁
    operand false = a

compare-good : (c : Cmp) (l r : Option Imm16) (v u : ValueF) → GoodV v → GoodV u → GoodB (compare_f c l r v u)
compare-good c l (Some z) v u a b sense n ks m = one-good v n ks _ a
compare-good c (Some z) None v u a b sense n ks m = one-good u n ks _ b
compare-good c None None v u a b sense n ks m = two_good v u n ks _ a b

junc-good : (z : Bool) (x y : BranchF) → GoodB x → GoodB y → GoodB (junc_b z x y)
junc-good z x y a b sense n ks m =
    let X = x z n ks in
    let Y = y sense n (ks ++ X.consts) in
    let far = length (Y.code m) + cond (same z sense) m 0 in
    both ks X.consts Y.consts (a z n ks far) (b sense n (ks ++ X.consts) m) (λ k i. in_left (X.code far) (Y.code m) i)
    (λ k i. in_right (X.code far) (Y.code m) i)

cond-good : (br : BranchF) → GoodB br → GoodV (cond_f br)
cond-good br a dst n ks =
    let d = d_reg dst n in
    let m = d_next dst n in
    let X = br true m ks in
    let A = load_f raw_false (Some d) m ks in
    let B = load_f raw_true (Some d) m ks in
    join-good dst n ks X A B (a true m ks) (nothing (ks ++ X.consts) A.code) (nothing (ks ++ X.consts ++ []) B.code)

tern-good : (br : BranchF) (v u : ValueF) → GoodB br → GoodV v → GoodV u → GoodV (tern_f br v u)
tern-good br v u x a b dst n ks =
    let d = d_reg dst n in
    let m = d_next dst n in
    let X = br false m ks in
    let A = v (Some d) m (ks ++ X.consts) in
    let B = u (Some d) m (ks ++ X.consts ++ A.consts) in
    join-good dst n ks X (into_f A d m) (into_f B d m) (x false m ks) (into-good A d m (a (Some d) m (ks ++ X.consts)))
    (into-good B d m (b (Some d) m (ks ++ X.consts ++ A.consts)))

condition-good : (br : BranchF) (v : ValueF) → GoodB br → GoodV v → GoodF (record { value = cond_f br; branch = br; first = v })
condition-good br v a b = record { values = cond-good br a; branches = a; firsts = b }

unary_good : (o : Unary) (F : Frag) → GoodF F → GoodF (unary_n o F)
unary_good minus F h =
    record {
      values = λ dst n ks. one-good F.value n ks _ h.values;
      branches = λ sense n ks m. one-good (tail_f minus_one F.value) n ks _ (λ dst n ks. one-good F.value n ks _ h.values);
      firsts = h.values;
    }
unary_good not' F h =
    record {
      values = λ dst n ks. one-good F.value n ks _ h.values;
      branches = λ sense n ks m. h.branches (not sense) n ks m;
      firsts = h.values;
    }

binary-good : (o : Binary) (x y : Tree) (F G : Frag) → GoodF F → GoodF G → GoodF (binary_n o x y F G)
binary-good (arith o) x y F G h k =
    let a = arith-good (fold_of o x y) (three_of o) F.value F.first G.value h.values h.firsts k.values in
    record { values = a; branches = λ sense n ks m. one-good (arith_f (fold_of o x y) (three_of o) F.value F.first G.value) n ks _ a; firsts = h.values }
binary-good (cmp c) x y F G h k =
    condition-good (compare_f c (as_imm16 x) (as_imm16 y) F.value G.value) F.value
    (compare-good c (as_imm16 x) (as_imm16 y) F.value G.value h.values k.values) h.values
binary-good and x y F G h k =
    condition-good (junc_b false F.branch G.branch) F.value (junc-good false F.branch G.branch h.branches k.branches) h.values
binary-good or x y F G h k =
    condition-good (junc_b true F.branch G.branch) F.value (junc-good true F.branch G.branch h.branches k.branches) h.values

good : (t : Tree) → GoodF (frag t)
unfolding frag
good (leaf l) = record { values = leaf-good l; branches = λ sense n ks m. one-good (leaf_f l) n ks _ (leaf-good l); firsts = leaf-good l }
good (unary o a) = unary_good o (frag a) (good a)
good (binary o a b) = binary-good o a b (frag a) (frag b) (good a) (good b)
good (ternary c a b) =
    let x = good c in
    let v = tern-good (frag c).branch (frag a).value (frag b).value x.branches (good a).values (good b).values in
    record {
      values = v;
      branches = λ sense n ks m. one-good (tern_f (frag c).branch (frag a).value (frag b).value) n ks _ v;
      firsts = x.values;
    }

whole-good : (t : Tree) (dest : Option ℕ) (n : ℕ) → Good [] (whole t dest n).consts (whole t dest n).code
whole-good t None n = (good t).values None n []
whole-good t (Some d) n = into-good ((frag t).value (Some d) n []) d n ((good t).values (Some d) n [])

-- ---- an accepted table

fits-at : (front : List Op) {i : Op} (back : List Op) → AllFit (front ++ i ∷ back) → Fits i
fits-at [] back h = h.0
fits-at (j ∷ front) back h = fits-at front back h.1

word_at : (front : List Op) (i : Op) (back : List Op) → get_or (words_of (front ++ i ∷ back)) (length front) 0 ≡ word i
word_at [] i back = refl
word_at (j ∷ front) i back = word_at front i back

loaded-by : (code : List Op) {k : ℕ} → In code k → AllFit code → (s : State) → words_of code ≡ s.words → Loaded s k
loaded-by code {k} i fits s e =
    let n = length-append i.front (const_op k i.reg ∷ i.back) in
    let m = words-length code in
    let c = ap length i.is in
    let z : length i.front < length (words_of code) = omega linear in
    record {
      at = length i.front;
      inside = rw (← e) z;
      register = i.reg;
      word =
          rw (← e, i.is, word_at i.front (const_op k i.reg) i.back)
          (made (fits-at i.front i.back (subst AllFit i.is fits)));
    }

pub shares-slots : SharesSlots
shares-slots ws params locals dest r s a =
    let k = known ws params locals dest r s a in
    let g = whole-good _ dest _ in
    let e = ap (λ (c : ℕ × State). c.1.slots) k.is in
    let w = ap (λ (c : ℕ × State). c.1.words) k.is in
    record {
      apart = subst Distinct e (g.apart (λ i j lt hi q. absurd (omega linear)));
      loaded = λ j h. loaded-by _ (g.loads j (omega linear) (omega (linear, ap length e))) k.fine.fits s w;
    }
