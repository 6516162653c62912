-- Each form of fragment does what its operands' results say. Operands are fragments and results, never trees; operations are any functions of results
-- that hand an operand's fault on.
use Rattle.faults.specs.declared.Fault.{Fault}
use Rattle.std.specs.Prelude.{Option, Some, None}
use mathlib.Core.Path.{◌≡◌, refl, ap, ap₂, ◌∙◌, subst, sym}
use mathlib.Core.Bool.{Bool, true, false, not, cond}
use mathlib.Core.List.{List, [], ◌∷◌, ◌++◌, append_assoc}
use Prim.Native.Nat.{ℕ, suc, ◌+◌, ◌≤◌, ◌<◌, max}
use native.Mathlib.Omega.{arith}
use lib.ListN.{length, set, get_or}
use lib.IntN.{pos}
use lib.Dec.{eqb}
use borrow.Author.Tests.{eqb-true, lt-ltb}
use Rattle.faults.specs.Numbers.{out_of_range}
use Rattle.insns.specs.declared.op.Op.{Op}
use Rattle.insns.specs.declared.op.Imm40.{Imm40}
use Rattle.decode.specs.declared.patch.Branch.{Branch}
use Rattle.value.specs.Value.{Datum, nil}
use Rattle.value.specs.Answer.{Answer, is, fault}
use Rattle.effect.specs.Effect.{write, branch, effect_of, raw_of}
use Rattle.machine.specs.Step.{put_of, stop}
use Rattle.machine.specs.Datums.{value_at}
use Rattle.codegen.specs.Gen.{same}
use Rattle.emit.specs.Steps.{load_op}
use Rattle.emit.specs.State.{seek, fresh}
use Rattle.claim.proofs.fragments.Shared.{held_at}
use Rattle.claim.proofs.fragments.Frag.{DstLow, Vf, Bf, d_reg, d_next, d_need, const_op, mov_op, aimed, jmp_by, op_f, ref_f, leap_f, moved, into_f, join_f, junc_f}
use Rattle.claim.proofs.fragments.Runs.{Truth, truth, wrong, test, same_t}
use Rattle.claim.proofs.fragments.Runs

pub d-more : (dst : Option ℕ) (n : ℕ) → n ≤ d_next dst n
d-more None n = omega arith
d-more (Some d) n = omega arith

d-most : (dst : Option ℕ) (n m : ℕ) → d_need dst n ≤ m → d_next dst n ≤ max n m
d-most None n m h = omega arith
d-most (Some d) n m h = omega arith

pub d-low : (dst : Option ℕ) (n : ℕ) → DstLow dst n → d_reg dst n < d_next dst n
d-low None n h = omega arith
d-low (Some d) n h = h

-- the sides of a join: by the test's sense, the second one or the first
abbrev pub join_r : Bool → Truth → Answer → Answer → Answer
join_r sense (truth v) a b = cond (same sense v) b a
join_r sense (wrong e) a b = fault e

-- the left side decides, or the right side's result counts
abbrev pub either_r : Bool → Truth → Truth → Truth
either_r z (truth x) b = cond (same z x) (truth z) b
either_r z (wrong e) b = wrong e

module _ (C : List ℕ) (W ls : List Datum) (b : ℕ) where
  abbrev VS : Option ℕ → ℕ → List Datum → Vf → Answer → Type 0
  VS = Runs.VSound C W ls b

  abbrev BS : Bool → ℕ → List Datum → Bf → Truth → Type 0
  BS = Runs.BSound C W ls b

  abbrev VR : Option ℕ → ℕ → ℕ → ℕ → ℕ → ℕ → Answer → Type 0
  VR = Runs.VRuns C W ls b

  abbrev BR : Bool → ℕ → ℕ → ℕ → ℕ → ℕ → Truth → Type 0
  BR = Runs.BRuns C W ls b

  op-sound :
      (dst : Option ℕ) (n : ℕ) (ks : List Datum) (m : ℕ) (cs : List Datum) (c : List Op) (i : ℕ → Op) (res : Answer) → DstLow dst n →
      ((p q : ℕ) → Runs.At C p (c ++ i (d_reg dst n) ∷ []) q → Runs.Front W (ks ++ cs) → VR dst n (max m (d_need dst n)) (d_reg dst n) p q res) →
      VS dst n ks (op_f dst n m cs c i) res
  op-sound dst n ks m cs c i res low r =
      record { more = d-more dst n; most = d-most dst n (max m (d_need dst n)) (omega arith); low = d-low dst n low; runs = r }

  -- ---- leaves

  pub load-sound :
      (z : Imm40) (v : Datum) (dst : Option ℕ) (n : ℕ) (ks : List Datum) → raw_of z.raw ≡ is v → DstLow dst n → VS dst n ks (op_f dst n 0 [] [] (load_op z)) (is v)
  load-sound z v dst n ks e low =
      op-sound dst n ks 0 [] [] (load_op z) (is v) low
      (λ p q h held.
      Runs.op_runs C W ls b dst n 0 (load_op z (d_reg dst n)) (is v) low (Runs.runs-rest C W ls b n p) h (λ K rs f u. ap (write (d_reg dst n)) e))

  pub const-sound : (v : Datum) (dst : Option ℕ) (n : ℕ) (ks : List Datum) → DstLow dst n → VS dst n ks (op_f dst n 0 (fresh v ks) [] (const_op (seek v ks))) (is v)
  const-sound v dst n ks low =
      op-sound dst n ks 0 (fresh v ks) [] (const_op (seek v ks)) (is v) low
      (λ p q h s.
      Runs.op_runs C W ls b dst n 0 (const_op (seek v ks) (d_reg dst n)) (is v) low (Runs.runs-rest C W ls b n p) h
      (λ K rs f u. ap (write (d_reg dst n)) (Runs.front-has (ks ++ fresh v ks) (seek v ks) v (held_at v ks) (Runs.front-in (ks ++ fresh v ks) f s))))

  pub ref-sound : (r : ℕ) (dst : Option ℕ) (n : ℕ) (ks : List Datum) → r < b → b ≤ n → VS dst n ks (ref_f r dst n ks) (is (get_or ls r nil))
  ref-sound r dst n ks h le =
      record {
        more = omega arith;
        most = omega arith;
        low = omega arith;
        runs =
            λ p q w held.
            record {
              count = 0;
              few = omega arith;
              path = λ K rs g. (rs, subst (λ (x : ℕ). Runs.Path C K p rs 0 x rs) w.0 Runs.rest, Runs.keep-refl dst n 0 rs, g.agree r h);
            };
      }

  -- ---- two operands

  abbrev Both : ℕ → ℕ → ℕ → ℕ → ℕ → ℕ → Answer → Answer → Type 0
  Both n need ra rb p q (is x) (is y) = Runs.Runs C W ls b n need p q q None (λ rs. (value_at rs ra ≡ is x) × (value_at rs rb ≡ is y))
  Both n need ra rb p q (is x) (fault e) = Runs.Fails C W ls b n need p q e
  Both n need ra rb p q (fault e) f = Runs.Fails C W ls b n need p q e

  both_runs :
      (n : ℕ) (ks : List Datum) (A B : Vf) (p q : ℕ) (ea eb : Answer) → b ≤ n → VS None n ks A ea → VS None A.next (ks ++ A.consts) B eb →
      Runs.At C p (A.code ++ B.code) q → Runs.Front W (ks ++ (A.consts ++ B.consts)) →
      Both n (max A.need B.need) A.reg B.reg p q ea eb
  both_runs n ks A B p q ea eb le va vb h held =
      let s = Runs.at_split C p A.code B.code q h in
      let t = Runs.front-split ks A.consts B.consts held in
      go ea eb va s.0 (va.runs p s.0 s.1 t.0) (vb.runs s.0 q s.2 t.1) (Runs.at-le C s.0 B.code q s.2)
    where
      go :
          (ea eb : Answer) → VS None n ks A ea → (m : ℕ) → VR None n A.need A.reg p m ea → VR None A.next B.need B.reg m q eb →
          m ≤ q → Both n (max A.need B.need) A.reg B.reg p q ea eb
      go (is x) (is y) va m r s w =
          Runs.runs_then C W ls b le va.more va.most (omega arith) r s (λ rs rs' k e. k.low A.reg va.low tt ∙ e)
      go (is x) (fault e) va m r s w = Runs.fails-then C W ls b le va.more va.most (omega arith) r s
      go (fault e) eb va m r s w = Runs.fails_more C W ls b (omega arith) w r

  -- ---- one operation on one or two results, whatever it is: what the instruction asks for is f of what its registers hold

  pub un-sound :
      (n : ℕ) (ks : List Datum) (A : Vf) (ea : Answer) (dst : Option ℕ) (i : ℕ → Op) (f : Answer → Answer) → DstLow dst n → VS None n ks A ea →
      ((reg slot : ℕ → Answer) (d : ℕ) → effect_of reg slot (i d) ≡ write d (f (reg A.reg))) → ((e : Fault) → f (fault e) ≡ fault e) →
      VS dst n ks (op_f dst n A.need A.consts A.code i) (f ea)
  un-sound n ks A ea dst i f low va asks strict =
      op-sound dst n ks A.need A.consts A.code i (f ea) low
      λ p q h held. let s = Runs.at_split C p A.code (i (d_reg dst n) ∷ []) q h in go ea p q s.0 (va.runs p s.0 s.1 held) s.2
    where
      go :
          (ea : Answer) (p q m : ℕ) → VR None n A.need A.reg p m ea → Runs.At C m (i (d_reg dst n) ∷ []) q →
          VR dst n (max A.need (d_need dst n)) (d_reg dst n) p q (f ea)
      go (is x) p q m r h =
          Runs.op_runs C W ls b dst n A.need (i (d_reg dst n)) (f (is x)) low r h
          (λ K rs f' e. asks (value_at rs) (value_at K) (d_reg dst n) ∙ ap (λ (v : Answer). write (d_reg dst n) (f v)) e)
      go (fault e) p q m r h =
          subst (λ (y : Answer). VR dst n (max A.need (d_need dst n)) (d_reg dst n) p q y) (sym (strict e))
          (Runs.fails_more C W ls b (omega arith) (omega (arith, h.1.0)) r)

  pub bin-sound :
      (n : ℕ) (ks : List Datum) (A B : Vf) (ea eb : Answer) (dst : Option ℕ) (i : ℕ → Op) (f : Answer → Answer → Answer) → b ≤ n → DstLow dst n →
      VS None n ks A ea → VS None A.next (ks ++ A.consts) B eb →
      ((reg slot : ℕ → Answer) (d : ℕ) → effect_of reg slot (i d) ≡ write d (f (reg A.reg) (reg B.reg))) →
      ((e : Fault) (y : Answer) → f (fault e) y ≡ fault e) → ((x : Datum) (e : Fault) → f (is x) (fault e) ≡ fault e) →
      VS dst n ks (op_f dst n (max A.need B.need) (A.consts ++ B.consts) (A.code ++ B.code) i) (f ea eb)
  bin-sound n ks A B ea eb dst i f le low va vb asks strict strict' =
      op-sound dst n ks (max A.need B.need) (A.consts ++ B.consts) (A.code ++ B.code) i (f ea eb) low
      λ p q h held.
      let s = Runs.at_split C p (A.code ++ B.code) (i (d_reg dst n) ∷ []) q h in
      go ea eb p q s.0 (both_runs n ks A B p s.0 ea eb le va vb s.1 held) s.2
    where
      N : ℕ
      N = max A.need B.need

      failed : (p q m : ℕ) (e : Fault) (y : Answer) → y ≡ fault e → Runs.Fails C W ls b n N p m e → m ≤ q → VR dst n (max N (d_need dst n)) (d_reg dst n) p q y
      failed p q m e y w r le =
          subst (λ (y : Answer). VR dst n (max N (d_need dst n)) (d_reg dst n) p q y) (sym w) (Runs.fails_more C W ls b (omega arith) le r)

      go :
          (ea eb : Answer) (p q m : ℕ) → Both n N A.reg B.reg p m ea eb → Runs.At C m (i (d_reg dst n) ∷ []) q →
          VR dst n (max N (d_need dst n)) (d_reg dst n) p q (f ea eb)
      go (is x) (is y) p q m r h =
          Runs.op_runs C W ls b dst n N (i (d_reg dst n)) (f (is x) (is y)) low r h
          (λ K rs f' e. asks (value_at rs) (value_at K) (d_reg dst n) ∙ ap₂ (λ (v w : Answer). write (d_reg dst n) (f v w)) e.0 e.1)
      go (is x) (fault e) p q m r h = failed p q m e (f (is x) (fault e)) (strict' x e) r (omega (arith, h.1.0))
      go (fault e) eb p q m r h = failed p q m e (f (fault e) eb) (strict e eb) r (omega (arith, h.1.0))

  -- a branch: it jumps by f, which is the sense's reading of t
  pub un-leap :
      (sense : Bool) (n : ℕ) (ks : List Datum) (A : Vf) (ea : Answer) (i : Branch) (f : Answer → Answer) (t : Answer → Truth) → VS None n ks A ea →
      ((reg slot : ℕ → Answer) (j : ℕ) → effect_of reg slot (aimed i j) ≡ branch (pos j) (f (reg A.reg))) →
      ((x : Datum) → test (f (is x)) ≡ same_t sense (t (is x))) → ((e : Fault) → t (fault e) ≡ wrong e) →
      BS sense n ks (leap_f A.need A.consts A.code i) (t ea)
  un-leap sense n ks A ea i f t va asks tells strict =
      record {
        runs =
            λ p q j h held le.
            let s = Runs.at_split C p A.code (aimed i j ∷ []) q h in go ea p q s.0 j (va.runs p s.0 s.1 held) s.2 le;
      }
    where
      go :
          (ea : Answer) (p q m j : ℕ) → VR None n A.need A.reg p m ea → Runs.At C m (aimed i j ∷ []) q → q + j ≤ length C →
          BR sense n A.need p q j (t ea)
      go (is x) p q m j r h le =
          Runs.leap-runs C W ls b sense n A.need j (aimed i j) (f (is x)) (t (is x)) r h le
          (λ K rs f' e. asks (value_at rs) (value_at K) j ∙ ap (λ (v : Answer). branch (pos j) (f v)) e) (tells x)
      go (fault e) p q m j r h le =
          subst (λ (y : Truth). BR sense n A.need p q j y) (sym (strict e)) (Runs.fails_more C W ls b (omega arith) (omega (arith, h.1.0)) r)

  pub bin-leap :
      (sense : Bool) (n : ℕ) (ks : List Datum) (A B : Vf) (ea eb : Answer) (i : Branch) (f : Answer → Answer → Answer) (t : Answer → Answer → Truth) →
      b ≤ n → VS None n ks A ea → VS None A.next (ks ++ A.consts) B eb →
      ((reg slot : ℕ → Answer) (j : ℕ) → effect_of reg slot (aimed i j) ≡ branch (pos j) (f (reg A.reg) (reg B.reg))) →
      ((x y : Datum) → test (f (is x) (is y)) ≡ same_t sense (t (is x) (is y))) → ((e : Fault) (y : Answer) → t (fault e) y ≡ wrong e) →
      ((x : Datum) (e : Fault) → t (is x) (fault e) ≡ wrong e) →
      BS sense n ks (leap_f (max A.need B.need) (A.consts ++ B.consts) (A.code ++ B.code) i) (t ea eb)
  bin-leap sense n ks A B ea eb i f t le va vb asks tells strict strict' =
      record {
        runs =
            λ p q j h held le'.
            let s = Runs.at_split C p (A.code ++ B.code) (aimed i j ∷ []) q h in
            go ea eb p q s.0 j (both_runs n ks A B p s.0 ea eb le va vb s.1 held) s.2 le';
      }
    where
      N : ℕ
      N = max A.need B.need

      failed : (p q m j : ℕ) (e : Fault) (y : Truth) → y ≡ wrong e → Runs.Fails C W ls b n N p m e → m ≤ q → BR sense n N p q j y
      failed p q m j e y w r le = subst (λ (y : Truth). BR sense n N p q j y) (sym w) (Runs.fails_more C W ls b (omega arith) le r)

      go :
          (ea eb : Answer) (p q m j : ℕ) → Both n N A.reg B.reg p m ea eb → Runs.At C m (aimed i j ∷ []) q → q + j ≤ length C →
          BR sense n N p q j (t ea eb)
      go (is x) (is y) p q m j r h le' =
          Runs.leap-runs C W ls b sense n N j (aimed i j) (f (is x) (is y)) (t (is x) (is y)) r h le'
          (λ K rs f' e. asks (value_at rs) (value_at K) j ∙ ap₂ (λ (v w : Answer). branch (pos j) (f v w)) e.0 e.1) (tells x y)
      go (is x) (fault e) p q m j r h le' = failed p q m j e (t (is x) (fault e)) (strict' x e) r (omega (arith, h.1.0))
      go (fault e) eb p q m j r h le' = failed p q m j e (t (fault e) eb) (strict e eb) r (omega (arith, h.1.0))

  -- ---- control

  pub into-sound : (d n : ℕ) (ks : List Datum) (F : Vf) (res : Answer) → d < n → VS (Some d) n ks F res → VS (Some d) n ks (into_f F d n) res
  into-sound d n ks F res low v =
      record {
        more = omega arith;
        most = omega arith;
        low = low;
        runs =
            λ p q h held.
            let s = Runs.at_split C p F.code (moved d F.reg) q h in
            go res (eqb F.reg d) refl p q s.0 (v.runs p s.0 s.1 held) s.2;
      }
    where
      go :
          (res : Answer) (t : Bool) → eqb F.reg d ≡ t → (p q m : ℕ) → VR (Some d) n F.need F.reg p m res →
          Runs.At C m (cond t [] (mov_op d F.reg ∷ [])) q → VR (Some d) n F.need d p q res
      go (is x) true e p q m r h =
          Runs.runs-more C W ls b (omega arith) (omega (arith, h.0)) h.0 (λ rs w. rw (← eqb-true F.reg d e) w) r
      go (is x) false e p q m r h =
          record {
            count = r.count + 1;
            few = omega (arith, r.few, h.1.0);
            path =
                λ K rs g.
                let y = r.path K rs g in
                let dl : d < length y.0 = omega (arith, g.low, y.2.size) in (
                  set y.0 d x,
                  Runs.path-then y.1
                      (subst (λ (z : ℕ). Runs.Path C K m y.0 1 z (set y.0 d x)) h.1.0
                      (Runs.store h.0
                      (ap (λ (t : Bool). cond t (put_of m d (value_at y.0 F.reg)) (stop out_of_range)) (lt-ltb d (length y.0) dl)
                      ∙ ap (put_of m d) y.3) Runs.rest)),
                  Runs.keep-again x y.2,
                  Runs.value_set y.0 d x dl,
                );
          }
      go (fault e') t e p q m r h = Runs.fails_more C W ls b (omega arith) (Runs.at-le C m (cond t [] (mov_op d F.reg ∷ [])) q h) r

  -- a test, one side, a jump over the other side, the other side
  pub join-sound :
      (sense : Bool) (dst : Option ℕ) (n : ℕ) (ks : List Datum) (X : Bf) (A E : Vf) (rc : Truth) (ra re : Answer) → b ≤ n → DstLow dst n →
      BS sense (d_next dst n) ks X rc → VS (Some (d_reg dst n)) (d_next dst n) (ks ++ X.consts) A ra →
      VS (Some (d_reg dst n)) (d_next dst n) (ks ++ X.consts ++ A.consts) E re → A.reg ≡ d_reg dst n → E.reg ≡ d_reg dst n →
      VS dst n ks (join_f dst n X A E) (join_r sense rc ra re)
  join-sound sense dst n ks X A E rc ra re le low sc sa se ea ee =
      record {
        more = d-more dst n;
        most = d-most dst n (max (d_need dst n) N) (omega arith);
        low = d-low dst n low;
        runs =
            λ p q h held.
            let u = Runs.at_split C p (X.code (suc (length A.code))) (A.code ++ jmp_by (length E.code) ∷ E.code) q h in
            let v = Runs.at_split C u.0 A.code (jmp_by (length E.code) ∷ E.code) q u.2 in
            let l_a : u.0 + length A.code ≡ v.0 = Runs.at_length C u.0 A.code v.0 v.1 in
            let l_e : suc v.0 + length E.code ≡ q = Runs.at_length C (suc v.0) E.code q v.2.1 in
            let top : q ≤ length C = Runs.at-end C (suc v.0) E.code q v.2.1 in
            let s = Runs.front-split ks (X.consts ++ A.consts) E.consts held in
            let t = Runs.front-split ks X.consts A.consts s.0 in
            let h_e = subst (λ (x : List Datum). Runs.Front W (x ++ E.consts)) (sym (append_assoc ks X.consts A.consts)) s.1 in
            go rc ra re p q u.0 v.0 l_a l_e top
            (sc.runs p u.0 (suc (length A.code)) u.1 t.0 (omega arith)) (sa.runs u.0 v.0 v.1 t.1) v.2.0
            (se.runs (suc v.0) q v.2.1 h_e);
      }
    where
      n' : ℕ
      n' = d_next dst n

      d : ℕ
      d = d_reg dst n

      le' : b ≤ n'
      le' = omega (arith, d-more dst n)

      N : ℕ
      N = max X.need (max A.need E.need)

      -- the test, then one side
      after :
          (p m mid q : ℕ) (F : Vf) (res : Answer) → F.need ≤ max A.need E.need → F.reg ≡ d → m ≤ mid →
          Runs.Runs C W ls b n' X.need p m mid None (λ rs. Unit {0}) → VR (Some d) n' F.need F.reg mid q res →
          VR dst n (max (d_need dst n) N) d p q res
      after p m mid q F (is v) need reg lm r s =
          Runs.runs_own C W ls b dst n N
          (Runs.runs-more C W ls b (omega arith) (omega arith) refl (λ rs w. rw (← reg) w.1)
          (Runs.runs_then C W ls b le' (omega arith) (omega arith) lm r s (λ rs rs' k w. tt)))
      after p m mid q F (fault x) need reg lm r s =
          Runs.fails-own C W ls b dst n N
          (Runs.fails_more C W ls b (omega arith) (omega arith) (Runs.fails-then C W ls b le' (omega arith) (omega arith) lm r s))

      -- over the other side
      over :
          (m l q : ℕ) (res : Answer) → suc l + length E.code ≡ q → q ≤ length C → Runs.Stands C l (jmp_by (length E.code)) →
          VR (Some d) n' A.need A.reg m l res → VR (Some d) n' A.need A.reg m q res
      over m l q (is v) w top f r = Runs.runs_jump C W ls b (length E.code) q r f w top
      over m l q (fault x) w top f r = Runs.fails_more C W ls b (omega arith) (omega arith) r

      -- by whether the test jumps
      side :
          (t : Bool) (ra re : Answer) (p q m l : ℕ) → m + length A.code ≡ l → suc l + length E.code ≡ q → q ≤ length C →
          Runs.Runs C W ls b n' X.need p m (cond t (m + suc (length A.code)) m) None (λ rs. Unit {0}) →
          VR (Some d) n' A.need A.reg m l ra → Runs.Stands C l (jmp_by (length E.code)) →
          VR (Some d) n' E.need E.reg (suc l) q re → VR dst n (max (d_need dst n) N) d p q (cond t re ra)
      side false ra re p q m l l_a l_e top r s f t = after p m m q A ra (omega arith) ea (omega arith) r (over m l q ra l_e top f s)
      side true ra re p q m l l_a l_e top r s f t =
          after p m (suc l) q E re (omega arith) ee (omega arith)
          (Runs.runs-more C W ls b {top' = m} {q' = suc l} (omega arith) (omega arith) (omega arith) (λ rs w. w) r) t

      go :
          (rc : Truth) (ra re : Answer) (p q m l : ℕ) → m + length A.code ≡ l → suc l + length E.code ≡ q → q ≤ length C →
          BR sense n' X.need p m (suc (length A.code)) rc → VR (Some d) n' A.need A.reg m l ra →
          Runs.Stands C l (jmp_by (length E.code)) → VR (Some d) n' E.need E.reg (suc l) q re →
          VR dst n (max (d_need dst n) N) d p q (join_r sense rc ra re)
      go (wrong x) ra re p q m l l_a l_e top r s f t = Runs.fails-own C W ls b dst n N (Runs.fails_more C W ls b (omega arith) (omega arith) r)
      go (truth v) ra re p q m l l_a l_e top r s f t = side (same sense v) ra re p q m l l_a l_e top r s f t

  -- And, Or
  pub junc-sound :
      (z sense : Bool) (n : ℕ) (ks : List Datum) (A B : Bf) (ra rb : Truth) → b ≤ n → BS z n ks A ra → BS sense n (ks ++ A.consts) B rb →
      BS sense n ks (junc_f A B (same z sense)) (either_r z ra rb)
  junc-sound z sense n ks A B ra rb le sa sb =
      record {
        runs =
            λ p q j h held lt.
            let s = Runs.at_split C p (A.code (length (B.code j) + cond (same z sense) j 0)) (B.code j) q h in
            let t = Runs.front-split ks A.consts B.consts held in
            let l : s.0 + length (B.code j) ≡ q = Runs.at_length C s.0 (B.code j) q s.2 in
            go z sense ra rb p q s.0 j (length (B.code j)) l
            (sa.runs p s.0 (length (B.code j) + cond (same z sense) j 0) s.1 t.0 (fits (same z sense) j q s.0 (length (B.code j)) l lt))
            (sb.runs s.0 q j s.2 t.1 lt);
      }
    where
      fits : (out : Bool) (j q m len : ℕ) → m + len ≡ q → q + j ≤ length C → m + (len + cond out j 0) ≤ length C
      fits true j q m len l lt = omega arith
      fits false j q m len l lt = omega arith

      N : ℕ
      N = max A.need B.need

      on :
          (sense : Bool) (rb : Truth) (p q m j : ℕ) → Runs.Runs C W ls b n A.need p m m None (λ rs. Unit {0}) → BR sense n B.need m q j rb →
          BR sense n N p q j rb
      on sense (wrong x) p q m j r s = Runs.fails-then C W ls b le (omega arith) (omega arith) (omega arith) r s
      on sense (truth v) p q m j r s =
          Runs.runs-more C W ls b (omega arith) (omega arith) refl (λ rs w. tt)
          (Runs.runs_then C W ls b le (omega arith) (omega arith) (omega arith) r s (λ rs rs' k w. tt))

      go :
          (z sense : Bool) (ra rb : Truth) (p q m j len : ℕ) → m + len ≡ q → BR z n A.need p m (len + cond (same z sense) j 0) ra →
          BR sense n B.need m q j rb → BR sense n N p q j (either_r z ra rb)
      go z sense (wrong x) rb p q m j len l r s = Runs.fails_more C W ls b (omega arith) (omega arith) r
      go true sense (truth false) rb p q m j len l r s = on sense rb p q m j r s
      go false sense (truth true) rb p q m j len l r s = on sense rb p q m j r s
      go true true (truth true) rb p q m j len l r s = Runs.runs-more C W ls b (omega arith) (omega arith) (omega arith) (λ rs w. w) r
      go true false (truth true) rb p q m j len l r s = Runs.runs-more C W ls b (omega arith) (omega arith) (omega arith) (λ rs w. w) r
      go false true (truth false) rb p q m j len l r s = Runs.runs-more C W ls b (omega arith) (omega arith) (omega arith) (λ rs w. w) r
      go false false (truth false) rb p q m j len l r s = Runs.runs-more C W ls b (omega arith) (omega arith) (omega arith) (λ rs w. w) r

  pub not_sound : (sense : Bool) (n : ℕ) (ks : List Datum) (F : Bf) (res : Truth) → BS (not sense) n ks F res → BS sense n ks F (same_t false res)
  not_sound sense n ks F res s = record { runs = λ p q j h held le. go sense res p q j (s.runs p q j h held le) }
    where
      go : (sense : Bool) (res : Truth) (p q j : ℕ) → BR (not sense) n F.need p q j res → BR sense n F.need p q j (same_t false res)
      go sense (wrong x) p q j r = r
      go true (truth true) p q j r = r
      go true (truth false) p q j r = r
      go false (truth true) p q j r = r
      go false (truth false) p q j r = r
