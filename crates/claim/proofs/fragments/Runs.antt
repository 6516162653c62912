-- Instructions at a place among words, paths of the machine, and how runs are put one after the other. No tree is named here.
use Rattle.faults.specs.declared.Fault.{Fault}
use Rattle.std.specs.Prelude.{Option, Some, None}
use mathlib.Core.Path.{◌≡◌, refl, ap, ◌∙◌, subst}
use mathlib.Core.Bool.{Bool, true, false, cond}
use mathlib.Core.List.{List, [], ◌∷◌, ◌++◌, append_assoc}
use Prim.Native.Nat.{ℕ, suc, ◌+◌, ◌≤◌, ◌<◌, max}
use native.Mathlib.Nat.{zero-add, suc-add}
use native.Mathlib.Omega.{arith}
use lib.ListN.{length, set, get_or, length-set, length-append, get_or-append}
use lib.IntN.{pos}
use lib.Seq.{get_or-set_same, get_or-set_other}
use borrow.Author.Tests.{lt-ltb, le-leb}
use Rattle.faults.specs.Numbers.{wrong_kind, out_of_range}
use Rattle.insns.specs.declared.op.Op.{Op}
use Rattle.decode.specs.Decode.{decode_of}
use Rattle.value.specs.Value.{Datum, nil, bool, int, float}
use Rattle.value.specs.Answer.{Answer, is, fault}
use Rattle.effect.specs.Effect.{write, branch, effect_of}
use Rattle.machine.specs.Step.{Next, go, put, stop, settle_of, put_of, branch_of, land_of}
use Rattle.machine.specs.Datums.{value_at}
use Rattle.codegen.specs.Gen.{same}
use Rattle.claim.proofs.fragments.Shared.{Held}
use Rattle.claim.proofs.fragments.Frag.{NotDst, DstLow, Vf, Bf, d_reg, d_next, d_need, jmp_by}

-- ---- what a test comes to: a Bool, or a fault

pub data Truth : Type 0 where
  truth : Bool → Truth
  wrong : Fault → Truth

abbrev pub test : Answer → Truth
test (is nil) = wrong wrong_kind
test (is (bool b)) = truth b
test (is (int z)) = wrong wrong_kind
test (is (float p)) = wrong wrong_kind
test (fault e) = wrong e

-- the same, or the opposite where s is false
abbrev pub same_t : Bool → Truth → Truth
same_t s (truth b) = truth (same s b)
same_t s (wrong e) = wrong e

-- ---- registers

pub value_in : (rs : List Datum) (r : ℕ) → r < length rs → value_at rs r ≡ is (get_or rs r nil)
unfolding value_at
value_in rs r h = rw (lt-ltb r (length rs) h)

pub value_set : (rs : List Datum) (d : ℕ) (v : Datum) → d < length rs → value_at (set rs d v) d ≡ is v
unfolding value_at
value_set rs d v h = rw (length-set, lt-ltb d (length rs) h, get_or-set_same)

pub value-other : (rs : List Datum) (d i : ℕ) (v : Datum) → (i ≡ d → ⊥) → value_at (set rs d v) i ≡ value_at rs i
unfolding value_at
value-other rs d i v n = rw (length-set, get_or-set_other)

-- ---- where instructions stand

-- the word at p is the instruction i
pub record Stands (C : List ℕ) (p : ℕ) (i : Op) : Type 0 where
  pub inside : p < length C
  pub reads : decode_of (get_or C p 0) ≡ Some i

-- the instructions stand among the words C from p up to q
abbrev pub At : List ℕ → ℕ → List Op → ℕ → Type 0
At C p [] q = (p ≡ q) × (p ≤ length C)
At C p (i ∷ js) q = Stands C p i × At C (suc p) js q

at-start : (C : List ℕ) (p : ℕ) (F : List Op) (q : ℕ) → At C p F q → p ≤ length C
at-start C p [] q h = h.1
at-start C p (i ∷ js) q h = omega (arith, h.0.inside)

pub at-end : (C : List ℕ) (p : ℕ) (F : List Op) (q : ℕ) → At C p F q → q ≤ length C
at-end C p [] q h = omega arith
at-end C p (i ∷ js) q h = at-end C (suc p) js q h.1

pub at_length : (C : List ℕ) (p : ℕ) (F : List Op) (q : ℕ) → At C p F q → p + length F ≡ q
at_length C p [] q h = omega arith
at_length C p (i ∷ js) q h = omega (arith, at_length C (suc p) js q h.1)

pub at_split : (C : List ℕ) (p : ℕ) (F G : List Op) (q : ℕ) → At C p (F ++ G) q → (m : ℕ) × At C p F m × At C m G q
at_split C p [] G q h = (p, (refl, at-start C p G q h), h)
at_split C p (i ∷ js) G q h = let r = at_split C (suc p) js G q h.1 in (r.0, (h.0, r.1), r.2)

pub at-le : (C : List ℕ) (p : ℕ) (F : List Op) (q : ℕ) → At C p F q → p ≤ q
at-le C p F q h = omega (arith, at_length C p F q h)

-- the slots begin with these
pub record Front (K ks : List Datum) : Type 0 where
  pub behind : List Datum
  pub is : K ≡ ks ++ behind

pub front-split : {K : List Datum} (ks cs ds : List Datum) → Front K (ks ++ (cs ++ ds)) → Front K (ks ++ cs) × Front K (ks ++ cs ++ ds)
front-split ks cs ds f =
    (record { behind = ds ++ f.behind; is = f.is ∙ simp append_assoc }, record { behind = f.behind; is = f.is ∙ simp append_assoc })

pub front-has : {K : List Datum} (ks : List Datum) (k : ℕ) (v : Datum) → Held ks k v → Front K ks → value_at K k ≡ is v
front-has {K} ks k v h f =
    value_in K k (omega (arith, h.inside, ap length f.is, length-append ks f.behind))
    ∙ ap is (ap (λ (l : List Datum). get_or l k nil) f.is ∙ get_or-append ks f.behind nil k h.inside ∙ h.is)

-- what W begins with, slots that begin with W begin with
pub front-in : {K W : List Datum} (ks : List Datum) → Front K W → Front W ks → Front K ks
front-in ks f g = record { behind = g.behind ++ f.behind; is = f.is ∙ ap (λ (l : List Datum). l ++ f.behind) g.is ∙ append_assoc ks g.behind f.behind }

-- ---- paths

abbrev pub step : List Datum → ℕ → ℕ → List Datum → Op → Next
step K len p rs i = settle_of len (length rs) p (effect_of (value_at rs) (value_at K) i)

pub data Path (C : List ℕ) (K : List Datum) : ℕ → List Datum → ℕ → ℕ → List Datum → Type 0 where
  rest : {p : ℕ} {rs : List Datum} → Path C K p rs 0 p rs
  walk :
      {p q r n : ℕ} {rs rs' : List Datum} {i : Op} → Stands C p i → step K (length C) p rs i ≡ go q → Path C K q rs n r rs' →
      Path C K p rs (suc n) r rs'
  store :
      {p q r n d : ℕ} {v : Datum} {rs rs' : List Datum} {i : Op} → Stands C p i → step K (length C) p rs i ≡ put q d v →
      Path C K q (set rs d v) n r rs' → Path C K p rs (suc n) r rs'

pub path-then :
    {C : List ℕ} {K : List Datum} {p q r n m : ℕ} {rs rs' rs'' : List Datum} → Path C K p rs n q rs' → Path C K q rs' m r rs'' →
    Path C K p rs (n + m) r rs''
path-then {m} rest g = rw zero-add g
path-then {m} (walk {n = k} e s f) g = rw suc-add (walk e s (path-then f g))
path-then {m} (store {n = k} e s f) g = rw suc-add (store e s (path-then f g))

-- the machine stops here
abbrev pub Stops : List ℕ → List Datum → ℕ → List Datum → Fault → Type 0
Stops C K p rs e = (i : Op) × Stands C p i × (step K (length C) p rs i ≡ stop e)

-- ---- what a run leaves alone

-- only the destination and the registers from lo up to hi may have changed
pub record Keep (dst : Option ℕ) (lo hi : ℕ) (rs rs' : List Datum) : Type 0 where
  pub size : length rs' ≡ length rs
  pub low : (i : ℕ) → i < lo → NotDst dst i → value_at rs' i ≡ value_at rs i
  pub high : (i : ℕ) → hi ≤ i → NotDst dst i → value_at rs' i ≡ value_at rs i

pub keep-refl : (dst : Option ℕ) (lo hi : ℕ) (rs : List Datum) → Keep dst lo hi rs rs
keep-refl dst lo hi rs = record { size = refl; low = λ i h d. refl; high = λ i h d. refl }

-- the slots begin with W, the b locals are in place, and there is room
pub record Good (W ls : List Datum) (b n need : ℕ) (K rs : List Datum) : Type 0 where
  pub slots : Front K W
  pub agree : (i : ℕ) → i < b → value_at rs i ≡ is (get_or ls i nil)
  pub low : n ≤ length rs
  pub high : need ≤ length rs

-- From p, with the locals in place, the machine comes to q in `count` steps, of which there are no more than words up to top. `count` is the same
-- for all registers: the temporaries decide nothing.
pub record Runs (C : List ℕ) (W ls : List Datum) (b n need p top q : ℕ) (dst : Option ℕ) (P : List Datum → Type 0) : Type 0 where
  pub count : ℕ
  pub few : p + count ≤ top
  pub path : (K rs : List Datum) → Good W ls b n need K rs → (rs' : List Datum) × Path C K p rs count q rs' × Keep dst n need rs rs' × P rs'

pub record Fails (C : List ℕ) (W ls : List Datum) (b n need p top : ℕ) (e : Fault) : Type 0 where
  pub count : ℕ
  pub place : ℕ
  pub few : p + count < top
  pub path :
      (K rs : List Datum) → Good W ls b n need K rs →
      (rs' : List Datum) × Path C K p rs count place rs' × Stops C K place rs' e × Keep None n need rs rs'

-- ---- laws of Keep and Good

pub keep-then :
    {dst : Option ℕ} {n₁ m₁ n₂ m₂ : ℕ} {rs rs' rs'' : List Datum} → n₁ ≤ n₂ → Keep None n₁ m₁ rs rs' → Keep dst n₂ m₂ rs' rs'' →
    Keep dst n₁ (max m₁ m₂) rs rs''
keep-then le k l =
    record {
      size = l.size ∙ k.size;
      low = λ i h d. l.low i (omega arith) d ∙ k.low i h tt;
      high = λ i h d. l.high i (omega arith) d ∙ k.high i (omega arith) tt;
    }

pub keep-more : {dst : Option ℕ} {n m m' : ℕ} {rs rs' : List Datum} → m ≤ m' → Keep dst n m rs rs' → Keep dst n m' rs rs'
keep-more le k = record { size = k.size; low = k.low; high = λ i h. k.high i (omega arith) }

-- a destination that was taken is one temporary more
pub keep-own :
    (dst : Option ℕ) (n m : ℕ) {rs rs' : List Datum} → Keep (Some (d_reg dst n)) (d_next dst n) m rs rs' → Keep dst n (max (d_need dst n) m) rs rs'
keep-own None n m k =
    record { size = k.size; low = λ i h d. k.low i (omega arith) (omega arith); high = λ i h d. k.high i (omega arith) (omega arith) }
keep-own (Some d) n m k = keep-more (omega arith) k

pub keep-own-none : (dst : Option ℕ) (n m : ℕ) {rs rs' : List Datum} → Keep None (d_next dst n) m rs rs' → Keep None n (max (d_need dst n) m) rs rs'
keep-own-none None n m k =
    record { size = k.size; low = λ i h d. k.low i (omega arith) tt; high = λ i h d. k.high i (omega arith) tt }
keep-own-none (Some d) n m k = keep-more (omega arith) k

-- one register is written
pub keep-write :
    (dst : Option ℕ) (n m : ℕ) (v : Datum) {rs rs' : List Datum} → Keep None n m rs rs' →
    Keep dst n (max m (d_need dst n)) rs (set rs' (d_reg dst n) v)
keep-write None n m v {rs} {rs'} k =
    record {
      size = length-set rs' n v ∙ k.size;
      low = λ i h d. value-other rs' n i v (omega arith) ∙ k.low i h tt;
      high = λ i h d. value-other rs' n i v (omega arith) ∙ k.high i (omega arith) tt;
    }
keep-write (Some e) n m v {rs} {rs'} k =
    record {
      size = length-set rs' e v ∙ k.size;
      low = λ i h d. value-other rs' e i v d ∙ k.low i h tt;
      high = λ i h d. value-other rs' e i v d ∙ k.high i (omega arith) tt;
    }

-- the destination is written once more
pub keep-again : {d n m : ℕ} (v : Datum) {rs rs' : List Datum} → Keep (Some d) n m rs rs' → Keep (Some d) n m rs (set rs' d v)
keep-again {d} v {rs'} k =
    record {
      size = length-set rs' d v ∙ k.size;
      low = λ i h e. value-other rs' d i v e ∙ k.low i h e;
      high = λ i h e. value-other rs' d i v e ∙ k.high i h e;
    }

pub good-keep :
    {W ls : List Datum} {b n m n' m' : ℕ} {K rs rs' : List Datum} → b ≤ n → n' ≤ max n m → Good W ls b n (max m m') K rs → Keep None n m rs rs' →
    Good W ls b n' m' K rs'
good-keep le le' g k =
    record {
      slots = g.slots;
      agree = λ i h. k.low i (omega arith) tt ∙ g.agree i h;
      low = omega (arith, g.low, g.high, k.size);
      high = omega (arith, g.high, k.size);
    }

pub good-less : {W ls : List Datum} {b n m n' m' : ℕ} {K rs : List Datum} → n' ≤ max n m → m' ≤ max n m → Good W ls b n m K rs → Good W ls b n' m' K rs
good-less le le' g = record { slots = g.slots; agree = g.agree; low = omega (arith, g.low, g.high); high = omega (arith, g.low, g.high) }

-- ---- runs one after the other

module _ (C : List ℕ) (W ls : List Datum) (b : ℕ) where
  pub runs_then :
      {dst : Option ℕ} {n₁ m₁ n₂ m₂ p top₁ mid top q : ℕ} {P Q : List Datum → Type 0} → b ≤ n₁ → n₁ ≤ n₂ → n₂ ≤ max n₁ m₁ → top₁ ≤ mid →
      Runs C W ls b n₁ m₁ p top₁ mid None P → Runs C W ls b n₂ m₂ mid top q dst Q →
      ((rs rs' : List Datum) → Keep dst n₂ m₂ rs rs' → P rs → P rs') → Runs C W ls b n₁ (max m₁ m₂) p top q dst (λ rs. P rs × Q rs)
  runs_then {n₁} {m₁} {n₂} {m₂} le le' le'' le''' r s stable =
      record {
        count = r.count + s.count;
        few = omega (arith, r.few, s.few);
        path =
            λ K rs g.
            let x = r.path K rs (good-less (omega arith) (omega arith) g) in
            let y = s.path K x.0 (good-keep le le'' g x.2) in
            (y.0, path-then x.1 y.1, keep-then le' x.2 y.2, (stable x.0 y.0 y.2 x.3, y.3));
      }

  pub fails-then :
      {n₁ m₁ n₂ m₂ p top₁ mid top : ℕ} {e : Fault} {P : List Datum → Type 0} → b ≤ n₁ → n₁ ≤ n₂ → n₂ ≤ max n₁ m₁ → top₁ ≤ mid →
      Runs C W ls b n₁ m₁ p top₁ mid None P → Fails C W ls b n₂ m₂ mid top e → Fails C W ls b n₁ (max m₁ m₂) p top e
  fails-then le le' le'' le''' r s =
      record {
        count = r.count + s.count;
        place = s.place;
        few = omega (arith, r.few, s.few);
        path =
            λ K rs g.
            let x = r.path K rs (good-less (omega arith) (omega arith) g) in
            let y = s.path K x.0 (good-keep le le'' g x.2) in
            (y.0, path-then x.1 y.1, y.2, keep-then le' x.2 y.3);
      }

  pub runs-more :
      {dst : Option ℕ} {n m m' p top top' q q' : ℕ} {P Q : List Datum → Type 0} → m ≤ m' → top ≤ top' → q ≡ q' → ((rs : List Datum) → P rs → Q rs) →
      Runs C W ls b n m p top q dst P → Runs C W ls b n m' p top' q' dst Q
  runs-more {p} le le' e f r =
      record {
        count = r.count;
        few = omega (arith, r.few);
        path =
            λ K rs g.
            let x = r.path K rs (good-less (omega arith) (omega (arith, g.high)) g) in
            (x.0, subst (λ (y : ℕ). Path C K p rs r.count y x.0) e x.1, keep-more le x.2, f x.0 x.3);
      }

  pub fails_more : {n m m' p top top' : ℕ} {e : Fault} → m ≤ m' → top ≤ top' → Fails C W ls b n m p top e → Fails C W ls b n m' p top' e
  fails_more le le' r =
      record {
        count = r.count;
        place = r.place;
        few = omega (arith, r.few);
        path = λ K rs g. let x = r.path K rs (good-less (omega arith) (omega arith) g) in (x.0, x.1, x.2, keep-more le x.3);
      }

  -- the register that a destination takes
  good-own : (dst : Option ℕ) (n m : ℕ) {K rs : List Datum} → Good W ls b n (max (d_need dst n) m) K rs → Good W ls b (d_next dst n) m K rs
  good-own None n m g = good-less (omega arith) (omega arith) g
  good-own (Some d) n m g = good-less (omega arith) (omega arith) g

  pub runs_own :
      (dst : Option ℕ) (n m : ℕ) {p top q : ℕ} {P : List Datum → Type 0} → Runs C W ls b (d_next dst n) m p top q (Some (d_reg dst n)) P →
      Runs C W ls b n (max (d_need dst n) m) p top q dst P
  runs_own dst n m r =
      record {
        count = r.count;
        few = r.few;
        path = λ K rs g. let x = r.path K rs (good-own dst n m g) in (x.0, x.1, keep-own dst n m x.2, x.3);
      }

  pub fails-own : (dst : Option ℕ) (n m : ℕ) {p top : ℕ} {e : Fault} → Fails C W ls b (d_next dst n) m p top e → Fails C W ls b n (max (d_need dst n) m) p top e
  fails-own dst n m r =
      record {
        count = r.count;
        place = r.place;
        few = r.few;
        path = λ K rs g. let x = r.path K rs (good-own dst n m g) in (x.0, x.1, x.2, keep-own-none dst n m x.3);
      }

  -- nothing to do
  pub runs-rest : (n p : ℕ) → Runs C W ls b n 0 p p p None (λ rs. Unit {0})
  runs-rest n p = record { count = 0; few = omega arith; path = λ K rs g. (rs, rest, keep-refl None n 0 rs, tt) }

-- ---- one word

write-yes : (len room p d : ℕ) (res : Answer) → d < room → settle_of len room p (write d res) ≡ put_of p d res
write-yes len room p d res h = ap (λ (t : Bool). cond t (put_of p d res) (stop out_of_range)) (lt-ltb d room h)

-- a branch forward, by its test
abbrev pub jump_t : ℕ → ℕ → Truth → Next
jump_t p k (truth t) = go (cond t (suc p + k) (suc p))
jump_t p k (wrong e) = stop e

land_yes : (len p k : ℕ) → suc p + k ≤ len → land_of len p (pos k) ≡ go (suc p + k)
unfolding land_of
land_yes len p k h = ap (λ (t : Bool). cond t (go (suc p + k)) (stop out_of_range)) (le-leb (suc p + k) len h)

branch-test : (len p k : ℕ) (res : Answer) → suc p + k ≤ len → branch_of len p (pos k) res ≡ jump_t p k (test res)
branch-test len p k (is nil) h = refl
branch-test len p k (is (bool true)) h = land_yes len p k h
branch-test len p k (is (bool false)) h = refl
branch-test len p k (is (int z)) h = refl
branch-test len p k (is (float f)) h = refl
branch-test len p k (fault e) h = refl

-- ---- what is claimed of fragments

module _ (C : List ℕ) (W ls : List Datum) (b : ℕ) where
  abbrev pub VRuns : Option ℕ → ℕ → ℕ → ℕ → ℕ → ℕ → Answer → Type 0
  VRuns dst n need reg p q (is v) = Runs C W ls b n need p q q dst (λ rs. value_at rs reg ≡ is v)
  VRuns dst n need reg p q (fault e) = Fails C W ls b n need p q e

  -- a value: with its first free register n and the slots ks
  pub record VSound (dst : Option ℕ) (n : ℕ) (ks : List Datum) (F : Vf) (res : Answer) : Type 0 where
    pub more : n ≤ F.next
    pub most : F.next ≤ max n F.need
    pub low : F.reg < F.next
    pub runs : (p q : ℕ) → At C p F.code q → Front W (ks ++ F.consts) → VRuns dst n F.need F.reg p q res

  abbrev pub BRuns : Bool → ℕ → ℕ → ℕ → ℕ → ℕ → Truth → Type 0
  BRuns sense n need p q k (truth v) = Runs C W ls b n need p q (cond (same sense v) (q + k) q) None (λ rs. Unit {0})
  BRuns sense n need p q k (wrong e) = Fails C W ls b n need p q e

  -- a branch: j words lie between its end and where its jumps go
  pub record BSound (sense : Bool) (n : ℕ) (ks : List Datum) (F : Bf) (res : Truth) : Type 0 where
    pub runs : (p q j : ℕ) → At C p (F.code j) q → Front W (ks ++ F.consts) → q + j ≤ length C → BRuns sense n F.need p q j res

  dst-room : (dst : Option ℕ) (n len : ℕ) → DstLow dst n → n ≤ len → d_need dst n ≤ len → d_reg dst n < len
  dst-room None n len low le le' = le'
  dst-room (Some d) n len low le le' = omega arith

  -- a last word that writes the destination: what it asks for is the result
  pub op_runs :
      (dst : Option ℕ) (n m : ℕ) {p mid q : ℕ} {P : List Datum → Type 0} (i : Op) (res : Answer) → DstLow dst n →
      Runs C W ls b n m p mid mid None P → At C mid (i ∷ []) q →
      ((K rs : List Datum) → Front K W → P rs → effect_of (value_at rs) (value_at K) i ≡ write (d_reg dst n) res) →
      VRuns dst n (max m (d_need dst n)) (d_reg dst n) p q res
  op_runs dst n m {mid} {q} i (is v) low r h s =
      record {
        count = r.count + 1;
        few = omega (arith, r.few, h.1.0);
        path =
            λ K rs g.
            let x = r.path K rs (good-less (omega arith) (omega arith) g) in
            let d : d_reg dst n < length x.0 = dst-room dst n (length x.0) low (omega (arith, g.low, x.2.size)) (omega (arith, g.high, x.2.size)) in (
              set x.0 (d_reg dst n) v,
              path-then x.1
                  (subst (λ (y : ℕ). Path C K mid x.0 1 y (set x.0 (d_reg dst n) v)) h.1.0
                  (store h.0
                  (ap (settle_of (length C) (length x.0) mid) (s K x.0 g.slots x.3) ∙ write-yes (length C) (length x.0) mid (d_reg dst n) (is v) d) rest)),
              keep-write dst n m v x.2,
              value_set x.0 (d_reg dst n) v d,
            );
      }
  op_runs dst n m {mid} {q} i (fault e) low r h s =
      record {
        count = r.count;
        place = mid;
        few = omega (arith, r.few, h.1.0);
        path =
            λ K rs g.
            let x = r.path K rs (good-less (omega arith) (omega arith) g) in
            let d : d_reg dst n < length x.0 = dst-room dst n (length x.0) low (omega (arith, g.low, x.2.size)) (omega (arith, g.high, x.2.size)) in (
              x.0,
              x.1,
              (
                i,
                h.0,
                ap (settle_of (length C) (length x.0) mid) (s K x.0 g.slots x.3) ∙ write-yes (length C) (length x.0) mid (d_reg dst n) (fault e) d,
              ),
              keep-more (omega arith) x.2,
            );
      }

  -- a last word that branches: its test, and with the sense false the opposite
  pub leap-runs :
      (sense : Bool) (n m k : ℕ) {p mid q : ℕ} {P : List Datum → Type 0} (i : Op) (res : Answer) (t : Truth) → Runs C W ls b n m p mid mid None P →
      At C mid (i ∷ []) q → q + k ≤ length C →
      ((K rs : List Datum) → Front K W → P rs → effect_of (value_at rs) (value_at K) i ≡ branch (pos k) res) → test res ≡ same_t sense t →
      BRuns sense n m p q k t
  leap-runs sense n m k {mid} {q} i res (truth v) r h le s e =
      record {
        count = r.count + 1;
        few = omega (arith, r.few, h.1.0);
        path =
            λ K rs g.
            let x = r.path K rs g in (
              x.0,
              path-then x.1
                  (subst (λ (y : ℕ). Path C K mid x.0 1 (cond (same sense v) (y + k) y) x.0) h.1.0
                  (walk h.0
                  (ap (settle_of (length C) (length x.0) mid) (s K x.0 g.slots x.3) ∙ branch-test (length C) mid k res (omega (arith, h.1.0))
                  ∙ ap (jump_t mid k) e) rest)),
              x.2,
              tt,
            );
      }
  leap-runs sense n m k {mid} {q} i res (wrong e') r h le s e =
      record {
        count = r.count;
        place = mid;
        few = omega (arith, r.few, h.1.0);
        path =
            λ K rs g.
            let x = r.path K rs g in (
              x.0,
              x.1,
              (
                i,
                h.0,
                ap (settle_of (length C) (length x.0) mid) (s K x.0 g.slots x.3) ∙ branch-test (length C) mid k res (omega (arith, h.1.0))
                    ∙ ap (jump_t mid k) e,
              ),
              x.2,
            );
      }

  -- a last word that jumps over the k words after it
  pub runs_jump :
      {dst : Option ℕ} {n m p mid : ℕ} {P : List Datum → Type 0} (k q : ℕ) → Runs C W ls b n m p mid mid dst P →
      Stands C mid (jmp_by k) → suc mid + k ≡ q → q ≤ length C → Runs C W ls b n m p q q dst P
  runs_jump {dst} {n} {m} {p} {mid} {P} k q r h e le =
      record {
        count = r.count + 1;
        few = omega (arith, r.few);
        path =
            λ K rs g.
            let x = r.path K rs g in (
              x.0,
              path-then x.1
                  (subst (λ (y : ℕ). Path C K mid x.0 1 y x.0) e (walk h (land_yes (length C) mid k (omega arith)) rest)),
              x.2,
              x.3,
            );
      }
