-- What the generator emits and patches is the tree's fragment and takes no more than `needs` says, or it is refused because less is lent.
use Rattle.faults.specs.declared.Fault.{Fault}
use Rattle.std.specs.Prelude.{Option, Some, None}
use Rattle.insns.specs.declared.op.Imm16.{Imm16}
use mathlib.Core.Path.{◌≡◌, refl, sym, ap, subst, ◌∙◌}
use mathlib.Core.Bool.{Bool, true, false, not, cond}
use mathlib.Core.List.{List, [], ◌∷◌, ◌++◌, append_assoc, append-nil, map-append}
use Prim.Native.Nat.{ℕ, suc, ◌+◌, ◌-◌, ◌≤◌, ◌<◌, max, ◌^◌}
use native.Mathlib.Omega.{arith as linear}
use lib.ListN.{length, length-append}
use lib.IntN.{ℤ}
use lib.Signed.{mag}
use lib.Dec.{eqb}
use Rattle.faults.specs.Limits.{max_registers}
use Rattle.insns.specs.declared.op.Op.{Op}
use Rattle.insns.specs.declared.op.Three.{Three}
use Rattle.insns.specs.Opcodes.{three_op}
use Rattle.insns.specs.declared.op.Cmp.{Cmp as JumpCmp}
use Rattle.insns.specs.declared.op.Imm40.{Imm40}
use Rattle.insns.specs.declared.op.Imm16.{Imm16 as Small}
use Rattle.decode.specs.declared.patch.Branch.{Branch as Jump}
use Rattle.decode.specs.declared.patch.Branch.TheVariants.{Jmp}
use Rattle.value.specs.Value.{Datum}
use Rattle.value.specs.Value as Val
use Rattle.table.specs.Tree.{Tree, leaf, unary, binary, ternary, Leaf, nil, yep, nope, int, float, ref, Unary, minus, not', Cmp, Binary, arith, cmp, and, or, RefBelow, RefsBelow}
use Rattle.fold.specs.declared.Tail.{Tail}
use Rattle.fold.specs.declared.How.{How}
use Rattle.fold.specs.Literal.{fits_imm40, as_imm16}
use Rattle.fold.specs.Fold.{minus_one, fold_of, tail_op, takes_shift}
use Rattle.fold.specs.Opcodes.{three_of, mirror, branch_of}
use Rattle.emit.specs.State.{Res, done, fail, bind, State, release, seek, fresh, emit_d}
use Rattle.claim.proofs.fragments.Shared.{seek-le, fresh-short}
use Rattle.emit.specs.Jump.{jump_d}
use Rattle.emit.specs.Steps.{put_d, put_to, load_op, raw_nil, raw_true, raw_false, raw_int, const_to, const_d, leaf_d, move_to}
use Rattle.emit.specs.Jump.{leap_to, one_to, pair_to, junction_to, true_d, bool_d, turn_d}
use Rattle.codegen.specs.Gen.{Value, Branch, leaf_v, one_v, two_v, operand, binary_v, into_d, cond_v, arms_d, ternary_v, one_b, test_b, pair_b, compare_b, same, junction_b, Gen, plain, condition, unary_g, binary_g, gen}
use Rattle.claim.specs.Refusals.{Amounts}
use Rattle.claim.specs.Emitted.{is_emitted}
use Rattle.claim.proofs.fragments.Frag.{DstLow, Vf, Bf, ValueF, BranchF, Frag, d_reg, d_next, d_need, const_op, mov_op, aimed, jmp_by, test_on, pair_on, imm_on, load_f, const_f, int_f, leaf_f, moved, into_f, binary_f, unary_test_f, binary_test_f, tail_f, operand_f, arith_f, compare_f, cond_f, tern_f, junc_f, junc_b, plain_f, condition_f, unary_n, binary_n, frag}
use Rattle.claim.proofs.fragments.Fits.{word, words_of, Fits, AllFit, all_append, nil-fits, true-fits, false-fits, int-fits, const_fits, mov-fits, three-emitted, three-fits, TailFits, tail-fits, far, BranchFits, branch_fits}
use Rattle.claim.proofs.fragments.Folds.{ImmFits, FoldFits, fold-fits, imm16-fits}
use Rattle.claim.proofs.fragments.Needs.{Within, both, arms, pair, as_value, node, needs, closed}
use Rattle.claim.proofs.fragments.Whole.{words-length}
use Rattle.claim.proofs.fragments.Open.{Open, patched, leap-open, out-open, skip-code, skip-open, fix-test, fix-over}
use Rattle.claim.proofs.fragments.Steps.{Met, met, refused, met-bind, met-eq, met-then, Lacking, st, state-eq, dest-met, slot-met, emit-met, put-met, jump-met, patch-met, patches-met}

-- ---- what is claimed

-- a value's fragment: all its words are there, and it takes no more than u
pub record Fine (u : Amounts) (n : ℕ) (F : Vf) : Type 0 where
  pub low : F.reg < max_registers
  pub top : F.next ≤ max_registers
  pub fits : AllFit F.code
  pub next : F.next ≤ suc n
  pub reach : F.need ≤ n + u.registers
  pub slots : length F.consts ≤ u.slots
  pub words : length F.code < u.words

-- one that was moved to its register, for which a word more is taken
pub record FineI (u : Amounts) (n : ℕ) (F : Vf) : Type 0 where
  pub fits : AllFit F.code
  pub reach : F.need ≤ n + u.registers
  pub slots : length F.consts ≤ u.slots
  pub words : length F.code ≤ u.words

-- a branch's: with the words F₀ its jumps J are open, and wherever they go its words fit
pub record FineB (u : Amounts) (n : ℕ) (c F₀ : List ℕ) (F : Bf) (J : List ℕ) : Type 0 where
  pub opens : Open c F₀ (λ k. words_of (F.code k)) J
  pub fits : (k : ℕ) → length F₀ + k ≤ far → AllFit (F.code k)
  pub reach : F.need ≤ n + u.registers
  pub slots : length F.consts ≤ u.slots
  pub words : length F₀ ≤ u.words
  pub places : length J ≤ u.places

words_append : (F G : List Op) → words_of (F ++ G) ≡ words_of F ++ words_of G
words_append F G = map-append word F G

after-length : (c : List ℕ) (F : List Op) → length (c ++ words_of F) ≡ length c + length F
after-length c F = omega (linear, length-append c (words_of F), words-length F)

-- the same open jumps, the words written otherwise
open-as : {c F₀ : List ℕ} {F G : ℕ → List ℕ} {J : List ℕ} → ((k : ℕ) → F k ≡ G k) → Open c F₀ F J → Open c F₀ G J
open-as e o =
    record {
      size = λ k. ap length (sym (e k)) ∙ o.size k;
      fix = λ c' more k target l t near. o.fix c' more k target l t near ∙ ap (λ (ws : List ℕ). patched (c' ++ (ws ++ more))) (e k);
    }

max_assoc : (a b c : ℕ) → max (max a b) c ≡ max a (max b c)
max_assoc a b c = omega linear

-- ---- for what a whole tree needs, and what is lent

module _ (need : Amounts) (room cap slot_cap : ℕ) (near : need.words ≤ far) (named : need.slots ≤ 2 ^ 32) where
  abbrev S : List ℕ → List Datum → ℕ → ℕ → State
  S = st cap slot_cap

  abbrev Lack : Fault → Type 0
  Lack = Lacking need room cap slot_cap

  -- With p places left, the words c and the slots ks taken, and n the first free register, u more is within the whole.
  pub record Ahead (u : Amounts) (p : ℕ) (c : List ℕ) (ks : List Datum) (n : ℕ) : Type 0 where
    pub registers : n + u.registers ≤ need.registers
    pub slots : length ks + u.slots ≤ need.slots
    pub words : length c + u.words ≤ need.words
    pub places : need.places ≤ room → u.places ≤ p

  -- a part of what is ahead
  ahead :
      {u x : Amounts} {p q : ℕ} {c d : List ℕ} {ks ls : List Datum} {n m : ℕ} → Ahead x p c ks n → m + u.registers ≤ n + x.registers →
      length ls + u.slots ≤ length ks + x.slots → length d + u.words ≤ length c + x.words → (x.places ≤ p → u.places ≤ q) → Ahead u q d ls m
  ahead h r s w k = record { registers = omega linear; slots = omega linear; words = omega linear; places = λ e. k (h.places e) }

  -- the state after a fragment
  abbrev pub after : List ℕ → List Datum → ℕ → Vf → ℕ × State
  after c ks f F = (F.reg, S (c ++ words_of F.code) (ks ++ F.consts) F.next (max f F.need))

  -- a value rule gives its fragment's words
  abbrev pub VMet : Amounts → Value → ValueF → Type 0
  VMet u g v =
      (dst : Option ℕ) (p : ℕ) (c : List ℕ) (ks : List Datum) (n f : ℕ) → n ≤ max_registers → DstLow dst max_registers → Ahead u p c ks n →
      Met Lack (g dst p (S c ks n f)) (after c ks f (v dst n ks)) (Fine u n (v dst n ks))

  -- a branch rule gives words M and jumps J that can be patched to its fragment
  pub data BMet (u : Amounts) (r : Res (List ℕ × State)) (c : List ℕ) (ks : List Datum) (n f : ℕ) (F : Bf) : Type 0 where
    branched : (J M : List ℕ) → r ≡ done (J, S (c ++ M) (ks ++ F.consts) n (max f F.need)) → FineB u n c M F J → BMet u r c ks n f F
    denied : (e : Fault) → r ≡ fail e → Lack e → BMet u r c ks n f F

  abbrev pub TMet : Amounts → (ℕ → State → Res (List ℕ × State)) → (ℕ → List Datum → Bf) → Type 0
  TMet u g br = (p : ℕ) (c : List ℕ) (ks : List Datum) (n f : ℕ) → n ≤ max_registers → Ahead u p c ks n → BMet u (g p (S c ks n f)) c ks n f (br n ks)

  abbrev pub BMets : Amounts → Branch → BranchF → Type 0
  BMets u g br = (sense : Bool) → TMet u (g sense) (br sense)

  pub record GMet (u : Amounts) (g : Gen) (F : Frag) : Type 0 where
    pub values : VMet u g.value F.value
    pub branches : BMets u g.branch F.branch
    pub firsts : VMet u g.first F.first

  -- one step, then a branch; a branch, then a step; a branch, then a branch
  value-branch :
      {A P : Type 0} (k : A → Res (List ℕ × State)) {x : Res A} {a : A} {u : Amounts} {c : List ℕ} {ks : List Datum} {n f : ℕ} {F : Bf} →
      Met Lack x a P → (P → BMet u (k a) c ks n f F) → BMet u (bind x k) c ks n f F
  value-branch k {u = u} {c = c} {ks = ks} {n = n} {f = f} {F = F} (met e p) m = subst (λ (y : Res _). BMet u (bind y k) c ks n f F) (sym e) (m p)
  value-branch k (refused e i h) m = denied e (ap (λ (y : Res _). bind y k) i) h

  branch-value :
      {B Q : Type 0} (k : List ℕ × State → Res B) {r : Res (List ℕ × State)} {b : B} {u : Amounts} {c : List ℕ} {ks : List Datum} {n f : ℕ} {F : Bf} →
      BMet u r c ks n f F → ((J M : List ℕ) → FineB u n c M F J → Met Lack (k (J, S (c ++ M) (ks ++ F.consts) n (max f F.need))) b Q) →
      Met Lack (bind r k) b Q
  branch-value {Q = Q} k {b = b} (branched J M e p) m = subst (λ (y : Res _). Met Lack (bind y k) b Q) (sym e) (m J M p)
  branch-value k (denied e i h) m = refused e (ap (λ (y : Res _). bind y k) i) h

  branch-branch :
      (k : List ℕ × State → Res (List ℕ × State)) {r : Res (List ℕ × State)} {u v : Amounts} {c c' : List ℕ} {ks ks' : List Datum} {n n' f f' : ℕ} {F G : Bf} →
      BMet u r c ks n f F → ((J M : List ℕ) → FineB u n c M F J → BMet v (k (J, S (c ++ M) (ks ++ F.consts) n (max f F.need))) c' ks' n' f' G) →
      BMet v (bind r k) c' ks' n' f' G
  branch-branch k {v = v} {c' = c'} {ks' = ks'} {n' = n'} {f' = f'} {G = G} (branched J M e p) m =
      subst (λ (y : Res _). BMet v (bind y k) c' ks' n' f' G) (sym e) (m J M p)
  branch-branch k (denied e i h) m = denied e (ap (λ (y : Res _). bind y k) i) h

  -- ---- leaves

  -- an instruction without operands
  load-met :
      (z : Imm40) (u : Amounts) → 0 < u.registers → 1 < u.words → ((d : ℕ) → d < max_registers → Fits (load_op z d)) →
      VMet u (λ dst p s. put_d (load_op z) dst s) (load_f z)
  load-met z u some two h dst p c ks n f top low a =
      met-then
      (met-eq (state-eq (d_reg dst n) refl (sym (append-nil ks)) refl (omega linear)) (put-met (load_op z) dst c ks n f top low h (omega linear) (omega linear)))
      (λ t.
      record {
        low = t.low;
        top = t.top;
        fits = (h (d_reg dst n) t.low, tt);
        next = t.next;
        reach = omega linear;
        slots = omega linear;
        words = omega linear;
      })

  const-met : (v : Datum) (u : Amounts) → 0 < u.registers → 0 < u.slots → 1 < u.words → VMet u (λ dst p s. const_d v dst s) (const_f v)
  unfolding const_d const_to
  const-met v u some one two dst p c ks n f top low a =
      let d = d_reg dst n in
      let f' = max f (d_need dst n) in
      met-bind _ (dest-met dst c ks n f top low (omega linear))
      (λ t.
      met-bind _ (slot-met v c ks (d_next dst n) f' (omega linear))
      (λ w.
      let fit = const_fits (seek v ks) d (omega (linear, seek-le v ks)) t.low in
      met-then
      (met-eq (state-eq d refl refl refl (omega linear)) (emit-met (const_op (seek v ks) d) d c (ks ++ fresh v ks) (d_next dst n) f' fit (omega linear)))
      (λ w.
      record { low = t.low; top = t.top; fits = (fit, tt); next = t.next; reach = omega linear; slots = omega (linear, fresh-short v ks); words = omega linear })))

  int-met :
      (t : Bool) (z : ℤ) (u : Amounts) → fits_imm40 z ≡ t → 0 < u.registers → 0 < u.slots → 1 < u.words →
      VMet u (λ dst p s. cond t (put_d (load_op (raw_int z)) dst s) (const_d (Val.int z) dst s)) (int_f t z)
  int-met true z u h some one two = load-met (raw_int z) u some two (λ d. int-fits z d h)
  int-met false z u h some one two = const-met (Val.int z) u some one two

  leaf-met : (l : Leaf) (base : ℕ) → RefBelow base l → base ≤ max_registers → VMet (needs (leaf l)) (leaf_v l) (leaf_f l)
  unfolding leaf_v leaf_d RefBelow needs
  leaf-met nil base h up = load-met raw_nil (needs (leaf nil)) (omega linear) (omega linear) nil-fits
  leaf-met yep base h up = load-met raw_true (needs (leaf yep)) (omega linear) (omega linear) true-fits
  leaf-met nope base h up = load-met raw_false (needs (leaf nope)) (omega linear) (omega linear) false-fits
  leaf-met (int z) base h up = int-met (fits_imm40 z) z (needs (leaf (int z))) refl (omega linear) (omega linear) (omega linear)
  leaf-met (float q) base h up = const-met (Val.float q) (needs (leaf (float q))) (omega linear) (omega linear) (omega linear)
  leaf-met (ref r) base h up =
      λ dst p c ks n f top low a.
      met-eq (state-eq r (sym (append-nil c)) (sym (append-nil ks)) refl (omega linear))
      (met refl
      (record { low = omega linear; top = top; fits = tt; next = omega linear; reach = omega linear; slots = omega linear; words = omega linear }))

  -- ---- operands, then an instruction

  after_one : (c : List ℕ) (F : List Op) (i : Op) → c ++ words_of F ++ word i ∷ [] ≡ c ++ words_of (F ++ i ∷ [])
  after_one c F i = append_assoc c (words_of F) (word i ∷ []) ∙ ap (λ (ws : List ℕ). c ++ ws) (sym (words_append F (i ∷ [])))

  after_two : (c : List ℕ) (F G : List Op) (i : Op) → c ++ words_of F ++ words_of G ++ word i ∷ [] ≡ c ++ words_of (F ++ G ++ i ∷ [])
  after_two c F G i =
      ap (λ (ws : List ℕ). ws ++ word i ∷ []) (append_assoc c (words_of F) (words_of G) ∙ ap (λ (ws : List ℕ). c ++ ws) (sym (words_append F G)))
      ∙ after_one c (F ++ G) i

  tail-met : (tail : Tail) (g : Value) (v : ValueF) (u : Amounts) → TailFits tail → VMet u g v → VMet (node u) (one_v tail g) (tail_f tail v)
  unfolding one_v put_to
  tail-met tail g v u h m dst p c ks n f top low ah =
      let A = v None n ks in
      let i = tail_op tail (d_reg dst n) A.reg in
      met-bind _ (m None p c ks n f top tt (ahead ah (omega linear) (omega linear) (omega linear) (λ e. e)))
      (λ a.
      met-then
      (met-eq (state-eq (d_reg dst n) (after_one c A.code i) refl refl (omega linear))
      (put-met (λ d. tail_op tail d A.reg) dst (c ++ words_of A.code) (ks ++ A.consts) n (max f A.need) top low
      (λ d hd. tail-fits tail h d A.reg hd a.low) (omega linear) (omega (linear, after-length c A.code))))
      (λ t.
      record {
        low = t.low;
        top = t.top;
        fits = all_append A.code (i ∷ []) a.fits (tail-fits tail h (d_reg dst n) A.reg t.low a.low, tt);
        next = t.next;
        reach = omega linear;
        slots = a.slots;
        words = omega (linear, length-append A.code (i ∷ []));
      }))

  two-met :
      (o : Three) (g h : Value) (v w : ValueF) (u x : Amounts) → is_emitted (three_op o) ≡ true → VMet u g v → VMet x h w →
      VMet (node (both u x)) (two_v o g h) (binary_f v w (Op.Three o))
  unfolding two_v put_to
  two-met o g h v w u x is m m' dst p c ks n f top low ah =
      let A = v None n ks in
      let B = w None A.next (ks ++ A.consts) in
      let i = Op.Three o (d_reg dst n) A.reg B.reg in
      met-bind _ (m None p c ks n f top tt (ahead ah (omega linear) (omega linear) (omega linear) (λ e. omega linear)))
      (λ a.
      met-bind _
      (m' None p (c ++ words_of A.code) (ks ++ A.consts) A.next (max f A.need) a.top tt
      (ahead ah (omega linear) (omega (linear, length-append ks A.consts)) (omega (linear, after-length c A.code)) (λ e. omega linear)))
      (λ b.
      met-then
      (met-eq (state-eq (d_reg dst n) (after_two c A.code B.code i) (append_assoc ks A.consts B.consts) refl (omega linear))
      (put-met (λ d. Op.Three o d A.reg B.reg) dst (c ++ words_of A.code ++ words_of B.code) (ks ++ A.consts ++ B.consts) n
      (max (max f A.need) B.need) top low (λ d hd. three-fits o is d A.reg B.reg hd a.low b.low) (omega linear)
      (omega (linear, after-length (c ++ words_of A.code) B.code, after-length c A.code))))
      (λ t.
      record {
        low = t.low;
        top = t.top;
        fits =
            all_append (A.code ++ B.code) (i ∷ []) (all_append A.code B.code a.fits b.fits)
            (three-fits o is (d_reg dst n) A.reg B.reg t.low a.low b.low, tt);
        next = t.next;
        reach = omega linear;
        slots = omega (linear, length-append A.consts B.consts);
        words = omega (linear, length-append (A.code ++ B.code) (i ∷ []), length-append A.code B.code);
      })))

  -- ---- moves

  moved-short : (t : Bool) (i : Op) → length (cond t [] (i ∷ [])) ≤ 1
  moved-short true i = omega linear
  moved-short false i = omega linear

  pub into-met :
      (g : Value) (v : ValueF) (u : Amounts) → VMet u g v → (d p : ℕ) (c : List ℕ) (ks : List Datum) (n f : ℕ) → n ≤ max_registers → d < max_registers →
      Ahead u p c ks n →
      let I = into_f (v (Some d) n ks) d n in
      Met Lack (into_d g d p (S c ks n f)) (d, S (c ++ words_of I.code) (ks ++ I.consts) n (max f I.need)) (FineI u n I)
  unfolding into_d move_to
  into-met g v u m d p c ks n f top low ah =
      let F = v (Some d) n ks in
      met-bind _ (m (Some d) p c ks n f top low ah)
      (λ a.
      met-eq
      (state-eq d
      (append_assoc c (words_of F.code) (words_of (moved d F.reg)) ∙ ap (λ (ws : List ℕ). c ++ ws) (sym (words_append F.code (moved d F.reg)))) refl refl
      refl)
      (met-then
      (move (eqb F.reg d) F.reg a.low (c ++ words_of F.code) (ks ++ F.consts) (max f F.need) (omega (linear, after-length c F.code)))
      (λ k.
      record {
        fits = all_append F.code (moved d F.reg) a.fits k;
        reach = a.reach;
        slots = a.slots;
        words = omega (linear, length-append F.code (moved d F.reg), moved-short (eqb F.reg d) (mov_op d F.reg));
      })))
    where
      move :
          (t : Bool) (r : ℕ) → r < max_registers → (c : List ℕ) (ks : List Datum) (f : ℕ) → length c < need.words →
          Met {A = ℕ × State} Lack (cond t (done (d, S c ks n f)) (emit_d (mov_op d r) d (S c ks n f))) (d, S (c ++ words_of (cond t [] (mov_op d r ∷ []))) ks n f)
          (AllFit (cond t [] (mov_op d r ∷ [])))
      move true r hr c ks f few = met-eq (state-eq d (sym (append-nil c)) refl refl refl) (met refl tt)
      move false r hr c ks f few =
          let fit = mov-fits d r low hr in met-then (emit-met (mov_op d r) d c ks n f fit few) (λ w. (fit, tt))

  -- ---- branches

  -- what `to` emits, of a state with an operand's register
  abbrev Leaps : (ℕ → ℕ → ℕ × State → Res (List ℕ × State)) → (ℕ → Jump) → Type 0
  Leaps to i = (p mark : ℕ) (x : ℕ × State) → to p mark x ≡ jump_d (aimed (i x.0) 0) p (release mark x.1)

  leap-met :
      (u : Amounts) (b : Jump) (p : ℕ) (c : List ℕ) (F : List Op) (ks cs : List Datum) (n f m : ℕ) → BranchFits b → AllFit F → 0 < u.places → Ahead u p c ks n →
      m ≤ n + u.registers → length cs ≤ u.slots → length F < u.words →
      BMet u (jump_d (aimed b 0) p (S (c ++ words_of F) (ks ++ cs) n (max f m))) c ks n f (record { need = m; consts = cs; code = λ k. F ++ aimed b k ∷ [] })
  leap-met u b p c F ks cs n f m h fits some ah reach slots words =
      let J = length (c ++ words_of F) ∷ [] in
      let M = words_of F ++ word (aimed b 0) ∷ [] in
      go
      (met-eq (state-eq J (append_assoc c (words_of F) (word (aimed b 0) ∷ [])) refl refl refl)
      (jump-met (aimed b 0) p (c ++ words_of F) (ks ++ cs) n (max f m) (branch_fits b h 0 (omega linear)) (omega (linear, after-length c F)) (λ e. omega (linear, ah.places e))))
      (record {
        opens = open-as (λ k. sym (words_append F (aimed b k ∷ []))) (leap-open c (words_of F) b h);
        fits =
            λ k lim.
            all_append F (aimed b k ∷ []) fits
            (branch_fits b h k (omega (linear, length-append (words_of F) (word (aimed b 0) ∷ []))), tt);
        reach = reach;
        slots = slots;
        words = omega (linear, length-append (words_of F) (word (aimed b 0) ∷ []), words-length F);
        places = omega linear;
      })
    where
      go :
          {r : Res (List ℕ × State)} {J M : List ℕ} {G : Bf} → Met Lack r (J, S (c ++ M) (ks ++ G.consts) n (max f G.need)) (Unit {0}) → FineB u n c M G J →
          BMet u r c ks n f G
      go {J = J} {M = M} (met e w) k = branched J M e k
      go (refused e i l) k = denied e i l

  unary_test-met :
      (g : Value) (v : ValueF) (u : Amounts) (i : ℕ → Jump) (to : ℕ → ℕ → ℕ × State → Res (List ℕ × State)) → Leaps to i →
      ((r : ℕ) → r < max_registers → BranchFits (i r)) → 0 < u.places → VMet u g v → TMet u (λ p s. bind (g None p s) (to p s.next)) (unary_test_f v i)
  unary_test-met g v u i to leaps h some m p c ks n f top ah =
      let A = v None n ks in
      value-branch _ (m None p c ks n f top tt ah)
      (λ a.
      rw (leaps p n (after c ks f A))
      (leap-met u (i A.reg) p c A.code ks A.consts n f A.need (h A.reg a.low) a.fits some ah a.reach a.slots a.words))

  pair-met :
      (g h : Value) (v w : ValueF) (u x : Amounts) (i : ℕ → ℕ → Jump) (to : ℕ → ℕ → ℕ → ℕ × State → Res (List ℕ × State)) → ((r : ℕ) → Leaps (to r) (i r)) →
      ((r q : ℕ) → r < max_registers → q < max_registers → BranchFits (i r q)) → 0 < u.places → VMet u g v → VMet x h w →
      TMet (pair u x) (λ p s. bind (g None p s) (λ y. bind (h None p y.1) (to y.0 p s.next))) (binary_test_f v w i)
  pair-met g h v w u x i to leaps fit some m m' p c ks n f top ah =
      let A = v None n ks in
      let B = w None A.next (ks ++ A.consts) in
      let b = i A.reg B.reg in
      let F = A.code ++ B.code in
      let e : c ++ words_of A.code ++ words_of B.code ≡ c ++ words_of F =
      append_assoc c (words_of A.code) (words_of B.code) ∙ ap (λ (ws : List ℕ). c ++ ws) (sym (words_append A.code B.code)) in
      let k : ks ++ A.consts ++ B.consts ≡ ks ++ (A.consts ++ B.consts) = append_assoc ks A.consts B.consts in
      let l : max (max f A.need) B.need ≡ max f (max A.need B.need) = max_assoc f A.need B.need in
      value-branch _ (m None p c ks n f top tt (ahead ah (omega linear) (omega linear) (omega linear) (λ e. omega linear)))
      (λ a.
      value-branch _
      (m' None p (c ++ words_of A.code) (ks ++ A.consts) A.next (max f A.need) a.top tt
      (ahead ah (omega linear) (omega (linear, length-append ks A.consts)) (omega (linear, after-length c A.code)) (λ e. omega linear)))
      (λ q.
      rw (leaps A.reg p n (after (c ++ words_of A.code) (ks ++ A.consts) (max f A.need) B), e, k, l)
      (leap-met (pair u x) b p c F ks (A.consts ++ B.consts) n f (max A.need B.need) (fit A.reg B.reg a.low q.low)
      (all_append A.code B.code a.fits q.fits) (omega linear) ah (omega linear) (omega (linear, length-append A.consts B.consts))
      (omega (linear, length-append A.code B.code)))))

  -- And, Or: both sides are made, with the words M and N and the jumps J and K
  junc-met :
      (out : Bool) (u x : Amounts) (p : ℕ) (c : List ℕ) (ks : List Datum) (n f : ℕ) (X Y : Bf) (J M K N : List ℕ) → Ahead (both u x) p c ks n → FineB u n c M X J →
      FineB x n (c ++ M) N Y K →
      BMet (both u x) (junction_to out J (K, S (c ++ M ++ N) (ks ++ X.consts ++ Y.consts) n (max (max f X.need) Y.need))) c ks n f (junc_f X Y out)
  unfolding junction_to
  junc-met true u x p c ks n f X Y J M K N ah a b =
      let Xw : ℕ → List ℕ = λ k. words_of (X.code k) in
      let Yw : ℕ → List ℕ = λ k. words_of (Y.code k) in
      branched (J ++ K) (M ++ N)
      (ap done (state-eq _ (append_assoc c M N) (append_assoc ks X.consts Y.consts) refl (max_assoc f X.need Y.need)))
      (record {
        opens =
            open-as
            (λ k.
            ap (λ (m : ℕ). Xw (m + k) ++ Yw k) (words-length (Y.code k)) ∙ sym (words_append (X.code (length (Y.code k) + k)) (Y.code k)))
            (out-open c M N Xw Yw J K a.opens b.opens);
        fits =
            λ k lim.
            let l : length (Y.code k) ≡ length N = sym (words-length (Y.code k)) ∙ b.opens.size k in
            all_append (X.code (length (Y.code k) + k)) (Y.code k) (a.fits (length (Y.code k) + k) (omega (linear, length-append M N)))
            (b.fits k (omega (linear, length-append M N)));
        reach = omega linear;
        slots = omega (linear, length-append X.consts Y.consts);
        words = omega (linear, length-append M N);
        places = omega (linear, length-append J K);
      })
  junc-met false u x p c ks n f X Y J M K N ah a b =
      let Xw : ℕ → List ℕ = λ k. words_of (X.code k) in
      let Yw : ℕ → List ℕ = λ k. words_of (Y.code k) in
      let A = Xw (length N) in
      let l_a : length A ≡ length M = a.opens.size (length N) in
      value-branch _
      (patches-met J 0 (c ++ M ++ N) (c ++ (A ++ N)) (ks ++ X.consts ++ Y.consts) n (max (max f X.need) Y.need)
      (skip-code c M N Xw J a.opens (omega linear)))
      (λ v.
      branched K (A ++ N) (ap done (state-eq _ refl (append_assoc ks X.consts Y.consts) refl (max_assoc f X.need Y.need)))
      (record {
        opens =
            open-as
            (λ k.
            ap (λ (m : ℕ). Xw (m + 0) ++ Yw k) (words-length (Y.code k)) ∙ sym (words_append (X.code (length (Y.code k) + 0)) (Y.code k)))
            (skip-open c M N Xw Yw J K a.opens b.opens);
        fits =
            λ k lim.
            let l : length (Y.code k) ≡ length N = sym (words-length (Y.code k)) ∙ b.opens.size k in
            all_append (X.code (length (Y.code k) + 0)) (Y.code k) (a.fits (length (Y.code k) + 0) (omega linear))
            (b.fits k (omega (linear, length-append A N)));
        reach = omega linear;
        slots = omega (linear, length-append X.consts Y.consts);
        words = omega (linear, length-append A N);
        places = omega linear;
      }))

  -- ---- a test, one side, a jump over the other side, the other side

  words-join : (X A : List Op) (i : Op) (B : List Op) → words_of X ++ (words_of A ++ word i ∷ words_of B) ≡ words_of (X ++ (A ++ i ∷ B))
  words-join X A i B = ap (λ (ws : List ℕ). words_of X ++ ws) (sym (words_append A (i ∷ B))) ∙ sym (words_append X (A ++ i ∷ B))

  join-fits : (X A : List Op) (i : Op) (B : List Op) → AllFit X → AllFit A → Fits i → AllFit B → AllFit (X ++ (A ++ i ∷ B))
  join-fits X A i B hx ha hi hb = all_append X (A ++ i ∷ B) hx (all_append A (i ∷ B) ha (hi, hb))

  join-length : (X A : List Op) (i : Op) (B : List Op) → length (X ++ (A ++ i ∷ B)) ≡ length X + length A + length B + 1
  join-length X A i B = omega (linear, length-append X (A ++ i ∷ B), length-append A (i ∷ B))

  -- the words of a test, patched or not, those of one side, and a jump
  turn-length : (c X A : List ℕ) (j : ℕ) → length (c ++ X ++ A ++ j ∷ []) ≡ length c + length X + length A + 1
  turn-length c X A j = omega (linear, length-append (c ++ X ++ A) (j ∷ []), length-append (c ++ X) A, length-append c X)

  cond-met : (g : Branch) (br : BranchF) (u : Amounts) → BMets u g br → VMet (as_value u) (cond_v g) (cond_f br)
  unfolding cond_v bool_d true_d
  cond-met g br u m dst p c ks n f top low ah =
      let d = d_reg dst n in
      let n' = d_next dst n in
      let f' = max f (d_need dst n) in
      let X = br true n' ks in
      let Xw : ℕ → List ℕ = λ k. words_of (X.code k) in
      let l₀ = load_op raw_false d in
      let l₁ = load_op raw_true d in
      let A = l₀ ∷ [] in
      let E = l₁ ∷ [] in
      let ks' = ks ++ X.consts in
      let f'' = max f' X.need in
      let c₃ = c ++ Xw 2 ++ word l₀ ∷ [] ++ word (jmp_by 0) ∷ [] in
      met-bind _ (dest-met dst c ks n f top low (omega linear))
      (λ t.
      branch-value _ (m true p c ks n' f' t.top (ahead ah (omega linear) (omega linear) (omega linear) (λ e. e)))
      (λ J M g.
      let c₁ = c ++ M ++ word l₀ ∷ [] in
      let s₂ : length (Xw 2) ≡ length M = g.opens.size 2 in
      let l₂ : length c₃ ≡ length c + length (Xw 2) + 1 + 1 = turn-length c (Xw 2) (word l₀ ∷ []) (word (jmp_by 0)) in
      met-bind _ (emit-met l₀ d (c ++ M) ks' n' f'' (false-fits d t.low) (omega (linear, length-append c M)))
      (λ w.
      met-bind _ (emit-met (jmp_by 0) d c₁ ks' n' f'' (branch_fits Jmp tt 0 (omega linear)) (omega (linear, length-append (c ++ M) (word l₀ ∷ []), length-append c M)))
      (λ w.
      met-bind _ (patches-met J d _ c₃ ks' n' f'' (fix-test c M Xw J (word l₀ ∷ []) g.opens (omega linear)))
      (λ w.
      met-bind _ (emit-met l₁ d c₃ ks' n' f'' (true-fits d t.low) (omega linear))
      (λ w.
      met-then
      (met-eq
      (state-eq d (ap (λ (ws : List ℕ). c ++ ws) (words-join (X.code 2) A (jmp_by 1) E)) (simp append-nil) refl (omega linear))
      (patch-met (length c₁) d _ _ ks' n' f'' (fix-over c M Xw J (word l₀ ∷ []) (word l₁ ∷ []) g.opens (omega linear))))
      (λ w.
      record {
        low = t.low;
        top = t.top;
        fits =
            join-fits (X.code 2) A (jmp_by 1) E (g.fits 2 (omega linear)) (false-fits d t.low, tt) (branch_fits Jmp tt 1 (omega linear))
            (true-fits d t.low, tt);
        next = t.next;
        reach = omega linear;
        slots = omega (linear, length-append (X.consts ++ []) [], length-append X.consts []);
        words = omega (linear, join-length (X.code 2) A (jmp_by 1) E, words-length (X.code 2));
      })))))))

  -- the arms of a ternary, after its test T with the words M and the jumps J
  arms-met :
      (a b : Value) (P Q : ValueF) (t u x : Amounts) → VMet u a P → VMet x b Q → (d n p : ℕ) (c : List ℕ) (ks : List Datum) (f : ℕ) (T : Bf) (M J : List ℕ) →
      n ≤ max_registers → d < max_registers → FineB t n c M T J → Ahead u (p - length J) (c ++ M) ks n →
      ((C : List ℕ) (K : List Datum) → length C ≤ length c + t.words + u.words + 1 → length K ≤ length ks + u.slots → Ahead x p C K n) →
      length c + t.words + u.words + x.words + 1 < need.words →
      let A = into_f (P (Some d) n ks) d n in
      let E = into_f (Q (Some d) n (ks ++ A.consts)) d n in
      let F = T.code (suc (length A.code)) ++ (A.code ++ jmp_by (length E.code) ∷ E.code) in
      Met Lack (arms_d a b d p (J, S (c ++ M) ks n f)) (d, S (c ++ words_of F) (ks ++ A.consts ++ E.consts) n (max (max f A.need) E.need))
      (AllFit F × FineI u n A × FineI x n E)
  unfolding arms_d turn_d
  arms-met a b P Q t u x ma mb d n p c ks f T M J top low g ahead-a ahead-b few =
      let Tw : ℕ → List ℕ = λ k. words_of (T.code k) in
      let A = into_f (P (Some d) n ks) d n in
      let ks₁ = ks ++ A.consts in
      let E = into_f (Q (Some d) n ks₁) d n in
      let Aw = words_of A.code in
      let Ew = words_of E.code in
      let f₁ = max f A.need in
      let w_a : length Aw ≡ length A.code = words-length A.code in
      let w_e : length Ew ≡ length E.code = words-length E.code in
      let c₃ = c ++ Tw (suc (length Aw)) ++ Aw ++ word (jmp_by 0) ∷ [] in
      let s₂ : length (Tw (suc (length Aw))) ≡ length M = g.opens.size (suc (length Aw)) in
      let l₂ : length c₃ ≡ length c + length (Tw (suc (length Aw))) + length Aw + 1 = turn-length c (Tw (suc (length Aw))) Aw (word (jmp_by 0)) in
      met-bind _ (into-met a P u ma d (p - length J) (c ++ M) ks n f top low ahead-a)
      (λ fa.
      met-bind _
      (met-bind _ (emit-met (jmp_by 0) d (c ++ M ++ Aw) ks₁ n f₁ (branch_fits Jmp tt 0 (omega linear)) (omega (linear, length-append (c ++ M) Aw, length-append c M)))
      (λ y. patches-met J d _ c₃ ks₁ n f₁ (fix-test c M Tw J Aw g.opens (omega linear))))
      (λ y.
      met-bind _ (into-met b Q x mb d p c₃ ks₁ n f₁ top low (ahead-b c₃ ks₁ (omega linear) (omega (linear, length-append ks A.consts))))
      (λ fe.
      met-then
      (met-eq
      (state-eq d
      (ap (λ (m : ℕ). c ++ (Tw (suc (length Aw)) ++ (Aw ++ word (jmp_by m) ∷ Ew))) w_e
      ∙ ap (λ (m : ℕ). c ++ (Tw (suc m) ++ (Aw ++ word (jmp_by (length E.code)) ∷ Ew))) w_a
      ∙ ap (λ (ws : List ℕ). c ++ ws) (words-join (T.code (suc (length A.code))) A.code (jmp_by (length E.code)) E.code))
      refl refl refl)
      (patch-met (length (c ++ M ++ Aw)) d _ _ (ks₁ ++ E.consts) n (max f₁ E.need) (fix-over c M Tw J Aw Ew g.opens (omega linear))))
      (λ z. (
        join-fits (T.code (suc (length A.code))) A.code (jmp_by (length E.code)) E.code (g.fits (suc (length A.code)) (omega linear)) fa.fits
            (branch_fits Jmp tt (length E.code) (omega linear)) fe.fits,
        fa,
        fe,
      )))))

  tern-met :
      (x : Branch) (a b : Value) (X : BranchF) (P Q : ValueF) (t u v : Amounts) → BMets t x X → VMet u a P → VMet v b Q →
      VMet (node (both t (arms u v))) (ternary_v x a b) (tern_f X P Q)
  unfolding ternary_v
  tern-met x a b X P Q t u v mx ma mb dst p c ks n f top low ah =
      let d = d_reg dst n in
      let n' = d_next dst n in
      let f' = max f (d_need dst n) in
      let T = X false n' ks in
      let ks₁ = ks ++ T.consts in
      let A = into_f (P (Some d) n' ks₁) d n' in
      let E = into_f (Q (Some d) n' (ks₁ ++ A.consts)) d n' in
      met-bind _ (dest-met dst c ks n f top low (omega linear))
      (λ k.
      branch-value _ (mx false p c ks n' f' k.top (ahead ah (omega linear) (omega linear) (omega linear) (λ e. omega linear)))
      (λ J M g.
      let T₁ = T.code (suc (length A.code)) in
      let s₁ : length (words_of T₁) ≡ length M = g.opens.size (suc (length A.code)) in
      met-then
      (met-eq
      (state-eq d refl
      (ap (λ (l : List Datum). l ++ E.consts) (append_assoc ks T.consts A.consts) ∙ append_assoc ks (T.consts ++ A.consts) E.consts) refl
      (simp max_assoc))
      (arms-met a b P Q t u v ma mb d n' p c ks₁ (max f' T.need) T M J k.top k.low g
      (ahead ah (omega linear) (omega (linear, length-append ks T.consts)) (omega (linear, length-append c M)) (λ e. omega linear))
      (λ C K l_c l_k. ahead ah (omega linear) (omega (linear, length-append ks T.consts)) (omega linear) (λ e. omega linear)) (omega linear)))
      (λ y.
      let fa = y.1 in
      let fe = y.2 in
      record {
        low = k.low;
        top = k.top;
        fits = y.0;
        next = k.next;
        reach = omega linear;
        slots = omega (linear, length-append (T.consts ++ A.consts) E.consts, length-append T.consts A.consts);
        words = omega (linear, join-length T₁ A.code (jmp_by (length E.code)) E.code, words-length T₁);
      })))

  -- ---- trees

  less-V : {u x : Amounts} (g : Value) (v : ValueF) → Within u x → VMet u g v → VMet x g v
  less-V g v up m dst p c ks n f top low ah =
      met-then (m dst p c ks n f top low (ahead ah (omega linear) (omega linear) (omega linear) (λ e. omega linear)))
      (λ a.
      record { low = a.low; top = a.top; fits = a.fits; next = a.next; reach = omega linear; slots = omega linear; words = omega linear })

  less-T : {u x : Amounts} (g : ℕ → State → Res (List ℕ × State)) (br : ℕ → List Datum → Bf) → Within u x → TMet u g br → TMet x g br
  less-T {u} {x} g br up m p c ks n f top ah = go (m p c ks n f top (ahead ah (omega linear) (omega linear) (omega linear) (λ e. omega linear)))
    where
      go : {r : Res (List ℕ × State)} {F : Bf} → BMet u r c ks n f F → BMet x r c ks n f F
      go (branched J M e k) =
          branched J M e
          (record { opens = k.opens; fits = k.fits; reach = omega linear; slots = omega linear; words = omega linear; places = omega linear })
      go (denied e i l) = denied e i l

  arith-met :
      (fold : Option Tail) (o : Three) (g g₁ h : Value) (v v₁ w : ValueF) (u x : Amounts) → FoldFits fold → is_emitted (three_op o) ≡ true → VMet u g v → VMet u g₁ v₁ →
      VMet x h w → VMet (node (both u x)) (binary_v fold o g g₁ h) (arith_f fold o v v₁ w)
  unfolding binary_v
  arith-met None o g g₁ h v v₁ w u x fit is m m₁ m' = two-met o g h v w u x is m m'
  arith-met (Some tail) o g g₁ h v v₁ w u x fit is m m₁ m' =
      less-V (one_v tail (operand tail g g₁)) (tail_f tail (operand_f tail v v₁))
      (record { registers = omega linear; slots = omega linear; words = omega linear; places = omega linear })
      (tail-met tail (operand tail g g₁) (operand_f tail v v₁) u fit (taken (takes_shift tail)))
    where
      taken : (t : Bool) → VMet u (cond t g₁ g) (cond t v₁ v)
      taken true = m₁
      taken false = m

  test-met : (sense : Bool) (g : Value) (v : ValueF) (u : Amounts) → 0 < u.places → VMet u g v → TMet u (test_b g sense) (unary_test_f v (test_on sense))
  unfolding one_b leap_to
  test-met sense g v u some m = unary_test-met g v u (test_on sense) (one_to (How.Bool sense)) (λ p mark x. refl) (λ r h. h) some m

  imm-met :
      (c : JumpCmp) (z : Small) (g : Value) (v : ValueF) (u : Amounts) → mag z.n < 32768 → 0 < u.places → VMet u g v →
      TMet u (one_b (How.Imm c z) g) (unary_test_f v (imm_on c z))
  unfolding one_b leap_to
  imm-met c z g v u fit some m = unary_test-met g v u (imm_on c z) (one_to (How.Imm c z)) (λ p mark x. refl) (λ r h. (h, fit)) some m

  compare-met :
      (c : Cmp) (l r : Option Imm16) (g h : Value) (v w : ValueF) (u x : Amounts) → ImmFits l → ImmFits r → 0 < u.places → 0 < x.places → VMet u g v → VMet x h w →
      BMets (pair u x) (compare_b c l r g h) (compare_f c l r v w)
  unfolding compare_b pair_b leap_to
  compare-met c l (Some z) g h v w u x fl fr some some' m m' sense =
      less-T (one_b (How.Imm (branch_of c sense) z) g) (unary_test_f v (imm_on (branch_of c sense) z))
      (record { registers = omega linear; slots = omega linear; words = omega linear; places = omega linear }) (imm-met (branch_of c sense) z g v u fr some m)
  compare-met c (Some z) None g h v w u x fl fr some some' m m' sense =
      less-T (one_b (How.Imm (branch_of (mirror c) sense) z) h) (unary_test_f w (imm_on (branch_of (mirror c) sense) z))
      (record { registers = omega linear; slots = omega linear; words = omega linear; places = omega linear })
      (imm-met (branch_of (mirror c) sense) z h w x fl some' m')
  compare-met c None None g h v w u x fl fr some some' m m' sense =
      pair-met g h v w u x (pair_on (branch_of c sense)) (pair_to (branch_of c sense)) (λ r p mark x. refl) (λ r q hr hq. (hr, hq)) some m m'

  junction-met :
      (z : Bool) (a b : Branch) (x y : BranchF) (u v : Amounts) → BMets u a x → BMets v b y → BMets (both u v) (junction_b z a b) (junc_b z x y)
  unfolding junction_b
  junction-met z a b x y u v ma mb sense p c ks n f top ah =
      let X = x z n ks in
      let ks' = ks ++ X.consts in
      branch-branch _ (ma z p c ks n f top (ahead ah (omega linear) (omega linear) (omega linear) (λ e. omega linear)))
      (λ J M g.
      branch-branch _
      (mb sense (p - length J) (c ++ M) ks' n (max f X.need) top
      (ahead ah (omega linear) (omega (linear, length-append ks X.consts)) (omega (linear, length-append c M)) (λ e. omega linear)))
      (λ K N h. junc-met (same z sense) u v p c ks n f X (y sense n ks') J M K N ah g h))

  plain-met : (g h : Value) (v w : ValueF) (u : Amounts) → 0 < u.places → VMet u g v → VMet u h w → GMet u (plain g h) (plain_f v w)
  plain-met g h v w u some m m' = record { values = m; branches = λ sense. test-met sense g v u some m; firsts = m' }

  condition-met :
      (g : Branch) (h : Value) (br : BranchF) (w : ValueF) (u x : Amounts) → Within (as_value u) x → BMets u g br → VMet x h w → GMet x (condition g h) (condition_f br w)
  condition-met g h br w u x up m m' =
      record {
        values = less-V (cond_v g) (cond_f br) up (cond-met g br u m);
        branches =
            λ sense.
            less-T (g sense) (br sense) (record { registers = omega linear; slots = omega linear; words = omega linear; places = omega linear }) (m sense);
        firsts = m';
      }

  -- an operand's needs are within the node's
  one-within : (u : Amounts) → Within u (node u)
  one-within u = record { registers = omega linear; slots = omega linear; words = omega linear; places = omega linear }

  left-within : (u x : Amounts) → Within u (node (both u x))
  left-within u x = record { registers = omega linear; slots = omega linear; words = omega linear; places = omega linear }

  unary-met : (o : Unary) (g : Gen) (F : Frag) (u : Amounts) → 0 < u.places → GMet u g F → GMet (node u) (unary_g o g) (unary_n o F)
  unary-met minus g F u some m =
      plain-met (one_v minus_one g.value) g.value (tail_f minus_one F.value) F.value (node u) some
      (tail-met minus_one g.value F.value u (omega linear) m.values) (less-V g.value F.value (one-within u) m.values)
  unary-met not' g F u some m =
      record {
        values = tail-met Tail.Not g.value F.value u tt m.values;
        branches = λ sense. less-T (g.branch (not sense)) (F.branch (not sense)) (one-within u) (m.branches (not sense));
        firsts = less-V g.value F.value (one-within u) m.values;
      }

  binary-met :
      (o : Binary) (x y : Tree) (g h : Gen) (F G : Frag) (u v : Amounts) → 0 < u.places → 0 < v.places → GMet u g F → GMet v h G →
      GMet (node (both u v)) (binary_g o x y g h) (binary_n o x y F G)
  binary-met (arith o) x y g h F G u v some some' m m' =
      let fold = fold_of o x y in
      plain-met (binary_v fold (three_of o) g.value g.first h.value) g.value (arith_f fold (three_of o) F.value F.first G.value) F.value
      (node (both u v)) (omega linear)
      (arith-met fold (three_of o) g.value g.first h.value F.value F.first G.value u v (fold-fits o x y) (three-emitted o)
      m.values m.firsts m'.values)
      (less-V g.value F.value (left-within u v) m.values)
  binary-met (cmp c) x y g h F G u v some some' m m' =
      let l = as_imm16 x in
      let r = as_imm16 y in
      condition-met (compare_b c l r g.value h.value) g.value (compare_f c l r F.value G.value) F.value (pair u v) (node (both u v))
      (record { registers = omega linear; slots = omega linear; words = omega linear; places = omega linear })
      (compare-met c l r g.value h.value F.value G.value u v (imm16-fits x) (imm16-fits y) some some' m.values m'.values)
      (less-V g.value F.value (left-within u v) m.values)
  binary-met and x y g h F G u v some some' m m' =
      condition-met (junction_b false g.branch h.branch) g.value (junc_b false F.branch G.branch) F.value (both u v) (node (both u v))
      (record { registers = omega linear; slots = omega linear; words = omega linear; places = omega linear })
      (junction-met false g.branch h.branch F.branch G.branch u v m.branches m'.branches)
      (less-V g.value F.value (left-within u v) m.values)
  binary-met or x y g h F G u v some some' m m' =
      condition-met (junction_b true g.branch h.branch) g.value (junc_b true F.branch G.branch) F.value (both u v) (node (both u v))
      (record { registers = omega linear; slots = omega linear; words = omega linear; places = omega linear })
      (junction-met true g.branch h.branch F.branch G.branch u v m.branches m'.branches)
      (less-V g.value F.value (left-within u v) m.values)

  pub gen-met : (t : Tree) (base : ℕ) → RefsBelow base t → base ≤ max_registers → GMet (needs t) (gen t) (frag t)
  unfolding gen frag needs RefsBelow
  gen-met (leaf l) base h up =
      plain-met (leaf_v l) (leaf_v l) (leaf_f l) (leaf_f l) (needs (leaf l)) (omega linear) (leaf-met l base h up) (leaf-met l base h up)
  gen-met (unary o a) base h up = unary-met o (gen a) (frag a) (needs a) (closed a).some (gen-met a base h up)
  gen-met (binary o a b) base h up =
      binary-met o a b (gen a) (gen b) (frag a) (frag b) (needs a) (needs b) (closed a).some (closed b).some (gen-met a base h.0 up) (gen-met b base h.1 up)
  gen-met (ternary c a b) base h up =
      let m = gen-met c base h.0 up in
      let g = ternary_v (gen c).branch (gen a).value (gen b).value in
      let v = tern_f (frag c).branch (frag a).value (frag b).value in
      let u = node (both (needs c) (arms (needs a) (needs b))) in
      plain-met g (gen c).value v (frag c).value u (omega (linear, (closed c).some))
      (tern-met (gen c).branch (gen a).value (gen b).value (frag c).branch (frag a).value (frag b).value (needs c) (needs a) (needs b) m.branches
      (gen-met a base h.1 up).values (gen-met b base h.2 up).values)
      (less-V (gen c).value (frag c).value (record { registers = omega linear; slots = omega linear; words = omega linear; places = omega linear }) m.values)
