-- Laws of the definition at a state that is read off the code's buffers.
use Rattle.std.specs.Prelude.{Option, Some, None, Result, Ok, Err}
use Rattle.faults.specs.declared.Fault.{Fault}
use mathlib.Core.Path.{◌≡◌, sym, ap, ◌∙◌}
use mathlib.Core.List.{List, [], ◌∷◌}
use Prim.Native.Nat.{ℕ, ◌+◌, ◌<◌, ◌≤◌, max}
use native.Mathlib.Numerals.{add-one}
use native.Mathlib.Omega.{arith}
use lib.ListN.{length, take, set, length-set}
use lib.Seq.{length-take-le, take-suc-set}
use borrow.Author.Tests.{lt-ltb, le-ltb, eq-eqb, ne_eqb}
use Rattle.faults.specs.Numbers.{no_register, no_room}
use Rattle.faults.specs.Limits.{max_registers}
use Rattle.insns.specs.declared.Insn.{Insn}
use Rattle.insns.specs.declared.op.Op.{Op}
use Rattle.insns.specs.declared.op.Two.TheVariants as Two
use Rattle.insns.specs.declared.op.Three.{Three}
use Rattle.insns.specs.declared.op.Shift.{Shift}
use Rattle.insns.specs.Fields.{make, u}
use Rattle.insns.specs.Insns.{made_of}
use Rattle.insns.specs.Opcodes.{three_op, shift_op}
use Rattle.emit.specs.declared.state.St.{St}
use Rattle.fold.specs.declared.Tail.{Tail}
use Rattle.emit.specs.State.{Res, bind, State, alloc_d, dest_d, store_d, emit_d}
use Rattle.fold.specs.Fold.{tail_op}
use Rattle.emit.specs.Steps.{put_d, put_to, move_to}
use Rattle.emit.specs.Read.{Bufs, bufs, st_of, freed, read, Fit, FitAns, Says, Steps, After}

-- ---- one step after another

module _ {b : Bufs} {x : Result (ℕ × St) Fault} {m : Res (ℕ × State)} where
  -- what was got goes on
  pub go : {B : Type 0} (k : ℕ × State → Res B) {d : ℕ} {s : St} → x ≡ Ok (d, s) → Says b x m → k (d, st_of b s) ≡ bind m k
  go k e h = rw (← h.is, e)

  -- a refusal is handed on
  pub stop : (k : ℕ × State → Res (ℕ × State)) {f : Fault} {r : Result (ℕ × St) Fault} → x ≡ Err f → r ≡ Err f → Says b x m → Says b r (bind m k)
  stop k e q h = record { is = rw (← h.is, e, q); fit = rw q tt }

  pub kept : {d : ℕ} {s : St} → x ≡ Ok (d, s) → Says b x m → Fit b s
  kept e h = rw e at h.fit

  pub says-by : {m' : Res (ℕ × State)} → m ≡ m' → Says b x m → Says b x m'
  says-by e h = record { is = h.is ∙ e; fit = h.fit }

  -- the next leaf takes the answer as it is
  pub chain : (k : ℕ × State → Res (ℕ × State)) {b' : Bufs} {r : Result (ℕ × St) Fault} → Says b x m → (FitAns b x → Says b' r (bind (read b x) k)) → Says b' r (bind m k)
  chain k h g = let s = g h.fit in record { is = s.is ∙ ap (λ (q : Res (ℕ × State)). bind q k) h.is; fit = s.fit }

-- a leaf that goes on from what was got
pub came : (c c' : List ℕ) {x r : Result (ℕ × St) Fault} {a : ℕ} {s : St} (f : ℕ × State → Res (ℕ × State)) → x ≡ Ok (a, s) →
    ((ks ps : List ℕ) → Fit (bufs c ks ps) s → Says (bufs c' ks ps) r (f (a, st_of (bufs c ks ps) s))) → After c c' x r f
came c c' f e g ks ps h =
    let s = g ks ps (rw e at h) in
    record { is = s.is ∙ rw e; fit = s.fit }

-- ---- registers

module _ (c : List ℕ) (st : St) where
  pub alloc-none : max_registers ≤ st.next → Steps c c st (Err no_register) alloc_d
  unfolding alloc_d
  alloc-none h ks ps fit = record { is = rw (le-ltb _ _ h); fit = tt }

  pub alloc-next : {f : ℕ} → st.next < max_registers → f ≡ max st.frame (st.next + 1) →
      Steps c c st (Ok (st.next, (record { count = st.count; slots = st.slots; next = st.next + 1; frame = f }))) alloc_d
  unfolding alloc_d
  alloc-next h g ks ps fit =
      record { is = rw (lt-ltb _ _ h, g); fit = record { words = fit.words; consts = fit.consts } }

  pub dest-to : {dst : Option ℕ} {d : ℕ} → dst ≡ Some d → Steps c c st (Ok (d, st)) (dest_d dst)
  unfolding dest_d
  dest-to e ks ps fit = record { is = rw e; fit = fit }

pub dest-any : {st : St} {dst : Option ℕ} {r : Result (ℕ × St) Fault} → dst ≡ None → ((c : List ℕ) → Steps c c st r alloc_d) → (c : List ℕ) → Steps c c st r (dest_d dst)
unfolding dest_d
dest-any e h c ks ps fit = rw e (h c ks ps fit)

-- ---- words

module _ (c : List ℕ) (st : St) {made : Option Insn} (d : ℕ) where
  pub emit-stored : {w : Insn} → made ≡ Some w → st.count < length c →
      Steps c (set c st.count w.bits) st (Ok (d, (record { count = st.count + 1; slots = st.slots; next = st.next; frame = st.frame }))) (store_d made d)
  unfolding store_d
  emit-stored {w} e h ks ps fit =
      let l : length (take st.count c) ≡ st.count = length-take-le _ _ fit.words in
      let n : length (set c st.count w.bits) ≡ length c = length-set c st.count w.bits in
      record {
        is = rw (e, l, lt-ltb _ _ h, add-one, take-suc-set, length-set);
        fit = record { words = rw n (omega arith); consts = fit.consts };
      }

  pub emit-full : {w : Insn} → made ≡ Some w → length c ≤ st.count → Steps c c st (Err no_room) (store_d made d)
  unfolding store_d
  emit-full e h ks ps fit =
      let l : length (take st.count c) ≡ st.count = length-take-le _ _ fit.words in
      record { is = rw (e, l, le-ltb _ _ h); fit = tt }

-- a word made of an instruction
pub emit-op : {c c' : List ℕ} {st : St} {r : Result (ℕ × St) Fault} {made : Option Insn} (d : ℕ) (op : Op) → made ≡ made_of op → Steps c c' st r (store_d made d) → Steps c c' st r (emit_d op d)
emit-op {c} {st = st} d op e h ks ps fit = says-by (ap (λ (q : Option Insn). store_d q d (st_of (bufs c ks ps) st)) e) (h ks ps fit)

-- the destination, then the instruction
module _ {c : List ℕ} {st : St} {y : Result (ℕ × St) Fault} (dst : Option ℕ) (to : (c : List ℕ) → Steps c c st y (dest_d dst)) (op : ℕ → Op) where
  pub put_go : {c' : List ℕ} {d : ℕ} {s : St} {r : Result (ℕ × St) Fault} → y ≡ Ok (d, s) → Steps c c' s r (emit_d (op d) d) → Steps c c' st r (put_d op dst)
  unfolding put_d
  put_go e h ks ps fit = let z = to c ks ps fit in says-by (go _ e z) (h ks ps (kept e z))

-- released registers change nothing else
pub fit_free : {b : Bufs} {s z : St} {mark : ℕ} → z ≡ freed s mark → Fit b s → Fit b z
fit_free free f = rw free (record { words = f.words; consts = f.consts })

-- the operand, the destination, then the instruction
module _ {c : List ℕ} {x y : Result (ℕ × St) Fault} {a : ℕ} {s z : St} (dst : Option ℕ) {mark : ℕ} (got : x ≡ Ok (a, s)) (free : z ≡ freed s mark) (to : (c : List ℕ) → Steps c c z y (dest_d dst)) (op : ℕ → ℕ → Op) where
  pub after-go : {c' : List ℕ} {made : Option Insn} {d : ℕ} {s' : St} {r : Result (ℕ × St) Fault} → y ≡ Ok (d, s') → made ≡ made_of (op a d) → Steps c c' s' r (store_d made d) → After c c' x r (put_to op dst mark)
  unfolding put_to
  after-go {c'} {d = d} e m h =
      came c c' (put_to op dst mark) got λ ks ps fit.
      says-by (ap (λ (q : St). put_d (op a) dst (st_of (bufs c ks ps) q)) free) (put_go dst to (op a) e (emit-op d (op a d) m h) ks ps (fit_free free fit))

-- a move
module _ {c : List ℕ} {x : Result (ℕ × St) Fault} {a d : ℕ} {s z : St} {mark : ℕ} (got : x ≡ Ok (a, s)) (free : z ≡ freed s mark) where
  pub move-there : a ≡ d → After c c x (Ok (d, z)) (move_to d mark)
  unfolding move_to
  move-there e =
      came c c (move_to d mark) got λ ks ps f.
      record { is = rw (eq-eqb a d e, free); fit = fit_free free f }

  pub move-moved : {c' : List ℕ} {made : Option Insn} {r : Result (ℕ × St) Fault} → (a ≡ d → ⊥) → made ≡ made_of (Op.Two Two.Mov d a) → Steps c c' z r (store_d made d) → After c c' x r (move_to d mark)
  unfolding move_to
  move-moved {c'} n m h =
      came c c' (move_to d mark) got λ ks ps f.
      let g : Fit (bufs c ks ps) z = fit_free free f in
      let q = emit-op d (Op.Two Two.Mov d a) m h ks ps g in
      record { is = q.is ∙ rw (ne_eqb a d n, free); fit = q.fit }

-- a word made of an opcode and fields
pub three_made : {k : ℕ} (d a b : ℕ) {r : Option Insn} (op : Three) → k ≡ three_op op → r ≡ make k (u 16 d ∷ u 16 a ∷ u 16 b ∷ []) → r ≡ made_of (Op.Three op d a b)
three_made d a b op e h = rw e at h

pub shift_made : {k : ℕ} (d a n : ℕ) {r : Option Insn} (op : Shift) → k ≡ shift_op op → r ≡ make k (u 16 d ∷ u 16 a ∷ u 6 n ∷ []) → r ≡ made_of (Op.Shift op d a n)
shift_made d a n op e h = rw e at h

-- an arm of a match
pub tail-arm : {tail arm : Tail} (d a : ℕ) {r : Option Insn} → tail ≡ arm → r ≡ made_of (tail_op arm d a) → r ≡ made_of (tail_op tail d a)
tail-arm d a e h = h ∙ ap (λ (q : Tail). made_of (tail_op q d a)) (sym e)

pub ruleset leaves =
    (alloc-none, alloc-next, dest-to, dest-any, emit-stored, emit-full, emit-op, put_go, after-go, move-there, move-moved, three_made, shift_made, tail-arm)
