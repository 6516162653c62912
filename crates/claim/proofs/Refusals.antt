-- A compile takes no more than `needed`, and is refused for its table or for want of that much alone.
use Rattle.std.specs.Prelude.{Option, Some, None, Ok, Err}
use mathlib.Core.Path.{◌≡◌, refl, sym, ap, subst, ◌∙◌}
use mathlib.Core.Bool.{Bool, true, false}
use mathlib.Core.List.{List}
use Prim.Native.Nat.{ℕ, zero, suc, ◌+◌, ◌-◌, ◌≤◌, ◌<◌, max}
use native.Mathlib.Omega.{arith}
use Rattle.faults.specs.declared.Fault.{Fault}
use Rattle.faults.specs.declared.Fault.TheVariants as F
use Rattle.faults.specs.Faults.{Checked, none, fault, ◌or_else◌}
use Rattle.faults.specs.Numbers.{bad_shape, no_register, no_room, number, number_of}
use Rattle.table.specs.Table.{node_count, kind_at, payload_at, first_at, depth_at, arity, kind_fault, children, span_fault, node_fault, nodes_fault, shape_fault, layout_fault, dest_fault, last_fault, check_of}
use Rattle.table.specs.Tree.{tree}
use Rattle.emit.specs.State.{Res, done, fail, State}
use Rattle.compile.specs.Compile.{generated, accepted, compile_of}
use Rattle.claim.specs.Claim.{Accepted}
use Rattle.claim.specs.Refusals.{Amounts, needed, lent, Takes, Lacks, register, slot, word, place, Enough, TableOrRegisters, table, registers, RefusalsOf}
use Rattle.claim.proofs.fragments.Steps.{Met, met, refused}
use Rattle.claim.proofs.fragments.Whole.{words-length}
use Rattle.claim.proofs.Known.{checked, frag_of, table-met, known}

-- ---- the check's number is 1 to 5

fault-most : (t : Bool) (f : Fault) {m : ℕ} → number f ≤ m → number_of (fault t f) ≤ m
unfolding fault
fault-most true f h = h
fault-most false f h = omega arith

else-most : (a b : Checked) {m : ℕ} → number_of a ≤ m → number_of b ≤ m → number_of (a or_else b) ≤ m
unfolding ◌or_else◌
else-most (Ok tt) b h k = k
else-most (Err f) b h k = h

span-most : (ws : List ℕ) (n e g f d : ℕ) → number_of (span_fault (children ws n e g) f d) ≤ 5
unfolding span_fault children
span-most ws zero e g f d = else-most _ _ (fault-most _ _ (omega arith)) (fault-most _ _ (omega arith))
span-most ws (suc n) zero g f d = omega arith
span-most ws (suc n) (suc j) g f d = span-most ws n (first_at ws j) (max g (depth_at ws j)) f d

nodes-most : (ws : List ℕ) (base n : ℕ) → number_of (nodes_fault ws base n) ≤ 5
unfolding nodes_fault node_fault
nodes-most ws base zero = omega arith
nodes-most ws base (suc n) =
    else-most (nodes_fault ws base n) _ (nodes-most ws base n)
    (else-most (kind_fault (kind_at ws n) (payload_at ws n)) _
    (else-most _ _ (fault-most _ _ (omega arith)) (else-most _ _ (fault-most _ _ (omega arith)) (fault-most _ _ (omega arith))))
    (else-most (span_fault (children ws (arity (kind_at ws n)) n 0) (first_at ws n) (depth_at ws n)) _ (span-most ws (arity (kind_at ws n)) n 0 (first_at ws n) (depth_at ws n))
    (else-most _ _ (fault-most _ _ (omega arith)) (fault-most _ _ (omega arith)))))

dest-most : (dest : Option ℕ) (base : ℕ) → number_of (dest_fault dest base) ≤ 5
unfolding dest_fault
dest-most None base = omega arith
dest-most (Some r) base = fault-most _ _ (omega arith)

check-most : (ws : List ℕ) (params locals : ℕ) (dest : Option ℕ) → number_of (check_of ws params locals dest) ≤ 5
unfolding check_of shape_fault layout_fault last_fault
check-most ws params locals dest =
    else-most (shape_fault ws) _ (else-most _ _ (fault-most _ _ (omega arith)) (else-most _ _ (fault-most _ _ (omega arith)) (fault-most _ _ (omega arith))))
    (else-most (layout_fault params locals) _ (fault-most _ _ (omega arith))
    (else-most (dest_fault dest (params + locals)) _ (dest-most dest (params + locals))
    (else-most (nodes_fault ws (params + locals) (node_count ws)) _ (nodes-most ws (params + locals) (node_count ws)) (fault-most _ _ (omega arith)))))

-- each number is 1 or more
least : (f : Fault) → 1 ≤ number f
least F.BadShape = omega arith
least F.BadNode = omega arith
least F.TooDeep = omega arith
least F.NotLocal = omega arith
least F.NoRegister = omega arith
least F.NoSlot = omega arith
least F.NoRoom = omega arith
least F.TooFar = omega arith
least F.NoFit = omega arith
least F.Undecoded = omega arith
least F.NotBranch = omega arith
least F.NoWord = omega arith
least F.WrongKind = omega arith
least F.Overflow = omega arith
least F.ModByZero = omega arith
least F.NotExact = omega arith
least F.BadShift = omega arith
least F.BudgetSpent = omega arith
least F.OutOfRange = omega arith
least F.PanicWord = omega arith
least F.NotRun = omega arith
least F.IllFormed = omega arith

-- ---- what is lacking

lacks-number : {need has : Amounts} {e : Fault} → Lacks need has e → (number bad_shape ≤ number e) × (number e ≤ number no_room)
lacks-number (register h) = (omega arith, omega arith)
lacks-number (slot h) = (omega arith, omega arith)
lacks-number (word h) = (omega arith, omega arith)
lacks-number (place h) = (omega arith, omega arith)

only-registers : {need has : Amounts} {e : Fault} → Enough need has → Lacks need has e → (e ≡ no_register) × (has.registers < need.registers)
only-registers m (register h) = (refl, h)
only-registers m (slot h) = absurd (omega arith)
only-registers m (word h) = absurd (omega arith)
only-registers m (place h) = absurd (omega arith)

met-not : {W : Fault → Type 0} {x : Res (ℕ × State)} {a : ℕ × State} {P : Type 0} {e : Fault} → Met W x a P → x ≡ fail e → W e
met-not (met e p) f = let z : ◌≡◌ {A = ℕ} 0 1 = cc in absurd (omega arith)
met-not {W} {e = e} (refused n g h) f = let z : n ≡ e = cc in subst W z h

-- ---- the claim

module _ (ws : List ℕ) (params locals : ℕ) (dest : Option ℕ) (places cap slot_cap : ℕ) where
  abbrev check : Checked
  check = check_of ws params locals dest

  abbrev need : Amounts
  need = needed ws (params + locals)

  abbrev has : Amounts
  has = lent places cap slot_cap

  abbrev gives : Res (ℕ × State)
  gives = generated (tree ws (node_count ws - 1)) dest (params + locals) places cap slot_cap

  takes-by : (r : ℕ) (s : State) → compile_of ws params locals dest places cap slot_cap ≡ done (r, s) → Takes need s
  takes-by r s e =
      let a : Accepted ws params locals dest r s = record { places = places; cap = cap; slot_cap = slot_cap; is = e } in
      let k = known ws params locals dest r s a in
      let c = checked ws params locals dest k.check in
      let f = k.fine in
      let F = frag_of ws params locals dest in
      subst (λ (x : ℕ × State). Takes need x.1) k.is
      (record { frame = omega arith; slots = omega arith; words = omega (arith, words-length F.code) })

  lacks-by : (e : Fault) → check ≡ none → compile_of ws params locals dest places cap slot_cap ≡ fail e → Lacks need has e
  unfolding compile_of
  lacks-by e h f = met-not (table-met ws params locals dest places cap slot_cap (checked ws params locals dest h)) (ap (λ (k : Checked). accepted k gives) (sym h) ∙ f)

  accepts-by : check ≡ none → Enough need has → need.registers ≤ has.registers → (x : ℕ × State) × (compile_of ws params locals dest places cap slot_cap ≡ done x)
  unfolding compile_of
  accepts-by h m few = go (table-met ws params locals dest places cap slot_cap (checked ws params locals dest h))
    where
      go : {a : ℕ × State} {P : Type 0} → Met (Lacks need has) gives a P → (x : ℕ × State) × (accepted check gives ≡ done x)
      go {a} (met e p) = (a, ap (λ (k : Checked). accepted k gives) h ∙ e)
      go (refused n e l) = absurd (omega (arith, (only-registers m l).1))

  -- refused by the check, or for what is lacking
  either :
      (P : Fault → Type 0) (e : Fault) → ((f : Fault) → check ≡ Err f → P f) → (Lacks need has e → P e) →
      compile_of ws params locals dest places cap slot_cap ≡ fail e → P e
  unfolding compile_of
  either P e by lacking f = go check refl f
    where
      go : (n : Checked) → check ≡ n → accepted n gives ≡ fail e → P e
      go (Ok tt) h g = lacking (met-not (table-met ws params locals dest places cap slot_cap (checked ws params locals dest h)) g)
      go (Err f) h g = let z : f ≡ e = cc in subst P z (by f h)

  pub refusals : RefusalsOf ws params locals dest places cap slot_cap
  refusals =
      record {
        takes = takes-by;
        lacks = lacks-by;
        enough =
            λ e m f.
            either (TableOrRegisters check) e (λ f h. table h)
            (λ l. subst (TableOrRegisters check) (sym (only-registers m l).0) registers) f;
        accepts = accepts-by;
        checks = check-most ws params locals dest;
        numbers =
            λ e f.
            either (λ k. (number bad_shape ≤ number k) × (number k ≤ number no_room)) e
            (λ k h. (least k, omega (arith, check-most ws params locals dest, ap number_of h))) lacks-number f;
      }
