-- Steps over a list of jumps, the parts of that list, and two operands one after the other.
use Rattle.std.specs.Prelude.{None, Result, Ok, Err}
use Rattle.faults.specs.declared.Fault.{Fault}
use mathlib.Core.Path.{◌≡◌, refl, sym, ap, subst, ◌∙◌}
use mathlib.Core.Bool.{Bool, true, false, beq}
use mathlib.Core.List.{List, [], ◌++◌, append-nil}
use Prim.Native.Nat.{ℕ, ◌+◌, ◌-◌, ◌≤◌}
use native.Mathlib.Omega.{arith}
use lib.ListN.{length, take, drop, length-drop, length-append, drop_of_length-le}
use lib.Seq.{length-take-le, take_at, drop_at}
use Rattle.table.specs.Nodes.{ChildIs}
use Rattle.emit.specs.declared.state.St.{St}
use Rattle.emit.specs.State.{Res, bind, State}
use Rattle.emit.specs.Read.{Bufs, bufs, st_of, read, Fit, FitAns, Says}
use Rattle.emit.specs.Lists.{FitJumps, Lists, Counted, Behind}
use Rattle.codegen.specs.Gen.{same}
use Rattle.codegen.specs.Rules.{value_at}
use Rattle.emit.proofs.Laws.{go, says-by}

-- ---- one step after another, to or from a list of jumps

module _ {b : Bufs} {x : Result (ℕ × St) Fault} {m : Res (ℕ × State)} where
  -- a value's refusal is handed on
  pub stop-lists : (js : List ℕ) (k : ℕ × State → Res (List ℕ × State)) {f : Fault} {r : Result (ℕ × St) Fault} → x ≡ Err f → r ≡ Err f → Says b x m → Lists b js r (bind m k)
  stop-lists js k e q h = record { is = rw (← h.is, e, q); fit = rw q tt }

  -- the next leaf takes the answer as it is
  pub chain-lists : (k : ℕ × State → Res (List ℕ × State)) {b' : Bufs} {js : List ℕ} {r : Result (ℕ × St) Fault} → Says b x m → (FitAns b x → Lists b' js r (bind (read b x) k)) → Lists b' js r (bind m k)
  chain-lists k h g = let s = g h.fit in record { is = s.is ∙ ap (λ (q : Res (ℕ × State)). bind q k) h.is; fit = s.fit }

module _ {b : Bufs} {js : List ℕ} {x : Result (ℕ × St) Fault} {m : Res (List ℕ × State)} where
  pub go-jumps : {B : Type 0} (k : List ℕ × State → Res B) {n : ℕ} {s : St} → x ≡ Ok (n, s) → Lists b js x m → k (take n js, st_of b s) ≡ bind m k
  go-jumps k e h = rw (← h.is, e)

  pub stop-says : (k : List ℕ × State → Res (ℕ × State)) {f : Fault} {r : Result (ℕ × St) Fault} → x ≡ Err f → r ≡ Err f → Lists b js x m → Says b r (bind m k)
  stop-says k e q h = record { is = rw (← h.is, e, q); fit = rw q tt }

  pub stop-jumps : (k : List ℕ × State → Res (List ℕ × State)) {f : Fault} {r : Result (ℕ × St) Fault} → x ≡ Err f → r ≡ Err f → Lists b js x m → Lists b js r (bind m k)
  stop-jumps k e q h = record { is = rw (← h.is, e, q); fit = rw q tt }

  pub kept-jumps : {n : ℕ} {s : St} → x ≡ Ok (n, s) → Lists b js x m → Fit b s
  kept-jumps e h = (subst (FitJumps b js) e h.fit).0

  pub listed : {n : ℕ} {s : St} → x ≡ Ok (n, s) → Lists b js x m → n ≤ length js
  listed e h = (subst (FitJumps b js) e h.fit).1

  pub lists-by : {m' : Res (List ℕ × State)} → m ≡ m' → Lists b js x m → Lists b js x m'
  lists-by e h = record { is = h.is ∙ e; fit = h.fit }

-- the words of what was said are in the buffer
pub counted : {c k p : List ℕ} {m : Res (ℕ × State)} (x : Result (ℕ × St) Fault) → Says (bufs c k p) x m → Counted c x
counted (Ok (r, st)) h = h.fit.words
counted (Err f) h = tt

-- ---- the list's front, of which a call is lent the rest

pub prefix : (n : ℕ) (l : List ℕ) → n ≤ length l → n ≡ length (take n l)
prefix n l h = sym (length-take-le n l h)

-- the room in the rest
pub rest-room : (n : ℕ) (l : List ℕ) {room : ℕ} → n ≤ length l → length l ≡ room → length (take (length l - n) (drop n l)) ≡ room - length (take n l)
rest-room n l h e =
    let d : length (drop n l) ≡ length l - n = length-drop n l in
    rw (length-take-le (length l - n) (drop n l) (omega arith), length-take-le n l h, e)

-- the list after the rest came back as m
abbrev pub restored : ℕ → List ℕ → List ℕ → List ℕ
restored n l m = take n l ++ (m ++ drop (length l - n) (drop n l))

module _ (n : ℕ) (l m : List ℕ) (h : n ≤ length l) where
  pub front-in : n ≤ length (restored n l m)
  front-in = rw (length-append (take n l) (m ++ drop (length l - n) (drop n l)), length-take-le n l h) (omega arith)

  pub front_kept : take n (restored n l m) ≡ take n l
  front_kept = take_at (take n l) (m ++ drop (length l - n) (drop n l)) n (length-take-le n l h)

  pub rest-kept : drop n (restored n l m) ≡ m
  rest-kept =
      let d : length (drop n l) ≡ length l - n = length-drop n l in
      let z : drop (length l - n) (drop n l) ≡ [] = drop_of_length-le (drop n l) {i = length l - n} (omega arith) in
      drop_at (take n l) (m ++ drop (length l - n) (drop n l)) n (length-take-le n l h) ∙ ap (λ (q : List ℕ). m ++ q) z ∙ append-nil m

  pub restored-length : length m ≡ length (take (length l - n) (drop n l)) → length (restored n l m) ≡ length l
  restored-length e =
      let d : length (drop n l) ≡ length l - n = length-drop n l in
      let p : length (take (length l - n) (drop n l)) ≡ length l - n = length-take-le (length l - n) (drop n l) (omega arith) in
      simp (length-append, length-drop, length-take-le n l h) (omega arith)

  -- the jumps of the rest stand behind the front's
  pub behind : {c k p : List ℕ} {q : Res (List ℕ × State)} (y : Result (ℕ × St) Fault) → Lists (bufs c k p) m y q → Behind c (restored n l m) n y
  behind (Ok (j, st)) r =
      let a : length (restored n l m) ≡ length (take n l) + (length m + length (drop (length l - n) (drop n l))) =
      length-append (take n l) (m ++ drop (length l - n) (drop n l)) ∙ ap (λ (q : ℕ). length (take n l) + q) (length-append m (drop (length l - n) (drop n l))) in
      let b : length (take n l) ≡ n = length-take-le n l h in
      let i : j ≤ length m = r.fit.1 in
      (omega arith, r.fit.0.words)
  behind (Err f) r = tt

-- `==` of Bools is what the definition calls the same
pub beq_same : (sense by : Bool) → beq sense by ≡ same by sense
beq_same true true = refl
beq_same true false = refl
beq_same false true = refl
beq_same false false = refl

-- ---- both operands, and then f of the left one's register

module _ {ws : List ℕ} {i u : ℕ} (room : ℕ) (start : State) {l : ℕ} (left : ChildIs ws i u l)
    {b : Bufs} {x : Result (ℕ × St) Fault} (one : Says b x (value_at ws l None room start)) where
  -- the left operand, at the place where the tree has it
  pub left_is : Says b x (value_at ws u None room start)
  left_is = says-by (ap (λ (j : ℕ). value_at ws j None room start) left.is) one

  pub both-steps : {B : Type 0} (f : ℕ → ℕ × State → Res B) {a : ℕ} {s : St} → x ≡ Ok (a, s) → {v r room' : ℕ} → ChildIs ws i v r → room' ≡ room →
      bind (value_at ws r None room' (st_of b s)) (f a) ≡ bind (value_at ws u None room start) (λ q. bind (value_at ws v None room q.1) (f q.0))
  both-steps f {a} {s} got {v} {r} {room'} right e =
      ap (λ (j : ℕ). bind (value_at ws j None room' (st_of b s)) (f a)) right.is
      ∙ ap (λ (q : ℕ). bind (value_at ws v None q (st_of b s)) (f a)) e
      ∙ go (λ q. bind (value_at ws v None room q.1) (f q.0)) got left_is
