-- Plumbing: for branches what Read is for values. A branch answers how many jumps stand at the front of the lent jump list; the definition gives the list
-- of their positions.
use Rattle.faults.specs.declared.Fault.{Fault}
use Rattle.std.specs.Prelude.{◌≡◌, Bool, List, ℕ, ◌+◌, ◌≤◌, length, take, drop, Result, Ok, Err}
use Rattle.emit.specs.declared.state.St.{St}
use Rattle.emit.specs.State.{Res, done, fail, bind, State}
use Rattle.emit.specs.Read.{Bufs, bufs, st_of, Fit, read, FitAns}
use Rattle.emit.specs.Jump.{junction_to}

-- ---- answers

-- the definition's answer, with the buffers b and the jump list js as the code leaves them
abbrev pub read_jumps : (b : Bufs) (js : List ℕ) → Result (ℕ × St) Fault → Res (List ℕ × State)
read_jumps b js (Ok (n, st)) = done (take n js, st_of b st)
read_jumps b js (Err f) = fail f

abbrev pub FitJumps : (b : Bufs) (js : List ℕ) → Result (ℕ × St) Fault → Type 0
FitJumps b js (Ok (n, st)) = (Fit b st) × (n ≤ length js)
FitJumps b js (Err f) = Unit {0}

-- the answer r is what the definition gives
pub record Lists (b : Bufs) (js : List ℕ) (r : Result (ℕ × St) Fault) (m : Res (List ℕ × State)) : Type 0 where
  pub is : read_jumps b js r ≡ m
  pub fit : FitJumps b js r

-- ---- contracts of leaves, for all slots, with kinds ks and payloads ps

-- from the state st, the words being c before and c' after, and the jump list js after
abbrev pub Jumping : (c c' js : List ℕ) (st : St) (r : Result (ℕ × St) Fault) (f : State → Res (List ℕ × State)) → Type 0
Jumping c c' js st r f = (ks ps : List ℕ) → Fit (bufs c ks ps) st → Lists (bufs c' ks ps) js r (f (st_of (bufs c ks ps) st))

-- from the answer x
abbrev pub AfterJumping : (c c' js : List ℕ) (x : Result (ℕ × St) Fault) (r : Result (ℕ × St) Fault) (f : ℕ × State → Res (List ℕ × State)) → Type 0
AfterJumping c c' js x r f =
    (ks ps : List ℕ) → FitAns (bufs c ks ps) x → Lists (bufs c' ks ps) js r (bind (read (bufs c ks ps) x) f)

-- ---- patching

-- the words of an answer are in the buffer c
abbrev pub Counted : (c : List ℕ) → Result (ℕ × St) Fault → Type 0
Counted c (Ok (r, st)) = st.count ≤ length c
Counted c (Err f) = Unit {0}

-- ---- both sides of And or Or: the left side's n jumps stand at the front of the list js, the right side's after them

-- the right side's answer is within the words c and the list
abbrev pub Behind : (c js : List ℕ) (n : ℕ) → Result (ℕ × St) Fault → Type 0
Behind c js n (Ok (k, st)) = (n + k ≤ length js) × (st.count ≤ length c)
Behind c js n (Err f) = Unit {0}

pub record Joinable (c js : List ℕ) (n : ℕ) (y : Result (ℕ × St) Fault) : Type 0 where
  pub left : n ≤ length js
  pub right : Behind c js n y

-- from the right side's answer y: words and list are c and js before, c' and js' after; `out` says where the left side's jumps go
abbrev pub Joined : (c c' js js' : List ℕ) (out : Bool) (n : ℕ) (y r : Result (ℕ × St) Fault) → Type 0
Joined c c' js js' out n y r =
    (ks ps : List ℕ) → FitJumps (bufs c ks ps) (drop n js) y
    → Lists (bufs c' ks ps) js' r (bind (read_jumps (bufs c ks ps) (drop n js) y) (junction_to out (take n js)))
