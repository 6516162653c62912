-- Plumbing: what the contracts of `agree`'s two routines cite, which carry demand 3 to what is shipped.
use Rattle.faults.specs.declared.Fault.{Fault}
use Rattle.std.specs.Prelude.{◌≡◌, true, List, ℕ, ◌+◌, ◌≤◌, min, length, Option, Result, Err}
use Rattle.faults.specs.Faults.{Checked, none}
use Rattle.faults.specs.Limits.{max_nodes}
use Rattle.value.specs.Value.{all_well}
use Rattle.value.specs.Answer.{Answer}
use Rattle.table.specs.Table.{temp_base_of, check_of}
use Rattle.effect.specs.Effect.{size}
use Rattle.eval.specs.Evaluate.{evaluate_of}
use Rattle.machine.specs.Run.{Out, out, ran, run_of}
use Rattle.emit.specs.State.{Res, done, fail, State}
use Rattle.compile.specs.declared.buffers.Compiled.{Compiled}
use Rattle.compile.specs.Compile.{compile_of}
use Rattle.compile.specs.Buffers.{Compiles}
use Rattle.claim.specs.Claim.{Accepted, Supplied, Agrees}
use Rattle.claim.specs.Refusals.{Amounts, needed, lent, Lacks}

-- ---- an evaluation and a run

-- Of any table, words, slots and registers: where the words are those of the table and the registers and slots are as `Supplied` says, they agree.
pub record Promised (nodes : List ℕ) (params locals : ℕ) (words sks sps ks ps : List ℕ) (budget : ℕ) (res : Answer) (o : Out) : Type 0 where
  pub tree : res ≡ evaluate_of nodes params locals ks ps
  pub run : o ≡ run_of words sks sps budget 0 ks ps
  pub agree :
      (dest : Option ℕ) (r : ℕ) (s : State) → Accepted nodes params locals dest r s → words ≡ s.words → Supplied s ks ps sks sps budget →
      Agrees dest (temp_base_of (params + locals)) r s ks ps res o

-- ---- one call that compiles a table, evaluates it and runs its words

-- The run, by what compiling gives: of an accepted table all its words, from word 0; of a refused one the fault, no step, and the registers as they were.
abbrev pub run_after : Res (ℕ × State) → List ℕ → List ℕ → ℕ → List ℕ → List ℕ → Out
run_after (done x) sks sps budget ks ps = run_of x.1.words sks sps budget 0 ks ps
run_after (fail f) sks sps budget ks ps = out (ran (Err f) 0 0) ks ps

-- what 01 asks of the registers and the budget: every pair a value, room for the frame, a step for each word
pub record Premises (s : State) (ks ps : List ℕ) (budget : ℕ) : Type 0 where
  pub well : all_well ks ps ≡ true
  pub room : s.frame ≤ size ks ps
  pub steps : length s.words ≤ budget

-- An accepted table: the run agrees with the tree. A refused one whose check passed: less is lent than it needs.
abbrev pub Compared : Option ℕ → ℕ → Amounts → Amounts → Checked → Res (ℕ × State) → List ℕ → List ℕ → ℕ → Answer → Out → Type 0
Compared dest base need has check (done x) ks ps budget res o = Premises x.1 ks ps budget → Agrees dest base x.0 x.1 ks ps res o
Compared dest base need has check (fail f) ks ps budget res o = check ≡ none → Lacks need has f

-- Lent: nodes, room for c words, k kinds and p payloads of constants, registers ks, ps, and a budget.
-- Given back: compile's answer q, with the words and constants that it left; the tree's answer res; the run's report and registers, o.
pub record Whole (nodes : List ℕ) (params locals : ℕ) (dest : Option ℕ) (c k p : ℕ) (ks ps : List ℕ) (budget : ℕ)
    (q : Result Compiled Fault) (code sks sps : List ℕ) (res : Answer) (o : Out) : Type 0 where
  pub m : Res (ℕ × State)
  pub is : m ≡ compile_of nodes params locals dest max_nodes c (min k p)
  pub compile : Compiles q m code sks sps c k p
  pub tree : res ≡ evaluate_of nodes params locals ks ps
  pub run : o ≡ run_after m sks sps budget ks ps
  pub agree :
      Compared dest (temp_base_of (params + locals)) (needed nodes (params + locals)) (lent max_nodes c (min k p)) (check_of nodes params locals dest) m
      ks ps budget res o
