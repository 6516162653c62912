-- Demand 3, of the words that compiling a table gives, and of every run of them:
--
--     the run ends with the tree's value in the returned register, or stops with the tree's own fault      `Outcome`
--     its steps never exceed the words                                                                     `Few`
--     registers outside the temporaries keep their contents, but for the destination
--     when there is a value                                                                                `Kept`
--     what lay in the temporaries changes no answer                                                        `Alike`
--
-- `Demand3` says it of an accepted table, whatever is lent to the run within `Supplied`.
use Rattle.std.specs.Prelude.{◌≢◌, ◌≡◌, true, List, ◌++◌, ℕ, ◌+◌, ◌≤◌, ◌<◌, ◌^◌, length, get_or, take, Option, Some, None, Err}
use Rattle.faults.specs.Faults.{none}
use Rattle.value.specs.Value.{Datum, kind_of, payload_of, all_well, datums}
use Rattle.value.specs.Answer.{Answer, is, fault}
use Rattle.table.specs.Table.{temp_base_of}
use Rattle.table.specs.Tree.{Tree, leaf, unary, binary, ternary, Leaf, nil, yep, nope, int, float, ref}
use Rattle.effect.specs.Effect.{size}
use Rattle.eval.specs.Evaluate.{evaluate_of}
use Rattle.machine.specs.Run.{Out, out, run_of}
use Rattle.machine.specs.declared.run.Ran.{Ran}
use Rattle.emit.specs.State.{done, State}
use Rattle.compile.specs.Compile.{compile_of}

-- ---- a run o: its report, and what it leaves in the registers

abbrev pub reported : Out → Ran
reported (out r ks ps) = r

abbrev pub kinds_left : Out → List ℕ
kinds_left (out r ks ps) = ks

abbrev pub payloads_left : Out → List ℕ
payloads_left (out r ks ps) = ps

-- register i has the value v, bit for bit
pub record HasValue (o : Out) (i : ℕ) (v : Datum) : Type 0 where
  pub kind : get_or (kinds_left o) i 0 ≡ kind_of v
  pub payload : get_or (payloads_left o) i 0 ≡ payload_of v

-- ---- the run ends with the tree's value in the returned register, or stops with the tree's own fault

-- the returned register is the destination, if there is one
abbrev pub InDest : Option ℕ → ℕ → Type 0
InDest None r = Unit {0}
InDest (Some d) r = r ≡ d

pub record Ended (dest : Option ℕ) (r words : ℕ) (v : Datum) (o : Out) : Type 0 where
  pub finished : (reported o).end ≡ none
  pub position : (reported o).position ≡ words
  pub value : HasValue o r v
  pub chosen : InDest dest r

abbrev pub Outcome : Option ℕ → ℕ → ℕ → Answer → Out → Type 0
Outcome dest r words (is v) o = Ended dest r words v o
Outcome dest r words (fault e) o = (reported o).end ≡ Err e

-- ---- steps never exceed words; a step that stops is not counted, so with a fault they are fewer

abbrev pub Few : Answer → ℕ → ℕ → Type 0
Few (is v) steps words = steps ≤ words
Few (fault e) steps words = steps < words

-- ---- registers outside the temporaries keep their contents, but for the destination when there is a value

pub record Unchanged (ks ps : List ℕ) (o : Out) (i : ℕ) : Type 0 where
  pub kind : get_or (kinds_left o) i 0 ≡ get_or ks i 0
  pub payload : get_or (payloads_left o) i 0 ≡ get_or ps i 0

-- with a fault the destination too is as it was
abbrev pub written : Option ℕ → Answer → Option ℕ
written dest (is v) = dest
written dest (fault e) = None

abbrev pub NotDest : Option ℕ → ℕ → Type 0
NotDest None i = Unit {0}
NotDest (Some d) i = i ≢ d

-- the temporaries lie from `base` up to the frame
pub record Kept (dest : Option ℕ) (base frame : ℕ) (ks ps : List ℕ) (o : Out) : Type 0 where
  pub kinds : length (kinds_left o) ≡ length ks
  pub payloads : length (payloads_left o) ≡ length ps
  pub low : (i : ℕ) → i < base → NotDest dest i → Unchanged ks ps o i
  pub high : (i : ℕ) → frame ≤ i → i < size ks ps → Unchanged ks ps o i

-- ---- these three, of a run on the registers ks, ps of a tree that gives res

pub record Agrees (dest : Option ℕ) (base r : ℕ) (s : State) (ks ps : List ℕ) (res : Answer) (o : Out) : Type 0 where
  pub outcome : Outcome dest r (length s.words) res o
  pub steps : Few res (reported o).steps (length s.words)
  pub kept : Kept (written dest res) base s.frame ks ps o

-- ---- what lay in the temporaries changes no answer: two runs with the same report, and the same value in the returned register

pub record Alike (res : Answer) (r : ℕ) (o o' : Out) : Type 0 where
  pub report : reported o ≡ reported o'
  pub value : (v : Datum) → res ≡ is v → HasValue o r v × HasValue o' r v

-- ---- what goes in

-- the table is accepted: the register, and the state with the words, the constants and the frame
pub record Accepted (ws : List ℕ) (params locals : ℕ) (dest : Option ℕ) (r : ℕ) (s : State) : Type 0 where
  -- lent: places for jumps, words and constants
  pub places : ℕ
  pub cap : ℕ
  pub slot_cap : ℕ
  pub is : compile_of ws params locals dest places cap slot_cap ≡ done (r, s)

-- 64-bit words
abbrev pub Wide : List ℕ → Type 0
Wide ws = (i : ℕ) → get_or ws i 0 < 2 ^ 64

-- two lent lists of pairs hold values
pub record Values (ks ps : List ℕ) : Type 0 where
  pub well : all_well ks ps ≡ true
  pub words : Wide ps

-- the lent slots hold the constants, and behind them any values
pub record Slots (constants : List Datum) (ks ps : List ℕ) : Type 0 where
  pub values : Values ks ps
  pub behind : List Datum
  pub front : datums ks ps ≡ constants ++ behind

-- registers ks, ps with room for the frame, slots sks, sps, and a budget of at least the words
pub record Supplied (s : State) (ks ps sks sps : List ℕ) (budget : ℕ) : Type 0 where
  pub registers : Values ks ps
  pub room : s.frame ≤ size ks ps
  pub slots : Slots s.slots sks sps
  pub enough : length s.words ≤ budget

-- ---- demand 3

-- of an accepted table; the two runs of `alike` have the same locals, and may differ in all else that they are lent
pub record Demand3 (ws : List ℕ) (params locals : ℕ) (dest : Option ℕ) (r : ℕ) (s : State) : Type 0 where
  pub agrees :
      (ks ps sks sps : List ℕ) (budget : ℕ) → Supplied s ks ps sks sps budget →
      Agrees dest (temp_base_of (params + locals)) r s ks ps (evaluate_of ws params locals ks ps) (run_of s.words sks sps budget 0 ks ps)
  pub alike :
      (ks ps sks sps ks' ps' sks' sps' : List ℕ) (budget budget' : ℕ) → Supplied s ks ps sks sps budget → Supplied s ks' ps' sks' sps' budget' →
      take (params + locals) ks ≡ take (params + locals) ks' → take (params + locals) ps ≡ take (params + locals) ps' →
      Alike (evaluate_of ws params locals ks ps) r (run_of s.words sks sps budget 0 ks ps) (run_of s.words sks' sps' budget' 0 ks' ps')

-- ---- which register is returned

-- without a destination: a Ref's own register, and for any other tree the first temporary
abbrev pub leaf_home : Leaf → ℕ → ℕ
leaf_home nil base = base
leaf_home yep base = base
leaf_home nope base = base
leaf_home (int z) base = base
leaf_home (float p) base = base
leaf_home (ref r) base = r

abbrev pub home_of : Tree → ℕ → ℕ
home_of (leaf l) base = leaf_home l base
home_of (unary o a) base = base
home_of (binary o a b) base = base
home_of (ternary c a b) base = base

abbrev pub register_of : Option ℕ → Tree → ℕ → ℕ
register_of None t base = home_of t base
register_of (Some d) t base = d

-- the frame is at least the base, and has the register
pub record Placed (dest : Option ℕ) (t : Tree) (base r : ℕ) (s : State) : Type 0 where
  pub frame : base ≤ s.frame
  pub inside : r < s.frame
  pub place : r ≡ register_of dest t base
