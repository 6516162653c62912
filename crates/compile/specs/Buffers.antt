-- What compiling answers, and the final contents of every lent buffer, by what the generator made or refused (01, "Numbers a caller can get back").
use Rattle.std.specs.Prelude.{◌≡◌, List, [], ◌++◌, map, ℕ, ◌-◌, length, replicate, Result, Ok, Err}
use Rattle.faults.specs.declared.Fault.{Fault}
use Rattle.value.specs.Value.{kind_of, payload_of}
use Rattle.emit.specs.State.{Res, done, fail, State}
use Rattle.compile.specs.declared.buffers.Compiled.{Compiled}

-- the counts of words and slots, the register and the frame; or the fault of a refusal
abbrev pub answered : Res (ℕ × State) → Result Compiled Fault
answered (done x) = Ok (record { words = length x.1.words; slots = length x.1.slots; register = x.0; frame = x.1.frame })
answered (fail n) = Err n

-- a list, and zeros after it up to a length
abbrev pub padded : List ℕ → ℕ → List ℕ
padded xs n = xs ++ replicate {A = ℕ} (n - length xs) 0

-- the words, and the slots as kinds and payloads; none where it is refused
abbrev pub words_of : Res (ℕ × State) → List ℕ
words_of (done x) = x.1.words
words_of (fail n) = []

abbrev pub kinds_of : Res (ℕ × State) → List ℕ
kinds_of (done x) = map kind_of x.1.slots
kinds_of (fail n) = []

abbrev pub payloads_of : Res (ℕ × State) → List ℕ
payloads_of (done x) = map payload_of x.1.slots
payloads_of (fail n) = []

-- The answer r and the lent buffers at exit, where m was made or refused and c, k and p are the buffers' lengths. `told` is how the answer is given: a C
-- caller gets it as numbers.
pub record CompilesAs {A : Type 0} (told : Result Compiled Fault → A) (r : A) (m : Res (ℕ × State)) (code kinds payloads : List ℕ) (c k p : ℕ) : Type 0 where
  pub answer : r ≡ told (answered m)
  pub words : code ≡ padded (words_of m) c
  pub slot_kinds : kinds ≡ padded (kinds_of m) k
  pub slot_payloads : payloads ≡ padded (payloads_of m) p

-- the answer as it is
abbrev pub Compiles : (r : Result Compiled Fault) (m : Res (ℕ × State)) (code kinds payloads : List ℕ) (c k p : ℕ) → Type 0
Compiles r m code kinds payloads c k p = CompilesAs (λ q. q) r m code kinds payloads c k p
