-- One outcome only: what compiling answers and leaves is fixed by what was made or refused, however the answer is told.
use Rattle.std.specs.Prelude.{Result}
use Rattle.faults.specs.declared.Fault.{Fault}
use mathlib.Core.Path.{◌≡◌, sym, ap, ◌∙◌}
use mathlib.Core.List.{List}
use Prim.Native.Nat.{ℕ}
use Rattle.emit.specs.State.{Res, State}
use Rattle.compile.specs.declared.buffers.Compiled.{Compiled}
use Rattle.compile.specs.Buffers.{CompilesAs, answered, padded, words_of, kinds_of, payloads_of}

-- two answers, and two contents of each lent buffer, are the same
pub record Alike {A : Type 0} (q q' : A) (code code' sks sks' sps sps' : List ℕ) : Type 0 where
  pub answer : q ≡ q'
  pub words : code ≡ code'
  pub slot_kinds : sks ≡ sks'
  pub slot_payloads : sps ≡ sps'

pub compiles-once :
    {A : Type 0} {told : Result Compiled Fault → A} {m m' : Res (ℕ × State)} {q q' : A} {code code' sks sks' sps sps' : List ℕ} {c k p : ℕ} → m ≡ m' →
    CompilesAs told q m code sks sps c k p → CompilesAs told q' m' code' sks' sps' c k p → Alike q q' code code' sks sks' sps sps'
compiles-once {told = told} {c = c} {k = k} {p = p} e h h' =
    record {
      answer = h.answer ∙ ap (λ (m : Res (ℕ × State)). told (answered m)) e ∙ sym h'.answer;
      words = h.words ∙ ap (λ (m : Res (ℕ × State)). padded (words_of m) c) e ∙ sym h'.words;
      slot_kinds = h.slot_kinds ∙ ap (λ (m : Res (ℕ × State)). padded (kinds_of m) k) e ∙ sym h'.slot_kinds;
      slot_payloads = h.slot_payloads ∙ ap (λ (m : Res (ℕ × State)). padded (payloads_of m) p) e ∙ sym h'.slot_payloads;
    }
