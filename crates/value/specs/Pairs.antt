-- Values lent as two lists, of kinds and of payloads, of which the shorter counts: how many they are, and the one at a place.
use Rattle.std.specs.Prelude.{ℕ, min, cond, List, ltb, length, get_or, Option, Some, None}
use Rattle.faults.specs.Numbers.{out_of_range, ill_formed}
use Rattle.value.specs.Value.{Read, well, ill, of_pair}
use Rattle.value.specs.Answer.{Answer, is, fault}

abbrev pub size : List ℕ → List ℕ → ℕ
size kinds payloads = min (length kinds) (length payloads)

-- an ill-formed pair is 29, which no run meets here: it looks at every pair before its first step
abbrev pub of_read : Read → Answer
of_read (well v) = is v
of_read ill = fault ill_formed

-- 26 past the end
unfoldable pub held : List ℕ → List ℕ → ℕ → Answer
held kinds payloads r = cond (ltb r (size kinds payloads)) (of_read (of_pair (get_or kinds r 0) (get_or payloads r 0))) (fault out_of_range)

-- the pair itself, whether it is a value or not
abbrev pub pair_at : List ℕ → List ℕ → ℕ → Option (ℕ × ℕ)
pair_at kinds payloads r = cond (ltb r (size kinds payloads)) (Some (get_or kinds r 0, get_or payloads r 0)) None
