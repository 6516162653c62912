-- From an opcode and five operands to a word. A signed operand is the two's complement pattern of 64 bits.
use Rattle.insns.specs.declared.Insn.{Insn}
use Rattle.std.specs.Prelude.{ℕ, cond, List, [], ◌∷◌, ltb, length, Option, None}
use Rattle.std.specs.Int.{w64}
use Rattle.std.proofs.Common.{to_z}
use Rattle.insns.specs.Fields.{Width, Operand, Field, u, field_of, make}
use Rattle.insns.specs.Insns.{forms, form_at, widths}

-- an operand, given as a number of 64 bits
abbrev pub given : (w : Width) → ℕ → Operand w
given (Width.unsigned w) p = p
given (Width.signed w) p = to_z w64 p
given (Width.displacement w) p = to_z w64 p
given Width.i40 p = to_z w64 p

-- the fields of the operands that a form declares; an operand that it lacks has a field of no bits, which holds 0 alone
abbrev pub fields_from : List Width → List ℕ → List Field
fields_from ws [] = []
fields_from [] (p ∷ ps) = u 0 p ∷ fields_from [] ps
fields_from (w ∷ ws) (p ∷ ps) = field_of w (given w p) ∷ fields_from ws ps

-- the word of an opcode and five operands, if there is one; an opcode over 76 has none
unfoldable pub encode_of : ℕ → ℕ → ℕ → ℕ → ℕ → ℕ → Option Insn
encode_of n a b c d e = cond (ltb n (length forms)) (make n (fields_from (widths (form_at n)) (a ∷ b ∷ c ∷ d ∷ e ∷ []))) None
