-- Plumbing: the fields of a form as the code of `encode` holds them, five of them, by the table `widths` of insns.
use Rattle.std.specs.Prelude.{ℕ, ◌*◌, ◌-◌, ◌≤◌, ◌^◌, List, [], ◌∷◌, map, get_or}
use Rattle.std.specs.Int.{w64}
use Rattle.std.proofs.Common.{to_z}
use Rattle.insns.specs.Bits.{twos}
use Rattle.insns.specs.Fields.{Width, Field, raw_bits}
use Rattle.insns.specs.Insns.{widths}
use Rattle.insns.specs.declared.op.Form.{Form}
use Rattle.operands.specs.declared.encode.Shape.{Shape}

-- how many numbers a field holds
abbrev pub size_of : Shape → ℕ
size_of (Shape.Unsigned m) = m
size_of (Shape.Signed h) = 2 * h
size_of Shape.Raw = 2 ^ 40

-- the bits of an operand p in its field; past the field where it does not fit
abbrev pub bits_of : Shape → ℕ → ℕ
bits_of (Shape.Unsigned m) p = p
bits_of (Shape.Signed h) p = twos h (to_z w64 p)
bits_of Shape.Raw p = raw_bits (to_z w64 p)

abbrev pub field_at : Shape → ℕ → Field
field_at s p = (size_of s, bits_of s p)

-- what packing asks: the fields together have at most 56 bits, and none of them more than 41
abbrev pub Narrow : Shape → Type 0
Narrow s = size_of s ≤ 2 ^ 41

abbrev pub shape_of : Width → Shape
shape_of (Width.unsigned w) = Shape.Unsigned (2 ^ w)
shape_of (Width.signed w) = Shape.Signed (2 ^ (w - 1))
shape_of (Width.displacement w) = Shape.Signed (2 ^ (w - 1))
shape_of Width.i40 = Shape.Raw

-- a field that the form lacks has one number
abbrev pub shape_at : Form → ℕ → Shape
shape_at f k = get_or (map shape_of (widths f)) k (Shape.Unsigned 1)

abbrev pub shapes_of : Form → List Shape
shapes_of f = shape_at f 0 ∷ shape_at f 1 ∷ shape_at f 2 ∷ shape_at f 3 ∷ shape_at f 4 ∷ []
