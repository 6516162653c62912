-- The arms of `decode`, and the test of a raw immediate.
use Rattle.std.specs.Prelude.{Option, None}
use Rattle.insns.specs.declared.op.Op.{Op}
use mathlib.Core.Path.{◌≡◌, refl, sym, ap, ◌∙◌}
use mathlib.Core.Bool.{Bool, true, false, cond}
use Prim.Native.Nat.{ℕ, ◌/◌, ◌%◌}
use Rattle.insns.specs.Insns.{form_at}
use Rattle.insns.specs.Bits.{is_raw}
use lib.Dec.{eqb}
use Rattle.decode.specs.Decode.{if_raw, whole, decode_as, decode_of}
use Rattle.insns.specs.declared.op.Form.{Form}

-- an arm of `decode`: f is what the opcode says, and the arm knows that f is g
pub arm : (w : ℕ) {f g : Form} {r : Option Op} → f ≡ form_at (w % 256) → f ≡ g → r ≡ decode_as g (w / 256) → r ≡ decode_of w
unfolding decode_of
arm w e k q = q ∙ ap (λ (h : Form). decode_as h (w / 256)) (sym k ∙ e)

-- an opcode over 76 decodes to nothing
pub no-form : (x : ℕ) → None ≡ decode_as Form.Unknown x
unfolding whole
no-form x = go (eqb x 0)
  where
    go : (b : Bool) → ◌≡◌ {A = Option Op} None (cond b None None)
    go true = refl
    go false = refl

-- r is what the test of n said
module _ (n : ℕ) (d : Option Op) {r : Bool} (e : r ≡ is_raw n) where
  pub raw-so : r ≡ true → d ≡ if_raw n d
  unfolding if_raw
  raw-so q = ap (λ (b : Bool). cond b d None) (sym q ∙ e)

  pub raw-not : r ≡ false → None ≡ if_raw n d
  unfolding if_raw
  raw-not q = ap (λ (b : Bool). cond b d None) (sym q ∙ e)
