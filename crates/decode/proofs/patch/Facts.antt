-- Facts for the crates above: the word of a branch with another displacement.
use Rattle.std.specs.Prelude.{Option, Some, Ok}
use Rattle.insns.specs.declared.op.Op.{Op}
use mathlib.Core.Path.{◌≡◌, refl, sym, ap, ◌∙◌}
use mathlib.Core.List.{List}
use Prim.Native.Nat.{ℕ, ◌<◌}
use lib.ListN.{length, get_or, set}
use lib.IntN.{ℤ}
use Rattle.insns.specs.Insns.{made_of}
use Rattle.insns.specs.declared.op.Disp.{Disp}
use Rattle.decode.specs.Decode.{decode_of}
use Rattle.decode.specs.Patch.{difference, aimed_made, aimed_decoded, aim_word, patch_of}
use Rattle.decode.specs.Aim.{branch_by}
use Rattle.decode.specs.declared.patch.Branch.{Branch}
use Rattle.decode.proofs.patch.Aim.{a_word}

-- a branch with another displacement is the word of that branch
pub branch_by_lem : (b : Branch) (disp : Disp) (z : ℤ) → aimed_decoded (Some (branch_by b disp)) z ≡ aimed_made (made_of (branch_by b (record { by = z })))
branch_by_lem (Branch.If k val) disp z = refl
branch_by_lem (Branch.Jump k a c) disp z = refl
branch_by_lem (Branch.JumpImm k a imm) disp z = refl
branch_by_lem Branch.Jmp disp z = refl

-- the word of a branch, aimed: the same branch with the displacement from its position to the target, or too far
pub aim-branch : (w at target : ℕ) (b : Branch) (disp : Disp) → decode_of w ≡ Some (branch_by b disp)
    → aim_word w at target ≡ aimed_made (made_of (branch_by b (record { by = difference at target })))
unfolding aim_word
aim-branch w at target b disp e = ap (λ (d : Option Op). aimed_decoded d (difference at target)) e ∙ branch_by_lem b disp (difference at target)

-- and the words of a list, of which that one is changed
pub patch-word : (ws : List ℕ) (at target w : ℕ) → at < length ws → aim_word (get_or ws at 0) at target ≡ Ok w → patch_of ws at target ≡ record { answer = (Ok tt); words = set ws at w }
patch-word ws at target w h e = sym (a_word ws at target h (sym e) refl)
