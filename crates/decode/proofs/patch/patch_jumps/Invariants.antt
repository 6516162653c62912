-- `patch::patch_jumps` meets its contract: what is left to do gives, from the words as they stand, what the whole list gives from the first words.
use mathlib.Core.Path.{◌≡◌}
use lib.ListN.{drop}
use Rattle.decode.specs.Patch.{patch_all}
use Rattle.decode.proofs.patch.patch_jumps.Given as goal

abbrev pub invariant-loop-i : goal.invariant-loop-i
invariant-loop-i l = patch_all l.words (drop l.i l.jumps) l.target ≡ patch_all l.initial.words l.jumps l.target
