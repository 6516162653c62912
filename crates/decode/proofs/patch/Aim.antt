-- Displacements, and words patched: one of a list, and one after the other.
use Rattle.std.specs.Prelude.{Option, Some, None, Result, Ok, Err}
use Rattle.faults.specs.Numbers as Numbers
use Rattle.faults.specs.declared.Fault.{Fault}
use Rattle.insns.specs.declared.op.Disp.{Disp}
use mathlib.Core.Path.{◌≡◌, sym, ap, ◌∙◌}
use mathlib.Core.Bool.{Bool, true, false, cond}
use mathlib.Core.List.{List}
use Prim.Native.Nat.{ℕ, zero, suc, ◌+◌, ◌-◌, ◌≤◌, ◌<◌}
use native.Mathlib.Omega.{arith}
use native.Mathlib.Numerals.{add-one}
use borrow.Author.Tests.{le-ltb, lt-ltb}
use lib.Dec.{T, ltb, leb, leb→le}
use lib.IntN.{ℤ, pos, negsuc, ◌-ℤ◌}
use lib.ListN.{length, get_or, drop, drop_of_length-le}
use lib.Seq.{drop-cons}
use lib.Signed.{mag}
use mir.Syntax.{w32, w64}
use mir.Val.{SFits, to_z, of_z}
use mir.Facts.{to_z-of_z}
use mir.ValLaws.{to_z_pos}
use Rattle.insns.proofs.bits.Sign.{back}
use Rattle.decode.specs.Patch.{difference, aim_word, Patching, put_aimed, patch_of, patch_all}
use Rattle.decode.specs.Aim.{reach_of}

-- ---- displacements

forward : (at t : ℕ) → at < t → difference at t ≡ pos (t - suc at)
forward at t h = simp (le-ltb t (suc at) h)

small : (at t : ℕ) → at < 2305843009213693952 → t < 4611686018427387904 → mag (difference at t) < 4611686018427387904
small at t a l = go (ltb t (suc at))
  where
    go : (b : Bool) → mag (cond b (negsuc (suc at - suc t)) (pos (t - suc at))) < 4611686018427387904
    go true = omega arith
    go false = omega arith

-- the difference of a target and a place at most one past a position is an i64
far_apart : (s t : ℕ) → s ≤ 2305843009213693952 → t < 4611686018427387904 → mag (pos t -ℤ pos s) < 4611686018427387904
far_apart zero t a l = omega arith
far_apart (suc s) t a l = small s t a l

pub diff-fits : (at k t : ℕ) → T (leb k 1) → at < 2305843009213693952 → t < 4611686018427387904 → SFits w64 (to_z w64 t -ℤ to_z w64 (at + k))
diff-fits at k t small-k a l =
    let s : k ≤ 1 = leb→le k 1 small-k in
    let f = far_apart (at + k) t (omega arith) l in
    rw (to_z_pos w64 t (omega arith), to_z_pos w64 (at + k) (omega arith)) (record { sfits = omega arith })

-- what the code computes
diff : (at t : ℕ) → at < 2305843009213693952 → t < 4611686018427387904 → to_z w64 t -ℤ to_z w64 (at + 1) ≡ difference at t
diff at t a l =
    let p : to_z w64 t ≡ pos t = to_z_pos w64 t (omega arith) in
    let k : suc at < 9223372036854775808 = omega arith in
    let q : to_z w64 (at + 1) ≡ pos (suc at) = ap (to_z w64) (add-one at) ∙ to_z_pos w64 (suc at) k in
    ap (λ (x : ℤ). x -ℤ to_z w64 (at + 1)) p ∙ ap (λ (y : ℤ). pos t -ℤ y) q

abbrev near : ℕ → ℕ → Option Disp
near at t = Some (record { by = difference at t })

far-off : (at t : ℕ) → 2147483648 ≤ mag (difference at t) → None ≡ reach_of at t
unfolding reach_of
far-off at t h = ap (λ (b : Bool). cond b (near at t) None) (sym (le-ltb (mag (difference at t)) 2147483648 h))

pub in_reach : (at t : ℕ) → mag (difference at t) < 2147483648 → near at t ≡ reach_of at t
unfolding reach_of
in_reach at t h = ap (λ (b : Bool). cond b (near at t) None) (sym (lt-ltb (mag (difference at t)) 2147483648 h))

pub past-62 : (at t : ℕ) → at < 2305843009213693952 → 4611686018427387904 ≤ t → None ≡ reach_of at t
past-62 at t a l =
    let h : at < t = omega arith in
    let m : mag (difference at t) ≡ t - suc at = ap mag (forward at t h) in
    far-off at t (omega arith)

-- the code's difference d, and the magnitude m of it
module _ (at t : ℕ) (a : at < 2305843009213693952) (l : t < 4611686018427387904) where
  read_back : to_z w64 (of_z w64 (to_z w64 t -ℤ to_z w64 (at + 1))) ≡ difference at t
  read_back = to_z-of_z (diff-fits at 1 t tt a l) ∙ diff at t a l

  module _ {m : ℕ} (e : m ≡ mag (to_z w64 (of_z w64 (to_z w64 t -ℤ to_z w64 (at + 1))))) where
    mag_is : m ≡ mag (difference at t)
    mag_is = e ∙ ap mag read_back

    pub near_by : m < 2147483648 → Some (record { by = to_z w32 (of_z w32 (to_z w64 (of_z w64 (to_z w64 t -ℤ to_z w64 (at + 1))))) }) ≡ reach_of at t
    near_by h =
        let k : mag (difference at t) < 2147483648 = omega (arith, mag_is) in
        let z : to_z w32 (of_z w32 (to_z w64 (of_z w64 (to_z w64 t -ℤ to_z w64 (at + 1))))) ≡ difference at t = ap (λ (y : ℤ). to_z w32 (of_z w32 y)) read_back ∙ back w32 (difference at t) k in
        ap (λ (y : ℤ). Some (record { by = y })) z ∙ in_reach at t k

    pub far-by : 2147483648 ≤ m → None ≡ reach_of at t
    far-by h = far-off at t (omega (arith, mag_is))

-- ---- a word of a list is patched

pub no_word : (ws : List ℕ) (at t : ℕ) → length ws ≤ at → record { answer = (Err Numbers.no_word); words = ws } ≡ patch_of ws at t
unfolding patch_of
no_word ws at t h = ap (λ (b : Bool). cond b (put_aimed (aim_word (get_or ws at 0) at t) ws at) (record { answer = (Err Numbers.no_word); words = ws })) (sym (le-ltb at (length ws) h))

pub a_word : (ws : List ℕ) (at t : ℕ) {a b : Result ℕ Fault} → at < length ws → a ≡ aim_word (get_or ws at 0) at t → a ≡ b → put_aimed b ws at ≡ patch_of ws at t
unfolding patch_of
a_word ws at t {a} {b} h q k = ap (λ (x : Result ℕ Fault). put_aimed x ws at) (sym k ∙ q) ∙ ap (λ (x : Bool). cond x (put_aimed (aim_word (get_or ws at 0) at t) ws at) (record { answer = (Err Numbers.no_word); words = ws })) (sym (lt-ltb at (length ws) h))

-- an answer and the words that are left, from the one equation
pub both : {p q : Patching} → p ≡ q → (p.answer ≡ q.answer) × (p.words ≡ q.words)
both e = (ap (λ (x : Patching). x.answer) e, ap (λ (x : Patching). x.words) e)

-- ---- a list of branches is patched

-- the branch at place i was patched, and the words ws' are left: what is then left to do gives what was left to do before
module _ (ws js : List ℕ) (i t : ℕ) {r : Result (Unit {0}) Fault} {ws' : List ℕ} (h : i < length js) (answered : r ≡ (patch_of ws (get_or js i 0) t).answer)
    (left : ws' ≡ (patch_of ws (get_or js i 0) t).words) where
  pub next : {u : Unit {0}} → r ≡ Ok u → patch_all ws' (drop (i + 1) js) t ≡ patch_all ws (drop i js) t
  unfolding patch_all
  next e = rw (drop-cons js i 0 h, ← answered, e, left, add-one i)

  pub stop : {f : Fault} → r ≡ Err f → record { answer = Err f; words = ws' } ≡ patch_all ws (drop i js) t
  unfolding patch_all
  stop e = rw (drop-cons js i 0 h, ← answered, e, ← e, answered, left)

pub end : (ws js : List ℕ) (i t : ℕ) → length js ≤ i → record { answer = (Ok tt); words = ws } ≡ patch_all ws (drop i js) t
unfolding patch_all
end ws js i t h = rw (drop_of_length-le js h)
