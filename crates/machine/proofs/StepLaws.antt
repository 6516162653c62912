-- What `step` has to show, over plain values: where a taken branch lands, and what an effect comes to.
use Rattle.std.specs.Prelude.{Option, Some, None, Result, Ok, Err}
use Rattle.faults.specs.declared.Fault.{Fault}
use Rattle.std.specs.Option.{SomeIff, ok_or}
use mathlib.Core.Path.{◌≡◌, refl, subst, ap, ◌∙◌}
use mathlib.Core.Bool.{true, false}
use mathlib.Core.List.{List}
use Prim.Native.Nat.{ℕ, suc, ◌+◌, ◌-◌, ◌≤◌, ◌<◌}
use native.Mathlib.Omega.{arith}
use lib.IntN.{ℤ, pos, negsuc}
use lib.ListN.{length, get_or}
use lib.Signed.{mag, lt_z}
use mir.Syntax.{w32, w64}
use mir.Val.{SFits, to_z, of_z}
use borrow.Author.Tests.{lt-ltb, le-ltb, le-leb, lt-leb, ltb-true}
use Rattle.faults.specs.Numbers.{out_of_range}
use Rattle.int64.proofs.sign.Laws.{never}
use Rattle.effect.proofs.EffectLaws.{widens, widened}
use Rattle.insns.specs.declared.op.Disp.{Disp}
use Rattle.value.specs.Answer.{Answer, result_of}
use Rattle.value.specs.declared.Value.{Value}
use Rattle.effect.specs.Effect.{size, held}
use Rattle.effect.specs.Forms.{asked}
use Rattle.effect.specs.declared.Effect as E
use Rattle.effect.specs.declared.Effect.TheVariants as Fx
use Rattle.machine.specs.Step.{Next, go, put, stop, land_of, branch_of, settle_of, word_effect, after, lent, step_of}
use Rattle.machine.specs.Parts.{told_of}
use Rattle.machine.proofs.Outcomes.{branches}

-- ---- where a branch lands

module _ (len at : ℕ) (h : at < len) where
  land-back : (z : ℤ) {m : ℕ} → m ≡ mag z → lt_z z (pos 0) ≡ true → m ≤ at → Ok (at - m) ≡ told_of (land_of len at z)
  unfolding land_of
  land-back (pos n) e t l = absurd (let k : n < 0 = ltb-true n 0 t in omega arith)
  land-back (negsuc n) e t l =
      let k : suc n ≤ suc at = omega arith in
      let g : suc at - suc n ≤ len = omega arith in
      rw (le-ltb (suc at) (suc n) k, le-leb (suc at - suc n) len g) (ap Ok (omega arith))

  land-before : (z : ℤ) {m : ℕ} → m ≡ mag z → lt_z z (pos 0) ≡ true → at < m → Err out_of_range ≡ told_of (land_of len at z)
  unfolding land_of
  land-before (pos n) e t l = absurd (let k : n < 0 = ltb-true n 0 t in omega arith)
  land-before (negsuc n) e t l = let k : suc at < suc n = omega arith in rw (lt-ltb (suc at) (suc n) k)

  -- a target before the code is none
  land-behind : (z : ℤ) {m : ℕ} → m ≡ mag z → lt_z z (pos 0) ≡ true → (s : Option ℕ) → SomeIff s (m ≤ at) (at - m) → ok_or s out_of_range ≡ told_of (land_of len at z)
  land-behind z e t (Some p) l = ap Ok l.1 ∙ land-back z e t l.0
  land-behind z {m} e t None n = let l : at < m = omega (arith, n) in land-before z e t l

  land-on : (z : ℤ) {m : ℕ} → m ≡ mag z → lt_z z (pos 0) ≡ false → m ≤ len - (at + 1) → Ok (at + 1 + m) ≡ told_of (land_of len at z)
  unfolding land_of
  land-on (pos n) {m} e t l =
      let g : suc at + n ≤ len = omega arith in
      rw (le-leb (suc at + n) len g) (ap Ok (omega arith))
  land-on (negsuc n) e t l = never t

  land-past : (z : ℤ) {m : ℕ} → m ≡ mag z → lt_z z (pos 0) ≡ false → len - (at + 1) < m → Err out_of_range ≡ told_of (land_of len at z)
  unfolding land_of
  land-past (pos n) e t l = let g : len < suc at + n = omega arith in rw (lt-leb (suc at + n) len g)
  land-past (negsuc n) e t l = never t

-- the same where z, a displacement, is handed over as the bits of an i64
pub widens32 : {z : ℤ} → SFits w32 z → SFits w64 (to_z w32 (of_z w32 z))
widens32 s = widens {w = w32} tt s

abbrev wide : ℤ → ℤ
wide z = to_z w64 (of_z w64 (to_z w32 (of_z w32 z)))

module _ (len at : ℕ) (h : at < len) (z : ℤ) (s : SFits w32 z) {m : ℕ} (e : m ≡ mag (wide z)) where
  told : {r : Result ℕ Fault} → r ≡ told_of (land_of len at (wide z)) → r ≡ told_of (land_of len at z)
  told {r} q = subst (λ (y : ℤ). r ≡ told_of (land_of len at y)) (widened {w = w32} tt s) q

  pub lands-behind : lt_z (wide z) (pos 0) ≡ true → (s : Option ℕ) {r : Result ℕ Fault} → SomeIff s (m ≤ at) (at - m) → r ≡ ok_or s out_of_range → r ≡ told_of (land_of len at z)
  lands-behind t s l q = q ∙ told (land-behind len at h (wide z) e t s l)

  module _ (t : lt_z (wide z) (pos 0) ≡ false) where
    pub lands-on : m ≤ len - (at + 1) → Ok (at + 1 + m) ≡ told_of (land_of len at z)
    lands-on l = told (land-on len at h (wide z) e t l)

    pub lands-past : len - (at + 1) < m → Err out_of_range ≡ told_of (land_of len at z)
    lands-past l = told (land-past len at h (wide z) e t l)

-- ---- an effect carried out

-- a branch writes nothing
module _ (ks ps : List ℕ) where
  keeps : (len at : ℕ) (z : ℤ) (r : Answer) → lent ks ps (branch_of len at z r) ≡ after (told_of (branch_of len at z r)) ks ps
  keeps len at z r = branches (λ (x : Next). lent ks ps x ≡ after (told_of x) ks ps) (λ p. refl) (λ n. refl) len at z r

  module _ (len at : ℕ) {e : E.Effect} where
    pub settle-branch : {z : Disp} {a : Result Value Fault} {r : Result ℕ Fault} → e ≡ Fx.Branch z a → r ≡ told_of (branch_of len at z.by (result_of a)) → after r ks ps ≡ lent ks ps (settle_of len (size ks ps) at (asked e))
    settle-branch {z} {a} f q = rw (f, keeps len at z.by (result_of a)) (ap (λ (y : Result ℕ Fault). after y ks ps) q)

-- ---- a stopping step writes nothing

pub stop-keeps : (ws sks sps ks ps : List ℕ) (at : ℕ) (n : Fault) {ks' ps' : List ℕ} → step_of ws sks sps at ks ps ≡ after (Err n) ks' ps' → (ks' ≡ ks) × (ps' ≡ ps)
unfolding step_of
stop-keeps ws sks sps ks ps at n {ks'} {ps'} e = by (settle_of (length ws) (size ks ps) at (word_effect (held ks ps) (held sks sps) (get_or ws at 0))) e
  where
    by : (x : Next) → lent ks ps x ≡ after (Err n) ks' ps' → (ks' ≡ ks) × (ps' ≡ ps)
    by (go p) e = (cc, cc)
    by (put p d v) e = (cc, cc)
    by (stop m) e = (cc, cc)

pub ruleset steps = (lands-behind, lands-on, lands-past, widens32)
