-- What `bit_run` finds is 01's one run of ones, and it finds every one.
use Rattle.std.specs.Prelude.{Option, Some, None}
use mathlib.Core.Path.{◌≡◌, refl, sym, ap, ◌∙◌}
use mathlib.Core.Bool.{Bool, true, false, cond, ◌&&◌}
use mathlib.Core.Logic.{◌↔◌}
use Prim.Native.Nat.{ℕ, zero, suc, ◌+◌, ◌-◌, ◌*◌, ◌/◌, ◌%◌, ◌<◌, ◌≤◌, ◌^◌}
use native.Mathlib.Nat.{mul-div_right, div-eq_of_lt-le, mod-add-div, pow-succ', mul_assoc, mul-suc, mul-one, mul-zero, one-mul, mul_comm, suc-mul}
use native.Mathlib.Omega.{arith}
use lib.Dec.{eqb, leb}
use lib.IntN.{ℤ, pos, negsuc}
use lib.Pow.{pow_pos}
use borrow.Author.Tests.{eqb-true, eqb-false, leb-true, ne_eqb, le-leb}
use Rattle.fold.specs.Literal.{OneRun, bits, run_at, run_from, bit_run}

both : (a b : Bool) → a && b ≡ true → (a ≡ true) × (b ≡ true)
both true b h = (refl, h)
both false b h = absurd (let z : ◌≡◌ {A = ℕ} 0 1 = cc in omega arith)

-- ---- what is found is a run

-- the counted zeros are there
zeros-are : (f n : ℕ) → (q : ℕ) × (n ≡ 2 ^ bits 0 f n * q)
unfolding bits
zeros-are zero n = (n, sym (one-mul n))
zeros-are (suc f) n = go (eqb (n % 2) 0) refl (zeros-are f (n / 2))
  where
    go : (b : Bool) → eqb (n % 2) 0 ≡ b → ((q : ℕ) × (n / 2 ≡ 2 ^ bits 0 f (n / 2) * q)) → (q : ℕ) × (n ≡ 2 ^ cond b (suc (bits 0 f (n / 2))) 0 * q)
    go false e r = (n, sym (one-mul n))
    go true e r =
        let k = bits 0 f (n / 2) in
        let even : n ≡ 2 * (n / 2) = omega (arith, mod-add-div n 2, eqb-true (n % 2) 0 e) in
        (r.0, even ∙ ap (λ (x : ℕ). 2 * x) r.1 ∙ sym (mul_assoc 2 (2 ^ k) r.0) ∙ ap (λ (x : ℕ). x * r.0) (sym (pow-succ' 2 k)))

-- the counted ones are there
ones-are : (f n : ℕ) → (q : ℕ) × (suc n ≡ 2 ^ bits 1 f n * suc q)
unfolding bits
ones-are zero n = (n, sym (one-mul (suc n)))
ones-are (suc f) n = go (eqb (n % 2) 1) refl (ones-are f (n / 2))
  where
    go : (b : Bool) → eqb (n % 2) 1 ≡ b → ((q : ℕ) × (suc (n / 2) ≡ 2 ^ bits 1 f (n / 2) * suc q)) → (q : ℕ) × (suc n ≡ 2 ^ cond b (suc (bits 1 f (n / 2))) 0 * suc q)
    go false e r = (n, sym (one-mul (suc n)))
    go true e r =
        let k = bits 1 f (n / 2) in
        let odd : suc n ≡ 2 * suc (n / 2) = omega (arith, mod-add-div n 2, eqb-true (n % 2) 1 e) in
        (r.0, odd ∙ ap (λ (x : ℕ). 2 * x) r.1 ∙ sym (mul_assoc 2 (2 ^ k) (suc r.0)) ∙ ap (λ (x : ℕ). x * suc r.0) (sym (pow-succ' 2 k)))

div-past : (n x q : ℕ) → 0 < x → suc n ≡ x * suc q → n / x ≡ q
div-past n x q h e =
    div-eq_of_lt-le x (omega (arith, mul-suc x q, mul_comm x q)) (omega (arith, mul-suc x q, mul_comm x q, suc-mul q x))

-- zeros, then ones, and nothing above them
run_of : (m lo len : ℕ) → lo ≡ bits 0 64 m → len ≡ bits 1 64 (m / 2 ^ lo) → m / 2 ^ lo / 2 ^ len ≡ 0 → m ≡ 2 ^ lo * (2 ^ len - 1)
run_of m lo len zeros ones none =
    let shift : (q : ℕ) × (m ≡ 2 ^ lo * q) = rw zeros (zeros-are 64 m) in
    let run : (q : ℕ) × (suc (m / 2 ^ lo) ≡ 2 ^ len * suc q) = rw ones (ones-are 64 (m / 2 ^ lo)) in
    let z : run.0 ≡ 0 = sym (div-past (m / 2 ^ lo) (2 ^ len) run.0 (pow_pos len) run.1) ∙ none in
    let e : suc (m / 2 ^ lo) ≡ 2 ^ len * 1 = run.1 ∙ ap (λ (q : ℕ). 2 ^ len * suc q) z in
    let body : m / 2 ^ lo ≡ 2 ^ len - 1 = omega (arith, mul-one (2 ^ len)) in
    shift.1 ∙ ap (λ (q : ℕ). 2 ^ lo * q) (sym (mul-div_right shift.0 (pow_pos lo)) ∙ ap (λ (n : ℕ). n / 2 ^ lo) (sym shift.1) ∙ body)

run_is : (z : ℤ) (lo len : ℕ) → bit_run z ≡ Some (lo, len) → OneRun z lo len
unfolding bit_run run_from run_at
run_is (negsuc m) lo len h = absurd (let z : ◌≡◌ {A = ℕ} 0 1 = cc in omega arith)
run_is (pos m) lo len h = go (eqb m 0) refl h
  where
    k : ℕ
    k = bits 0 64 m

    l : ℕ
    l = bits 1 64 (m / 2 ^ k)

    ran : (m ≡ 0 → ⊥) → (b : Bool) → eqb (m / 2 ^ k / 2 ^ l) 0 && leb (k + l) 62 ≡ b → cond {A = Option (ℕ × ℕ)} b (Some (k, l)) None ≡ Some (lo, len)
        → OneRun (pos m) lo len
    ran some false e h = absurd (let z : ◌≡◌ {A = ℕ} 0 1 = cc in omega arith)
    ran some true e h =
        let s = both (eqb (m / 2 ^ k / 2 ^ l) 0) (leb (k + l) 62) e in
        let p : ◌≡◌ {A = ℕ × ℕ} (k, l) (lo, len) = cc in
        let a : k ≡ lo = ap (λ x. x.0) p in
        let b : l ≡ len = ap (λ x. x.1) p in
        let is : m ≡ 2 ^ k * (2 ^ l - 1) = run_of m k l refl refl (eqb-true (m / 2 ^ k / 2 ^ l) 0 s.0) in
        rw (← a, ← b) (record { is = ap pos is; positive = omega arith; short = leb-true (k + l) 62 s.1 })

    go : (b : Bool) → eqb m 0 ≡ b → cond b None (run_from m k) ≡ Some (lo, len) → OneRun (pos m) lo len
    go true e h = absurd (let z : ◌≡◌ {A = ℕ} 0 1 = cc in omega arith)
    go false e h = ran (eqb-false m 0 e) (eqb (m / 2 ^ k / 2 ^ l) 0 && leb (k + l) 62) refl h

-- ---- every run is found

-- lo zeros before an odd number
zeros-found : (f lo x : ℕ) → lo < f → x % 2 ≡ 1 → bits 0 f (2 ^ lo * x) ≡ lo
unfolding bits
zeros-found zero lo x h odd = absurd (omega arith)
zeros-found (suc f) zero x h odd = rw (one-mul x, odd)
zeros-found (suc f) (suc lo) x h odd =
    let twice : 2 ^ suc lo * x ≡ 2 * (2 ^ lo * x) = ap (λ (p : ℕ). p * x) (pow-succ' 2 lo) ∙ mul_assoc 2 (2 ^ lo) x in
    let even : (2 * (2 ^ lo * x)) % 2 ≡ 0 = omega arith in
    let half : 2 * (2 ^ lo * x) / 2 ≡ 2 ^ lo * x = omega arith in
    rw (twice, even, half, zeros-found f lo x (omega arith) odd)

-- a number of ones alone
ones-found : (f len : ℕ) → len < f → bits 1 f (2 ^ len - 1) ≡ len
unfolding bits
ones-found zero len h = absurd (omega arith)
ones-found (suc f) zero h = refl
ones-found (suc f) (suc len) h =
    let p = pow_pos len in
    let q = pow-succ' 2 len in
    let odd : (2 ^ suc len - 1) % 2 ≡ 1 = omega arith in
    let half : (2 ^ suc len - 1) / 2 ≡ 2 ^ len - 1 = omega arith in
    rw (odd, half, ones-found f len (omega arith))

-- a run of no ones is 0
some-ones : (lo len : ℕ) → 0 < 2 ^ lo * (2 ^ len - 1) → 0 < len
some-ones lo zero h = absurd (let z = mul-zero (2 ^ lo) in omega arith)
some-ones lo (suc len) h = omega arith

odd-ones : (len : ℕ) → 0 < len → (2 ^ len - 1) % 2 ≡ 1
odd-ones zero h = absurd (omega arith)
odd-ones (suc len) h = let p = pow_pos len in let q = pow-succ' 2 len in omega arith

found_at : (lo len : ℕ) → 0 < 2 ^ lo * (2 ^ len - 1) → lo + len ≤ 62 → bit_run (pos (2 ^ lo * (2 ^ len - 1))) ≡ Some (lo, len)
unfolding bit_run run_from run_at
found_at lo len some short =
    let m = 2 ^ lo * (2 ^ len - 1) in
    let long = some-ones lo len some in
    let zeros : bits 0 64 m ≡ lo = zeros-found 64 lo (2 ^ len - 1) (omega arith) (odd-ones len long) in
    let shifted : m / 2 ^ lo ≡ 2 ^ len - 1 = mul-div_right (2 ^ len - 1) (pow_pos lo) in
    let ones : bits 1 64 (2 ^ len - 1) ≡ len = ones-found 64 len (omega arith) in
    let above : (2 ^ len - 1) / 2 ^ len ≡ 0 = div-past (2 ^ len - 1) (2 ^ len) 0 (pow_pos len) (let p = pow_pos len in let q = mul-one (2 ^ len) in omega arith) in
    rw (ne_eqb m 0 (λ e. omega arith), zeros, shifted, ones, above, le-leb (lo + len) 62 short)

run-found : (z : ℤ) (lo len : ℕ) → OneRun z lo len → bit_run z ≡ Some (lo, len)
run-found z lo len r = ap bit_run r.is ∙ found_at lo len r.positive r.short

-- ---- both directions

-- `bit_run z` is `Some (lo, len)` exactly where z is that run
pub run-exactly : (z : ℤ) (lo len : ℕ) → (bit_run z ≡ Some (lo, len)) ↔ OneRun z lo len
run-exactly z lo len = (run_is z lo len, run-found z lo len)

-- and `None` exactly where z is no run
pub run_none : (z : ℤ) → (bit_run z ≡ None) ↔ ((lo len : ℕ) → OneRun z lo len → ⊥)
run_none z = (λ h lo len r. let e = run-found z lo len r in let z : ◌≡◌ {A = ℕ} 0 1 = cc in omega arith, λ h. go (bit_run z) refl h)
  where
    go : (r : Option (ℕ × ℕ)) → bit_run z ≡ r → ((lo len : ℕ) → OneRun z lo len → ⊥) → bit_run z ≡ None
    go (Some (lo, len)) e h = absurd (h lo len (run_is z lo len e))
    go None e h = e
