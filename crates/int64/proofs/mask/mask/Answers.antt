-- `mask` meets its contract: by where the ones end.
use Rattle.std.proofs.Common.{◌≡◌, ℕ, ◌+◌, ◌-◌, ◌*◌, ◌%◌, ◌^◌, ◌≤◌, sym, ap, ◌∙◌, mul_assoc, mul_comm, mul-add, arith, pow_pos, pow-add}
use native.Mathlib.Nat.{mul-mod_right, add-mul-mod_self_right}
use Rattle.int64.specs.Mask.{mask_of}
use Rattle.int64.proofs.sign.Laws.{one_shifted}
use Rattle.int64.proofs.mask.mask.Goals as goal

-- 2^n as a multiple of 2^64
multiple : (n : ℕ) → 64 ≤ n → 2 ^ n ≡ 2 ^ 64 * 2 ^ (n - 64)
multiple n h = let e : n ≡ 64 + (n - 64) = omega arith in ap (λ (k : ℕ). 2 ^ k) e ∙ pow-add 2 64 (n - 64)

past : (lo len : ℕ) → 64 ≤ lo → mask_of lo len ≡ 0
unfolding mask_of
past lo len h = ap (λ (n : ℕ). n * (2 ^ len - 1) % 2 ^ 64) (multiple lo h) ∙ ap (λ (n : ℕ). n % 2 ^ 64) (mul_assoc (2 ^ 64) (2 ^ (lo - 64)) (2 ^ len - 1)) ∙ mul-mod_right (2 ^ 64) (2 ^ (lo - 64) * (2 ^ len - 1))

full : (lo len : ℕ) → 64 ≤ len → mask_of lo len ≡ (2 ^ 64 - 1) * 2 ^ lo % 2 ^ 64
unfolding mask_of
full lo len h =
    let q = 2 ^ (len - 64) in
    let e : 2 ^ len - 1 ≡ 2 ^ 64 - 1 + (q - 1) * 2 ^ 64 = omega (arith, multiple len h, pow_pos (len - 64)) in
    let f : 2 ^ lo * (2 ^ len - 1) ≡ (2 ^ 64 - 1) * 2 ^ lo + 2 ^ lo * (q - 1) * 2 ^ 64
    = ap (λ (n : ℕ). 2 ^ lo * n) e ∙ mul-add (2 ^ lo) (2 ^ 64 - 1) ((q - 1) * 2 ^ 64) ∙ omega (arith, mul_assoc (2 ^ lo) (q - 1) (2 ^ 64)) in
    ap (λ (n : ℕ). n % 2 ^ 64) f ∙ add-mul-mod_self_right ((2 ^ 64 - 1) * 2 ^ lo) (2 ^ lo * (q - 1)) (2 ^ 64)

pub returns-then-lo-ge64 : goal.returns-then-lo-ge64
unfolding mask_of
returns-then-lo-ge64 c = sym (past c.args.lo c.args.len c.if-lo-ge64.true)

pub returns-then-len-ge64 : goal.returns-then-len-ge64
unfolding mask_of
returns-then-len-ge64 c = sym (full c.args.lo c.args.len c.if-len-ge64.true)

pub overflow_sub-result : goal.overflow_sub-result
unfolding mask_of
overflow_sub-result c = rw (one_shifted c.args.len c.if-len-ge64.false) (pow_pos c.args.len)

pub returns : goal.returns
unfolding mask_of
returns c = rw (one_shifted c.args.len c.if-len-ge64.false) (ap (λ (n : ℕ). n % 2 ^ 64) (mul_comm (2 ^ c.args.len - 1) (2 ^ c.args.lo)))
