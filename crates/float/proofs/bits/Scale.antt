-- A / C and a / L are the same fraction: what is asked of A can be asked of a.
use mathlib.Core.Path.{◌≡◌, sym, ap, ap₂, ◌∙◌}
use Prim.Native.Nat.{ℕ, ◌+◌, ◌-◌, ◌*◌, ◌≤◌, ◌<◌, ◌^◌}
use native.Mathlib.Nat.{le_of_eq, le_trans, lt_of_le_of_lt, lt_of_lt_of_le, zero-mul, mul_comm, mul_assoc, mul_right_comm, add-mul, mul-sub, mul-le-mul_right, mul-lt-mul_of_pos_right, le_of_mul-le-mul_right, lt_of_mul-lt-mul_right, eq_of_mul-eq-mul_right}
use native.Mathlib.Decide.{dec_lt, ℕ_discrete}
use native.Mathlib.Omega.{arith}
use lib.Dec.{ltb, eqb}
use borrow.Author.Tests.{le-ltb, lt-ltb, eq-eqb, ne_eqb}

pub sub-mul : (m n k : ℕ) → (m - n) * k ≡ m * k - n * k
sub-mul m n k = mul_comm (m - n) k ∙ mul-sub k m n ∙ ap₂ (λ (x y : ℕ). x - y) (mul_comm k m) (mul_comm k n)

module _ (L C : ℕ) (l : 0 < L) (c : 0 < C) where
  pub scaled-add : (A B a b : ℕ) → A * L ≡ a * C → B * L ≡ b * C → (A + B) * L ≡ (a + b) * C
  scaled-add A B a b p q = add-mul A B L ∙ ap₂ (λ (x y : ℕ). x + y) p q ∙ sym (add-mul a b C)

  pub scaled-sub : (A B a b : ℕ) → A * L ≡ a * C → B * L ≡ b * C → (A - B) * L ≡ (a - b) * C
  scaled-sub A B a b p q = sub-mul A B L ∙ ap₂ (λ (x y : ℕ). x - y) p q ∙ sym (sub-mul a b C)

  pub scaled-lt : (A B a b : ℕ) → A * L ≡ a * C → B * L ≡ b * C → ltb A B ≡ ltb a b
  scaled-lt A B a b p q =
      elim (dec_lt A B) [
        | yes h ↦
            let k : a * C < b * C = lt_of_le_of_lt (le_of_eq (sym p)) (lt_of_lt_of_le (mul-lt-mul_of_pos_right h l) (le_of_eq q)) in
            lt-ltb A B h ∙ sym (lt-ltb a b (lt_of_mul-lt-mul_right C k))
        | no h ↦
            let g : B ≤ A = omega arith in
            let k : b * C ≤ a * C = le_trans (le_of_eq (sym q)) (le_trans (mul-le-mul_right L g) (le_of_eq p)) in
            le-ltb A B g ∙ sym (le-ltb a b (le_of_mul-le-mul_right k c))
      ]

  pub scaled-eq : (A B a b : ℕ) → A * L ≡ a * C → B * L ≡ b * C → eqb A B ≡ eqb a b
  scaled-eq A B a b p q =
      elim (ℕ_discrete A B) [
        | yes h ↦ eq-eqb A B h ∙ sym (eq-eqb a b (eq_of_mul-eq-mul_right C c a b (sym p ∙ ap (λ (x : ℕ). x * L) h ∙ q)))
        | no h ↦ ne_eqb A B h ∙ sym (ne_eqb a b (λ e. h (eq_of_mul-eq-mul_right L l A B (p ∙ ap (λ (x : ℕ). x * C) e ∙ sym q))))
      ]

  pub scaled-zero : (A a : ℕ) → A * L ≡ a * C → eqb A 0 ≡ eqb a 0
  scaled-zero A a p = scaled-eq A 0 a 0 p (zero-mul L ∙ sym (zero-mul C))

  pub scaled-positive : (A a : ℕ) → A * L ≡ a * C → ltb 0 A ≡ ltb 0 a
  scaled-positive A a p = scaled-lt 0 A 0 a (zero-mul L ∙ sym (zero-mul C)) p

-- both over the product of the two denominators
pub over-both : (A a d g : ℕ) → A * 2 ^ 1074 ≡ a * d → A * g * 2 ^ 1074 ≡ a * (d * g)
over-both A a d g p = mul_right_comm A g (2 ^ 1074) ∙ ap (λ (x : ℕ). x * g) p ∙ mul_assoc a d g

pub over-both' : (A a d g : ℕ) → A * 2 ^ 1074 ≡ a * d → A * g * 2 ^ 1074 ≡ a * (g * d)
over-both' A a d g p = over-both A a d g p ∙ ap (λ (x : ℕ). a * x) (mul_comm d g)
