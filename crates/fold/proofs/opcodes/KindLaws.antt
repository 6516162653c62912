-- The operators by the numbers of their kinds: an arm of a match on the kind knows the operator.
use mathlib.Core.Path.{◌≡◌, refl, sym, ap, ◌∙◌}
use mathlib.Core.Bool.{Bool}
use mathlib.Core.List.{[], ◌∷◌}
use Prim.Native.Nat.{ℕ, ◌-◌}
use lib.ListN.{get_or}
use Rattle.table.specs.Tree.{Arith, bit_and, bit_or, bit_xor, lshift, rshift, add, sub, mul, div, mod', Cmp, eq, ne, lt, le, gt, ge, arith, cmp, binary_kind, kind_of, arith_code, cmp_code}
use Rattle.table.proofs.Arities.{binary-code}
use Rattle.insns.specs.declared.op.Three.{Three}
use Rattle.insns.specs.declared.op.Cmp.{Cmp as JumpCmp}
use Rattle.fold.specs.Opcodes.{three_of, mirror, branch_of}

abbrev pub arith_at : ℕ → Arith
arith_at k = get_or (bit_and ∷ bit_or ∷ bit_xor ∷ lshift ∷ rshift ∷ add ∷ sub ∷ mul ∷ div ∷ []) (k - 8) mod'

arith-back : (o : Arith) → arith_at (arith_code o) ≡ o
arith-back bit_and = refl
arith-back bit_or = refl
arith-back bit_xor = refl
arith-back lshift = refl
arith-back rshift = refl
arith-back add = refl
arith-back sub = refl
arith-back mul = refl
arith-back div = refl
arith-back mod' = refl

pub arith-known : (m : ℕ) {k : ℕ} (o : Arith) → k ≡ m → kind_of k ≡ binary_kind (arith o) → arith_at m ≡ o
arith-known m {k} o h e = ap arith_at (sym h ∙ binary-code k (arith o) e) ∙ arith-back o

-- an arm of the match on the kind
pub three-arm : (m : ℕ) {k : ℕ} {r : Three} → k ≡ m → r ≡ three_of (arith_at m) → (o : Arith) → kind_of k ≡ binary_kind (arith o) → r ≡ three_of o
three-arm m h q o e = q ∙ ap three_of (arith-known m o h e)

module _ {k : ℕ} (n0 : k ≡ 8 → ⊥) (n1 : k ≡ 9 → ⊥) (n2 : k ≡ 10 → ⊥) (n3 : k ≡ 11 → ⊥) (n4 : k ≡ 12 → ⊥) (n5 : k ≡ 13 → ⊥) (n6 : k ≡ 14 → ⊥) (n7 : k ≡ 15 → ⊥) (n8 : k ≡ 16 → ⊥) where
  pub three-last : (o : Arith) → kind_of k ≡ binary_kind (arith o) → Three.Modulo ≡ three_of o
  three-last o e = go o (binary-code k (arith o) e)
    where
      go : (o : Arith) → k ≡ arith_code o → Three.Modulo ≡ three_of o
      go bit_and h = absurd (n0 h)
      go bit_or h = absurd (n1 h)
      go bit_xor h = absurd (n2 h)
      go lshift h = absurd (n3 h)
      go rshift h = absurd (n4 h)
      go add h = absurd (n5 h)
      go sub h = absurd (n6 h)
      go mul h = absurd (n7 h)
      go div h = absurd (n8 h)
      go mod' h = refl

-- ---- comparisons

abbrev cmp_at : ℕ → Cmp
cmp_at k = get_or (eq ∷ ne ∷ lt ∷ le ∷ gt ∷ []) (k - 18) ge

cmp-back : (c : Cmp) → cmp_at (cmp_code c) ≡ c
cmp-back eq = refl
cmp-back ne = refl
cmp-back lt = refl
cmp-back le = refl
cmp-back gt = refl
cmp-back ge = refl

cmp-known : (m : ℕ) {k : ℕ} (c : Cmp) → k ≡ m → kind_of k ≡ binary_kind (cmp c) → cmp_at m ≡ c
cmp-known m {k} c h e = ap cmp_at (sym h ∙ binary-code k (cmp c) e) ∙ cmp-back c

cmp-kind : (c : Cmp) → kind_of (cmp_code c) ≡ binary_kind (cmp c)
unfolding kind_of
cmp-kind eq = refl
cmp-kind ne = refl
cmp-kind lt = refl
cmp-kind le = refl
cmp-kind gt = refl
cmp-kind ge = refl

pub mirror-arm : (m : ℕ) {k n : ℕ} → k ≡ m → n ≡ cmp_code (mirror (cmp_at m)) → (c : Cmp) → kind_of k ≡ binary_kind (cmp c) → kind_of n ≡ binary_kind (cmp (mirror c))
mirror-arm m h q c e = ap kind_of q ∙ cmp-kind (mirror (cmp_at m)) ∙ ap (λ (x : Cmp). binary_kind (cmp (mirror x))) (cmp-known m c h e)

pub mirror-rest : {k : ℕ} → (k ≡ 20 → ⊥) → (k ≡ 21 → ⊥) → (k ≡ 22 → ⊥) → (k ≡ 23 → ⊥) → (c : Cmp) → kind_of k ≡ binary_kind (cmp c) → kind_of k ≡ binary_kind (cmp (mirror c))
mirror-rest {k} a b c d o e = go o (binary-code k (cmp o) e) e
  where
    go : (o : Cmp) → k ≡ cmp_code o → kind_of k ≡ binary_kind (cmp o) → kind_of k ≡ binary_kind (cmp (mirror o))
    go eq h e = e
    go ne h e = e
    go lt h e = absurd (a h)
    go le h e = absurd (b h)
    go gt h e = absurd (c h)
    go ge h e = absurd (d h)

module _ {k : ℕ} {sense : Bool} {r : JumpCmp} where
  pub branch-arm : (m : ℕ) {t : Bool} → sense ≡ t → k ≡ m → r ≡ branch_of (cmp_at m) t → (c : Cmp) → kind_of k ≡ binary_kind (cmp c) → r ≡ branch_of c sense
  branch-arm m {t} s h q c e = q ∙ ap (λ (x : Cmp). branch_of x t) (cmp-known m c h e) ∙ ap (branch_of c) (sym s)

  pub branch-last : {t : Bool} → sense ≡ t → (k ≡ 18 → ⊥) → (k ≡ 19 → ⊥) → (k ≡ 20 → ⊥) → (k ≡ 21 → ⊥) → (k ≡ 22 → ⊥) → r ≡ branch_of ge t → (c : Cmp) → kind_of k ≡ binary_kind (cmp c) → r ≡ branch_of c sense
  branch-last {t} s a b c d f q o e = go o (binary-code k (cmp o) e) ∙ ap (branch_of o) (sym s)
    where
      go : (o : Cmp) → k ≡ cmp_code o → r ≡ branch_of o t
      go eq h = absurd (a h)
      go ne h = absurd (b h)
      go lt h = absurd (c h)
      go le h = absurd (d h)
      go gt h = absurd (f h)
      go ge h = q

pub ruleset branches = (branch-arm, branch-last)
