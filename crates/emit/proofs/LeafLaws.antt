-- What a leaf has to show: an immediate, a constant and its slot, the register of a Ref.
use Rattle.std.specs.Prelude.{Option, Result, Ok, Err}
use Rattle.faults.specs.declared.Fault.{Fault}
use mathlib.Core.Path.{◌≡◌, refl, sym, ap, subst, ◌∙◌}
use mathlib.Core.Bool.{Bool, true, false}
use mathlib.Core.List.{List, [], ◌∷◌}
use Prim.Native.Nat.{ℕ, suc, ◌+◌, ◌*◌, ◌<◌}
use native.Mathlib.Omega.{arith}
use lib.IntN.{ℤ, pos, negsuc, ◌*ℤ◌}
use lib.ListN.{get_or}
use lib.Signed.{mag}
use mir.Syntax.{w16, w64}
use mir.Val.{Fits as FitsIn, SFits, to_z, of_z}
use borrow.Author.Tests.{ltb-true}
use Rattle.value.specs.Value.{Datum, of_pair}
use Rattle.value.specs.Value as Val
use Rattle.table.specs.Table.{kind_at, payload_at}
use Rattle.table.specs.Tree.{Leaf, nil, yep, nope, int, float, ref, Kind, leaf_kind, unary_kind, binary_kind, ternary_kind, no_kind, kind_of}
use Rattle.table.proofs.Arities.{at-kind}
use Rattle.table.proofs.Nodes.{ok}
use Rattle.emit.specs.declared.state.St.{St}
use Rattle.emit.specs.State.{State, dest_d}
use Rattle.fold.specs.Literal.{fits_imm40}
use Rattle.emit.specs.Steps.{put_d, load_op, raw_nil, raw_true, raw_false, const_to, const_d, leaf_d}
use Rattle.emit.specs.Read.{Bufs, bufs, const_of, st_of, Fit, Says, Steps, LeafReady}
use Rattle.emit.proofs.Laws.{go, stop, kept, says-by}
use Rattle.fold.proofs.literal.Literals.{held}

-- ---- a constant: its register first

module _ {c ks ps : List ℕ} {st : St} (fit : Fit (bufs c ks ps) st) (v : Datum) (dst : Option ℕ) {x : Result (ℕ × St) Fault} (to : (c : List ℕ) → Steps c c st x (dest_d dst)) where
  pub const-stop : {f : Fault} {r : Result (ℕ × St) Fault} → x ≡ Err f → r ≡ Err f → Says (bufs c ks ps) r (const_d v dst (st_of (bufs c ks ps) st))
  unfolding const_d
  const-stop e q = stop _ e q (to c ks ps fit)

  pub const-go : {b : Bufs} {d : ℕ} {s : St} {r : Result (ℕ × St) Fault} → x ≡ Ok (d, s) → Says b r (const_to v (d, st_of (bufs c ks ps) s)) → Says b r (const_d v dst (st_of (bufs c ks ps) st))
  unfolding const_d
  const-go e h = says-by (go (const_to v) e (to c ks ps fit)) h

pub fit-dest : {c ks ps : List ℕ} {st : St} → Fit (bufs c ks ps) st → (dst : Option ℕ) {x : Result (ℕ × St) Fault} → ((c : List ℕ) → Steps c c st x (dest_d dst)) → {d : ℕ} {s : St} → x ≡ Ok (d, s) → Fit (bufs c ks ps) s
fit-dest {c} {ks} {ps} fit dst to e = kept e (to c ks ps fit)

-- ---- the leaf at a node

unfoldable pub leaf_at : ℕ → ℕ → Leaf
leaf_at p k = get_or (nil ∷ yep ∷ nope ∷ int (to_z w64 p) ∷ float p ∷ ref p ∷ []) k nil

leaf-rule : ℕ → ℕ → Kind → Type 0
leaf-rule p k (leaf_kind f) = f p ≡ leaf_at p k
leaf-rule p k (unary_kind o) = Unit {0}
leaf-rule p k (binary_kind o) = Unit {0}
leaf-rule p k ternary_kind = Unit {0}
leaf-rule p k no_kind = Unit {0}

leaf-known : (p k : ℕ) (f : ℕ → Leaf) → kind_of k ≡ leaf_kind f → f p ≡ leaf_at p k
unfolding leaf-rule leaf_at
leaf-known p k f e = subst (leaf-rule p k) e (at-kind (leaf-rule p) (λ j l. tt) (refl, (refl, (refl, (refl, (refl, (refl, omega arith)))))) k)

-- whatever the table says of the kind
pub leaf-of : (kind pay : ℕ) (dst : Option ℕ) (s : State) {b : Bufs} {r : Result (ℕ × St) Fault} → Says b r (leaf_d (leaf_at pay kind) dst s) → (f : ℕ → Leaf) → kind_of kind ≡ leaf_kind f → Says b r (leaf_d (f pay) dst s)
leaf-of kind pay dst s {b} {r} h f g = subst (λ (l : Leaf). Says b r (leaf_d l dst s)) (sym (leaf-known pay kind f g)) h

-- four times an Int that load_imm40 takes
four-times : (z : ℤ) → mag z < 137438953472 → mag (pos 4 *ℤ z) < 9223372036854775808
four-times (pos n) l = omega arith
four-times (negsuc n) l = let q : 4 * suc n ≡ suc (4 * n + 3) = omega arith in rw q (omega arith)

module _ (z : ℤ) (g : mag z < 9223372036854775808) {t : Bool} (w : t ≡ fits_imm40 (to_z w64 (of_z w64 z))) (y : t ≡ true) where
  pub four-fits : SFits w64 (pos 4 *ℤ to_z w64 (of_z w64 z))
  four-fits = record { sfits = four-times (to_z w64 (of_z w64 z)) (ltb-true (mag (to_z w64 (of_z w64 z))) 137438953472 (sym w ∙ y)) }

-- its kind is kind, as the code's k says, and its payload pay
module _ {c ks ps : List ℕ} (dst : Option ℕ) {st : St} (fit : Fit (bufs c ks ps) st) (kind pay : ℕ) {k : ℕ} (e : k ≡ kind) where
  leaf-by : (m : ℕ) {b : Bufs} {r : Result (ℕ × St) Fault} → k ≡ m → Says b r (leaf_d (leaf_at pay m) dst (st_of (bufs c ks ps) st)) → Says b r (leaf_d (leaf_at pay kind) dst (st_of (bufs c ks ps) st))
  leaf-by m h s = let q : kind ≡ m = sym e ∙ h in rw q s

  -- an immediate
  module _ {c' : List ℕ} {r : Result (ℕ × St) Fault} where
    pub leaf-nil : k ≡ 0 → Steps c c' st r (put_d (load_op raw_nil) dst) → Says (bufs c' ks ps) r (leaf_d (leaf_at pay kind) dst (st_of (bufs c ks ps) st))
    unfolding leaf_d leaf_at
    leaf-nil h s = leaf-by 0 h (s ks ps fit)

    pub leaf-yes : k ≡ 1 → Steps c c' st r (put_d (load_op raw_true) dst) → Says (bufs c' ks ps) r (leaf_d (leaf_at pay kind) dst (st_of (bufs c ks ps) st))
    unfolding leaf_d leaf_at
    leaf-yes h s = leaf-by 1 h (s ks ps fit)

    pub leaf-no : k ≡ 2 → Steps c c' st r (put_d (load_op raw_false) dst) → Says (bufs c' ks ps) r (leaf_d (leaf_at pay kind) dst (st_of (bufs c ks ps) st))
    unfolding leaf_d leaf_at
    leaf-no h s = leaf-by 2 h (s ks ps fit)

  -- an Int, by its size
  module _ {p : ℕ} (read_is : p ≡ pay) {z : ℤ} (int_is : z ≡ to_z w64 p) (g : mag z < 9223372036854775808) {t : Bool} (w : t ≡ fits_imm40 (to_z w64 (of_z w64 z))) (h : k ≡ 3) where
    number : to_z w64 pay ≡ z
    number = ap (to_z w64) (sym read_is) ∙ sym int_is

    fits-is : {u : Bool} → t ≡ u → fits_imm40 (to_z w64 pay) ≡ u
    fits-is y = ap fits_imm40 (number ∙ sym (held z g)) ∙ sym w ∙ y

    pub leaf-int : {c' : List ℕ} {r : Result (ℕ × St) Fault} → t ≡ true → Steps c c' st r (put_d (load_op (record { raw = to_z w64 (of_z w64 (pos 4 *ℤ to_z w64 (of_z w64 z))) })) dst) → Says (bufs c' ks ps) r (leaf_d (leaf_at pay kind) dst (st_of (bufs c ks ps) st))
    unfolding leaf_d leaf_at
    leaf-int y s =
        let q : to_z w64 (of_z w64 (pos 4 *ℤ to_z w64 (of_z w64 z))) ≡ pos 4 *ℤ to_z w64 pay =
        held (pos 4 *ℤ to_z w64 (of_z w64 z)) (four-fits z g w y).sfits ∙ ap (λ (x : ℤ). pos 4 *ℤ x) (held z g ∙ sym number) in
        leaf-by 3 h (rw (fits-is y) (says-by (ap (λ (x : ℤ). put_d (load_op (record { raw = x })) dst (st_of (bufs c ks ps) st)) q) (s ks ps fit)))

    pub leaf-big : {b : Bufs} {r : Result (ℕ × St) Fault} {v : Datum} → t ≡ false → Says b r (const_d v dst (st_of (bufs c ks ps) st)) → v ≡ const_of 2 p → Says b r (leaf_d (leaf_at pay kind) dst (st_of (bufs c ks ps) st))
    unfolding leaf_d leaf_at of_pair
    leaf-big y s e =
        leaf-by 3 h (rw (fits-is y) (says-by (ap (λ (x : Datum). const_d x dst (st_of (bufs c ks ps) st)) e ∙ ap (λ (x : ℕ). const_d (Val.int (to_z w64 x)) dst (st_of (bufs c ks ps) st)) read_is) s))

  pub leaf-float : {p : ℕ} → p ≡ pay → {b : Bufs} {r : Result (ℕ × St) Fault} {v : Datum} → k ≡ 4 → Says b r (const_d v dst (st_of (bufs c ks ps) st)) → v ≡ const_of 3 p → Says b r (leaf_d (leaf_at pay kind) dst (st_of (bufs c ks ps) st))
  unfolding leaf_d leaf_at of_pair
  leaf-float read_is h s e = leaf-by 4 h (says-by (ap (λ (x : Datum). const_d x dst (st_of (bufs c ks ps) st)) e ∙ ap (λ (x : ℕ). const_d (Val.float x) dst (st_of (bufs c ks ps) st)) read_is) s)

-- the last arm is a Ref's
module _ {ws : List ℕ} {i : ℕ} (ready : LeafReady ws i) {k : ℕ} (e : k ≡ kind_at ws i) (n0 : k ≡ 0 → ⊥) (n1 : k ≡ 1 → ⊥) (n2 : k ≡ 2 → ⊥) (n3 : k ≡ 3 → ⊥) (n4 : k ≡ 4 → ⊥) where
  last-kind : k ≡ 5
  last-kind = let l = ready.leaf in omega arith

  pub ref-fits : {p : ℕ} → p ≡ payload_at ws i → FitsIn w16 p
  ref-fits q = let l = (ok ws ready.base i ready.node).refers (sym e ∙ last-kind) in let m = ready.low in record { fits = omega arith }

  pub leaf-ref : {p : ℕ} {c ks ps : List ℕ} (dst : Option ℕ) {st : St} → Fit (bufs c ks ps) st → (kind pay : ℕ) → k ≡ kind → p ≡ pay → Says (bufs c ks ps) (Ok (p, st)) (leaf_d (leaf_at pay kind) dst (st_of (bufs c ks ps) st))
  unfolding leaf_d leaf_at
  leaf-ref dst fit kind pay g q = leaf-by dst fit kind pay g 5 last-kind (record { is = rw q; fit = fit })

pub ruleset leafs = (four-fits, leaf-nil, leaf-yes, leaf-no, leaf-int, leaf-big, leaf-float, leaf-ref, ref-fits)
