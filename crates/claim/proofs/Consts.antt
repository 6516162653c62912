-- The constants of a compiled table are literals of its nodes, so that the slots that compiling leaves lend them, with Nil behind.
use Rattle.std.specs.Prelude.{Option, Some, None}
use Rattle.insns.specs.declared.op.Imm16.{Imm16}
use Rattle.fold.specs.declared.Tail.{Tail}
use mathlib.Core.Path.{◌≡◌, refl, ap}
use mathlib.Core.Bool.{Bool, true, false, not, cond}
use mathlib.Core.List.{List, [], ◌∷◌, ◌++◌, map}
use Prim.Native.Nat.{ℕ, zero, suc, ◌+◌, ◌-◌, ◌*◌, ◌<◌, ◌^◌}
use native.Mathlib.Omega.{arith as linear}
use lib.Dec.{ltb}
use lib.IntN.{ℤ}
use lib.ListN.{length, get_or, replicate}
use mir.Syntax.{w64}
use mir.Val.{SFits}
use mir.Facts.{sfits_to_z}
use Rattle.value.specs.Value.{Datum, kind_of, payload_of, of_pair, datums, all_well}
use Rattle.value.specs.Value as Val
use Rattle.value.proofs.RoundTrip as Pair
use Rattle.table.specs.Table.{kind_at, payload_at, child1, child2, child3, depth_at}
use Rattle.table.specs.Tree.{Tree, leaf, unary, binary, ternary, Leaf, nil, yep, nope, int, float, ref, Unary, minus, not', Cmp, Binary, arith, cmp, and, or, Kind, leaf_kind, unary_kind, binary_kind, ternary_kind, no_kind, kinds, build, tree_at, tree}
use Rattle.table.specs.Tree as Tree
use Rattle.insns.specs.declared.op.Three.{Three}
use Rattle.fold.specs.Literal.{fits_imm40, as_imm16}
use Rattle.fold.specs.Fold.{fold_of, takes_shift}
use Rattle.fold.specs.Opcodes.{three_of}
use Rattle.emit.specs.State.{seek, fresh}
use Rattle.compile.specs.Buffers.{padded}
use Rattle.claim.specs.Claim.{Slots}
use Rattle.claim.proofs.fragments.Frag.{ValueF, BranchF, Frag, d_reg, d_next, leaf_f, int_f, into_f, second, arith_f, compare_f, cond_f, tern_f, junc_b, unary_n, binary_n, frag}
use Rattle.claim.proofs.Pairs.{payload-low}

-- ---- constants that a lent pair can hold

abbrev pub AllHeld : List Datum → Type 0
AllHeld [] = Unit {0}
AllHeld (c ∷ cs) = Pair.Holds c × AllHeld cs

all_held : (cs ds : List Datum) → AllHeld cs → AllHeld ds → AllHeld (cs ++ ds)
all_held [] ds h g = g
all_held (c ∷ cs) ds h g = (h.0, all_held cs ds h.1 g)

abbrev HeldV : ValueF → Type 0
HeldV v = (dst : Option ℕ) (n : ℕ) (ks : List Datum) → AllHeld (v dst n ks).consts

abbrev HeldB : BranchF → Type 0
HeldB br = (sense : Bool) (n : ℕ) (ks : List Datum) → AllHeld (br sense n ks).consts

record HeldF (F : Frag) : Type 0 where
  values : HeldV F.value
  branches : HeldB F.branch
  firsts : HeldV F.first

abbrev pub LeafHeld : Leaf → Type 0
LeafHeld nil = Unit {0}
LeafHeld yep = Unit {0}
LeafHeld nope = Unit {0}
LeafHeld (int z) = SFits w64 z
LeafHeld (float p) = p < 2 ^ 64
LeafHeld (ref r) = Unit {0}

unfoldable pub TreeHeld : Tree → Type 0
TreeHeld (leaf l) = LeafHeld l
TreeHeld (unary o a) = TreeHeld a
TreeHeld (binary o a b) = TreeHeld a × TreeHeld b
TreeHeld (ternary c a b) = TreeHeld c × TreeHeld a × TreeHeld b

-- ---- the constants of a fragment are the tree's

fresh-held : (t : Bool) (v : Datum) → Pair.Holds v → AllHeld (cond t [] (v ∷ []))
fresh-held true v h = tt
fresh-held false v h = (h, tt)

const-held : (v : Datum) → Pair.Holds v → (ks : List Datum) → AllHeld (fresh v ks)
const-held v h ks = fresh-held (ltb (seek v ks) (length ks)) v h

int-held : (t : Bool) (z : ℤ) → SFits w64 z → HeldV (int_f t z)
int-held true z h dst n ks = tt
int-held false z h dst n ks = const-held (Val.int z) h ks

leaf-held : (l : Leaf) → LeafHeld l → HeldV (leaf_f l)
leaf-held nil h dst n ks = tt
leaf-held yep h dst n ks = tt
leaf-held nope h dst n ks = tt
leaf-held (int z) h dst n ks = int-held (fits_imm40 z) z h dst n ks
leaf-held (float p) h dst n ks = const-held (Val.float p) h ks
leaf-held (ref r) h dst n ks = tt

two-held : (v u : ValueF) (n : ℕ) (ks : List Datum) → HeldV v → HeldV u → AllHeld ((v None n ks).consts ++ (second v u n ks).consts)
two-held v u n ks a b =
    let A = v None n ks in all_held A.consts (second v u n ks).consts (a None n ks) (b None A.next (ks ++ A.consts))

arith-held : (f : Option Tail) (o : Three) (v v₁ u : ValueF) → HeldV v → HeldV v₁ → HeldV u → HeldV (arith_f f o v v₁ u)
arith-held None o v v₁ u a a₁ b dst n ks = two-held v u n ks a b
arith-held (Some tail) o v v₁ u a a₁ b dst n ks = operand (takes_shift tail) None n ks
  where
    operand : (t : Bool) → HeldV (cond t v₁ v)
    operand true = a₁
    operand false = a

compare-held : (c : Cmp) (l r : Option Imm16) (v u : ValueF) → HeldV v → HeldV u → HeldB (compare_f c l r v u)
compare-held c l (Some z) v u a b sense n ks = a None n ks
compare-held c (Some z) None v u a b sense n ks = b None n ks
compare-held c None None v u a b sense n ks = two-held v u n ks a b

junc-held : (z : Bool) (x y : BranchF) → HeldB x → HeldB y → HeldB (junc_b z x y)
junc-held z x y a b sense n ks = let X = x z n ks in all_held X.consts (y sense n (ks ++ X.consts)).consts (a z n ks) (b sense n (ks ++ X.consts))

cond-held : (br : BranchF) → HeldB br → HeldV (cond_f br)
cond-held br a dst n ks =
    let X = br true (d_next dst n) ks in all_held (X.consts ++ []) [] (all_held X.consts [] (a true (d_next dst n) ks) tt) tt

tern-held : (br : BranchF) (v u : ValueF) → HeldB br → HeldV v → HeldV u → HeldV (tern_f br v u)
tern-held br v u x a b dst n ks =
    let d = d_reg dst n in
    let m = d_next dst n in
    let X = br false m ks in
    let A = into_f (v (Some d) m (ks ++ X.consts)) d m in
    let E = into_f (u (Some d) m (ks ++ X.consts ++ A.consts)) d m in
    all_held (X.consts ++ A.consts) E.consts (all_held X.consts A.consts (x false m ks) (a (Some d) m (ks ++ X.consts)))
    (b (Some d) m (ks ++ X.consts ++ A.consts))

condition-held : (br : BranchF) (v : ValueF) → HeldB br → HeldV v → HeldF (record { value = cond_f br; branch = br; first = v })
condition-held br v a b = record { values = cond-held br a; branches = a; firsts = b }

unary-held : (o : Unary) (F : Frag) → HeldF F → HeldF (unary_n o F)
unary-held minus F h = record { values = λ dst n ks. h.values None n ks; branches = λ sense n ks. h.values None n ks; firsts = h.values }
unary-held not' F h = record { values = λ dst n ks. h.values None n ks; branches = λ sense n ks. h.branches (not sense) n ks; firsts = h.values }

binary-held : (o : Binary) (x y : Tree) (F G : Frag) → HeldF F → HeldF G → HeldF (binary_n o x y F G)
binary-held (arith o) x y F G h k =
    let a = arith-held (fold_of o x y) (three_of o) F.value F.first G.value h.values h.firsts k.values in
    record { values = a; branches = λ sense n ks. a None n ks; firsts = h.values }
binary-held (cmp c) x y F G h k =
    condition-held (compare_f c (as_imm16 x) (as_imm16 y) F.value G.value) F.value (compare-held c (as_imm16 x) (as_imm16 y) F.value G.value h.values k.values) h.values
binary-held and x y F G h k =
    condition-held (junc_b false F.branch G.branch) F.value (junc-held false F.branch G.branch h.branches k.branches) h.values
binary-held or x y F G h k =
    condition-held (junc_b true F.branch G.branch) F.value (junc-held true F.branch G.branch h.branches k.branches) h.values

held : (t : Tree) → TreeHeld t → HeldF (frag t)
unfolding frag TreeHeld
held (leaf l) h = record { values = leaf-held l h; branches = λ sense n ks. leaf-held l h None n ks; firsts = leaf-held l h }
held (unary o a) h = unary-held o (frag a) (held a h)
held (binary o a b) h = binary-held o a b (frag a) (frag b) (held a h.0) (held b h.1)
held (ternary c a b) h =
    let x = held c h.0 in
    let v = tern-held (frag c).branch (frag a).value (frag b).value x.branches (held a h.1).values (held b h.2).values in
    record { values = v; branches = λ sense n ks. v None n ks; firsts = x.values }

pub frag-held : (t : Tree) → TreeHeld t → (dst : Option ℕ) (n : ℕ) (ks : List Datum) → AllHeld ((frag t).value dst n ks).consts
frag-held t h = (held t h).values

-- ---- the tree of a table of 64-bit words

abbrev KindHeld : Kind → Type 0
KindHeld (leaf_kind f) = (p : ℕ) → p < 2 ^ 64 → LeafHeld (f p)
KindHeld (unary_kind o) = Unit {0}
KindHeld (binary_kind o) = Unit {0}
KindHeld ternary_kind = Unit {0}
KindHeld no_kind = Unit {0}

abbrev KindsHeld : List Kind → Type 0
KindsHeld [] = Unit {0}
KindsHeld (k ∷ ks) = KindHeld k × KindsHeld ks

kind-held : (ks : List Kind) (i : ℕ) → KindsHeld ks → KindHeld (get_or ks i no_kind)
kind-held [] i h = tt
kind-held (k ∷ ks) zero h = h.0
kind-held (k ∷ ks) (suc i) h = kind-held ks i h.1

none : (p : ℕ) → p < 2 ^ 64 → Unit {0}
none p h = tt

kinds-held : KindsHeld kinds
kinds-held = (none, (none, (none, ((λ p h. sfits_to_z {w = w64} (record { fits = h })), ((λ p h. h), (none, (tt, (tt, (tt, (tt, (tt, (tt, (tt, (tt, (tt, (tt, (tt, (tt, (tt, (tt, (tt, (tt, (tt, (tt, (tt, (tt, (tt, tt)))))))))))))))))))))))))))

build-held :
    (k : Kind) (ws : List ℕ) (below : ℕ → Tree) (i : ℕ) → KindHeld k → ((j : ℕ) → get_or ws j 0 < 2 ^ 64) → ((j : ℕ) → TreeHeld (below j)) →
    TreeHeld (build k ws below i)
unfolding build TreeHeld
build-held (leaf_kind f) ws below i h b t = h (payload_at ws i) (b (4 * i + 1))
build-held (unary_kind o) ws below i h b t = t (child1 ws i)
build-held (binary_kind o) ws below i h b t = (t (child2 ws i), t (child1 ws i))
build-held ternary_kind ws below i h b t = (t (child3 ws i), t (child2 ws i), t (child1 ws i))
build-held no_kind ws below i h b t = tt

tree-at : (ws : List ℕ) → ((j : ℕ) → get_or ws j 0 < 2 ^ 64) → (f i : ℕ) → TreeHeld (tree_at ws f i)
unfolding tree_at TreeHeld Tree.kind_of
tree-at ws b zero i = tt
tree-at ws b (suc f) i = build-held (get_or kinds (kind_at ws i) no_kind) ws (tree_at ws f) i (kind-held kinds (kind_at ws i) kinds-held) b (tree-at ws b f)

pub tree-held : (ws : List ℕ) (i : ℕ) → ((j : ℕ) → get_or ws j 0 < 2 ^ 64) → TreeHeld (tree ws i)
unfolding tree
tree-held ws i b = tree-at ws b (depth_at ws i) i

-- ---- the slots that compiling leaves

zeros : ℕ → List ℕ
zeros n = replicate {A = ℕ} n 0

zeros-well : (a b : ℕ) → all_well (zeros a) (zeros b) ≡ true
unfolding all_well of_pair zeros
zeros-well zero b = refl
zeros-well (suc a) zero = refl
zeros-well (suc a) (suc b) = zeros-well a b

zeros-low : (n i : ℕ) → get_or (zeros n) i 0 < 2 ^ 64
unfolding zeros
zeros-low zero i = omega linear
zeros-low (suc n) zero = omega linear
zeros-low (suc n) (suc i) = zeros-low n i

left-well : (cs : List Datum) (a b : ℕ) → AllHeld cs → all_well (map kind_of cs ++ zeros a) (map payload_of cs ++ zeros b) ≡ true
unfolding all_well
left-well [] a b h = zeros-well a b
left-well (c ∷ cs) a b h = rw (Pair.pair-back c h.0) (left-well cs a b h.1)

left-low : (cs : List Datum) (b i : ℕ) → AllHeld cs → get_or (map payload_of cs ++ zeros b) i 0 < 2 ^ 64
left-low [] b i h = zeros-low b i
left-low (c ∷ cs) b zero h = payload-low c h.0
left-low (c ∷ cs) b (suc i) h = left-low cs b i h.1

left-datums : (cs : List Datum) (a b : ℕ) → AllHeld cs → datums (map kind_of cs ++ zeros a) (map payload_of cs ++ zeros b) ≡ cs ++ datums (zeros a) (zeros b)
unfolding datums
left-datums [] a b h = refl
left-datums (c ∷ cs) a b h = rw (Pair.pair-back c h.0) (ap (λ (l : List Datum). c ∷ l) (left-datums cs a b h.1))

pub left-slots : (cs : List Datum) (k p : ℕ) → AllHeld cs → Slots cs (padded (map kind_of cs) k) (padded (map payload_of cs) p)
unfolding zeros
left-slots cs k p h =
    let a = k - length (map kind_of cs) in
    let b = p - length (map payload_of cs) in
    record {
      values = record { well = left-well cs a b h; words = λ i. left-low cs b i h };
      behind = datums (zeros a) (zeros b);
      front = left-datums cs a b h;
    }
