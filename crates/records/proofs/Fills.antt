-- The words hold the records, one after the other, and then what stood there. So what is said of those words is said of the records.
--     flat-put         the next record is put after those before it
--     copied, kept     the words where there is room for all the records, and where there is not
--     prefix           the records' part of the words
--     length-flattened     the words stay as many
--     prefix-is        what is asked of that part, once the room was looked at, is asked of the records
--     check-is, evaluate-is, compile-is     so what is said of that part is said of the records
--     check-refused, evaluate-refused, compile-refused     and what is said of a refusal
--     same_number, same_answer, same-compile     with room for the records, however many they are, all are the word table's
use Rattle.std.specs.Prelude.{Option, None, Ok, Err}
use Prim.Native.Nat.{ℕ, ◌+◌, ◌*◌, ◌/◌, ◌%◌, ◌≤◌, ◌<◌, min}
use native.Mathlib.Numerals.{add-one}
use native.Mathlib.Omega.{arith}
use mathlib.Core.Path.{◌≡◌, refl, sym, ◌∙◌, ap}
use mathlib.Core.Bool.{Bool, true, false, not}
use mathlib.Core.List.{List, [], ◌∷◌, ◌++◌}
use lib.Dec.{ltb, eqb}
use lib.ListN.{length, get_or, take, drop, length-append, length-drop}
use lib.Seq.{take-suc, length-take-le, take-append_seam}
use borrow.Author.Tests.{lt-ltb, ltb-true, ltb-false}
use borrow.Rule.Slice.PartMut.{put_mid}
use Rattle.std.proofs.lemmas.Slice.{put_mid-paste, drop-append-drop}
use Rattle.faults.specs.declared.Fault.{Fault}
use Rattle.faults.specs.Faults.{Checked, fault, ◌or_else◌}
use Rattle.faults.specs.Limits.{max_nodes}
use Rattle.faults.specs.Numbers.{bad_shape}
use Rattle.table.specs.Table.{shape_fault, check_of}
use Rattle.value.specs.Answer.{fault as faulted}
use Rattle.eval.specs.Evaluate.{unless, evaluate_of}
use Rattle.emit.specs.State.{fail}
use Rattle.compile.specs.Compile.{accepted, compile_of}
use Rattle.records.specs.Records.{room_fault, words_of, compile_nodes, flat, holding, flattened, check_nodes, evaluate_nodes}
use Rattle.records.specs.declared.Node.{Node}
use Rattle.records.proofs.Laws.{many, fits, has_room}

-- ---- the words of the records

length-flat : (ds : List Node) → length (flat ds) ≡ 4 * length ds
unfolding flat
length-flat [] = refl
length-flat (d ∷ ds) = let rest : length (flat ds) ≡ 4 * length ds = length-flat ds in omega arith

flat-more : (ds : List Node) (d : Node) → flat (ds ++ d ∷ []) ≡ flat ds ++ words_of d
unfolding flat
flat-more [] d = refl
flat-more (x ∷ ds) d = ap (λ (us : List ℕ). x.kind ∷ x.payload ∷ x.first ∷ x.depth ∷ us) (flat-more ds d)

pub flat-put : (ds : List Node) (ws : List ℕ) (i : ℕ) (x : Node) (k : ℕ) (ys : List ℕ) → i < length ds → ys ≡ words_of (get_or ds i x) → k ≡ 4 →
    put_mid (4 * i) k (flat (take i ds) ++ drop (4 * i) ws) ys ≡ flat (take (i + 1) ds) ++ drop (4 * (i + 1)) ws
flat-put ds ws i x k ys h e q =
    let d = get_or ds i x in
    let f = flat (take i ds) in
    let l : length f ≡ 4 * i = length-flat (take i ds) ∙ ap (λ (n : ℕ). 4 * n) (length-take-le i ds (omega arith)) in
    let m : flat (take (i + 1) ds) ≡ f ++ words_of d = ap (λ (n : ℕ). flat (take n ds)) (add-one i) ∙ ap flat (take-suc ds i x h) ∙ flat-more (take i ds) d in
    let n : 4 * (i + 1) ≡ 4 * i + 4 = omega arith in
    let t : take (4 * i) (f ++ drop (4 * i) ws) ≡ f = ap (λ (n : ℕ). take n (f ++ drop (4 * i) ws)) (sym l) ∙ take-append_seam f _ in
    put_mid-paste (4 * i) k _ ys (words_of d) 4 e (sym q) refl
    ∙ rw (t, drop-append-drop (4 * i) ws f (4 * i + 4) (omega arith) l, m, n)

module _ (ds : List Node) (ws : List ℕ) where
  pub copied : Ok tt ≡ room_fault (length ds) (length ws) → flat ds ++ drop (4 * length ds) ws ≡ flattened ds ws
  unfolding flattened holding
  copied e = rw (← e)

  pub kept : {f : Fault} → Err f ≡ room_fault (length ds) (length ws) → ws ≡ flattened ds ws
  unfolding flattened holding
  kept e = rw (← e)

  pub prefix : Ok tt ≡ room_fault (length ds) (length ws) → {us : List ℕ} → us ≡ flattened ds ws → take (4 * length ds) us ≡ flat ds
  prefix e u =
      rw (u, ← copied e) (ap (λ (n : ℕ). take n (flat ds ++ drop (4 * length ds) ws)) (sym (length-flat ds)) ∙ take-append_seam (flat ds) _)

-- the words stay as many, whether the records were put or refused
pub length-flattened : (ds : List Node) (ws : List ℕ) → length (flattened ds ws) ≡ length ws
length-flattened ds ws = by-fault (room_fault (length ds) (length ws)) refl
  where
    by-fault : (f : Checked) → f ≡ room_fault (length ds) (length ws) → length (flattened ds ws) ≡ length ws
    by-fault (Ok tt) e =
        let r = has_room (length ds) (length ws) e in
        let l = length-flat ds in
        let m = length-append (flat ds) (drop (4 * length ds) ws) in
        let n = length-drop (4 * length ds) ws in
        sym (ap length (copied ds ws e)) ∙ omega (arith, r, l, m, n)
    by-fault (Err f) e = ap length (sym (kept ds ws e))

-- Whatever is asked of a table once the room was looked at: of the prefix and of the records it is the same. A refusal (`stop`) does not look at the table.
module _ {A : Type 0} (guard : Checked → A → A) (stop : (f : Fault) (x y : A) → guard (Err f) x ≡ guard (Err f) y) (ask : List ℕ → A) (ds : List Node) (ws : List ℕ) where
  pub prefix-is : guard (room_fault (length ds) (length (flattened ds ws))) (ask (take (4 * length ds) (flattened ds ws))) ≡ guard (room_fault (length ds) (length ws)) (ask (flat ds))
  prefix-is = rw (length-flattened ds ws) (by-fault (room_fault (length ds) (length ws)) refl)
    where
      by-fault : (f : Checked) → f ≡ room_fault (length ds) (length ws) → guard f (ask (take (4 * length ds) (flattened ds ws))) ≡ guard f (ask (flat ds))
      by-fault (Ok tt) e = ap (λ (us : List ℕ). guard (Ok tt) (ask us)) (prefix ds ws e refl)
      by-fault (Err f) e = stop f _ _

-- ---- with the words that are lent there is room (e), and they hold the records (u), or there is none

module _ (ds : List Node) (ws : List ℕ) (e : Ok tt ≡ room_fault (length ds) (length ws)) {us : List ℕ} (u : us ≡ flattened ds ws) where
  there : room_fault (length ds) (length (flattened ds ws)) ≡ Ok tt
  there = ap (room_fault (length ds)) (length-flattened ds ws) ∙ sym e

  asked : {A : Type 0} (guard : Checked → A → A) → ((f : Fault) (x y : A) → guard (Err f) x ≡ guard (Err f) y) → (ask : List ℕ → A) →
      guard (Ok tt) (ask (take (4 * length ds) us)) ≡ guard (room_fault (length ds) (length ws)) (ask (flat ds))
  asked guard stop ask =
      rw u (sym (ap (λ (f : Checked). guard f (ask (take (4 * length ds) (flattened ds ws)))) there) ∙ prefix-is guard stop ask ds ws)

  pub check-is : (p l : ℕ) (dest : Option ℕ) → check_of (take (4 * length ds) us) p l dest ≡ check_nodes ds (length ws) p l dest
  unfolding check_nodes ◌or_else◌
  check-is p l dest = asked ◌or_else◌ (λ f x y. refl) (λ us. check_of us p l dest)

  pub evaluate-is : (p l : ℕ) (ks ps : List ℕ) → evaluate_of (take (4 * length ds) us) p l ks ps ≡ evaluate_nodes ds (length ws) p l ks ps
  unfolding evaluate_nodes unless
  evaluate-is p l ks ps = asked unless (λ f x y. refl) (λ us. evaluate_of us p l ks ps)

  pub compile-is : (p l : ℕ) (dest : Option ℕ) (c k q : ℕ) →
      compile_of (take (4 * length ds) us) p l dest max_nodes c (min k q) ≡ compile_nodes ds (length ws) p l dest c k q
  unfolding compile_nodes
  compile-is p l dest c k q = asked accepted (λ f x y. refl) (λ us. compile_of us p l dest max_nodes c (min k q))

module _ (ds : List Node) (m : ℕ) where
  module _ {f : Fault} (e : Err f ≡ room_fault (length ds) m) where
    pub check-refused : (p l : ℕ) (dest : Option ℕ) → Err f ≡ check_nodes ds m p l dest
    unfolding check_nodes ◌or_else◌
    check-refused p l dest = rw (← e)

    pub evaluate-refused : (p l : ℕ) (ks ps : List ℕ) → faulted f ≡ evaluate_nodes ds m p l ks ps
    unfolding evaluate_nodes unless
    evaluate-refused p l ks ps = rw (← e)

    pub compile-refused : (p l : ℕ) (dest : Option ℕ) (c k q : ℕ) → fail f ≡ compile_nodes ds m p l dest c k q
    unfolding compile_nodes
    compile-refused p l dest c k q = rw (← e)

-- ---- the word table's answers

-- one number is below another, or it is not
either : {X : Type 0} (i n : ℕ) → (i < n → X) → (n ≤ i → X) → X
either {X} i n yep nope = go (ltb i n) refl
  where
    go : (t : Bool) → ltb i n ≡ t → X
    go true e = yep (ltb-true i n e)
    go false e = nope (ltb-false i n e)

one_of_three : (a b c : Bool) → c ≡ true → fault a bad_shape or_else fault b bad_shape or_else fault c bad_shape ≡ Err bad_shape
unfolding fault ◌or_else◌
one_of_three true b c e = refl
one_of_three false true c e = refl
one_of_three false false c e = rw e refl

-- a table of too many records has too many nodes
too_many : (ds : List Node) (p l : ℕ) (dest : Option ℕ) → max_nodes < length ds → check_of (flat ds) p l dest ≡ Err bad_shape
unfolding check_of shape_fault ◌or_else◌
too_many ds p l dest m = rw (one_of_three (eqb (length (flat ds)) 0) (not (eqb (length (flat ds) % 4) 0)) (ltb max_nodes (length (flat ds) / 4))
    (lt-ltb max_nodes (length (flat ds) / 4) (let all : length (flat ds) ≡ 4 * length ds = length-flat ds in omega (arith, all, m)))) refl

module _ (ds : List Node) (words p l : ℕ) (room : length ds ≤ words / 4) where
  pub same_number : (dest : Option ℕ) → check_nodes ds words p l dest ≡ check_of (flat ds) p l dest
  unfolding check_nodes ◌or_else◌
  same_number dest = either max_nodes (length ds)
      (λ m. rw (sym (many (length ds) words m)) (sym (too_many ds p l dest m)))
      (λ n. rw (sym (fits (length ds) words n room)) refl)

  pub same_answer : (ks ps : List ℕ) → evaluate_nodes ds words p l ks ps ≡ evaluate_of (flat ds) p l ks ps
  unfolding evaluate_nodes evaluate_of unless ◌or_else◌
  same_answer ks ps = either max_nodes (length ds)
      (λ m. rw (sym (many (length ds) words m), too_many ds p l None m) refl)
      (λ n. rw (sym (fits (length ds) words n room)) refl)

  pub same-compile : (dest : Option ℕ) (c k q : ℕ) → compile_nodes ds words p l dest c k q ≡ compile_of (flat ds) p l dest max_nodes c (min k q)
  unfolding compile_nodes compile_of
  same-compile dest c k q = either max_nodes (length ds)
      (λ m. rw (sym (many (length ds) words m), too_many ds p l dest m) refl)
      (λ n. rw (sym (fits (length ds) words n room)) refl)
