-- Jumps that are patched later. The words of a branch are emitted with displacement 0 and their jumps are open: patched to any place behind, they are the
-- fragment's words for that place.
use Rattle.std.specs.Prelude.{Ok}
use mathlib.Core.Path.{◌≡◌, refl, sym, ap, ◌∙◌}
use mathlib.Core.Bool.{Bool, true, false, cond}
use mathlib.Core.List.{List, [], ◌∷◌, ◌++◌, append_assoc}
use Prim.Native.Nat.{ℕ, suc, ◌+◌, ◌-◌, ◌≤◌, ◌<◌}
use native.Mathlib.Omega.{arith}
use lib.IntN.{ℤ, pos, negsuc}
use lib.ListN.{length, length-append}
use lib.Seq.{get_or_at, set_at}
use borrow.Author.Tests.{lt-ltb, le-ltb}
use Rattle.insns.specs.Insns.{made_of}
use Rattle.decode.specs.declared.patch.Branch.{Branch}
use Rattle.decode.specs.Patch.{difference, aimed_made, aim_word, Patching, is_done, patch_of, patch_all}
use Rattle.decode.specs.Aim.{branch_by}
use Rattle.decode.proofs.patch.Facts.{aim-branch}
use Rattle.claim.proofs.fragments.Frag.{aimed}
use Rattle.claim.proofs.fragments.Fits.{word, made, reads, far, BranchFits, branch_fits}

-- patching went through, and left these words
abbrev pub patched : List ℕ → Patching
patched ws = record { answer = (Ok tt); words = ws }

-- ---- one patch

past : (p k : ℕ) → difference p (suc p + k) ≡ pos k
past p k =
    ap (λ (t : Bool). cond t (negsuc (suc p - suc (suc p + k))) (pos (suc p + k - suc p))) (le-ltb (suc p + k) (suc p) (omega arith))
    ∙ ap pos (omega arith)

aim : (b : Branch) (p k : ℕ) → BranchFits b → k < far → aim_word (word (aimed b 0)) p (suc p + k) ≡ Ok (word (aimed b k))
aim b p k h hk =
    aim-branch (word (aimed b 0)) p (suc p + k) b (record { by = pos 0 }) (reads (branch_fits b h 0 (omega arith)))
    ∙ ap (λ (z : ℤ). aimed_made (made_of (branch_by b (record { by = z })))) (past p k)
    ∙ ap aimed_made (made (branch_fits b h k hk))

pub patch-one :
    (pre : List ℕ) (b : Branch) (post : List ℕ) (target p k : ℕ) → BranchFits b → length pre ≡ p → target ≡ suc p + k → k < far →
    patch_of (pre ++ word (aimed b 0) ∷ post) p target ≡ patched (pre ++ word (aimed b k) ∷ post)
unfolding patch_of
patch-one pre b post target p k h e f near =
    let w = word (aimed b 0) in
    let ws = pre ++ w ∷ post in
    let inside : p < length ws = omega (arith, length-append pre (w ∷ post)) in
    rw (lt-ltb p (length ws) inside, get_or_at pre w post 0 p e, f, aim b p k h near) (ap patched (set_at pre w post (word (aimed b k)) p e))

-- a list with one position
pub patch-last : (ws ws' : List ℕ) (p target : ℕ) → patch_of ws p target ≡ patched ws' → patch_all ws (p ∷ []) target ≡ patched ws'
unfolding patch_all
patch-last ws ws' p target e = rw e refl

-- two lists, one after the other
go_on :
    (b : Bool) (x : Patching) (ws' : List ℕ) (f g r : Patching) → is_done x.answer ≡ b → (f ≡ patched ws' → g ≡ r) → cond b f x ≡ patched ws' →
    cond b g x ≡ r
go_on true x ws' f g r w h e = h e
go_on false x ws' f g r w h e =
    let d : is_done x.answer ≡ true = ap (λ (y : Patching). is_done y.answer) e in
    let z : ◌≡◌ {A = ℕ} 0 1 = cc in absurd (omega arith)

pub patch-both : (js ks : List ℕ) (ws ws' : List ℕ) (target : ℕ) → patch_all ws js target ≡ patched ws' → patch_all ws (js ++ ks) target ≡ patch_all ws' ks target
unfolding patch_all
patch-both [] ks ws ws' target e = ap (λ (x : Patching). patch_all x.words ks target) e
patch-both (j ∷ js) ks ws ws' target e =
    let x = patch_of ws j target in
    go_on (is_done x.answer) x ws' (patch_all x.words js target) (patch_all x.words (js ++ ks) target) (patch_all ws' ks target) refl
    (λ h. patch-both js ks x.words ws' target h) e

-- ---- jumps to be patched

-- With c before them, the words F₀ have their open jumps at J: patched to the place k words past the end, they are F k.
-- `fix` holds with other words before and behind, so that the jumps can be patched at any later time.
pub record Open (c F₀ : List ℕ) (F : ℕ → List ℕ) (J : List ℕ) : Type 0 where
  pub size : (k : ℕ) → length (F k) ≡ length F₀
  pub fix :
      (c' more : List ℕ) (k target : ℕ) → length c' ≡ length c → target ≡ length c + length F₀ + k → length F₀ + k ≤ far →
      patch_all (c' ++ (F₀ ++ more)) J target ≡ patched (c' ++ (F k ++ more))

-- operands' words A and one branch
pub leap-open :
    (c A : List ℕ) (b : Branch) → BranchFits b → Open c (A ++ word (aimed b 0) ∷ []) (λ k. A ++ word (aimed b k) ∷ []) (length (c ++ A) ∷ [])
leap-open c A b h =
    record {
      size = λ k. length-append A (word (aimed b k) ∷ []) ∙ sym (length-append A (word (aimed b 0) ∷ []));
      fix =
          λ c' more k target e t near.
          let w = word (aimed b 0) in
          let v = word (aimed b k) in
          let l : length (c' ++ A) ≡ length (c ++ A) = omega (arith, length-append c' A, length-append c A) in
          let u : target ≡ suc (length (c ++ A)) + k = omega (arith, length-append A (w ∷ []), length-append c A) in
          let x : c' ++ (A ++ w ∷ [] ++ more) ≡ c' ++ A ++ w ∷ more = simp append_assoc in
          let y : c' ++ A ++ v ∷ more ≡ c' ++ (A ++ v ∷ [] ++ more) = simp append_assoc in
          ap (λ (ws : List ℕ). patch_all ws (length (c ++ A) ∷ []) target) x
          ∙ patch-last (c' ++ A ++ w ∷ more) (c' ++ A ++ v ∷ more) (length (c ++ A)) target
          (patch-one (c' ++ A) b more target (length (c ++ A)) k h l u (omega (arith, length-append A (w ∷ []))))
          ∙ ap patched y;
    }

-- both sides' jumps go to one place
pub out-open :
    (c A₀ B₀ : List ℕ) (A B : ℕ → List ℕ) (J K : List ℕ) → Open c A₀ A J → Open (c ++ A₀) B₀ B K →
    Open c (A₀ ++ B₀) (λ k. A (length (B k) + k) ++ B k) (J ++ K)
out-open c A₀ B₀ A B J K a b =
    record {
      size = λ k. omega (arith, length-append (A (length (B k) + k)) (B k), length-append A₀ B₀, a.size (length (B k) + k), b.size k);
      fix =
          λ c' more k target e t near.
          let A' = A (length (B k) + k) in
          let l : length (c' ++ A') ≡ length (c ++ A₀) = omega (arith, length-append c' A', length-append c A₀, a.size (length (B k) + k)) in
          let u : target ≡ length c + length A₀ + (length (B k) + k) = omega (arith, length-append A₀ B₀, b.size k) in
          let v : target ≡ length (c ++ A₀) + length B₀ + k = omega (arith, length-append A₀ B₀, length-append c A₀) in
          let x : c' ++ (A₀ ++ B₀ ++ more) ≡ c' ++ (A₀ ++ (B₀ ++ more)) = simp append_assoc in
          let y : c' ++ (A' ++ (B₀ ++ more)) ≡ c' ++ A' ++ (B₀ ++ more) = simp append_assoc in
          let z : c' ++ A' ++ (B k ++ more) ≡ c' ++ (A' ++ B k ++ more) = simp append_assoc in
          ap (λ (ws : List ℕ). patch_all ws (J ++ K) target) x
          ∙ patch-both J K (c' ++ (A₀ ++ (B₀ ++ more))) (c' ++ (A' ++ (B₀ ++ more))) target
          (a.fix c' (B₀ ++ more) (length (B k) + k) target e u (omega (arith, length-append A₀ B₀, b.size k)))
          ∙ ap (λ (ws : List ℕ). patch_all ws K target) y
          ∙ b.fix (c' ++ A') more k target l v (omega (arith, length-append A₀ B₀))
          ∙ ap patched z;
    }

-- the left side's jumps are patched to the end, the right side's stay open
pub skip-code :
    (c A₀ B₀ : List ℕ) (A : ℕ → List ℕ) (J : List ℕ) → Open c A₀ A J → length A₀ + length B₀ ≤ far →
    patch_all (c ++ A₀ ++ B₀) J (length (c ++ A₀ ++ B₀)) ≡ patched (c ++ (A (length B₀) ++ B₀))
skip-code c A₀ B₀ A J a near =
    ap (λ (ws : List ℕ). patch_all ws J (length (c ++ A₀ ++ B₀))) (append_assoc c A₀ B₀)
    ∙ a.fix c B₀ (length B₀) (length (c ++ A₀ ++ B₀)) refl (omega (arith, length-append (c ++ A₀) B₀, length-append c A₀)) near

pub skip-open :
    (c A₀ B₀ : List ℕ) (A B : ℕ → List ℕ) (J K : List ℕ) → Open c A₀ A J → Open (c ++ A₀) B₀ B K →
    Open c (A (length B₀) ++ B₀) (λ k. A (length (B k) + 0) ++ B k) K
skip-open c A₀ B₀ A B J K a b =
    record {
      size =
          λ k.
          omega
          (arith, length-append (A (length (B k) + 0)) (B k), length-append (A (length B₀)) B₀, a.size (length (B k) + 0), a.size (length B₀), b.size k);
      fix =
          λ c' more k target e t near.
          let A' = A (length B₀) in
          let l : length (c' ++ A') ≡ length (c ++ A₀) = omega (arith, length-append c' A', length-append c A₀, a.size (length B₀)) in
          let v : target ≡ length (c ++ A₀) + length B₀ + k = omega (arith, length-append A' B₀, length-append c A₀, a.size (length B₀)) in
          let x : c' ++ (A' ++ B₀ ++ more) ≡ c' ++ A' ++ (B₀ ++ more) = simp append_assoc in
          let z : c' ++ A' ++ (B k ++ more) ≡ c' ++ (A' ++ B k ++ more) = simp append_assoc in
          let w : length B₀ ≡ length (B k) + 0 = omega (arith, b.size k) in
          ap (λ (ws : List ℕ). patch_all ws K target) x
          ∙ b.fix (c' ++ A') more k target l v (omega (arith, length-append A' B₀))
          ∙ ap patched (z ∙ ap (λ (m : ℕ). c' ++ (A m ++ B k ++ more)) w);
    }

-- a test, words for one side, a jump over the other side: the test's jumps are patched; then the other side, and that jump is
pub fix-test :
    (c X₀ : List ℕ) (X : ℕ → List ℕ) (J A : List ℕ) → Open c X₀ X J → length X₀ + suc (length A) ≤ far →
    let j = word (aimed Branch.Jmp 0) in
    let c₂ = c ++ X₀ ++ A ++ j ∷ [] in patch_all c₂ J (length c₂) ≡ patched (c ++ X (suc (length A)) ++ A ++ j ∷ [])
fix-test c X₀ X J A x near =
    let X' = X (suc (length A)) in
    let j = word (aimed Branch.Jmp 0) in
    let c₂ = c ++ X₀ ++ A ++ j ∷ [] in
    let l₂ : length c₂ ≡ length c + length X₀ + suc (length A) =
    omega (arith, length-append (c ++ X₀ ++ A) (j ∷ []), length-append (c ++ X₀) A, length-append c X₀) in
    let e₂ : c₂ ≡ c ++ (X₀ ++ (A ++ j ∷ [])) = simp append_assoc in
    let e₃ : c ++ (X' ++ (A ++ j ∷ [])) ≡ c ++ X' ++ A ++ j ∷ [] = simp append_assoc in
    ap (λ (ws : List ℕ). patch_all ws J (length c₂)) e₂ ∙ x.fix c (A ++ j ∷ []) (suc (length A)) (length c₂) refl l₂ near ∙ ap patched e₃

pub fix-over :
    (c X₀ : List ℕ) (X : ℕ → List ℕ) (J A B : List ℕ) → Open c X₀ X J → length B < far →
    let c₄ = c ++ X (suc (length A)) ++ A ++ word (aimed Branch.Jmp 0) ∷ [] ++ B in
    patch_of c₄ (length (c ++ X₀ ++ A)) (length c₄) ≡ patched (c ++ (X (suc (length A)) ++ (A ++ word (aimed Branch.Jmp (length B)) ∷ B)))
fix-over c X₀ X J A B x near =
    let X' = X (suc (length A)) in
    let j = word (aimed Branch.Jmp 0) in
    let j' = word (aimed Branch.Jmp (length B)) in
    let c₁ = c ++ X₀ ++ A in
    let c₄ = c ++ X' ++ A ++ j ∷ [] ++ B in
    let l₁ : length c₁ ≡ length c + length X₀ + length A = omega (arith, length-append (c ++ X₀) A, length-append c X₀) in
    let e : length (c ++ X' ++ A) ≡ length c₁ = omega (arith, length-append (c ++ X') A, length-append c X', x.size (suc (length A))) in
    let f : c₄ ≡ c ++ X' ++ A ++ j ∷ B = simp append_assoc in
    let g : c ++ X' ++ A ++ j' ∷ B ≡ c ++ (X' ++ (A ++ j' ∷ B)) = simp append_assoc in
    let t : length c₄ ≡ suc (length c₁) + length B = ap length f ∙ omega (arith, length-append (c ++ X' ++ A) (j ∷ B)) in
    ap (λ (ws : List ℕ). patch_of ws (length c₁) (length c₄)) f
    ∙ patch-one (c ++ X' ++ A) Branch.Jmp B (length c₄) (length c₁) (length B) tt e t near
    ∙ ap patched g
