-- What is left behind: zeros after a place.
use Rattle.std.specs.Prelude.{Ok}
use mathlib.Core.Path.{◌≡◌, refl, sym, ap, ◌∙◌}
use mathlib.Core.List.{List, [], ◌++◌, append-nil}
use Prim.Native.Nat.{ℕ, ◌-◌, ◌≤◌}
use native.Mathlib.Omega.{arith}
use lib.ListN.{length, take, drop, replicate, length-drop, drop_of_length-le}
use lib.Seq.{take_all, length-take-le}
use borrow.Rule.Slice.PartMut.{put_mid}
use Rattle.emit.specs.declared.state.St.{St}
use Rattle.emit.specs.State.{done}
use Rattle.emit.specs.Read.{bufs, st_of, Fit}
use Rattle.emit.proofs.ConstLaws.{slots-are}
use Rattle.compile.specs.Buffers.{padded, Compiles}
use Rattle.compile.specs.Parts.{zeroed}

-- what a fill with zeros leaves of a list from a place on
zero-filled : (n : ℕ) (old : List ℕ) {ys : List ℕ} → n ≤ length old → ys ≡ replicate {A = ℕ} (length (take (length old - n) (drop n old))) 0 → put_mid n (length old - n) old ys ≡ zeroed n old
zero-filled n old {ys} h e =
    let l : length (drop n old) ≡ length old - n = length-drop n old in
    let t : take (length old - n) (drop n old) ≡ drop n old = take_all (length old - n) (drop n old) (omega arith) in
    let d : drop (length old - n) (drop n old) ≡ [] = drop_of_length-le (drop n old) (omega arith) in
    rw (d, e, t, l, append-nil)

-- zeros after n places are zeros after those places' list
padded-is : (n : ℕ) (old : List ℕ) {now xs : List ℕ} {m : ℕ} → now ≡ zeroed n old → take n old ≡ xs → n ≤ length old → length old ≡ m → now ≡ padded xs m
padded-is n old {now} {xs} {m} z e h l =
    let k : length xs ≡ n = ap (λ (q : List ℕ). length q) (sym e) ∙ length-take-le n old h in
    z ∙ ap (λ (q : List ℕ). q ++ replicate {A = ℕ} (length old - n) 0) e ∙ ap (λ (q : ℕ). xs ++ replicate {A = ℕ} (q - n) 0) l ∙ ap (λ (q : ℕ). xs ++ replicate {A = ℕ} (m - q) 0) (sym k)

-- zeros in a list from a place on
abbrev pub Zeros : (n : ℕ) (old ys : List ℕ) → Type 0
Zeros n old ys = ((y : ℕ) → y ≡ 0 → y ≡ 0) → ys ≡ replicate {A = ℕ} (length (take (length old - n) (drop n old))) 0

pub finished : {c k p : List ℕ} {s : St} → Fit (bufs c k p) s → {c2 k2 p2 : List ℕ} → Zeros s.count c c2 → Zeros s.slots k k2 → Zeros s.slots p p2 → (r : ℕ) →
    Compiles (Ok (record { words = s.count; slots = s.slots; register = r; frame = s.frame })) (done (r, st_of (bufs c k p) s))
    (put_mid s.count (length c - s.count) c c2) (put_mid s.slots (length k - s.slots) k k2) (put_mid s.slots (length p - s.slots) p p2) (length c) (length k) (length p)
finished {c} {k} {p} {s} fit cz kz pz r =
    let n : length (take s.count c) ≡ s.count = length-take-le s.count c fit.words in
    let h = fit.consts in
    record {
      answer = rw (n, slots-are h);
      words = padded-is s.count c (zero-filled s.count c fit.words (cz (λ y e. e))) refl fit.words refl;
      slot_kinds = padded-is s.slots k (zero-filled s.slots k h.in_kinds (kz (λ y e. e))) h.as_kinds h.in_kinds refl;
      slot_payloads = padded-is s.slots p (zero-filled s.slots p h.in_payloads (pz (λ y e. e))) h.as_payloads h.in_payloads refl;
    }
