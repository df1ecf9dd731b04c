-- What each return of the code tells, over plain variables. Assumes nothing.
use Rattle.std.specs.Prelude.{Result, Ok, Err}
use mathlib.Core.Path.{◌≡◌, refl, sym, ap, ap₂, ◌∙◌}
use mathlib.Core.List.{List}
use mathlib.Core.Logic.{⊎_elim}
use Prim.Native.Nat.{ℕ, zero, suc, ◌+◌, ◌-◌, ◌^◌, ◌≤◌, ◌<◌}
use native.Mathlib.Omega.{arith}
use lib.ListN.{length}
use lib.Seq.{sets, length-sets}
use lib.Dec.{leb}
use borrow.Author.Tests.{leb-true}
use Rattle.numbers.specs.Number.{be, bytes}
use Rattle.numbers.specs.declared.Refusal.TheVariants as refusal
use Rattle.numbers.specs.declared.Refusal.{Refusal}
use Rattle.numbers.proofs.Laws.{length-bytes}
use Rattle.numbers.proofs.Chain.{whole, field-way, way, is_le, not-le, is_lt, not-lt}
use Rattle.put.specs.Put.{wrote, placed, put_of}
use Rattle.put.proofs.Placed.{done, has_room, no-sum, no_room}
use Rattle.put.proofs.Stores.{sets-append}
use Rattle.sets.specs.Sets.{one_of, onward, end_of, set_bytes, set_in}

-- ONE SET

module _ (s : List ℕ) (at n : ℕ) (h : (at + 2 ≤ length s) × (n ≡ be 2 s at)) where
  pub one-short : length s - (at + 2) < n → Err (refusal.Cut (at + 2)) ≡ one_of s at
  one-short l = whole 2 s at Err _ _ n h.0 h.1 (not-le _ _ _ (at + 2 + n) (length s) (omega (arith, h.0, l)) refl)

  pub one-whole : n ≤ length s - (at + 2) → Ok (at + 2 + n) ≡ one_of s at
  one-whole l = whole 2 s at Err _ _ n h.0 h.1 (is_le _ _ _ (at + 2 + n) (length s) (omega (arith, h.0, l)) refl)

-- a set that is whole ends in the bytes, so many bytes behind its length
pub one_way : (s : List ℕ) (at e : ℕ) → one_of s at ≡ Ok e → (at + 2 ≤ length s) × (e ≡ at + 2 + be 2 s at) × (e ≤ length s)
one_way s at e h =
    ⊎_elim
    (λ y. ⊎_elim
    (λ v.
    let q : e ≡ at + 2 + be 2 s at = cc v.1 in
    (y.0, q, omega (arith, q, leb-true (at + 2 + be 2 s at) (length s) v.0)))
    (λ v. refused _ v.1)
    (way (leb (at + 2 + be 2 s at) (length s)) _ _ _ y.1))
    (λ y. refused _ y.1)
    (field-way 2 s at Err _ _ h)
  where
    refused : (q : Refusal) → ◌≡◌ {A = Result ℕ Refusal} (Err q) (Ok e) → (at + 2 ≤ length s) × (e ≡ at + 2 + be 2 s at) × (e ≤ length s)
    refused q r = let z : ◌≡◌ {A = ℕ} 0 1 = cc r in absurd (omega arith)

-- SETS ONE AFTER THE OTHER

pub stopped : (s : List ℕ) (p left : ℕ) (q : Refusal) → 0 < left → one_of s p ≡ Err q → Err q ≡ end_of left s p
unfolding end_of
stopped s p zero q h e = absurd (omega arith)
stopped s p (suc n) q h e = ap (onward (end_of n s)) (sym e)

pub stepped : (s : List ℕ) (p left e : ℕ) → 0 < left → one_of s p ≡ Ok e → end_of (left - 1) s e ≡ end_of left s p
unfolding end_of
stepped s p zero e h q = absurd (omega arith)
stepped s p (suc n) e h q = ap (λ k. end_of k s e) (let z : suc n - 1 ≡ n = omega arith in z) ∙ ap (onward (end_of n s)) (sym q)

pub none_left : (s : List ℕ) (p left : ℕ) → left ≡ 0 → Ok p ≡ end_of left s p
unfolding end_of
none_left s p left e = ap (λ k. end_of k s p) (sym e)

-- WRITING A SET

module _ (x buf : List ℕ) (at : ℕ) where
  pub too_long : 65535 < length x → wrote (Err refusal.Unwritable) buf ≡ set_in x at buf
  too_long h = not-lt _ _ _ (length x) (2 ^ 16) (omega arith) refl

  module _ (h : length x ≤ 65535) where
    pub past-sum : length buf < 2 ^ 64 → 18446744073709551615 - 2 - length x < at → wrote (Err refusal.Overflow) buf ≡ set_in x at buf
    past-sum l b = is_lt _ _ _ (length x) (2 ^ 16) (omega arith) (no-sum (set_bytes x) (2 + length x) at buf l (omega arith))

    pub too_small : at ≤ 18446744073709551615 - 2 - length x → length buf < at + 2 + length x → wrote (Err (refusal.TooSmall (at + 2 + length x))) buf ≡ set_in x at buf
    too_small b l =
        is_lt _ _ _ (length x) (2 ^ 16) (omega arith)
        (ap (λ n. wrote (Err (refusal.TooSmall n)) buf) (let z : at + 2 + length x ≡ at + (2 + length x) = omega arith in z)
        ∙ no_room (set_bytes x) (2 + length x) at buf (omega arith) (omega arith))

    module _ (r : at + 2 + length x ≤ length buf) (b1 : List ℕ) (p : Result ℕ Refusal) (e1 : wrote p b1 ≡ put_of 2 (length x) at buf) where
      length-there : wrote p b1 ≡ wrote (Ok (at + 2)) (sets buf at (bytes 2 (length x)))
      length-there = e1 ∙ sym (done 2 (length x) at buf (omega arith) (omega arith) (omega arith))

      -- the length has room
      pub not-refused : (q : Refusal) → p ≡ Err q → ⊥
      not-refused q f = let z : ◌≡◌ {A = ℕ} 0 1 = cc (length-there, f) in omega arith

      pub all-put : (b2 : List ℕ) (q : Result ℕ Refusal) → wrote q b2 ≡ placed x (length x) (at + 2) b1 → wrote q b2 ≡ set_in x at buf
      all-put b2 q e2 =
          let n = length x in
          let l : length (bytes 2 n) ≡ 2 = length-bytes 2 n in
          let f1 : b1 ≡ sets buf at (bytes 2 n) = cc length-there in
          let l1 : length b1 ≡ length buf = ap length f1 ∙ length-sets buf at (bytes 2 n) in
          let g : sets b1 (at + 2) x ≡ sets buf at (set_bytes x) =
          ap₂ (λ (b : List ℕ) (k : ℕ). sets b k x) f1 (let z : at + 2 ≡ at + length (bytes 2 n) = omega (arith, l) in z) ∙ sets-append buf at (bytes 2 n) x in
          is_lt _ _ _ (length x) (2 ^ 16) (omega arith)
          (e2 ∙ sym (has_room x n (at + 2) b1 (omega (arith, l1)))
          ∙ ap₂ (λ (k : ℕ) (b : List ℕ). wrote (Ok k) b) (let z : at + 2 + n ≡ at + (2 + n) = omega arith in z) g
          ∙ has_room (set_bytes x) (2 + n) at buf (omega arith))
