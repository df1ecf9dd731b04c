-- A header that is found lies within its box, and the box within its parent. Assumes nothing.
use Rattle.std.specs.Prelude.{Result, Ok, Err}
use mathlib.Core.Path.{◌≡◌, refl}
use mathlib.Core.List.{List}
use mathlib.Core.Bool.{Bool}
use mathlib.Core.Logic.{⊎_elim}
use Prim.Native.Nat.{ℕ, ◌+◌, ◌-◌, ◌≤◌, ◌<◌}
use native.Mathlib.Omega.{arith}
use lib.ListN.{length}
use lib.Dec.{ltb, eqb}
use borrow.Author.Tests.{ltb-false}
use Rattle.numbers.specs.Number.{be}
use Rattle.numbers.specs.Field.{when, field}
use Rattle.numbers.specs.declared.Refusal.{Refusal}
use Rattle.numbers.proofs.Chain.{way, field-way}
use Rattle.boxes.specs.Header.{within, typed_of, large_of, header_of}
use Rattle.boxes.specs.declared.header.Header.{Header}

pub record Within (s : List ℕ) (at : ℕ) (h : Header) : Type 0 where
  pub inside : at + h.size ≤ length s
  pub some : 8 ≤ h.length
  pub whole : h.length ≤ h.size

module _ (s : List ℕ) (at : ℕ) (h : Header) where
  refused : {A : Type 0} (q : Refusal) → Err q ≡ Ok h → A
  refused q e = let z : ◌≡◌ {A = ℕ} 0 1 = cc in absurd (omega arith)

  -- a size that passed both tests
  passed : (n least : ℕ) (on : Result Header Refusal) → within s at n least on ≡ Ok h → (n ≤ length s - at) × (least ≤ n) × (on ≡ Ok h)
  passed n least on e =
      ⊎_elim (λ y. refused _ y.1)
      (λ y. ⊎_elim (λ v. refused _ v.1)
      (λ v. (ltb-false (length s - at) n y.0, ltb-false n least v.0, v.1))
      (way (ltb n least) _ _ _ y.1))
      (way (ltb (length s - at) n) _ _ _ e)

  typed-in : (n : ℕ) → (at + 8 ≤ length s → (at + n ≤ length s) × (8 ≤ n)) → typed_of s at n ≡ Ok h → Within s at h
  typed-in n f e =
      ⊎_elim
      (λ y.
      let b : (at + n ≤ length s) × (8 ≤ n) = f (omega arith) in
      let p : h.size ≡ n = cc in
      let q : h.length ≡ 8 = cc in
      record { inside = omega arith; some = omega arith; whole = omega arith })
      (λ y. refused _ y.1)
      (field-way 4 s (at + 4) Err _ _ e)

  large-in : large_of s at ≡ Ok h → Within s at h
  large-in e =
      ⊎_elim
      (λ y. ⊎_elim
      (λ v.
      let b : (be 8 s (at + 8) ≤ length s - at) × (16 ≤ be 8 s (at + 8)) × _ = passed (be 8 s (at + 8)) 16 _ v.1 in
      let p : h.size ≡ be 8 s (at + 8) = cc in
      let q : h.length ≡ 16 = cc in
      record { inside = omega arith; some = omega arith; whole = omega arith })
      (λ v. refused _ v.1)
      (field-way 8 s (at + 8) Err _ _ y.1))
      (λ y. refused _ y.1)
      (field-way 4 s (at + 4) Err _ _ e)

  pub header-within : (top : Bool) → header_of s at top ≡ Ok h → Within s at h
  header-within top e =
      ⊎_elim
      (λ y. ⊎_elim (λ v. large-in v.1)
      (λ v. ⊎_elim
      (λ u. ⊎_elim (λ t. typed-in (length s - at) (λ g. (omega arith, omega arith)) t.1) (λ t. refused _ t.1) (way top _ _ _ u.1))
      (λ u.
      let b : (be 4 s at ≤ length s - at) × (8 ≤ be 4 s at) × _ = passed (be 4 s at) 8 _ u.1 in
      typed-in (be 4 s at) (λ g. (omega arith, omega arith)) b.2)
      (way (eqb (be 4 s at) 0) _ _ _ v.1))
      (way (eqb (be 4 s at) 1) _ _ _ y.1))
      (λ y. refused _ y.1)
      (field-way 4 s at Err _ _ e)
