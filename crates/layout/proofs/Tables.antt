-- Tables in place. Assumes nothing.
use Rattle.std.specs.Prelude.{Some, None}
use mathlib.Core.Path.{◌≡◌, refl, sym, ap, ap₂, ◌∙◌}
use mathlib.Core.List.{List, [], ◌∷◌, ◌++◌}
use mathlib.Core.Bool.{Bool, true, false}
use Prim.Native.Nat.{ℕ, zero, suc, ◌+◌, ◌*◌, ◌-◌, ◌/◌, ◌%◌, ◌≤◌, ◌<◌}
use native.Mathlib.Nat.{add-zero, zero-mul, div-eq_of_lt, div-eq-sub-div, add-mul, one-mul, div-mul-le_self}
use native.Mathlib.Omega.{arith}
use lib.ListN.{length}
use lib.Dec.{eqb, ltb, leb}
use borrow.Author.Tests.{lt-ltb, le-ltb, ltb-true, ltb-false, eq-eqb, ne_eqb}
use Rattle.numbers.specs.Field.{when}
use Rattle.layout.specs.Table.{cut_of}

pub past_end : (n w : ℕ) (b : List ℕ) (at : ℕ) → (n ≡ 0 → ⊥) → length b < at → Some at ≡ cut_of n w b at
unfolding cut_of when
past_end zero w b at h l = absurd (h refl)
past_end (suc n) w b at h l = sym (simp (lt-ltb (length b) (at + w) (omega arith)))

pub no_fields : (n w : ℕ) (b : List ℕ) (at : ℕ) → n ≡ 0 → None ≡ cut_of n w b at
unfolding cut_of
no_fields n w b at e = sym (ap (λ n. cut_of n w b at) e)

pub no-width : (n w : ℕ) (b : List ℕ) (at : ℕ) → at ≤ length b → w ≡ 0 → None ≡ cut_of n w b at
unfolding cut_of when
no-width zero w b at h e = refl
no-width (suc n) w b at h e = no-width n w b (at + w) (omega arith) e ∙ sym (simp (le-ltb (length b) (at + w) (omega arith)))

tick : (p q n : ℕ) → q ≡ p + 1 → ltb p n ≡ ltb q (suc n)
tick p q n e = by (ltb p n) refl
  where
    by : (t : Bool) → ltb p n ≡ t → t ≡ ltb q (suc n)
    by true h = sym (lt-ltb q (suc n) (omega (arith, ltb-true p n h)))
    by false h = sym (le-ltb q (suc n) (omega (arith, ltb-false p n h)))

-- the rooms that q whole fields take, before any loop
module _ (w : ℕ) (b : List ℕ) (pos : 0 < w) where
  pub closed : (n at : ℕ) → at ≤ length b → cut_of n w b at ≡ when (ltb ((length b - at) / w) n) (Some (at + (length b - at) / w * w)) None
  unfolding cut_of when
  closed zero at h = sym (simp (le-ltb ((length b - at) / w) 0 (omega arith)))
  closed (suc n) at h = by (ltb (length b) (at + w)) refl (closed n (at + w))
    where
      q : ℕ
      q = (length b - at) / w

      by : (t : Bool) → ltb (length b) (at + w) ≡ t →
          (at + w ≤ length b → cut_of n w b (at + w) ≡ when (ltb ((length b - (at + w)) / w) n) (Some (at + w + (length b - (at + w)) / w * w)) None) →
          when t (Some at) (cut_of n w b (at + w)) ≡ when (ltb q (suc n)) (Some (at + q * w)) None
      by true e ih =
          let s : length b < at + w = ltb-true (length b) (at + w) e in
          let z : q ≡ 0 = div-eq_of_lt (omega arith) in
          sym (ap (λ q. when (ltb q (suc n)) (Some (at + q * w)) None) z ∙ simp (lt-ltb 0 (suc n) (omega arith), zero-mul, add-zero))
      by false e ih =
          let s : at + w ≤ length b = ltb-false (length b) (at + w) e in
          let r : length b - (at + w) ≡ length b - at - w = omega arith in
          let p = (length b - (at + w)) / w in
          let z : q ≡ p + 1 = div-eq-sub-div pos (omega arith) ∙ ap (λ n. n / w + 1) (sym r) in
          let m : at + w + p * w ≡ at + q * w = omega (arith, ap (λ n. n * w) z ∙ add-mul p 1 w, one-mul w) in
          let t : ltb p n ≡ ltb q (suc n) = tick p q n z in
          ih s ∙ ap₂ (λ (t : Bool) (m : ℕ). when t (Some m) None) t m

  pub is_cut : (n at : ℕ) → at ≤ length b → (length b - at) / w < n → Some (at + (length b - at) / w * w) ≡ cut_of n w b at
  unfolding when
  is_cut n at h l = sym (closed n at h ∙ simp (lt-ltb ((length b - at) / w) n l))

  pub is_whole : (n at : ℕ) → at ≤ length b → n ≤ (length b - at) / w → None ≡ cut_of n w b at
  unfolding when
  is_whole n at h l = sym (closed n at h ∙ simp (le-ltb ((length b - at) / w) n l))
