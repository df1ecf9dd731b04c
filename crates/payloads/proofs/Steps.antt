-- The payloads from a row on, row after row. Assumes nothing.
use mathlib.Core.Path.{◌≡◌, refl, sym, ap, ap₂, ◌∙◌}
use mathlib.Core.List.{List, ◌∷◌}
use mathlib.Core.Bool.{Bool, true, false, ◌&&◌, ◌||◌}
use Prim.Native.Nat.{ℕ, suc, ◌+◌, ◌-◌, ◌<◌, ◌≤◌}
use native.Mathlib.Omega.{arith}
use lib.Dec.{leb, ltb}
use Rattle.numbers.specs.Field.{when, or_zero}
use Rattle.numbers.proofs.Chain.{by-true, by-false, is_eq, is_ne}
use Rattle.kin.specs.Kin.{Boxes}
use Rattle.verdicts.specs.Findings.{Span}
use Rattle.verdicts.specs.Sweep.{in_some}
use Rattle.payloads.specs.Payloads.{is_media, header_of, to_of, from_of, span, payloads_in, next_in}
use Rattle.payloads.specs.declared.Payload.TheVariants.{At, End}

-- THE HEADER

module _ (f : List ℕ) (start x : ℕ) (e : x ≡ or_zero 4 f (start + 0)) where
  size-field : x ≡ or_zero 4 f start
  size-field = e ∙ ap (or_zero 4 f) (let z : start + 0 ≡ start = omega arith in z)

  pub wide : x ≡ 1 → 16 ≡ header_of f start
  wide h = is_eq _ _ _ (or_zero 4 f start) 1 (sym size-field ∙ h) refl

  pub plain : (x ≡ 1 → ⊥) → 8 ≡ header_of f start
  plain h = is_ne _ _ _ (or_zero 4 f start) 1 (λ z. h (size-field ∙ z)) refl

module _ (f : List ℕ) (t : Boxes) (end j : ℕ) where
  one_more : j < end → end - j ≡ suc (end - (j + 1))
  one_more h = omega arith

  none_left : end ≤ j → end - j ≡ 0
  none_left h = omega arith

  -- THE NEXT

  pub over : end ≤ j → End ≡ next_in f t (end - j) j
  unfolding next_in
  over h = sym (ap (λ k. next_in f t k j) (none_left h))

  next-step : j < end → next_in f t (end - j) j ≡ when (is_media t j) (At (from_of f t j) (to_of f t j) (j + 1)) (next_in f t (end - (j + 1)) (j + 1))
  unfolding next_in
  next-step h = ap (λ k. next_in f t k j) (one_more h)

  module _ (r : Bool) (h : j < end) (e : r ≡ is_media t j) where
    pub here : (a b : ℕ) → r ≡ true → a ≡ from_of f t j → b ≡ to_of f t j → At a b (j + 1) ≡ next_in f t (end - j) j
    here a b q x y = by-true _ _ _ (is_media t j) (sym e ∙ q) (ap₂ (λ (a b : ℕ). At a b (j + 1)) x y) ∙ sym (next-step h)

    pub further : r ≡ false → next_in f t (end - (j + 1)) (j + 1) ≡ next_in f t (end - j) j
    further q = by-false _ _ _ (is_media t j) (sym e ∙ q) refl ∙ sym (next-step h)

  -- A BYTE

  -- it lies in the payload of this row
  abbrev pub here-is : ℕ → Bool
  here-is b = when (is_media t j) (leb (from_of f t j) b && ltb b (to_of f t j)) false

  pub in-none : (b : ℕ) → end ≤ j → false ≡ in_some b (payloads_in f t (end - j) j)
  unfolding payloads_in
  in-none b h = sym (ap (λ k. in_some b (payloads_in f t k j)) (none_left h))

  in_step : (b : ℕ) → j < end → in_some b (payloads_in f t (end - j) j) ≡ here-is b || in_some b (payloads_in f t (end - (j + 1)) (j + 1))
  unfolding payloads_in when
  in_step b h = ap (λ k. in_some b (payloads_in f t k j)) (one_more h) ∙ by (is_media t j) (payloads_in f t (end - (j + 1)) (j + 1))
    where
      by : (r : Bool) (m : List Span) →
          in_some b (when r (span (from_of f t j) (to_of f t j) ∷ m) m) ≡ when r (leb (from_of f t j) b && ltb b (to_of f t j)) false || in_some b m
      by true m = refl
      by false m = refl

  module _ (b : ℕ) (r : Bool) (h : j < end) (e : r ≡ here-is b) where
    pub in-here : r ≡ true → true ≡ in_some b (payloads_in f t (end - j) j)
    in-here q = sym (in_step b h ∙ ap (λ r. r || in_some b (payloads_in f t (end - (j + 1)) (j + 1))) (sym e ∙ q))

    pub in-further : r ≡ false → in_some b (payloads_in f t (end - (j + 1)) (j + 1)) ≡ in_some b (payloads_in f t (end - j) j)
    in-further q = sym (in_step b h ∙ ap (λ r. r || in_some b (payloads_in f t (end - (j + 1)) (j + 1))) (sym e ∙ q))
