-- Whether a sample fits, by its numbers; and what a list then shows. Assumes nothing.
use Prim.Native.Nat.{ℕ, ◌+◌, ◌^◌, ◌≤◌, ◌<◌}
use mathlib.Core.Path.{◌≡◌, refl, ap, ap₂, ◌∙◌}
use mathlib.Core.List.{List, ◌∷◌}
use mathlib.Core.Bool.{Bool, true, false, ◌&&◌}
use native.Mathlib.Omega.{arith}
use lib.Dec.{ltb}
use borrow.Author.Tests.{lt-ltb, le-ltb, ltb-true}
use Rattle.numbers.specs.Field.{when}
use Rattle.samples.specs.Lists.{held, over, one, view}
use Rattle.samples.specs.declared.Sample.{Sample}

and-false : (x : Bool) → (x && false) ≡ false
and-false true = refl
and-false false = refl

module _ (s : Sample) where
  pub held-is : s.number < 2 ^ 32 → s.offset + s.size < 2 ^ 64 → s.time < 2 ^ 63 → held s ≡ true
  held-is a b c =
      ap₂ (λ (x y : Bool). x && (y && ltb s.time (2 ^ 63))) (lt-ltb s.number (2 ^ 32) a) (lt-ltb (s.offset + s.size) (2 ^ 64) b)
      ∙ lt-ltb s.time (2 ^ 63) c

  pub no_number : 2 ^ 32 ≤ s.number → held s ≡ false
  no_number h = ap (λ (x : Bool). x && (ltb (s.offset + s.size) (2 ^ 64) && ltb s.time (2 ^ 63))) (le-ltb s.number (2 ^ 32) h)

  pub no_end : 2 ^ 64 ≤ s.offset + s.size → held s ≡ false
  no_end h =
      ap (λ (x : Bool). ltb s.number (2 ^ 32) && (x && ltb s.time (2 ^ 63))) (le-ltb (s.offset + s.size) (2 ^ 64) h)
      ∙ and-false (ltb s.number (2 ^ 32))

  pub no-time : 2 ^ 63 ≤ s.time → held s ≡ false
  no-time h =
      ap (λ (x : Bool). ltb s.number (2 ^ 32) && (ltb (s.offset + s.size) (2 ^ 64) && x)) (le-ltb s.time (2 ^ 63) h)
      ∙ ap (λ (x : Bool). ltb s.number (2 ^ 32) && x) (and-false (ltb (s.offset + s.size) (2 ^ 64)))
      ∙ and-false (ltb s.number (2 ^ 32))

  pub number-held : held s ≡ true → s.number < 2 ^ 32
  number-held e = cases (ltb s.number (2 ^ 32)) refl e
    where
      cases : (b : Bool) → ltb s.number (2 ^ 32) ≡ b → (b && (ltb (s.offset + s.size) (2 ^ 64) && ltb s.time (2 ^ 63))) ≡ true → s.number < 2 ^ 32
      cases true q h = ltb-true s.number (2 ^ 32) q
      cases false q h = let z : ◌≡◌ {A = ℕ} 0 1 = cc in absurd (omega arith)

  module _ (l : List Sample) where
    pub view-held : held s ≡ true → view (s ∷ l) ≡ one s l
    unfolding when
    view-held e = ap (λ (b : Bool). when b (one s l) over) e

    pub view-not : held s ≡ false → view (s ∷ l) ≡ over
    unfolding when
    view-not e = ap (λ (b : Bool). when b (one s l) over) e
