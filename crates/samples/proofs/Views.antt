-- What is known of a list of samples from what it shows. Assumes nothing.
use Prim.Native.Nat.{ℕ}
use mathlib.Core.Path.{◌≡◌, refl, sym, ap, ap₂, ◌∙◌}
use mathlib.Core.List.{List, [], ◌∷◌}
use mathlib.Core.Bool.{Bool, true, false}
use native.Mathlib.Omega.{arith}
use Rattle.numbers.specs.Field.{when}
use Rattle.samples.specs.Lists.{held, View, none, over, one, view}
use Rattle.samples.specs.declared.Sample.{Sample}

head_of : Sample → View → Sample
head_of d none = d
head_of d over = d
head_of d (one s l) = s

tail_of : View → List Sample
tail_of none = []
tail_of over = []
tail_of (one s l) = l

pub record Stuck (l : List Sample) : Type 0 where
  pub head : Sample
  pub tail : List Sample
  pub is : l ≡ head ∷ tail
  pub not-held : held head ≡ false

pub view-none : (l : List Sample) → none ≡ view l → l ≡ []
unfolding when
view-none [] e = refl
view-none (s ∷ l) e = cases (held s) e
  where
    cases : (b : Bool) → none ≡ when b (one s l) over → s ∷ l ≡ []
    cases true e = let z : ◌≡◌ {A = ℕ} 0 1 = cc in absurd (omega arith)
    cases false e = let z : ◌≡◌ {A = ℕ} 0 1 = cc in absurd (omega arith)

pub view-over : (l : List Sample) → over ≡ view l → Stuck l
unfolding when
view-over [] e = let z : ◌≡◌ {A = ℕ} 0 1 = cc in absurd (omega arith)
view-over (s ∷ l) e = cases (held s) refl e
  where
    cases : (b : Bool) → held s ≡ b → over ≡ when b (one s l) over → Stuck (s ∷ l)
    cases true q e = let z : ◌≡◌ {A = ℕ} 0 1 = cc in absurd (omega arith)
    cases false q e = record { head = s; tail = l; is = refl; not-held = q }

pub view-one : (x : Sample) (k l : List Sample) → one x k ≡ view l → (l ≡ x ∷ k) × (held x ≡ true)
unfolding head_of tail_of when
view-one x k [] e = let z : ◌≡◌ {A = ℕ} 0 1 = cc in absurd (omega arith)
view-one x k (s ∷ l) e = cases (held s) refl e
  where
    cases : (b : Bool) → held s ≡ b → one x k ≡ when b (one s l) over → (s ∷ l ≡ x ∷ k) × (held x ≡ true)
    cases true q e = let h = ap (head_of s) e in (ap₂ (λ (a : Sample) (b : List Sample). a ∷ b) (sym h) (sym (ap tail_of e)), ap held h ∙ q)
    cases false q e = let z : ◌≡◌ {A = ℕ} 0 1 = cc in absurd (omega arith)
