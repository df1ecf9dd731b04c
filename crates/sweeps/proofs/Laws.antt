-- What fits: where every sample does, none is lost to the sweep. Assumes nothing.
use Prim.Native.Nat.{ℕ}
use mathlib.Core.Path.{◌≡◌, refl, ap, ◌∙◌}
use mathlib.Core.List.{List, [], ◌∷◌}
use mathlib.Core.Bool.{Bool, true, false, ◌&&◌}
use native.Mathlib.Omega.{arith}
use Rattle.numbers.specs.Field.{when}
use Rattle.samples.specs.declared.Sample.{Sample}
use Rattle.samples.specs.Lists.{held, all_held}
use Rattle.samples.proofs.Views.{Stuck}
use Rattle.sweeps.specs.Tracks.{fitting}

pub fitting-all : (l : List Sample) → all_held l ≡ true → fitting l ≡ l
unfolding when
fitting-all [] e = refl
fitting-all (s ∷ l) e = cases (held s) e (fitting-all l)
  where
    cases : (b : Bool) → b && all_held l ≡ true → (all_held l ≡ true → fitting l ≡ l) → when b (s ∷ fitting l) [] ≡ s ∷ l
    cases true e ih = ap (λ (x : List Sample). s ∷ x) (ih e)
    cases false e ih = let z : ◌≡◌ {A = ℕ} 0 1 = cc in absurd (omega arith)

-- by what a lane shows
module _ (l : List Sample) where
  pub fitting-none : l ≡ [] → fitting l ≡ []
  fitting-none e = ap fitting e

  pub fitting-stuck : Stuck l → fitting l ≡ []
  unfolding when
  fitting-stuck k = ap fitting k.is ∙ ap (λ (b : Bool). when b (k.head ∷ fitting k.tail) []) k.not-held

  pub fitting-one : (s : Sample) (m : List Sample) → (l ≡ s ∷ m) × (held s ≡ true) → fitting l ≡ s ∷ fitting m
  unfolding when
  fitting-one s m e = ap fitting e.0 ∙ ap (λ (b : Bool). when b (s ∷ fitting m) []) e.1
