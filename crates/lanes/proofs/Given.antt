-- A lane that goes on gives the samples that it has left, one after the other, up to the first that is not held; one
-- that begins gives the samples of the track. Of any function that keeps `next`'s promise. Assumes nothing.
use Prim.Native.Nat.{ℕ, zero, suc}
use mathlib.Core.Path.{◌≡◌, refl, sym, ap, ◌∙◌}
use mathlib.Core.List.{List, [], ◌∷◌}
use mathlib.Core.Bool.{Bool, true, false}
use lib.ListN.{take}
use Rattle.numbers.specs.Field.{when}
use Rattle.tables.specs.Samples.{samples_of}
use Rattle.samples.specs.Lists.{held, view}
use Rattle.lanes.specs.Lane.{left, fresh, shows}
use Rattle.tables.specs.declared.Track.{Track}
use Rattle.samples.specs.declared.Sample.{Sample}
use Rattle.lanes.specs.declared.Lane.{Lane}
use Rattle.lanes.specs.declared.Taken.{Taken}
use Rattle.lanes.specs.declared.Taken.TheVariants as taken
use Rattle.lanes.proofs.Left.{left-fresh}
use Rattle.samples.proofs.Views.{view-none, view-over, view-one}

-- the samples before the first that is not held
abbrev pub held_part : List Sample → List Sample
held_part [] = []
held_part (s ∷ l) = when (held s) (s ∷ held_part l) []

first-held : (s : Sample) (l : List Sample) → held s ≡ true → held_part (s ∷ l) ≡ s ∷ held_part l
unfolding when
first-held s l h = ap (λ (b : Bool). when b (s ∷ held_part l) []) h

first-not : (s : Sample) (l : List Sample) → held s ≡ false → held_part (s ∷ l) ≡ []
unfolding when
first-not s l h = ap (λ (b : Bool). when b (s ∷ held_part l) []) h

module _ (f : List ℕ) (t : Track) (step : Lane → Taken) (keeps : (l : Lane) → shows f t (step l) ≡ view (left f t l)) where
  -- the samples of the first n answers, this one first
  pub given : ℕ → Taken → List Sample
  given zero r = []
  given (suc n) (taken.One s l) = s ∷ given n (step l)
  given (suc n) taken.End = []
  given (suc n) taken.Over = []

  by-view : (n : ℕ) (r : Taken) (ss : List Sample) → shows f t r ≡ view ss → given n r ≡ take n (held_part ss)
  unfolding given
  by-view zero r ss e = refl
  by-view (suc n) (taken.One s l) ss e =
      let v = view-one s (left f t l) ss e in
      ap (λ (k : List Sample). s ∷ k) (by-view n (step l) (left f t l) (keeps l))
      ∙ sym (ap (λ (k : List Sample). take (suc n) k) (ap held_part v.0 ∙ first-held s (left f t l) v.1))
  by-view (suc n) taken.End ss e = sym (ap (λ (k : List Sample). take (suc n) (held_part k)) (view-none ss e))
  by-view (suc n) taken.Over ss e =
      let v = view-over ss e in
      sym (ap (λ (k : List Sample). take (suc n) k) (ap held_part v.is ∙ first-not v.head v.tail v.not-held))

  pub gives-what-is-left : (n : ℕ) (l : Lane) → given n (step l) ≡ take n (held_part (left f t l))
  gives-what-is-left n l = by-view n (step l) (left f t l) (keeps l)

  pub gives-the-samples : (n : ℕ) → given n (step fresh) ≡ take n (held_part (samples_of f t))
  gives-the-samples n = gives-what-is-left n fresh ∙ ap (λ (k : List Sample). take n (held_part k)) (left-fresh f t)
