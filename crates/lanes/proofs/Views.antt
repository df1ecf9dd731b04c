-- What a caller of `next` learns of the samples left, from its answer. Assumes nothing.
use Prim.Native.Nat.{ℕ}
use mathlib.Core.Path.{◌≡◌, sym, ap, ◌∙◌}
use mathlib.Core.List.{List, [], ◌∷◌}
use mathlib.Core.Bool.{true}
use Rattle.samples.specs.Lists.{held, view}
use Rattle.samples.proofs.Views.{Stuck, view-none, view-over, view-one}
use Rattle.lanes.specs.Lane.{left, shows}
use Rattle.tables.specs.declared.Track.{Track}
use Rattle.samples.specs.declared.Sample.{Sample}
use Rattle.lanes.specs.declared.Lane.{Lane}
use Rattle.lanes.specs.declared.Taken.{Taken}
use Rattle.lanes.specs.declared.Taken.TheVariants as taken

module _ (f : List ℕ) (t : Track) (l : Lane) (r : Taken) (e : shows f t r ≡ view (left f t l)) where
  pub at-end : r ≡ taken.End → left f t l ≡ []
  at-end q = view-none (left f t l) (sym (ap (shows f t) q) ∙ e)

  pub at-over : r ≡ taken.Over → Stuck (left f t l)
  at-over q = view-over (left f t l) (sym (ap (shows f t) q) ∙ e)

  pub at_one : (s : Sample) (k : Lane) → r ≡ taken.One s k → (left f t l ≡ s ∷ left f t k) × (held s ≡ true)
  at_one s k q = view-one s (left f t k) (left f t l) (sym (ap (shows f t) q) ∙ e)
