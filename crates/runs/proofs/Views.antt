-- What a caller of `next` learns of the samples left, from its answer. Assumes nothing.
use Prim.Native.Nat.{ℕ}
use mathlib.Core.Path.{◌≡◌, sym, ap, ◌∙◌}
use mathlib.Core.List.{List, [], ◌∷◌}
use mathlib.Core.Bool.{true}
use Rattle.samples.specs.Lists.{held, view}
use Rattle.samples.specs.declared.Sample.{Sample}
use Rattle.samples.proofs.Views.{Stuck, view-none, view-over, view-one}
use Rattle.runs.specs.Lane.{left, shows}
use Rattle.runs.specs.declared.Run.{Run}
use Rattle.runs.specs.declared.Lane.{Lane}
use Rattle.runs.specs.declared.Taken.{Taken}
use Rattle.runs.specs.declared.Taken.TheVariants as taken

module _ (f : List ℕ) (r : Run) (l : Lane) (t : Taken) (e : shows f r t ≡ view (left f r l)) where
  pub at-end : t ≡ taken.End → left f r l ≡ []
  at-end q = view-none (left f r l) (sym (ap (shows f r) q) ∙ e)

  pub at-over : t ≡ taken.Over → Stuck (left f r l)
  at-over q = view-over (left f r l) (sym (ap (shows f r) q) ∙ e)

  pub at_one : (s : Sample) (k : Lane) → t ≡ taken.One s k → (left f r l ≡ s ∷ left f r k) × (held s ≡ true)
  at_one s k q = view-one s (left f r k) (left f r l) (sym (ap (shows f r) q) ∙ e)
