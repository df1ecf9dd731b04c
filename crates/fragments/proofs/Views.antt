-- What a caller of `next` learns of the samples left, from its answer. Assumes nothing.
use Prim.Native.Nat.{ℕ, suc}
use mathlib.Core.Path.{◌≡◌, sym, ap, ◌∙◌}
use mathlib.Core.Bool.{true}
use mathlib.Core.List.{List, [], ◌∷◌}
use lib.ListN.{length}
use Rattle.samples.specs.Lists.{held, view}
use Rattle.samples.specs.declared.Sample.{Sample}
use Rattle.runs.specs.declared.Run.{Run}
use Rattle.samples.proofs.Views.{Stuck, view-none, view-over, view-one}
use Rattle.fragments.specs.Lane.{left, shows}
use Rattle.fragments.specs.declared.Lane.{Lane}
use Rattle.fragments.specs.declared.Taken.{Taken}
use Rattle.fragments.specs.declared.Taken.TheVariants as taken

module _ (f : List ℕ) (rs : List Run) (t : ℕ) (l : Lane) (r : Taken) (e : shows f rs t r ≡ view (left f rs t l)) where
  pub at-end : r ≡ taken.End → left f rs t l ≡ []
  at-end q = view-none (left f rs t l) (sym (ap (shows f rs t) q) ∙ e)

  pub at-over : r ≡ taken.Over → Stuck (left f rs t l)
  at-over q = view-over (left f rs t l) (sym (ap (shows f rs t) q) ∙ e)

  module _ (s : Sample) (k : Lane) (q : r ≡ taken.One s k) where
    pub at_one : (left f rs t l ≡ s ∷ left f rs t k) × (held s ≡ true)
    at_one = view-one s (left f rs t k) (left f rs t l) (sym (ap (shows f rs t) q) ∙ e)

    -- one sample fewer is left: a loop over `next` ends
    pub one_less : length (left f rs t l) ≡ suc (length (left f rs t k))
    one_less = ap (λ (x : List Sample). length x) at_one.0
