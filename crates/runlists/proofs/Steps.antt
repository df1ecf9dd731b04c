-- What the loop over a lane knows beside the buffer: the samples left are those behind the first i, so the number of the
-- next is i + 1; and a sample that fits has a number of 32 bits, so that many can be counted. Assumes nothing.
use Prim.Native.Nat.{ℕ, ◌+◌, ◌^◌, ◌<◌}
use mathlib.Core.Path.{◌≡◌, sym, ap, ◌∙◌}
use mathlib.Core.List.{List, ◌∷◌}
use mathlib.Core.Bool.{true}
use native.Mathlib.Omega.{arith}
use lib.ListN.{length, drop}
use Rattle.samples.specs.Lists.{held}
use Rattle.samples.specs.Records.{put_of}
use Rattle.samples.specs.declared.Sample.{Sample}
use Rattle.samples.proofs.Fits.{number-held}
use Rattle.lists.proofs.Laws.{Filling, fills, fills-on}
use Rattle.runs.specs.declared.Run.{Run}
use Rattle.fragments.specs.Samples.{samples_of_runs}
use Rattle.runlookup.proofs.Stuck.{next-drop}
use Rattle.runlookup.proofs.Numbers.{numbers-from-1}

pub record Listing (all l : List Sample) (o p : List ℕ) (i : ℕ) : Type 0 where
  pub filling : Filling all l o p i
  pub behind : l ≡ drop i all

pub lists : (all l : List Sample) (o : List ℕ) → l ≡ all → Listing all l o o 0
lists all l o e = record { filling = fills all l o e; behind = e }

module _ (f : List ℕ) (rs : List Run) (t : ℕ) (l : List Sample) (o p : List ℕ) (i : ℕ) (w : Listing (samples_of_runs f rs t) l o p i) (s : Sample) (m : List Sample) (e : (l ≡ s ∷ m) × (held s ≡ true)) where
  abbrev all : List Sample
  all = samples_of_runs f rs t

  pub lists-on : (q : List ℕ) → q ≡ put_of p i s → Listing all m o q (i + 1)
  lists-on q g = record { filling = fills-on all l o p i w.filling s m q e g; behind = sym (next-drop i all s m (sym w.behind ∙ e.0)) }

  pub few : i + 1 < 2 ^ 32
  few = omega (arith, number-held s e.1, numbers-from-1 f t rs i s m (sym w.behind ∙ e.0))

  pub fewer : length m < length l
  fewer = omega (arith, ap (λ (x : List Sample). length x) e.0)
