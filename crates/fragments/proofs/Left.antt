-- What a lane over runs has left: all samples of the track where it begins, and how many there are. Assumes nothing.
use Prim.Native.Nat.{ℕ, ◌+◌, ◌-◌}
use mathlib.Core.Path.{◌≡◌, refl}
use mathlib.Core.List.{List, [], ◌∷◌}
use native.Mathlib.Omega.{arith}
use lib.ListN.{length, drop, length-append}
use Rattle.runs.specs.declared.Run.{Run}
use Rattle.runs.proofs.Left.{how-many-left}
use Rattle.fragments.specs.Samples.{count_of, mine, samples_after, samples_of_runs, count_in}
use Rattle.fragments.specs.Lane.{left, fresh}
use Rattle.fragments.specs.declared.Lane.{Lane}
use Rattle.fragments.proofs.Cases.{length-mine}
use Rattle.runs.specs.Lane as run

pub left-fresh : (f : List ℕ) (rs : List Run) (t : ℕ) → left f rs t fresh ≡ samples_of_runs f rs t
unfolding left run.left
left-fresh f rs t = refl

pub how-many-after : (f : List ℕ) (t n : ℕ) (rs : List Run) → length (samples_after f t n rs) ≡ count_in t rs
how-many-after f t n [] = refl
how-many-after f t n (r ∷ rs) =
    omega (arith, length-append (mine f t r n) (samples_after f t (n + count_of t r) rs), length-mine f t n r, how-many-after f t (n + count_of t r) rs)

-- the run's samples, and those of the rows after it: the measure of a caller's loop, less by one after each sample
pub how-many-left-over : (f : List ℕ) (rs : List Run) (t : ℕ) (l : Lane)
    → length (left f rs t l) ≡ l.run.trun.sample_count - l.inside.index + count_in t (drop l.next rs)
unfolding left
how-many-left-over f rs t l =
    omega (
      arith,
      length-append (run.left f l.run l.inside) (samples_after f t (run.up_to l.run l.inside) (drop l.next rs)),
      how-many-left f l.run l.inside,
      how-many-after f t (run.up_to l.run l.inside) (drop l.next rs),
    )

-- a track has as many samples as its runs count
pub how-many : (f : List ℕ) (rs : List Run) (t : ℕ) → length (samples_of_runs f rs t) ≡ count_in t rs
how-many f rs t = how-many-after f t 0 rs
