-- The samples that a lane over runs has left: those of the run that it is in, and of the rows after it. `left-fresh`
-- (proofs/Left.antt) says that a lane that begins has the samples of the track left. Assumes nothing.
use Rattle.std.specs.Prelude.{ℕ, List, ◌++◌, drop}
use Rattle.samples.specs.Lists.{View, none, over, one}
use Rattle.samples.specs.declared.Sample.{Sample}
use Rattle.runs.specs.Lane as run
use Rattle.runs.specs.declared.Run.{Run}
use Rattle.fragments.specs.Samples.{samples_after}
use Rattle.fragments.specs.declared.Lane.{Lane}
use Rattle.fragments.specs.declared.Taken.{Taken}
use Rattle.fragments.specs.declared.Taken.TheVariants as taken

unfoldable pub left : List ℕ → List Run → ℕ → Lane → List Sample
left f rs t l = run.left f l.run l.inside ++ samples_after f t (run.up_to l.run l.inside) (drop l.next rs)

-- a lane that begins: before the first row, in a run without samples
abbrev pub fresh : Lane
fresh = record {
  next = 0;
  run = record {
    track = 0;
    start = 0;
    time = 0;
    at = 0;
    trun = record { version = 0; flags = 0; sample_count = 0; data_offset = 0; first_sample_flags = 0 };
    duration = 0;
    size = 0;
    flags = 0;
  };
  inside = record { index = 0; number = 0; offset = 0; time = 0 };
}

-- what an answer shows: a sample, and what the lane after it has left
abbrev pub shows : List ℕ → List Run → ℕ → Taken → View
shows f rs t (taken.One s l) = one s (left f rs t l)
shows f rs t taken.End = none
shows f rs t taken.Over = over
