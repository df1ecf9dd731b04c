-- The samples that a lane in a run has left, and what an answer shows of them. `left-begun` (proofs/Left.antt) says that a
-- lane that begins has the run's samples left. Assumes nothing.
use Rattle.std.specs.Prelude.{ℕ, ◌+◌, ◌-◌, List}
use Rattle.samples.specs.Lists.{View, none, over, one}
use Rattle.samples.specs.declared.Sample.{Sample}
use Rattle.runs.specs.Samples.{samples_from}
use Rattle.runs.specs.declared.Run.{Run}
use Rattle.runs.specs.declared.Lane.{Lane}
use Rattle.runs.specs.declared.Taken.{Taken}
use Rattle.runs.specs.declared.Taken.TheVariants as taken

unfoldable pub left : List ℕ → Run → Lane → List Sample
left f r l = samples_from f r (r.trun.sample_count - l.index) l.index l.number l.offset l.time

abbrev pub begun : Run → ℕ → Lane
begun r n = record { index = 0; number = n; offset = r.start; time = r.time }

-- what an answer shows: a sample, and what the lane after it has left
abbrev pub shows : List ℕ → Run → Taken → View
shows f r (taken.One s l) = one s (left f r l)
shows f r taken.End = none
shows f r taken.Over = over

-- how many samples there are up to the run's end
abbrev pub up_to : Run → Lane → ℕ
up_to r l = l.number + (r.trun.sample_count - l.index)

-- the same by the lane of an answer; n where there is none
abbrev pub up_to_by : Run → Taken → ℕ → ℕ
up_to_by r (taken.One s l) n = up_to r l
up_to_by r taken.End n = n
up_to_by r taken.Over n = n
