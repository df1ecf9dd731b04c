-- The tracks of a file as the sweep has them: each by its tables, or in a fragmented file by the runs (01, Sweep; A36).
-- Assumes nothing.
use Rattle.std.specs.Prelude.{ℕ, List, [], ◌∷◌, Bool, true}
use Rattle.numbers.specs.Field.{when}
use Rattle.samples.specs.declared.Sample.{Sample}
use Rattle.samples.specs.Lists.{held}
use Rattle.tables.specs.declared.Track as tables
use Rattle.lanes.specs.Site.{sites_of}
use Rattle.runs.specs.declared.Run.{Run}
use Rattle.fragments.specs.Samples.{samples_of_runs}
use Rattle.verdicts.specs.Findings.{Track, track}

-- the samples of track n, by runs or by tables: where each lies, and of tables nothing else, since the sweep asks for
-- nothing else (`sweep-bare`, proofs/Bare.antt)
abbrev pub placed_by : Bool → List ℕ → tables.Track → List Run → ℕ → List Sample
placed_by b f t rs n = when b (samples_of_runs f rs n) (sites_of f t)

-- the samples before the first that does not fit: where there is one, the file is refused before any sweep (9)
abbrev pub fitting : List Sample → List Sample
fitting [] = []
fitting (s ∷ l) = when (held s) (s ∷ fitting l) []

-- the tracks of these numbers; whether their tables agree is no matter of the sweep
abbrev pub tracks_in : Bool → List ℕ → List Run → List ℕ → List tables.Track → List Track
tracks_in b f rs [] ts = []
tracks_in b f rs (n ∷ ns) [] = []
tracks_in b f rs (n ∷ ns) (t ∷ ts) = track n true (fitting (placed_by b f t rs n)) ∷ tracks_in b f rs ns ts
