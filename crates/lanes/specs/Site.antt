-- Where the samples that a track has left lie: the sizes and the chunks, each from where the cursor stands, without times.
-- `sites-of` (proofs/Sites.antt) says what that is of the track's samples. Assumes nothing.
use Rattle.std.specs.Prelude.{ℕ, ◌+◌, List, [], ◌∷◌, false, drop, pos}
use Rattle.tables.specs.Tables.{values_of, groups, chunks, sizes}
use Rattle.tables.specs.Samples.{place}
use Rattle.tables.specs.declared.Track.{Track}
use Rattle.samples.specs.Lists.{View, none, over, one}
use Rattle.samples.specs.declared.Sample.{Sample}
use Rattle.lanes.specs.Lane.{places_left, begun}
use Rattle.lanes.specs.declared.site.Site.{Site}
use Rattle.lanes.specs.declared.site.Stood.{Stood}
use Rattle.lanes.specs.declared.site.Stood.TheVariants as stood

-- a sample of which only its number, place and size are told
abbrev pub sample : ℕ → ℕ → ℕ → Sample
sample n o z = record { number = n; offset = o; size = z; time = 0; duration = 0; composition = pos 0; sync = false }

abbrev pub bare : Sample → Sample
bare s = sample s.number s.offset s.size

-- such samples, of these sizes at these places, as many as both have: n came before
abbrev pub sited : ℕ → List ℕ → List ℕ → List Sample
sited n [] os = []
sited n (z ∷ ss) [] = []
sited n (z ∷ ss) (o ∷ os) = sample (n + 1) o z ∷ sited (n + 1) ss os

-- those of a track
abbrev pub sites_of : List ℕ → Track → List Sample
sites_of f t = sited 0 (sizes f t.stsz) (place (values_of (groups f t.stsc t.stco.count)) (chunks f t.stco) (sizes f t.stsz))

-- those that a cursor has left
unfoldable pub left : List ℕ → Track → Site → List Sample
left f t l =
    sited l.done (drop l.done (sizes f t.stsz))
    (places_left (groups f t.stsc t.stco.count) (chunks f t.stco) l.place (drop l.done (sizes f t.stsz)))

-- a cursor that begins
abbrev pub fresh : Site
fresh = record { done = 0; place = record { left = 0; at = 0; chunk = 0; groups = begun } }

-- what an answer shows: a sample, and what the cursor after it has left
abbrev pub shows : List ℕ → Track → Stood → View
shows f t (stood.One n o z l) = one (sample n o z) (left f t l)
shows f t stood.End = none
shows f t stood.Over = over
