-- The numbers in boxes that are held against other boxes: a track's number must be new in a tkhd, known in a tfhd and
-- new in a trex; a track has at most so many samples in its stsz and in its runs; the media data of a url lie in this
-- file. Document 01, Needed and Limits; A8, A10, A17 to A19, A25, A54. Assumes nothing.
use Rattle.std.specs.Prelude.{ℕ, zero, suc, ◌+◌, ◌-◌, ◌%◌, min, List, Bool, false, ◌&&◌, not, eqb, ltb, Option, Some, None}
use Rattle.std.specs.Bool.{then_some}
use Rattle.numbers.specs.Field.{when}
use Rattle.numbers.specs.declared.Refusal.{Refusal}
use Rattle.numbers.specs.declared.Refusal.TheVariants as refusal
use Rattle.parts.specs.Parts as parts
use Rattle.places.specs.Kinds.{trex, tkhd, url, stsz, tfhd, trun}
use Rattle.places.specs.Visit.{box_limit}
use Rattle.keys.specs.Key.{key_of}
use Rattle.kin.specs.Before.{some, sum}
use Rattle.kin.specs.Kin.{Boxes, at, stands}

-- how many samples a track may have
abbrev pub sample_limit : ℕ
sample_limit = 65536

-- the bytes of box j
abbrev pub part_of : List ℕ → Boxes → ℕ → List ℕ
part_of s t j = parts.part_of (at t.starts j) (at t.sizes j) s

-- the number of box j, and its place in the box
abbrev pub key_at : List ℕ → Boxes → ℕ → Option (ℕ × ℕ)
key_at s t j = key_of (at t.kinds j) (part_of s t j)

abbrev pub number_in : Option (ℕ × ℕ) → ℕ
number_in None = 0
number_in (Some (x, p)) = x

abbrev pub is : Option (ℕ × ℕ) → ℕ → Bool
is None n = false
is (Some (x, p)) n = eqb x n

-- a box of this type with this number stands before box i
abbrev pub used : List ℕ → Boxes → ℕ → ℕ → ℕ → Bool
used s t kind x i = some (λ j. ◌&&◌ (stands t kind j) (is (key_at s t j) x)) i

-- the number in the first tfhd among the boxes of parent p, from row k on; 0 where there is none, or none that is
-- whole. The rows of a parent's boxes end with the first box that has an earlier parent.
unfoldable pub track_from : ℕ → List ℕ → Boxes → ℕ → ℕ → ℕ
track_from zero s t p k = 0
track_from (suc rows) s t p k =
    when (ltb (at t.parents k) p) 0
    (when (◌&&◌ (eqb (at t.parents k) p) (stands t tfhd k)) (number_in (key_at s t k)) (track_from rows s t p (k + 1)))

-- the track of box j in its traf, where n boxes are recorded. The row of a parent and 1, as it stands in the tables,
-- is the row of the first box in it.
abbrev pub track_of : List ℕ → Boxes → ℕ → ℕ → ℕ
track_of s t n j = track_from (min n box_limit - at t.parents j) s t (at t.parents j) (at t.parents j)

-- how many samples box j adds to a track
abbrev pub run_of : List ℕ → Boxes → ℕ → ℕ → ℕ → ℕ
run_of s t n track j = when (stands t trun j) (when (eqb (track_of s t n j) track) (number_in (key_at s t j)) 0) 0

-- the samples of a track's runs up to run i, which has so many; those of a run whose track is not known, alone
abbrev pub total : List ℕ → Boxes → ℕ → ℕ → ℕ → ℕ
total s t n i count = when (eqb (track_of s t n i) 0) count (sum (run_of s t n (track_of s t n i)) i + count)

-- the refusal of box i for its number x, which is told where it stands, at p in the box; a second trex is told at its
-- first byte (A17)
abbrev pub refusal_of : List ℕ → Boxes → ℕ → ℕ → ℕ → ℕ → Option Refusal
refusal_of s t n i x p =
    when (eqb (at t.kinds i) tkhd) (then_some (used s t tkhd x i) (refusal.Value p))
    (when (eqb (at t.kinds i) tfhd) (then_some (not (used s t tkhd x i)) (refusal.Value p))
    (when (eqb (at t.kinds i) trex) (then_some (used s t trex x i) (refusal.Twice 0))
    (when (eqb (at t.kinds i) stsz) (then_some (ltb sample_limit x) (refusal.Limit p))
    (when (eqb (at t.kinds i) trun) (then_some (ltb sample_limit (total s t n i x)) (refusal.Limit p))
    (when (eqb (at t.kinds i) url) (then_some (not (eqb (x % 2) 1)) (refusal.Value p)) None)))))
