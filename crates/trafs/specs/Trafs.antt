-- The run of a traf (ISO/IEC 14496-12, 8.8.6 to 8.8.8 and 8.8.12), by its boxes that are recorded in the tables. A box is
-- named by its row and 1, as where it is a parent; 0 names none. In a file whose needed boxes are there and are read no
-- traf lacks one: of any other tables too the answer is fixed. Assumes nothing.
use Rattle.std.specs.Prelude.{ℕ, ◌+◌, ◌-◌, min, List, Bool, eqb, ltb, Result, Ok, Err}
use Rattle.numbers.specs.Field.{when}
use Rattle.numbers.specs.declared.Refusal.TheVariants as refusal
use Rattle.parts.specs.Parts.{part_of}
use Rattle.samples.specs.Lists.{end_bound}
use Rattle.places.specs.Kinds.{tfhd, tfdt, trun}
use Rattle.places.specs.Visit.{box_limit}
use Rattle.kin.specs.Kin.{Boxes, at}
use Rattle.needed.specs.Needed.{trex_of}
use Rattle.inside.specs.Inside.{child}
use Rattle.tfhd.specs.Tfhd.{tfhd_of}
use Rattle.tfhd.specs.declared.Tfhd.{Tfhd}
use Rattle.trex.specs.Trex as trex-box
use Rattle.trex.specs.declared.Trex.{Trex}
use Rattle.tfdt.specs.Tfdt.{tfdt_of}
use Rattle.tfdt.specs.declared.Tfdt.{Tfdt}
use Rattle.trun.specs.Trun.{trun_of}
use Rattle.trun.specs.declared.Trun.{Trun}
use Rattle.runstarts.specs.Make.{base_of, make_of}
use Rattle.runs.specs.declared.Run.{Run}
use Rattle.numbers.specs.declared.Refusal.{Refusal}

-- what a column of the tables says of the box that is named p: 0 where there is none, as past the last row
abbrev pub of_box : List ℕ → ℕ → ℕ
of_box column p = when (eqb p 0) 0 (when (ltb box_limit p) 0 (at column (p - 1)))

-- its bytes; none where there is no such box, which every reader refuses
abbrev pub bytes_of : List ℕ → Boxes → ℕ → List ℕ
bytes_of s t p = part_of (of_box t.starts p) (of_box t.sizes p) s

-- the trex of a track, read
abbrev pub trex_by : List ℕ → Boxes → ℕ → ℕ → Result Trex Refusal
trex_by s t n track = trex-box.trex_of (bytes_of s t (trex_of s t (min n box_limit) track))

-- on with a box that was read, or an answer without it
abbrev pub with_tfhd : Result Tfhd Refusal → Result Run Refusal → (Tfhd → Result Run Refusal) → Result Run Refusal
with_tfhd (Ok h) without go = go h
with_tfhd (Err q) without go = without

abbrev pub with_trex : Result Trex Refusal → Result Run Refusal → (Trex → Result Run Refusal) → Result Run Refusal
with_trex (Ok x) without go = go x
with_trex (Err q) without go = without

abbrev pub with_tfdt : Result Tfdt Refusal → Result Run Refusal → (Tfdt → Result Run Refusal) → Result Run Refusal
with_tfdt (Ok d) without go = go d
with_tfdt (Err q) without go = without

abbrev pub with_trun : Result (Trun × ℕ) Refusal → Result Run Refusal → (Trun → ℕ → Result Run Refusal) → Result Run Refusal
with_trun (Ok (m, place)) without go = go m place
with_trun (Err q) without go = without

-- the traf's first byte is refused: a box that it needs is missing, or is not read
abbrev pub lacking : Boxes → ℕ → Result Run Refusal
lacking t traf = Err (refusal.Value (of_box t.starts traf))

-- the run of the traf of that name, in a moof that begins at `moof`: what it does not say itself is said by the trex of
-- its track; it does not fit where the entries of its trun begin past 2^64 - 1
unfoldable pub run_of : List ℕ → Boxes → ℕ → ℕ → ℕ → Bool → ℕ → Result Run Refusal
run_of s t n traf moof first previous =
    with_tfhd (tfhd_of (bytes_of s t (child t n tfhd traf))) (lacking t traf)
    (λ h. with_trex (trex_by s t n h.track_id) (lacking t traf)
    (λ x. with_tfdt (tfdt_of (bytes_of s t (child t n tfdt traf))) (lacking t traf)
    (λ d. with_trun (trun_of (bytes_of s t (child t n trun traf))) (lacking t traf)
    (λ m place. when (ltb (of_box t.starts (child t n trun traf) + place) end_bound)
    (make_of h x d m (of_box t.starts (child t n trun traf) + place) (base_of h moof first previous))
    (Err refusal.Overflow)))))
