-- What an H.264 track tells of itself: its first sample entry is an avc1 (ISO/IEC 14496-15, 5.4.2.1), whose avcC holds the
-- profile and the parameter sets (5.3.3.1). A set that is not there is NoSample, with the number that was asked for.
-- Assumes nothing.
use Rattle.std.specs.Prelude.{ℕ, List, eqb, ltb, Result, Ok, Err}
use Rattle.numbers.specs.Field.{when}
use Rattle.numbers.specs.declared.Refusal.TheVariants as refusal
use Rattle.profiles.specs.Profiles as profiles
use Rattle.places.specs.Kinds as kinds
use Rattle.avc1.specs.Avc1 as avc1
use Rattle.avcc.specs.Avcc as avcc
use Rattle.trak.specs.Trak.{entry_of}
use Rattle.trak_boxes.specs.TrakBoxes.{needed, kind_in}
use Rattle.numbers.specs.declared.Refusal.{Refusal}
use Rattle.avcc.specs.declared.Avcc.{Avcc}
use Rattle.avcc.specs.declared.Places.{Places}
use Rattle.profiles.specs.declared.Profile.{Profile}
use Rattle.visual.specs.declared.Visual.{Visual}

-- the avcC in the first sample entry
unfoldable pub part_of : List ℕ → List ℕ
part_of t = avc1.avcc_of (entry_of t)

-- what is told of it: by an avc1 that is read, and by the type of the entry
abbrev pub entered : List ℕ → Result Visual Refusal → Result (Avcc × Places) Refusal
entered part (Ok m) = needed Err kinds.avcc part (avcc.avcc_of part)
entered part (Err q) = Err q

unfoldable pub entered_of : List ℕ → Result (Avcc × Places) Refusal
entered_of t = entered (part_of t) (avc1.avc1_of (entry_of t))

abbrev pub typed : List ℕ → Result ℕ Refusal → Result (Avcc × Places) Refusal
typed t (Ok letters) = when (eqb letters kinds.avc1) (entered_of t) (Err (refusal.Missing kinds.avc1))
typed t (Err q) = Err q

unfoldable pub config_of : List ℕ → Result (Avcc × Places) Refusal
config_of t = typed t (kind_in t)

abbrev pub profiled : Result (Avcc × Places) Refusal → Result Profile Refusal
profiled (Ok (m, p)) = profiles.profile_of m.profile m.compatibility
profiled (Err q) = Err q

abbrev pub profile_of : List ℕ → Result Profile Refusal
profile_of t = profiled (config_of t)

-- the i-th set of either list, counted from 0
abbrev pub sps_of : ℕ → List ℕ → List ℕ
sps_of i t = avcc.sps_of i (part_of t)

abbrev pub pps_of : ℕ → List ℕ → List ℕ
pps_of i t = avcc.pps_of i (part_of t)

-- whether there is an i-th of so many sets, and of those that an avcC counts
abbrev pub has_set : ℕ → ℕ → Result (Unit {0}) Refusal
has_set i count = when (ltb i count) (Ok tt) (Err (refusal.NoSample i))

abbrev pub among_sps : ℕ → Result (Avcc × Places) Refusal → Result (Unit {0}) Refusal
among_sps i (Ok (m, p)) = has_set i m.sps
among_sps i (Err q) = Err q

abbrev pub sps_fault : ℕ → List ℕ → Result (Unit {0}) Refusal
sps_fault i t = among_sps i (config_of t)

abbrev pub among_pps : ℕ → Result (Avcc × Places) Refusal → Result (Unit {0}) Refusal
among_pps i (Ok (m, p)) = has_set i m.pps
among_pps i (Err q) = Err q

abbrev pub pps_fault : ℕ → List ℕ → Result (Unit {0}) Refusal
pps_fault i t = among_pps i (config_of t)
