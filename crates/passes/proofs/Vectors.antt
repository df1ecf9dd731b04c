-- Worked examples of the definition: samples by their sizes and durations, and the tables of cases 1 and 2 of document 01.
-- Assumes nothing.
use Prim.Native.Nat.{ℕ}
use mathlib.Core.Path.{◌≡◌, refl}
use mathlib.Core.List.{[], ◌∷◌}
use mathlib.Core.Bool.{true}
use lib.IntN.{pos}
use Rattle.numbers.specs.Number.{be, bytes}
use Rattle.numbers.specs.Field.{field, when}
use Rattle.signed.specs.Signed.{signed}
use Rattle.samples.specs.declared.Sample.{Sample}
use Rattle.tables.specs.Tables.{pair_at, group_at, offset_at, size_at, number_at}
use Rattle.tables.specs.Samples.{samples_of}
use Rattle.tables.specs.declared.Track.{Track}
use Rattle.tables.proofs.Vectors.{file, track, common, high}
use Rattle.verdicts.specs.Findings.{claim, F2, F3}
use Rattle.passes.specs.Passed.{passed_of, of_sample, before_zero}
use Rattle.passes.specs.declared.Passed.TheVariants.{Over, Fine, Found}

-- a sample of that number, size and duration
abbrev pub sample : ℕ → ℕ → ℕ → Sample
sample n z d = record { number = n; offset = 100; size = z; time = 0; duration = d; composition = pos 0; sync = true }

-- one that ends past 2^64 - 1
abbrev pub far : ℕ → Sample
far n = record { number = n; offset = 0xffff_ffff_ffff_ffff; size = 1; time = 0; duration = 1; composition = pos 0; sync = true }

case-none : passed_of 7 [] ≡ Fine 0
unfolding passed_of when
case-none = refl

case-fine : passed_of 7 (sample 1 10 5 ∷ sample 2 20 5 ∷ []) ≡ Fine 2
unfolding passed_of when
case-fine = refl

-- the last sample may last no time, and not be empty
case-last-idle : passed_of 7 (sample 1 10 5 ∷ sample 2 20 0 ∷ []) ≡ Fine 2
unfolding passed_of when
case-last-idle = refl

case-one-idle : passed_of 7 (sample 1 10 0 ∷ []) ≡ Fine 1
unfolding passed_of when
case-one-idle = refl

case-last-empty : passed_of 7 (sample 1 10 5 ∷ sample 2 0 5 ∷ []) ≡ Found (of_sample 2 7 2)
unfolding passed_of when
case-last-empty = refl

case-middle-idle : passed_of 7 (sample 1 10 5 ∷ sample 2 20 0 ∷ sample 3 30 5 ∷ []) ≡ Found (of_sample 3 7 2)
unfolding passed_of when
case-middle-idle = refl

-- F2 comes before F3 at one sample; else the sample that comes first
case-both : passed_of 7 (sample 1 10 5 ∷ sample 2 0 0 ∷ sample 3 30 5 ∷ []) ≡ Found (of_sample 2 7 2)
unfolding passed_of when
case-both = refl

case-idle-first : passed_of 7 (sample 1 10 0 ∷ sample 2 0 5 ∷ sample 3 30 5 ∷ []) ≡ Found (of_sample 3 7 1)
unfolding passed_of when
case-idle-first = refl

case-empty-first : passed_of 7 (sample 1 0 5 ∷ sample 2 20 0 ∷ sample 3 30 5 ∷ []) ≡ Found (of_sample 2 7 1)
unfolding passed_of when
case-empty-first = refl

-- a sample that does not fit is told before any finding
case-over : passed_of 7 (sample 1 0 0 ∷ far 2 ∷ []) ≡ Over
unfolding passed_of when
case-over = refl

case-F2 : F2 (claim 7 (sample 4 0 5)) ≡ of_sample 2 7 4
case-F2 = refl

case-F3 : F3 (claim 7 (sample 4 10 0)) ≡ of_sample 3 7 4
case-F3 = refl

-- TABLES

case-1-and-2 : passed_of 7 (samples_of file track) ≡ Fine 6
unfolding passed_of be bytes field when signed pair_at group_at offset_at size_at number_at
case-1-and-2 = refl

case-common : passed_of 7 (samples_of file common) ≡ Fine 3
unfolding passed_of be bytes field when signed pair_at group_at offset_at size_at number_at
case-common = refl

case-high : passed_of 7 (samples_of file high) ≡ Over
unfolding passed_of be bytes field when signed pair_at group_at offset_at size_at number_at
case-high = refl

-- sizes read behind the file's end are 0: the file has two of six, where they begin at its byte 104
abbrev short : Track
short = record {
  stts = track.stts;
  ctts = track.ctts;
  stsc = track.stsc;
  stsz = record { at = 104; count = 6; common = 0 };
  stco = track.stco;
  stss = track.stss;
}

case-short : passed_of 7 (samples_of file short) ≡ Found (of_sample 2 7 3)
unfolding passed_of be bytes field when signed pair_at group_at offset_at size_at number_at
case-short = refl

case-before : before_zero (3 ∷ 4 ∷ 0 ∷ 0 ∷ []) ≡ 2
unfolding when
case-before = refl

case-before-none : before_zero (3 ∷ 4 ∷ []) ≡ 2
unfolding when
case-before-none = refl
