-- Worked examples: cases 1 and 2 of document 01 as lookups, on the bytes of tables' own examples. Assumes nothing.
use Rattle.std.specs.Prelude.{Result, Ok, Err, None}
use Prim.Native.Nat.{ℕ}
use mathlib.Core.Path.{◌≡◌, refl}
use mathlib.Core.List.{[], ◌∷◌}
use mathlib.Core.Bool.{true, false}
use lib.IntN.{ℤ, pos, negsuc}
use lib.ListN.{length}
use Rattle.numbers.specs.Number.{be, bytes}
use Rattle.numbers.specs.Field.{field, when}
use Rattle.numbers.specs.declared.Refusal.TheVariants as refusal
use Rattle.signed.specs.Signed.{signed}
use Rattle.samples.specs.Lists.{lookup_of, bytes_of}
use Rattle.tables.specs.Tables.{pair_at, group_at, offset_at, size_at, number_at, those}
use Rattle.tables.specs.Samples.{sync_at, samples_of}
use Rattle.tables.specs.declared.Track.{Track}
use Rattle.tables.proofs.Vectors.{file, track, common}
use Rattle.lookup.specs.Lookup.{sync_of}
use Rattle.samples.specs.declared.Located.{Located}
use Rattle.numbers.specs.declared.Refusal.{Refusal}

abbrev is : ℕ → ℕ → ℕ → ℕ → ℤ → Result Located Refusal
is o z m d c = Ok (record { offset = o; size = z; time = m; duration = d; composition = c })

-- stts (3,1000)(3,500); stsc (1,2)(3,1) with chunks at 48, 78, 148, 198; sizes 10 to 60 by tens
pub case-1-first : lookup_of (samples_of file track) 1 ≡ is 48 10 0 1000 (pos 7)
unfolding be bytes field when signed pair_at group_at offset_at size_at number_at lookup_of
case-1-first = refl

pub case-1-second : lookup_of (samples_of file track) 2 ≡ is 58 20 1000 1000 (negsuc 1)
unfolding be bytes field when signed pair_at group_at offset_at size_at number_at lookup_of
case-1-second = refl

pub case-1-third : lookup_of (samples_of file track) 3 ≡ is 78 30 2000 1000 (pos 0)
unfolding be bytes field when signed pair_at group_at offset_at size_at number_at lookup_of
case-1-third = refl

pub case-1-fourth : lookup_of (samples_of file track) 4 ≡ is 108 40 3000 500 (pos 0)
unfolding be bytes field when signed pair_at group_at offset_at size_at number_at lookup_of
case-1-fourth = refl

pub case-1-fifth : lookup_of (samples_of file track) 5 ≡ is 148 50 3500 500 (pos 0)
unfolding be bytes field when signed pair_at group_at offset_at size_at number_at lookup_of
case-1-fifth = refl

pub case-1-sixth : lookup_of (samples_of file track) 6 ≡ is 198 60 4000 500 (pos 0)
unfolding be bytes field when signed pair_at group_at offset_at size_at number_at lookup_of
case-1-sixth = refl

-- sample 7 is 11; so is 0
pub case-1-seventh : lookup_of (samples_of file track) 7 ≡ Err (refusal.NoSample 7)
unfolding be bytes field when signed pair_at group_at offset_at size_at number_at lookup_of
case-1-seventh = refl

pub case-1-zeroth : lookup_of (samples_of file track) 0 ≡ Err (refusal.NoSample 0)
unfolding be bytes field when signed pair_at group_at offset_at size_at number_at lookup_of
case-1-zeroth = refl

case_count : length (samples_of file track) ≡ 6
unfolding be bytes field when signed pair_at group_at offset_at size_at number_at
case_count = refl

pub case-2-bytes : bytes_of (samples_of file track) ≡ 210
unfolding be bytes field when signed pair_at group_at offset_at size_at number_at
case-2-bytes = refl

-- a common size of 5 answers three times, as often as stsz counts
case-common-bytes : bytes_of (samples_of file common) ≡ 15
unfolding be bytes field when signed pair_at group_at offset_at size_at number_at
case-common-bytes = refl

case-common-past : lookup_of (samples_of file common) 4 ≡ Err (refusal.NoSample 4)
unfolding be bytes field when signed pair_at group_at offset_at size_at number_at lookup_of
case-common-past = refl

-- two chunks, the first 16 bytes before 2^64, the second at 0, where the file ends
abbrev wide : Track
wide = record {
  stts = record { at = 0; count = 2 };
  ctts = None;
  stsc = record { at = 16; count = 2 };
  stsz = record { at = 40; count = 6; common = 0 };
  stco = record { at = 104; count = 2; wide = true };
  stss = None;
}

-- the second sample ends past 2^64 (9); the third is found all the same
case-over : lookup_of (samples_of file wide) 2 ≡ Err refusal.Overflow
unfolding be bytes field when signed pair_at group_at offset_at size_at number_at lookup_of
case-over = refl

case-after-over : lookup_of (samples_of file wide) 3 ≡ is 0 30 2000 1000 (pos 0)
unfolding be bytes field when signed pair_at group_at offset_at size_at number_at lookup_of
case-after-over = refl

-- stss lists 1 and 4
case-sync : sync_of (samples_of file track) 4 ≡ Ok true
unfolding be bytes field when signed pair_at group_at offset_at size_at number_at sync_of
case-sync = refl

case-no-sync : sync_of (samples_of file track) 5 ≡ Ok false
unfolding be bytes field when signed pair_at group_at offset_at size_at number_at sync_of
case-no-sync = refl

case-sync-past : sync_of (samples_of file track) 7 ≡ Err (refusal.NoSample 7)
unfolding be bytes field when signed pair_at group_at offset_at size_at number_at sync_of
case-sync-past = refl

case-sync-zero : sync_of (samples_of file track) 0 ≡ Err (refusal.NoSample 0)
unfolding be bytes field when signed pair_at group_at offset_at size_at number_at sync_of
case-sync-zero = refl

-- a list counts as far as it rises: 5 comes after a number that does not
case-risen : sync_at (those (1 ∷ 4 ∷ 2 ∷ 5 ∷ [])) 4 ≡ true
unfolding when
case-risen = refl

case-not-risen : sync_at (those (1 ∷ 4 ∷ 2 ∷ 5 ∷ [])) 5 ≡ false
unfolding when
case-not-risen = refl
