-- The values of a run's samples (ISO/IEC 14496-12, 8.8.8): a sample's own where the trun's flag is set, else the run's.
-- An entry that the file does not hold whole says zeros of its sample: no trun that was read has one, only a run that
-- was made up. Assumes nothing.
use Rattle.std.specs.Prelude.{ℕ, List, Bool, true, false, drop, pos, eqb, Result, Ok, Err}
use Rattle.numbers.specs.Field.{when}
use Rattle.layout.specs.Rule.{is_set}
use Rattle.trun.specs.Trun.{entry_of, first_flags_bit, duration_bit, size_bit, flags_bit}
use Rattle.trun.specs.declared.Sample.{Sample}
use Rattle.runs.specs.declared.Run.{Run}
use Rattle.numbers.specs.declared.Refusal.{Refusal}

abbrev pub or_zeros : Result Sample Refusal → Sample
or_zeros (Ok s) = s
or_zeros (Err q) = record { duration = 0; size = 0; flags = 0; composition_offset = pos 0 }

-- what the i-th sample says of itself, counted from 0
unfoldable pub own_of : List ℕ → Run → ℕ → Sample
own_of f r i = or_zeros (entry_of r.trun (drop r.at f) i)

unfoldable pub duration_at : List ℕ → Run → ℕ → ℕ
duration_at f r i = when (is_set r.trun.flags duration_bit) (own_of f r i).duration r.duration

unfoldable pub size_at : List ℕ → Run → ℕ → ℕ
size_at f r i = when (is_set r.trun.flags size_bit) (own_of f r i).size r.size

-- its own flags; else, of the first sample, those that the trun has for it; else the run's (A31)
unfoldable pub flags_by : Run → ℕ → ℕ → ℕ
flags_by r mine i =
    when (is_set r.trun.flags flags_bit) mine
    (when (eqb i 0) (when (is_set r.trun.flags first_flags_bit) r.trun.first_sample_flags r.flags) r.flags)

abbrev pub flags_at : List ℕ → Run → ℕ → ℕ
flags_at f r i = flags_by r (own_of f r i).flags i

-- the flag of a sample that is not sync (8.8.3.1)
abbrev pub not_sync_bit : ℕ
not_sync_bit = 0x10000

abbrev pub sync_by : ℕ → Bool
sync_by flags = when (is_set flags not_sync_bit) false true
