-- Whether the sample of a number is sync (ISO/IEC 14496-12, 8.6.2), of any list of samples; and what the private
-- functions of the lookup promise. The sample itself, the count and the bytes of all are defined in samples. Assumes
-- nothing.
use Rattle.std.specs.Prelude.{ℕ, zero, suc, List, [], ◌∷◌, Bool, drop, Result, Option, Ok, Err}
use Rattle.numbers.specs.declared.Refusal.TheVariants as refusal
use Rattle.signed.specs.Signed.{signed}
use Rattle.samples.specs.declared.Sample.{Sample}
use Rattle.tables.specs.Tables.{shifts, syncs}
use Rattle.tables.specs.Samples.{first_or, sync_at}
use Rattle.tables.specs.declared.Track.{Track}
use Rattle.tables.specs.declared.Table.{Table}
use Rattle.numbers.specs.declared.Refusal.{Refusal}

-- the flag of the first of the samples from number k on
abbrev pub flagged : ℕ → List Sample → Result Bool Refusal
flagged k [] = Err (refusal.NoSample k)
flagged k (s ∷ l) = Ok s.sync

-- the flag of the sample of that number, counted from 1: 11 with the number where there is none (A14)
unfoldable pub sync_of : List Sample → ℕ → Result Bool Refusal
sync_of l zero = Err (refusal.NoSample 0)
sync_of l (suc n) = flagged (suc n) (drop n l)

-- INSIDE

-- the composition offset of sample k, counted from 0, as 32 bits
abbrev pub shift_at : List ℕ → Option Table → ℕ → ℕ
shift_at f o k = first_or 0 (drop k (shifts f o))

-- sample k, counted from 0, where its number, place, size, time and duration are known
abbrev pub sample_at : List ℕ → Track → ℕ → ℕ → ℕ → ℕ → ℕ → ℕ → Sample
sample_at f t k n at z m d =
    record {
      number = n;
      offset = at;
      size = z;
      time = m;
      duration = d;
      composition = signed 4 (shift_at f t.ctts k);
      sync = sync_at (syncs f t.stss) n;
    }
