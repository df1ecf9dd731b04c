-- The track fragment run (ISO/IEC 14496-12, 8.8.8): a count of samples, where their data begin, the flags of the first
-- one, and for each sample those of its four values whose flags are set. Assumes nothing.
use Rattle.std.specs.Prelude.{ℕ, ◌+◌, ◌*◌, List, [], ◌∷◌, get_or, ℤ, pos, eqb, Result, Option, Ok, Err, Some, None}
use Rattle.numbers.specs.Field.{field, when}
use Rattle.numbers.specs.declared.Refusal.{Refusal}
use Rattle.signed.specs.Signed.{signed}
use Rattle.put.specs.Put.{Wrote}
use Rattle.layout.specs.Rule.{is_set}
use Rattle.layout.specs.Read.{read_of}
use Rattle.layout.specs.Write.{padded, slotted}
use Rattle.layout.specs.Table.{tabled, write_table}
use Rattle.layout.specs.declared.Field.{Field}
use Rattle.layout.specs.declared.Field.TheVariants.{Number, Optional, Version, Flags}
use Rattle.trun.specs.declared.Trun.{Trun}
use Rattle.trun.specs.declared.Sample.{Sample}

abbrev pub kind : ℕ
kind = 0x7472756e

-- the flags with which a value is there
abbrev pub data_offset_bit : ℕ
data_offset_bit = 0x1

abbrev pub first_flags_bit : ℕ
first_flags_bit = 0x4

abbrev pub duration_bit : ℕ
duration_bit = 0x100

abbrev pub size_bit : ℕ
size_bit = 0x200

abbrev pub flags_bit : ℕ
flags_bit = 0x400

abbrev pub composition_bit : ℕ
composition_bit = 0x800

abbrev pub fields : List Field
fields = padded (Version 0 1 ∷ Flags ∷ Number 4 ∷ Optional 4 data_offset_bit ∷ Optional 4 first_flags_bit ∷ [])

-- the record from its slots, and back
abbrev pub from : List ℕ → Trun
from v = record { version = get_or v 0 0; flags = get_or v 1 0; sample_count = get_or v 2 0; data_offset = get_or v 3 0; first_sample_flags = get_or v 4 0 }

abbrev pub to : Trun → List ℕ
to m = slotted (m.version ∷ m.flags ∷ m.sample_count ∷ m.data_offset ∷ m.first_sample_flags ∷ [])

-- how many values of a flag a sample has: one, or none
abbrev pub present : ℕ → ℕ → ℕ
present flags bit = when (is_set flags bit) 1 0

-- how many values a sample has
abbrev pub per_sample : ℕ → ℕ
per_sample flags = present flags duration_bit + present flags size_bit + present flags flags_bit + present flags composition_bit

-- how many values n samples have
abbrev pub cells_of : ℕ → ℕ → ℕ
cells_of flags n = n * per_sample flags

abbrev pub cells : Trun → ℕ
cells m = cells_of m.flags m.sample_count

abbrev pub trun_of : List ℕ → Result (Trun × ℕ) Refusal
trun_of part = tabled from cells 4 part (read_of kind fields part)

abbrev pub trun_in : Trun → List ℕ → List ℕ → Wrote
trun_in m entries out = write_table kind fields (to m) (cells m * 4) entries out

-- the data offset, where it is there: two's complement
abbrev pub offset_of : Trun → Option ℤ
offset_of m = when (is_set m.flags data_offset_bit) (Some (signed 4 m.data_offset)) None

-- a composition offset: any number in version 0, two's complement from version 1 on (A49)
abbrev pub composition_of : ℕ → ℕ → ℤ
composition_of version n = when (eqb version 0) (pos n) (signed 4 n)

-- a value at `at`, and on with it; 0 where its flag is not set
unfoldable pub optional : {A : Type 0} → (Refusal → A) → ℕ → ℕ → List ℕ → ℕ → (ℕ → A) → A
optional refused flags bit s at go = when (is_set flags bit) (field refused 4 s at go) (go 0)

-- the sample at `at`: each value lies behind those that are there
abbrev pub sample_at : ℕ → ℕ → List ℕ → ℕ → Result Sample Refusal
sample_at version flags s at =
    optional Err flags duration_bit s at
    (λ d. optional Err flags size_bit s (at + present flags duration_bit * 4)
    (λ z. optional Err flags flags_bit s (at + present flags duration_bit * 4 + present flags size_bit * 4)
    (λ f. optional Err flags composition_bit s (at + present flags duration_bit * 4 + present flags size_bit * 4 + present flags flags_bit * 4)
    (λ o. Ok (record { duration = d; size = z; flags = f; composition_offset = composition_of version o })))))

-- the i-th sample
abbrev pub entry_of : Trun → List ℕ → ℕ → Result Sample Refusal
entry_of m entries i = sample_at m.version m.flags entries (cells_of m.flags i * 4)
