-- The sample sizes (ISO/IEC 14496-12, 8.7.3.2): a size that all samples have in common, or 0, a count, and where it is
-- 0 as many sizes. Assumes nothing.
use Rattle.std.specs.Prelude.{ℕ, ◌+◌, ◌*◌, List, [], ◌∷◌, get_or, eqb, Result, Ok, Err}
use Rattle.numbers.specs.Field.{field}
use Rattle.put.specs.Put.{Wrote}
use Rattle.layout.specs.Read.{read_of}
use Rattle.layout.specs.Write.{padded, slotted}
use Rattle.layout.specs.Table.{tabled, write_table}
use Rattle.layout.specs.declared.Field.{Field}
use Rattle.layout.specs.declared.Field.TheVariants.{Number, Version, Flags}
use Rattle.stsz.specs.declared.Stsz.{Stsz}
use Rattle.numbers.specs.Field.{when}
use Rattle.numbers.specs.declared.Refusal.{Refusal}

abbrev pub kind : ℕ
kind = 0x7374737a

abbrev pub fields : List Field
fields = padded (Version 0 0 ∷ Flags ∷ Number 4 ∷ Number 4 ∷ [])

-- the record from its slots, and back
abbrev pub from : List ℕ → Stsz
from v = record { version = get_or v 0 0; flags = get_or v 1 0; sample_size = get_or v 2 0; count = get_or v 3 0 }

abbrev pub to : Stsz → List ℕ
to m = slotted (m.version ∷ m.flags ∷ m.sample_size ∷ m.count ∷ [])

-- how many sizes are listed
abbrev pub listed_of : ℕ → ℕ → ℕ
listed_of common count = when (eqb common 0) count 0

abbrev pub cells : Stsz → ℕ
cells m = listed_of m.sample_size m.count

abbrev pub stsz_of : List ℕ → Result (Stsz × ℕ) Refusal
stsz_of part = tabled from cells 4 part (read_of kind fields part)

abbrev pub stsz_in : Stsz → List ℕ → List ℕ → Wrote
stsz_in m entries out = write_table kind fields (to m) (cells m * 4) entries out

-- the i-th size
abbrev pub entry_of : List ℕ → ℕ → Result ℕ Refusal
entry_of entries i = field Err 4 entries (i * 4) Ok
