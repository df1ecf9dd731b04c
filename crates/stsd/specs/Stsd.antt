-- How the samples of a track are coded (ISO/IEC 14496-12, 8.5.2): how many sample entries there are, and then their
-- boxes, to the box's end. Whether there are as many as the count says is told by the tree of boxes (A47).
-- Assumes nothing.
use Rattle.std.specs.Prelude.{ℕ, List, [], ◌∷◌, get_or, leb, Result, Ok, Err}
use Rattle.numbers.specs.Field.{when}
use Rattle.put.specs.Put.{Wrote}
use Rattle.layout.specs.Read.{read_of, answer, rest_of}
use Rattle.layout.specs.Write.{write_of, padded, slotted}
use Rattle.layout.specs.declared.Field.{Field}
use Rattle.layout.specs.declared.Field.TheVariants.{Number, Version, Flags}
use Rattle.children.specs.Children.{nth_of}
use Rattle.stsd.specs.declared.Stsd.{Stsd}
use Rattle.numbers.specs.declared.Refusal.{Refusal}

abbrev pub kind : ℕ
kind = 0x73747364

abbrev pub fields : List Field
fields = padded (Version 0 0 ∷ Flags ∷ Number 4 ∷ [])

-- the record from its slots, and back
abbrev pub from : List ℕ → Stsd
from v = record { version = get_or v 0 0; flags = get_or v 1 0; count = get_or v 2 0 }

abbrev pub to : Stsd → List ℕ
to m = slotted (m.version ∷ m.flags ∷ m.count ∷ [])

abbrev pub stsd_of : List ℕ → Result Stsd Refusal
stsd_of part = answer from (read_of kind fields part)

abbrev pub entries_of : List ℕ → List ℕ
entries_of part = rest_of (read_of kind fields part) part

-- the i-th sample entry, of a box that is read and counts it
abbrev pub counted : List ℕ → ℕ → Result Stsd Refusal → List ℕ
counted entries i (Ok m) = when (leb m.count i) [] (nth_of i entries)
counted entries i (Err q) = []

abbrev pub entry_of : List ℕ → ℕ → List ℕ
entry_of part i = counted (entries_of part) i (stsd_of part)

abbrev pub stsd_in : Stsd → List ℕ → List ℕ → Wrote
stsd_in m entries out = write_of kind fields (to m) entries out
