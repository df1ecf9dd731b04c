-- The edit list (ISO/IEC 14496-12, 8.6.6): a count, and as many edits, with times of 4 bytes in version 0 and of 8 in
-- version 1. A media time of -1 is an empty edit; below it is 8. Assumes nothing.
use Rattle.std.specs.Prelude.{ℕ, ◌+◌, ◌*◌, List, [], ◌∷◌, get_or, eqb, Result, Ok, Err}
use Rattle.numbers.specs.Field.{field}
use Rattle.put.specs.Put.{Wrote}
use Rattle.layout.specs.Read.{read_of}
use Rattle.layout.specs.Write.{padded, slotted}
use Rattle.layout.specs.declared.Field.{Field}
use Rattle.layout.specs.declared.Field.TheVariants.{Number, Version, Flags}
use Rattle.rows.specs.Rows.{entries_of}
use Rattle.rows.specs.Judge.{judged_of, write_judged}
use Rattle.rows.specs.declared.Cell.{Cell}
use Rattle.rows.specs.declared.Cell.TheVariants.{Any, Time}
use Rattle.elst.specs.declared.Elst.{Elst}
use Rattle.numbers.specs.Field.{when}
use Rattle.signed.specs.Signed.{signed}
use Rattle.elst.specs.declared.Edit.{Edit}
use Rattle.numbers.specs.declared.Refusal.{Refusal}

abbrev pub kind : ℕ
kind = 0x656c7374

abbrev pub fields : List Field
fields = padded (Version 0 1 ∷ Flags ∷ Number 4 ∷ [])

-- the record from its slots, and back
abbrev pub from : List ℕ → Elst
from v = record { version = get_or v 0 0; flags = get_or v 1 0; count = get_or v 2 0 }

abbrev pub to : Elst → List ℕ
to m = slotted (m.version ∷ m.flags ∷ m.count ∷ [])

-- how many bytes a time has
abbrev pub width : ℕ → ℕ
width version = when (eqb version 1) 8 4

-- an edit: its duration, its media time, and the whole and the part of its rate
abbrev pub cells : ℕ → List Cell
cells version = when (eqb version 1) (Any 8 ∷ Time 8 ∷ Any 2 ∷ Any 2 ∷ []) (Any 4 ∷ Time 4 ∷ Any 2 ∷ Any 2 ∷ [])

-- how many bytes an edit has
abbrev pub edit : ℕ → ℕ
edit version = width version * 2 + 4

abbrev pub size : Elst → ℕ
size m = m.count * edit m.version

-- how its entries are judged, from a position on
abbrev pub judge : Elst → List ℕ → ℕ → Result (Unit {0}) Refusal
judge m b at = entries_of m.count (cells m.version) b at 0

abbrev pub elst_of : List ℕ → Result (Elst × ℕ) Refusal
elst_of part = judged_of from judge part (read_of kind fields part)

abbrev pub elst_in : Elst → List ℕ → List ℕ → Wrote
elst_in m entries out = write_judged kind fields (to m) (size m) (judge m entries 0) entries out

-- an edit with times of w bytes
abbrev pub edit_of : ℕ → List ℕ → ℕ → Result Edit Refusal
edit_of w s at =
    field Err w s at
    (λ d. field Err w s (at + w)
    (λ t. field Err 2 s (at + w + w)
    (λ r. field Err 2 s (at + w + w + 2)
    (λ f. Ok (record { segment_duration = d; media_time = signed w t; media_rate = signed 2 r; media_rate_fraction = signed 2 f })))))

-- the i-th edit
abbrev pub entry_of : List ℕ → ℕ → ℕ → Result Edit Refusal
entry_of entries version i = edit_of (width version) entries (i * edit version)
