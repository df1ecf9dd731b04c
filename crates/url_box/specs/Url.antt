-- Where the media data of a track lie (ISO/IEC 14496-12, 8.7.2): flag 1 says in the same file; the location is the
-- rest of the box. Assumes nothing.
use Rattle.std.specs.Prelude.{ℕ, List, [], ◌∷◌, get_or, Result}
use Rattle.put.specs.Put.{Wrote}
use Rattle.layout.specs.Read.{read_of, answer, rest_of}
use Rattle.layout.specs.Write.{write_of, padded, slotted}
use Rattle.layout.specs.declared.Field.{Field}
use Rattle.layout.specs.declared.Field.TheVariants.{Version, Flags}
use Rattle.url_box.specs.declared.Url.{Url}
use Rattle.numbers.specs.declared.Refusal.{Refusal}

abbrev pub kind : ℕ
kind = 0x75726c20

abbrev pub fields : List Field
fields = padded (Version 0 0 ∷ Flags ∷ [])

-- the record from its slots, and back
abbrev pub from : List ℕ → Url
from v = record { version = get_or v 0 0; flags = get_or v 1 0 }

abbrev pub to : Url → List ℕ
to m = slotted (m.version ∷ m.flags ∷ [])

abbrev pub url_of : List ℕ → Result Url Refusal
url_of part = answer from (read_of kind fields part)

abbrev pub location_of : List ℕ → List ℕ
location_of part = rest_of (read_of kind fields part) part

abbrev pub url_in : Url → List ℕ → List ℕ → Wrote
url_in m location out = write_of kind fields (to m) location out
