-- The fields of an ES_Descriptor (ISO/IEC 14496-1, 7.2.6.5): the stream's number and flags; by the flags the stream that
-- it depends on (0x80), a URL with its length (0x40) and the stream that has its clock (0x20). A field that is cut is 1 at
-- its first byte. The bytes end where the descriptor does. A29. Assumes nothing.
use Rattle.std.specs.Prelude.{ℕ, ◌+◌, ◌/◌, ◌%◌, ◌^◌, List, ◌++◌, Bool, ◌&&◌, length, eqb, ltb, Result, Ok, Err}
use Rattle.numbers.specs.Number.{bytes}
use Rattle.numbers.specs.Field.{field, when}
use Rattle.numbers.specs.declared.Refusal.TheVariants as refusal
use Rattle.put.specs.Put.{Wrote, wrote, placed}
use Rattle.esfields.specs.declared.Stream.{Stream}
use Rattle.numbers.specs.declared.Refusal.{Refusal}

-- a bit of the flags, and how many bytes a field has that is there with it
abbrev pub is_set : ℕ → ℕ → Bool
is_set flags bit = eqb (flags / bit % 2) 1

abbrev pub wide : ℕ → ℕ → ℕ → ℕ
wide flags bit w = when (is_set flags bit) w 0

abbrev pub stream : ℕ → ℕ → ℕ → ℕ → Stream
stream i fl d o = record { id = i; flags = fl; depends_on = d; ocr_id = o }

-- READING

-- a field that is not there has no bytes, and is 0
abbrev pub fields_of : List ℕ → ℕ → Result (Stream × ℕ × ℕ × ℕ) Refusal
fields_of s at =
    field Err 2 s at
    (λ i. field Err 1 s (at + 2)
    (λ fl. field Err (wide fl 0x80 2) s (at + 3)
    (λ d. field Err (wide fl 0x40 1) s (at + 3 + wide fl 0x80 2)
    (λ n. field Err n s (at + 3 + wide fl 0x80 2 + wide fl 0x40 1)
    (λ u. field Err (wide fl 0x20 2) s (at + 3 + wide fl 0x80 2 + wide fl 0x40 1 + n)
    (λ o. Ok (
      stream i fl d o,
      at + 3 + wide fl 0x80 2 + wide fl 0x40 1,
      at + 3 + wide fl 0x80 2 + wide fl 0x40 1 + n,
      at + 3 + wide fl 0x80 2 + wide fl 0x40 1 + n + wide fl 0x20 2,
    )))))))

-- WRITING

-- each number has its bytes; so one that is not there is 0, and a URL that is not there is empty
abbrev pub has : ℕ → ℕ → Bool
has w n = ltb n (256 ^ w)

abbrev pub sound : Stream → List ℕ → Bool
sound m url =
    has 2 m.id && has 1 m.flags && has (wide m.flags 0x80 2) m.depends_on && has (wide m.flags 0x40 1) (length url)
    && has (wide m.flags 0x20 2) m.ocr_id

abbrev pub field_bytes : Stream → List ℕ → List ℕ
field_bytes m url =
    bytes 2 m.id ++ bytes 1 m.flags ++ bytes (wide m.flags 0x80 2) m.depends_on ++ bytes (wide m.flags 0x40 1) (length url) ++ url
    ++ bytes (wide m.flags 0x20 2) m.ocr_id

abbrev pub size_of : Stream → List ℕ → Result ℕ Refusal
size_of m url = when (sound m url) (Ok (length (field_bytes m url))) (Err refusal.Unwritable)

abbrev pub fields_in : Stream → List ℕ → ℕ → List ℕ → Wrote
fields_in m url at out = when (sound m url) (placed (field_bytes m url) (length (field_bytes m url)) at out) (wrote (Err refusal.Unwritable) out)
