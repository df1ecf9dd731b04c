-- A box's header (ISO/IEC 14496-12, 4.2): its size and type, and a 64-bit size where the size is 1. The bytes end
-- where the parent does. Where several faults stand at one position the smaller number is told, so a size is judged
-- as soon as it is known (A5). Stricter than the standard: a box that passes its parent is refused. Assumes nothing.
use Rattle.std.specs.Prelude.{ℕ, ◌+◌, ◌-◌, ◌^◌, List, ◌++◌, Bool, length, leb, ltb, eqb, Result, Ok, Err}
use Rattle.numbers.specs.Number.{be, bytes}
use Rattle.numbers.specs.Field.{field, when}
use Rattle.numbers.specs.declared.Refusal.TheVariants as refusal
use Rattle.put.specs.Put.{Wrote, wrote, placed}
use Rattle.boxes.specs.declared.header.Header.{Header}
use Rattle.numbers.specs.declared.Refusal.{Refusal}

abbrev pub header : ℕ → ℕ → ℕ → Header
header kind size length = record { kind = kind; size = size; length = length }

-- a size passes the parent (1) or is smaller than the header (2), both at the box's first byte; else on
abbrev pub within : {A : Type 0} → List ℕ → ℕ → ℕ → ℕ → Result A Refusal → Result A Refusal
within s at size least on = when (ltb (length s - at) size) (Err (refusal.Cut at)) (when (ltb size least) (Err (refusal.Size at)) on)

-- the size is known, and the type follows it
abbrev pub typed_of : List ℕ → ℕ → ℕ → Result Header Refusal
typed_of s at size = field Err 4 s (at + 4) (λ kind. Ok (header kind size 8))

-- the type, then the size in 64 bits
abbrev pub large_of : List ℕ → ℕ → Result Header Refusal
large_of s at = field Err 4 s (at + 4) (λ kind. field Err 8 s (at + 8) (λ size. within s at size 16 (Ok (header kind size 16))))

-- size 1: in 64 bits; size 0: to the end, at the top alone; else the size itself
abbrev pub header_of : List ℕ → ℕ → Bool → Result Header Refusal
header_of s at top =
    field Err 4 s at
    (λ n.
    when (eqb n 1) (large_of s at)
    (when (eqb n 0) (when top (typed_of s at (length s - at)) (Err (refusal.Size at)))
    (within s at n 8 (typed_of s at n))))

-- the bytes of a header: the 16-byte form only where the size needs it
abbrev pub plain_bytes : ℕ → ℕ → List ℕ
plain_bytes kind size = bytes 4 size ++ bytes 4 kind

abbrev pub large_bytes : ℕ → ℕ → List ℕ
large_bytes kind size = bytes 4 1 ++ bytes 4 kind ++ bytes 8 size

-- a header at `at`; 13 where the size is smaller than the header
abbrev pub header_in : ℕ → ℕ → ℕ → List ℕ → Wrote
header_in kind size at out =
    when (ltb size 8) (wrote (Err refusal.Unwritable) out)
    (when (ltb size (2 ^ 32)) (placed (plain_bytes kind size) 8 at out) (placed (large_bytes kind size) 16 at out))

-- how long the header of a box of this size is written
abbrev pub length_for : ℕ → ℕ
length_for size = when (ltb size (2 ^ 32)) 8 16

-- a header that was read is as we write it: its size is not 0, nor in 64 bits without need (document 01, Canonical)
abbrev pub canonical : List ℕ → ℕ → Header → Bool
canonical s at h = when (eqb h.length 8) (eqb (be 4 s at) h.size) (leb (2 ^ 32) h.size)
