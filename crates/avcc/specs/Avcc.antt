-- The configuration of an AVC decoder (ISO/IEC 14496-15, 5.3.3.1): a version, which is 1 (A28), profile, compatibility and
-- level; a byte whose lower 2 bits are the size of lengths less one, and one whose lower 5 bits are the number of
-- sequence parameter sets (SPS); those, a byte with the number of picture parameter sets (PPS), those, and the extension
-- of the high profiles, which is the rest of the box and is not looked into. Reserved bits are not tested (A22); they are
-- written as ones. Stricter than the standard: another version is refused. Assumes nothing.
use Rattle.std.specs.Prelude.{ℕ, ◌+◌, ◌-◌, ◌/◌, ◌%◌, List, [], ◌∷◌, ◌++◌, Bool, ◌&&◌, length, take, drop, eqb, ltb, Result, Ok, Err}
use Rattle.numbers.specs.Number.{be}
use Rattle.numbers.specs.Field.{field, when}
use Rattle.numbers.specs.declared.Refusal.TheVariants as refusal
use Rattle.put.specs.Put.{Wrote, wrote}
use Rattle.layout.specs.Read.{read_of}
use Rattle.layout.specs.Write.{write_of, padded, slotted}
use Rattle.layout.specs.declared.Field.{Field}
use Rattle.layout.specs.declared.read.Fields.{Fields}
use Rattle.sets.specs.Sets.{end_of, nth_of, filled_by}
use Rattle.avcc.specs.declared.Avcc.{Avcc}
use Rattle.avcc.specs.declared.Places.{Places}
use Rattle.numbers.specs.declared.Refusal.{Refusal}

abbrev pub kind : ℕ
kind = 0x61766343

-- no row of fields: what lies behind the header is read here
abbrev pub fields : List Field
fields = padded []

-- READING

-- the first six bytes behind the header, field after field
abbrev pub head_of : List ℕ → ℕ → Result (ℕ × ℕ × ℕ × ℕ × ℕ) Refusal
head_of b at =
    field Err 1 b at
    (λ version. when (eqb version 1)
    (field Err 1 b (at + 1)
    (λ profile. field Err 1 b (at + 2)
    (λ compatibility. field Err 1 b (at + 3)
    (λ level. field Err 1 b (at + 4)
    (λ size. field Err 1 b (at + 5)
    (λ count. Ok (profile, compatibility, level, size % 4, count % 32)))))))
    (Err (refusal.Value at)))

abbrev pub avcc : ℕ → ℕ → ℕ → ℕ → ℕ → ℕ → Avcc
avcc p c l z n k = record { profile = p; compatibility = c; level = l; length_size = z; sps = n; pps = k }

-- the places of SPS from `at` up to e, of PPS behind their number up to f, and of the extension up to the box's end
abbrev pub places : ℕ → ℕ → ℕ → ℕ → Places
places at e f end = record { sps = at; sps_end = e; pps = e + 1; pps_end = f; end = end }

-- the PPS were read
abbrev pub last_of : List ℕ → ℕ → Avcc → ℕ → Result ℕ Refusal → Result (Avcc × Places) Refusal
last_of b at m e (Ok f) = Ok (m, places at e f (length b))
last_of b at m e (Err q) = Err q

-- the SPS were read: the number of PPS, and so many
abbrev pub second_of : List ℕ → ℕ → ℕ → ℕ → ℕ → ℕ → ℕ → Result ℕ Refusal → Result (Avcc × Places) Refusal
second_of b at p c l z n (Ok e) = field Err 1 b e (λ k. last_of b at (avcc p c l z n k) e (end_of k b (e + 1)))
second_of b at p c l z n (Err q) = Err q

-- the six bytes were read: so many SPS
abbrev pub first_of : List ℕ → ℕ → Result (ℕ × ℕ × ℕ × ℕ × ℕ) Refusal → Result (Avcc × Places) Refusal
first_of b at (Ok (p, c, l, z, n)) = second_of b at p c l z n (end_of n b at)
first_of b at (Err q) = Err q

-- what lies behind the header, up to the box's end
abbrev pub content_of : List ℕ → ℕ → Result (Avcc × Places) Refusal
content_of b at = first_of b (at + 6) (head_of b at)

abbrev pub behind_of : List ℕ → Result Fields Refusal → Result (Avcc × Places) Refusal
behind_of b (Ok f) = content_of (take f.end b) f.place
behind_of b (Err q) = Err q

abbrev pub avcc_of : List ℕ → Result (Avcc × Places) Refusal
avcc_of b = behind_of b (read_of kind fields b)

-- the bytes from a place up to another, and those of a box that is read; none of one that is refused
abbrev pub span : List ℕ → ℕ → ℕ → List ℕ
span b from to = take (to - from) (drop from b)

abbrev pub span_of : (Places → ℕ) → (Places → ℕ) → List ℕ → Result (Avcc × Places) Refusal → List ℕ
span_of from to b (Ok (m, p)) = span b (from p) (to p)
span_of from to b (Err q) = []

abbrev pub sps_list_of : List ℕ → List ℕ
sps_list_of b = span_of (λ p. p.sps) (λ p. p.sps_end) b (avcc_of b)

abbrev pub pps_list_of : List ℕ → List ℕ
pps_list_of b = span_of (λ p. p.pps) (λ p. p.pps_end) b (avcc_of b)

abbrev pub extension_of : List ℕ → List ℕ
extension_of b = span_of (λ p. p.pps_end) (λ p. p.end) b (avcc_of b)

-- the i-th set of each list, counted from 0; a list holds no more sets than its number says
abbrev pub sps_of : ℕ → List ℕ → List ℕ
sps_of i b = nth_of i (sps_list_of b) 0

abbrev pub pps_of : ℕ → List ℕ → List ℕ
pps_of i b = nth_of i (pps_list_of b) 0

-- WRITING

-- both numbers have their bits, and each list is as many sets as its number says
abbrev pub sound : Avcc → List ℕ → List ℕ → Bool
sound m s p = ltb m.length_size 4 && ltb m.sps 32 && filled_by m.sps s && filled_by m.pps p

-- what lies behind the header: reserved bits are ones
abbrev pub laid : Avcc → List ℕ → List ℕ → List ℕ → List ℕ
laid m s p x = 1 ∷ m.profile ∷ m.compatibility ∷ m.level ∷ (252 + m.length_size) ∷ (224 + m.sps) ∷ (s ++ (m.pps ∷ (p ++ x)))

-- 13 where the record or a list cannot be written; else the box
abbrev pub avcc_in : Avcc → List ℕ → List ℕ → List ℕ → List ℕ → Wrote
avcc_in m s p x out = when (sound m s p) (write_of kind fields (slotted []) (laid m s p x) out) (wrote (Err refusal.Unwritable) out)

-- the reserved bits of a box with a header of 8 bytes are ones (document 01, Canonical)
abbrev pub ones : List ℕ → Bool
ones b = eqb (be 1 b 12 / 4) 63 && eqb (be 1 b 13 / 32) 7
