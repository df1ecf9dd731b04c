-- The event message box (ISO/IEC 23009-1, 5.10.3.3): two strings that end with a 0, four numbers and a message, which is
-- the rest of the box (A27). Version 0 has the strings first and a time of 4 bytes, version 1 the numbers first and a
-- time of 8. A string's letters are not tested. Assumes nothing.
use Rattle.std.specs.Prelude.{ℕ, ◌+◌, ◌-◌, ◌^◌, List, [], ◌∷◌, ◌++◌, Bool, true, false, ◌&&◌, length, take, drop, get_or, eqb, ltb, Result, Option, Ok, Err, Some, None}
use Rattle.numbers.specs.Number.{bytes}
use Rattle.numbers.specs.Field.{field, when}
use Rattle.numbers.specs.declared.Refusal.TheVariants as refusal
use Rattle.put.specs.Put.{Wrote, wrote}
use Rattle.layout.specs.Read.{read_of}
use Rattle.layout.specs.Write.{write_of, padded, slotted}
use Rattle.layout.specs.declared.Field.{Field}
use Rattle.layout.specs.declared.Field.TheVariants.{Version, Flags}
use Rattle.layout.specs.declared.read.Fields.{Fields}
use Rattle.strings.specs.Text.{text_at}
use Rattle.emsg.specs.declared.Emsg.{Emsg}
use Rattle.emsg.specs.declared.Places.{Places}
use Rattle.numbers.specs.declared.Refusal.{Refusal}

abbrev pub kind : ℕ
kind = 0x656d7367

abbrev pub fields : List Field
fields = padded (Version 0 1 ∷ Flags ∷ [])

-- how many bytes a time has
abbrev pub wide : ℕ → ℕ
wide v = when (eqb v 0) 4 8

-- READING

-- two strings, the second behind the first one's 0; one that has no 0 is 1 at its first byte
abbrev pub second_of : ℕ → Option ℕ → Result (ℕ × ℕ) Refusal
second_of e (Some f) = Ok (e, f)
second_of e None = Err (refusal.Cut (e + 1))

abbrev pub first_of : List ℕ → ℕ → Option ℕ → Result (ℕ × ℕ) Refusal
first_of b at (Some e) = second_of e (text_at b (e + 1))
first_of b at None = Err (refusal.Cut at)

abbrev pub strings_of : List ℕ → ℕ → Result (ℕ × ℕ) Refusal
strings_of b at = first_of b at (text_at b at)

-- the timescale, the time in w bytes, the duration and the id; one that is cut is 1 at its first byte
abbrev pub numbers_of : ℕ → List ℕ → ℕ → Result (ℕ × ℕ × ℕ × ℕ) Refusal
numbers_of w b at =
    field Err 4 b at
    (λ s. field Err w b (at + 4)
    (λ t. field Err 4 b (at + 4 + w)
    (λ d. field Err 4 b (at + 4 + w + 4) (λ i. Ok (s, t, d, i)))))

-- the record, and the places of a scheme at p with its 0 at e, of a value with its 0 at f and of a message from m on
abbrev pub emsg : ℕ → ℕ → ℕ → ℕ → ℕ → ℕ → Emsg
emsg v fl s t d i = record { version = v; flags = fl; timescale = s; presentation_time = t; event_duration = d; id = i }

abbrev pub places : ℕ → ℕ → ℕ → ℕ → ℕ → Places
places p e f m end = record { scheme = p; scheme_end = e; value = e + 1; value_end = f; message = m; end = end }

-- version 0, from behind the flags on: the strings, then the numbers
abbrev pub numbers_last : List ℕ → ℕ → ℕ → ℕ → ℕ → Result (ℕ × ℕ × ℕ × ℕ) Refusal → Result (Emsg × Places) Refusal
numbers_last b at fl e f (Ok (s, t, d, i)) = Ok (emsg 0 fl s t d i, places at e f (f + 1 + 16) (length b))
numbers_last b at fl e f (Err q) = Err q

abbrev pub after_strings : List ℕ → ℕ → ℕ → Result (ℕ × ℕ) Refusal → Result (Emsg × Places) Refusal
after_strings b at fl (Ok (e, f)) = numbers_last b at fl e f (numbers_of 4 b (f + 1))
after_strings b at fl (Err q) = Err q

abbrev pub strings_first : List ℕ → ℕ → ℕ → Result (Emsg × Places) Refusal
strings_first b at fl = after_strings b at fl (strings_of b at)

-- version 1: the numbers, then the strings
abbrev pub strings_last : List ℕ → ℕ → ℕ → ℕ → ℕ → ℕ → ℕ → Result (ℕ × ℕ) Refusal → Result (Emsg × Places) Refusal
strings_last b at fl s t d i (Ok (e, f)) = Ok (emsg 1 fl s t d i, places at e f (f + 1) (length b))
strings_last b at fl s t d i (Err q) = Err q

abbrev pub after_numbers : List ℕ → ℕ → ℕ → Result (ℕ × ℕ × ℕ × ℕ) Refusal → Result (Emsg × Places) Refusal
after_numbers b at fl (Ok (s, t, d, i)) = strings_last b (at + 20) fl s t d i (strings_of b (at + 20))
after_numbers b at fl (Err q) = Err q

abbrev pub numbers_first : List ℕ → ℕ → ℕ → Result (Emsg × Places) Refusal
numbers_first b at fl = after_numbers b at fl (numbers_of 8 b at)

-- a box whose version and flags were read, up to its end
abbrev pub content_of : List ℕ → ℕ → ℕ → ℕ → Result (Emsg × Places) Refusal
content_of b at v fl = when (eqb v 0) (strings_first b at fl) (numbers_first b at fl)

abbrev pub full_of : List ℕ → Result Fields Refusal → Result (Emsg × Places) Refusal
full_of b (Ok f) = content_of (take f.end b) f.place (get_or f.values 0 0) (get_or f.values 1 0)
full_of b (Err q) = Err q

abbrev pub emsg_of : List ℕ → Result (Emsg × Places) Refusal
emsg_of b = full_of b (read_of kind fields b)

-- the bytes from a place up to another, and those of a box that is read; none of one that is refused
abbrev pub span : List ℕ → ℕ → ℕ → List ℕ
span b from to = take (to - from) (drop from b)

abbrev pub span_of : (Places → ℕ) → (Places → ℕ) → List ℕ → Result (Emsg × Places) Refusal → List ℕ
span_of from to b (Ok (m, p)) = span b (from p) (to p)
span_of from to b (Err q) = []

abbrev pub scheme_of : List ℕ → List ℕ
scheme_of b = span_of (λ p. p.scheme) (λ p. p.scheme_end) b (emsg_of b)

abbrev pub value_of : List ℕ → List ℕ
value_of b = span_of (λ p. p.value) (λ p. p.value_end) b (emsg_of b)

abbrev pub message_of : List ℕ → List ℕ
message_of b = span_of (λ p. p.message) (λ p. p.end) b (emsg_of b)

-- WRITING

-- a string that holds no 0, and a number that has w bytes
abbrev pub whole : Option ℕ → Bool
whole None = true
whole (Some e) = false

abbrev pub has : ℕ → ℕ → Bool
has w n = ltb n (256 ^ w)

abbrev pub sound : Emsg → List ℕ → List ℕ → Bool
sound m s v =
    has 4 m.timescale && has (wide m.version) m.presentation_time && has 4 m.event_duration && has 4 m.id
    && whole (text_at s 0) && whole (text_at v 0)

abbrev pub string_bytes : List ℕ → List ℕ → List ℕ
string_bytes s v = s ++ (0 ∷ []) ++ v ++ (0 ∷ [])

abbrev pub number_bytes : ℕ → Emsg → List ℕ
number_bytes w m = bytes 4 m.timescale ++ bytes w m.presentation_time ++ bytes 4 m.event_duration ++ bytes 4 m.id

-- what lies behind the flags
abbrev pub laid : Emsg → List ℕ → List ℕ → List ℕ → List ℕ
laid m s v message =
    when (eqb m.version 0) (string_bytes s v ++ number_bytes 4 m ++ message) (number_bytes 8 m ++ string_bytes s v ++ message)

-- 13 for a number that has too many bytes, or a 0 in a string; else the box
abbrev pub emsg_in : Emsg → List ℕ → List ℕ → List ℕ → List ℕ → Wrote
emsg_in m s v message out =
    when (sound m s v) (write_of kind fields (slotted (m.version ∷ m.flags ∷ [])) (laid m s v message) out)
    (wrote (Err refusal.Unwritable) out)
