-- Worked examples of the definitions, computed. Assumes nothing.
use Rattle.std.specs.Prelude.{Ok, Err}
use mathlib.Core.Path.{◌≡◌, refl}
use mathlib.Core.List.{List, [], ◌∷◌, ◌++◌}
use Prim.Native.Nat.{ℕ}
use lib.ListN.{replicate}
use Rattle.numbers.specs.Number.{be, bytes}
use Rattle.numbers.specs.Field.{field, when}
use Rattle.numbers.specs.declared.Refusal.TheVariants as refusal
use Rattle.put.specs.Put.{wrote}
use Rattle.layout.specs.Rule.{rule_of}
use Rattle.layout.specs.Read.{one, decode}
use Rattle.layout.specs.Write.{lay, encode}
use Rattle.rounds.proofs.Example.{box}
use Rattle.strings.specs.Text.{text_end}
use Rattle.emsg.specs.Emsg.{emsg, places, emsg_of, scheme_of, value_of, message_of, emsg_in}
use Rattle.emsg.specs.declared.Emsg.{Emsg}

-- the scheme "AB", the value "C", the message 5 6
abbrev texts : List ℕ
texts = 0x41 ∷ 0x42 ∷ 0 ∷ 0x43 ∷ 0 ∷ []

abbrev early : List ℕ
early = box 0x656d7367 0 3 (texts ++ bytes 4 1000 ++ bytes 4 2000 ++ bytes 4 7 ++ bytes 4 9 ++ (5 ∷ 6 ∷ []))

abbrev late : List ℕ
late = box 0x656d7367 1 3 (bytes 4 1000 ++ bytes 8 2000 ++ bytes 4 7 ++ bytes 4 9 ++ texts ++ (5 ∷ 6 ∷ []))

early-read : emsg_of (early ++ bytes 2 7) ≡ Ok (emsg 0 3 1000 2000 7 9, places 12 14 16 33 35)
unfolding be bytes field when rule_of one decode text_end
early-read = refl

late-read : emsg_of (late ++ bytes 2 7) ≡ Ok (emsg 1 3 1000 2000 7 9, places 32 34 36 37 39)
unfolding be bytes field when rule_of one decode text_end
late-read = refl

-- the parts end before their 0, and the message where the box does
early-scheme : scheme_of (early ++ bytes 2 7) ≡ 0x41 ∷ 0x42 ∷ []
unfolding be bytes field when rule_of one decode text_end
early-scheme = refl

late-value : value_of (late ++ bytes 2 7) ≡ 0x43 ∷ []
unfolding be bytes field when rule_of one decode text_end
late-value = refl

early-message : message_of (early ++ bytes 2 7) ≡ 5 ∷ 6 ∷ []
unfolding be bytes field when rule_of one decode text_end
early-message = refl

late-message : message_of (late ++ bytes 2 7) ≡ 5 ∷ 6 ∷ []
unfolding be bytes field when rule_of one decode text_end
late-message = refl

-- a box of size 0 reaches the end of what is lent; its strings and its message may be empty
to_the_end : emsg_of (bytes 4 0 ++ bytes 4 0x656d7367 ++ bytes 4 0x1000000 ++ bytes 8 0 ++ bytes 8 0 ++ bytes 4 5 ++ bytes 2 0)
    ≡ Ok (emsg 1 0 0 0 0 5, places 32 32 33 34 34)
unfolding be bytes field when rule_of one decode text_end
to_the_end = refl

-- the refusals, each at its own field
other-type : emsg_of (box 0x656d7368 0 0 (bytes 2 0 ++ bytes 8 0 ++ bytes 8 0)) ≡ Err (refusal.Value 4)
unfolding be bytes field when rule_of one decode text_end
other-type = refl

version-2 : emsg_of (box 0x656d7367 2 0 (bytes 2 0 ++ bytes 8 0 ++ bytes 8 0)) ≡ Err (refusal.Version 8)
unfolding be bytes field when rule_of one decode text_end
version-2 = refl

no-flags : emsg_of (bytes 4 11 ++ bytes 4 0x656d7367 ++ bytes 3 0) ≡ Err (refusal.Cut 9)
unfolding be bytes field when rule_of one decode text_end
no-flags = refl

-- a 0 behind the box ends no string in it
open-scheme : emsg_of (box 0x656d7367 0 0 (0x41 ∷ 0x42 ∷ []) ++ bytes 8 0) ≡ Err (refusal.Cut 12)
unfolding be bytes field when rule_of one decode text_end
open-scheme = refl

open-value : emsg_of (box 0x656d7367 0 0 (0x41 ∷ 0 ∷ 0x43 ∷ []) ++ bytes 8 0) ≡ Err (refusal.Cut 14)
unfolding be bytes field when rule_of one decode text_end
open-value = refl

-- no byte is left for the value
no_value : emsg_of (box 0x656d7367 1 0 (bytes 8 0 ++ bytes 8 0 ++ bytes 4 0 ++ (0x41 ∷ 0 ∷ []))) ≡ Err (refusal.Cut 34)
unfolding be bytes field when rule_of one decode text_end
no_value = refl

cut-timescale : emsg_of (box 0x656d7367 0 0 (texts ++ bytes 3 0)) ≡ Err (refusal.Cut 17)
unfolding be bytes field when rule_of one decode text_end
cut-timescale = refl

cut-delta : emsg_of (box 0x656d7367 0 0 (texts ++ bytes 7 0)) ≡ Err (refusal.Cut 21)
unfolding be bytes field when rule_of one decode text_end
cut-delta = refl

cut-time : emsg_of (box 0x656d7367 1 0 (bytes 8 0 ++ bytes 3 0)) ≡ Err (refusal.Cut 16)
unfolding be bytes field when rule_of one decode text_end
cut-time = refl

cut-duration : emsg_of (box 0x656d7367 1 0 (bytes 8 0 ++ bytes 7 0)) ≡ Err (refusal.Cut 24)
unfolding be bytes field when rule_of one decode text_end
cut-duration = refl

cut-id : emsg_of (box 0x656d7367 0 0 (texts ++ bytes 8 0 ++ bytes 7 0)) ≡ Err (refusal.Cut 29)
unfolding be bytes field when rule_of one decode text_end
cut-id = refl

-- a box that is refused has no parts
cut-message : message_of (box 0x656d7367 0 0 (texts ++ bytes 8 0 ++ bytes 7 0)) ≡ []
unfolding be bytes field when rule_of one decode text_end
cut-message = refl

-- written: the box, and what lies behind it stays
early-written : emsg_in (emsg 0 3 1000 2000 7 9) (0x41 ∷ 0x42 ∷ []) (0x43 ∷ []) (5 ∷ 6 ∷ []) (replicate 36 9) ≡ wrote (Ok 35) (early ++ replicate 1 9)
unfolding bytes when rule_of lay encode text_end
early-written = refl

late-written : emsg_in (emsg 1 3 1000 2000 7 9) (0x41 ∷ 0x42 ∷ []) (0x43 ∷ []) (5 ∷ 6 ∷ []) (replicate 39 9) ≡ wrote (Ok 39) late
unfolding bytes when rule_of lay encode text_end
late-written = refl

abbrev refused-by : Emsg → List ℕ → List ℕ → Type 0
refused-by m s v = emsg_in m s v [] (replicate 3 9) ≡ wrote (Err refusal.Unwritable) (replicate 3 9)

-- 13, also where there is no room: a third version, long flags, a long delta, a 0 in a string
written-version-2 : refused-by (emsg 2 0 0 0 0 0) [] []
unfolding bytes when rule_of lay encode text_end
written-version-2 = refl

long-flags : refused-by (emsg 0 0x1000000 0 0 0 0) [] []
unfolding bytes when rule_of lay encode text_end
long-flags = refl

long-delta : refused-by (emsg 0 0 0 0x100000000 0 0) [] []
unfolding bytes when rule_of lay encode text_end
long-delta = refl

scheme-with-0 : refused-by (emsg 1 0 0 0 0 0) (0x41 ∷ 0 ∷ []) []
unfolding bytes when rule_of lay encode text_end
scheme-with-0 = refl

value-with-0 : refused-by (emsg 1 0 0 0 0 0) [] (0 ∷ [])
unfolding bytes when rule_of lay encode text_end
value-with-0 = refl

-- a long time is one of version 1; 12 with the length needed
too_small : emsg_in (emsg 1 0 0 0x100000000 0 0) (0x41 ∷ []) [] [] (replicate 34 9) ≡ wrote (Err (refusal.TooSmall 35)) (replicate 34 9)
unfolding bytes when rule_of lay encode text_end
too_small = refl
