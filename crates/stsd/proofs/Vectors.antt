-- Worked examples of the definitions, computed. Assumes nothing.
use Rattle.std.specs.Prelude.{Ok, Err}
use mathlib.Core.Path.{◌≡◌, refl}
use mathlib.Core.List.{List, [], ◌++◌}
use Prim.Native.Nat.{ℕ}
use lib.ListN.{replicate}
use Rattle.numbers.specs.Number.{be, bytes}
use Rattle.numbers.specs.Field.{field, when}
use Rattle.numbers.specs.declared.Refusal.TheVariants as refusal
use Rattle.put.specs.Put.{wrote}
use Rattle.layout.specs.Rule.{rule_of}
use Rattle.layout.specs.Read.{one, decode}
use Rattle.layout.specs.Write.{lay, encode}
use Rattle.rounds.proofs.Example.{box}
use Rattle.children.specs.Children.{row_of, nth_in}
use Rattle.stsd.specs.Stsd as stsd-is
use Rattle.stsd.specs.declared.Stsd.{Stsd}

abbrev two : Stsd
two = record { version = 0; flags = 0; count = 2 }

-- with two boxes of 8 bytes behind the count
abbrev many : List ℕ
many = box 0x73747364 0 0 (bytes 4 2 ++ bytes 8 0x8_6162_6364 ++ bytes 8 0x8_6162_6365)

-- the sample entries end where the box does
stsd-read : stsd-is.stsd_of (many ++ bytes 1 7) ≡ Ok two
unfolding be bytes field when rule_of one decode
stsd-read = refl

stsd-entries : stsd-is.entries_of (many ++ bytes 1 7) ≡ bytes 8 0x8_6162_6364 ++ bytes 8 0x8_6162_6365
unfolding be bytes field when rule_of one decode
stsd-entries = refl

-- each of them, from its header to its end
stsd-entry-0 : stsd-is.entry_of (many ++ bytes 1 7) 0 ≡ bytes 8 0x8_6162_6364
unfolding be bytes field when rule_of one decode row_of nth_in
stsd-entry-0 = refl

stsd-entry-1 : stsd-is.entry_of (many ++ bytes 1 7) 1 ≡ bytes 8 0x8_6162_6365
unfolding be bytes field when rule_of one decode row_of nth_in
stsd-entry-1 = refl

stsd-no-entry-2 : stsd-is.entry_of (many ++ bytes 1 7) 2 ≡ []
unfolding be bytes field when rule_of one decode row_of nth_in
stsd-no-entry-2 = refl

-- a box past the count is no entry, though it is there
stsd-entry-past : stsd-is.entry_of (box 0x73747364 0 0 (bytes 4 1 ++ bytes 8 0x8_6162_6364 ++ bytes 8 0x8_6162_6365)) 1 ≡ []
unfolding be bytes field when rule_of one decode row_of nth_in
stsd-entry-past = refl

-- an entry that is counted, and not there
stsd-entry-cut : stsd-is.entry_of (box 0x73747364 0 0 (bytes 4 2 ++ bytes 8 0x8_6162_6364)) 1 ≡ []
unfolding be bytes field when rule_of one decode row_of nth_in
stsd-entry-cut = refl

-- a fault comes before it
stsd-entry-fault : stsd-is.entry_of (box 0x73747364 0 0 (bytes 4 2 ++ bytes 8 0x7_6162_6364 ++ bytes 8 0x8_6162_6365)) 1 ≡ []
unfolding be bytes field when rule_of one decode row_of nth_in
stsd-entry-fault = refl

stsd-entry-refused : stsd-is.entry_of (box 0x73747364 1 0 (bytes 4 2 ++ bytes 8 0x8_6162_6364)) 0 ≡ []
unfolding be bytes field when rule_of one decode row_of nth_in
stsd-entry-refused = refl

-- a count says nothing of what follows it
stsd-fewer : stsd-is.stsd_of (box 0x73747364 0 0 (bytes 4 2)) ≡ Ok two
unfolding be bytes field when rule_of one decode
stsd-fewer = refl

stsd-none : stsd-is.entries_of (box 0x73747364 0 0 (bytes 4 2)) ≡ []
unfolding be bytes field when rule_of one decode
stsd-none = refl

stsd-version : stsd-is.stsd_of (box 0x73747364 1 0 (bytes 4 2)) ≡ Err (refusal.Version 8)
unfolding be bytes field when rule_of one decode
stsd-version = refl

stsd-cut : stsd-is.stsd_of (box 0x73747364 0 0 (bytes 3 2)) ≡ Err (refusal.Cut 12)
unfolding be bytes field when rule_of one decode
stsd-cut = refl

stsd-written : stsd-is.stsd_in two (bytes 8 0x8_6162_6364 ++ bytes 8 0x8_6162_6365) (replicate 33 9) ≡ wrote (Ok 32) (many ++ replicate 1 9)
unfolding bytes when rule_of lay encode
stsd-written = refl
