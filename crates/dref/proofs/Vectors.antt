-- Worked examples of the definitions, computed. Assumes nothing.
use Rattle.std.specs.Prelude.{Ok, Err}
use mathlib.Core.Path.{◌≡◌, refl}
use mathlib.Core.List.{List, [], ◌++◌}
use Prim.Native.Nat.{ℕ}
use lib.ListN.{replicate}
use Rattle.numbers.specs.Number.{be, bytes}
use Rattle.numbers.specs.Field.{field, when}
use Rattle.numbers.specs.declared.Refusal.TheVariants as refusal
use Rattle.put.specs.Put.{wrote}
use Rattle.layout.specs.Rule.{rule_of}
use Rattle.layout.specs.Read.{one, decode}
use Rattle.layout.specs.Write.{lay, encode}
use Rattle.rounds.proofs.Example.{box}
use Rattle.dref.specs.Dref as dref-is
use Rattle.dref.specs.declared.Dref.{Dref}

abbrev two : Dref
two = record { version = 0; flags = 0; count = 2 }

-- with two boxes of 8 bytes behind the count
abbrev many : List ℕ
many = box 0x64726566 0 0 (bytes 4 2 ++ bytes 8 0x8_6162_6364 ++ bytes 8 0x8_6162_6365)

-- the references end where the box does
dref-read : dref-is.dref_of (many ++ bytes 1 7) ≡ Ok two
unfolding be bytes field when rule_of one decode
dref-read = refl

dref-entries : dref-is.entries_of (many ++ bytes 1 7) ≡ bytes 8 0x8_6162_6364 ++ bytes 8 0x8_6162_6365
unfolding be bytes field when rule_of one decode
dref-entries = refl

-- a count says nothing of what follows it
dref-fewer : dref-is.dref_of (box 0x64726566 0 0 (bytes 4 2)) ≡ Ok two
unfolding be bytes field when rule_of one decode
dref-fewer = refl

dref-none : dref-is.entries_of (box 0x64726566 0 0 (bytes 4 2)) ≡ []
unfolding be bytes field when rule_of one decode
dref-none = refl

dref-version : dref-is.dref_of (box 0x64726566 1 0 (bytes 4 2)) ≡ Err (refusal.Version 8)
unfolding be bytes field when rule_of one decode
dref-version = refl

dref-cut : dref-is.dref_of (box 0x64726566 0 0 (bytes 3 2)) ≡ Err (refusal.Cut 12)
unfolding be bytes field when rule_of one decode
dref-cut = refl

dref-written : dref-is.dref_in two (bytes 8 0x8_6162_6364 ++ bytes 8 0x8_6162_6365) (replicate 33 9) ≡ wrote (Ok 32) (many ++ replicate 1 9)
unfolding bytes when rule_of lay encode
dref-written = refl
