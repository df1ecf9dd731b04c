-- Worked examples of the definitions, computed. Assumes nothing.
use Rattle.std.specs.Prelude.{Ok, Err}
use mathlib.Core.Path.{◌≡◌, refl}
use mathlib.Core.List.{◌++◌}
use lib.ListN.{replicate}
use Rattle.numbers.specs.Number.{be, bytes}
use Rattle.numbers.specs.Field.{field, when}
use Rattle.numbers.specs.declared.Refusal.TheVariants as refusal
use Rattle.put.specs.Put.{wrote}
use Rattle.layout.specs.Rule.{rule_of}
use Rattle.layout.specs.Read.{one, decode}
use Rattle.layout.specs.Write.{lay, encode}
use Rattle.rounds.proofs.Example.{box}
use Rattle.layout.specs.Table.{cut_of}
use Rattle.co64.specs.Co64 as co64-is

co64-read : co64-is.co64_of (box 0x636f3634 0 0 (bytes 4 1 ++ bytes 8 0x1_0000_0000)) ≡ Ok (record { version = 0; flags = 0; count = 1 }, 16)
unfolding be bytes field when rule_of one decode cut_of
co64-read = refl

co64-first : co64-is.entry_of (bytes 8 0x1_0000_0000) 0 ≡ Ok 0x1_0000_0000
unfolding be bytes field when rule_of one decode
co64-first = refl

co64-cut : co64-is.co64_of (box 0x636f3634 0 0 (bytes 4 1 ++ bytes 4 48)) ≡ Err (refusal.Cut 16)
unfolding be bytes field when rule_of one decode cut_of
co64-cut = refl

co64-written : co64-is.co64_in (record { version = 0; flags = 0; count = 1 }) (bytes 8 0x1_0000_0000) (replicate 24 9) ≡ wrote (Ok 24) (box 0x636f3634 0 0 (bytes 4 1 ++ bytes 8 0x1_0000_0000) ++ replicate 0 9)
unfolding bytes when rule_of lay encode
co64-written = refl
