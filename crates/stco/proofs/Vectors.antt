-- Worked examples of the definitions, computed. Assumes nothing.
use Rattle.std.specs.Prelude.{Ok, Err}
use mathlib.Core.Path.{◌≡◌, refl}
use mathlib.Core.List.{List, ◌++◌}
use Prim.Native.Nat.{ℕ}
use lib.ListN.{replicate}
use Rattle.numbers.specs.Number.{be, bytes}
use Rattle.numbers.specs.Field.{field, when}
use Rattle.numbers.specs.declared.Refusal.TheVariants as refusal
use Rattle.put.specs.Put.{wrote}
use Rattle.layout.specs.Rule.{rule_of}
use Rattle.layout.specs.Read.{one, decode}
use Rattle.layout.specs.Write.{lay, encode}
use Rattle.rounds.proofs.Example.{box}
use Rattle.layout.specs.Table.{cut_of}
use Rattle.stco.specs.Stco as stco-is

abbrev case-2 : List ℕ
case-2 = bytes 4 48 ++ bytes 4 78 ++ bytes 4 148 ++ bytes 4 198

-- case 2's chunks
stco-read : stco-is.stco_of (box 0x7374636f 0 0 (bytes 4 4 ++ case-2)) ≡ Ok (record { version = 0; flags = 0; count = 4 }, 16)
unfolding be bytes field when rule_of one decode cut_of
stco-read = refl

stco-third : stco-is.entry_of case-2 2 ≡ Ok 148
unfolding be bytes field when rule_of one decode
stco-third = refl

stco-no-fifth : stco-is.entry_of case-2 4 ≡ Err (refusal.Cut 16)
unfolding be bytes field when rule_of one decode
stco-no-fifth = refl

stco-cut : stco-is.stco_of (box 0x7374636f 0 0 (bytes 4 5 ++ case-2)) ≡ Err (refusal.Cut 32)
unfolding be bytes field when rule_of one decode cut_of
stco-cut = refl

stco-written : stco-is.stco_in (record { version = 0; flags = 0; count = 4 }) case-2 (replicate 32 9) ≡ wrote (Ok 32) (box 0x7374636f 0 0 (bytes 4 4 ++ case-2) ++ replicate 0 9)
unfolding bytes when rule_of lay encode
stco-written = refl
