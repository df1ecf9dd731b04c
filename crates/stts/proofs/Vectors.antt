-- Worked examples of the definitions, computed. Assumes nothing.
use Rattle.std.specs.Prelude.{Ok, Err}
use mathlib.Core.Path.{◌≡◌, refl}
use mathlib.Core.List.{List, ◌++◌}
use Prim.Native.Nat.{ℕ}
use lib.ListN.{replicate}
use Rattle.numbers.specs.Number.{be, bytes}
use Rattle.numbers.specs.Field.{field, when}
use Rattle.numbers.specs.declared.Refusal.TheVariants as refusal
use Rattle.put.specs.Put.{wrote}
use Rattle.layout.specs.Rule.{rule_of}
use Rattle.layout.specs.Read.{one, decode}
use Rattle.layout.specs.Write.{lay, encode}
use Rattle.rounds.proofs.Example.{box}
use Rattle.layout.specs.Table.{cut_of}
use Rattle.stts.specs.Stts as stts-is

abbrev case-1 : List ℕ
case-1 = bytes 4 3 ++ bytes 4 1000 ++ bytes 4 3 ++ bytes 4 500

-- case 1: (3, 1000) (3, 500)
stts-read : stts-is.stts_of (box 0x73747473 0 0 (bytes 4 2 ++ case-1)) ≡ Ok (record { version = 0; flags = 0; count = 2 }, 16)
unfolding be bytes field when rule_of one decode cut_of
stts-read = refl

stts-second : stts-is.entry_of case-1 1 ≡ Ok (record { sample_count = 3; sample_delta = 500 })
unfolding be bytes field when rule_of one decode
stts-second = refl

stts-no-third : stts-is.entry_of case-1 2 ≡ Err (refusal.Cut 16)
unfolding be bytes field when rule_of one decode
stts-no-third = refl

stts-written : stts-is.stts_in (record { version = 0; flags = 0; count = 2 }) case-1 (replicate 33 9) ≡ wrote (Ok 32) (box 0x73747473 0 0 (bytes 4 2 ++ case-1) ++ replicate 1 9)
unfolding bytes when rule_of lay encode
stts-written = refl

-- a count that the bytes do not hold is 1 at the field that is cut
stts-cut : stts-is.stts_of (box 0x73747473 0 0 (bytes 4 9 ++ bytes 4 3 ++ bytes 3 0)) ≡ Err (refusal.Cut 20)
unfolding be bytes field when rule_of one decode cut_of
stts-cut = refl

-- entries and count differ
stts-other-count : stts-is.stts_in (record { version = 0; flags = 0; count = 3 }) case-1 (replicate 40 9) ≡ wrote (Err refusal.Unwritable) (replicate 40 9)
unfolding bytes when rule_of lay encode
stts-other-count = refl
