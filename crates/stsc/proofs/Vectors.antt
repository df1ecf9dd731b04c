-- Worked examples of the definitions, computed. Assumes nothing.
use Rattle.std.specs.Prelude.{Ok, Err}
use mathlib.Core.Path.{◌≡◌, refl}
use mathlib.Core.List.{List, ◌++◌}
use Prim.Native.Nat.{ℕ}
use lib.ListN.{replicate}
use Rattle.numbers.specs.Number.{be, bytes}
use Rattle.numbers.specs.Field.{field, when}
use Rattle.numbers.specs.declared.Refusal.TheVariants as refusal
use Rattle.put.specs.Put.{wrote}
use Rattle.layout.specs.Rule.{rule_of}
use Rattle.layout.specs.Read.{one, decode}
use Rattle.layout.specs.Write.{lay, encode}
use Rattle.rounds.proofs.Example.{box}
use Rattle.rows.specs.Rows.{width_of, allowed_of, last_of, cells_of, entries_of}
use Rattle.stsc.specs.Stsc as stsc-is

abbrev case-2 : List ℕ
case-2 = bytes 4 1 ++ bytes 4 2 ++ bytes 4 1 ++ bytes 4 3 ++ bytes 4 1 ++ bytes 4 1

-- case 2's runs: (1, 2) (3, 1)
stsc-read : stsc-is.stsc_of (box 0x73747363 0 0 (bytes 4 2 ++ case-2)) ≡ Ok (record { version = 0; flags = 0; count = 2 }, 16)
unfolding be bytes field when rule_of one decode width_of allowed_of last_of cells_of entries_of
stsc-read = refl

stsc-second : stsc-is.entry_of case-2 1 ≡ Ok (record { first_chunk = 3; samples_per_chunk = 1; sample_description_index = 1 })
unfolding be bytes field when rule_of one decode
stsc-second = refl

-- the first run begins with chunk 1
stsc-from-2 : stsc-is.stsc_of (box 0x73747363 0 0 (bytes 4 1 ++ bytes 4 2 ++ bytes 4 2 ++ bytes 4 1)) ≡ Err (refusal.Value 16)
unfolding be bytes field when rule_of one decode width_of allowed_of last_of cells_of entries_of
stsc-from-2 = refl

-- first chunks rise
stsc-twice : stsc-is.stsc_of (box 0x73747363 0 0 (bytes 4 2 ++ bytes 4 1 ++ bytes 4 2 ++ bytes 4 1 ++ bytes 4 1 ++ bytes 4 1 ++ bytes 4 1)) ≡ Err (refusal.Value 28)
unfolding be bytes field when rule_of one decode width_of allowed_of last_of cells_of entries_of
stsc-twice = refl

-- no run has chunks of 0 samples
stsc-empty : stsc-is.stsc_of (box 0x73747363 0 0 (bytes 4 1 ++ bytes 4 1 ++ bytes 4 0 ++ bytes 4 1)) ≡ Err (refusal.Value 20)
unfolding be bytes field when rule_of one decode width_of allowed_of last_of cells_of entries_of
stsc-empty = refl

-- a value is judged before the cut that comes after it
stsc-cut : stsc-is.stsc_of (box 0x73747363 0 0 (bytes 4 2 ++ bytes 4 2)) ≡ Err (refusal.Value 16)
unfolding be bytes field when rule_of one decode width_of allowed_of last_of cells_of entries_of
stsc-cut = refl

stsc-cut-first : stsc-is.stsc_of (box 0x73747363 0 0 (bytes 4 2 ++ bytes 4 1 ++ bytes 2 0)) ≡ Err (refusal.Cut 20)
unfolding be bytes field when rule_of one decode width_of allowed_of last_of cells_of entries_of
stsc-cut-first = refl

stsc-written : stsc-is.stsc_in (record { version = 0; flags = 0; count = 2 }) case-2 (replicate 40 9) ≡ wrote (Ok 40) (box 0x73747363 0 0 (bytes 4 2 ++ case-2) ++ replicate 0 9)
unfolding be bytes field when rule_of one decode lay encode width_of allowed_of last_of cells_of entries_of
stsc-written = refl

stsc-not-written : stsc-is.stsc_in (record { version = 0; flags = 0; count = 1 }) (bytes 4 2 ++ bytes 4 1 ++ bytes 4 1) (replicate 28 9) ≡ wrote (Err refusal.Unwritable) (replicate 28 9)
unfolding be bytes field when rule_of one decode lay encode width_of allowed_of last_of cells_of entries_of
stsc-not-written = refl
