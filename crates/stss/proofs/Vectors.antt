-- Worked examples of the definitions, computed. Assumes nothing.
use Rattle.std.specs.Prelude.{Ok, Err}
use mathlib.Core.Path.{◌≡◌, refl}
use mathlib.Core.List.{◌++◌}
use lib.ListN.{replicate}
use Rattle.numbers.specs.Number.{be, bytes}
use Rattle.numbers.specs.Field.{field, when}
use Rattle.numbers.specs.declared.Refusal.TheVariants as refusal
use Rattle.put.specs.Put.{wrote}
use Rattle.layout.specs.Rule.{rule_of}
use Rattle.layout.specs.Read.{one, decode}
use Rattle.layout.specs.Write.{lay, encode}
use Rattle.rounds.proofs.Example.{box}
use Rattle.rows.specs.Rows.{width_of, allowed_of, last_of, cells_of, entries_of}
use Rattle.stss.specs.Stss as stss-is

stss-read : stss-is.stss_of (box 0x73747373 0 0 (bytes 4 2 ++ bytes 4 1 ++ bytes 4 3)) ≡ Ok (record { version = 0; flags = 0; count = 2 }, 16)
unfolding be bytes field when rule_of one decode width_of allowed_of last_of cells_of entries_of
stss-read = refl

-- an empty list is allowed
stss-none : stss-is.stss_of (box 0x73747373 0 0 (bytes 4 0)) ≡ Ok (record { version = 0; flags = 0; count = 0 }, 16)
unfolding be bytes field when rule_of one decode width_of allowed_of last_of cells_of entries_of
stss-none = refl

-- there is no sample 0
stss-from-0 : stss-is.stss_of (box 0x73747373 0 0 (bytes 4 1 ++ bytes 4 0)) ≡ Err (refusal.Value 16)
unfolding be bytes field when rule_of one decode width_of allowed_of last_of cells_of entries_of
stss-from-0 = refl

-- numbers rise strictly
stss-twice : stss-is.stss_of (box 0x73747373 0 0 (bytes 4 3 ++ bytes 4 1 ++ bytes 4 3 ++ bytes 4 3)) ≡ Err (refusal.Value 24)
unfolding be bytes field when rule_of one decode width_of allowed_of last_of cells_of entries_of
stss-twice = refl

stss-second : stss-is.entry_of (bytes 4 1 ++ bytes 4 3) 1 ≡ Ok 3
unfolding be bytes field when rule_of one decode
stss-second = refl

stss-written : stss-is.stss_in (record { version = 0; flags = 0; count = 2 }) (bytes 4 1 ++ bytes 4 3) (replicate 24 9) ≡ wrote (Ok 24) (box 0x73747373 0 0 (bytes 4 2 ++ bytes 4 1 ++ bytes 4 3) ++ replicate 0 9)
unfolding be bytes field when rule_of one decode lay encode width_of allowed_of last_of cells_of entries_of
stss-written = refl
