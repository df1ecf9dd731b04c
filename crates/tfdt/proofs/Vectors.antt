-- Worked examples of the definitions, computed. Assumes nothing.
use Rattle.std.specs.Prelude.{Ok, Err}
use mathlib.Core.Path.{◌≡◌, refl}
use mathlib.Core.List.{◌++◌}
use lib.ListN.{replicate}
use Rattle.numbers.specs.Number.{be, bytes}
use Rattle.numbers.specs.Field.{field, when}
use Rattle.numbers.specs.declared.Refusal.TheVariants as refusal
use Rattle.put.specs.Put.{wrote}
use Rattle.layout.specs.Rule.{rule_of}
use Rattle.layout.specs.Read.{one, decode}
use Rattle.layout.specs.Write.{lay, encode}
use Rattle.rounds.proofs.Example.{box}
use Rattle.tfdt.specs.Tfdt as tfdt-is
use Rattle.tfdt.specs.declared.Tfdt.{Tfdt}

abbrev late : Tfdt
late = record { version = 1; flags = 0; base_media_decode_time = 0x1_0000_0000 }

-- version 1 has 8 bytes
tfdt-read : tfdt-is.tfdt_of (box 0x74666474 1 0 (bytes 8 0x1_0000_0000)) ≡ Ok late
unfolding be bytes field when rule_of one decode
tfdt-read = refl

-- version 0 has 4
tfdt-narrow : tfdt-is.tfdt_of (box 0x74666474 0 0 (bytes 4 4000)) ≡ Ok (record { version = 0; flags = 0; base_media_decode_time = 4000 })
unfolding be bytes field when rule_of one decode
tfdt-narrow = refl

tfdt-cut : tfdt-is.tfdt_of (box 0x74666474 1 0 (bytes 4 4000)) ≡ Err (refusal.Cut 12)
unfolding be bytes field when rule_of one decode
tfdt-cut = refl

tfdt-written : tfdt-is.tfdt_in late (replicate 20 9) ≡ wrote (Ok 20) (box 0x74666474 1 0 (bytes 8 0x1_0000_0000) ++ replicate 0 9)
unfolding bytes when rule_of lay encode
tfdt-written = refl

-- a time that its version has no room for is 13
tfdt-too-large : tfdt-is.tfdt_in (record { version = 0; flags = 0; base_media_decode_time = 0x1_0000_0000 }) (replicate 20 9) ≡ wrote (Err refusal.Unwritable) (replicate 20 9)
unfolding bytes when rule_of lay encode
tfdt-too-large = refl
