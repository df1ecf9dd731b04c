-- Worked examples of the definitions, computed. Assumes nothing.
use Rattle.std.specs.Prelude.{Ok, Err}
use mathlib.Core.Path.{◌≡◌, refl}
use mathlib.Core.List.{◌++◌}
use lib.ListN.{replicate}
use Rattle.numbers.specs.Number.{be, bytes}
use Rattle.numbers.specs.Field.{field, when}
use Rattle.numbers.specs.declared.Refusal.TheVariants as refusal
use Rattle.put.specs.Put.{wrote}
use Rattle.layout.specs.Rule.{rule_of}
use Rattle.layout.specs.Read.{one, decode}
use Rattle.layout.specs.Write.{lay, encode}
use Rattle.rounds.proofs.Example.{box}
use lib.IntN.{negsuc}
use Rattle.layout.specs.Table.{cut_of}
use Rattle.signed.specs.Signed.{signed}
use Rattle.ctts.specs.Ctts as ctts-is

-- offsets are signed, in version 0 too
ctts-signed : ctts-is.entry_of (bytes 4 1 ++ bytes 4 0xffff_ffff) 0 ≡ Ok (record { sample_count = 1; sample_offset = negsuc 0 })
unfolding be bytes field when rule_of one decode signed
ctts-signed = refl

ctts-read : ctts-is.ctts_of (box 0x63747473 1 0 (bytes 4 1 ++ bytes 4 1 ++ bytes 4 0xffff_ffff)) ≡ Ok (record { version = 1; flags = 0; count = 1 }, 16)
unfolding be bytes field when rule_of one decode cut_of
ctts-read = refl

ctts-version : ctts-is.ctts_of (box 0x63747473 2 0 (bytes 4 0)) ≡ Err (refusal.Version 8)
unfolding be bytes field when rule_of one decode cut_of
ctts-version = refl

ctts-written : ctts-is.ctts_in (record { version = 1; flags = 0; count = 1 }) (bytes 4 1 ++ bytes 4 500) (replicate 24 9) ≡ wrote (Ok 24) (box 0x63747473 1 0 (bytes 4 1 ++ bytes 4 1 ++ bytes 4 500) ++ replicate 0 9)
unfolding bytes when rule_of lay encode
ctts-written = refl
