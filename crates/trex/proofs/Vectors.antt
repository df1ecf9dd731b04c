-- Worked examples of the definitions, computed. Assumes nothing.
use Rattle.std.specs.Prelude.{Ok, Err}
use mathlib.Core.Path.{◌≡◌, refl}
use mathlib.Core.List.{◌++◌}
use lib.ListN.{replicate}
use Rattle.numbers.specs.Number.{be, bytes}
use Rattle.numbers.specs.Field.{field, when}
use Rattle.numbers.specs.declared.Refusal.TheVariants as refusal
use Rattle.put.specs.Put.{wrote}
use Rattle.layout.specs.Rule.{rule_of}
use Rattle.layout.specs.Read.{one, decode}
use Rattle.layout.specs.Write.{lay, encode}
use Rattle.rounds.proofs.Example.{box}
use Rattle.trex.specs.Trex as trex-is
use Rattle.trex.specs.declared.Trex.{Trex}

abbrev defaults : Trex
defaults = record { version = 0; flags = 0; track_id = 1; default_sample_description_index = 1; default_sample_duration = 500; default_sample_size = 60; default_sample_flags = 0x10000 }

trex-read : trex-is.trex_of (box 0x74726578 0 0 (bytes 4 1 ++ bytes 4 1 ++ bytes 4 500 ++ bytes 4 60 ++ bytes 4 0x10000)) ≡ Ok defaults
unfolding be bytes field when rule_of one decode
trex-read = refl

trex-written : trex-is.trex_in defaults (replicate 32 9) ≡ wrote (Ok 32) (box 0x74726578 0 0 (bytes 4 1 ++ bytes 4 1 ++ bytes 4 500 ++ bytes 4 60 ++ bytes 4 0x10000) ++ replicate 0 9)
unfolding bytes when rule_of lay encode
trex-written = refl

-- track 0 is 8 (A18)
trex-track-0 : trex-is.trex_of (box 0x74726578 0 0 (bytes 4 0)) ≡ Err (refusal.Value 12)
unfolding be bytes field when rule_of one decode
trex-track-0 = refl

trex-cut : trex-is.trex_of (box 0x74726578 0 0 (bytes 4 1 ++ bytes 4 1 ++ bytes 4 500 ++ bytes 4 60 ++ bytes 3 1)) ≡ Err (refusal.Cut 28)
unfolding be bytes field when rule_of one decode
trex-cut = refl
