-- Worked examples of the definitions, computed. Assumes nothing.
use Rattle.std.specs.Prelude.{Ok, Err}
use mathlib.Core.Path.{◌≡◌, refl}
use mathlib.Core.List.{◌++◌}
use lib.ListN.{replicate}
use Rattle.numbers.specs.Number.{be, bytes}
use Rattle.numbers.specs.Field.{field, when}
use Rattle.numbers.specs.declared.Refusal.TheVariants as refusal
use Rattle.put.specs.Put.{wrote}
use Rattle.layout.specs.Rule.{rule_of}
use Rattle.layout.specs.Read.{one, decode}
use Rattle.layout.specs.Write.{lay, encode}
use Rattle.rounds.proofs.Example.{box}
use Rattle.tfhd.specs.Tfhd as tfhd-is
use Rattle.tfhd.specs.declared.Tfhd.{Tfhd}

abbrev given : Tfhd
given = record { version = 0; flags = 0x2_0018; track_id = 2; base_data_offset = 0; sample_description_index = 0; default_sample_duration = 500; default_sample_size = 60; default_sample_flags = 0 }

-- flags 0x8 and 0x10: the duration, then the size; what is not there is 0
tfhd-read : tfhd-is.tfhd_of (box 0x74666864 0 0x2_0018 (bytes 4 2 ++ bytes 4 500 ++ bytes 4 60)) ≡ Ok given
unfolding be bytes field when rule_of one decode
tfhd-read = refl

-- track 0 is 8 (A18)
tfhd-track-0 : tfhd-is.tfhd_of (box 0x74666864 0 0 (bytes 4 0)) ≡ Err (refusal.Value 12)
unfolding be bytes field when rule_of one decode
tfhd-track-0 = refl

-- the base is cut
tfhd-cut : tfhd-is.tfhd_of (box 0x74666864 0 1 (bytes 4 2 ++ bytes 7 0)) ≡ Err (refusal.Cut 16)
unfolding be bytes field when rule_of one decode
tfhd-cut = refl

tfhd-written : tfhd-is.tfhd_in given (replicate 24 9) ≡ wrote (Ok 24) (box 0x74666864 0 0x2_0018 (bytes 4 2 ++ bytes 4 500 ++ bytes 4 60) ++ replicate 0 9)
unfolding bytes when rule_of lay encode
tfhd-written = refl
