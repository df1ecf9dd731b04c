-- Worked examples of the definitions, computed. Assumes nothing.
use Rattle.std.specs.Prelude.{Ok, Err}
use Prim.Native.Nat.{ℕ}
use mathlib.Core.Path.{◌≡◌, refl}
use mathlib.Core.Bool.{true, false}
use Rattle.numbers.specs.Number.{be, bytes}
use Rattle.numbers.specs.Field.{field, when}
use Rattle.numbers.specs.declared.Refusal.TheVariants as refusal
use Rattle.signed.specs.Signed.{signed}
use Rattle.layout.specs.Rule.{rule_of}
use Rattle.layout.specs.Read.{one, decode}
use Rattle.tfhd.specs.Tfhd.{tfhd_of}
use Rattle.tfhd.specs.declared.Tfhd.{Tfhd}
use Rattle.trex.specs.declared.Trex.{Trex}
use Rattle.tfdt.specs.Tfdt.{tfdt_of}
use Rattle.tfdt.specs.declared.Tfdt.{Tfdt}
use Rattle.trun.specs.declared.Trun.{Trun}
use Rattle.runs.specs.declared.Run.{Run}
use Rattle.runs.proofs.Vectors.{tfhd-bytes, tfdt-bytes, three, run}
use Rattle.runstarts.specs.Make.{base_of, make_of}

-- CASE 7: the traf whose run is a worked example of `runs`

abbrev header : Tfhd
header = record { version = 0; flags = 0x20020; track_id = 7; base_data_offset = 0; sample_description_index = 0; default_sample_duration = 0; default_sample_size = 0; default_sample_flags = 0x1_0000 }

abbrev defaults : Trex
defaults = record { version = 0; flags = 0; track_id = 7; default_sample_description_index = 1; default_sample_duration = 40; default_sample_size = 50; default_sample_flags = 60 }

abbrev time : Tfdt
time = record { version = 0; flags = 0; base_media_decode_time = 9000 }

header_read : tfhd_of tfhd-bytes ≡ Ok header
unfolding be bytes field when rule_of one decode
header_read = refl

time-read : tfdt_of tfdt-bytes ≡ Ok time
unfolding be bytes field when rule_of one decode
time-read = refl

-- the moof begins at 1,000, where the header says that the base is: tfhd's flags, trex's duration and size
made : make_of header defaults time three 60 (base_of header 1000 false 5000) ≡ Ok run
unfolding when signed
made = refl

-- BASE AND START

-- tfhd's own base (0x1) wins over 0x20000
own-base : base_of (record { version = 0; flags = 0x20001; track_id = 7; base_data_offset = 77; sample_description_index = 0; default_sample_duration = 0; default_sample_size = 0; default_sample_flags = 0 }) 1000 true 5000 ≡ 77
unfolding when
own-base = refl

abbrev plain : ℕ → Tfhd
plain flags = record { version = 0; flags = flags; track_id = 7; base_data_offset = 0; sample_description_index = 0; default_sample_duration = 4; default_sample_size = 5; default_sample_flags = 6 }

-- the first traf begins at the moof, a later one where the one before ends
first-base : base_of (plain 0) 1000 true 5000 ≡ 1000
unfolding when
first-base = refl

later-base : base_of (plain 0) 1000 false 5000 ≡ 5000
unfolding when
later-base = refl

abbrev trun-of : ℕ → ℕ → Trun
trun-of flags offset = record { version = 0; flags = flags; sample_count = 0; data_offset = offset; first_sample_flags = 0 }

abbrev run-of : ℕ → ℕ → ℕ → Run
run-of flags offset start = record { track = 7; start = start; time = 9000; at = 0; trun = trun-of flags offset; duration = 40; size = 50; flags = 60 }

-- no data offset: at the base
no-offset : make_of (plain 0) defaults time (trun-of 0 8) 0 5000 ≡ Ok (run-of 0 8 5000)
unfolding when signed
no-offset = refl

-- a data offset of -8; and one that reaches below 0
back : make_of (plain 0) defaults time (trun-of 1 0xffff_fff8) 0 5000 ≡ Ok (run-of 1 0xffff_fff8 4992)
unfolding when signed
back = refl

below : make_of (plain 0) defaults time (trun-of 1 0xffff_fff8) 0 7 ≡ Err refusal.Overflow
unfolding when signed
below = refl

-- above 2^64 - 1, though there are no samples
above : make_of (plain 0) defaults time (trun-of 1 8) 0 0xffff_ffff_ffff_fff8 ≡ Err refusal.Overflow
unfolding when signed
above = refl

late : make_of (plain 0) defaults (record { version = 1; flags = 0; base_media_decode_time = 0x8000_0000_0000_0000 }) (trun-of 0 0) 0 0 ≡ Err refusal.Overflow
unfolding when signed
late = refl

-- tfhd's duration, size and flags beat trex's
by-header : make_of (plain 0x38) defaults time (trun-of 0 0) 0 5000 ≡ Ok (record { track = 7; start = 5000; time = 9000; at = 0; trun = trun-of 0 0; duration = 4; size = 5; flags = 6 })
unfolding when signed
by-header = refl
