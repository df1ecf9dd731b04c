-- Worked examples of the definitions, computed. Assumes nothing.
use Rattle.std.specs.Prelude.{Ok, Err}
use mathlib.Core.Path.{◌≡◌, refl}
use mathlib.Core.List.{List, ◌++◌}
use Prim.Native.Nat.{ℕ}
use lib.ListN.{replicate}
use Rattle.numbers.specs.Number.{be, bytes}
use Rattle.numbers.specs.Field.{field, when}
use Rattle.numbers.specs.declared.Refusal.TheVariants as refusal
use Rattle.put.specs.Put.{wrote}
use Rattle.layout.specs.Rule.{rule_of}
use Rattle.layout.specs.Read.{one, decode}
use Rattle.layout.specs.Write.{lay, encode}
use Rattle.rounds.proofs.Example.{box}
use Rattle.rows.specs.Rows.{width_of, allowed_of, last_of, cells_of, entries_of}
use lib.IntN.{pos, negsuc}
use Rattle.signed.specs.Signed.{signed}
use Rattle.elst.specs.Elst as elst-is

abbrev narrow : List ℕ
narrow = bytes 4 500 ++ bytes 4 0xffff_ffff ++ bytes 2 1 ++ bytes 2 0 ++ bytes 4 4000 ++ bytes 4 0 ++ bytes 2 1 ++ bytes 2 0

-- an empty edit, then one from the start
elst-read : elst-is.elst_of (box 0x656c7374 0 0 (bytes 4 2 ++ narrow)) ≡ Ok (record { version = 0; flags = 0; count = 2 }, 16)
unfolding be bytes field when rule_of one decode width_of allowed_of last_of cells_of entries_of
elst-read = refl

-- a media time of -1
elst-first : elst-is.entry_of narrow 0 0 ≡ Ok (record { segment_duration = 500; media_time = negsuc 0; media_rate = pos 1; media_rate_fraction = pos 0 })
unfolding be bytes field when rule_of one decode signed
elst-first = refl

elst-wide : elst-is.entry_of (bytes 8 0x1_0000_0000 ++ bytes 8 0xffff_ffff_ffff_ffff ++ bytes 2 1 ++ bytes 2 0) 1 0 ≡ Ok (record { segment_duration = 0x1_0000_0000; media_time = negsuc 0; media_rate = pos 1; media_rate_fraction = pos 0 })
unfolding be bytes field when rule_of one decode signed
elst-wide = refl

-- below -1 is 8, in both widths
elst-below : elst-is.elst_of (box 0x656c7374 0 0 (bytes 4 1 ++ bytes 4 500 ++ bytes 4 0xffff_fffe ++ bytes 2 1 ++ bytes 2 0)) ≡ Err (refusal.Value 20)
unfolding be bytes field when rule_of one decode width_of allowed_of last_of cells_of entries_of
elst-below = refl

elst-below-wide : elst-is.elst_of (box 0x656c7374 1 0 (bytes 4 1 ++ bytes 8 500 ++ bytes 8 0xffff_ffff_ffff_fffe ++ bytes 2 1 ++ bytes 2 0)) ≡ Err (refusal.Value 24)
unfolding be bytes field when rule_of one decode width_of allowed_of last_of cells_of entries_of
elst-below-wide = refl

-- an edit of version 1 has 20 bytes
elst-cut : elst-is.elst_of (box 0x656c7374 1 0 (bytes 4 1 ++ bytes 4 500 ++ bytes 4 0xffff_ffff ++ bytes 2 1 ++ bytes 2 0)) ≡ Err (refusal.Cut 24)
unfolding be bytes field when rule_of one decode width_of allowed_of last_of cells_of entries_of
elst-cut = refl

elst-written : elst-is.elst_in (record { version = 0; flags = 0; count = 2 }) narrow (replicate 41 9) ≡ wrote (Ok 40) (box 0x656c7374 0 0 (bytes 4 2 ++ narrow) ++ replicate 1 9)
unfolding be bytes field when rule_of one decode lay encode width_of allowed_of last_of cells_of entries_of
elst-written = refl

elst-not-written : elst-is.elst_in (record { version = 0; flags = 0; count = 1 }) (bytes 4 500 ++ bytes 4 0xffff_fffe ++ bytes 2 1 ++ bytes 2 0) (replicate 28 9) ≡ wrote (Err refusal.Unwritable) (replicate 28 9)
unfolding be bytes field when rule_of one decode lay encode width_of allowed_of last_of cells_of entries_of
elst-not-written = refl
