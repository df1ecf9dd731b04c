-- Worked examples of the definitions, computed. Assumes nothing.
use Rattle.std.specs.Prelude.{Ok, Err}
use mathlib.Core.Path.{◌≡◌, refl}
use mathlib.Core.List.{List, ◌++◌}
use Prim.Native.Nat.{ℕ}
use lib.ListN.{replicate}
use Rattle.numbers.specs.Number.{be, bytes}
use Rattle.numbers.specs.Field.{field, when}
use Rattle.numbers.specs.declared.Refusal.TheVariants as refusal
use Rattle.put.specs.Put.{wrote}
use Rattle.layout.specs.Rule.{rule_of}
use Rattle.layout.specs.Read.{one, decode}
use Rattle.layout.specs.Write.{lay, encode}
use Rattle.rounds.proofs.Example.{box}
use Rattle.layout.specs.Table.{cut_of}
use Rattle.stsz.specs.Stsz as stsz-is

abbrev sizes : List ℕ
sizes = bytes 4 10 ++ bytes 4 20 ++ bytes 4 30

-- sizes of their own
stsz-read : stsz-is.stsz_of (box 0x7374737a 0 0 (bytes 4 0 ++ bytes 4 3 ++ sizes)) ≡ Ok (record { version = 0; flags = 0; sample_size = 0; count = 3 }, 20)
unfolding be bytes field when rule_of one decode cut_of
stsz-read = refl

-- a common size: no list, however many there are
stsz-common : stsz-is.stsz_of (box 0x7374737a 0 0 (bytes 4 10 ++ bytes 4 0xffff_ffff)) ≡ Ok (record { version = 0; flags = 0; sample_size = 10; count = 0xffff_ffff }, 20)
unfolding be bytes field when rule_of one decode cut_of
stsz-common = refl

stsz-cut : stsz-is.stsz_of (box 0x7374737a 0 0 (bytes 4 0 ++ bytes 4 4 ++ sizes)) ≡ Err (refusal.Cut 32)
unfolding be bytes field when rule_of one decode cut_of
stsz-cut = refl

stsz-third : stsz-is.entry_of sizes 2 ≡ Ok 30
unfolding be bytes field when rule_of one decode
stsz-third = refl

stsz-no-fourth : stsz-is.entry_of sizes 3 ≡ Err (refusal.Cut 12)
unfolding be bytes field when rule_of one decode
stsz-no-fourth = refl

stsz-written : stsz-is.stsz_in (record { version = 0; flags = 0; sample_size = 0; count = 3 }) sizes (replicate 33 9) ≡ wrote (Ok 32) (box 0x7374737a 0 0 (bytes 4 0 ++ bytes 4 3 ++ sizes) ++ replicate 1 9)
unfolding bytes when rule_of lay encode
stsz-written = refl

-- a list beside a common size is 13
stsz-both : stsz-is.stsz_in (record { version = 0; flags = 0; sample_size = 10; count = 3 }) sizes (replicate 33 9) ≡ wrote (Err refusal.Unwritable) (replicate 33 9)
unfolding bytes when rule_of lay encode
stsz-both = refl
