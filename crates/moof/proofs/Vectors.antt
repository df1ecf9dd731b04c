-- Worked examples of the definitions, computed. Assumes nothing.
use Rattle.std.specs.Prelude.{Ok, Err, Some, None}
use mathlib.Core.Path.{◌≡◌, refl}
use mathlib.Core.List.{[], ◌++◌}
use Rattle.numbers.specs.Number.{be, bytes}
use Rattle.numbers.specs.Field.{field, when}
use Rattle.numbers.specs.declared.Refusal.TheVariants as refusal
use Rattle.places.specs.Kinds.{traf, moof, mfhd, mdat}
use Rattle.layout.specs.Rule.{rule_of}
use Rattle.layout.specs.Read.{one, decode}
use Rattle.children.specs.Children.{row_of, first_in, whole_in}
use Rattle.children.proofs.Example.{of}
use Rattle.moof.specs.Moof as moof-is

moof-read : moof-is.moof_of (of moof (of mdat [] ++ of mfhd [] ++ of traf [])) ≡ Ok (record { mfhd = Some 16; traf = Some 24 })
unfolding be bytes field when rule_of one decode row_of first_in whole_in
moof-read = refl

moof-empty : moof-is.moof_of (of moof []) ≡ Ok (record { mfhd = None; traf = None })
unfolding be bytes field when rule_of one decode row_of first_in whole_in
moof-empty = refl

moof-refused : moof-is.moof_of (of moof (of mfhd [] ++ bytes 4 9 ++ bytes 4 mdat)) ≡ Err (refusal.Cut 16)
unfolding be bytes field when rule_of one decode row_of first_in whole_in
moof-refused = refl
