-- Worked examples of the definitions, computed. Assumes nothing.
use Rattle.std.specs.Prelude.{Ok, Err, Some, None}
use mathlib.Core.Path.{◌≡◌, refl}
use mathlib.Core.List.{[], ◌++◌}
use Rattle.numbers.specs.Number.{be, bytes}
use Rattle.numbers.specs.Field.{field, when}
use Rattle.numbers.specs.declared.Refusal.TheVariants as refusal
use Rattle.places.specs.Kinds.{traf, tfhd, tfdt, trun, mdat}
use Rattle.layout.specs.Rule.{rule_of}
use Rattle.layout.specs.Read.{one, decode}
use Rattle.children.specs.Children.{row_of, first_in, whole_in}
use Rattle.children.proofs.Example.{of}
use Rattle.traf.specs.Traf as traf-is

traf-read : traf-is.traf_of (of traf (of mdat [] ++ of tfhd [] ++ of trun [])) ≡ Ok (record { tfhd = Some 16; tfdt = None; trun = Some 24 })
unfolding be bytes field when rule_of one decode row_of first_in whole_in
traf-read = refl

traf-empty : traf-is.traf_of (of traf []) ≡ Ok (record { tfhd = None; tfdt = None; trun = None })
unfolding be bytes field when rule_of one decode row_of first_in whole_in
traf-empty = refl

traf-refused : traf-is.traf_of (of traf (of tfhd [] ++ bytes 4 9 ++ bytes 4 mdat)) ≡ Err (refusal.Cut 16)
unfolding be bytes field when rule_of one decode row_of first_in whole_in
traf-refused = refl
