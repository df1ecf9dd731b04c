-- Worked examples of the definitions, computed. Assumes nothing.
use Rattle.std.specs.Prelude.{Ok, Err, Some, None}
use mathlib.Core.Path.{◌≡◌, refl}
use mathlib.Core.List.{[], ◌∷◌, ◌++◌}
use Rattle.numbers.specs.Number.{be, bytes}
use Rattle.numbers.specs.Field.{field, when}
use Rattle.numbers.specs.declared.Refusal.TheVariants as refusal
use Rattle.places.specs.Kinds.{stbl, stts, co64, stss, mdat}
use Rattle.layout.specs.Rule.{rule_of}
use Rattle.layout.specs.Read.{one, decode}
use Rattle.children.specs.Children.{row_of, first_in, whole_in}
use Rattle.children.proofs.Example.{of}
use Rattle.stbl.proofs.Vectors.{case-two, case-boxes}
use Rattle.tableboxes.specs.TableBoxes.{boxes_of}

-- the tables of document 01's case 2
case-found : boxes_of case-two ≡ Ok case-boxes
unfolding be bytes field when rule_of one decode row_of first_in whole_in
case-found = refl

-- an stbl: its boxes in any order, the first of each type, others passed over; a child that passes its end; another type
found-any : boxes_of (of stbl (of mdat [] ++ of stss [] ++ of co64 [] ++ of stss (0 ∷ []))) ≡ Ok (record { stts = None; ctts = None; stsc = None; stsz = None; stco = None; co64 = Some (24, 8); stss = Some (16, 8) })
unfolding be bytes field when rule_of one decode row_of first_in whole_in
found-any = refl

found-cut : boxes_of (of stbl (bytes 4 9 ++ bytes 4 stts)) ≡ Err (refusal.Cut 8)
unfolding be bytes field when rule_of one decode row_of first_in whole_in
found-cut = refl

found-other : boxes_of (of mdat []) ≡ Err (refusal.Value 4)
unfolding be bytes field when rule_of one decode row_of first_in whole_in
found-other = refl
