-- Worked examples of the definitions, computed. Assumes nothing.
use Rattle.std.specs.Prelude.{Ok, Err, Some, None}
use mathlib.Core.Path.{◌≡◌, refl}
use mathlib.Core.List.{[], ◌++◌}
use Rattle.numbers.specs.Number.{be, bytes}
use Rattle.numbers.specs.Field.{field, when}
use Rattle.numbers.specs.declared.Refusal.TheVariants as refusal
use Rattle.places.specs.Kinds.{edts, elst, dinf, dref, mvex, trex, mdat}
use Rattle.layout.specs.Rule.{rule_of}
use Rattle.layout.specs.Read.{one, decode}
use Rattle.children.specs.Children.{row_of, first_in, whole_in}
use Rattle.children.proofs.Example.{of}
use Rattle.containers.specs.Dinf as dinf-is
use Rattle.containers.specs.Edts as edts-is
use Rattle.containers.specs.Mvex as mvex-is

dinf-read : dinf-is.dinf_of (of dinf (of mdat [] ++ of dref [])) ≡ Ok (record { dref = Some 16 })
unfolding be bytes field when rule_of one decode row_of first_in whole_in
dinf-read = refl

dinf-empty : dinf-is.dinf_of (of dinf []) ≡ Ok (record { dref = None })
unfolding be bytes field when rule_of one decode row_of first_in whole_in
dinf-empty = refl

-- a fault behind the child
dinf-refused : dinf-is.dinf_of (of dinf (of dref [] ++ bytes 4 9 ++ bytes 4 mdat)) ≡ Err (refusal.Cut 16)
unfolding be bytes field when rule_of one decode row_of first_in whole_in
dinf-refused = refl

edts-read : edts-is.edts_of (of edts (of mdat [] ++ of elst [])) ≡ Ok (record { elst = Some 16 })
unfolding be bytes field when rule_of one decode row_of first_in whole_in
edts-read = refl

edts-empty : edts-is.edts_of (of edts []) ≡ Ok (record { elst = None })
unfolding be bytes field when rule_of one decode row_of first_in whole_in
edts-empty = refl

edts-refused : edts-is.edts_of (of edts (of elst [] ++ bytes 4 9 ++ bytes 4 mdat)) ≡ Err (refusal.Cut 16)
unfolding be bytes field when rule_of one decode row_of first_in whole_in
edts-refused = refl

mvex-read : mvex-is.mvex_of (of mvex (of mdat [] ++ of trex [])) ≡ Ok (record { trex = Some 16 })
unfolding be bytes field when rule_of one decode row_of first_in whole_in
mvex-read = refl

mvex-empty : mvex-is.mvex_of (of mvex []) ≡ Ok (record { trex = None })
unfolding be bytes field when rule_of one decode row_of first_in whole_in
mvex-empty = refl

mvex-refused : mvex-is.mvex_of (of mvex (of trex [] ++ bytes 4 9 ++ bytes 4 mdat)) ≡ Err (refusal.Cut 16)
unfolding be bytes field when rule_of one decode row_of first_in whole_in
mvex-refused = refl
