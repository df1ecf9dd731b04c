-- Worked examples: what is told of a file without a byte, and of a place behind the last track. Assumes nothing.
use Rattle.std.specs.Prelude.{Err}
use Prim.Native.Nat.{ℕ}
use mathlib.Core.Path.{◌≡◌, refl}
use mathlib.Core.List.{List, []}
use mathlib.Core.Bool.{Bool}
use Rattle.numbers.specs.Field.{when}
use Rattle.numbers.specs.declared.Refusal.TheVariants as refusal
use Rattle.places.specs.Kinds.{ftyp, trak}
use Rattle.samples.specs.Records.{output}
use Rattle.kin.specs.Kin.{Boxes}
use Rattle.kin.specs.Before.{some}
use Rattle.tree.specs.Walk.{siblings, kids_of}
use Rattle.tree.specs.Tables.{puts}
use Rattle.inside.specs.Inside.{next_in, child}
use Rattle.needed.specs.First.{first}
use Rattle.needed.specs.Needed.{each, needed, in_file}
use Rattle.opening.specs.Opening.{first_fault, refusal_of}
use Rattle.runs.specs.declared.Run.{Run}
use Rattle.audit.specs.Boxes.{scanned_of, boxes_of}
use Rattle.opened.specs.Opened.{by_trak, tell_of}
use Rattle.opened.specs.declared.Question.{Question}

case-no-byte : (place : ℕ) (q : Question) (o : List ℕ) → tell_of [] place q o ≡ output (Err (refusal.Missing ftyp)) o
unfolding when siblings kids_of puts scanned_of boxes_of some next_in child first each needed in_file first_fault refusal_of tell_of
case-no-byte place q o = refl

case-no-trak : (f : List ℕ) (t : Boxes) (n : ℕ) (rs : List Run) (b : Bool) (q : Question) (o : List ℕ) → by_trak f t n rs b 0 q o ≡ output (Err (refusal.Missing trak)) o
unfolding when by_trak
case-no-trak f t n rs b q o = refl
