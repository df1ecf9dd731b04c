-- Worked examples of the definitions, computed. Assumes nothing.
use Rattle.std.specs.Prelude.{Ok, Err}
use mathlib.Core.Path.{◌≡◌, refl}
use mathlib.Core.List.{List, [], ◌∷◌, ◌++◌}
use Prim.Native.Nat.{ℕ}
use lib.ListN.{length, replicate}
use Rattle.numbers.specs.Number.{be, bytes}
use Rattle.numbers.specs.Field.{field, when}
use Rattle.numbers.specs.declared.Refusal.TheVariants as refusal
use Rattle.layout.specs.Rule.{rule_of}
use Rattle.layout.specs.Read.{one, decode}
use Rattle.rounds.proofs.Example.{box}
use Rattle.places.specs.Kinds.{ftyp, moov, mvhd, trak, tkhd}
use Rattle.codings.specs.Codings.{pick, codings}
use Rattle.readers.specs.Readers.{readers}
use Rattle.keys.specs.Key.{keys, pick_key}
use Rattle.kin.specs.Before.{some, sum}
use Rattle.kin.specs.Kin.{Boxes, boxes}
use Rattle.inside.specs.Inside.{next_in, child}
use Rattle.tree.specs.declared.Scanned.TheVariants.{Whole, Fault}
use Rattle.needed.specs.First.{first}
use Rattle.needed.specs.Needed.{each, needed, in_trak, in_file}
use Rattle.opening.specs.Opening.{first_fault, refusal_of}

-- boxes of 8 bytes one after the other, which stand in their places, by their types and parents
abbrev of : List ℕ → List ℕ → Boxes
of kinds parents = boxes (0 ∷ 8 ∷ 16 ∷ 24 ∷ []) (replicate 4 8) kinds parents (replicate (length kinds) 1)

-- a file that is not refused
fine : refusal_of [] (of (ftyp ∷ moov ∷ mvhd ∷ []) (0 ∷ 0 ∷ 2 ∷ [])) (Whole 3) ≡ (Ok tt)
unfolding when some sum keys pick_key readers codings pick next_in child first each needed in_file first_fault refusal_of
fine = refl

-- a needed box that is missing
empty : refusal_of [] (of [] []) (Whole 0) ≡ Err (refusal.Missing ftyp)
unfolding when some sum keys pick_key readers codings pick next_in child first each needed in_file first_fault refusal_of
empty = refl

no-tkhd : refusal_of [] (of (ftyp ∷ moov ∷ mvhd ∷ trak ∷ []) (0 ∷ 0 ∷ 2 ∷ 2 ∷ [])) (Whole 4) ≡ Err (refusal.Missing tkhd)
unfolding when some sum keys pick_key readers codings pick next_in child first each needed in_trak in_file first_fault refusal_of
no-tkhd = refl

-- the fault of a header goes before it
header : refusal_of [] (of (ftyp ∷ []) (0 ∷ [])) (Fault 1 (refusal.Cut 8)) ≡ Err (refusal.Cut 8)
unfolding when some sum keys pick_key readers codings pick first_fault refusal_of
header = refl

-- the fault of a recorded box goes before both
twice-then-header : refusal_of [] (of (ftyp ∷ ftyp ∷ []) (0 ∷ 0 ∷ [])) (Fault 2 (refusal.Cut 16)) ≡ Err (refusal.Twice 8)
unfolding when some sum keys pick_key readers codings pick first_fault refusal_of
twice-then-header = refl

twice-and-missing : refusal_of [] (of (ftyp ∷ ftyp ∷ []) (0 ∷ 0 ∷ [])) (Whole 2) ≡ Err (refusal.Twice 8)
unfolding when some sum keys pick_key readers codings pick first_fault refusal_of
twice-and-missing = refl

-- of several the first
thrice : refusal_of [] (of (ftyp ∷ ftyp ∷ ftyp ∷ []) (0 ∷ 0 ∷ 0 ∷ [])) (Whole 3) ≡ Err (refusal.Twice 8)
unfolding when some sum keys pick_key readers codings pick first_fault refusal_of
thrice = refl

-- a box behind the recorded is not judged
unrecorded : refusal_of [] (of (ftyp ∷ ftyp ∷ []) (0 ∷ 0 ∷ [])) (Whole 1) ≡ Err (refusal.Missing moov)
unfolding when some sum keys pick_key readers codings pick next_in child first each needed in_file first_fault refusal_of
unrecorded = refl

-- what a box's reader refuses is told at its place in the file: a track's number of 0, in a tkhd that begins at byte 8
zero-track : refusal_of (replicate 8 0 ++ box tkhd 0 7 (bytes 8 0 ++ bytes 4 0 ++ replicate 68 0))
    (boxes (0 ∷ 8 ∷ []) (8 ∷ 92 ∷ []) (ftyp ∷ tkhd ∷ []) (0 ∷ 1 ∷ []) (1 ∷ 1 ∷ [])) (Whole 2) ≡ Err (refusal.Value 28)
unfolding be bytes field when rule_of one decode some sum keys pick_key readers codings pick first_fault refusal_of
zero-track = refl
