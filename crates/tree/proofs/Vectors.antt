-- Worked examples of the definitions, computed. Assumes nothing.
use Rattle.std.specs.Prelude.{Err}
use mathlib.Core.Path.{◌≡◌, refl}
use mathlib.Core.List.{List, [], ◌∷◌}
use mathlib.Core.Bool.{Bool, true, false}
use Prim.Native.Nat.{ℕ}
use Rattle.numbers.specs.Number.{be}
use Rattle.numbers.specs.Field.{field, when}
use Rattle.numbers.specs.Refusals.{detail}
use Rattle.numbers.specs.declared.Refusal.TheVariants as refusal
use Rattle.places.specs.Kinds.{ftyp, moov, mvhd, trak, tkhd}
use Rattle.places.specs.Places.{places, listed}
use Rattle.tree.specs.Walk.{Walked, whole, fault, siblings, kids_of, tree_of}
use Rattle.tree.specs.Forest.{nodes_of}
use Rattle.tree.specs.Tables.{tables, puts, out, scan_of, all_of}
use Rattle.places.specs.declared.Node.{Node}
use Rattle.tree.specs.declared.Scanned.TheVariants as scan

node : ℕ → ℕ → ℕ → ℕ → ℕ → Bool → Node
node start size kind parent depth placed = record { start = start; size = size; kind = kind; parent = parent; depth = depth; placed = placed }

-- ftyp, moov with mvhd and a trak with tkhd, free: each in its place but free
file : List ℕ
file = 0 ∷ 0 ∷ 0 ∷ 12 ∷ 102 ∷ 116 ∷ 121 ∷ 112 ∷ 105 ∷ 115 ∷ 111 ∷ 109 ∷ 0 ∷ 0 ∷ 0 ∷ 36 ∷ 109 ∷ 111 ∷ 111 ∷ 118 ∷ 0 ∷ 0 ∷ 0 ∷ 12 ∷ 109 ∷ 118 ∷ 104 ∷ 100 ∷ 120 ∷ 120 ∷ 120 ∷ 120 ∷ 0 ∷ 0 ∷ 0 ∷ 16 ∷ 116 ∷ 114 ∷ 97 ∷ 107 ∷ 0 ∷ 0 ∷ 0 ∷ 8 ∷ 116 ∷ 107 ∷ 104 ∷ 100 ∷ 0 ∷ 0 ∷ 0 ∷ 11 ∷ 102 ∷ 114 ∷ 101 ∷ 101 ∷ 97 ∷ 98 ∷ 99 ∷ []

small : tree_of file ≡ whole (node 0 12 ftyp 0 1 true ∷ node 12 36 moov 0 1 true ∷ node 20 12 mvhd 2 2 true ∷ node 32 16 trak 2 2 true ∷ node 40 8 tkhd 4 3 true ∷ node 48 11 0x66726565 0 1 false ∷ [])
unfolding be field when places listed siblings kids_of node file
small = refl

-- in tables of seven rows: the seventh stays as it was
recorded : scan_of file (tables (9 ∷ 9 ∷ 9 ∷ 9 ∷ 9 ∷ 9 ∷ 9 ∷ []) [] [] (9 ∷ 9 ∷ 9 ∷ 9 ∷ 9 ∷ 9 ∷ 9 ∷ []) [] [])
    ≡ out (scan.Whole 6) (tables (0 ∷ 12 ∷ 20 ∷ 32 ∷ 40 ∷ 48 ∷ 9 ∷ []) [] [] (0 ∷ 0 ∷ 2 ∷ 2 ∷ 4 ∷ 0 ∷ 9 ∷ []) [] [])
unfolding be field when places listed siblings kids_of puts file
recorded = refl

-- ten levels are accepted; the eleventh is too deep, told with the ten boxes above it
answer_of : Walked → Bool
answer_of (whole ns) = true
answer_of (fault ns q) = false

deep : List ℕ
deep = 0 ∷ 0 ∷ 0 ∷ 88 ∷ 109 ∷ 111 ∷ 111 ∷ 118 ∷ 0 ∷ 0 ∷ 0 ∷ 80 ∷ 109 ∷ 111 ∷ 111 ∷ 118 ∷ 0 ∷ 0 ∷ 0 ∷ 72 ∷ 109 ∷ 111 ∷ 111 ∷ 118 ∷ 0 ∷ 0 ∷ 0 ∷ 64 ∷ 109 ∷ 111 ∷ 111 ∷ 118 ∷ 0 ∷ 0 ∷ 0 ∷ 56 ∷ 109 ∷ 111 ∷ 111 ∷ 118 ∷ 0 ∷ 0 ∷ 0 ∷ 48 ∷ 109 ∷ 111 ∷ 111 ∷ 118 ∷ 0 ∷ 0 ∷ 0 ∷ 40 ∷ 109 ∷ 111 ∷ 111 ∷ 118 ∷ 0 ∷ 0 ∷ 0 ∷ 32 ∷ 109 ∷ 111 ∷ 111 ∷ 118 ∷ 0 ∷ 0 ∷ 0 ∷ 24 ∷ 109 ∷ 111 ∷ 111 ∷ 118 ∷ 0 ∷ 0 ∷ 0 ∷ 16 ∷ 109 ∷ 111 ∷ 111 ∷ 118 ∷ 0 ∷ 0 ∷ 0 ∷ 8 ∷ 109 ∷ 111 ∷ 111 ∷ 118 ∷ []

ten : List ℕ
ten = 0 ∷ 0 ∷ 0 ∷ 80 ∷ 109 ∷ 111 ∷ 111 ∷ 118 ∷ 0 ∷ 0 ∷ 0 ∷ 72 ∷ 109 ∷ 111 ∷ 111 ∷ 118 ∷ 0 ∷ 0 ∷ 0 ∷ 64 ∷ 109 ∷ 111 ∷ 111 ∷ 118 ∷ 0 ∷ 0 ∷ 0 ∷ 56 ∷ 109 ∷ 111 ∷ 111 ∷ 118 ∷ 0 ∷ 0 ∷ 0 ∷ 48 ∷ 109 ∷ 111 ∷ 111 ∷ 118 ∷ 0 ∷ 0 ∷ 0 ∷ 40 ∷ 109 ∷ 111 ∷ 111 ∷ 118 ∷ 0 ∷ 0 ∷ 0 ∷ 32 ∷ 109 ∷ 111 ∷ 111 ∷ 118 ∷ 0 ∷ 0 ∷ 0 ∷ 24 ∷ 109 ∷ 111 ∷ 111 ∷ 118 ∷ 0 ∷ 0 ∷ 0 ∷ 16 ∷ 109 ∷ 111 ∷ 111 ∷ 118 ∷ 0 ∷ 0 ∷ 0 ∷ 8 ∷ 109 ∷ 111 ∷ 111 ∷ 118 ∷ []

ten-levels : answer_of (tree_of ten) ≡ true
unfolding be field when places listed siblings kids_of answer_of ten
ten-levels = refl

eleven-levels : (a b c d e f : List ℕ) → all_of (tables a b c d e f) (tree_of deep) ≡ out (Err (refusal.Depth 80)) (tables a b c d e f)
unfolding be field when places listed siblings kids_of deep
eleven-levels a b c d e f = refl

-- the last box recorded of a file, and whether it stands in its place
last_of : List Node → Node
last_of [] = node 0 0 0 0 0 false
last_of (x ∷ []) = x
last_of (x ∷ (y ∷ ys)) = last_of (y ∷ ys)

-- an stsd that counts two entries and has one: cut where the second begins
counted : List ℕ
counted = 0 ∷ 0 ∷ 0 ∷ 64 ∷ 109 ∷ 111 ∷ 111 ∷ 118 ∷ 0 ∷ 0 ∷ 0 ∷ 56 ∷ 116 ∷ 114 ∷ 97 ∷ 107 ∷ 0 ∷ 0 ∷ 0 ∷ 48 ∷ 109 ∷ 100 ∷ 105 ∷ 97 ∷ 0 ∷ 0 ∷ 0 ∷ 40 ∷ 109 ∷ 105 ∷ 110 ∷ 102 ∷ 0 ∷ 0 ∷ 0 ∷ 32 ∷ 115 ∷ 116 ∷ 98 ∷ 108 ∷ 0 ∷ 0 ∷ 0 ∷ 24 ∷ 115 ∷ 116 ∷ 115 ∷ 100 ∷ 0 ∷ 0 ∷ 0 ∷ 0 ∷ 0 ∷ 0 ∷ 0 ∷ 2 ∷ 0 ∷ 0 ∷ 0 ∷ 8 ∷ 116 ∷ 120 ∷ 51 ∷ 103 ∷ []

fault_of : Walked → ℕ
fault_of (whole ns) = 0
fault_of (fault ns q) = detail q

one-short : fault_of (tree_of counted) ≡ 64
unfolding be field when places listed siblings kids_of fault_of counted
one-short = refl

-- an mp4a of version 0 is entered; one of version 1 is QuickTime's, and not in its place
ours : List ℕ
ours = 0 ∷ 0 ∷ 0 ∷ 100 ∷ 109 ∷ 111 ∷ 111 ∷ 118 ∷ 0 ∷ 0 ∷ 0 ∷ 92 ∷ 116 ∷ 114 ∷ 97 ∷ 107 ∷ 0 ∷ 0 ∷ 0 ∷ 84 ∷ 109 ∷ 100 ∷ 105 ∷ 97 ∷ 0 ∷ 0 ∷ 0 ∷ 76 ∷ 109 ∷ 105 ∷ 110 ∷ 102 ∷ 0 ∷ 0 ∷ 0 ∷ 68 ∷ 115 ∷ 116 ∷ 98 ∷ 108 ∷ 0 ∷ 0 ∷ 0 ∷ 60 ∷ 115 ∷ 116 ∷ 115 ∷ 100 ∷ 0 ∷ 0 ∷ 0 ∷ 0 ∷ 0 ∷ 0 ∷ 0 ∷ 1 ∷ 0 ∷ 0 ∷ 0 ∷ 44 ∷ 109 ∷ 112 ∷ 52 ∷ 97 ∷ 0 ∷ 0 ∷ 0 ∷ 0 ∷ 0 ∷ 0 ∷ 0 ∷ 0 ∷ 0 ∷ 0 ∷ 0 ∷ 0 ∷ 0 ∷ 0 ∷ 0 ∷ 0 ∷ 0 ∷ 0 ∷ 0 ∷ 0 ∷ 0 ∷ 0 ∷ 0 ∷ 0 ∷ 0 ∷ 0 ∷ 0 ∷ 0 ∷ 0 ∷ 0 ∷ 0 ∷ 8 ∷ 101 ∷ 115 ∷ 100 ∷ 115 ∷ []

quick_time : List ℕ
quick_time = 0 ∷ 0 ∷ 0 ∷ 100 ∷ 109 ∷ 111 ∷ 111 ∷ 118 ∷ 0 ∷ 0 ∷ 0 ∷ 92 ∷ 116 ∷ 114 ∷ 97 ∷ 107 ∷ 0 ∷ 0 ∷ 0 ∷ 84 ∷ 109 ∷ 100 ∷ 105 ∷ 97 ∷ 0 ∷ 0 ∷ 0 ∷ 76 ∷ 109 ∷ 105 ∷ 110 ∷ 102 ∷ 0 ∷ 0 ∷ 0 ∷ 68 ∷ 115 ∷ 116 ∷ 98 ∷ 108 ∷ 0 ∷ 0 ∷ 0 ∷ 60 ∷ 115 ∷ 116 ∷ 115 ∷ 100 ∷ 0 ∷ 0 ∷ 0 ∷ 0 ∷ 0 ∷ 0 ∷ 0 ∷ 1 ∷ 0 ∷ 0 ∷ 0 ∷ 44 ∷ 109 ∷ 112 ∷ 52 ∷ 97 ∷ 0 ∷ 0 ∷ 0 ∷ 0 ∷ 0 ∷ 0 ∷ 0 ∷ 0 ∷ 0 ∷ 1 ∷ 0 ∷ 0 ∷ 0 ∷ 0 ∷ 0 ∷ 0 ∷ 0 ∷ 0 ∷ 0 ∷ 0 ∷ 0 ∷ 0 ∷ 0 ∷ 0 ∷ 0 ∷ 0 ∷ 0 ∷ 0 ∷ 0 ∷ 0 ∷ 0 ∷ 8 ∷ 101 ∷ 115 ∷ 100 ∷ 115 ∷ []

entered : last_of (nodes_of (tree_of ours)) ≡ node 92 8 0x65736473 7 8 true
unfolding be field when places listed siblings kids_of last_of node ours
entered = refl

not_entered : last_of (nodes_of (tree_of quick_time)) ≡ node 56 44 0x6d703461 6 7 false
unfolding be field when places listed siblings kids_of last_of node quick_time
not_entered = refl
