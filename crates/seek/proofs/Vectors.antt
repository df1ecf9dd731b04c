-- Worked examples of the definitions, computed; the bytes are those of tables' own examples. Assumes nothing.
use mathlib.Core.Path.{◌≡◌, refl}
use mathlib.Core.List.{[], ◌∷◌}
use Rattle.numbers.specs.Number.{be, bytes}
use Rattle.numbers.specs.Field.{field, when}
use Rattle.tables.specs.Tables.{values_of, pair_at, size_at}
use Rattle.tables.specs.Rows.{pair_rows, group_rows, end_at, row_by, rows_of}
use Rattle.tables.proofs.Vectors.{file, track, common}
use Rattle.seek.specs.Seek.{value_of, per_chunk, spot_of, span_of}
use Rattle.seek.specs.declared.Value.TheVariants as value
use Rattle.seek.specs.declared.Spot.TheVariants as spot

-- stts (3,1000)(3,500): the fifth sample lasts 500, from 3500 on; there are six
value-fifth : value_of (values_of (rows_of file (pair_rows track.stts))) 4 ≡ value.At 500 3500
unfolding be bytes field when pair_at row_by
value-fifth = refl

value-few : value_of (values_of (rows_of file (pair_rows track.stts))) 6 ≡ value.Few 6
unfolding be bytes field when pair_at row_by
value-few = refl

-- stsc (1,2)(3,1) over four chunks: the fourth sample is the second of the second chunk, the sixth the first of the last
spot-fourth : spot_of (per_chunk file (group_rows track.stsc 4)) 3 ≡ spot.At 1 1
unfolding be bytes field when row_by end_at
spot-fourth = refl

spot-sixth : spot_of (per_chunk file (group_rows track.stsc 4)) 5 ≡ spot.At 3 0
unfolding be bytes field when row_by end_at
spot-sixth = refl

spot-few : spot_of (per_chunk file (group_rows track.stsc 4)) 6 ≡ spot.Few 6
unfolding be bytes field when row_by end_at
spot-few = refl

-- a row that reaches past the last chunk counts up to it; a chunk without samples is passed over
spot-cut : spot_of (per_chunk file (group_rows track.stsc 1)) 2 ≡ spot.Few 2
unfolding be bytes field when row_by end_at
spot-cut = refl

spot-empty : spot_of (2 ∷ 0 ∷ 1 ∷ []) 2 ≡ spot.At 2 0
unfolding when
spot-empty = refl

-- sizes 20 and 30; and three of a common size of 5
span-listed : span_of file track.stsz 1 3 ≡ 50
unfolding be bytes field when size_at span_of
span-listed = refl

span-common : span_of file common.stsz 0 3 ≡ 15
unfolding be bytes field when size_at span_of
span-common = refl

-- from a sample up to one before it there is nothing
span-back : span_of file track.stsz 3 1 ≡ 0
unfolding be bytes field when size_at span_of
span-back = refl
