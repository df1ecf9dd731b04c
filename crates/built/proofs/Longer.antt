-- A buffer may hold more than the samples' records: the sample table of the first n records is the same. Assumes nothing.
use Rattle.std.specs.Prelude.{Err}
use Prim.Native.Nat.{ℕ, suc, ◌+◌, ◌-◌, ◌*◌, ◌^◌, ◌≤◌, ◌<◌}
use mathlib.Core.Path.{◌≡◌, refl, sym, ap, ap₂, ◌∙◌}
use mathlib.Core.List.{List, [], ◌∷◌, ◌++◌, append_assoc}
use mathlib.Core.Bool.{Bool, false, not}
use native.Mathlib.Omega.{arith}
use lib.ListN.{length, get_or, length-append, get_or-append}
use lib.Seq.{get_or-append-add}
use lib.Dec.{eqb, leb, ltb}
use borrow.Author.Tests.{le-leb}
use Rattle.numbers.specs.Field.{when}
use Rattle.numbers.specs.declared.Refusal.TheVariants as refusal
use Rattle.put.specs.Put.{Wrote, wrote}
use Rattle.layout.specs.Write.{full, place}
use Rattle.places.specs.Kinds as kinds
use Rattle.samples.specs.declared.Sample.{Sample}
use Rattle.samples.specs.Records.{numbers_of, records_of}
use Rattle.tables.specs.Tables.{list_from}
use Rattle.columns.specs.declared.Rule.TheVariants.{Zero, Narrow, Signed}
use Rattle.columns.specs.Columns.{cell_of, column_of, lows_of, all_meet}
use Rattle.columns.specs.Entries.{words_of}
use Rattle.columns.proofs.Cells.{cell-is}
use Rattle.columns.proofs.Records.{column_in, records-column}
use Rattle.merging.specs.Merging.{merged_of}
use Rattle.builder.specs.Built as builder
use Rattle.chunking.specs.declared.Chunk.{Chunk}
use Rattle.chunking.specs.Chunking.{chunks_of, chunks_in}
use Rattle.chunking.specs.Entries as chunking
use Rattle.sampletable.specs.declared.Table.{Table}
use Rattle.sampletable.specs.declared.Table.TheVariants.{Stts, Ctts, Stsc, Stsz, Offsets, Stss}
use Rattle.sampletable.specs.SampleTable.{wide_in, list_of, kind_of, is_there, first_of, second_of, table_of, tables_of, box_of, fits_in, stbl_of, stbl_in}
use Rattle.built.proofs.Joins.{lowed, lows-from, pieced, pieces-from}

length-records : (l : List Sample) → length (records_of l) ≡ length l * 7
length-records [] = omega arith
length-records (s ∷ l) = omega (arith, length-append (numbers_of s) (records_of l), length-records l)

column-from : (k : ℕ) (f pre : List ℕ) (l : List Sample) (more : List ℕ) (i : ℕ) → k < 7 → f ≡ pre ++ (records_of l ++ more) → length pre ≡ i * 7 → list_from (cell_of f k) (length l) i ≡ column_in k l
column-from k f pre [] more i h e a = refl
column-from k f pre (s ∷ l) more i h e a =
    let tail = records_of l ++ more in
    let e₁ : f ≡ pre ++ (numbers_of s ++ tail) = e ∙ ap (λ (x : List ℕ). pre ++ x) (append_assoc (numbers_of s) (records_of l) more) in
    let n : length f ≡ length pre + length (numbers_of s ++ (records_of l ++ more)) = ap length e₁ ∙ length-append pre (numbers_of s ++ tail) in
    let m : length (numbers_of s ++ (records_of l ++ more)) ≡ 7 + length (records_of l ++ more) = length-append (numbers_of s) tail in
    let room : i * 7 + 7 ≤ length f = omega arith in
    let here : get_or f (i * 7 + k) 0 ≡ get_or (numbers_of s) k 0 =
    ap₂ (λ (x : List ℕ) (j : ℕ). get_or x (j + k) 0) e₁ (sym a) ∙ get_or-append-add pre (numbers_of s ++ tail) k 0 ∙ get_or-append (numbers_of s) tail 0 k h in
    let b : length (pre ++ numbers_of s) ≡ suc i * 7 = omega (arith, length-append pre (numbers_of s)) in
    ap₂ (λ (y : ℕ) (x : List ℕ). y ∷ x) (sym (cell-is f k i h (omega arith)) ∙ here)
    (column-from k f (pre ++ numbers_of s) l more (suc i) h (e₁ ∙ sym (append_assoc pre (numbers_of s) tail)) b)

module _ (l : List Sample) (more : List ℕ) where
  abbrev long : List ℕ
  long = records_of l ++ more

  abbrev n : ℕ
  n = length l

  same-column : (k : ℕ) → k < 7 → column_of (records_of l ++ more) (length l) k ≡ column_of (records_of l) (length l) k
  same-column k h = column-from k long [] l more 0 h refl (omega arith) ∙ sym (records-column k l h)

  same-lows : (k : ℕ) → k < 7 → lows_of (records_of l ++ more) (length l) k ≡ lows_of (records_of l) (length l) k
  same-lows k h = lows-from long k n 0 ∙ ap lowed (same-column k h) ∙ sym (lows-from (records_of l) k n 0)

  same-chunks : (scale : ℕ) → chunks_in scale (records_of l ++ more) (length l) ≡ chunks_in scale (records_of l) (length l)
  same-chunks scale =
      ap (chunks_of scale)
      (pieces-from long n 0 ∙ ap₂ (λ (x y : List ℕ). pieced x y (lows_of long n 4)) (same-column 1 (omega arith)) (same-lows 2 (omega arith))
      ∙ ap (pieced (column_of (records_of l) n 1) (lows_of (records_of l) n 2)) (same-lows 4 (omega arith)) ∙ sym (pieces-from (records_of l) n 0))

  same-common : builder.common_in (records_of l ++ more) (length l) ≡ builder.common_in (records_of l) (length l)
  unfolding builder.common_in
  same-common = ap₂ (λ (c x : List ℕ). when (all_meet Narrow c) (builder.common_of x) 0) (same-column 2 (omega arith)) (same-lows 2 (omega arith))

  same-fits : fits_in (records_of l ++ more) (length l) ≡ fits_in (records_of l) (length l)
  unfolding fits_in chunking.fits_in
  same-fits =
      ap₂ (λ (c d : List ℕ). when (when (all_meet Narrow c) (all_meet Narrow d) false) (all_meet Signed (column_of long n 5)) false) (same-column 2 (omega arith)) (same-column 4 (omega arith))
      ∙ ap (λ (c : List ℕ). when (when (all_meet Narrow (column_of (records_of l) n 2)) (all_meet Narrow (column_of (records_of l) n 4)) false) (all_meet Signed c) false) (same-column 5 (omega arith))

  same-list : (t : Table) (scale : ℕ) → list_of t scale (records_of l ++ more) (length l) ≡ list_of t scale (records_of l) (length l)
  unfolding list_of
  same-list Stts scale = ap (λ (x : List ℕ). builder.pairs_of (merged_of x)) (same-lows 4 (omega arith))
  same-list Ctts scale = ap₂ (λ (c x : List ℕ). when (all_meet Zero c) [] (builder.pairs_of (merged_of x))) (same-column 5 (omega arith)) (same-lows 5 (omega arith))
  same-list Stsc scale = ap (λ (c : List Chunk). chunking.group_words 1 (merged_of (chunking.counts_of c))) (same-chunks scale)
  same-list Stsz scale = ap₂ (λ (c : ℕ) (x : List ℕ). when (eqb c 0) x []) same-common (same-lows 2 (omega arith))
  same-list Offsets scale = ap (λ (c : List Chunk). chunking.offsets_by (chunking.any_wide c) c) (same-chunks scale)
  same-list Stss scale = ap (builder.syncs_from 0) (same-column 6 (omega arith))

  same-there : (t : Table) → is_there t (records_of l ++ more) (length l) ≡ is_there t (records_of l) (length l)
  unfolding is_there
  same-there Stts = refl
  same-there Ctts = ap (λ (c : List ℕ). not (all_meet Zero c)) (same-column 5 (omega arith))
  same-there Stsc = refl
  same-there Stsz = refl
  same-there Offsets = refl
  same-there Stss = refl

  same_first : (t : Table) (wide : Bool) (many : ℕ) → first_of t wide (records_of l ++ more) (length l) many ≡ first_of t wide (records_of l) (length l) many
  unfolding first_of
  same_first Stts wide many = refl
  same_first Ctts wide many = refl
  same_first Stsc wide many = refl
  same_first Stsz wide many = same-common
  same_first Offsets wide many = refl
  same_first Stss wide many = refl

  same-table : (t : Table) (scale : ℕ) → table_of t scale (records_of l ++ more) (length l) ≡ table_of t scale (records_of l) (length l)
  same-table t scale =
      let w : wide_in scale (records_of l ++ more) (length l) ≡ wide_in scale (records_of l) (length l) = ap chunking.any_wide (same-chunks scale) in
      let first : first_of t (wide_in scale (records_of l ++ more) (length l)) (records_of l ++ more) (length l) (length (list_of t scale (records_of l ++ more) (length l))) ≡ first_of t (wide_in scale (records_of l) (length l)) (records_of l) (length l) (length (list_of t scale (records_of l) (length l))) =
      same_first t (wide_in scale (records_of l ++ more) (length l)) (length (list_of t scale (records_of l ++ more) (length l)))
      ∙ ap₂ (λ (b : Bool) (x : List ℕ). first_of t b (records_of l) (length l) (length x)) w (same-list t scale) in
      ap₂ (λ (b : Bool) (f : ℕ). when b (box_of (kind_of t (wide_in scale (records_of l ++ more) (length l))) (f ∷ second_of t (length l) ++ list_of t scale (records_of l ++ more) (length l))) []) (same-there t) first
      ∙ ap₂ (λ (b : Bool) (x : List ℕ). when (is_there t (records_of l) (length l)) (box_of (kind_of t b) (first_of t (wide_in scale (records_of l) (length l)) (records_of l) (length l) (length (list_of t scale (records_of l) (length l))) ∷ second_of t (length l) ++ x)) []) w (same-list t scale)

  same_tables : (scale : ℕ) → tables_of scale (records_of l ++ more) (length l) ≡ tables_of scale (records_of l) (length l)
  same_tables scale =
      ap₂ (λ (a b : List ℕ). a ++ b) (same-table Stts scale)
      (ap₂ (λ (a b : List ℕ). a ++ b) (same-table Ctts scale)
      (ap₂ (λ (a b : List ℕ). a ++ b) (same-table Stsc scale)
      (ap₂ (λ (a b : List ℕ). a ++ b) (same-table Stsz scale) (ap₂ (λ (a b : List ℕ). a ++ b) (same-table Offsets scale) (same-table Stss scale)))))

  -- what lies behind the records makes no difference to the writer
  pub longer-same : (scale : ℕ) (stsd o : List ℕ) → stbl_in scale (records_of l ++ more) (length l) stsd o ≡ stbl_in scale (records_of l) (length l) stsd o
  longer-same scale stsd o =
      let a : leb (length l * 7) (length (records_of l ++ more)) ≡ leb (length l * 7) (length (records_of l)) =
      le-leb (length l * 7) (length (records_of l ++ more)) (omega (arith, length-append (records_of l) more, length-records l))
      ∙ sym (le-leb (length l * 7) (length (records_of l)) (omega (arith, length-records l))) in
      ap₂ (λ (b c : Bool). answer b c (stbl_of scale (records_of l ++ more) (length l) stsd)) a same-fits
      ∙ ap (λ (x : List ℕ). answer (leb (length l * 7) (length (records_of l))) (fits_in (records_of l) (length l)) (full kinds.stbl [] (stsd ++ words_of x))) (same_tables scale)
    where
      answer : Bool → Bool → List ℕ → Wrote
      answer there fits bs =
          when (eqb scale 0) (wrote (Err (refusal.Value 0)) o)
          (when there (when (ltb (length l) (2 ^ 32)) (when fits (place o bs) (wrote (Err refusal.Unwritable) o)) (wrote (Err refusal.Unwritable) o)) (wrote (Err (refusal.NoSample (length l))) o))
