-- The columns of the records of samples (Records.antt of samples) are the samples' own numbers, as the laws of the tables
-- take them. Assumes nothing.
use Prim.Native.Nat.{ℕ, zero, suc, ◌-◌, ◌%◌, ◌^◌}
use mathlib.Core.Path.{◌≡◌, refl, ap, ap₂, ◌∙◌}
use mathlib.Core.List.{List, [], ◌∷◌}
use mathlib.Core.Bool.{true}
use native.Mathlib.Omega.{arith}
use lib.ListN.{length}
use Rattle.samples.specs.declared.Sample.{Sample}
use Rattle.samples.specs.Records.{bits_of, bit_of, records_of}
use Rattle.tables.specs.Tables.{list_from}
use Rattle.columns.specs.Columns.{cell_of, low_at, column_of, lows_of, all_meet}
use Rattle.columns.specs.declared.Rule.TheVariants.{Narrow}
use Rattle.columns.proofs.Cells.{narrow-lows}
use Rattle.columns.proofs.Records.{column_in, records-column}
use Rattle.builder.specs.Built.{pairs_of, runs_of, syncs_from, syncs_in}
use Rattle.builder.proofs.Back.{sizes_of, durations_of, offsets_of, shifts_of, flags_of}
use Rattle.merging.specs.Merging.{merged_of}
use Rattle.chunking.specs.Chunking.{Piece, piece, piece_at, chunks_of, chunks_in}
use Rattle.chunking.proofs.Whole.{pieces_of}

-- COLUMNS

-- composition offsets as 64 bits each
abbrev pub bits_in : List Sample → List ℕ
bits_in [] = []
bits_in (s ∷ l) = bits_of s.composition ∷ bits_in l

module _ (l : List Sample) where
  pub offsets-column : column_of (records_of l) (length l) 1 ≡ offsets_of l
  offsets-column = records-column 1 l (omega arith) ∙ same l
    where
      same : (l : List Sample) → column_in 1 l ≡ offsets_of l
      same [] = refl
      same (s ∷ l) = ap (λ (x : List ℕ). s.offset ∷ x) (same l)

  pub sizes-column : column_of (records_of l) (length l) 2 ≡ sizes_of l
  sizes-column = records-column 2 l (omega arith) ∙ same l
    where
      same : (l : List Sample) → column_in 2 l ≡ sizes_of l
      same [] = refl
      same (s ∷ l) = ap (λ (x : List ℕ). s.size ∷ x) (same l)

  pub durations-column : column_of (records_of l) (length l) 4 ≡ durations_of l
  durations-column = records-column 4 l (omega arith) ∙ same l
    where
      same : (l : List Sample) → column_in 4 l ≡ durations_of l
      same [] = refl
      same (s ∷ l) = ap (λ (x : List ℕ). s.duration ∷ x) (same l)

  pub compositions-column : column_of (records_of l) (length l) 5 ≡ bits_in l
  compositions-column = records-column 5 l (omega arith) ∙ same l
    where
      same : (l : List Sample) → column_in 5 l ≡ bits_in l
      same [] = refl
      same (s ∷ l) = ap (λ (x : List ℕ). bits_of s.composition ∷ x) (same l)

  pub flags-column : column_of (records_of l) (length l) 6 ≡ flags_of l
  flags-column = records-column 6 l (omega arith) ∙ same l
    where
      same : (l : List Sample) → column_in 6 l ≡ flags_of l
      same [] = refl
      same (s ∷ l) = ap (λ (x : List ℕ). bit_of s.sync ∷ x) (same l)

-- THEIR LOWER 32 BITS

abbrev pub lowed : List ℕ → List ℕ
lowed [] = []
lowed (x ∷ l) = x % 2 ^ 32 ∷ lowed l

pub lows-from : (rs : List ℕ) (k n i : ℕ) → list_from (low_at rs k) n i ≡ lowed (list_from (cell_of rs k) n i)
unfolding low_at
lows-from rs k zero i = refl
lows-from rs k (suc n) i = ap (λ (x : List ℕ). cell_of rs k i % 2 ^ 32 ∷ x) (lows-from rs k n (suc i))

lowed-shifts : (l : List Sample) → lowed (bits_in l) ≡ shifts_of l
lowed-shifts [] = refl
lowed-shifts (s ∷ l) = ap (λ (x : List ℕ). bits_of s.composition % 2 ^ 32 ∷ x) (lowed-shifts l)

module _ (l : List Sample) where
  pub shifts-lows : lows_of (records_of l) (length l) 5 ≡ shifts_of l
  shifts-lows = lows-from (records_of l) 5 (length l) 0 ∙ ap lowed (compositions-column l) ∙ lowed-shifts l

  pub sizes-lows : all_meet Narrow (column_of (records_of l) (length l) 2) ≡ true → lows_of (records_of l) (length l) 2 ≡ sizes_of l
  sizes-lows e = narrow-lows (records_of l) (length l) 2 e ∙ sizes-column l

  pub durations-lows : all_meet Narrow (column_of (records_of l) (length l) 4) ≡ true → lows_of (records_of l) (length l) 4 ≡ durations_of l
  durations-lows e = narrow-lows (records_of l) (length l) 4 e ∙ durations-column l

-- THE TABLES' NUMBERS

abbrev pub pieced : List ℕ → List ℕ → List ℕ → List Piece
pieced [] ss ds = []
pieced (o ∷ os) [] ds = []
pieced (o ∷ os) (s ∷ ss) [] = []
pieced (o ∷ os) (s ∷ ss) (d ∷ ds) = piece o s d ∷ pieced os ss ds

pub pieces-from : (rs : List ℕ) (n i : ℕ) → list_from (piece_at rs) n i ≡ pieced (list_from (cell_of rs 1) n i) (list_from (low_at rs 2) n i) (list_from (low_at rs 4) n i)
pieces-from rs zero i = refl
pieces-from rs (suc n) i = ap (λ (x : List Piece). piece_at rs i ∷ x) (pieces-from rs n (suc i))

pieced-samples : (l : List Sample) → pieced (offsets_of l) (sizes_of l) (durations_of l) ≡ pieces_of l
pieced-samples [] = refl
pieced-samples (s ∷ l) = ap (λ (x : List Piece). piece s.offset s.size s.duration ∷ x) (pieced-samples l)

module _ (l : List Sample) where
  pub durations-runs : all_meet Narrow (column_of (records_of l) (length l) 4) ≡ true → runs_of (records_of l) (length l) 4 ≡ pairs_of (merged_of (durations_of l))
  durations-runs e = ap (λ (x : List ℕ). pairs_of (merged_of x)) (durations-lows l e)

  pub shifts-runs : runs_of (records_of l) (length l) 5 ≡ pairs_of (merged_of (shifts_of l))
  shifts-runs = ap (λ (x : List ℕ). pairs_of (merged_of x)) (shifts-lows l)

  pub flags-syncs : syncs_in (records_of l) (length l) ≡ syncs_from 0 (flags_of l)
  flags-syncs = ap (syncs_from 0) (flags-column l)

  pub chunks-samples : (t : ℕ) → all_meet Narrow (column_of (records_of l) (length l) 2) ≡ true → all_meet Narrow (column_of (records_of l) (length l) 4) ≡ true →
      chunks_in t (records_of l) (length l) ≡ chunks_of t (pieces_of l)
  chunks-samples t e g =
      ap (chunks_of t)
      (pieces-from (records_of l) (length l) 0
      ∙ ap₂ (λ (x y : List ℕ). pieced x y (lows_of (records_of l) (length l) 4)) (offsets-column l) (sizes-lows l e)
      ∙ ap (pieced (offsets_of l) (sizes_of l)) (durations-lows l g)
      ∙ pieced-samples l)
