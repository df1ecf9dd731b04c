-- The columns of a buffer that holds samples as records (Records.antt of samples) are the samples' numbers. Assumes
-- nothing.
use Prim.Native.Nat.{ℕ, zero, suc, ◌+◌, ◌-◌, ◌*◌, ◌/◌, ◌%◌, ◌^◌, ◌≤◌, ◌<◌}
use mathlib.Core.Path.{◌≡◌, refl, sym, ap, ap₂, subst, ◌∙◌}
use mathlib.Core.List.{List, [], ◌∷◌, ◌++◌, append_assoc}
use native.Mathlib.Omega.{arith}
use lib.ListN.{length, get_or, length-append, get_or-append}
use lib.Seq.{get_or-append-add}
use Rattle.samples.specs.declared.Sample.{Sample}
use Rattle.samples.specs.Records.{numbers_of, records_of}
use Rattle.tables.specs.Tables.{list_from}
use Rattle.columns.specs.Columns.{cell_of, column_of}
use Rattle.columns.proofs.Cells.{cell-is}

-- a number of each sample, by its place in the record
abbrev pub column_in : ℕ → List Sample → List ℕ
column_in k [] = []
column_in k (s ∷ l) = get_or (numbers_of s) k 0 ∷ column_in k l

length-records : (l : List Sample) → length (records_of l) ≡ length l * 7
length-records [] = omega arith
length-records (s ∷ l) = omega (arith, length-append (numbers_of s) (records_of l), length-records l)

in-first : (k : ℕ) (s : Sample) (r : List ℕ) → k < 7 → get_or (numbers_of s ++ r) k 0 ≡ get_or (numbers_of s) k 0
in-first k s r h = get_or-append (numbers_of s) r 0 k h

column-from : (k : ℕ) (f pre : List ℕ) (l : List Sample) (i : ℕ) → k < 7 → f ≡ pre ++ records_of l → length pre ≡ i * 7 → list_from (cell_of f k) (length l) i ≡ column_in k l
column-from k f pre [] i h e a = refl
column-from k f pre (s ∷ l) i h e a =
    let n : length f ≡ length pre + length (records_of (s ∷ l)) = ap length e ∙ length-append pre (records_of (s ∷ l)) in
    let m : length (records_of (s ∷ l)) ≡ suc (length l) * 7 = length-records (s ∷ l) in
    let room : i < length f / 7 = omega arith in
    let here : get_or f (i * 7 + k) 0 ≡ get_or (numbers_of s) k 0 =
    ap₂ (λ (x : List ℕ) (j : ℕ). get_or x (j + k) 0) e (sym a) ∙ get_or-append-add pre (records_of (s ∷ l)) k 0 ∙ in-first k s (records_of l) h in
    let b : length (pre ++ numbers_of s) ≡ suc i * 7 = omega (arith, length-append pre (numbers_of s)) in
    ap₂ (λ (y : ℕ) (x : List ℕ). y ∷ x) (sym (cell-is f k i h room) ∙ here)
    (column-from k f (pre ++ numbers_of s) l (suc i) h (e ∙ sym (append_assoc pre (numbers_of s) (records_of l))) b)

-- a column of the records of samples
pub records-column : (k : ℕ) (l : List Sample) → k < 7 → column_of (records_of l) (length l) k ≡ column_in k l
records-column k l h = column-from k (records_of l) [] l 0 h refl (omega arith)
