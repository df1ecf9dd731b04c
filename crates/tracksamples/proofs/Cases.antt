-- What the functions return, case by case, over plain variables. Assumes nothing.
use Rattle.std.specs.Prelude.{Result, Option, Ok, Err, Some, None}
use Prim.Native.Nat.{ℕ, ◌^◌, ◌≤◌, ◌<◌}
use mathlib.Core.Path.{◌≡◌, refl, sym, ap, ◌∙◌}
use mathlib.Core.List.{List}
use mathlib.Core.Bool.{Bool, true, false}
use native.Mathlib.Omega.{arith}
use lib.ListN.{length}
use lib.Dec.{ltb}
use lib.IntN.{ℤ}
use borrow.Author.Tests.{ltb-false}
use Rattle.numbers.specs.Field.{when}
use Rattle.numbers.specs.declared.Refusal.TheVariants as refusal
use Rattle.numbers.specs.declared.Refusal.{Refusal}
use Rattle.numbers.proofs.Chain.{is_lt, not-lt, is_le, not-le}
use Rattle.samples.specs.Lists.{bytes_of}
use Rattle.samples.specs.Records.{output, put_of}
use Rattle.samples.specs.declared.Sample.{Sample}
use Rattle.samples.specs.declared.Located.{Located}
use Rattle.tables.specs.Samples.{samples_of}
use Rattle.runs.specs.declared.Run.{Run}
use Rattle.fragments.specs.Samples.{samples_of_runs, count_in}
use Rattle.fragments.proofs.Left.{how-many}
use Rattle.runlookup.specs.Lookup.{counted}
use Rattle.tracksamples.specs.TrackSamples.{samples_from, count_of, total_of, sample_by, recorded, narrow_of, whole_of}
use Rattle.tracksamples.specs.declared.Source.{Source}

-- WHERE THEY ARE TOLD

module _ (f : List ℕ) (s : Source) (rs : List Run) where
  pub by_runs : s.fragmented ≡ true → samples_of_runs f rs s.number ≡ samples_from f s rs
  unfolding when
  by_runs e = sym (ap (λ (b : Bool). when b (samples_of_runs f rs s.number) (samples_of f s.tables)) e)

  pub by-tables : s.fragmented ≡ false → samples_of f s.tables ≡ samples_from f s rs
  unfolding when
  by-tables e = sym (ap (λ (b : Bool). when b (samples_of_runs f rs s.number) (samples_of f s.tables)) e)

-- ONE RECORD

pub no_room : (o : List ℕ) (s : Sample) → length o < 7 → output (Err (refusal.TooSmall 1)) o ≡ recorded o s
no_room o s h = not-le _ _ (output (Err (refusal.TooSmall 1)) o) 7 (length o) h refl

pub one-there : (o : List ℕ) (n : ℕ) (x : Located) (b : Bool) (z : ℤ) (p : List ℕ) → 7 ≤ length o → z ≡ x.composition
    → p ≡ put_of o 0 (record { number = n; offset = x.offset; size = x.size; time = x.time; duration = x.duration; composition = z; sync = b })
    → output (Ok 1) p ≡ recorded o (sample_by n x b)
one-there o n x b z p h ez e =
    is_le _ _ (output (Ok 1) p) 7 (length o) h
    (ap (output (Ok 1)) e
    ∙ ap (λ (y : ℤ). output (Ok 1) (put_of o 0 (record { number = n; offset = x.offset; size = x.size; time = x.time; duration = x.duration; composition = y; sync = b }))) ez)

-- COUNTS

narrow-counted : (k : ℕ) → narrow_of (counted k) ≡ when (ltb k (2 ^ 32)) (Ok k) (Err refusal.Overflow)
unfolding when
narrow-counted k = cases (ltb k (2 ^ 64)) refl
  where
    cases : (b : Bool) → ltb k (2 ^ 64) ≡ b → narrow_of (when b (Some k) None) ≡ when (ltb k (2 ^ 32)) (Ok k) (Err refusal.Overflow)
    cases true h = refl
    cases false h = let g = ltb-false k (2 ^ 64) h in not-lt (Ok k) _ (Err refusal.Overflow) k (2 ^ 32) (omega (arith, g)) refl

whole-counted : (k : ℕ) → whole_of (counted k) ≡ when (ltb k (2 ^ 64)) (Ok k) (Err refusal.Overflow)
unfolding when
whole-counted k = cases (ltb k (2 ^ 64))
  where
    cases : (b : Bool) → whole_of (when b (Some k) None) ≡ when b (Ok k) (Err refusal.Overflow)
    cases true = refl
    cases false = refl

module _ (f : List ℕ) (s : Source) (rs : List Run) where
  pub runs-counted : s.fragmented ≡ true → (t : Option ℕ) → t ≡ counted (count_in s.number rs) → (r : Result ℕ Refusal) → r ≡ narrow_of t → r ≡ count_of (samples_from f s rs)
  unfolding count_of
  runs-counted e t et r er =
      er ∙ ap narrow_of et ∙ ap (λ (k : ℕ). narrow_of (counted k)) (sym (how-many f rs s.number) ∙ ap length (by_runs f s rs e))
      ∙ narrow-counted (length (samples_from f s rs))

  pub tables-counted : s.fragmented ≡ false → (n : ℕ) → n ≡ length (samples_of f s.tables) → n < 2 ^ 32 → Ok n ≡ count_of (samples_from f s rs)
  unfolding count_of
  tables-counted e n en h =
      let q : n ≡ length (samples_from f s rs) = en ∙ ap length (by-tables f s rs e) in
      is_lt _ (Err refusal.Overflow) (Ok n) (length (samples_from f s rs)) (2 ^ 32) (omega (arith, q, h)) (ap Ok q)

  pub runs-summed : s.fragmented ≡ true → (t : Option ℕ) → t ≡ counted (bytes_of (samples_of_runs f rs s.number)) → (r : Result ℕ Refusal) → r ≡ whole_of t → r ≡ total_of (samples_from f s rs)
  unfolding total_of
  runs-summed e t et r er =
      er ∙ ap whole_of et ∙ ap (λ (l : List Sample). whole_of (counted (bytes_of l))) (by_runs f s rs e) ∙ whole-counted (bytes_of (samples_from f s rs))

  pub tables-summed : s.fragmented ≡ false → (n : ℕ) → n ≡ bytes_of (samples_of f s.tables) → n < 2 ^ 64 → Ok n ≡ total_of (samples_from f s rs)
  unfolding total_of
  tables-summed e n en h =
      let q : n ≡ bytes_of (samples_from f s rs) = en ∙ ap bytes_of (by-tables f s rs e) in
      is_lt _ (Err refusal.Overflow) (Ok n) (bytes_of (samples_from f s rs)) (2 ^ 64) (omega (arith, q, h)) (ap Ok q)

-- what a tally tells in 32 bits, and in 64
module _ (t : Option ℕ) where
  pub narrow-over : t ≡ None → Err refusal.Overflow ≡ narrow_of t
  narrow-over e = sym (ap narrow_of e)

  module _ (n : ℕ) (e : t ≡ Some n) where
    pub narrow_high : 2 ^ 32 ≤ n → Err refusal.Overflow ≡ narrow_of t
    narrow_high h = not-lt (Ok n) _ (Err refusal.Overflow) n (2 ^ 32) h refl ∙ sym (ap narrow_of e)

    pub narrow-is : n < 2 ^ 32 → Ok n ≡ narrow_of t
    narrow-is h = is_lt _ (Err refusal.Overflow) (Ok n) n (2 ^ 32) h refl ∙ sym (ap narrow_of e)

    pub whole_is : Ok n ≡ whole_of t
    whole_is = sym (ap whole_of e)

  pub whole-over : t ≡ None → Err refusal.Overflow ≡ whole_of t
  whole-over e = sym (ap whole_of e)
