-- What callers know of the two tables: there are no more rows than recorded boxes, so that tables of 4,096 rows always
-- have room; and the rows that are there after a fill are the runs and the moofs of the fragments. Assumes nothing.
use Rattle.std.specs.Prelude.{Ok, Err}
use Prim.Native.Nat.{ℕ, ◌+◌, ◌≤◌, min}
use mathlib.Core.Path.{◌≡◌, refl, sym, ap, ap₂, ◌∙◌}
use mathlib.Core.List.{List}
use mathlib.Core.Bool.{Bool, true, false}
use native.Mathlib.Omega.{arith}
use lib.ListN.{length}
use lib.Seq.{sets}
use lib.Dec.{leb}
use borrow.Author.Tests.{leb-true}
use Rattle.numbers.specs.Field.{when}
use Rattle.numbers.specs.declared.Refusal.TheVariants as refusal
use Rattle.numbers.specs.declared.Refusal.{Refusal}
use Rattle.numbers.proofs.Chain.{is_le}
use Rattle.kin.specs.Kin.{Boxes}
use Rattle.runtable.specs.Table as runtable
use Rattle.mooftable.specs.Table as mooftable
use Rattle.moofs.specs.Moofs.{Fragment, All, all, refused, fragments_of, all_runs, moofs_from, run_numbers, moof_numbers, output, fill_of, filled_record}
use Rattle.moofs.specs.declared.Filled.{Filled}
use Rattle.moofs.proofs.Filling.{length-moofs}
use Rattle.moofs.proofs.Few.{together}
use Rattle.moofs.proofs.Back.{runs-back, moofs-back}
use Rattle.moofs.proofs.Fit.{all_fit}

-- so many fragments, with so many runs
pub record Few (n : ℕ) (fs : List Fragment) : Type 0 where
  pub runs : length (all_runs fs) ≤ n
  pub moofs : length fs ≤ n
  pub limit-runs : length (all_runs fs) ≤ 4096
  pub limit-moofs : length fs ≤ 4096

-- after a fill: the fragments, how many rows there are, and what the rows are
pub record Rows (of : All Fragment) (i k : ℕ) (r m : List ℕ) : Type 0 where
  pub fragments : List Fragment
  pub is : of ≡ all fragments
  pub runs : i ≡ length (all_runs fragments)
  pub moofs : k ≡ length fragments
  pub run-rows : runtable.rows_of r i ≡ all_runs fragments
  pub moof-rows : mooftable.rows_of m k ≡ moofs_from 0 fragments

module _ (s : List ℕ) (t : Boxes) (n : ℕ) where
  pub few : (fs : List Fragment) → fragments_of s t n ≡ all fs → Few n fs
  few fs e =
      let h : length (all_runs fs) + length fs ≤ min n 4096 = together s t n fs e in
      record { runs = omega (arith, h); moofs = omega (arith, h); limit-runs = omega (arith, h); limit-moofs = omega (arith, h) }

  module _ (r m : List ℕ) where
    -- tables of 4,096 rows have room
    pub has_room : (fs : List Fragment) → fragments_of s t n ≡ all fs → 4096 ≤ runtable.holds r → 4096 ≤ mooftable.holds m
        → output (Ok (filled_record (length (all_runs fs)) (length fs))) (sets r 0 (run_numbers (all_runs fs))) (sets m 0 (moof_numbers (moofs_from 0 fs))) ≡ fill_of (fragments_of s t n) r m
    has_room fs e h k =
        is_le _ _ _ (length (all_runs fs)) (runtable.holds r) (omega (arith, h, (few fs e).limit-runs)) (is_le _ _ _ (length fs) (mooftable.holds m) (omega (arith, k, (few fs e).limit-moofs)) refl)
        ∙ sym (ap (λ (a : All Fragment). fill_of a r m) e)

    -- after a fill that is not refused
    pub filled : (f : Filled) (x y : List ℕ) → output (Ok f) x y ≡ fill_of (fragments_of s t n) r m → Rows (fragments_of s t n) f.runs f.moofs x y
    unfolding when
    filled f x y e = by (fragments_of s t n) refl e
      where
        tests : (fs : List Fragment) → fragments_of s t n ≡ all fs → (a b : Bool) → leb (length (all_runs fs)) (runtable.holds r) ≡ a → leb (length fs) (mooftable.holds m) ≡ b
            → output (Ok f) x y
            ≡ when a (when b (output (Ok (filled_record (length (all_runs fs)) (length fs))) (sets r 0 (run_numbers (all_runs fs))) (sets m 0 (moof_numbers (moofs_from 0 fs)))) (output (Err (refusal.TooSmall (length fs))) r m)) (output (Err (refusal.TooSmall (length (all_runs fs)))) r m)
            → Rows (fragments_of s t n) f.runs f.moofs x y
        tests fs g true true h l w =
            let z : f ≡ filled_record (length (all_runs fs)) (length fs) = cc w in
            let a : f.runs ≡ length (all_runs fs) = ap (λ (f : Filled). f.runs) z in
            let b : f.moofs ≡ length fs = ap (λ (f : Filled). f.moofs) z in
            let c : x ≡ sets r 0 (run_numbers (all_runs fs)) = cc w in
            let d : y ≡ sets m 0 (moof_numbers (moofs_from 0 fs)) = cc w in
            let o = all_fit s t n fs g in
            let u : f.moofs ≡ length (moofs_from 0 fs) = b ∙ sym (length-moofs 0 fs) in
            record {
              fragments = fs;
              is = g;
              runs = a;
              moofs = b;
              run-rows = ap₂ (λ (x : List ℕ) (i : ℕ). runtable.rows_of x i) c a ∙ runs-back (all_runs fs) r (leb-true (length (all_runs fs)) (runtable.holds r) h) o.0;
              moof-rows = ap₂ (λ (y : List ℕ) (k : ℕ). mooftable.rows_of y k) d u ∙ moofs-back (moofs_from 0 fs) m (omega (arith, length-moofs 0 fs, leb-true (length fs) (mooftable.holds m) l)) o.1;
            }
        tests fs g true false h l w = let z : ◌≡◌ {A = ℕ} 0 1 = cc w in absurd (omega arith)
        tests fs g false b h l w = let z : ◌≡◌ {A = ℕ} 0 1 = cc w in absurd (omega arith)

        by : (a : All Fragment) → fragments_of s t n ≡ a → output (Ok f) x y ≡ fill_of a r m → Rows (fragments_of s t n) f.runs f.moofs x y
        by (all fs) g w = tests fs g (leb (length (all_runs fs)) (runtable.holds r)) (leb (length fs) (mooftable.holds m)) refl refl w
        by (refused q) g w = let z : ◌≡◌ {A = ℕ} 0 1 = cc w in absurd (omega arith)

-- a refusal leaves both tables alone
pub refused-keeps : (a : All Fragment) (r m x y : List ℕ) (q : Refusal) → output (Err q) x y ≡ fill_of a r m → (x ≡ r) × (y ≡ m)
unfolding when
refused-keeps (refused p) r m x y q e = (cc e, cc e)
refused-keeps (all fs) r m x y q e = by (leb (length (all_runs fs)) (runtable.holds r)) (leb (length fs) (mooftable.holds m)) e
  where
    by : (a b : Bool)
        → output (Err q) x y
        ≡ when a (when b (output (Ok (filled_record (length (all_runs fs)) (length fs))) (sets r 0 (run_numbers (all_runs fs))) (sets m 0 (moof_numbers (moofs_from 0 fs)))) (output (Err (refusal.TooSmall (length fs))) r m)) (output (Err (refusal.TooSmall (length (all_runs fs)))) r m)
        → (x ≡ r) × (y ≡ m)
    by true true w = let z : ◌≡◌ {A = ℕ} 0 1 = cc w in absurd (omega arith)
    by true false w = (cc w, cc w)
    by false b w = (cc w, cc w)
