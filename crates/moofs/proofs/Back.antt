-- Rows that were stored one behind the other read back the same. Assumes nothing.
use Prim.Native.Nat.{ℕ, suc, ◌+◌, ◌*◌, ◌<◌, ◌≤◌, min}
use mathlib.Core.Path.{◌≡◌, refl, sym, ap, ap₂, ◌∙◌}
use mathlib.Core.List.{List, [], ◌∷◌}
use native.Mathlib.Omega.{arith}
use lib.ListN.{length}
use lib.Seq.{sets, length-sets}
use Rattle.put.proofs.Stores.{sets-append}
use Rattle.tables.specs.Tables.{list_from}
use Rattle.runs.specs.declared.Run.{Run}
use Rattle.runtable.specs.Table as runtable
use Rattle.runtable.proofs.Back as run-back
use Rattle.mooftable.specs.Table as mooftable
use Rattle.mooftable.specs.declared.Moof.{Moof}
use Rattle.mooftable.proofs.Back as moof-back
use Rattle.moofs.specs.Moofs.{run_numbers, moof_numbers}

-- RUNS

abbrev pub RunsFit : List Run → Type 0
RunsFit [] = Unit {0}
RunsFit (r ∷ rs) = run-back.Fits r × RunsFit rs

run-split : (x : Run) (rs : List Run) (r : List ℕ) (i : ℕ) → sets r (i * 12) (run_numbers (x ∷ rs)) ≡ sets (sets r (i * 12) (runtable.numbers_of x)) ((i + 1) * 12) (run_numbers rs)
run-split x rs r i =
    let e : i * 12 + length (runtable.numbers_of x) ≡ (i + 1) * 12 = omega arith in
    sym (sets-append r (i * 12) (runtable.numbers_of x) (run_numbers rs)) ∙ ap (λ (k : ℕ). sets (sets r (i * 12) (runtable.numbers_of x)) k (run_numbers rs)) e

runs-stay : (rs : List Run) (r : List ℕ) (i j : ℕ) → j < i → runtable.row_at (sets r (i * 12) (run_numbers rs)) j ≡ runtable.row_at r j
runs-stay [] r i j h = refl
runs-stay (x ∷ rs) r i j h =
    ap (λ (l : List ℕ). runtable.row_at l j) (run-split x rs r i) ∙ runs-stay rs (sets r (i * 12) (runtable.numbers_of x)) (i + 1) j (omega arith)
    ∙ run-back.other-rows-stay r i j x (λ e. omega (arith, e))

runs-there : (rs : List Run) (r : List ℕ) (i : ℕ) → i + length rs ≤ runtable.holds r → RunsFit rs → list_from (runtable.row_at (sets r (i * 12) (run_numbers rs))) (length rs) i ≡ rs
runs-there [] r i h f = refl
runs-there (x ∷ rs) r i h f =
    let o = sets r (i * 12) (runtable.numbers_of x) in
    let e : suc i ≡ i + 1 = omega arith in
    ap₂ (λ (a : Run) (l : List Run). a ∷ l)
    (ap (λ (l : List ℕ). runtable.row_at l i) (run-split x rs r i) ∙ runs-stay rs o (i + 1) i (omega arith) ∙ run-back.stored-reads-back r i x (omega (arith, h)) f.0)
    (ap₂ (λ (l : List ℕ) (k : ℕ). list_from (runtable.row_at l) (length rs) k) (run-split x rs r i) e
    ∙ runs-there rs o (i + 1) (omega (arith, h, length-sets r (i * 12) (runtable.numbers_of x))) f.1)

pub runs-back : (rs : List Run) (r : List ℕ) → length rs ≤ runtable.holds r → RunsFit rs → runtable.rows_of (sets r 0 (run_numbers rs)) (length rs) ≡ rs
runs-back rs r h f =
    let e : min (length rs) (runtable.holds (sets r 0 (run_numbers rs))) ≡ length rs = omega (arith, h, length-sets r 0 (run_numbers rs)) in
    let z : 0 * 12 ≡ 0 = omega arith in
    ap (λ (k : ℕ). list_from (runtable.row_at (sets r 0 (run_numbers rs))) k 0) e
    ∙ ap (λ (k : ℕ). list_from (runtable.row_at (sets r k (run_numbers rs))) (length rs) 0) (sym z) ∙ runs-there rs r 0 (omega (arith, h)) f

-- MOOFS

abbrev pub MoofsFit : List Moof → Type 0
MoofsFit [] = Unit {0}
MoofsFit (m ∷ ms) = moof-back.Fits m × MoofsFit ms

moof-split : (x : Moof) (ms : List Moof) (r : List ℕ) (i : ℕ) → sets r (i * 3) (moof_numbers (x ∷ ms)) ≡ sets (sets r (i * 3) (mooftable.numbers_of x)) ((i + 1) * 3) (moof_numbers ms)
moof-split x ms r i =
    let e : i * 3 + length (mooftable.numbers_of x) ≡ (i + 1) * 3 = omega arith in
    sym (sets-append r (i * 3) (mooftable.numbers_of x) (moof_numbers ms)) ∙ ap (λ (k : ℕ). sets (sets r (i * 3) (mooftable.numbers_of x)) k (moof_numbers ms)) e

moofs-stay : (ms : List Moof) (r : List ℕ) (i j : ℕ) → j < i → mooftable.row_at (sets r (i * 3) (moof_numbers ms)) j ≡ mooftable.row_at r j
moofs-stay [] r i j h = refl
moofs-stay (x ∷ ms) r i j h =
    ap (λ (l : List ℕ). mooftable.row_at l j) (moof-split x ms r i) ∙ moofs-stay ms (sets r (i * 3) (mooftable.numbers_of x)) (i + 1) j (omega arith)
    ∙ moof-back.other-rows-stay r i j x (λ e. omega (arith, e))

moofs-there : (ms : List Moof) (r : List ℕ) (i : ℕ) → i + length ms ≤ mooftable.holds r → MoofsFit ms → list_from (mooftable.row_at (sets r (i * 3) (moof_numbers ms))) (length ms) i ≡ ms
moofs-there [] r i h f = refl
moofs-there (x ∷ ms) r i h f =
    let o = sets r (i * 3) (mooftable.numbers_of x) in
    let e : suc i ≡ i + 1 = omega arith in
    ap₂ (λ (a : Moof) (l : List Moof). a ∷ l)
    (ap (λ (l : List ℕ). mooftable.row_at l i) (moof-split x ms r i) ∙ moofs-stay ms o (i + 1) i (omega arith) ∙ moof-back.stored-reads-back r i x (omega (arith, h)) f.0)
    (ap₂ (λ (l : List ℕ) (k : ℕ). list_from (mooftable.row_at l) (length ms) k) (moof-split x ms r i) e
    ∙ moofs-there ms o (i + 1) (omega (arith, h, length-sets r (i * 3) (mooftable.numbers_of x))) f.1)

pub moofs-back : (ms : List Moof) (r : List ℕ) → length ms ≤ mooftable.holds r → MoofsFit ms → mooftable.rows_of (sets r 0 (moof_numbers ms)) (length ms) ≡ ms
moofs-back ms r h f =
    let e : min (length ms) (mooftable.holds (sets r 0 (moof_numbers ms))) ≡ length ms = omega (arith, h, length-sets r 0 (moof_numbers ms)) in
    let z : 0 * 3 ≡ 0 = omega arith in
    ap (λ (k : ℕ). list_from (mooftable.row_at (sets r 0 (moof_numbers ms))) k 0) e
    ∙ ap (λ (k : ℕ). list_from (mooftable.row_at (sets r k (moof_numbers ms))) (length ms) 0) (sym z) ∙ moofs-there ms r 0 (omega (arith, h)) f
