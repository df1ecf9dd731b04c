-- One field more of an entry, and one entry more of a table. Assumes nothing.
use Rattle.std.specs.Prelude.{Result, Ok, Err}
use mathlib.Core.Path.{◌≡◌, refl, sym, ap, ap₂, ◌∙◌}
use mathlib.Core.List.{List, [], ◌∷◌}
use mathlib.Core.Bool.{Bool, true, false}
use Prim.Native.Nat.{ℕ, zero, suc, ◌+◌, ◌-◌, ◌≤◌, ◌<◌, min}
use native.Mathlib.Numerals.{add-one}
use native.Mathlib.Omega.{arith}
use lib.ListN.{length, get_or, drop}
use lib.Seq.{drop-cons, drop-length}
use Rattle.numbers.specs.Number.{be}
use Rattle.numbers.specs.Field.{field, when}
use Rattle.numbers.specs.declared.Refusal.TheVariants as refusal
use Rattle.numbers.specs.declared.Refusal.{Refusal}
use Rattle.numbers.proofs.Chain.{whole, ends, by-true, by-false}
use Rattle.rows.specs.Rows.{width_of, allowed_of, last_of, cells_of, entry_of, step, entries_of}
use Rattle.rows.specs.declared.Cell.{Cell}
use Rattle.rows.specs.declared.Cell.TheVariants.{Any, Least, Rising, FromOne, Time, Nothing}

-- no field is wider than 8 bytes
width-8 : (c : Cell) → width_of c ≤ 8
unfolding width_of
width-8 (Any w) = omega arith
width-8 (Least w n) = omega arith
width-8 (Rising w) = omega arith
width-8 (FromOne w) = omega arith
width-8 (Time w) = omega arith
width-8 Nothing = omega arith

pub narrow : (c : Cell) (w : ℕ) → w ≡ width_of c → w ≤ 8
narrow c w e = omega (arith, width-8 c)

module _ (cells : List Cell) (d : Cell) (b : List ℕ) (i at last : ℕ) (inside : i < length cells) (w : ℕ) (is-width : w ≡ width_of (get_or cells i d)) where
  abbrev c : Cell
  c = get_or cells i d

  opened : cells_of (drop i cells) b at last
      ≡ field Err w b at (λ x. when (allowed_of c last x) (cells_of (drop (suc i) cells) b (at + w) (last_of c last x)) (Err (refusal.Value at)))
  unfolding cells_of
  opened =
      ap (λ l. cells_of l b at last) (drop-cons cells i d inside)
      ∙ ap (λ k. field Err k b at (λ x. when (allowed_of c last x) (cells_of (drop (suc i) cells) b (at + k) (last_of c last x)) (Err (refusal.Value at)))) (sym is-width)

  pub cut : length b < at + w → Err (refusal.Cut at) ≡ cells_of (drop i cells) b at last
  cut h = ends w b at Err _ _ h refl ∙ sym opened

  module _ (x : ℕ) (there : at + w ≤ length b) (is : x ≡ be w b at) where
    pub not-allowed : allowed_of c last x ≡ false → Err (refusal.Value at) ≡ cells_of (drop i cells) b at last
    not-allowed t = whole w b at Err _ _ x there is (by-false _ _ _ _ t refl) ∙ sym opened

    pub more : allowed_of c last x ≡ true → (l : ℕ) → l ≡ last_of c last x →
        cells_of (drop (i + 1) cells) b (at + w) l ≡ cells_of (drop i cells) b at last
    more t l e =
        ap₂ (λ (j k : ℕ). cells_of (drop j cells) b (at + w) k) (add-one i) e
        ∙ whole w b at Err _ _ x there is (by-true _ _ _ _ t refl) ∙ sym opened

pub passed : (cells : List Cell) (b : List ℕ) (i at last : ℕ) → i ≡ length cells → Ok (at, last) ≡ cells_of (drop i cells) b at last
unfolding cells_of
passed cells b i at last e = sym (ap (λ l. cells_of l b at last) (ap (λ n. drop n cells) e ∙ drop-length cells))

-- entry after entry
module _ (cells : List Cell) (b : List ℕ) (at last : ℕ) where
  pub none_left : (n : ℕ) → n ≡ 0 → (Ok tt) ≡ entries_of n cells b at last
  unfolding entries_of
  none_left n e = sym (ap (λ k. entries_of k cells b at last) e)

  pub next-entry : (n : ℕ) → 0 < n → (v : Result (ℕ × ℕ) Refusal) → v ≡ entry_of cells b at last → step (λ p l. entries_of (n - 1) cells b p l) v ≡ entries_of n cells b at last
  unfolding entries_of
  next-entry zero h v e = absurd (omega arith)
  next-entry (suc n) h v e =
      let q : suc n - 1 ≡ n = omega arith in
      ap (λ k. step (λ p l. entries_of k cells b p l) v) q ∙ ap (step (λ p l. entries_of n cells b p l)) e
