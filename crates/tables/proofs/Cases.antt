-- One law for each return of the functions that read a row, a size, a chunk's place. Assumes nothing.
use Prim.Native.Nat.{ℕ, ◌+◌, ◌-◌, ◌*◌, ◌≤◌, ◌<◌}
use mathlib.Core.Path.{◌≡◌, refl, sym, ap, ◌∙◌}
use mathlib.Core.List.{List}
use mathlib.Core.Bool.{Bool, true, false}
use Rattle.numbers.specs.Field.{or_zero}
use Rattle.numbers.proofs.Chain.{is_lt, not-lt, is_eq, is_ne, by-true, by-false}
use Rattle.tables.specs.Tables.{pair_at, size_at, offset_at, chunks}
use Rattle.tables.specs.Samples.{place}
use Rattle.tables.specs.Rows.{end_at, row_by, row_at}
use Rattle.tables.specs.declared.Sizes.{Sizes}
use Rattle.tables.specs.declared.Chunks.{Chunks}
use Rattle.tables.specs.declared.Rows.{Rows}
use Rattle.tables.specs.declared.Row.{Row}

-- ENTRIES

module _ (f : List ℕ) (t : Rows) (i : ℕ) where
  pub end-next : (x : ℕ) → i + 1 < t.count → x ≡ or_zero 4 f (t.at + (i * 12 + 12)) → x ≡ end_at f t i
  unfolding end_at
  end-next x h e = is_lt _ _ x (i + 1) t.count h e

  pub end-last : t.count ≤ i + 1 → t.chunks + 1 ≡ end_at f t i
  unfolding end_at
  end-last h = not-lt _ _ (t.chunks + 1) (i + 1) t.count h refl

  pub row-pair : (a b : ℕ) → t.grouped ≡ false → a ≡ or_zero 4 f (t.at + i * 8) → b ≡ or_zero 4 f (t.at + (i * 8 + 4)) → ◌≡◌ {A = Row} (record { count = a; value = b }) (row_at f t i)
  unfolding row_by pair_at
  row-pair a b g e h =
      let s : ◌≡◌ {A = Row} (record { count = a; value = b }) (row_by false f t i) = rw (e, h) in
      s ∙ sym (ap (λ (x : Bool). row_by x f t i) g)

  pub row-group : (k a b c : ℕ) → t.grouped ≡ true → a ≡ or_zero 4 f (t.at + i * 12) → b ≡ or_zero 4 f (t.at + (i * 12 + 4)) → c ≡ end_at f t i → k ≡ c - a → ◌≡◌ {A = Row} (record { count = k; value = b }) (row_at f t i)
  unfolding row_by
  row-group k a b c g e h z q =
      let s : ◌≡◌ {A = Row} (record { count = k; value = b }) (row_by true f t i) = rw (q, e, h, z) in
      s ∙ sym (ap (λ (x : Bool). row_by x f t i) g)

module _ (f : List ℕ) (t : Sizes) (i : ℕ) where
  pub size-listed : (x : ℕ) → t.common ≡ 0 → x ≡ or_zero 4 f (t.at + i * 4) → x ≡ size_at f t i
  unfolding size_at
  size-listed x h e = is_eq _ _ x t.common 0 h e

  pub size-common : (t.common ≡ 0 → ⊥) → t.common ≡ size_at f t i
  unfolding size_at
  size-common h = is_ne _ _ t.common t.common 0 h refl

module _ (f : List ℕ) (t : Chunks) (i : ℕ) where
  pub offset-wide : (x : ℕ) → t.wide ≡ true → x ≡ or_zero 8 f (t.at + i * 8) → x ≡ offset_at f t i
  unfolding offset_at
  offset-wide x h e = by-true _ _ x t.wide h e

  pub offset-narrow : (x : ℕ) → t.wide ≡ false → x ≡ or_zero 4 f (t.at + i * 4) → x ≡ offset_at f t i
  unfolding offset_at
  offset-narrow x h e = by-false _ _ x t.wide h e
