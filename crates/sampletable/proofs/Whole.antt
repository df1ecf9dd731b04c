-- The whole box, and what its writer answers, way by way. Assumes nothing.
use Rattle.std.specs.Prelude.{Result, Ok, Err}
use Prim.Native.Nat.{ℕ, ◌+◌, ◌-◌, ◌*◌, ◌^◌, ◌≤◌, ◌<◌}
use mathlib.Core.Path.{◌≡◌, refl, sym, ap, ap₂, ◌∙◌}
use mathlib.Core.List.{List, [], ◌++◌, append_assoc, append-nil}
use mathlib.Core.Bool.{Bool, true, false, not}
use native.Mathlib.Nat.{zero-add}
use native.Mathlib.Omega.{arith}
use lib.ListN.{length, drop, length-append}
use lib.Seq.{sets, sets-eq, length-sets}
use lib.Dec.{leb}
use borrow.Author.Tests.{leb-true, leb-false, not-true, not-false}
use Rattle.numbers.specs.Number.{bytes}
use Rattle.numbers.specs.declared.Refusal.TheVariants as refusal
use Rattle.numbers.proofs.Laws.{length-bytes}
use Rattle.numbers.proofs.Chain.{by-true, by-false, is_eq, is_ne, is_lt, not-lt, is_le, not-le}
use Rattle.put.specs.Put.{Wrote, wrote, put_of, placed}
use Rattle.put.proofs.Stores.{sets-append}
use Rattle.put.proofs.Placed.{has_room}
use Rattle.layout.specs.Write.{place}
use Rattle.places.specs.Kinds as kinds
use Rattle.columns.specs.declared.Rule.TheVariants.{Narrow, Signed}
use Rattle.columns.specs.Columns.{column_of, all_meet}
use Rattle.columns.specs.Entries.{words_of}
use Rattle.chunking.specs.Entries as chunking
use Rattle.sampletable.specs.SampleTable.{tables_of, stbl_of, stbl_in, fits_in}
use Rattle.sampletable.specs.Inside.{Ready}
use Rattle.sampletable.proofs.Puts.{length-words, one-put}
use Rattle.numbers.specs.declared.Refusal.{Refusal}

-- WHETHER ALL FIT

module _ (rs : List ℕ) (n : ℕ) where
  pub sizes-unfit : all_meet Narrow (column_of rs n 2) ≡ false → false ≡ fits_in rs n
  unfolding fits_in chunking.fits_in
  sizes-unfit e = by-false _ _ _ (chunking.fits_in rs n) (sym (by-false _ _ _ (all_meet Narrow (column_of rs n 2)) e refl)) refl

  pub durations-unfit : all_meet Narrow (column_of rs n 2) ≡ true → all_meet Narrow (column_of rs n 4) ≡ false → false ≡ fits_in rs n
  unfolding fits_in chunking.fits_in
  durations-unfit e f = by-false _ _ _ (chunking.fits_in rs n) (sym (by-true _ _ _ (all_meet Narrow (column_of rs n 2)) e (sym f))) refl

  pub others-fit : all_meet Narrow (column_of rs n 2) ≡ true → all_meet Narrow (column_of rs n 4) ≡ true → all_meet Signed (column_of rs n 5) ≡ fits_in rs n
  unfolding fits_in chunking.fits_in
  others-fit e f = by-true _ _ _ (chunking.fits_in rs n) (sym (by-true _ _ _ (all_meet Narrow (column_of rs n 2)) e (sym f))) refl

-- THE BYTES

module _ (scale : ℕ) (rs : List ℕ) (n : ℕ) (stsd : List ℕ) where
  abbrev inside : List ℕ
  inside = stsd ++ words_of (tables_of scale rs n)

  length-inside : length (stsd ++ words_of (tables_of scale rs n)) ≡ length stsd + length (tables_of scale rs n) * 4
  length-inside = length-append stsd (words_of (tables_of scale rs n)) ∙ ap (λ (k : ℕ). length stsd + k) (length-words (tables_of scale rs n))

  pub length-stbl : length (stbl_of scale rs n stsd) ≡ 8 + length stsd + length (tables_of scale rs n) * 4
  length-stbl =
      let size = 8 + 0 + length inside in
      omega
      (arith, length-inside, length-append (bytes 4 size ++ bytes 4 kinds.stbl ++ []) inside, length-append (bytes 4 size ++ bytes 4 kinds.stbl) [], length-append (bytes 4 size) (bytes 4 kinds.stbl), length-bytes 4 size, length-bytes 4 kinds.stbl)

  pub all-put : (o p₁ p₂ p₃ p₄ : List ℕ) (total : ℕ) (r₁ r₂ r₃ : Result ℕ Refusal) → total ≡ 8 + length stsd + length (tables_of scale rs n) * 4 → total ≤ length o → total < 2 ^ 32 → wrote r₁ p₁ ≡ put_of 4 total 0 o
      → wrote r₂ p₂ ≡ put_of 4 kinds.stbl 4 p₁ → wrote r₃ p₃ ≡ placed stsd (length stsd) 8 p₂ → p₄ ≡ sets p₃ (8 + length stsd) (words_of (tables_of scale rs n)) → p₄ ≡ sets o 0 (stbl_of scale rs n stsd)
  all-put o p₁ p₂ p₃ p₄ total r₁ r₂ r₃ ht h b e₁ e₂ e₃ e₄ =
      let ws = words_of (tables_of scale rs n) in
      let a = bytes 4 total in
      let k = bytes 4 kinds.stbl in
      let la : length (bytes 4 total) ≡ 4 = length-bytes 4 total in
      let lk : length (bytes 4 kinds.stbl) ≡ 4 = length-bytes 4 kinds.stbl in
      let q₁ : p₁ ≡ sets o 0 (bytes 4 total) = one-put total 0 o p₁ r₁ e₁ (omega arith) b in
      let l₁ : length p₁ ≡ length o = ap length q₁ ∙ length-sets o 0 (bytes 4 total) in
      let q₂ : p₂ ≡ sets p₁ 4 (bytes 4 kinds.stbl) = one-put kinds.stbl 4 p₁ p₂ r₂ e₂ (omega arith) (omega arith) in
      let l₂ : length p₂ ≡ length p₁ = ap length q₂ ∙ length-sets p₁ 4 (bytes 4 kinds.stbl) in
      let d₃ : wrote (Ok (8 + length stsd)) (sets p₂ 8 stsd) ≡ wrote r₃ p₃ = has_room stsd (length stsd) 8 p₂ (omega arith) ∙ sym e₃ in
      let q₃ : p₃ ≡ sets p₂ 8 stsd = cc in
      let n₂ : 4 ≡ 0 + length (bytes 4 total) = omega arith in
      let s₂ : p₂ ≡ sets o 0 (a ++ k) = q₂ ∙ ap₂ (λ (l : List ℕ) (m : ℕ). sets l m (bytes 4 kinds.stbl)) q₁ n₂ ∙ sets-append o 0 a k in
      let n₃ : 8 ≡ 0 + length (bytes 4 total ++ bytes 4 kinds.stbl) = omega (arith, length-append (bytes 4 total) (bytes 4 kinds.stbl)) in
      let s₃ : p₃ ≡ sets o 0 (a ++ k ++ stsd) = q₃ ∙ ap₂ (λ (l : List ℕ) (m : ℕ). sets l m stsd) s₂ n₃ ∙ sets-append o 0 (a ++ k) stsd in
      let n₄ : 8 + length stsd ≡ 0 + length (bytes 4 total ++ bytes 4 kinds.stbl ++ stsd) = omega (arith, length-append (bytes 4 total ++ bytes 4 kinds.stbl) stsd, length-append (bytes 4 total) (bytes 4 kinds.stbl)) in
      let s₄ : p₄ ≡ sets o 0 (a ++ k ++ stsd ++ ws) = e₄ ∙ ap₂ (λ (l : List ℕ) (m : ℕ). sets l m (words_of (tables_of scale rs n))) s₃ n₄ ∙ sets-append o 0 (a ++ k ++ stsd) ws in
      let size : total ≡ 8 + 0 + length inside = omega (arith, length-inside) in
      s₄
      ∙ ap (sets o 0) (append_assoc (a ++ k) stsd ws ∙ ap (λ (x : List ℕ). x ++ inside) (sym (append-nil (a ++ k))) ∙ ap (λ (m : ℕ). bytes 4 m ++ bytes 4 kinds.stbl ++ [] ++ inside) size)

  -- ANSWERS

  module _ (o : List ℕ) where
    pub says-timescale : scale ≡ 0 → wrote (Err (refusal.Value 0)) o ≡ stbl_in scale rs n stsd o
    says-timescale z = is_eq _ _ _ scale 0 z refl

    module _ (has : Bool) (z : scale ≡ 0 → ⊥) (e : has ≡ leb (n * 7) (length rs)) where
      pub says_none : not has ≡ true → wrote (Err (refusal.NoSample n)) o ≡ stbl_in scale rs n stsd o
      says_none t = is_ne _ _ _ scale 0 z (not-le _ _ _ (n * 7) (length rs) (leb-false (n * 7) (length rs) (sym e ∙ not-true has t)) refl)

      module _ (t : not has ≡ false) where
        there : n * 7 ≤ length rs
        there = leb-true (n * 7) (length rs) (sym e ∙ not-false has t)

        pub says-many : 0xffff_ffff < n → wrote (Err refusal.Unwritable) o ≡ stbl_in scale rs n stsd o
        says-many h = is_ne _ _ _ scale 0 z (is_le _ _ _ (n * 7) (length rs) there (not-lt _ _ _ n (2 ^ 32) (omega arith) refl))

        pub says-unfit : (f : Bool) → n ≤ 0xffff_ffff → f ≡ fits_in rs n → not f ≡ true → wrote (Err refusal.Unwritable) o ≡ stbl_in scale rs n stsd o
        says-unfit f h g u =
            is_ne _ _ _ scale 0 z (is_le _ _ _ (n * 7) (length rs) there (is_lt _ _ _ n (2 ^ 32) (omega arith) (by-false _ _ _ (fits_in rs n) (sym g ∙ not-true f u) refl)))

        pub ready_of : (f : Bool) → n ≤ 0xffff_ffff → f ≡ fits_in rs n → not f ≡ false → Ready scale rs n
        ready_of f h g u = record { scaled = z; there = there; counted = omega arith; fits = sym g ∙ not-false f u }

    module _ (g : Ready scale rs n) where
      says : (x : Wrote) → x ≡ place o (stbl_of scale rs n stsd) → x ≡ stbl_in scale rs n stsd o
      says x q = is_ne _ _ _ scale 0 g.scaled (is_le _ _ _ (n * 7) (length rs) g.there (is_lt _ _ _ n (2 ^ 32) g.counted (by-true _ _ _ (fits_in rs n) g.fits q)))

      pub says-large : (tables : ℕ) → tables ≡ length (tables_of scale rs n) * 4 → 0xffff_ffff < 8 + length stsd + tables → wrote (Err refusal.Unwritable) o ≡ stbl_in scale rs n stsd o
      says-large tables e h = says (wrote (Err refusal.Unwritable) o) (is_lt _ _ _ (2 ^ 32 - 1) (length (stbl_of scale rs n stsd)) (omega (arith, length-stbl)) refl)

      pub says-small : (tables total : ℕ) → tables ≡ length (tables_of scale rs n) * 4 → total ≡ 8 + length stsd + tables → total ≤ 0xffff_ffff → length o < total → wrote (Err (refusal.TooSmall total)) o ≡ stbl_in scale rs n stsd o
      says-small tables total e f h k =
          let l : total ≡ length (stbl_of scale rs n stsd) = omega (arith, length-stbl) in
          says (wrote (Err (refusal.TooSmall total)) o)
          (not-lt _ _ _ (2 ^ 32 - 1) (length (stbl_of scale rs n stsd)) (omega arith)
          (is_lt _ _ _ (length o) (length (stbl_of scale rs n stsd)) (omega arith) (ap (λ (m : ℕ). wrote (Err (refusal.TooSmall m)) o) l)))

      pub says-done : (p : List ℕ) (tables total : ℕ) → tables ≡ length (tables_of scale rs n) * 4 → total ≡ 8 + length stsd + tables → total ≤ 0xffff_ffff → total ≤ length o → p ≡ sets o 0 (stbl_of scale rs n stsd)
          → wrote (Ok total) p ≡ stbl_in scale rs n stsd o
      says-done p tables total e f h k q =
          let l : total ≡ length (stbl_of scale rs n stsd) = omega (arith, length-stbl) in
          says (wrote (Ok total) p)
          (not-lt _ _ _ (2 ^ 32 - 1) (length (stbl_of scale rs n stsd)) (omega arith)
          (not-lt _ _ _ (length o) (length (stbl_of scale rs n stsd)) (omega arith)
          (ap₂ (λ (m : ℕ) (x : List ℕ). wrote (Ok m) x) l (q ∙ sets-eq (stbl_of scale rs n stsd) o 0 (omega arith) ∙ ap (λ (m : ℕ). stbl_of scale rs n stsd ++ drop m o) (zero-add (length (stbl_of scale rs n stsd)))))))
