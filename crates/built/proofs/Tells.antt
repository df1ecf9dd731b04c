-- The entries of each table, as its builder writes them from the records of samples, stand in a file: the table tells what
-- was built. Assumes nothing.
use Prim.Native.Nat.{ℕ, ◌+◌, ◌-◌, ◌*◌}
use mathlib.Core.Path.{◌≡◌, refl, sym, ap, ap₂, ◌∙◌}
use mathlib.Core.List.{List, [], ◌∷◌, ◌++◌}
use mathlib.Core.Bool.{Bool, true, false, ◌&&◌}
use mathlib.Core.Logic.{⊎_elim}
use native.Mathlib.Omega.{arith}
use lib.ListN.{length}
use lib.Dec.{eqb}
use borrow.Author.Tests.{eq-eqb, eqb-true, eqb-false}
use Rattle.numbers.specs.Field.{when}
use Rattle.numbers.proofs.Chain.{way, by-true, by-false, is_eq}
use Rattle.samples.specs.declared.Sample.{Sample}
use Rattle.samples.specs.Records.{records_of}
use Rattle.tables.specs.Tables.{listed, values_of, pairs, group_at, chunks, sizes, numbers}
use Rattle.tables.specs.declared.Row.{Row}
use Rattle.merging.specs.Merging.{merged_of}
use Rattle.merging.proofs.Rows.{All}
use Rattle.columns.specs.declared.Rule.TheVariants as rule
use Rattle.columns.specs.Columns.{column_of, lows_of, all_meet}
use Rattle.columns.specs.Entries.{words_of}
use Rattle.builder.specs.Built.{pairs_of, runs_of, stts_of, ctts_of, stsz_of, stss_of, all_same, common_of, common_in, syncs_from, syncs_in}
use Rattle.builder.proofs.Fills.{length_pairs}
use Rattle.builder.proofs.Back as back
use Rattle.builder.proofs.Back.{sizes_of, durations_of, shifts_of, flags_of}
use Rattle.builder.proofs.Bytes.{Small, pairs-back, numbers-back, sizes-back, common-back}
use Rattle.chunking.specs.declared.Chunk.{Chunk}
use Rattle.chunking.specs.Chunking.{chunks_of, chunks_in}
use Rattle.chunking.specs.Entries.{offset_words, offsets_by, any_wide, counts_of, group_words, groups_in, stsc_of, offsets_of}
use Rattle.chunking.proofs.Back.{places_of, entries_of}
use Rattle.chunking.proofs.Whole.{pieces_of}
use Rattle.chunking.proofs.Bytes.{Fit, groups-back, narrow_back, wide_back}
use Rattle.built.specs.Written.{Gives, Stands, Of64}
use Rattle.built.proofs.Joins.{compositions-column, sizes-column, durations-column, sizes-lows, durations-runs, shifts-runs, flags-syncs, chunks-samples}
use Rattle.built.proofs.Given.{length-words, Built, built-given, chunked-given, fits_both}
use Rattle.built.proofs.Fits.{all_small, shifts-small, compositions-narrow, compositions-zero, syncs-small}
use Rattle.built.proofs.Bounds.{chunks-bounded, no-more-chunks, length-pieces, places-wide, groups-fit}

-- STTS AND CTTS

pairs-told : (vs f es : List ℕ) (at count : ℕ) → All Small vs → es ≡ words_of (pairs_of (merged_of vs)) → Stands f at es → count * 8 ≡ length es → pairs f (record { at = at; count = count }) ≡ merged_of vs
pairs-told vs f es at count h e s n =
    let c : count ≡ length (merged_of vs) = omega (arith, n, ap length e, length-words (pairs_of (merged_of vs)), length_pairs (merged_of vs)) in
    ap (λ (x : List ℕ). pairs x (record { at = at; count = count })) (s.there ∙ ap (λ (x : List ℕ). s.before ++ (x ++ s.behind)) e)
    ∙ ap₂ (λ (a k : ℕ). pairs (s.before ++ (words_of (pairs_of (merged_of vs)) ++ s.behind)) (record { at = a; count = k })) s.place c
    ∙ pairs-back vs s.before s.behind h

module _ (l : List Sample) (f o es : List ℕ) (at count : ℕ) (s : Stands f at es) where
  pub stts-tells : Gives (stts_of (records_of l) (length l) o) es → count * 8 ≡ length es → pairs f (record { at = at; count = count }) ≡ merged_of (durations_of l)
  stts-tells g n =
      let b = built-given (records_of l) (length l) (all_meet rule.Narrow (column_of (records_of l) (length l) 4)) (runs_of (records_of l) (length l) 4) o es g in
      let small : All Small (durations_of l) = all_small (durations_of l) (ap (all_meet rule.Narrow) (sym (durations-column l)) ∙ b.fits) in
      pairs-told (durations_of l) f es at count small (b.bytes ∙ ap words_of (durations-runs l b.fits)) s n

-- STSS

module _ (l : List Sample) (f o es : List ℕ) (at count : ℕ) (s : Stands f at es) where
  pub stss-tells : Gives (stss_of (records_of l) (length l) o) es → count * 4 ≡ length es → numbers f (record { at = at; count = count }) ≡ syncs_from 0 (flags_of l)
  stss-tells g n =
      let b = built-given (records_of l) (length l) true (syncs_in (records_of l) (length l)) o es g in
      let e : es ≡ words_of (syncs_from 0 (flags_of l)) = b.bytes ∙ ap words_of (flags-syncs l) in
      let c : count ≡ length (syncs_from 0 (flags_of l)) = omega (arith, n, ap length e, length-words (syncs_from 0 (flags_of l))) in
      let small : All Small (syncs_from 0 (flags_of l)) = syncs-small 0 (flags_of l) (omega (arith, b.counted, length-flags l)) in
      ap (λ (x : List ℕ). numbers x (record { at = at; count = count })) (s.there ∙ ap (λ (x : List ℕ). s.before ++ (x ++ s.behind)) e)
      ∙ ap₂ (λ (a k : ℕ). numbers (s.before ++ (words_of (syncs_from 0 (flags_of l)) ++ s.behind)) (record { at = a; count = k })) s.place c
      ∙ numbers-back (syncs_from 0 (flags_of l)) s.before s.behind small
    where
      length-flags : (l : List Sample) → length (flags_of l) ≡ length l
      length-flags [] = refl
      length-flags (s ∷ l) = omega (arith, length-flags l)

-- CTTS

-- what a column of composition offsets, none where there is no ctts, is to samples
pub data Shifted (l : List Sample) (vs : List ℕ) : Type 0 where
  zeros : back.Zero l → vs ≡ [] → Shifted l vs
  shifted : back.Narrow l → vs ≡ values_of (merged_of (shifts_of l)) → Shifted l vs

module _ (l : List Sample) (w : All Of64 l) (o es : List ℕ) (g : Gives (ctts_of (records_of l) (length l) o) es) where
  abbrev none : Bool
  none = all_meet rule.Zero (column_of (records_of l) (length l) 5)

  given : Built (records_of l) (length l) (all_meet rule.Signed (column_of (records_of l) (length l) 5)) (when none [] (runs_of (records_of l) (length l) 5)) es
  given = built-given (records_of l) (length l) (all_meet rule.Signed (column_of (records_of l) (length l) 5)) (when none [] (runs_of (records_of l) (length l) 5)) o es g

  all-zero : none ≡ true → back.Zero l
  all-zero e = compositions-zero l w (ap (all_meet rule.Zero) (sym (compositions-column l)) ∙ e)

  all-narrow : back.Narrow l
  all-narrow = compositions-narrow l w (ap (all_meet rule.Signed) (sym (compositions-column l)) ∙ given.fits)

  no_bytes : none ≡ true → es ≡ []
  no_bytes e = given.bytes ∙ ap words_of (sym (by-true [] (runs_of (records_of l) (length l) 5) [] none e refl))

  the-bytes : none ≡ false → es ≡ words_of (pairs_of (merged_of (shifts_of l)))
  the-bytes e =
      given.bytes ∙ ap words_of (sym (by-false [] (runs_of (records_of l) (length l) 5) (runs_of (records_of l) (length l) 5) none e refl) ∙ shifts-runs l)

  pub ctts-tells : (f : List ℕ) (at count : ℕ) → Stands f at es → count * 8 ≡ length es → Shifted l (values_of (pairs f (record { at = at; count = count })))
  ctts-tells f at count s n = cases none refl
    where
      cases : (b : Bool) → none ≡ b → Shifted l (values_of (pairs f (record { at = at; count = count })))
      cases true e =
          let z : count ≡ 0 = omega (arith, n, ap length (no_bytes e)) in
          zeros (all-zero e) (ap (λ (k : ℕ). values_of (pairs f (record { at = at; count = k }))) z)
      cases false e = shifted all-narrow (ap values_of (pairs-told (shifts_of l) f es at count (shifts-small l) (the-bytes e) s n))

  -- no entries: the box is absent (A57)
  pub ctts-none : es ≡ [] → Shifted l []
  ctts-none q = cases none refl
    where
      no_rows : (rs : List Row) → length rs ≡ 0 → [] ≡ values_of rs
      no_rows [] e = refl
      no_rows (r ∷ rs) e = absurd (omega arith)

      cases : (b : Bool) → none ≡ b → Shifted l []
      cases true e = zeros (all-zero e) refl
      cases false e =
          let z : length (merged_of (shifts_of l)) ≡ 0 = omega (arith, ap length (sym q ∙ the-bytes e), length-words (pairs_of (merged_of (shifts_of l))), length_pairs (merged_of (shifts_of l))) in
          shifted all-narrow (no_rows (merged_of (shifts_of l)) z)

-- STSZ

common-all : (ns : List ℕ) (x : ℕ) → common_of ns ≡ x → (x ≡ 0 → ⊥) → all_same x ns ≡ true
common-all [] x e z = refl
common-all (y ∷ ns) x e z = ⊎_elim (λ w. same w.0 w.1) (λ w. absurd (z (sym w.1))) (way (all_same y ns) y 0 x e)
  where
    same : all_same y ns ≡ true → y ≡ x → all_same x (y ∷ ns) ≡ true
    same t q = ap₂ (λ (a b : Bool). a && b) (eq-eqb y x q) (ap (λ (k : ℕ). all_same k ns) (sym q) ∙ t)

common-of : (l : List Sample) → all_meet rule.Narrow (column_of (records_of l) (length l) 2) ≡ true → common_of (sizes_of l) ≡ common_in (records_of l) (length l)
unfolding common_in
common-of l e = by-true (common_of (lows_of (records_of l) (length l) 2)) 0 (common_of (sizes_of l)) (all_meet rule.Narrow (column_of (records_of l) (length l) 2)) e (ap common_of (sym (sizes-lows l e)))

length-sizes : (l : List Sample) → length (sizes_of l) ≡ length l
length-sizes [] = refl
length-sizes (s ∷ l) = omega (arith, length-sizes l)

module _ (l : List Sample) (f o es : List ℕ) (at : ℕ) (s : Stands f at es) where
  pub stsz-tells : Gives (stsz_of (records_of l) (length l) o) es → sizes f (record { at = at; count = length l; common = common_in (records_of l) (length l) }) ≡ sizes_of l
  stsz-tells g = cases (eqb x 0) refl
    where
      x : ℕ
      x = common_in (records_of l) (length l)

      b : Built (records_of l) (length l) (all_meet rule.Narrow (column_of (records_of l) (length l) 2)) (when (eqb x 0) (lows_of (records_of l) (length l) 2) []) es
      b = built-given (records_of l) (length l) (all_meet rule.Narrow (column_of (records_of l) (length l) 2)) (when (eqb x 0) (lows_of (records_of l) (length l) 2) []) o es g

      common-is : common_of (sizes_of l) ≡ x
      common-is = common-of l b.fits

      cases : (t : Bool) → eqb x 0 ≡ t → sizes f (record { at = at; count = length l; common = x }) ≡ sizes_of l
      cases true e =
          let z : x ≡ 0 = eqb-true x 0 e in
          let q : es ≡ words_of (sizes_of l) = b.bytes ∙ ap words_of (sym (is_eq (lows_of (records_of l) (length l) 2) [] (lows_of (records_of l) (length l) 2) x 0 z refl) ∙ sizes-lows l b.fits) in
          ap (λ (y : List ℕ). sizes y (record { at = at; count = length l; common = x })) (s.there ∙ ap (λ (y : List ℕ). s.before ++ (y ++ s.behind)) q)
          ∙ ap₂ (λ (a c : ℕ). sizes (s.before ++ (words_of (sizes_of l) ++ s.behind)) (record { at = a; count = length l; common = c })) s.place z
          ∙ ap (λ (n : ℕ). sizes (s.before ++ (words_of (sizes_of l) ++ s.behind)) (record { at = length s.before; count = n; common = 0 })) (sym (length-sizes l))
          ∙ sizes-back (sizes_of l) s.before s.behind (all_small (sizes_of l) (ap (all_meet rule.Narrow) (sym (sizes-column l)) ∙ b.fits))
      cases false e =
          let z = eqb-false x 0 e in
          ap (λ (n : ℕ). sizes f (record { at = at; count = n; common = x })) (sym (length-sizes l))
          ∙ common-back f (sizes_of l) at x z (common-all (sizes_of l) x common-is z)

-- STSC

length-groups : (f : ℕ) (rs : List Row) → length (group_words f rs) ≡ 3 * length rs
length-groups f [] = omega arith
length-groups f (r ∷ rs) = omega (arith, length-groups (f + r.count) rs)

module _ (scale : ℕ) (l : List Sample) (w : All Of64 l) (f o es : List ℕ) (at count : ℕ) (s : Stands f at es) where
  abbrev cs : List Chunk
  cs = chunks_of scale (pieces_of l)

  pub stsc-tells : Gives (stsc_of scale (records_of l) (length l) o) es → count * 12 ≡ length es → listed (group_at f at) count ≡ entries_of 1 (merged_of (counts_of cs))
  stsc-tells g n =
      let b = chunked-given scale (records_of l) (length l) (groups_in scale (records_of l) (length l)) o es g in
      let t = fits_both (records_of l) (length l) b.fits in
      let rows = merged_of (counts_of cs) in
      let e : es ≡ words_of (group_words 1 (merged_of (counts_of cs))) = b.bytes ∙ ap (λ (x : List Chunk). words_of (group_words 1 (merged_of (counts_of x)))) (chunks-samples l scale t.0 t.1) in
      let c : count ≡ length (merged_of (counts_of cs)) = omega (arith, n, ap length e, length-words (group_words 1 (merged_of (counts_of cs))), length-groups 1 (merged_of (counts_of cs))) in
      let fit : Fit 1 (merged_of (counts_of cs)) = groups-fit cs (chunks-bounded scale l w) (omega (arith, b.counted, no-more-chunks scale (pieces_of l), length-pieces l)) in
      ap (λ (x : List ℕ). listed (group_at x at) count) (s.there ∙ ap (λ (x : List ℕ). s.before ++ (x ++ s.behind)) e)
      ∙ ap₂ (λ (a k : ℕ). listed (group_at (s.before ++ (words_of (group_words 1 rows) ++ s.behind)) a) k) s.place c
      ∙ groups-back rows s.before s.behind fit

-- STCO, CO64

length-narrow : (cs : List Chunk) → length (offsets_by false cs) ≡ length cs
unfolding offset_words
length-narrow [] = refl
length-narrow (c ∷ cs) = omega (arith, length-narrow cs)

length-wide : (cs : List Chunk) → length (offsets_by true cs) ≡ 2 * length cs
unfolding offset_words
length-wide [] = omega arith
length-wide (c ∷ cs) = omega (arith, length-wide cs)

module _ (scale : ℕ) (l : List Sample) (w : All Of64 l) (f o es : List ℕ) (at count : ℕ) (s : Stands f at es) (g : Gives (offsets_of scale (records_of l) (length l) o) es) where
  abbrev all : List Chunk
  all = chunks_of scale (pieces_of l)

  places : (es ≡ words_of (offsets_by (any_wide all) all)) × (any_wide (chunks_in scale (records_of l) (length l)) ≡ any_wide all)
  places =
      let x = chunks_in scale (records_of l) (length l) in
      let b = chunked-given scale (records_of l) (length l) (offsets_by (any_wide x) x) o es g in
      let t = fits_both (records_of l) (length l) b.fits in
      let same : chunks_in scale (records_of l) (length l) ≡ all = chunks-samples l scale t.0 t.1 in
      (b.bytes ∙ ap (λ (y : List Chunk). words_of (offsets_by (any_wide y) y)) same, ap any_wide same)

  pub stco-tells : any_wide (chunks_in scale (records_of l) (length l)) ≡ false → count * 4 ≡ length es → (chunks f (record { at = at; count = count; wide = false }) ≡ places_of all) × (count ≡ length all)
  stco-tells near n =
      let q : any_wide all ≡ false = sym places.1 ∙ near in
      let e : es ≡ words_of (offsets_by false all) = places.0 ∙ ap (λ (b : Bool). words_of (offsets_by b all)) q in
      let c : count ≡ length all = omega (arith, n, ap length e, length-words (offsets_by false all), length-narrow all) in (
        ap (λ (x : List ℕ). chunks x (record { at = at; count = count; wide = false })) (s.there ∙ ap (λ (x : List ℕ). s.before ++ (x ++ s.behind)) e)
            ∙ ap₂ (λ (a k : ℕ). chunks (s.before ++ (words_of (offsets_by false all) ++ s.behind)) (record { at = a; count = k; wide = false })) s.place c
            ∙ narrow_back all s.before s.behind q,
        c,
      )

  pub co64-tells : any_wide (chunks_in scale (records_of l) (length l)) ≡ true → count * 8 ≡ length es → (chunks f (record { at = at; count = count; wide = true }) ≡ places_of all) × (count ≡ length all)
  co64-tells far n =
      let q : any_wide all ≡ true = sym places.1 ∙ far in
      let e : es ≡ words_of (offsets_by true all) = places.0 ∙ ap (λ (b : Bool). words_of (offsets_by b all)) q in
      let c : count ≡ length all = omega (arith, n, ap length e, length-words (offsets_by true all), length-wide all) in (
        ap (λ (x : List ℕ). chunks x (record { at = at; count = count; wide = true })) (s.there ∙ ap (λ (x : List ℕ). s.before ++ (x ++ s.behind)) e)
            ∙ ap₂ (λ (a k : ℕ). chunks (s.before ++ (words_of (offsets_by true all) ++ s.behind)) (record { at = a; count = k; wide = true })) s.place c
            ∙ wide_back all s.before s.behind (places-wide all (chunks-bounded scale l w)),
        c,
      )
