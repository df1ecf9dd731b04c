-- What the sample table's writer has written, and stands in a file, stores the samples; so it reads back as just these.
-- Assumes nothing.
use Rattle.std.specs.Prelude.{Option, Ok, Err, Some, None}
use Prim.Native.Nat.{ℕ, zero, suc, ◌+◌, ◌-◌, ◌*◌, ◌/◌, ◌%◌, ◌^◌, ◌≤◌, ◌<◌}
use mathlib.Core.Path.{◌≡◌, refl, sym, ap, subst, ◌∙◌}
use mathlib.Core.List.{List, [], ◌∷◌, ◌++◌, append_assoc}
use mathlib.Core.Bool.{Bool, true, false, not}
use native.Mathlib.Omega.{arith}
use lib.ListN.{length, take, drop, length-append}
use lib.Seq.{take_at}
use lib.Dec.{eqb, leb, ltb}
use borrow.Author.Tests.{eqb-true, eqb-false, leb-true, ltb-true, ltb-false}
use Rattle.numbers.specs.Number.{bytes}
use Rattle.numbers.specs.Field.{when}
use Rattle.numbers.specs.declared.Refusal.TheVariants as refusal
use Rattle.numbers.proofs.Laws.{length-bytes}
use Rattle.numbers.proofs.Chain.{by-true, by-false}
use Rattle.put.specs.Put.{Wrote, wrote}
use Rattle.layout.specs.Write.{place}
use Rattle.places.specs.Kinds as kinds
use Rattle.rows.specs.Rows as rows
use Rattle.samples.specs.declared.Sample.{Sample}
use Rattle.samples.specs.Records.{records_of}
use Rattle.tables.specs.Samples.{samples_of}
use Rattle.tables.specs.Tables.{list_from}
use Rattle.tables.proofs.Lists.{length-list}
use Rattle.tables.specs.declared.Row.{Row}
use Rattle.tables.specs.declared.Track.{Track}
use Rattle.merging.specs.Merging.{merged_of}
use Rattle.merging.proofs.Rows.{All, nothing, each, merged-right}
use Rattle.columns.specs.declared.Rule.TheVariants.{Zero, Narrow}
use Rattle.columns.specs.Columns.{cell_of, low_at, column_of, lows_of, all_meet}
use Rattle.columns.specs.Entries.{words_of}
use Rattle.builder.specs.Built as builder
use Rattle.builder.proofs.Fills.{length_pairs}
use Rattle.builder.proofs.Back.{Numbered, flags_of}
use Rattle.builder.proofs.Bytes.{Small}
use Rattle.chunking.specs.declared.Chunk.{Chunk}
use Rattle.chunking.specs.Chunking.{Piece, empty, alone, joined, goes_on, step_of, finish_of, closed_of, open_of, chunks_from, chunks_of, chunks_in}
use Rattle.chunking.specs.Entries as chunking
use Rattle.chunking.proofs.Cases.{step-first, step-closed, step-joined, finish-none, finish-chunk}
use Rattle.chunking.proofs.Whole.{pieces_of}
use Rattle.chunking.proofs.Bytes.{Fit}
use Rattle.stts.specs.Stts as stts
use Rattle.stsc.specs.Stsc as stsc
use Rattle.stsz.specs.Stsz as stsz
use Rattle.stss.specs.Stss as stss
use Rattle.stbl.specs.Stbl.{track_of}
use Rattle.sampletable.specs.declared.Table.{Table}
use Rattle.sampletable.specs.declared.Table.TheVariants.{Stts, Ctts, Stsc, Stsz, Offsets, Stss}
use Rattle.sampletable.specs.SampleTable.{wide_in, list_of, per_of, kind_of, is_there, first_of, second_of, table_of, tables_of, box_of, stbl_of, stbl_in, fits_in}
use Rattle.sampletable.specs.Inside.{entries_in, Ready}
use Rattle.sampletable.proofs.Cases.{ready-placed}
use Rattle.built.specs.Written.{Gives, Stands, Of64}
use Rattle.built.specs.Stored.{BoxAt, CttsAt, StszAt, StssAt, ChunksAt, Stored}
use Rattle.built.specs.Places.{behind, span_if, boxes_from, boxes_at}
use Rattle.built.proofs.Joins.{chunks-samples, flags-syncs}
use Rattle.built.proofs.Given.{length-words, not-refused, not-refused-first, chunked-given, fits_both}
use Rattle.built.proofs.Fits.{syncs-small}
use Rattle.built.proofs.Bounds.{chunks-bounded, no-more-chunks, length-pieces, groups-fit}
use Rattle.built.proofs.Judged.{groups-fine, syncs-rise, numbers-fine}
use Rattle.built.proofs.Heads.{placed-gives, table-gives, shifts-gives, judged-gives, sizes-gives}
use Rattle.built.proofs.Stored.{stored-reads-back}

-- STANDING

pub stands-left : (f a b : List ℕ) (at : ℕ) → Stands f at (a ++ b) → Stands f at a
stands-left f a b at s = record { before = s.before; behind = b ++ s.behind; there = s.there ∙ ap (λ (x : List ℕ). s.before ++ x) (append_assoc a b s.behind); place = s.place }

pub stands-right : (f a b : List ℕ) (at to : ℕ) → to ≡ at + length a → Stands f at (a ++ b) → Stands f to b
stands-right f a b at to e s =
    record {
      before = s.before ++ a;
      behind = s.behind;
      there = s.there ∙ ap (λ (x : List ℕ). s.before ++ x) (append_assoc a b s.behind) ∙ sym (append_assoc s.before a (b ++ s.behind));
      place = omega (arith, s.place, length-append s.before a);
    }

words_append : (a b : List ℕ) → words_of (a ++ b) ≡ words_of a ++ words_of b
words_append [] b = refl
words_append (x ∷ a) b = ap (λ (l : List ℕ). bytes 4 x ++ l) (words_append a b) ∙ sym (append_assoc (bytes 4 x) (words_of a) (words_of b))

pub split : (f a b : List ℕ) (at : ℕ) → Stands f at (words_of (a ++ b)) → (Stands f at (words_of a)) × (Stands f (at + length a * 4) (words_of b))
split f a b at s =
    let t : Stands f at (words_of a ++ words_of b) = subst (λ (l : List ℕ). Stands f at l) (words_append a b) s in
    (stands-left f (words_of a) (words_of b) at t, stands-right f (words_of a) (words_of b) at (at + length a * 4) (ap (λ (k : ℕ). at + k) (sym (length-words a))) t)

-- a table's box, whose numbers are `box`
box-at : (f : List ℕ) (s : Option (ℕ × ℕ)) (entries_in : List ℕ → Wrote) (box_in : List ℕ → List ℕ → Wrote) (ns box : List ℕ) (at : ℕ) → Gives (entries_in (words_of ns)) (words_of ns) → Gives (box_in (words_of ns) (words_of box)) (words_of box)
    → s ≡ Some (at, length box * 4) → Stands f at (words_of box) → BoxAt f s entries_in box_in
box-at f s entries_in box_in ns box at b w e t =
    record {
      room = words_of ns;
      entries = words_of ns;
      built = b;
      out = words_of box;
      box = words_of box;
      written = w;
      start = at;
      spanned = e ∙ ap (λ b. Some (at, b)) (sym (length-words box));
      stands = t;
    }

-- NO CHUNK IS EMPTY

abbrev NotEmpty : Chunk → Type 0
NotEmpty c = 0 < c.count

some-from : (t : ℕ) (c : Chunk) (ps : List Piece) → All NotEmpty (chunks_from t c ps)
some-from t c [] = cases (eqb c.count 0) refl
  where
    cases : (x : Bool) → eqb c.count 0 ≡ x → All NotEmpty (closed_of (finish_of c))
    cases true z = subst (λ s. All NotEmpty (closed_of s)) (finish-none c (eqb-true c.count 0 z)) nothing
    cases false z =
        let k = eqb-false c.count 0 z in
        let h : 0 < c.count = omega arith in
        subst (λ s. All NotEmpty (closed_of s)) (finish-chunk c k) (each h nothing)
some-from t c (p ∷ ps) = by_count (eqb c.count 0) refl (some-from t (alone p) ps) (some-from t (joined c p) ps)
  where
    by-joining : (c.count ≡ 0 → ⊥) → (x : Bool) → goes_on t c p.offset ≡ x → All NotEmpty (chunks_from t (alone p) ps) → All NotEmpty (chunks_from t (joined c p) ps) → All NotEmpty (closed_of (step_of t c p) ++ chunks_from t (open_of (step_of t c p)) ps)
    by-joining z true e one more = subst (λ s. All NotEmpty (closed_of s ++ chunks_from t (open_of s) ps)) (step-joined t c p z e) more
    by-joining z false e one more = let h : 0 < c.count = omega arith in subst (λ s. All NotEmpty (closed_of s ++ chunks_from t (open_of s) ps)) (step-closed t c p z e) (each h one)

    by_count : (x : Bool) → eqb c.count 0 ≡ x → All NotEmpty (chunks_from t (alone p) ps) → All NotEmpty (chunks_from t (joined c p) ps) → All NotEmpty (closed_of (step_of t c p) ++ chunks_from t (open_of (step_of t c p)) ps)
    by_count true z one more = subst (λ s. All NotEmpty (closed_of s ++ chunks_from t (open_of s) ps)) (step-first t c p (eqb-true c.count 0 z)) one
    by_count false z one more = by-joining (eqb-false c.count 0 z) (goes_on t c p.offset) refl one more

some-counts : (cs : List Chunk) → All NotEmpty cs → All (λ (v : ℕ). 0 < v) (chunking.counts_of cs)
some-counts [] nothing = nothing
some-counts (c ∷ cs) (each h k) = each h (some-counts cs k)

-- THE TABLES' NUMBERS

module _ (scale : ℕ) (rs : List ℕ) (n : ℕ) where
  stts-table : table_of Stts scale rs n ≡ box_of kinds.stts ((length (builder.runs_of rs n 4) / 2) ∷ builder.runs_of rs n 4)
  unfolding is_there kind_of first_of second_of list_of when
  stts-table = refl

  ctts-table : all_meet Zero (column_of rs n 5) ≡ false → table_of Ctts scale rs n ≡ box_of kinds.ctts ((length (builder.runs_of rs n 5) / 2) ∷ builder.runs_of rs n 5)
  unfolding is_there kind_of first_of second_of list_of when
  ctts-table e = ap (λ (b : Bool). when (not b) (box_of kinds.ctts ((length (when b [] (builder.runs_of rs n 5)) / 2) ∷ when b [] (builder.runs_of rs n 5))) []) e

  stsc-table : table_of Stsc scale rs n ≡ box_of kinds.stsc ((length (chunking.groups_in scale rs n) / 3) ∷ chunking.groups_in scale rs n)
  unfolding is_there kind_of first_of second_of list_of when
  stsc-table = refl

  stsz-table : table_of Stsz scale rs n ≡ box_of kinds.stsz (builder.common_in rs n ∷ n ∷ when (eqb (builder.common_in rs n) 0) (lows_of rs n 2) [])
  unfolding is_there kind_of first_of second_of list_of when
  stsz-table = refl

  stco-table : wide_in scale rs n ≡ false → table_of Offsets scale rs n ≡ box_of kinds.stco ((length (chunking.offsets_by false (chunks_in scale rs n)) / 1) ∷ chunking.offsets_by false (chunks_in scale rs n))
  unfolding is_there kind_of first_of second_of list_of per_of when
  stco-table e = ap (λ (b : Bool). box_of (when b kinds.co64 kinds.stco) ((length (chunking.offsets_by b (chunks_in scale rs n)) / when b 2 1) ∷ chunking.offsets_by b (chunks_in scale rs n))) e

  co64-table : wide_in scale rs n ≡ true → table_of Offsets scale rs n ≡ box_of kinds.co64 ((length (chunking.offsets_by true (chunks_in scale rs n)) / 2) ∷ chunking.offsets_by true (chunks_in scale rs n))
  unfolding is_there kind_of first_of second_of list_of per_of when
  co64-table e = ap (λ (b : Bool). box_of (when b kinds.co64 kinds.stco) ((length (chunking.offsets_by b (chunks_in scale rs n)) / when b 2 1) ∷ chunking.offsets_by b (chunks_in scale rs n))) e

  stss-table : eqb n 0 ≡ false → table_of Stss scale rs n ≡ box_of kinds.stss (length (builder.syncs_in rs n) ∷ builder.syncs_in rs n)
  unfolding is_there kind_of first_of second_of list_of when
  stss-table e = ap (λ (b : Bool). when (not b) (box_of kinds.stss (length (builder.syncs_in rs n) ∷ builder.syncs_in rs n)) []) e

  -- what the builders place, table by table
  module _ (g : Ready scale rs n) where
    stts-given : Gives (builder.stts_of rs n (words_of (builder.runs_of rs n 4))) (words_of (builder.runs_of rs n 4))
    unfolding entries_in list_of
    stts-given = placed-gives (builder.runs_of rs n 4) _ (ready-placed scale rs n g _ Stts)

    ctts-given : (b : Bool) → all_meet Zero (column_of rs n 5) ≡ b → Gives (builder.ctts_of rs n (words_of (when b [] (builder.runs_of rs n 5)))) (words_of (when b [] (builder.runs_of rs n 5)))
    unfolding entries_in list_of
    ctts-given b e =
        subst (λ (x : Bool). Gives (builder.ctts_of rs n (words_of (when x [] (builder.runs_of rs n 5)))) (words_of (when x [] (builder.runs_of rs n 5)))) e
        (placed-gives (when (all_meet Zero (column_of rs n 5)) [] (builder.runs_of rs n 5)) _ (ready-placed scale rs n g _ Ctts))

    stsc-given : Gives (chunking.stsc_of scale rs n (words_of (chunking.groups_in scale rs n))) (words_of (chunking.groups_in scale rs n))
    unfolding entries_in list_of
    stsc-given = placed-gives (chunking.groups_in scale rs n) _ (ready-placed scale rs n g _ Stsc)

    stsz-given : Gives (builder.stsz_of rs n (words_of (when (eqb (builder.common_in rs n) 0) (lows_of rs n 2) []))) (words_of (when (eqb (builder.common_in rs n) 0) (lows_of rs n 2) []))
    unfolding entries_in list_of
    stsz-given = placed-gives (when (eqb (builder.common_in rs n) 0) (lows_of rs n 2) []) _ (ready-placed scale rs n g _ Stsz)

    offsets-given : (b : Bool) → wide_in scale rs n ≡ b → Gives (chunking.offsets_of scale rs n (words_of (chunking.offsets_by b (chunks_in scale rs n)))) (words_of (chunking.offsets_by b (chunks_in scale rs n)))
    unfolding entries_in list_of
    offsets-given b e =
        subst (λ (x : Bool). Gives (chunking.offsets_of scale rs n (words_of (chunking.offsets_by x (chunks_in scale rs n)))) (words_of (chunking.offsets_by x (chunks_in scale rs n)))) e
        (placed-gives (chunking.offsets_by (wide_in scale rs n) (chunks_in scale rs n)) _ (ready-placed scale rs n g _ Offsets))

    stss-given : Gives (builder.stss_of rs n (words_of (builder.syncs_in rs n))) (words_of (builder.syncs_in rs n))
    unfolding entries_in list_of
    stss-given = placed-gives (builder.syncs_in rs n) _ (ready-placed scale rs n g _ Stss)

-- THE BOXES

span-there : (scale : ℕ) (rs : List ℕ) (n : ℕ) (b : Bool) (t : Table) (at : ℕ) (box : List ℕ) → b ≡ true → table_of t scale rs n ≡ box → span_if scale rs n b t at ≡ Some (at, length box * 4)
span-there scale rs n b t at box e q =
    sym (by-true (Some (at, length (table_of t scale rs n) * 4)) None _ b e refl) ∙ ap (λ (x : List ℕ). Some (at, length x * 4)) q

span-absent : (scale : ℕ) (rs : List ℕ) (n : ℕ) (b : Bool) (t : Table) (at : ℕ) → b ≡ false → span_if scale rs n b t at ≡ None
span-absent scale rs n b t at e = sym (by-false (Some (at, length (table_of t scale rs n) * 4)) None _ b e refl)

ctts-written : (rs : List ℕ) (n : ℕ) (b : Bool) → all_meet Zero (column_of rs n 5) ≡ b → is_there Ctts rs n ≡ not b
unfolding is_there
ctts-written rs n b e = ap not e

stss-written : (rs : List ℕ) (n : ℕ) (b : Bool) → eqb n 0 ≡ b → is_there Stss rs n ≡ not b
unfolding is_there
stss-written rs n b e = ap not e

length-groups : (f : ℕ) (rs : List Row) → length (chunking.group_words f rs) ≡ 3 * length rs
length-groups f [] = omega arith
length-groups f (r ∷ rs) = omega (arith, length-groups (f + r.count) rs)

length-wide : (cs : List Chunk) → length (chunking.offsets_by true cs) ≡ 2 * length cs
unfolding chunking.offset_words
length-wide [] = omega arith
length-wide (c ∷ cs) = omega (arith, length-wide cs)

-- the size in common is one of the sizes, of 32 bits each, or 0
common-of-small : (ns : List ℕ) → All Small ns → builder.common_of ns < 2 ^ 32
unfolding when
common-of-small [] nothing = omega arith
common-of-small (x ∷ ns) (each h k) = cases (builder.all_same x ns)
  where
    cases : (b : Bool) → when b x 0 < 2 ^ 32
    cases true = h
    cases false = omega arith

lows-small : (rs : List ℕ) (k n i : ℕ) → All Small (list_from (low_at rs k) n i)
unfolding low_at
lows-small rs k zero i = nothing
lows-small rs k (suc n) i = let h : Small (cell_of rs k i % 2 ^ 32) = omega arith in each h (lows-small rs k n (suc i))

common-small : (rs : List ℕ) (n : ℕ) → builder.common_in rs n < 2 ^ 32
unfolding builder.common_in when
common-small rs n = cases (all_meet Narrow (column_of rs n 2)) (common-of-small (lows_of rs n 2) (lows-small rs 2 n 0))
  where
    cases : (b : Bool) → builder.common_of (lows_of rs n 2) < 2 ^ 32 → when b (builder.common_of (lows_of rs n 2)) 0 < 2 ^ 32
    cases true h = h
    cases false h = omega arith

sizes-many : (rs : List ℕ) (n : ℕ) → length (when (eqb (builder.common_in rs n) 0) (lows_of rs n 2) []) * 4 ≡ when (eqb (builder.common_in rs n) 0) n 0 * 4
unfolding when
sizes-many rs n = cases (eqb (builder.common_in rs n) 0)
  where
    cases : (b : Bool) → length (when b (lows_of rs n 2) []) * 4 ≡ when b n 0 * 4
    cases true = ap (λ (k : ℕ). k * 4) (length-list (low_at rs 2) n 0)
    cases false = refl

-- a box that has a size of 32 bits
Fits32 : List ℕ → Type 0
Fits32 ns = length ns * 4 < 2 ^ 32

fits-box : (a b : List ℕ) → Fits32 a → a ≡ b → length b * 4 < 2 ^ 32
unfolding Fits32
fits-box a b h e = subst (λ (l : List ℕ). length l * 4 < 2 ^ 32) e h

module _ (f : List ℕ) (l : List Sample) (w : All Of64 l) (scale : ℕ) (g : Ready scale (records_of l) (length l)) (at : ℕ) where
  abbrev rs : List ℕ
  rs = records_of l

  abbrev n : ℕ
  n = length l

  stts-at : Fits32 (table_of Stts scale rs n) → Stands f at (words_of (table_of Stts scale rs n)) → (m : _) × BoxAt f (span_if scale rs n true Stts at) (builder.stts_of rs n) (stts.stts_in m)
  stts-at k s =
      let ns = builder.runs_of rs n 4 in
      let e = stts-table scale rs n in
      let b = fits-box _ _ k e in
      let even : length (builder.runs_of rs n 4) ≡ 2 * length (merged_of (lows_of rs n 4)) = length_pairs (merged_of (lows_of rs n 4)) in (
        record { version = 0; flags = 0; count = length ns / 2 },
        box-at f _ (builder.stts_of rs n) _ ns (box_of kinds.stts ((length ns / 2) ∷ ns)) at (stts-given scale rs n g)
            (table-gives kinds.stts (length ns / 2) ns (omega (arith, b)) b (length ns / 2 * 2 * 4) (omega arith))
            (span-there scale rs n true Stts at _ refl e) (subst (λ (x : List ℕ). Stands f at (words_of x)) e s),
      )

  ctts-at : Fits32 (table_of Ctts scale rs n) → Stands f at (words_of (table_of Ctts scale rs n)) → CttsAt f l (span_if scale rs n (is_there Ctts rs n) Ctts at)
  unfolding when
  ctts-at k s = cases (all_meet Zero (column_of rs n 5)) refl
    where
      cases : (b : Bool) → all_meet Zero (column_of rs n 5) ≡ b → CttsAt f l (span_if scale rs n (is_there Ctts rs n) Ctts at)
      cases true q = CttsAt.absent [] (ctts-given scale rs n g true q) (span-absent scale rs n (is_there Ctts rs n) Ctts at (ctts-written rs n true q))
      cases false q =
          let ns = builder.runs_of rs n 5 in
          let e = ctts-table scale rs n q in
          let b = fits-box _ _ k e in
          let even : length (builder.runs_of rs n 5) ≡ 2 * length (merged_of (lows_of rs n 5)) = length_pairs (merged_of (lows_of rs n 5)) in
          CttsAt.present (record { version = 0; flags = 0; count = length ns / 2 })
          (box-at f _ (builder.ctts_of rs n) _ ns (box_of kinds.ctts ((length ns / 2) ∷ ns)) at (ctts-given scale rs n g false q)
          (shifts-gives kinds.ctts (length ns / 2) ns (omega (arith, b)) b (length ns / 2 * 2 * 4) (omega arith))
          (span-there scale rs n (is_there Ctts rs n) Ctts at _ (ctts-written rs n false q) e) (subst (λ (x : List ℕ). Stands f at (words_of x)) e s))

  stsc-fine : rows.entries_of (length (chunking.groups_in scale rs n) / 3) stsc.cells (words_of (chunking.groups_in scale rs n)) 0 0 ≡ (Ok tt)
  stsc-fine =
      let b = chunked-given scale rs n (chunking.groups_in scale rs n) _ _ (stsc-given scale rs n g) in
      let t = fits_both rs n b.fits in
      let same : chunks_in scale rs n ≡ chunks_of scale (pieces_of l) = chunks-samples l scale t.0 t.1 in
      let runs = merged_of (chunking.counts_of (chunks_of scale (pieces_of l))) in
      let c : length (chunking.group_words 1 (merged_of (chunking.counts_of (chunks_of scale (pieces_of l))))) / 3 ≡ length (merged_of (chunking.counts_of (chunks_of scale (pieces_of l)))) = omega (arith, length-groups 1 (merged_of (chunking.counts_of (chunks_of scale (pieces_of l))))) in
      let fit : Fit 1 (merged_of (chunking.counts_of (chunks_of scale (pieces_of l)))) = groups-fit (chunks_of scale (pieces_of l)) (chunks-bounded scale l w) (omega (arith, b.counted, no-more-chunks scale (pieces_of l), length-pieces l)) in
      ap (λ (x : List Chunk). rows.entries_of (length (chunking.group_words 1 (merged_of (chunking.counts_of x))) / 3) stsc.cells (words_of (chunking.group_words 1 (merged_of (chunking.counts_of x)))) 0 0) same
      ∙ ap (λ (k : ℕ). rows.entries_of k stsc.cells (words_of (chunking.group_words 1 runs)) 0 0) c
      ∙ groups-fine runs fit (merged-right (λ (v : ℕ). 0 < v) (chunking.counts_of (chunks_of scale (pieces_of l))) (some-counts (chunks_of scale (pieces_of l)) (some-from scale empty (pieces_of l))))

  stsc-at : Fits32 (table_of Stsc scale rs n) → Stands f at (words_of (table_of Stsc scale rs n)) → (m : _) × BoxAt f (span_if scale rs n true Stsc at) (chunking.stsc_of scale rs n) (stsc.stsc_in m)
  stsc-at k s =
      let ns = chunking.groups_in scale rs n in
      let e = stsc-table scale rs n in
      let b = fits-box _ _ k e in
      let three : length (chunking.groups_in scale rs n) ≡ 3 * length (merged_of (chunking.counts_of (chunks_in scale rs n))) = length-groups 1 (merged_of (chunking.counts_of (chunks_in scale rs n))) in (
        record { version = 0; flags = 0; count = length ns / 3 },
        box-at f _ (chunking.stsc_of scale rs n) _ ns (box_of kinds.stsc ((length ns / 3) ∷ ns)) at (stsc-given scale rs n g)
            (judged-gives kinds.stsc (length ns / 3) ns (omega (arith, b)) b (length ns / 3 * 12) _ (omega arith) stsc-fine)
            (span-there scale rs n true Stsc at _ refl e) (subst (λ (x : List ℕ). Stands f at (words_of x)) e s),
      )

  chunks-at : Fits32 (table_of Offsets scale rs n) → Stands f at (words_of (table_of Offsets scale rs n))
      → ChunksAt f l scale (span_if scale rs n (not (wide_in scale rs n)) Offsets at) (span_if scale rs n (wide_in scale rs n) Offsets at)
  chunks-at k s = cases (wide_in scale rs n) refl
    where
      cases : (b : Bool) → wide_in scale rs n ≡ b → ChunksAt f l scale (span_if scale rs n (not (wide_in scale rs n)) Offsets at) (span_if scale rs n (wide_in scale rs n) Offsets at)
      cases false q =
          let ns = chunking.offsets_by false (chunks_in scale rs n) in
          let e = stco-table scale rs n q in
          let b = fits-box _ _ k e in
          ChunksAt.stco (record { version = 0; flags = 0; count = length ns / 1 }) q (span-absent scale rs n (wide_in scale rs n) Offsets at q)
          (box-at f _ (chunking.offsets_of scale rs n) _ ns (box_of kinds.stco ((length ns / 1) ∷ ns)) at (offsets-given scale rs n g false q)
          (table-gives kinds.stco (length ns / 1) ns (omega (arith, b)) b (length ns / 1 * 4) (omega arith))
          (span-there scale rs n (not (wide_in scale rs n)) Offsets at _ (ap not q) e) (subst (λ (x : List ℕ). Stands f at (words_of x)) e s))
      cases true q =
          let ns = chunking.offsets_by true (chunks_in scale rs n) in
          let e = co64-table scale rs n q in
          let b = fits-box _ _ k e in
          let even : length (chunking.offsets_by true (chunks_in scale rs n)) ≡ 2 * length (chunks_in scale rs n) = length-wide (chunks_in scale rs n) in
          ChunksAt.co64 (record { version = 0; flags = 0; count = length ns / 2 }) q (span-absent scale rs n (not (wide_in scale rs n)) Offsets at (ap not q))
          (box-at f _ (chunking.offsets_of scale rs n) _ ns (box_of kinds.co64 ((length ns / 2) ∷ ns)) at (offsets-given scale rs n g true q)
          (table-gives kinds.co64 (length ns / 2) ns (omega (arith, b)) b (length ns / 2 * 8) (omega arith))
          (span-there scale rs n (wide_in scale rs n) Offsets at _ q e) (subst (λ (x : List ℕ). Stands f at (words_of x)) e s))

  stss-at : Fits32 (table_of Stss scale rs n) → Stands f at (words_of (table_of Stss scale rs n)) → StssAt f l (span_if scale rs n (is_there Stss rs n) Stss at)
  stss-at k s = cases (eqb n 0) refl
    where
      nothing-there : (l : List Sample) → length l ≡ 0 → l ≡ []
      nothing-there [] q = refl
      nothing-there (x ∷ l) q = absurd (omega arith)

      length-flags : (l : List Sample) → length (flags_of l) ≡ length l
      length-flags [] = refl
      length-flags (s ∷ l) = omega (arith, length-flags l)

      cases : (b : Bool) → eqb n 0 ≡ b → StssAt f l (span_if scale rs n (is_there Stss rs n) Stss at)
      cases true q = StssAt.absent (nothing-there l (eqb-true n 0 q)) (span-absent scale rs n (is_there Stss rs n) Stss at (stss-written rs n true q))
      cases false q =
          let ns = builder.syncs_in rs n in
          let e = stss-table scale rs n q in
          let b = fits-box _ _ k e in
          let small : All Small (builder.syncs_from 0 (flags_of l)) = syncs-small 0 (flags_of l) (omega (arith, g.counted, length-flags l)) in
          let fine : rows.entries_of (length (builder.syncs_in rs n)) stss.cells (words_of (builder.syncs_in rs n)) 0 0 ≡ (Ok tt) =
          ap (λ (x : List ℕ). rows.entries_of (length x) stss.cells (words_of x) 0 0) (flags-syncs l) ∙ numbers-fine (builder.syncs_from 0 (flags_of l)) small (syncs-rise 0 0 (flags_of l) (omega arith)) in
          StssAt.present (record { version = 0; flags = 0; count = length ns })
          (box-at f _ (builder.stss_of rs n) _ ns (box_of kinds.stss (length ns ∷ ns)) at (stss-given scale rs n g)
          (judged-gives kinds.stss (length ns) ns (omega (arith, b)) b (length ns * 4) _ refl fine)
          (span-there scale rs n (is_there Stss rs n) Stss at _ (stss-written rs n false q) e) (subst (λ (x : List ℕ). Stands f at (words_of x)) e s))

  stsz-at : Fits32 (table_of Stsz scale rs n) → Stands f at (words_of (table_of Stsz scale rs n)) → StszAt f l (span_if scale rs n true Stsz at)
  stsz-at k s =
      let x = builder.common_in rs n in
      let ns = when (eqb (builder.common_in rs n) 0) (lows_of rs n 2) [] in
      let e = stsz-table scale rs n in
      let b = fits-box _ _ k e in
      record {
        head = record { version = 0; flags = 0; sample_size = x; count = n };
        common = refl;
        many = refl;
        box = box-at f _ (builder.stsz_of rs n) _ ns (box_of kinds.stsz (x ∷ n ∷ ns)) at (stsz-given scale rs n g)
            (sizes-gives kinds.stsz x n ns (common-small rs n) g.counted b (stsz.cells (record { version = 0; flags = 0; sample_size = x; count = n }) * 4) (sizes-many rs n))
            (span-there scale rs n true Stsz at _ refl e) (subst (λ (y : List ℕ). Stands f at (words_of y)) e s);
      }

-- ALL OF THEM

pieces-fit : (a b : List ℕ) → Fits32 (a ++ b) → Fits32 a × Fits32 b
unfolding Fits32
pieces-fit a b h = (omega (arith, length-append a b), omega (arith, length-append a b))

module _ (f : List ℕ) (l : List Sample) (w : All Of64 l) (scale : ℕ) (g : Ready scale (records_of l) (length l)) (at : ℕ) where
  tables-stored : Fits32 (tables_of scale (records_of l) (length l)) → Stands f at (words_of (tables_of scale (records_of l) (length l))) → Stored f l scale (boxes_from scale (records_of l) (length l) at)
  tables-stored k₁ s₁ =
      let T : Table → List ℕ = λ (t : Table). table_of t scale (records_of l) (length l) in
      let r₆ = T Stss in
      let r₅ = T Offsets ++ r₆ in
      let r₄ = T Stsz ++ r₅ in
      let r₃ = T Stsc ++ r₄ in
      let r₂ = T Ctts ++ r₃ in
      let a₂ = at + length (T Stts) * 4 in
      let a₃ = a₂ + length (T Ctts) * 4 in
      let a₄ = a₃ + length (T Stsc) * 4 in
      let a₅ = a₄ + length (T Stsz) * 4 in
      let a₆ = a₅ + length (T Offsets) * 4 in
      let x₁ = split f (T Stts) r₂ at s₁ in
      let y₁ = pieces-fit (T Stts) r₂ k₁ in
      let x₂ = split f (T Ctts) r₃ a₂ x₁.1 in
      let y₂ = pieces-fit (T Ctts) r₃ y₁.1 in
      let x₃ = split f (T Stsc) r₄ a₃ x₂.1 in
      let y₃ = pieces-fit (T Stsc) r₄ y₂.1 in
      let x₄ = split f (T Stsz) r₅ a₄ x₃.1 in
      let y₄ = pieces-fit (T Stsz) r₅ y₃.1 in
      let x₅ = split f (T Offsets) r₆ a₅ x₄.1 in
      let y₅ = pieces-fit (T Offsets) r₆ y₄.1 in
      record {
        stts = stts-at f l w scale g at y₁.0 x₁.0;
        ctts = ctts-at f l w scale g a₂ y₂.0 x₂.0;
        stsc = stsc-at f l w scale g a₃ y₃.0 x₃.0;
        stsz = stsz-at f l w scale g a₄ y₄.0 x₄.0;
        chunks = chunks-at f l w scale g a₅ y₅.0 x₅.0;
        stss = stss-at f l w scale g a₆ y₅.1 x₅.1;
      }

-- the writer does not refuse: no builder does, and these are the bytes
pub record Wrote32 (scale : ℕ) (rs : List ℕ) (n : ℕ) (stsd : List ℕ) (bs : List ℕ) : Type 0 where
  pub ready : Ready scale rs n
  pub small : length (stbl_of scale rs n stsd) < 2 ^ 32
  pub bytes : bs ≡ stbl_of scale rs n stsd

pub written-given : (scale : ℕ) (rs : List ℕ) (n : ℕ) (stsd o out : List ℕ) (k : ℕ) → stbl_in scale rs n stsd o ≡ wrote (Ok k) out → Wrote32 scale rs n stsd (take k out)
written-given scale rs n stsd o out k e =
    let bs = stbl_of scale rs n stsd in
    let x₄ = place o bs in
    let x₃ = when (fits_in rs n) x₄ (wrote (Err refusal.Unwritable) o) in
    let x₂ = when (ltb n (2 ^ 32)) x₃ (wrote (Err refusal.Unwritable) o) in
    let a = not-refused-first (eqb scale 0) (when (leb (n * 7) (length rs)) x₂ (wrote (Err (refusal.NoSample n)) o)) (refusal.Value 0) k o out e in
    let b = not-refused (leb (n * 7) (length rs)) x₂ (refusal.NoSample n) k o out a.1 in
    let c = not-refused (ltb n (2 ^ 32)) x₃ refusal.Unwritable k o out b.1 in
    let d = not-refused (fits_in rs n) x₄ refusal.Unwritable k o out c.1 in
    let x₅ = when (ltb (length o) (length bs)) (wrote (Err (refusal.TooSmall (length bs))) o) (wrote (Ok (length bs)) (bs ++ drop (length bs) o)) in
    let p = not-refused-first (ltb (2 ^ 32 - 1) (length bs)) x₅ refusal.Unwritable k o out d.1 in
    let q = not-refused-first (ltb (length o) (length bs)) (wrote (Ok (length bs)) (bs ++ drop (length bs) o)) (refusal.TooSmall (length bs)) k o out p.1 in
    let h : length (stbl_of scale rs n stsd) ≤ 2 ^ 32 - 1 = ltb-false (2 ^ 32 - 1) (length (stbl_of scale rs n stsd)) p.0 in
    let r = q.1 in
    let same : length (stbl_of scale rs n stsd) ≡ k = cc in
    let buffer : stbl_of scale rs n stsd ++ drop (length (stbl_of scale rs n stsd)) o ≡ out = cc in
    record {
      ready = record { scaled = eqb-false scale 0 a.0; there = leb-true (n * 7) (length rs) b.0; counted = ltb-true n (2 ^ 32) c.0; fits = d.0 };
      small = omega arith;
      bytes = ap (take k) (sym buffer) ∙ take_at bs (drop (length bs) o) k same;
    }

-- The theorem of the sample table's writer: for every list of samples, numbered from 1 and each at the sum of the durations
-- before it, that the writer does not refuse: where the bytes that it wrote stand in a file, the track that is read from
-- the boxes there lists exactly these samples. `boxes_at` says where the boxes are.
module _ (f : List ℕ) (h : length f < 2 ^ 64) (l : List Sample) (w : All Of64 l) (m : Numbered 0 0 l) (scale : ℕ) (stsd o out : List ℕ) (k start : ℕ) where
  pub written-reads-back : stbl_in scale (records_of l) (length l) stsd o ≡ wrote (Ok k) out → Stands f start (take k out)
      → (t : Track) × (track_of f (boxes_at start scale (records_of l) (length l) stsd) ≡ Ok t) × (samples_of f t ≡ l)
  unfolding Fits32
  written-reads-back e s =
      let x = written-given scale (records_of l) (length l) stsd o out k e in
      let ws = words_of (tables_of scale (records_of l) (length l)) in
      let size = 8 + 0 + length (stsd ++ ws) in
      let head = bytes 4 size ++ bytes 4 kinds.stbl ++ [] in
      let lh : length (bytes 4 (8 + 0 + length (stsd ++ words_of (tables_of scale (records_of l) (length l)))) ++ bytes 4 kinds.stbl ++ []) ≡ 8 =
      length-append (bytes 4 size ++ bytes 4 kinds.stbl) [] ∙ (let z : length (bytes 4 (8 + 0 + length (stsd ++ words_of (tables_of scale (records_of l) (length l)))) ++ bytes 4 kinds.stbl) + 0 ≡ 8 = omega (arith, length-append (bytes 4 size) (bytes 4 kinds.stbl), length-bytes 4 size, length-bytes 4 kinds.stbl) in z) in
      let s₀ : Stands f start (head ++ (stsd ++ ws)) = subst (λ (b : List ℕ). Stands f start b) x.bytes s in
      let s₁ : Stands f (start + 8) (stsd ++ ws) = stands-right f head (stsd ++ ws) start (start + 8) (ap (λ (y : ℕ). start + y) (sym lh)) s₀ in
      let s₂ : Stands f (start + (8 + length stsd)) ws = stands-right f stsd ws (start + 8) (start + (8 + length stsd)) (omega arith) s₁ in
      let fit : length (tables_of scale (records_of l) (length l)) * 4 < 2 ^ 32 =
      omega (arith, x.small, length-append head (stsd ++ ws), length-append stsd ws, length-words (tables_of scale (records_of l) (length l))) in
      stored-reads-back f h l w scale (boxes_at start scale (records_of l) (length l) stsd) m (tables-stored f l w scale x.ready (start + (8 + length stsd)) fit s₂)
