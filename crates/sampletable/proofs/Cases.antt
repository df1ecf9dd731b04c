-- What is asked of a table, table by table. Assumes nothing.
use Rattle.std.specs.Prelude.{Result, Ok, Err}
use Prim.Native.Nat.{ℕ, ◌-◌, ◌*◌, ◌/◌}
use mathlib.Core.Path.{◌≡◌, refl, sym, ap, ◌∙◌}
use mathlib.Core.List.{List, []}
use mathlib.Core.Bool.{Bool, true, false, not}
use native.Mathlib.Omega.{arith}
use mathlib.Core.Logic.{⊎_elim}
use lib.ListN.{length}
use lib.Seq.{sets}
use lib.Dec.{eqb, leb}
use Rattle.numbers.specs.Field.{when}
use Rattle.numbers.specs.declared.Refusal.TheVariants as refusal
use Rattle.numbers.proofs.Chain.{way, by-true, by-false, is_ne}
use Rattle.put.specs.Put.{Wrote, wrote}
use Rattle.places.specs.Kinds as kinds
use Rattle.columns.specs.declared.Rule.TheVariants.{Zero, Narrow, Signed}
use Rattle.columns.specs.Columns.{column_of, lows_of, all_meet}
use Rattle.columns.specs.Entries.{words_of, placed_of}
use Rattle.columns.proofs.Written.{built}
use Rattle.builder.specs.Built as builder
use Rattle.chunking.specs.Chunking.{chunks_in}
use Rattle.chunking.specs.Entries as chunking
use Rattle.sampletable.specs.declared.Table.{Table}
use Rattle.sampletable.specs.declared.Table.TheVariants.{Stts, Ctts, Stsc, Stsz, Offsets, Stss}
use Rattle.sampletable.specs.SampleTable.{wide_in, list_of, fits_in, per_of, kind_of, is_there, first_of}
use Rattle.sampletable.specs.Inside.{Ready, told_by, entries_in}
use Rattle.numbers.specs.declared.Refusal.{Refusal}

module _ (t : Table) (scale : ℕ) (rs : List ℕ) (n : ℕ) (o : List ℕ) (x : Wrote) where
  pub by-stts : t ≡ Stts → x ≡ builder.stts_of rs n o → x ≡ entries_in t scale rs n o
  unfolding entries_in
  by-stts e q = q ∙ sym (ap (λ (t : Table). entries_in t scale rs n o) e)

  pub by-ctts : t ≡ Ctts → x ≡ builder.ctts_of rs n o → x ≡ entries_in t scale rs n o
  unfolding entries_in
  by-ctts e q = q ∙ sym (ap (λ (t : Table). entries_in t scale rs n o) e)

  pub by-stsc : t ≡ Stsc → x ≡ chunking.stsc_of scale rs n o → x ≡ entries_in t scale rs n o
  unfolding entries_in
  by-stsc e q = q ∙ sym (ap (λ (t : Table). entries_in t scale rs n o) e)

  pub by-stsz : t ≡ Stsz → x ≡ builder.stsz_of rs n o → x ≡ entries_in t scale rs n o
  unfolding entries_in
  by-stsz e q = q ∙ sym (ap (λ (t : Table). entries_in t scale rs n o) e)

  pub by-offsets : t ≡ Offsets → x ≡ chunking.offsets_of scale rs n o → x ≡ entries_in t scale rs n o
  unfolding entries_in
  by-offsets e q = q ∙ sym (ap (λ (t : Table). entries_in t scale rs n o) e)

  pub by-stss : t ≡ Stss → x ≡ builder.stss_of rs n o → x ≡ entries_in t scale rs n o
  unfolding entries_in
  by-stss e q = q ∙ sym (ap (λ (t : Table). entries_in t scale rs n o) e)

-- a table that is told to be one of them
module _ (t s : Table) (e : t ≡ s) where
  pub the-kind : (wide : Bool) (k : ℕ) → k ≡ kind_of s wide → k ≡ kind_of t wide
  the-kind wide k q = q ∙ sym (ap (λ (t : Table). kind_of t wide) e)

  pub the-first : (wide : Bool) (rs : List ℕ) (n many k : ℕ) → k ≡ first_of s wide rs n many → k ≡ first_of t wide rs n many
  the-first wide rs n many k q = q ∙ sym (ap (λ (t : Table). first_of t wide rs n many) e)

  pub is-there : (rs : List ℕ) (n : ℕ) (b : Bool) → b ≡ is_there s rs n → b ≡ is_there t rs n
  is-there rs n b q = q ∙ sym (ap (λ (t : Table). is_there t rs n) e)

pub kinds-are : (wide : Bool) → (kinds.stts ≡ kind_of Stts wide) × (kinds.ctts ≡ kind_of Ctts wide) × (kinds.stsc ≡ kind_of Stsc wide) × (kinds.stsz ≡ kind_of Stsz wide) × (kinds.stss ≡ kind_of Stss wide)
unfolding kind_of
kinds-are wide = (refl, refl, refl, refl, refl)

pub wide-kind : (wide : Bool) → wide ≡ true → kinds.co64 ≡ kind_of Offsets wide
unfolding kind_of
wide-kind wide e = by-true kinds.co64 kinds.stco kinds.co64 wide e refl

pub narrow-kind : (wide : Bool) → wide ≡ false → kinds.stco ≡ kind_of Offsets wide
unfolding kind_of
narrow-kind wide e = by-false kinds.co64 kinds.stco kinds.stco wide e refl

pub firsts-are : (wide : Bool) (rs : List ℕ) (n many : ℕ) →
    (many / 2 ≡ first_of Stts wide rs n many) × (many / 2 ≡ first_of Ctts wide rs n many) × (many / 3 ≡ first_of Stsc wide rs n many) × (builder.common_in rs n ≡ first_of Stsz wide rs n many) × (many ≡ first_of Stss wide rs n many)
unfolding first_of
firsts-are wide rs n many = (refl, refl, refl, refl, refl)

pub wide-first : (wide : Bool) (rs : List ℕ) (n many : ℕ) → wide ≡ true → many / 2 ≡ first_of Offsets wide rs n many
unfolding first_of per_of when
wide-first wide rs n many e = sym (ap (λ (b : Bool). many / when b 2 1) e)

pub narrow-first : (wide : Bool) (rs : List ℕ) (n many : ℕ) → wide ≡ false → many ≡ first_of Offsets wide rs n many
unfolding first_of per_of when
narrow-first wide rs n many e = let q : many ≡ many / 1 = omega arith in q ∙ sym (ap (λ (b : Bool). many / when b 2 1) e)

pub always : (rs : List ℕ) (n : ℕ) → (true ≡ is_there Stts rs n) × (true ≡ is_there Stsc rs n) × (true ≡ is_there Stsz rs n) × (true ≡ is_there Offsets rs n)
unfolding is_there
always rs n = (refl, refl, refl, refl)

pub ctts-there : (rs : List ℕ) (n : ℕ) (b : Bool) → b ≡ all_meet Zero (column_of rs n 5) → not b ≡ is_there Ctts rs n
unfolding is_there
ctts-there rs n b e = ap not e

pub stss-there : (rs : List ℕ) (n : ℕ) → not (eqb n 0) ≡ is_there Stss rs n
unfolding is_there
stss-there rs n = refl

-- NO BUILDER REFUSES

both-fit : (rs : List ℕ) (n : ℕ) → fits_in rs n ≡ true → (chunking.fits_in rs n ≡ true) × (all_meet Signed (column_of rs n 5) ≡ true)
unfolding fits_in
both-fit rs n e = ⊎_elim (λ y. y) (λ y. lost y.1) (way (chunking.fits_in rs n) (all_meet Signed (column_of rs n 5)) false true e)
  where
    lost : false ≡ true → (chunking.fits_in rs n ≡ true) × (all_meet Signed (column_of rs n 5) ≡ true)
    lost f = let z : ◌≡◌ {A = ℕ} 0 1 = cc in absurd (omega arith)

narrow-fit : (rs : List ℕ) (n : ℕ) → chunking.fits_in rs n ≡ true → (all_meet Narrow (column_of rs n 2) ≡ true) × (all_meet Narrow (column_of rs n 4) ≡ true)
unfolding chunking.fits_in
narrow-fit rs n e = ⊎_elim (λ y. y) (λ y. lost y.1) (way (all_meet Narrow (column_of rs n 2)) (all_meet Narrow (column_of rs n 4)) false true e)
  where
    lost : false ≡ true → (all_meet Narrow (column_of rs n 2) ≡ true) × (all_meet Narrow (column_of rs n 4) ≡ true)
    lost f = let z : ◌≡◌ {A = ℕ} 0 1 = cc in absurd (omega arith)

module _ (scale : ℕ) (rs : List ℕ) (n : ℕ) (g : Ready scale rs n) (o : List ℕ) where
  chunked : (ns : List ℕ) → chunking.chunked_of scale rs n ns o ≡ placed_of ns o
  chunked ns =
      sym (is_ne _ _ _ scale 0 g.scaled (built rs n (chunking.fits_in rs n) ns o (placed_of ns o) g.there g.counted (both-fit rs n g.fits).0 refl))

  -- a builder places its entries
  pub ready-placed : (t : Table) → entries_in t scale rs n o ≡ placed_of (list_of t scale rs n) o
  unfolding entries_in list_of
  ready-placed Stts = sym (built rs n _ (builder.runs_of rs n 4) o _ g.there g.counted (narrow-fit rs n (both-fit rs n g.fits).0).1 refl)
  ready-placed Ctts = sym (built rs n _ (when (all_meet Zero (column_of rs n 5)) [] (builder.runs_of rs n 5)) o _ g.there g.counted (both-fit rs n g.fits).1 refl)
  ready-placed Stsc = chunked (chunking.groups_in scale rs n)
  ready-placed Stsz = sym (built rs n _ (when (eqb (builder.common_in rs n) 0) (lows_of rs n 2) []) o _ g.there g.counted (narrow-fit rs n (both-fit rs n g.fits).0).0 refl)
  ready-placed Offsets = chunked (chunking.offsets_by (wide_in scale rs n) (chunks_in scale rs n))
  ready-placed Stss = sym (built rs n true (builder.syncs_in rs n) o _ g.there g.counted refl refl)

-- the length that it tells is that of the entries
pub told-length : (ns o q : List ℕ) (r : Result ℕ Refusal) (k : ℕ) → wrote r q ≡ placed_of ns o → k ≡ told_by r → k ≡ length ns * 4
unfolding placed_of
told-length ns o q r k e f =
    ⊎_elim
    (λ y. let a : r ≡ Ok (length ns * 4) = put_of _ _ _ _ y.1 in f ∙ ap told_by a)
    (λ y. let a : r ≡ Err (refusal.TooSmall (length ns * 4)) = put_of _ _ _ _ y.1 in f ∙ ap told_by a)
    (way (leb (length ns * 4) (length o)) (wrote (Ok (length ns * 4)) (sets o 0 (words_of ns))) (wrote (Err (refusal.TooSmall (length ns * 4))) o) (wrote r q) (sym e))
  where
    put_of : (a b : Result ℕ Refusal) (x y : List ℕ) → wrote a x ≡ wrote b y → b ≡ a
    put_of a b x y h = cc
