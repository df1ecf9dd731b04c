-- The builder's theorem: samples that are stored in a file, and read back, are just these samples. Assumes nothing.
use Rattle.std.specs.Prelude.{Result, Option, Ok, Err}
use Prim.Native.Nat.{ℕ, ◌+◌, ◌-◌, ◌^◌, ◌<◌}
use mathlib.Core.Path.{◌≡◌, refl, sym, ap, ap₂, subst, ◌∙◌}
use mathlib.Core.List.{List, []}
use mathlib.Core.Bool.{Bool}
use native.Mathlib.Omega.{arith}
use lib.ListN.{length}
use Rattle.samples.specs.declared.Sample.{Sample}
use Rattle.samples.specs.Records.{records_of}
use Rattle.tables.specs.Tables.{listed, values_of, pairs, group_at, groups, chunks, sizes, shifts, syncs, those}
use Rattle.tables.specs.Samples.{place, zipped, samples_of}
use Rattle.tables.specs.declared.Table.{Table}
use Rattle.tables.specs.declared.Track.{Track}
use Rattle.places.specs.Kinds as kinds
use Rattle.rows.specs.Judge.{settle}
use Rattle.merging.specs.Merging.{merged_of}
use Rattle.merging.proofs.Rows.{All}
use Rattle.builder.specs.Built as builder
use Rattle.builder.specs.Built.{syncs_from}
use Rattle.builder.proofs.Back.{sizes_of, durations_of, flags_of, Numbered}
use Rattle.chunking.specs.Chunking.{chunks_of}
use Rattle.chunking.specs.Entries as chunking
use Rattle.chunking.proofs.Back.{places_of, entries_of}
use Rattle.chunking.proofs.Whole as whole
use Rattle.chunking.proofs.Whole.{pieces_of}
use Rattle.stts.specs.Stts as stts
use Rattle.stsc.specs.Stsc as stsc
use Rattle.stss.specs.Stss as stss
use Rattle.stbl.specs.Stbl.{stts_at, ctts_at, stsc_at, stsz_at, stco_at, stss_at, chunks_at, read_all, fault_in, missing, first_wrong, faults, lacks, entries_in, table_in, optional_in, is_there, built, track_of}
use Rattle.stbl.specs.declared.Boxes.{Boxes}
use Rattle.built.specs.Written.{Of64}
use Rattle.built.specs.Stored.{BoxAt, CttsAt, StszAt, StssAt, ChunksAt, Stored}
use Rattle.built.proofs.Boxes.{no-fault, not-missing, table-is-there, optional-is-there, common-is-there}
use Rattle.built.proofs.Readings.{stts-found, ctts-found, stsc-found, stsz-found, stco-found, co64-found, stss-found}
use Rattle.built.proofs.Tells.{stts-tells, ctts-tells, ctts-none, stsc-tells, stsz-tells, stco-tells, co64-tells, stss-tells, Shifted, zeros, shifted}
use Rattle.numbers.specs.declared.Refusal.{Refusal}

module _ (f : List ℕ) (h : length f < 2 ^ 64) (l : List Sample) (w : All Of64 l) where
  stts-back : (s : Option (ℕ × ℕ)) (m : _) → BoxAt f s (builder.stts_of (records_of l) (length l)) (stts.stts_in m) →
      (fault_in (stts_at f s) ≡ (Ok tt)) × (missing kinds.stts (stts_at f s) ≡ (Ok tt)) × (pairs f (table_in (stts_at f s)) ≡ merged_of (durations_of l))
  stts-back s m x =
      let y = stts-found f h s (builder.stts_of (records_of l) (length l)) m x in (
        ap fault_in y.is ∙ no-fault y.start y.place m.count 0 y.reach,
        ap (missing kinds.stts) y.is ∙ not-missing y.start y.place m.count 0 y.reach kinds.stts,
        ap (pairs f) (ap table_in y.is ∙ table-is-there y.start y.place m.count 0 y.reach)
            ∙ stts-tells l f x.room x.entries (y.start + y.place) m.count y.stands x.built (omega (arith, y.many)),
      )

  ctts-back : (s : Option (ℕ × ℕ)) → CttsAt f l s → (fault_in (ctts_at f s) ≡ (Ok tt)) × Shifted l (shifts f (optional_in (ctts_at f s)))
  ctts-back s (CttsAt.absent room g e) =
      (ap (λ (x : Option (ℕ × ℕ)). fault_in (ctts_at f x)) e, subst (λ (x : Option (ℕ × ℕ)). Shifted l (shifts f (optional_in (ctts_at f x)))) (sym e) (ctts-none l w room [] g refl))
  ctts-back s (CttsAt.present m x) =
      let y = ctts-found f h s (builder.ctts_of (records_of l) (length l)) m x in (
        ap fault_in y.is ∙ no-fault y.start y.place m.count 0 y.reach,
        subst (λ (o : Option Table). Shifted l (shifts f o)) (sym (ap optional_in y.is ∙ optional-is-there y.start y.place m.count 0 y.reach))
            (ctts-tells l w x.room x.entries x.built f (y.start + y.place) m.count y.stands (omega (arith, y.many))),
      )

  stsz-back : (s : Option (ℕ × ℕ)) → StszAt f l s →
      (fault_in (stsz_at f s) ≡ (Ok tt)) × (missing kinds.stsz (stsz_at f s) ≡ (Ok tt))
      × (sizes f (record { at = (entries_in (stsz_at f s)).at; count = (entries_in (stsz_at f s)).count; common = (entries_in (stsz_at f s)).common }) ≡ sizes_of l)
  stsz-back s z =
      let x = z.box in
      let m = z.head in
      let y = stsz-found f h s (builder.stsz_of (records_of l) (length l)) m x in (
        ap fault_in y.is ∙ no-fault y.start y.place m.count m.sample_size y.reach,
        ap (missing kinds.stsz) y.is ∙ not-missing y.start y.place m.count m.sample_size y.reach kinds.stsz,
        ap₂ (λ (t : Table) (c : ℕ). sizes f (record { at = t.at; count = t.count; common = c }))
            (ap table_in y.is ∙ table-is-there y.start y.place m.count m.sample_size y.reach)
            (ap (λ r. (entries_in r).common) y.is ∙ common-is-there y.start y.place m.count m.sample_size y.reach)
            ∙ ap₂ (λ (n c : ℕ). sizes f (record { at = y.start + y.place; count = n; common = c })) z.many z.common
            ∙ stsz-tells l f x.room x.entries (y.start + y.place) y.stands x.built,
      )

  stss-back : (s : Option (ℕ × ℕ)) (m : _) → BoxAt f s (builder.stss_of (records_of l) (length l)) (stss.stss_in m) →
      (fault_in (stss_at f s) ≡ (Ok tt)) × (syncs f (optional_in (stss_at f s)) ≡ those (syncs_from 0 (flags_of l)))
  stss-back s m x =
      let y = stss-found f h s (builder.stss_of (records_of l) (length l)) m x in (
        ap fault_in y.is ∙ no-fault y.start y.place m.count 0 y.reach,
        ap (syncs f) (ap optional_in y.is ∙ optional-is-there y.start y.place m.count 0 y.reach)
            ∙ ap those (stss-tells l f x.room x.entries (y.start + y.place) m.count y.stands x.built (sym y.many)),
      )

  module _ (scale : ℕ) where
    stsc-back : (s : Option (ℕ × ℕ)) (m : _) → BoxAt f s (chunking.stsc_of scale (records_of l) (length l)) (stsc.stsc_in m) →
        (fault_in (stsc_at f s) ≡ (Ok tt)) × (missing kinds.stsc (stsc_at f s) ≡ (Ok tt))
        × (listed (group_at f (table_in (stsc_at f s)).at) (table_in (stsc_at f s)).count ≡ entries_of 1 (merged_of (chunking.counts_of (chunks_of scale (pieces_of l)))))
    stsc-back s m x =
        let y = stsc-found f h s (chunking.stsc_of scale (records_of l) (length l)) m x in (
          ap fault_in y.is ∙ no-fault y.start y.place m.count 0 y.reach,
          ap (missing kinds.stsc) y.is ∙ not-missing y.start y.place m.count 0 y.reach kinds.stsc,
          ap (λ (t : Table). listed (group_at f t.at) t.count) (ap table_in y.is ∙ table-is-there y.start y.place m.count 0 y.reach)
              ∙ stsc-tells scale l w f x.room x.entries (y.start + y.place) m.count y.stands x.built (sym y.many),
        )

    chunks-back : (narrow wide : Option (ℕ × ℕ)) → ChunksAt f l scale narrow wide →
        (fault_in (chunks_at f narrow wide) ≡ (Ok tt)) × (missing kinds.stco (chunks_at f narrow wide) ≡ (Ok tt))
        × (chunks f (record { at = (entries_in (chunks_at f narrow wide)).at; count = (entries_in (chunks_at f narrow wide)).count; wide = is_there wide }) ≡ places_of (chunks_of scale (pieces_of l)))
        × ((entries_in (chunks_at f narrow wide)).count ≡ length (chunks_of scale (pieces_of l)))
    chunks-back narrow wide (ChunksAt.stco m near e x) =
        let y = stco-found f h narrow (chunking.offsets_of scale (records_of l) (length l)) m x in
        let r = ap₂ (λ (a b : Option (ℕ × ℕ)). chunks_at f a b) x.spanned e ∙ sym (ap (stco_at f) x.spanned) ∙ y.is in
        let t = stco-tells scale l w f x.room x.entries (y.start + y.place) m.count y.stands x.built near (sym y.many) in
        let a = ap table_in r ∙ table-is-there y.start y.place m.count 0 y.reach in (
          ap fault_in r ∙ no-fault y.start y.place m.count 0 y.reach,
          ap (missing kinds.stco) r ∙ not-missing y.start y.place m.count 0 y.reach kinds.stco,
          ap₂ (λ (t : Table) (b : Bool). chunks f (record { at = t.at; count = t.count; wide = b })) a (ap is_there e) ∙ t.0,
          ap (λ (t : Table). t.count) a ∙ t.1,
        )
    chunks-back narrow wide (ChunksAt.co64 m far e x) =
        let y = co64-found f h wide (chunking.offsets_of scale (records_of l) (length l)) m x in
        let r = ap (λ (a : Option (ℕ × ℕ)). chunks_at f a wide) e ∙ y.is in
        let t = co64-tells scale l w f x.room x.entries (y.start + y.place) m.count y.stands x.built far (sym y.many) in
        let a = ap table_in r ∙ table-is-there y.start y.place m.count 0 y.reach in (
          ap fault_in r ∙ no-fault y.start y.place m.count 0 y.reach,
          ap (missing kinds.stco) r ∙ not-missing y.start y.place m.count 0 y.reach kinds.stco,
          ap₂ (λ (t : Table) (b : Bool). chunks f (record { at = t.at; count = t.count; wide = b })) a (ap is_there x.spanned) ∙ t.0,
          ap (λ (t : Table). t.count) a ∙ t.1,
        )

-- ALL OF THEM

both-fine : (a b : Result (Unit {0}) Refusal) → a ≡ (Ok tt) → b ≡ (Ok tt) → first_wrong a b ≡ (Ok tt)
both-fine a b e q = ap₂ first_wrong e q

module _ (f : List ℕ) (h : length f < 2 ^ 64) (l : List Sample) (w : All Of64 l) (scale : ℕ) (b : Boxes) (n : Numbered 0 0 l) where
  abbrev track : Track
  track = built (read_all f b) (is_there b.co64)

  module _ (g : Stored f l scale b) where
    is-track : fault_in (stss_at f b.stss) ≡ (Ok tt) → track_of f b ≡ Ok track
    is-track e =
        let one = stts-back f h l w b.stts g.stts.0 g.stts.1 in
        let two = ctts-back f h l w b.ctts g.ctts in
        let three = stsc-back f h l w scale b.stsc g.stsc.0 g.stsc.1 in
        let four = stsz-back f h l w b.stsz g.stsz in
        let five = chunks-back f h l w scale b.stco b.co64 g.chunks in
        let no-faults : faults (read_all f b) ≡ (Ok tt) =
        both-fine _ _ one.0 (both-fine _ _ two.0 (both-fine _ _ three.0 (both-fine _ _ four.0 (both-fine _ _ five.0 e)))) in
        let none-lacks : lacks (read_all f b) ≡ (Ok tt) = both-fine _ _ one.1 (both-fine _ _ three.1 (both-fine _ _ four.1 five.1)) in
        ap (settle (Ok track) Err) (both-fine (faults (read_all f b)) (lacks (read_all f b)) no-faults none-lacks)

    tells : syncs f (optional_in (stss_at f b.stss)) ≡ those (syncs_from 0 (flags_of l)) → samples_of f track ≡ l
    tells e = cases (ctts-back f h l w b.ctts g.ctts).1
      where
        holds : whole.Holds f track scale l
        holds =
            let one = stts-back f h l w b.stts g.stts.0 g.stts.1 in
            let three = stsc-back f h l w scale b.stsc g.stsc.0 g.stsc.1 in
            let four = stsz-back f h l w b.stsz g.stsz in
            let five = chunks-back f h l w scale b.stco b.co64 g.chunks in
            record { stsz = four.2; stts = one.2; stsc = three.2; stco = five.2; many = five.3; stss = e }

        cases : Shifted l (shifts f track.ctts) → samples_of f track ≡ l
        cases (zeros z q) = whole.built-track-absent f track scale l holds q n z
        cases (shifted z q) = whole.built-track f track scale l holds q n z

  -- for every list of samples, numbered from 1 and each at the sum of the durations before it: where they are stored and no
  -- writer refuses, the track that is read lists exactly these samples
  pub stored-reads-back : Stored f l scale b → (t : Track) × (track_of f b ≡ Ok t) × (samples_of f t ≡ l)
  stored-reads-back g = cases g.stss
    where
      cases : StssAt f l b.stss → (t : Track) × (track_of f b ≡ Ok t) × (samples_of f t ≡ l)
      cases (StssAt.absent e q) =
          let s : sizes f track.stsz ≡ [] = (stsz-back f h l w b.stsz g.stsz).2 ∙ ap sizes_of e in
          let none : samples_of f track ≡ [] =
          ap (λ (x : List ℕ). zipped 0 0 x (values_of (pairs f track.stts)) (place (values_of (groups f track.stsc track.stco.count)) (chunks f track.stco) (sizes f track.stsz)) (shifts f track.ctts) (syncs f track.stss)) s in
          (track, is-track g (ap (λ (x : Option (ℕ × ℕ)). fault_in (stss_at f x)) q), none ∙ sym e)
      cases (StssAt.present m x) =
          let y = stss-back f h l w b.stss m x in
          (track, is-track g y.0, tells g y.1)
