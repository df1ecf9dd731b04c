-- The tables of a track, built from its samples, tell just these samples. Assumes nothing.
use Prim.Native.Nat.{ℕ}
use mathlib.Core.Path.{◌≡◌, refl, sym, ap, ap₂, ◌∙◌}
use mathlib.Core.List.{List, [], ◌∷◌}
use lib.ListN.{length}
use Rattle.samples.specs.declared.Sample.{Sample}
use Rattle.tables.specs.Tables.{Group, Syncs, listed, values_of, pairs, group_at, groups, chunks, sizes, shifts, syncs, chunk_runs, those}
use Rattle.tables.specs.Samples.{place, zipped, samples_of}
use Rattle.tables.specs.declared.Row.{Row}
use Rattle.tables.specs.declared.Track.{Track}
use Rattle.merging.specs.Merging.{merged_of}
use Rattle.builder.specs.Built.{syncs_from}
use Rattle.builder.proofs.Back as built
use Rattle.chunking.specs.declared.Chunk.{Chunk}
use Rattle.chunking.specs.Chunking.{Piece, piece, chunks_of}
use Rattle.chunking.specs.Entries.{counts_of}
use Rattle.chunking.proofs.Back.{places_of, sizes_of, offsets_in, entries_of, placed-back}

-- what the chunks ask of the samples
abbrev pub pieces_of : List Sample → List Piece
pieces_of [] = []
pieces_of (s ∷ l) = piece s.offset s.size s.duration ∷ pieces_of l

same-sizes : (l : List Sample) → sizes_of (pieces_of l) ≡ built.sizes_of l
same-sizes [] = refl
same-sizes (s ∷ l) = ap (λ (x : List ℕ). s.size ∷ x) (same-sizes l)

same-offsets : (l : List Sample) → offsets_in (pieces_of l) ≡ built.offsets_of l
same-offsets [] = refl
same-offsets (s ∷ l) = ap (λ (x : List ℕ). s.offset ∷ x) (same-offsets l)

-- where the samples lie, by the entries of stsc and stco or co64 that are built for a timescale
abbrev pub places_in : ℕ → List Sample → List ℕ
places_in t l =
    place (values_of (chunk_runs (length (chunks_of t (pieces_of l))) (entries_of 1 (merged_of (counts_of (chunks_of t (pieces_of l)))))))
    (places_of (chunks_of t (pieces_of l))) (built.sizes_of l)

places-are : (t : ℕ) (l : List Sample) → places_in t l ≡ built.offsets_of l
places-are t l =
    ap (place (values_of (chunk_runs (length (chunks_of t (pieces_of l))) (entries_of 1 (merged_of (counts_of (chunks_of t (pieces_of l))))))) (places_of (chunks_of t (pieces_of l)))) (sym (same-sizes l))
    ∙ placed-back t (pieces_of l) ∙ same-offsets l

-- samples that are numbered from 1, each at the sum of the durations before it, are told by the tables built from them
pub track-back : (t : ℕ) (l : List Sample) → built.Numbered 0 0 l → built.Narrow l →
    zipped 0 0 (built.sizes_of l) (values_of (merged_of (built.durations_of l))) (places_in t l) (values_of (merged_of (built.shifts_of l))) (those (syncs_from 0 (built.flags_of l))) ≡ l
track-back t l n w = built.samples-back l (places_in t l) n w (places-are t l)

-- and without ctts, where all composition offsets are 0
pub track-back-absent : (t : ℕ) (l : List Sample) → built.Numbered 0 0 l → built.Zero l →
    zipped 0 0 (built.sizes_of l) (values_of (merged_of (built.durations_of l))) (places_in t l) [] (those (syncs_from 0 (built.flags_of l))) ≡ l
track-back-absent t l n w = built.samples-back-absent l (places_in t l) n w (places-are t l)

-- a track whose tables hold in a file what is built from samples, for a timescale: `pairs-back`, `numbers-back`,
-- `sizes-back` and `common-back` of builder, `groups-back`, `narrow_back` and `wide_back` say it of the entries' bytes
pub record Holds (f : List ℕ) (t : Track) (scale : ℕ) (l : List Sample) : Type 0 where
  pub stsz : sizes f t.stsz ≡ built.sizes_of l
  pub stts : pairs f t.stts ≡ merged_of (built.durations_of l)
  pub stsc : listed (group_at f t.stsc.at) t.stsc.count ≡ entries_of 1 (merged_of (counts_of (chunks_of scale (pieces_of l))))
  pub stco : chunks f t.stco ≡ places_of (chunks_of scale (pieces_of l))
  pub many : t.stco.count ≡ length (chunks_of scale (pieces_of l))
  pub stss : syncs f t.stss ≡ those (syncs_from 0 (built.flags_of l))

module _ (f : List ℕ) (t : Track) (scale : ℕ) (l : List Sample) (h : Holds f t scale l) where
  lie : place (values_of (groups f t.stsc t.stco.count)) (chunks f t.stco) (sizes f t.stsz) ≡ places_in scale l
  lie =
      ap₂ (λ (n : ℕ) (g : List Group). place (values_of (chunk_runs n g)) (chunks f t.stco) (sizes f t.stsz)) h.many h.stsc
      ∙ ap₂ (λ (c s : List ℕ). place (values_of (chunk_runs (length (chunks_of scale (pieces_of l))) (entries_of 1 (merged_of (counts_of (chunks_of scale (pieces_of l))))))) c s) h.stco h.stsz

  told : (cs : List ℕ) → shifts f t.ctts ≡ cs →
      samples_of f t ≡ zipped 0 0 (built.sizes_of l) (values_of (merged_of (built.durations_of l))) (places_in scale l) cs (those (syncs_from 0 (built.flags_of l)))
  told cs e =
      ap₂ (λ (p : List ℕ) (s : List ℕ). zipped 0 0 s (values_of (pairs f t.stts)) p (shifts f t.ctts) (syncs f t.stss)) lie h.stsz
      ∙ ap₂ (λ (d : List Row) (y : Syncs). zipped 0 0 (built.sizes_of l) (values_of d) (places_in scale l) (shifts f t.ctts) y) h.stts h.stss
      ∙ ap (λ (c : List ℕ). zipped 0 0 (built.sizes_of l) (values_of (merged_of (built.durations_of l))) (places_in scale l) c (those (syncs_from 0 (built.flags_of l)))) e

  -- its samples are those that it was built from
  pub built-track : shifts f t.ctts ≡ values_of (merged_of (built.shifts_of l)) → built.Numbered 0 0 l → built.Narrow l → samples_of f t ≡ l
  built-track e n w = told (values_of (merged_of (built.shifts_of l))) e ∙ track-back scale l n w

  pub built-track-absent : shifts f t.ctts ≡ [] → built.Numbered 0 0 l → built.Zero l → samples_of f t ≡ l
  built-track-absent e n w = told [] e ∙ track-back-absent scale l n w
