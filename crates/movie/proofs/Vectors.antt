-- Worked examples of the definitions, computed: movies by their tracks, payloads, runs and moofs. Assumes nothing.
use Rattle.std.specs.Prelude.{Ok, Err, None}
use Prim.Native.Nat.{ℕ}
use mathlib.Core.Path.{◌≡◌, refl}
use mathlib.Core.List.{List, [], ◌∷◌, ◌++◌}
use mathlib.Core.Bool.{true, false}
use Rattle.numbers.specs.Number.{be, bytes}
use Rattle.numbers.specs.Field.{field, when}
use Rattle.numbers.specs.declared.Refusal.TheVariants as refusal
use Rattle.signed.specs.Signed.{signed}
use Rattle.tables.specs.Tables.{pair_at, group_at, offset_at, size_at}
use Rattle.tables.specs.declared.Track as tables
use Rattle.agree.specs.Agree.{agree_of}
use Rattle.trun.specs.Trun.{optional}
use Rattle.runs.specs.Values as values
use Rattle.runs.specs.Samples.{sample_at, run_samples}
use Rattle.runs.specs.declared.Run.{Run}
use Rattle.fragments.specs.Samples.{count_of, mine}
use Rattle.gaps.specs.Gaps.{gap_of}
use Rattle.verdicts.specs.Findings.{Span, F1, F6, F7}
use Rattle.verdicts.specs.Sweep.{sweep_from}
use Rattle.verdicts.specs.Fragments.{Moof}
use Rattle.verdicts.specs.Audit.{questions, audit_of}
use Rattle.verdicts.specs.declared.Audited.TheVariants.{Clean, Found, Refused}
use Rattle.movie.specs.Movie.{movie_of, refusal_in, judge_of}

abbrev span : ℕ → ℕ → Span
span a b = record { from = a; to = b }

-- tables in a file: an entry of stts at 0, of stsc at 8, sizes of 2 and 3 at 20, chunks at 50 and 52 from 28 on; a chunk's
-- place of 64 bits at 36
abbrev file : List ℕ
file =
    bytes 4 2 ++ bytes 4 1 ++ bytes 4 1 ++ bytes 4 1 ++ bytes 4 1 ++ bytes 4 2 ++ bytes 4 3 ++ bytes 4 50 ++ bytes 4 52
    ++ bytes 8 0xffff_ffff_ffff_ffff ++ bytes 8 0

-- n samples of them, and how many chunks, where, and whether their places have 64 bits
abbrev of : ℕ → ℕ → tables.Track
of n chunks = record {
  stts = record { at = 0; count = 1 };
  ctts = None;
  stsc = record { at = 8; count = 1 };
  stsz = record { at = 20; count = n; common = 0 };
  stco = record { at = 28; count = chunks; wide = false };
  stss = None;
}

abbrev far : tables.Track
far = record {
  stts = record { at = 0; count = 1 };
  ctts = None;
  stsc = record { at = 8; count = 1 };
  stsz = record { at = 20; count = 2; common = 0 };
  stco = record { at = 36; count = 2; wide = true };
  stss = None;
}

-- no samples
abbrev none : tables.Track
none = record {
  stts = record { at = 0; count = 0 };
  ctts = None;
  stsc = record { at = 8; count = 0 };
  stsz = record { at = 20; count = 0; common = 0 };
  stco = record { at = 28; count = 0; wide = false };
  stss = None;
}

-- a run of track 7: n samples of 5 bytes at 50 that last 10 each
abbrev run : ℕ → Run
run n = record { track = 7; start = 50; time = 0; at = 0; trun = record { version = 0; flags = 0; sample_count = n; data_offset = 0; first_sample_flags = 0 }; duration = 10; size = 5; flags = 0 }

abbrev moof : ℕ → ℕ → Moof
moof at n = record { start = at; number = n; trafs = [] }

-- TABLES

-- no track and no payload
nothing : judge_of (movie_of [] [] [] [] [] []) ≡ Clean 0 0 0
unfolding be bytes field when signed optional pair_at group_at offset_at size_at agree_of values.own_of values.duration_at values.size_at values.flags_by sample_at run_samples count_of mine gap_of sweep_from questions audit_of refusal_in judge_of
nothing = refl

-- a track without samples, and one whose two samples fill the payload
full : judge_of (movie_of file (span 50 55 ∷ []) (3 ∷ 7 ∷ []) (none ∷ of 2 2 ∷ []) [] []) ≡ Clean 2 2 5
unfolding be bytes field when signed optional pair_at group_at offset_at size_at agree_of values.own_of values.duration_at values.size_at values.flags_by sample_at run_samples count_of mine gap_of sweep_from questions audit_of refusal_in judge_of
full = refl

-- a byte that no sample claims
hole : judge_of (movie_of file (span 50 56 ∷ []) (7 ∷ []) (of 2 2 ∷ []) [] []) ≡ Found (F6 55)
unfolding be bytes field when signed optional pair_at group_at offset_at size_at agree_of values.own_of values.duration_at values.size_at values.flags_by sample_at run_samples count_of mine gap_of sweep_from questions audit_of refusal_in judge_of
hole = refl

-- tables that do not agree are told before the hole, with the number of their track
second-differs : judge_of (movie_of file (span 50 56 ∷ []) (7 ∷ 3 ∷ []) (of 2 2 ∷ of 1 1 ∷ []) [] []) ≡ Found (F1 3)
unfolding be bytes field when signed optional pair_at group_at offset_at size_at agree_of values.own_of values.duration_at values.size_at values.flags_by sample_at run_samples count_of mine gap_of sweep_from questions audit_of refusal_in judge_of
second-differs = refl

-- runs count only where there is a moof
runs-without-moof : judge_of (movie_of file (span 50 55 ∷ []) (7 ∷ []) (of 2 2 ∷ []) (run 1 ∷ []) []) ≡ Clean 1 2 5
unfolding be bytes field when signed optional pair_at group_at offset_at size_at agree_of values.own_of values.duration_at values.size_at values.flags_by sample_at run_samples count_of mine gap_of sweep_from questions audit_of refusal_in judge_of
runs-without-moof = refl

-- FRAGMENTS

by_runs : judge_of (movie_of file (span 50 60 ∷ []) (7 ∷ []) (none ∷ []) (run 2 ∷ []) (moof 100 1 ∷ moof 200 2 ∷ [])) ≡ Clean 1 2 10
unfolding be bytes field when signed optional pair_at group_at offset_at size_at agree_of values.own_of values.duration_at values.size_at values.flags_by sample_at run_samples count_of mine gap_of sweep_from questions audit_of refusal_in judge_of
by_runs = refl

by-runs-break : judge_of (movie_of file (span 50 60 ∷ []) (7 ∷ []) (none ∷ []) (run 2 ∷ []) (moof 100 1 ∷ moof 200 3 ∷ [])) ≡ Found (F7 200)
unfolding be bytes field when signed optional pair_at group_at offset_at size_at agree_of values.own_of values.duration_at values.size_at values.flags_by sample_at run_samples count_of mine gap_of sweep_from questions audit_of refusal_in judge_of
by-runs-break = refl

-- REFUSALS

fine : refusal_in (movie_of file (span 50 55 ∷ []) (7 ∷ []) (of 2 2 ∷ []) [] []) ≡ (Ok tt)
unfolding be bytes field when signed optional pair_at group_at offset_at size_at agree_of values.own_of values.duration_at values.size_at values.flags_by sample_at run_samples count_of mine gap_of sweep_from questions audit_of refusal_in judge_of
fine = refl

-- a sample whose end passes 2^64 - 1
over : refusal_in (movie_of file [] (7 ∷ []) (far ∷ []) [] []) ≡ Err refusal.Overflow
unfolding be bytes field when signed optional pair_at group_at offset_at size_at agree_of values.own_of values.duration_at values.size_at values.flags_by sample_at run_samples count_of mine gap_of sweep_from questions audit_of refusal_in judge_of
over = refl

-- media bytes that have no 64-bit number
too-many-bytes : refusal_in (movie_of [] (span 0 18446744073709551615 ∷ span 0 1 ∷ []) [] [] [] []) ≡ Err refusal.Overflow
unfolding be bytes field when signed optional pair_at group_at offset_at size_at agree_of values.own_of values.duration_at values.size_at values.flags_by sample_at run_samples count_of mine gap_of sweep_from questions audit_of refusal_in judge_of
too-many-bytes = refl

-- a moof, and samples in the moov; 9 comes before, by the tables too, which otherwise say nothing in a fragmented file
mixed : judge_of (movie_of file (span 50 55 ∷ []) (7 ∷ []) (of 2 2 ∷ []) [] (moof 100 1 ∷ [])) ≡ Refused refusal.Mixed
unfolding be bytes field when signed optional pair_at group_at offset_at size_at agree_of values.own_of values.duration_at values.size_at values.flags_by sample_at run_samples count_of mine gap_of sweep_from questions audit_of refusal_in judge_of
mixed = refl

over_first : judge_of (movie_of file [] (7 ∷ []) (far ∷ []) [] (moof 100 1 ∷ [])) ≡ Refused refusal.Overflow
unfolding be bytes field when signed optional pair_at group_at offset_at size_at agree_of values.own_of values.duration_at values.size_at values.flags_by sample_at run_samples count_of mine gap_of sweep_from questions audit_of refusal_in judge_of
over_first = refl
