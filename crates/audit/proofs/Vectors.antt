-- Worked examples, computed from a file's bytes to its answer: cases 2, 7 and 8 of document 01 as files, with their changed
-- forms, and refusals in their order. A file here is as small as it can be: what no question asks is 0. Assumes nothing.
use Prim.Native.Nat.{ℕ, zero, suc, ◌+◌, ◌*◌}
use mathlib.Core.Path.{◌≡◌, refl, sym, ◌∙◌}
use mathlib.Core.List.{List, [], ◌∷◌, ◌++◌}
use native.Mathlib.Omega.{arith}
use lib.IntN.{ℤ, pos, negsuc}
use lib.ListN.{replicate}
use Rattle.numbers.specs.Number.{be, bytes}
use Rattle.numbers.specs.Field.{field, when}
use Rattle.numbers.specs.declared.Refusal.TheVariants as refusal
use Rattle.numbers.specs.declared.Refusal.{Refusal}
use Rattle.signed.specs.Signed.{signed}
use Rattle.layout.specs.Rule.{rule_of}
use Rattle.layout.specs.Read.{one, decode}
use Rattle.layout.specs.Table.{cut_of}
use Rattle.rows.specs.Rows.{width_of, allowed_of, last_of, cells_of, entries_of}
use Rattle.rounds.proofs.Example.{box}
use Rattle.children.proofs.Example.{of}
use Rattle.places.specs.Kinds.{ftyp, moov, mvhd, trak, tkhd, mdia, mdhd, hdlr, minf, dinf, stbl, stsd, stts, stsc, stsz, stco, co64, mvex, trex, moof, mfhd, traf, tfhd, tfdt, trun, mdat}
use Rattle.places.specs.Places.{places, listed}
use Rattle.tree.specs.Walk.{siblings, kids_of}
use Rattle.tree.specs.Tables.{puts}
use Rattle.codings.specs.Codings.{pick, codings}
use Rattle.readers.specs.Readers.{readers}
use Rattle.keys.specs.Key.{keys, pick_key}
use Rattle.kin.specs.Before.{some, sum}
use Rattle.inside.specs.Inside.{next_in, child}
use Rattle.contents.specs.Held.{track_from}
use Rattle.needed.specs.First.{first}
use Rattle.needed.specs.Needed.{each, needed, in_stbl, in_minf, in_mdia, in_trak, trex_of, needed_trex, in_traf, in_moof, in_file}
use Rattle.opening.specs.Opening.{first_fault, refusal_of}
use Rattle.traks.specs.Traks.{tables_of}
use Rattle.tables.specs.Tables.{pair_at, group_at, offset_at, size_at, number_at}
use Rattle.trun.specs.Trun.{optional}
use Rattle.runs.specs.Values as values
use Rattle.runs.specs.Samples.{sample_at, run_samples, bytes_in, durations_in}
use Rattle.fragments.specs.Samples.{count_of, mine}
use Rattle.trafs.specs.Trafs.{run_of}
use Rattle.moofs.specs.Moofs.{runs_in, fragments_in}
use Rattle.gaps.specs.Gaps.{gap_of}
use Rattle.agree.specs.Agree.{agree_of}
use Rattle.verdicts.specs.Sweep.{sweep_from}
use Rattle.verdicts.specs.Audit.{questions, audit_of}
use Rattle.verdicts.specs.declared.Audited.{Audited}
use Rattle.verdicts.specs.declared.Audited.TheVariants.{Clean, Found, Refused}
use Rattle.movie.specs.Movie.{refusal_in}
use Rattle.audit.specs.Boxes.{scanned_of, boxes_of}
use Rattle.audit.specs.File.{audit_file}
use Rattle.audit.proofs.Computed.{rows_by, spans_by, computed}

-- FILES

-- numbers of four bytes
abbrev words : List ℕ → List ℕ
words [] = []
words (n ∷ ns) = bytes 4 n ++ words ns

-- 40 bytes, so that the payload of an mdat behind it begins at 48
abbrev front : List ℕ
front = of ftyp (replicate 32 0)

-- a track of this number and timescale, with these tables
abbrev track : ℕ → ℕ → List ℕ → List ℕ
track number timescale tables =
    of trak (box tkhd 0 3 (words (0 ∷ 0 ∷ number ∷ []) ++ replicate 68 0)
    ++ of mdia (box mdhd 0 0 (words (0 ∷ 0 ∷ timescale ∷ 0 ∷ 0x55c4_0000 ∷ [])) ++ box hdlr 0 0 (replicate 20 0)
    ++ of minf (of dinf [] ++ of stbl (box stsd 0 0 (words (0 ∷ [])) ++ tables))))

abbrev movie : List ℕ → List ℕ
movie traks = of moov (of mvhd [] ++ traks)

-- what a finding tells
abbrev finding : ℕ → ℕ → ℕ → ℕ → ℤ → Audited
finding number track sample position gap = Found (record { number = number; track = track; sample = sample; position = position; gap = gap })

-- CASE 2: so many media bytes from 48 on; chunk 3 begins at `third`. The times are case 1's.

abbrev times : ℕ → List ℕ
times n = box stts 0 0 (words (2 ∷ 3 ∷ 1000 ∷ n ∷ 500 ∷ []))

abbrev spread : List ℕ
spread = box stsc 0 0 (words (2 ∷ 1 ∷ 2 ∷ 1 ∷ 3 ∷ 1 ∷ 1 ∷ [])) ++ box stsz 0 0 (words (0 ∷ 6 ∷ 10 ∷ 20 ∷ 30 ∷ 40 ∷ 50 ∷ 60 ∷ []))

abbrev chunks : ℕ → List ℕ
chunks third = box stco 0 0 (words (4 ∷ 48 ∷ 78 ∷ third ∷ 198 ∷ []))

abbrev file : ℕ → List ℕ → List ℕ
file media traks = front ++ of mdat (replicate media 0) ++ movie traks

abbrev case2 : ℕ → ℕ → List ℕ
case2 media third = file media (track 1 1000 (times 3 ++ spread ++ chunks third))

pub case-2 : audit_file (case2 210 148) ≡ Clean 1 6 210
unfolding be bytes field when places listed siblings kids_of puts scanned_of boxes_of rule_of one decode cut_of width_of allowed_of last_of cells_of entries_of readers codings pick keys pick_key some sum next_in child first each needed in_stbl in_minf in_mdia in_trak in_file first_fault refusal_of rows_by spans_by tables_of pair_at group_at offset_at size_at number_at fragments_in signed agree_of refusal_in questions audit_of sweep_from
case-2 = computed (case2 210 148) ∙ refl

-- one media byte more: nothing claims it
pub case-2-hole : audit_file (case2 211 148) ≡ finding 6 0 0 258 (pos 0)
unfolding be bytes field when places listed siblings kids_of puts scanned_of boxes_of rule_of one decode cut_of width_of allowed_of last_of cells_of entries_of readers codings pick keys pick_key some sum next_in child first each needed in_stbl in_minf in_mdia in_trak in_file first_fault refusal_of rows_by spans_by tables_of pair_at group_at offset_at size_at number_at fragments_in signed agree_of refusal_in questions audit_of sweep_from
case-2-hole = computed (case2 211 148) ∙ refl

-- chunk 3 one byte earlier: its sample begins in the one before
pub case-2-overlap : audit_file (case2 210 147) ≡ finding 5 1 5 147 (pos 0)
unfolding be bytes field when places listed siblings kids_of puts scanned_of boxes_of rule_of one decode cut_of width_of allowed_of last_of cells_of entries_of readers codings pick keys pick_key some sum next_in child first each needed in_stbl in_minf in_mdia in_trak in_file first_fault refusal_of rows_by spans_by tables_of pair_at group_at offset_at size_at number_at fragments_in signed agree_of refusal_in questions audit_of sweep_from
case-2-overlap = computed (case2 210 147) ∙ refl

-- so neither an open that refuses every file nor an audit that finds every file clean meets the definition
pub not-always-refused : (q : Refusal) → audit_file (case2 210 148) ≡ Refused q → ⊥
not-always-refused q e = let z = sym case-2 ∙ e in let y : ◌≡◌ {A = ℕ} 0 1 = cc in omega arith

pub not-always-clean : (a b c : ℕ) → audit_file (case2 211 148) ≡ Clean a b c → ⊥
not-always-clean a b c e = let z = sym case-2-hole ∙ e in let y : ◌≡◌ {A = ℕ} 0 1 = cc in omega arith

-- a second track whose tables count one sample less
second-differs : audit_file (file 210 (track 1 1000 (times 3 ++ spread ++ chunks 148) ++ track 2 1000 (times 2 ++ spread ++ chunks 148))) ≡ finding 1 2 0 0 (pos 0)
unfolding be bytes field when places listed siblings kids_of puts scanned_of boxes_of rule_of one decode cut_of width_of allowed_of last_of cells_of entries_of readers codings pick keys pick_key some sum next_in child first each needed in_stbl in_minf in_mdia in_trak in_file first_fault refusal_of rows_by spans_by tables_of pair_at group_at offset_at size_at number_at fragments_in signed agree_of refusal_in questions audit_of sweep_from
second-differs = computed (file 210 (track 1 1000 (times 3 ++ spread ++ chunks 148) ++ track 2 1000 (times 2 ++ spread ++ chunks 148))) ∙ refl

-- REFUSALS, of files like that of case 2

-- what is wrong in a box goes before what is wrong behind it: a timescale of 0, then a header that is cut; and both before
-- a box that is missing
content-first : audit_file (file 210 (track 1 0 (times 3 ++ spread ++ chunks 148)) ++ replicate 3 0) ≡ Refused (refusal.Value 402)
unfolding be bytes field when places listed siblings kids_of puts scanned_of boxes_of rule_of one decode cut_of width_of allowed_of last_of cells_of entries_of readers codings pick keys pick_key some sum next_in child first each needed in_stbl in_minf in_mdia in_trak in_file first_fault refusal_of rows_by spans_by tables_of pair_at group_at offset_at size_at number_at fragments_in signed agree_of refusal_in questions audit_of sweep_from
content-first = computed (file 210 (track 1 0 (times 3 ++ spread ++ chunks 148)) ++ replicate 3 0) ∙ refl

then-header : audit_file (file 210 (track 1 1000 (times 3 ++ spread)) ++ replicate 3 0) ≡ Refused (refusal.Cut 602)
unfolding be bytes field when places listed siblings kids_of puts scanned_of boxes_of rule_of one decode cut_of width_of allowed_of last_of cells_of entries_of readers codings pick keys pick_key some sum next_in child first each needed in_stbl in_minf in_mdia in_trak in_file first_fault refusal_of rows_by spans_by tables_of pair_at group_at offset_at size_at number_at fragments_in signed agree_of refusal_in questions audit_of sweep_from
then-header = computed (file 210 (track 1 1000 (times 3 ++ spread)) ++ replicate 3 0) ∙ refl

then-missing : audit_file (file 210 (track 1 1000 (times 3 ++ spread))) ≡ Refused (refusal.Missing stco)
unfolding be bytes field when places listed siblings kids_of puts scanned_of boxes_of rule_of one decode cut_of width_of allowed_of last_of cells_of entries_of readers codings pick keys pick_key some sum next_in child first each needed in_stbl in_minf in_mdia in_trak in_file first_fault refusal_of rows_by spans_by tables_of pair_at group_at offset_at size_at number_at fragments_in signed agree_of refusal_in questions audit_of sweep_from
then-missing = computed (file 210 (track 1 1000 (times 3 ++ spread))) ∙ refl

abbrev empty : List ℕ
empty = of moof (box mfhd 0 0 (words (1 ∷ [])))

-- a moof behind samples in the moov is 10; where one of these samples does not fit, that is 9, and comes before
mixed : audit_file (case2 210 148 ++ empty) ≡ Refused refusal.Mixed
unfolding be bytes field when places listed siblings kids_of puts scanned_of boxes_of rule_of one decode cut_of width_of allowed_of last_of cells_of entries_of readers codings pick keys pick_key some sum next_in child first each needed in_stbl in_minf in_mdia in_trak in_file first_fault refusal_of track_from trex_of needed_trex in_traf in_moof run_of runs_in values.own_of values.duration_at values.size_at values.flags_by sample_at run_samples bytes_in durations_in count_of mine gap_of optional rows_by spans_by tables_of pair_at group_at offset_at size_at number_at fragments_in signed agree_of refusal_in questions audit_of sweep_from
mixed = computed (case2 210 148 ++ empty) ∙ refl

over_first : audit_file (file 210 (track 1 1000 (times 3 ++ spread ++ box co64 0 0 (words (4 ∷ []) ++ bytes 8 48 ++ bytes 8 78 ++ bytes 8 148 ++ replicate 8 255))) ++ empty) ≡ Refused refusal.Overflow
unfolding be bytes field when places listed siblings kids_of puts scanned_of boxes_of rule_of one decode cut_of width_of allowed_of last_of cells_of entries_of readers codings pick keys pick_key some sum next_in child first each needed in_stbl in_minf in_mdia in_trak in_file first_fault refusal_of track_from trex_of needed_trex in_traf in_moof run_of runs_in values.own_of values.duration_at values.size_at values.flags_by sample_at run_samples bytes_in durations_in count_of mine gap_of optional rows_by spans_by tables_of pair_at group_at offset_at size_at number_at fragments_in signed agree_of refusal_in questions audit_of sweep_from
over_first = computed (file 210 (track 1 1000 (times 3 ++ spread ++ box co64 0 0 (words (4 ∷ []) ++ bytes 8 48 ++ bytes 8 78 ++ bytes 8 148 ++ replicate 8 255))) ++ empty) ∙ refl

-- CASES 7 AND 8: a track with no samples in the moov, and two fragments with an mdat each

abbrev start : List ℕ
start =
    front ++ movie (track 1 1000 (box stts 0 0 (words (0 ∷ [])) ++ box stsc 0 0 (words (0 ∷ [])) ++ box stsz 0 0 (words (0 ∷ 0 ∷ [])) ++ box stco 0 0 (words (0 ∷ [])))
    ++ of mvex (box trex 0 0 (words (1 ∷ 1 ∷ 0 ∷ 0 ∷ 0 ∷ []))))

-- so many samples of 10 bytes that last 3,000 each
abbrev run : ℕ → List ℕ
run zero = []
run (suc n) = words (3000 ∷ 10 ∷ []) ++ run n

-- a moof of this number, whose one traf has n samples from this time on; their data begin behind the mdat's header
abbrev fragment : ℕ → ℕ → ℕ → List ℕ
fragment number time n =
    of moof (box mfhd 0 0 (words (number ∷ []))
    ++ of traf (box tfhd 0 0x20000 (words (1 ∷ [])) ++ box tfdt 1 0 (bytes 8 time) ++ box trun 0 0x301 (words (n ∷ (96 + 8 * n) ∷ []) ++ run n)))
    ++ of mdat (replicate (10 * n) 0)

pub case-7 : audit_file (start ++ fragment 1 9000 3 ++ fragment 2 18000 1) ≡ Clean 1 4 40
unfolding be bytes field when places listed siblings kids_of puts scanned_of boxes_of rule_of one decode cut_of width_of allowed_of last_of cells_of entries_of readers codings pick keys pick_key some sum next_in child first each needed in_stbl in_minf in_mdia in_trak in_file first_fault refusal_of track_from trex_of needed_trex in_traf in_moof run_of runs_in values.own_of values.duration_at values.size_at values.flags_by sample_at run_samples bytes_in durations_in count_of mine gap_of optional rows_by spans_by tables_of pair_at group_at offset_at size_at number_at fragments_in signed agree_of refusal_in questions audit_of sweep_from
case-7 = computed (start ++ fragment 1 9000 3 ++ fragment 2 18000 1) ∙ refl

pub case-7-gap : audit_file (start ++ fragment 1 9000 3 ++ fragment 2 17999 1) ≡ finding 8 1 0 526 (negsuc 0)
unfolding be bytes field when places listed siblings kids_of puts scanned_of boxes_of rule_of one decode cut_of width_of allowed_of last_of cells_of entries_of readers codings pick keys pick_key some sum next_in child first each needed in_stbl in_minf in_mdia in_trak in_file first_fault refusal_of track_from trex_of needed_trex in_traf in_moof run_of runs_in values.own_of values.duration_at values.size_at values.flags_by sample_at run_samples bytes_in durations_in count_of mine gap_of optional rows_by spans_by tables_of pair_at group_at offset_at size_at number_at fragments_in signed agree_of refusal_in questions audit_of sweep_from
case-7-gap = computed (start ++ fragment 1 9000 3 ++ fragment 2 17999 1) ∙ refl

pub case-8 : audit_file (start ++ fragment 4294967295 0 1 ++ fragment 0 3000 1) ≡ Clean 1 2 20
unfolding be bytes field when places listed siblings kids_of puts scanned_of boxes_of rule_of one decode cut_of width_of allowed_of last_of cells_of entries_of readers codings pick keys pick_key some sum next_in child first each needed in_stbl in_minf in_mdia in_trak in_file first_fault refusal_of track_from trex_of needed_trex in_traf in_moof run_of runs_in values.own_of values.duration_at values.size_at values.flags_by sample_at run_samples bytes_in durations_in count_of mine gap_of optional rows_by spans_by tables_of pair_at group_at offset_at size_at number_at fragments_in signed agree_of refusal_in questions audit_of sweep_from
case-8 = computed (start ++ fragment 4294967295 0 1 ++ fragment 0 3000 1) ∙ refl

pub case-8-break : audit_file (start ++ fragment 4294967295 0 1 ++ fragment 1 3000 1) ≡ finding 7 0 0 490 (pos 0)
unfolding be bytes field when places listed siblings kids_of puts scanned_of boxes_of rule_of one decode cut_of width_of allowed_of last_of cells_of entries_of readers codings pick keys pick_key some sum next_in child first each needed in_stbl in_minf in_mdia in_trak in_file first_fault refusal_of track_from trex_of needed_trex in_traf in_moof run_of runs_in values.own_of values.duration_at values.size_at values.flags_by sample_at run_samples bytes_in durations_in count_of mine gap_of optional rows_by spans_by tables_of pair_at group_at offset_at size_at number_at fragments_in signed agree_of refusal_in questions audit_of sweep_from
case-8-break = computed (start ++ fragment 4294967295 0 1 ++ fragment 1 3000 1) ∙ refl
