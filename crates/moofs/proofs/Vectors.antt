-- Worked examples of the definitions, computed. Assumes nothing.
use Rattle.std.specs.Prelude.{Ok, Err}
use Prim.Native.Nat.{ℕ}
use mathlib.Core.Path.{◌≡◌, refl}
use mathlib.Core.List.{List, [], ◌∷◌, ◌++◌}
use lib.ListN.{replicate}
use Rattle.numbers.specs.Number.{be, bytes}
use Rattle.numbers.specs.Field.{field, when}
use Rattle.numbers.specs.declared.Refusal.TheVariants as refusal
use Rattle.signed.specs.Signed.{signed}
use Rattle.layout.specs.Rule.{rule_of}
use Rattle.layout.specs.Read.{one, decode}
use Rattle.layout.specs.Table.{cut_of}
use Rattle.rounds.proofs.Example.{box}
use Rattle.places.specs.Kinds.{moof, trex, mfhd, traf, tfhd, tfdt, trun}
use Rattle.keys.specs.Key.{keys, pick_key}
use Rattle.kin.specs.Kin.{Boxes, boxes}
use Rattle.needed.specs.First.{first}
use Rattle.needed.specs.Needed.{trex_of}
use Rattle.inside.specs.Inside.{next_in, child}
use Rattle.runs.specs.Values.{size_at}
use Rattle.runs.specs.Samples.{bytes_in}
use Rattle.runs.specs.declared.Run.{Run}
use Rattle.runtable.specs.Table as runtable
use Rattle.trafs.specs.Trafs.{run_of}
use Rattle.moofs.specs.Moofs.{Fragment, fragment, all, refused, runs_in, fragments_in, fragments_of, moofs_from, output, fill_of, filled_record}
use Rattle.moofs.specs.Walk.{still, begins, begun, begin_of, add_of, move_of, turned, turn_of, left_in, plan_of, tally}
use Rattle.moofs.proofs.Few.{fresh}

-- a trex, a tfhd with these flags and bytes after its track, a tfdt, a trun of three samples and an mfhd of number 5: the
-- boxes of every moof and traf here
abbrev file : ℕ → List ℕ → List ℕ
file flags more =
    box trex 0 0 (bytes 4 7 ++ bytes 4 1 ++ bytes 4 40 ++ bytes 4 50 ++ bytes 4 60) ++ box tfdt 0 0 (bytes 4 9000) ++ box trun 0 1 (bytes 4 3 ++ bytes 4 200)
    ++ box mfhd 0 0 (bytes 4 5) ++ box tfhd 0 flags (bytes 4 7 ++ more)

-- a trex; a moof at 1000 with two trafs; a moof at 2000 with none
abbrev kinds : List ℕ
kinds = trex ∷ moof ∷ mfhd ∷ traf ∷ tfhd ∷ tfdt ∷ trun ∷ traf ∷ tfhd ∷ tfdt ∷ trun ∷ moof ∷ mfhd ∷ []

abbrev tables : List ℕ → Boxes
tables placed =
    boxes (0 ∷ 1000 ∷ 68 ∷ 1024 ∷ 84 ∷ 32 ∷ 48 ∷ 1100 ∷ 84 ∷ 32 ∷ 48 ∷ 2000 ∷ 68 ∷ []) (32 ∷ 999 ∷ 16 ∷ 68 ∷ 24 ∷ 16 ∷ 20 ∷ 68 ∷ 24 ∷ 16 ∷ 20 ∷ 24 ∷ 16 ∷ [])
    kinds (9 ∷ 0 ∷ 2 ∷ 2 ∷ 4 ∷ 4 ∷ 4 ∷ 2 ∷ 8 ∷ 8 ∷ 8 ∷ 0 ∷ 12 ∷ []) placed

abbrev run : ℕ → Run
run start = record { track = 7; start = start; time = 9000; at = 68; trun = record { version = 0; flags = 1; sample_count = 3; data_offset = 200; first_sample_flags = 0 }; duration = 40; size = 50; flags = 60 }

abbrev two : List Fragment
two = fragment 1000 5 (run 1200 ∷ run 1550 ∷ []) ∷ fragment 2000 5 [] ∷ []

-- the second traf's data offset counts from the end of the first one's data, 1350
whole : fragments_of (file 0 []) (tables (replicate 13 1)) 13 ≡ all two
unfolding be bytes field when signed rule_of one decode cut_of keys pick_key first trex_of next_in child run_of size_at bytes_in runs_in fragments_in
whole = refl

-- and from the moof where the tfhd says so
by_flag : fragments_of (file 0x20000 []) (tables (replicate 13 1)) 11 ≡ all (fragment 1000 5 (run 1200 ∷ run 1200 ∷ []) ∷ [])
unfolding be bytes field when signed rule_of one decode cut_of keys pick_key first trex_of next_in child run_of size_at bytes_in runs_in fragments_in
by_flag = refl

-- a moof that does not stand in its place is none, and no traf before the first moof counts
unplaced : fragments_of (file 0 []) (tables (1 ∷ 0 ∷ replicate 11 1)) 13 ≡ all (fragment 2000 5 [] ∷ [])
unfolding be bytes field when signed rule_of one decode cut_of keys pick_key first trex_of next_in child run_of size_at bytes_in runs_in fragments_in
unplaced = refl

-- a traf that does not stand in its place is not the traf before: the other is refused, whose tfhd is missing too
no-tfhd : fragments_of (file 0 []) (tables (1 ∷ 1 ∷ 1 ∷ 0 ∷ 1 ∷ 1 ∷ 1 ∷ 1 ∷ 0 ∷ replicate 4 1)) 13 ≡ refused (refusal.Value 1100)
unfolding be bytes field when signed rule_of one decode cut_of keys pick_key first trex_of next_in child run_of size_at bytes_in runs_in fragments_in
no-tfhd = refl

-- the first refusal counts: a moof's own, and then its trafs'
no-mfhd : fragments_of (file 0 []) (tables (1 ∷ 1 ∷ 0 ∷ 1 ∷ 0 ∷ replicate 8 1)) 13 ≡ refused (refusal.Value 1000)
unfolding be bytes field when signed rule_of one decode cut_of keys pick_key first trex_of next_in child run_of size_at bytes_in runs_in fragments_in
no-mfhd = refl

-- data that begin at 2^64 - 100 and are 150 bytes
past_the_end : fragments_of (file 1 (bytes 8 18446744073709551316)) (tables (replicate 13 1)) 13 ≡ refused refusal.Overflow
unfolding be bytes field when signed rule_of one decode cut_of keys pick_key first trex_of next_in child run_of size_at bytes_in runs_in fragments_in
past_the_end = refl

-- THE TABLES

-- each moof has the row of its first run
rows : moofs_from 0 two ≡ record { start = 1000; number = 5; runs = 0 } ∷ record { start = 2000; number = 5; runs = 2 } ∷ []
rows = refl

filled : fill_of (all two) (replicate 25 9) (replicate 7 9)
    ≡ output (Ok (filled_record 2 2)) (runtable.numbers_of (run 1200) ++ runtable.numbers_of (run 1550) ++ (9 ∷ [])) (1000 ∷ 5 ∷ 0 ∷ 2000 ∷ 5 ∷ 2 ∷ 9 ∷ [])
unfolding when
filled = refl

-- no room for the second run, and none for the second moof: the tables stay
few-runs : fill_of (all two) (replicate 23 9) (replicate 5 9) ≡ output (Err (refusal.TooSmall 2)) (replicate 23 9) (replicate 5 9)
unfolding when
few-runs = refl

few-moofs : fill_of (all (fragment 8 1 [] ∷ two)) (replicate 24 9) (replicate 8 9) ≡ output (Err (refusal.TooSmall 3)) (replicate 24 9) (replicate 8 9)
unfolding when
few-moofs = refl

kept : fill_of (refused refusal.Overflow) [] (1 ∷ []) ≡ output (Err refusal.Overflow) [] (1 ∷ [])
kept = refl

-- a file without moofs fills nothing
none : fill_of (all []) [] (1 ∷ []) ≡ output (Ok (filled_record 0 0)) [] (1 ∷ [])
unfolding when
none = refl

-- INSIDE

-- the walk has the same rows left to store, and counts them
walked : left_in (file 0 []) (tables (replicate 13 1)) 13 13 0 fresh ≡ plan_of (all two)
unfolding be bytes field when signed rule_of one decode cut_of keys pick_key first trex_of next_in child run_of size_at bytes_in begin_of add_of move_of left_in plan_of
walked = refl

counted : tally 0 0 (plan_of (all two)) ≡ Ok (filled_record 2 2)
unfolding plan_of
counted = refl

-- a traf outside of any moof does nothing, and a row that has no room is not stored
outside : move_of (file 0 []) (tables (replicate 13 1)) 13 3 fresh ≡ still
unfolding when move_of
outside = refl

no_row : turn_of fresh (begins 1000 5) [] (7 ∷ []) ≡ turned (Ok (begun 1000 fresh)) [] (7 ∷ [])
unfolding when
no_row = refl
