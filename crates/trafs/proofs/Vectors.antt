-- Worked examples of the definitions, computed. Assumes nothing.
use Rattle.std.specs.Prelude.{Result, Ok, Err}
use Prim.Native.Nat.{ℕ}
use mathlib.Core.Path.{◌≡◌, refl}
use mathlib.Core.List.{List, [], ◌∷◌, ◌++◌}
use mathlib.Core.Bool.{Bool, true, false}
use lib.ListN.{replicate}
use Rattle.numbers.specs.Number.{be, bytes}
use Rattle.numbers.specs.Field.{field, when}
use Rattle.numbers.specs.declared.Refusal.TheVariants as refusal
use Rattle.signed.specs.Signed.{signed}
use Rattle.layout.specs.Rule.{rule_of}
use Rattle.layout.specs.Read.{one, decode}
use Rattle.layout.specs.Table.{cut_of}
use Rattle.rounds.proofs.Example.{box}
use Rattle.places.specs.Kinds.{trex, traf, tfhd, tfdt, trun}
use Rattle.keys.specs.Key.{keys, pick_key}
use Rattle.kin.specs.Kin.{Boxes, boxes}
use Rattle.needed.specs.First.{first}
use Rattle.needed.specs.Needed.{trex_of}
use Rattle.inside.specs.Inside.{next_in, child}
use Rattle.runs.specs.declared.Run.{Run}
use Rattle.trafs.specs.Trafs.{of_box, bytes_of, run_of}
use Rattle.numbers.specs.declared.Refusal.{Refusal}

-- a trex of track 7; then a traf's tfhd with these flags, of this track, its tfdt and its trun
abbrev file : ℕ → ℕ → List ℕ
file flags track =
    box trex 0 0 (bytes 4 7 ++ bytes 4 1 ++ bytes 4 40 ++ bytes 4 50 ++ bytes 4 60) ++ box tfhd 0 flags (bytes 4 track) ++ box tfdt 0 0 (bytes 4 9000)
    ++ box trun 0 1 (bytes 4 3 ++ bytes 4 200)

-- the traf is in row 1 and begins at 24
abbrev tables : List ℕ → Boxes
tables kinds = boxes (0 ∷ 24 ∷ 32 ∷ 48 ∷ 64 ∷ []) (32 ∷ 60 ∷ 16 ∷ 16 ∷ 20 ∷ []) kinds (9 ∷ 9 ∷ 2 ∷ 2 ∷ 2 ∷ []) (1 ∷ 1 ∷ 1 ∷ 1 ∷ 1 ∷ [])

abbrev whole : Boxes
whole = tables (trex ∷ traf ∷ tfhd ∷ tfdt ∷ trun ∷ [])

-- in a moof that begins at 1000, after a traf whose data end at 5000
abbrev of : ℕ → ℕ → Bool → Result Run Refusal
of flags track first = run_of (file flags track) whole 5 2 1000 first 5000

abbrev run : ℕ → Run
run start = record { track = 7; start = start; time = 9000; at = 84; trun = record { version = 0; flags = 1; sample_count = 3; data_offset = 200; first_sample_flags = 0 }; duration = 40; size = 50; flags = 60 }

-- what a column says of a box by its name: nothing of 0, and nothing past the last row
by_name : of_box (5 ∷ 6 ∷ []) 2 ≡ 6
unfolding when
by_name = refl

of_none : of_box (5 ∷ 6 ∷ []) 0 ≡ 0
unfolding when
of_none = refl

past-the-rows : of_box (replicate 5000 7) 4097 ≡ 0
unfolding when
past-the-rows = refl

its-bytes : bytes_of (1 ∷ 2 ∷ 3 ∷ 4 ∷ []) (boxes (1 ∷ []) (2 ∷ []) [] [] []) 1 ≡ 2 ∷ 3 ∷ []
unfolding when
its-bytes = refl

-- the first traf's data offset counts from the moof, a later one's from the end of the traf before (A38)
first-traf : of 0 7 true ≡ Ok (run 1200)
unfolding be bytes field when signed rule_of one decode cut_of keys pick_key first trex_of next_in child run_of
first-traf = refl

later-traf : of 0 7 false ≡ Ok (run 5200)
unfolding be bytes field when signed rule_of one decode cut_of keys pick_key first trex_of next_in child run_of
later-traf = refl

-- and from the moof where its tfhd says so
by_flag : of 0x20000 7 false ≡ Ok (run 1200)
unfolding be bytes field when signed rule_of one decode cut_of keys pick_key first trex_of next_in child run_of
by_flag = refl

-- the trex of another track does not serve: 8 at the traf
other-trex : of 0 8 true ≡ Err (refusal.Value 24)
unfolding be bytes field when signed rule_of one decode cut_of keys pick_key first trex_of next_in child run_of
other-trex = refl

-- a tfdt that is missing, and a tfhd that is not read
no-tfdt : run_of (file 0 7) (tables (trex ∷ traf ∷ tfhd ∷ trex ∷ trun ∷ [])) 5 2 1000 true 0 ≡ Err (refusal.Value 24)
unfolding be bytes field when signed rule_of one decode cut_of keys pick_key first trex_of next_in child run_of
no-tfdt = refl

no-track : of 0 0 true ≡ Err (refusal.Value 24)
unfolding be bytes field when signed rule_of one decode cut_of keys pick_key first trex_of next_in child run_of
no-track = refl

-- a trun that is not among the recorded boxes
unrecorded : run_of (file 0 7) whole 4 2 1000 true 0 ≡ Err (refusal.Value 24)
unfolding be bytes field when signed rule_of one decode cut_of keys pick_key first trex_of next_in child run_of
unrecorded = refl
