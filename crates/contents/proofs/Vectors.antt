-- Worked examples of the definitions, computed. Assumes nothing.
use Rattle.std.specs.Prelude.{Ok, Err}
use mathlib.Core.Path.{◌≡◌, refl}
use mathlib.Core.List.{List, [], ◌∷◌, ◌++◌}
use Prim.Native.Nat.{ℕ}
use lib.ListN.{replicate}
use Rattle.numbers.specs.Number.{be, bytes}
use Rattle.numbers.specs.Field.{field, when}
use Rattle.numbers.specs.declared.Refusal.TheVariants as refusal
use Rattle.layout.specs.Rule.{rule_of}
use Rattle.layout.specs.Read.{one, decode}
use Rattle.layout.specs.Table.{cut_of}
use Rattle.rounds.proofs.Example.{box}
use Rattle.places.specs.Kinds.{trak, trex, tkhd, mdia, url, stsz, stco, co64, mfhd, traf, tfhd, trun}
use Rattle.codings.specs.Codings.{pick, codings}
use Rattle.readers.specs.Readers.{readers}
use Rattle.keys.specs.Key.{keys, pick_key}
use Rattle.kin.specs.Before.{some, sum}
use Rattle.kin.specs.Kin.{boxes}
use Rattle.contents.specs.Held.{track_from}
use Rattle.contents.specs.Contents.{box_fault}

-- two boxes of a type in one parent: the second is told where it begins, and nothing in it is read
twins : box_fault [] (boxes (0 ∷ 8 ∷ []) (8 ∷ 8 ∷ []) (mdia ∷ mdia ∷ []) (0 ∷ 0 ∷ []) (1 ∷ 1 ∷ [])) 2 1 ≡ Err (refusal.Twice 8)
unfolding when some
twins = refl

-- in another parent it is none, and the first is none
apart : box_fault [] (boxes (0 ∷ 8 ∷ []) (8 ∷ 8 ∷ []) (mdia ∷ mdia ∷ []) (1 ∷ 2 ∷ []) (1 ∷ 1 ∷ [])) 2 1 ≡ (Ok tt)
unfolding when some sum keys pick_key readers codings pick
apart = refl

-- both stco and co64
both-forms : box_fault [] (boxes (0 ∷ 8 ∷ []) (8 ∷ 8 ∷ []) (stco ∷ co64 ∷ []) (3 ∷ 3 ∷ []) (1 ∷ 1 ∷ [])) 2 1 ≡ Err (refusal.Twice 8)
unfolding when some
both-forms = refl

-- a box that does not stand in its place is not judged
elsewhere : box_fault [] (boxes (0 ∷ 8 ∷ []) (8 ∷ 8 ∷ []) (mdia ∷ mdia ∷ []) (0 ∷ 0 ∷ []) (1 ∷ 0 ∷ [])) 2 1 ≡ (Ok tt)
unfolding when
elsewhere = refl

-- four tracks, and a fifth
fifth : box_fault [] (boxes (0 ∷ 8 ∷ 16 ∷ 24 ∷ 32 ∷ []) (replicate 5 8) (replicate 5 trak) (replicate 5 1) (replicate 5 1)) 5 4 ≡ Err (refusal.Limit 32)
unfolding when some sum
fifth = refl

fourth : box_fault [] (boxes (0 ∷ 8 ∷ 16 ∷ 24 ∷ 32 ∷ []) (replicate 5 8) (replicate 5 trak) (replicate 5 1) (replicate 5 1)) 5 3 ≡ (Ok tt)
unfolding when some sum keys pick_key readers codings pick
fourth = refl

abbrev header : List ℕ
header = box tkhd 0 7 (bytes 8 0 ++ bytes 4 7 ++ replicate 68 0)

abbrev fragment : ℕ → List ℕ
fragment track = box tfhd 0 0 (bytes 4 track)

-- a fragment of a track that is known, of one that is not, and of one that comes only later
known : box_fault (header ++ fragment 7) (boxes (0 ∷ 92 ∷ []) (92 ∷ 16 ∷ []) (tkhd ∷ tfhd ∷ []) (1 ∷ 2 ∷ []) (1 ∷ 1 ∷ [])) 2 1 ≡ (Ok tt)
unfolding be bytes field when rule_of one decode some sum keys pick_key readers codings pick
known = refl

unknown : box_fault (header ++ fragment 8) (boxes (0 ∷ 92 ∷ []) (92 ∷ 16 ∷ []) (tkhd ∷ tfhd ∷ []) (1 ∷ 2 ∷ []) (1 ∷ 1 ∷ [])) 2 1 ≡ Err (refusal.Value 104)
unfolding be bytes field when rule_of one decode some sum keys pick_key readers codings pick
unknown = refl

too-early : box_fault (fragment 7 ++ header) (boxes (0 ∷ 16 ∷ []) (16 ∷ 92 ∷ []) (tfhd ∷ tkhd ∷ []) (1 ∷ 2 ∷ []) (1 ∷ 1 ∷ [])) 2 0 ≡ Err (refusal.Value 12)
unfolding be bytes field when rule_of one decode some sum keys pick_key readers codings pick
too-early = refl

-- a track's number that is used
used-twice : box_fault (header ++ header) (boxes (0 ∷ 92 ∷ []) (92 ∷ 92 ∷ []) (tkhd ∷ tkhd ∷ []) (1 ∷ 2 ∷ []) (1 ∷ 1 ∷ [])) 2 1 ≡ Err (refusal.Value 112)
unfolding be bytes field when rule_of one decode some sum keys pick_key readers codings pick
used-twice = refl

abbrev defaults : List ℕ
defaults = box trex 0 0 (bytes 4 7 ++ replicate 16 0)

-- a second trex for one track is told where it begins
second-trex : box_fault (defaults ++ defaults) (boxes (0 ∷ 32 ∷ []) (32 ∷ 32 ∷ []) (trex ∷ trex ∷ []) (1 ∷ 1 ∷ []) (1 ∷ 1 ∷ [])) 2 1 ≡ Err (refusal.Twice 32)
unfolding be bytes field when rule_of one decode some sum keys pick_key readers codings pick
second-trex = refl

-- as many samples as there may be, and one more
abbrev sizes : ℕ → List ℕ
sizes count = box stsz 0 0 (bytes 4 1 ++ bytes 4 count)

most : box_fault (sizes 65536) (boxes (0 ∷ []) (20 ∷ []) (stsz ∷ []) (1 ∷ []) (1 ∷ [])) 1 0 ≡ (Ok tt)
unfolding be bytes field when rule_of one decode cut_of some sum keys pick_key readers codings pick
most = refl

more : box_fault (sizes 65537) (boxes (0 ∷ []) (20 ∷ []) (stsz ∷ []) (1 ∷ []) (1 ∷ [])) 1 0 ≡ Err (refusal.Limit 16)
unfolding be bytes field when rule_of one decode some sum keys pick_key readers codings pick
more = refl

-- the runs of one track add up, over its fragments; the tfhd may stand behind the trun
abbrev run : List ℕ
run = box trun 0 0 (bytes 4 40000)

runs : box_fault (fragment 7 ++ run ++ run ++ fragment 7) (boxes (0 ∷ 0 ∷ 16 ∷ 32 ∷ 32 ∷ 48 ∷ []) (32 ∷ 16 ∷ 16 ∷ 32 ∷ 16 ∷ 16 ∷ []) (traf ∷ tfhd ∷ trun ∷ traf ∷ trun ∷ tfhd ∷ []) (0 ∷ 1 ∷ 1 ∷ 0 ∷ 4 ∷ 4 ∷ []) (replicate 6 1)) 6 4 ≡ Err (refusal.Limit 44)
unfolding be bytes field when rule_of one decode some sum track_from keys pick_key
runs = refl

-- those of another track do not
other-track : box_fault (fragment 7 ++ run ++ run ++ fragment 8) (boxes (0 ∷ 0 ∷ 16 ∷ 32 ∷ 32 ∷ 48 ∷ []) (32 ∷ 16 ∷ 16 ∷ 32 ∷ 16 ∷ 16 ∷ []) (traf ∷ tfhd ∷ trun ∷ traf ∷ trun ∷ tfhd ∷ []) (0 ∷ 1 ∷ 1 ∷ 0 ∷ 4 ∷ 4 ∷ []) (replicate 6 1)) 6 4 ≡ (Ok tt)
unfolding be bytes field when rule_of one decode cut_of some sum track_from keys pick_key readers codings pick
other-track = refl

-- media data in another file
external : box_fault (box url 0 0 []) (boxes (0 ∷ []) (12 ∷ []) (url ∷ []) (1 ∷ []) (1 ∷ [])) 1 0 ≡ Err (refusal.Value 9)
unfolding be bytes field when rule_of one decode some sum keys pick_key readers codings pick
external = refl

-- what a box's own reader refuses is told at its position in the file
moved_on : box_fault (replicate 8 0 ++ box mfhd 0 0 (bytes 3 0)) (boxes (8 ∷ []) (15 ∷ []) (mfhd ∷ []) (0 ∷ []) (1 ∷ [])) 1 0 ≡ Err (refusal.Cut 20)
unfolding be bytes field when rule_of one decode some sum keys pick_key readers codings pick
moved_on = refl
