-- Worked examples of the definitions, computed. Assumes nothing.
use Rattle.std.specs.Prelude.{Ok, Err}
use mathlib.Core.Path.{◌≡◌, refl}
use mathlib.Core.List.{List, [], ◌∷◌, ◌++◌, map}
use lib.ListN.{replicate}
use Rattle.numbers.specs.Number.{be, bytes}
use Rattle.numbers.specs.Field.{field, when}
use Rattle.numbers.specs.declared.Refusal.TheVariants as refusal
use Rattle.layout.specs.Rule.{rule_of}
use Rattle.layout.specs.Read.{one, decode}
use Rattle.layout.specs.Table.{cut_of}
use Rattle.strings.specs.Text.{text_end}
use Rattle.rows.specs.Rows.{width_of, allowed_of, last_of, cells_of, entries_of}
use Rattle.rounds.proofs.Example.{box}
use Rattle.places.specs.Kinds.{mdat, emsg, mdhd, tkhd, trex, tfhd, stsz, dref, url, stsd, elst, hdlr, stts, ctts, stsc, stco, co64, stss, mfhd, tfdt, trun}
use Rattle.codings.specs.Codings.{pick, codings}
use Rattle.readers.specs.Readers.{readers, fault_of}

-- no byte is no box of any type that is read
none_read : map (λ k. fault_of k []) (emsg ∷ trex ∷ tkhd ∷ elst ∷ mdhd ∷ hdlr ∷ dref ∷ url ∷ stsd ∷ stts ∷ ctts ∷ stsc ∷ stsz ∷ stco ∷ co64 ∷ stss ∷ mfhd ∷ tfhd ∷ tfdt ∷ trun ∷ []) ≡ replicate 20 (Err (refusal.Cut 0))
unfolding be field when pick readers
none_read = refl

-- what is not read is not judged
not-read : fault_of mdat [] ≡ (Ok tt)
unfolding when pick readers codings
not-read = refl

-- boxes with one number of 4 bytes, or with a table of no entries
read : map (λ k. fault_of k (box k 0 0 (bytes 4 0))) (elst ∷ dref ∷ url ∷ stsd ∷ stts ∷ ctts ∷ stsc ∷ stco ∷ co64 ∷ stss ∷ mfhd ∷ tfdt ∷ trun ∷ []) ≡ replicate 13 (Ok tt)
unfolding be bytes field when rule_of one decode cut_of entries_of pick readers
read = refl

-- the others
read-mdhd : fault_of mdhd (box mdhd 0 0 (bytes 8 0 ++ bytes 4 1 ++ bytes 8 0)) ≡ (Ok tt)
unfolding be bytes field when rule_of one decode pick readers
read-mdhd = refl

read-tkhd : fault_of tkhd (box tkhd 0 0 (bytes 8 0 ++ bytes 4 1 ++ replicate 68 0)) ≡ (Ok tt)
unfolding be bytes field when rule_of one decode pick readers
read-tkhd = refl

read-trex : fault_of trex (box trex 0 0 (bytes 4 1 ++ bytes 8 0 ++ bytes 8 0)) ≡ (Ok tt)
unfolding be bytes field when rule_of one decode pick readers
read-trex = refl

read-tfhd : fault_of tfhd (box tfhd 0 0 (bytes 4 1)) ≡ (Ok tt)
unfolding be bytes field when rule_of one decode pick readers
read-tfhd = refl

read-hdlr : fault_of hdlr (box hdlr 0 0 (replicate 20 0)) ≡ (Ok tt)
unfolding be bytes field when rule_of one decode pick readers
read-hdlr = refl

read-emsg : fault_of emsg (box emsg 0 0 (bytes 2 0 ++ bytes 8 0 ++ bytes 8 0)) ≡ (Ok tt)
unfolding be bytes field when rule_of one decode text_end pick readers
read-emsg = refl

read-stsz : fault_of stsz (box stsz 0 0 (bytes 4 0 ++ bytes 4 1 ++ bytes 4 9)) ≡ (Ok tt)
unfolding be bytes field when rule_of one decode cut_of pick readers
read-stsz = refl

-- each reader's own refusal: a version, a value, a cut field, a string with no end, an entry that is cut, an entry's
-- value, another type
bad-version : fault_of url (box url 1 1 []) ≡ Err (refusal.Version 8)
unfolding be bytes field when rule_of one decode pick readers
bad-version = refl

bad-value : fault_of mdhd (box mdhd 0 0 (bytes 8 0 ++ bytes 4 0 ++ bytes 8 0)) ≡ Err (refusal.Value 20)
unfolding be bytes field when rule_of one decode pick readers
bad-value = refl

cut_field : fault_of tfdt (box tfdt 1 0 (bytes 4 0)) ≡ Err (refusal.Cut 12)
unfolding be bytes field when rule_of one decode pick readers
cut_field = refl

no_end : fault_of emsg (box emsg 0 0 (bytes 1 0 ++ bytes 1 0x41)) ≡ Err (refusal.Cut 13)
unfolding be bytes field when rule_of one decode text_end pick readers
no_end = refl

cut-entry : fault_of stsz (box stsz 0 0 (bytes 4 0 ++ bytes 4 2 ++ bytes 4 9)) ≡ Err (refusal.Cut 24)
unfolding be bytes field when rule_of one decode cut_of pick readers
cut-entry = refl

bad-entry : fault_of stss (box stss 0 0 (bytes 4 2 ++ bytes 4 5 ++ bytes 4 5)) ≡ Err (refusal.Value 20)
unfolding be bytes field when rule_of one decode width_of allowed_of last_of cells_of entries_of pick readers
bad-entry = refl

another-type : fault_of stco (box co64 0 0 (bytes 4 0)) ≡ Err (refusal.Value 4)
unfolding be bytes field when pick readers
another-type = refl
