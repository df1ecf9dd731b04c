-- The number of a box that is held against other boxes, and where it stands (ISO/IEC 14496-12): a track's number in
-- tkhd, trex and tfhd (8.3.2, 8.8.3, 8.8.7), how many samples there are in stsz and trun (8.7.3.2, 8.8.8), and the
-- flags of url, which say whether the media lie in the same file (8.7.2). It is read from the fields up to it, so
-- what lies behind it may be cut or wrong. Assumes nothing.
use Rattle.std.specs.Prelude.{ℕ, suc, List, [], ◌∷◌, take, get_or, eqb, Option, Some, None, Result, Ok, Err}
use Rattle.numbers.specs.Field.{when}
use Rattle.numbers.specs.declared.Refusal.{Refusal}
use Rattle.layout.specs.Read.{read_of}
use Rattle.layout.specs.Write.{padded}
use Rattle.layout.specs.declared.Field.{Field}
use Rattle.layout.specs.declared.read.Fields.{Fields}
use Rattle.places.specs.Kinds as kinds
use Rattle.tkhd.specs.Tkhd as tkhd
use Rattle.trex.specs.Trex as trex
use Rattle.tfhd.specs.Tfhd as tfhd
use Rattle.stsz.specs.Stsz as stsz
use Rattle.trun.specs.Trun as trun
use Rattle.url_box.specs.Url as url

-- a type, the fields of its box, and which of them is the key, counted from 0. None before it is reserved, so that it
-- has the slot of the same number.
pub record Keyed : Type 0 where
  pub kind : ℕ
  pub fields : List Field
  pub slot : ℕ

abbrev pub keyed : ℕ → List Field → ℕ → Keyed
keyed kind fields slot = record { kind = kind; fields = fields; slot = slot }

unfoldable pub keys : List Keyed
keys =
    keyed kinds.tkhd tkhd.fields 4 ∷
    keyed kinds.trex trex.fields 2 ∷
    keyed kinds.tfhd tfhd.fields 2 ∷
    keyed kinds.stsz stsz.fields 3 ∷
    keyed kinds.trun trun.fields 2 ∷
    keyed kinds.url url.fields 1 ∷
    []

-- by what the fields before the key and the fields up to it are read as: the key begins where those before it end
abbrev pub key_in : ℕ → Result Fields Refusal → Result Fields Refusal → Option (ℕ × ℕ)
key_in slot (Ok first) (Ok got) = Some (get_or got.values slot 0, first.place)
key_in slot (Ok first) (Err q) = None
key_in slot (Err q) got = None

abbrev pub key_at : ℕ → List ℕ → List Field → ℕ → Option (ℕ × ℕ)
key_at kind part fs slot = key_in slot (read_of kind (padded (take slot fs)) part) (read_of kind (padded (take (suc slot) fs)) part)

unfoldable pub pick_key : ℕ → List ℕ → List Keyed → Option (ℕ × ℕ)
pick_key kind part [] = None
pick_key kind part (k ∷ ks) = when (eqb kind k.kind) (key_at kind part k.fields k.slot) (pick_key kind part ks)

abbrev pub key_of : ℕ → List ℕ → Option (ℕ × ℕ)
key_of kind part = pick_key kind part keys
