-- Worked examples of the definitions, computed. Assumes nothing.
use Rattle.std.specs.Prelude.{Some, None}
use mathlib.Core.Path.{◌≡◌, refl}
use mathlib.Core.List.{[], ◌++◌}
use Rattle.numbers.specs.Number.{be, bytes}
use Rattle.numbers.specs.Field.{field, when}
use Rattle.layout.specs.Rule.{rule_of}
use Rattle.layout.specs.Read.{one, decode}
use Rattle.rounds.proofs.Example.{box}
use Rattle.places.specs.Kinds.{mdhd, tkhd, trex, tfhd, stsz, trun, url}
use Rattle.keys.specs.Key.{keys, pick_key, key_of}

-- behind it the box may be cut; it is further on in version 1
key-tkhd : key_of tkhd (box tkhd 0 0 (bytes 4 1 ++ bytes 4 2 ++ bytes 4 7)) ≡ Some (7, 20)
unfolding be bytes field when rule_of one decode pick_key keys
key-tkhd = refl

key-tkhd-1 : key_of tkhd (box tkhd 1 0 (bytes 8 1 ++ bytes 8 2 ++ bytes 4 7)) ≡ Some (7, 28)
unfolding be bytes field when rule_of one decode pick_key keys
key-tkhd-1 = refl

key-trex : key_of trex (box trex 0 0 (bytes 4 5)) ≡ Some (5, 12)
unfolding be bytes field when rule_of one decode pick_key keys
key-trex = refl

key-tfhd : key_of tfhd (box tfhd 0 0x3b (bytes 4 5)) ≡ Some (5, 12)
unfolding be bytes field when rule_of one decode pick_key keys
key-tfhd = refl

key-stsz : key_of stsz (box stsz 0 0 (bytes 4 9 ++ bytes 4 3)) ≡ Some (3, 16)
unfolding be bytes field when rule_of one decode pick_key keys
key-stsz = refl

key-trun : key_of trun (box trun 1 0x201 (bytes 4 4)) ≡ Some (4, 12)
unfolding be bytes field when rule_of one decode pick_key keys
key-trun = refl

key-url : key_of url (box url 0 1 []) ≡ Some (1, 9)
unfolding be bytes field when rule_of one decode pick_key keys
key-url = refl

-- behind a size in 64 bits
key-large : key_of url (bytes 4 1 ++ bytes 4 url ++ bytes 8 20 ++ bytes 1 0 ++ bytes 3 1) ≡ Some (1, 17)
unfolding be bytes field when rule_of one decode pick_key keys
key-large = refl

-- none where it is not allowed, not whole in its box, or behind a field that is refused; and none of other types
no-key-zero : key_of trex (box trex 0 0 (bytes 4 0)) ≡ None
unfolding be bytes field when rule_of one decode pick_key keys
no-key-zero = refl

no-key-cut : key_of stsz (box stsz 0 0 (bytes 4 9) ++ bytes 4 3) ≡ None
unfolding be bytes field when rule_of one decode pick_key keys
no-key-cut = refl

no-key-version : key_of trun (box trun 2 0 (bytes 4 4)) ≡ None
unfolding be bytes field when rule_of one decode pick_key keys
no-key-version = refl

no_key : key_of mdhd (box mdhd 0 0 (bytes 8 0 ++ bytes 4 1 ++ bytes 8 0)) ≡ None
unfolding when pick_key keys
no_key = refl
