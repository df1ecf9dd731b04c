-- Worked examples of the definitions, computed. Assumes nothing.
use Rattle.std.specs.Prelude.{Ok, Err}
use mathlib.Core.Path.{◌≡◌, refl}
use mathlib.Core.List.{[], ◌∷◌, ◌++◌}
use lib.ListN.{replicate}
use Rattle.numbers.specs.Number.{be, bytes}
use Rattle.numbers.specs.Field.{field, when}
use Rattle.numbers.specs.declared.Refusal.TheVariants as refusal
use Rattle.put.specs.Put.{wrote}
use Rattle.layout.specs.Rule.{rule_of}
use Rattle.layout.specs.Read.{one, decode}
use Rattle.layout.specs.Write.{lay, encode}
use Rattle.rounds.proofs.Example.{box}
use Rattle.url_box.specs.Url as url-is
use Rattle.url_box.specs.declared.Url.{Url}

abbrev here : Url
here = record { version = 0; flags = 1 }

abbrev there : Url
there = record { version = 0; flags = 0 }

-- in the same file, in 12 bytes
url-read : url-is.url_of (box 0x75726c20 0 1 []) ≡ Ok here
unfolding be bytes field when rule_of one decode
url-read = refl

url-nowhere : url-is.location_of (box 0x75726c20 0 1 []) ≡ []
unfolding be bytes field when rule_of one decode
url-nowhere = refl

-- elsewhere; the location ends where the box does
url-there : url-is.url_of (box 0x75726c20 0 0 (bytes 2 0x4100) ++ bytes 1 7) ≡ Ok there
unfolding be bytes field when rule_of one decode
url-there = refl

url-location : url-is.location_of (box 0x75726c20 0 0 (bytes 2 0x4100) ++ bytes 1 7) ≡ 0x41 ∷ 0 ∷ []
unfolding be bytes field when rule_of one decode
url-location = refl

url-version : url-is.url_of (box 0x75726c20 1 1 []) ≡ Err (refusal.Version 8)
unfolding be bytes field when rule_of one decode
url-version = refl

url-written : url-is.url_in here [] (replicate 13 9) ≡ wrote (Ok 12) (box 0x75726c20 0 1 [] ++ replicate 1 9)
unfolding bytes when rule_of lay encode
url-written = refl

url-there-written : url-is.url_in there (0x41 ∷ 0 ∷ []) (replicate 14 9) ≡ wrote (Ok 14) (box 0x75726c20 0 0 (bytes 2 0x4100) ++ replicate 0 9)
unfolding bytes when rule_of lay encode
url-there-written = refl
