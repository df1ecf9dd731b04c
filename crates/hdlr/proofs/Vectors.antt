-- Worked examples of the definitions, computed. Assumes nothing.
use Rattle.std.specs.Prelude.{Ok, Err}
use mathlib.Core.Path.{◌≡◌, refl}
use mathlib.Core.List.{List, [], ◌∷◌, ◌++◌}
use Prim.Native.Nat.{ℕ}
use lib.ListN.{replicate}
use Rattle.numbers.specs.Number.{be, bytes}
use Rattle.numbers.specs.Field.{field, when}
use Rattle.numbers.specs.declared.Refusal.TheVariants as refusal
use Rattle.put.specs.Put.{wrote}
use Rattle.layout.specs.Rule.{rule_of}
use Rattle.layout.specs.Read.{one, decode}
use Rattle.layout.specs.Write.{lay, encode}
use Rattle.rounds.proofs.Example.{box}
use Rattle.hdlr.specs.Hdlr as hdlr-is
use Rattle.hdlr.specs.declared.Hdlr.{Hdlr}

abbrev video : Hdlr
video = record { version = 0; flags = 0; handler_type = 0x76696465 }

abbrev named : List ℕ
named = box 0x68646c72 0 0 (bytes 4 0 ++ bytes 4 0x76696465 ++ bytes 8 0 ++ bytes 4 0 ++ bytes 2 0x4100)

hdlr-read : hdlr-is.hdlr_of (named ++ bytes 2 7) ≡ Ok video
unfolding be bytes field when rule_of one decode
hdlr-read = refl

-- the name ends where the box does, with its 0 or without it
hdlr-name : hdlr-is.name_of (named ++ bytes 2 7) ≡ 0x41 ∷ 0 ∷ []
unfolding be bytes field when rule_of one decode
hdlr-name = refl

-- it may be empty
hdlr-no-name : hdlr-is.name_of (box 0x68646c72 0 0 (bytes 4 0 ++ bytes 4 0x76696465 ++ bytes 8 0 ++ bytes 4 0)) ≡ []
unfolding be bytes field when rule_of one decode
hdlr-no-name = refl

-- a reserved field is cut: no record, and no name
hdlr-cut : hdlr-is.hdlr_of (box 0x68646c72 0 0 (bytes 4 0 ++ bytes 4 0x76696465 ++ bytes 8 0 ++ bytes 3 0)) ≡ Err (refusal.Cut 28)
unfolding be bytes field when rule_of one decode
hdlr-cut = refl

hdlr-cut-name : hdlr-is.name_of (box 0x68646c72 0 0 (bytes 4 0 ++ bytes 4 0x76696465 ++ bytes 8 0 ++ bytes 3 0)) ≡ []
unfolding be bytes field when rule_of one decode
hdlr-cut-name = refl

hdlr-written : hdlr-is.hdlr_in video (0x41 ∷ 0 ∷ []) (replicate 35 9) ≡ wrote (Ok 34) (named ++ replicate 1 9)
unfolding bytes when rule_of lay encode
hdlr-written = refl

hdlr-too-small : hdlr-is.hdlr_in video (0x41 ∷ 0 ∷ []) (replicate 33 9) ≡ wrote (Err (refusal.TooSmall 34)) (replicate 33 9)
unfolding bytes when rule_of lay encode
hdlr-too-small = refl
