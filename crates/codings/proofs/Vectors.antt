-- Worked examples of the definitions, computed. Assumes nothing.
use Rattle.std.specs.Prelude.{Ok, Err}
use mathlib.Core.Path.{◌≡◌, refl}
use mathlib.Core.List.{List, [], ◌∷◌, ◌++◌, map}
use lib.ListN.{replicate}
use Prim.Native.Nat.{ℕ, ◌+◌}
use lib.ListN.{length}
use Rattle.numbers.specs.Number.{be, bytes}
use Rattle.numbers.specs.Field.{field, when}
use Rattle.numbers.specs.declared.Refusal.TheVariants as refusal
use Rattle.layout.specs.Rule.{rule_of}
use Rattle.layout.specs.Read.{one, decode}
use Rattle.layout.specs.Table.{cut_of}
use Rattle.places.specs.Kinds.{stsd, avc1, vp09, avcc, mp4a, esds, vpcc, tx3g}
use Rattle.codings.specs.Codings.{codings, pick, coding_of}

-- a box that is no full box
abbrev plain : ℕ → List ℕ → List ℕ
plain kind content = bytes 4 (8 + length content) ++ bytes 4 kind ++ content

-- no byte is no box of any type that is read
none_read : map (λ k. coding_of k []) (avc1 ∷ vp09 ∷ avcc ∷ mp4a ∷ esds ∷ vpcc ∷ tx3g ∷ []) ≡ replicate 7 (Err (refusal.Cut 0))
unfolding be field when pick codings
none_read = refl

-- what is not read here is not judged here
not-read : coding_of stsd [] ≡ (Ok tt)
unfolding when pick codings
not-read = refl

-- a visual sample entry of 78 bytes, by both its types
read-visual : map (λ k. coding_of k (plain k (replicate 78 0))) (avc1 ∷ vp09 ∷ []) ≡ (Ok tt) ∷ (Ok tt) ∷ []
unfolding be bytes field when rule_of one decode pick codings
read-visual = refl

-- a byte less: the last reserved number is cut
cut-visual : coding_of avc1 (plain avc1 (replicate 77 0)) ≡ Err (refusal.Cut 84)
unfolding be bytes field when rule_of one decode pick codings
cut-visual = refl

read-mp4a : coding_of mp4a (plain mp4a (replicate 28 0)) ≡ (Ok tt)
unfolding be bytes field when rule_of one decode pick codings
read-mp4a = refl

-- an avcC of version 0
wrong-avcc : coding_of avcc (plain avcc (0 ∷ replicate 6 0)) ≡ Err (refusal.Value 8)
unfolding be bytes field when rule_of one decode pick codings
wrong-avcc = refl

-- a vpcC of version 0
wrong-vpcc : coding_of vpcc (plain vpcc (replicate 12 0)) ≡ Err (refusal.Version 8)
unfolding be bytes field when rule_of one decode pick codings
wrong-vpcc = refl

-- an esds without its descriptor
wrong-esds : coding_of esds (plain esds (replicate 4 0)) ≡ Err (refusal.Cut 12)
unfolding be bytes field when rule_of one decode pick codings
wrong-esds = refl

read-tx3g : coding_of tx3g (plain tx3g (replicate 38 0)) ≡ (Ok tt)
unfolding be bytes field when rule_of one decode pick codings
read-tx3g = refl
