-- What a record and its parts keep that can be written. Assumes nothing.
use mathlib.Core.Path.{◌≡◌, refl}
use mathlib.Core.List.{List, ◌++◌}
use mathlib.Core.Bool.{Bool, true, false, ◌&&◌}
use Prim.Native.Nat.{ℕ, ◌+◌, ◌^◌, ◌<◌}
use native.Mathlib.Omega.{arith}
use lib.ListN.{length, length-append}
use lib.Dec.{ltb}
use borrow.Author.Tests.{ltb-true}
use Rattle.esfields.specs.EsFields.{field_bytes}
use Rattle.esfields.specs.EsFields as es
use Rattle.esds.specs.Esds.{decoder_bytes, sl_bytes, content_bytes, decoder_sound, sl_sound, sound}
use Rattle.esds.specs.declared.Esds.{Esds}

pub and-true : (a b : Bool) → a && b ≡ true → (a ≡ true) × (b ≡ true)
and-true true b h = (refl, h)
and-true false b h = let z : ◌≡◌ {A = ℕ} 0 1 = cc in absurd (omega arith)

module _ (m : Esds) (url info sl : List ℕ) where
  pub record Sound : Type 0 where
    pub fields-ok : es.sound m.stream url ≡ true
    pub decoder-ok : decoder_sound m.decoder info ≡ true
    pub sl-ok : sl_sound m.has_sl sl ≡ true
    pub small : length (content_bytes m url info sl) < 128 ^ 4

  pub sounds : sound m url info sl ≡ true → Sound
  sounds h =
      let a = es.sound m.stream url in
      let b = decoder_sound m.decoder info in
      let c = sl_sound m.has_sl sl in
      let d = ltb (length (content_bytes m url info sl)) (128 ^ 4) in
      let p = and-true (a && b && c) d h in
      let q = and-true (a && b) c p.0 in
      let r = and-true a b q.0 in
      record { fields-ok = r.0; decoder-ok = r.1; sl-ok = q.1; small = ltb-true (length (content_bytes m url info sl)) (128 ^ 4) p.1 }

  pub length-content : length (content_bytes m url info sl) ≡ length (field_bytes m.stream url) + length (decoder_bytes m.decoder info) + length (sl_bytes m.has_sl sl)
  length-content =
      omega (arith, length-append (field_bytes m.stream url ++ decoder_bytes m.decoder info) (sl_bytes m.has_sl sl), length-append (field_bytes m.stream url) (decoder_bytes m.decoder info))
