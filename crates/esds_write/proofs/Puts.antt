-- What the writer does, step by step. Assumes nothing.
use Rattle.std.specs.Prelude.{Result, Option, Ok, Err, Some, None}
use mathlib.Core.Path.{◌≡◌, refl, sym, ap, ap₂, ◌∙◌}
use mathlib.Core.List.{List, [], ◌∷◌, ◌++◌, append_assoc, append-nil}
use mathlib.Core.Bool.{Bool, true, false, ◌&&◌}
use mathlib.Core.Logic.{⊎_elim}
use Prim.Native.Nat.{ℕ, ◌+◌, ◌-◌, ◌^◌, ◌≤◌, ◌<◌}
use native.Mathlib.Nat.{zero-add}
use native.Mathlib.Omega.{arith}
use lib.ListN.{length, drop, length-append}
use lib.Seq.{sets, sets-eq}
use lib.Dec.{eqb, ltb}
use borrow.Author.Tests.{lt-ltb, le-ltb, ltb-true, eq-eqb, ne_eqb}
use Rattle.numbers.specs.Number.{bytes}
use Rattle.numbers.specs.Field.{when}
use Rattle.numbers.specs.declared.Refusal.TheVariants as refusal
use Rattle.numbers.specs.declared.Refusal.{Refusal}
use Rattle.numbers.proofs.Laws.{length-bytes}
use Rattle.numbers.proofs.Chain.{by-true, by-false, way, is_lt, not-lt}
use Rattle.put.specs.Put.{Wrote, wrote}
use Rattle.put.specs.Put as put
use Rattle.put.proofs.Placed.{has_room}
use Rattle.boxes.specs.Header.{plain_bytes, header_in}
use Rattle.boxes.specs.Full.{full_in}
use Rattle.layout.specs.Rule.{rule_of}
use Rattle.layout.specs.Write.{Made, made, bad, after, lay, encode, full, place, placed, slotted}
use Rattle.layout.specs.declared.Field.TheVariants.{Version, Flags}
use Rattle.layout.specs.declared.rule.Rule.{Rule}
use Rattle.layout.proofs.Writes.{length-full, headed}
use Rattle.descriptor.specs.Descriptor.{size_for, head_bytes, head_in}
use Rattle.descriptors.specs.Descriptors.{descriptor_bytes, descriptor_in}
use Rattle.descriptors.proofs.Puts.{length-head, length-descriptor, more, same-long}
use Rattle.decoderconfig.specs.DecoderConfig.{config_bytes, size_of, config_in}
use Rattle.decoderconfig.specs.DecoderConfig as config
use Rattle.decoderconfig.specs.declared.Config.{Config}
use Rattle.esfields.specs.EsFields.{field_bytes, fields_in}
use Rattle.esfields.specs.EsFields as es
use Rattle.esds.specs.Esds.{kind, fields, decoder_bytes, sl_bytes, content_bytes, decoder_sound, sl_sound, decoder_size, sl_size, sound, esds_in}
use Rattle.esds.specs.declared.Esds.{Esds}
use Rattle.esds.proofs.Sounds.{and-true, sounds, length-content}

both_true : (a b : Bool) → a ≡ true → b ≡ true → a && b ≡ true
both_true a b p q = simp (p, q)

first-false : (a b : Bool) → a ≡ false → a && b ≡ false
first-false a b p = simp p

last-false : (a b : Bool) → a ≡ true → b ≡ false → a && b ≡ false
last-false a b p q = simp (p, q)

-- A SIZE THAT WAS TOLD, or refused
module _ (t : Bool) (n : ℕ) (r : Result ℕ Refusal) (e : r ≡ when t (Ok n) (Err refusal.Unwritable)) where
  pub told : (k : ℕ) → r ≡ Ok k → (t ≡ true) × (k ≡ n)
  told k f =
      ⊎_elim (λ y. let z : k ≡ n = cc (y.1, f) in (y.0, z)) (λ y. let z : ◌≡◌ {A = ℕ} 0 1 = cc (y.1, f) in absurd (omega arith))
      (way t _ _ _ (sym e))

  pub untold : (q : Refusal) → r ≡ Err q → (t ≡ false) × (q ≡ refusal.Unwritable)
  untold q f =
      ⊎_elim (λ y. let z : ◌≡◌ {A = ℕ} 0 1 = cc (y.1, f) in absurd (omega arith)) (λ y. let z : q ≡ refusal.Unwritable = cc (y.1, f) in (y.0, z))
      (way t _ _ _ (sym e))

-- A RUN THAT WAS PUT

-- it was not refused
pub never : (p : Result ℕ Refusal) (b c : List ℕ) (k : ℕ) → wrote p b ≡ wrote (Ok k) c → (q : Refusal) → p ≡ Err q → ⊥
never p b c k e q f = let z : ◌≡◌ {A = ℕ} 0 1 = cc (e, f) in omega arith

-- what comes behind it has room, and is put there
module _ (x y : List ℕ) (at next : ℕ) (out b1 : List ℕ) (p : Result ℕ Refusal) (h : at + length (x ++ y) ≤ length out)
    (e : wrote p b1 ≡ wrote (Ok (at + length x)) (sets out at x)) (n : p ≡ Ok next) where
  next-is : next ≡ at + length x
  next-is = cc (e, n)

  run-is : b1 ≡ sets out at x
  run-is = cc e

  pub room-behind : next + length y ≤ length b1
  room-behind = omega (arith, h, next-is, same-long out b1 x at run-is, length-append x y)

  pub behind : (b2 : List ℕ) (q : Result ℕ Refusal) → wrote q b2 ≡ put.placed y (length y) next b1 → wrote q b2 ≡ wrote (Ok (at + length (x ++ y))) (sets out at (x ++ y))
  behind b2 q f =
      f ∙ sym (has_room y (length y) next b1 room-behind)
      ∙ ap₂ (λ (n : ℕ) (b : List ℕ). wrote (Ok n) b) (let z : next + length y ≡ at + length (x ++ y) = omega (arith, next-is, length-append x y) in z)
      (more out b1 _ x y at next run-is refl next-is)

-- nothing is put
nothing-put : (at : ℕ) (out : List ℕ) → at ≤ length out → wrote (Ok at) out ≡ put.placed [] 0 at out
nothing-put at out h = ap (λ n. wrote (Ok n) out) (let z : at ≡ at + 0 = omega arith in z) ∙ has_room [] 0 at out (omega (arith, h))

-- THE DECODERCONFIG

module _ (d : Option Config) (info : List ℕ) where
  pub absent-empty : d ≡ None → length info ≡ 0 → Ok 0 ≡ decoder_size d info
  absent-empty e h =
      by-true _ _ _ (decoder_sound None info) (eq-eqb (length info) 0 h) refl ∙ ap (λ d. decoder_size d info) (sym e)

  pub absent-full : d ≡ None → (length info ≡ 0 → ⊥) → Err refusal.Unwritable ≡ decoder_size d info
  absent-full e h = by-false _ _ _ (decoder_sound None info) (ne_eqb (length info) 0 h) refl ∙ ap (λ d. decoder_size d info) (sym e)

  module _ (c : Config) (e : d ≡ Some c) (r : Result ℕ Refusal) (er : r ≡ size_of c info) where
    pub config-unsound : (q : Refusal) → r ≡ Err q → Err q ≡ decoder_size d info
    config-unsound q f =
        let z = untold (config.sound c info) (length (config_bytes c info)) r er q f in
        by-false _ _ _ (decoder_sound (Some c) info) (first-false (config.sound c info) _ z.0) (ap Err z.1) ∙ ap (λ d. decoder_size d info) (sym e)

    module _ (n : ℕ) (f : r ≡ Ok n) where
      known : (config.sound c info ≡ true) × (n ≡ length (config_bytes c info))
      known = told (config.sound c info) (length (config_bytes c info)) r er n f

      pub config-long : 128 ^ 4 ≤ n → Err refusal.Unwritable ≡ decoder_size d info
      config-long h =
          by-false _ _ _ (decoder_sound (Some c) info)
          (last-false (config.sound c info) _ known.0 (le-ltb (length (config_bytes c info)) (128 ^ 4) (omega (arith, known.1, h)))) refl
          ∙ ap (λ d. decoder_size d info) (sym e)

      pub config-sized : n < 128 ^ 4 → (w : ℕ) → w ≡ size_for n → Ok (w + 1 + n) ≡ decoder_size d info
      config-sized h w ew =
          by-true _ _ _ (decoder_sound (Some c) info)
          (both_true (config.sound c info) _ known.0 (lt-ltb (length (config_bytes c info)) (128 ^ 4) (omega (arith, known.1, h))))
          (ap Ok (let z : w + 1 + n ≡ length (descriptor_bytes 4 (config_bytes c info)) = omega (arith, ew, ap size_for known.1, known.1, length-descriptor 4 (config_bytes c info)) in z))
          ∙ ap (λ d. decoder_size d info) (sym e)

-- it is put where there is room
module _ (d : Option Config) (info : List ℕ) (at : ℕ) (out : List ℕ) (room : at + length (decoder_bytes d info) ≤ length out) (ok : decoder_sound d info ≡ true) where
  abbrev pub decoder-placed : Wrote
  decoder-placed = put.placed (decoder_bytes d info) (length (decoder_bytes d info)) at out

  pub none-put : d ≡ None → wrote (Ok at) out ≡ decoder-placed
  none-put e = nothing-put at out (omega (arith, room)) ∙ ap (λ d. put.placed (decoder_bytes d info) (length (decoder_bytes d info)) at out) (sym e)

  module _ (c : Config) (e : d ≡ Some c) (r : Result ℕ Refusal) (er : r ≡ size_of c info) where
    both : (config.sound c info ≡ true) × (ltb (length (config_bytes c info)) (128 ^ 4) ≡ true)
    both = and-true (config.sound c info) (ltb (length (config_bytes c info)) (128 ^ 4)) (ap (λ d. decoder_sound d info) (sym e) ∙ ok)

    pub config-told : (q : Refusal) → r ≡ Err q → ⊥
    config-told q f =
        let z : true ≡ false = sym both.0 ∙ (untold (config.sound c info) (length (config_bytes c info)) r er q f).0 in
        let v : ◌≡◌ {A = ℕ} 0 1 = cc z in
        omega arith

    module _ (n : ℕ) (f : r ≡ Ok n) (b1 : List ℕ) (p : Result ℕ Refusal) (f1 : wrote p b1 ≡ head_in 4 n at out) where
      its : n ≡ length (config_bytes c info)
      its = (told (config.sound c info) (length (config_bytes c info)) r er n f).1

      -- room for both
      room-for-both : at + length (head_bytes 4 n ++ config_bytes c info) ≤ length out
      room-for-both =
          omega (arith, room, ap (λ d. length (decoder_bytes d info)) e, ap (λ k. length (head_bytes 4 k ++ config_bytes c info)) its)

      pub head-put-is : wrote p b1 ≡ wrote (Ok (at + length (head_bytes 4 n))) (sets out at (head_bytes 4 n))
      head-put-is =
          f1
          ∙ sym (is_lt _ _ _ n (128 ^ 4) (omega (arith, its, ltb-true (length (config_bytes c info)) (128 ^ 4) both.1))
          (has_room (head_bytes 4 n) (size_for n + 1) at out (omega (arith, room-for-both, length-append (head_bytes 4 n) (config_bytes c info), length-head 4 n))))
          ∙ ap (λ k. wrote (Ok (at + k)) (sets out at (head_bytes 4 n))) (sym (length-head 4 n))

      pub decoder-put : (next : ℕ) → p ≡ Ok next → (b2 : List ℕ) (q : Result ℕ Refusal) → wrote q b2 ≡ config_in c info next b1 → wrote q b2 ≡ decoder-placed
      decoder-put next g b2 q f2 =
          behind (head_bytes 4 n) (config_bytes c info) at next out b1 p room-for-both head-put-is g b2 q (f2 ∙ sym (by-true _ _ _ (config.sound c info) both.0 refl))
          ∙ ap (λ k. wrote (Ok (at + length (head_bytes 4 k ++ config_bytes c info))) (sets out at (head_bytes 4 k ++ config_bytes c info))) its
          ∙ ap (λ d. wrote (Ok (at + length (decoder_bytes d info))) (sets out at (decoder_bytes d info))) (sym e)
          ∙ has_room (decoder_bytes d info) (length (decoder_bytes d info)) at out room

-- THE SLCONFIG

module _ (t : Bool) (sl : List ℕ) where
  sl-there : t ≡ true → sl_bytes t sl ≡ descriptor_bytes 6 sl
  sl-there e = sym (by-true (descriptor_bytes 6 sl) [] _ t e refl)

  sl-absent : t ≡ false → sl_bytes t sl ≡ []
  sl-absent e = sym (by-false (descriptor_bytes 6 sl) [] _ t e refl)

  says : (b : Bool) → t ≡ true → ltb (length sl) (128 ^ 4) ≡ b → sl_sound t sl ≡ b
  says b e q = sym (by-true _ _ _ t e (sym q))

  says-not : (b : Bool) → t ≡ false → eqb (length sl) 0 ≡ b → sl_sound t sl ≡ b
  says-not b e q = sym (by-false _ _ _ t e (sym q))

  pub sl-long : t ≡ true → 128 ^ 4 ≤ length sl → Err refusal.Unwritable ≡ sl_size t sl
  sl-long e h = by-false _ _ _ (sl_sound t sl) (says false e (le-ltb (length sl) (128 ^ 4) h)) refl

  pub sl-sized : t ≡ true → length sl < 128 ^ 4 → (w : ℕ) → w ≡ size_for (length sl) → Ok (w + 1 + length sl) ≡ sl_size t sl
  sl-sized e h w ew =
      by-true _ _ _ (sl_sound t sl) (says true e (lt-ltb (length sl) (128 ^ 4) h))
      (ap Ok (let z : w + 1 + length sl ≡ length (sl_bytes t sl) = omega (arith, ew, ap length (sl-there e), length-descriptor 6 sl) in z))

  pub sl-empty : t ≡ false → length sl ≡ 0 → Ok 0 ≡ sl_size t sl
  sl-empty e h = by-true _ _ _ (sl_sound t sl) (says-not true e (eq-eqb (length sl) 0 h)) (ap Ok (sym (ap length (sl-absent e))))

  pub sl-full : t ≡ false → (length sl ≡ 0 → ⊥) → Err refusal.Unwritable ≡ sl_size t sl
  sl-full e h = by-false _ _ _ (sl_sound t sl) (says-not false e (ne_eqb (length sl) 0 h)) refl

  module _ (at : ℕ) (out : List ℕ) where
    pub sl-put : t ≡ true → sl_sound t sl ≡ true → descriptor_in 6 sl at out ≡ put.placed (sl_bytes t sl) (length (sl_bytes t sl)) at out
    sl-put e ok =
        sym (is_lt _ _ _ (length sl) (128 ^ 4) (ltb-true (length sl) (128 ^ 4) (by-true _ _ _ t e refl ∙ ok)) refl)
        ∙ ap (λ l. put.placed l (length l) at out) (sym (sl-there e))

    pub no-sl-put : t ≡ false → at ≤ length out → wrote (Ok at) out ≡ put.placed (sl_bytes t sl) (length (sl_bytes t sl)) at out
    no-sl-put e h = nothing-put at out h ∙ ap (λ l. put.placed l (length l) at out) (sym (sl-absent e))

-- THE STREAM'S DESCRIPTOR

regroup : (a b c d : List ℕ) → a ++ b ++ c ++ d ≡ a ++ (b ++ c ++ d)
regroup a b c d = simp append_assoc

module _ (m : Esds) (url info sl : List ℕ) (ok : sound m url info sl ≡ true) (n : ℕ) (en : n ≡ length (content_bytes m url info sl)) (out : List ℕ)
    (room : 12 + length (descriptor_bytes 3 (content_bytes m url info sl)) ≤ length out) where
  abbrev pub head : List ℕ
  head = head_bytes 3 n

  abbrev pub x1 : List ℕ
  x1 = field_bytes m.stream url

  abbrev pub x2 : List ℕ
  x2 = decoder_bytes m.decoder info

  abbrev pub x3 : List ℕ
  x3 = sl_bytes m.has_sl sl

  all-is : head ++ x1 ++ x2 ++ x3 ≡ descriptor_bytes 3 (content_bytes m url info sl)
  all-is = regroup head x1 x2 x3 ∙ ap (λ k. head_bytes 3 k ++ content_bytes m url info sl) en

  room-for-all : 12 + length (head ++ x1 ++ x2 ++ x3) ≤ length out
  room-for-all = omega (arith, room, ap length all-is)

  room-for-three : 12 + length (head ++ x1 ++ x2) ≤ length out
  room-for-three = omega (arith, room-for-all, length-append (head ++ x1 ++ x2) x3)

  room-for-two : 12 + length (head ++ x1) ≤ length out
  room-for-two = omega (arith, room-for-three, length-append (head ++ x1) x2)

  module _ (b1 : List ℕ) (p : Result ℕ Refusal) (f1 : wrote p b1 ≡ head_in 3 n 12 out) where
    pub one-put : wrote p b1 ≡ wrote (Ok (12 + length head)) (sets out 12 head)
    one-put =
        f1
        ∙ sym (is_lt _ _ _ n (128 ^ 4) (omega (arith, en, (sounds m url info sl ok).small))
        (has_room head (size_for n + 1) 12 out (omega (arith, room-for-two, length-append head x1, length-head 3 n))))
        ∙ ap (λ k. wrote (Ok (12 + k)) (sets out 12 head)) (sym (length-head 3 n))

    module _ (a1 : ℕ) (g1 : p ≡ Ok a1) (b2 : List ℕ) (q : Result ℕ Refusal) (f2 : wrote q b2 ≡ fields_in m.stream url a1 b1) where
      pub two-put : wrote q b2 ≡ wrote (Ok (12 + length (head ++ x1))) (sets out 12 (head ++ x1))
      two-put =
          behind head x1 12 a1 out b1 p room-for-two one-put g1 b2 q
          (f2 ∙ sym (by-true _ _ _ (es.sound m.stream url) (sounds m url info sl ok).fields-ok refl))

      module _ (a2 : ℕ) (g2 : q ≡ Ok a2) where
        pub decoder-room : a2 + length (decoder_bytes m.decoder info) ≤ length b2
        decoder-room = room-behind (head ++ x1) x2 12 a2 out b2 q room-for-three two-put g2

        module _ (b3 : List ℕ) (r : Result ℕ Refusal) (f3 : wrote r b3 ≡ put.placed (decoder_bytes m.decoder info) (length (decoder_bytes m.decoder info)) a2 b2) where
          pub three-put : wrote r b3 ≡ wrote (Ok (12 + length (head ++ x1 ++ x2))) (sets out 12 (head ++ x1 ++ x2))
          three-put = behind (head ++ x1) x2 12 a2 out b2 q room-for-three two-put g2 b3 r f3

          module _ (a3 : ℕ) (g3 : r ≡ Ok a3) where
            pub sl-room : a3 + length (sl_bytes m.has_sl sl) ≤ length b3
            sl-room = room-behind (head ++ x1 ++ x2) x3 12 a3 out b3 r room-for-all three-put g3

            pub stream-put : (b4 : List ℕ) (t : Result ℕ Refusal) → wrote t b4 ≡ put.placed (sl_bytes m.has_sl sl) (length (sl_bytes m.has_sl sl)) a3 b3 →
                wrote t b4 ≡ put.placed (descriptor_bytes 3 (content_bytes m url info sl)) (length (descriptor_bytes 3 (content_bytes m url info sl))) 12 out
            stream-put b4 t f4 =
                behind (head ++ x1 ++ x2) x3 12 a3 out b3 r room-for-all three-put g3 b4 t f4
                ∙ ap (λ l. wrote (Ok (12 + length l)) (sets out 12 l)) all-is
                ∙ has_room (descriptor_bytes 3 (content_bytes m url info sl)) (length (descriptor_bytes 3 (content_bytes m url info sl))) 12 out room

-- VERSION AND FLAGS

lay-is : (r : Rule) (x : ℕ) (m : Made) → r.low ≤ x → x ≤ r.high → lay r x m ≡ after (bytes r.width x) m
unfolding lay
lay-is r x m l h = sym (not-lt _ _ _ x r.low l (not-lt _ _ _ r.high x h refl))

lay-high : (r : Rule) (x : ℕ) (m : Made) → r.low ≤ x → r.high < x → lay r x m ≡ bad
unfolding lay
lay-high r x m l h = sym (not-lt _ _ _ x r.low l (is_lt _ _ _ r.high x h refl))

abbrev row : ℕ → Made
row f = encode fields (slotted (0 ∷ f ∷ [])) 0 0 0

coded : (f : ℕ) → f < 2 ^ 24 → row f ≡ made (bytes 1 0 ++ bytes 3 f)
unfolding encode rule_of lay when bytes
coded f hf =
    lay-is (rule_of (Version 0 0) 0 0) 0 (lay (rule_of Flags 0 0) f (made [])) (omega arith) (omega arith)
    ∙ ap (after (bytes 1 0)) (lay-is (rule_of Flags 0 0) f (made []) (omega arith) (omega arith))
    ∙ ap (λ l. made (bytes 1 0 ++ l)) (append-nil (bytes 3 f))

no-flags : (f : ℕ) → 2 ^ 24 - 1 < f → row f ≡ bad
unfolding encode rule_of lay when bytes
no-flags f hf =
    lay-is (rule_of (Version 0 0) 0 0) 0 (lay (rule_of Flags 0 0) f (made [])) (omega arith) (omega arith)
    ∙ ap (after (bytes 1 0)) (lay-high (rule_of Flags 0 0) f (made []) (omega arith) (omega arith))

-- THE WRITER'S RETURNS

module _ (m : Esds) (url info sl buf : List ℕ) where
  unsound : sound m url info sl ≡ false → wrote (Err refusal.Unwritable) buf ≡ esds_in m url info sl buf
  unsound h = by-false _ _ _ (sound m url info sl) h refl

  module _ (r1 : Result ℕ Refusal) (e1 : r1 ≡ es.size_of m.stream url) where
    pub no_fields : (q : Refusal) → r1 ≡ Err q → wrote (Err q) buf ≡ esds_in m url info sl buf
    no_fields q f =
        let z = untold (es.sound m.stream url) (length (field_bytes m.stream url)) r1 e1 q f in
        ap (λ q. wrote (Err q) buf) z.1 ∙ unsound (first-false _ _ (first-false _ _ (first-false (es.sound m.stream url) _ z.0)))

    module _ (first : ℕ) (g1 : r1 ≡ Ok first) (r2 : Result ℕ Refusal) (e2 : r2 ≡ decoder_size m.decoder info) where
      one : (es.sound m.stream url ≡ true) × (first ≡ length (field_bytes m.stream url))
      one = told (es.sound m.stream url) (length (field_bytes m.stream url)) r1 e1 first g1

      pub no-decoder : (q : Refusal) → r2 ≡ Err q → wrote (Err q) buf ≡ esds_in m url info sl buf
      no-decoder q f =
          let z = untold (decoder_sound m.decoder info) (length (decoder_bytes m.decoder info)) r2 e2 q f in
          ap (λ q. wrote (Err q) buf) z.1 ∙ unsound (first-false _ _ (first-false _ _ (last-false (es.sound m.stream url) _ one.0 z.0)))

      module _ (second : ℕ) (g2 : r2 ≡ Ok second) (r3 : Result ℕ Refusal) (e3 : r3 ≡ sl_size m.has_sl sl) where
        two : (decoder_sound m.decoder info ≡ true) × (second ≡ length (decoder_bytes m.decoder info))
        two = told (decoder_sound m.decoder info) (length (decoder_bytes m.decoder info)) r2 e2 second g2

        pub no-sl : (q : Refusal) → r3 ≡ Err q → wrote (Err q) buf ≡ esds_in m url info sl buf
        no-sl q f =
            let z = untold (sl_sound m.has_sl sl) (length (sl_bytes m.has_sl sl)) r3 e3 q f in
            ap (λ q. wrote (Err q) buf) z.1 ∙ unsound (first-false _ _ (last-false (es.sound m.stream url && decoder_sound m.decoder info) _ (both_true (es.sound m.stream url) _ one.0 two.0) z.0))

        module _ (third : ℕ) (g3 : r3 ≡ Ok third) where
          three : (sl_sound m.has_sl sl ≡ true) × (third ≡ length (sl_bytes m.has_sl sl))
          three = told (sl_sound m.has_sl sl) (length (sl_bytes m.has_sl sl)) r3 e3 third g3

          pub sum_is : first + second + third ≡ length (content_bytes m url info sl)
          sum_is = omega (arith, one.1, two.1, three.1, length-content m url info sl)

          parts-ok : es.sound m.stream url && decoder_sound m.decoder info && sl_sound m.has_sl sl ≡ true
          parts-ok = both_true (es.sound m.stream url && decoder_sound m.decoder info) _ (both_true (es.sound m.stream url) _ one.0 two.0) three.0

          pub too_long : 128 ^ 4 ≤ first + second + third → wrote (Err refusal.Unwritable) buf ≡ esds_in m url info sl buf
          too_long h =
              unsound (last-false (es.sound m.stream url && decoder_sound m.decoder info && sl_sound m.has_sl sl) _ parts-ok
              (le-ltb (length (content_bytes m url info sl)) (128 ^ 4) (omega (arith, sum_is, h))))

          module _ (h : first + second + third < 128 ^ 4) where
            pub is-sound : sound m url info sl ≡ true
            is-sound =
                both_true (es.sound m.stream url && decoder_sound m.decoder info && sl_sound m.has_sl sl) _ parts-ok
                (lt-ltb (length (content_bytes m url info sl)) (128 ^ 4) (omega (arith, sum_is, h)))

            made_so : (z : Wrote) (x : Made) → row m.flags ≡ x → z ≡ placed kind (descriptor_bytes 3 (content_bytes m url info sl)) buf x → z ≡ esds_in m url info sl buf
            made_so z x e q = by-true _ _ _ (sound m url info sl) is-sound (q ∙ ap (placed kind (descriptor_bytes 3 (content_bytes m url info sl)) buf) (sym e))

            pub long-flags : 2 ^ 24 - 1 < m.flags → wrote (Err refusal.Unwritable) buf ≡ esds_in m url info sl buf
            long-flags k = made_so _ bad (no-flags m.flags k) refl

            module _ (hf : m.flags ≤ 2 ^ 24 - 1) (w : ℕ) (ew : w ≡ size_for (first + second + third)) where
              code : List ℕ
              code = bytes 1 0 ++ bytes 3 m.flags

              all : List ℕ
              unfolding code
              all = full kind code (descriptor_bytes 3 (content_bytes m url info sl))

              code-long : length code ≡ 4
              unfolding code
              code-long = length-append (bytes 1 0) (bytes 3 m.flags) ∙ ap₂ (λ (i j : ℕ). i + j) (length-bytes 1 0) (length-bytes 3 m.flags)

              long : length all ≡ 12 + length (descriptor_bytes 3 (content_bytes m url info sl))
              unfolding all
              long = omega (arith, length-full kind code (descriptor_bytes 3 (content_bytes m url info sl)), code-long)

              same : 13 + w + (first + second + third) ≡ length all
              same = omega (arith, long, length-descriptor 3 (content_bytes m url info sl), sum_is, ew, ap size_for sum_is)

              pub all_room : 13 + w + (first + second + third) ≤ length buf → 12 + length (descriptor_bytes 3 (content_bytes m url info sl)) ≤ length buf
              all_room b = omega (arith, same, long, b)

              so : (z : Wrote) → z ≡ place buf all → z ≡ esds_in m url info sl buf
              unfolding all code
              so z q = made_so z (made code) (coded m.flags (omega (arith, hf))) q

              pub too_small : w ≤ 4 → length buf < 13 + w + (first + second + third) → wrote (Err (refusal.TooSmall (13 + w + (first + second + third)))) buf ≡ esds_in m url info sl buf
              too_small k b =
                  so _ (not-lt _ _ _ (2 ^ 32 - 1) (length all) (omega (arith, same, h, k))
                  (is_lt _ _ _ (length buf) (length all) (omega (arith, same, b)) (ap (λ n. wrote (Err (refusal.TooSmall n)) buf) same)))

              module _ (k : w ≤ 4) (b : 13 + w + (first + second + third) ≤ length buf) (b1 : List ℕ) (p : Result ℕ Refusal)
                  (f1 : wrote p b1 ≡ header_in kind (13 + w + (first + second + third)) 0 buf) where
                total : ℕ
                total = 13 + w + (first + second + third)

                head8 : length (plain_bytes kind total) ≡ 8
                unfolding total
                head8 = length-append (bytes 4 total) (bytes 4 kind) ∙ ap₂ (λ (i j : ℕ). i + j) (length-bytes 4 total) (length-bytes 4 kind)

                header-put : b1 ≡ sets buf 0 (plain_bytes kind total)
                unfolding total
                header-put = headed kind total buf b1 p (omega arith) (omega (arith, h, k)) (omega (arith, b)) f1

                module _ (b2 : List ℕ) (q : Result ℕ Refusal) (f2 : wrote q b2 ≡ full_in 0 m.flags 8 b1) where
                  full-put : b2 ≡ sets b1 8 code
                  unfolding code total
                  full-put =
                      cc (f2 ∙ sym (is_lt _ _ _ m.flags (2 ^ 24) (omega (arith, hf)) (has_room code 4 8 b1 (let z : 8 + 4 ≤ length b1 = omega (arith, same-long buf b1 (plain_bytes kind total) 0 header-put, b) in z))))

                  pub box-long : length b2 ≡ length buf
                  box-long = same-long b1 b2 code 8 full-put ∙ same-long buf b1 (plain_bytes kind total) 0 header-put

                  pub all-put : (b3 : List ℕ) (r : Result ℕ Refusal) →
                      wrote r b3 ≡ put.placed (descriptor_bytes 3 (content_bytes m url info sl)) (length (descriptor_bytes 3 (content_bytes m url info sl))) 12 b2 → wrote r b3 ≡ esds_in m url info sl buf
                  unfolding all code total
                  all-put b3 r f3 =
                      let t = descriptor_bytes 3 (content_bytes m url info sl) in
                      let head = plain_bytes kind total in
                      let t2 : b2 ≡ sets buf 0 (head ++ code) = more buf b1 b2 head code 0 8 header-put full-put (omega (arith, head8)) in
                      let t3 : sets b2 12 t ≡ sets buf 0 (head ++ code ++ t) = more buf b2 _ (head ++ code) t 0 12 t2 refl (omega (arith, head8, code-long, length-append head code)) in
                      let ea : head ++ code ++ t ≡ all = ap (λ n. bytes 4 n ++ bytes 4 kind ++ code ++ t) (same ∙ length-full kind code t) in
                      let t4 : sets b2 12 t ≡ all ++ drop (length all) buf =
                      t3 ∙ ap (sets buf 0) ea ∙ sets-eq all buf 0 (let f : 0 + length all ≤ length buf = omega (arith, same, b) in f)
                      ∙ ap (λ k. all ++ drop k buf) (zero-add (length all)) in
                      so _ (not-lt _ _ _ (2 ^ 32 - 1) (length all) (omega (arith, same, h, k))
                      (not-lt _ _ _ (length buf) (length all) (omega (arith, same, b))
                      (f3 ∙ sym (has_room t (length t) 12 b2 (omega (arith, all_room b, box-long))) ∙ ap₂ (λ (n : ℕ) (b : List ℕ). wrote (Ok n) b) (sym long) t4)))
