-- A canonical box, read and written, gives its own bytes. Canonical is a box with the shortest lengths and nothing else in
-- it: its ES_Descriptor has no more bytes than the record and the parts need. Assumes nothing.
use Rattle.std.specs.Prelude.{Result, Option, Ok, Err, Some, None}
use mathlib.Core.Path.{◌≡◌, refl, sym, ap, ap₂, subst, ◌∙◌}
use mathlib.Core.List.{List, [], ◌∷◌, ◌++◌}
use mathlib.Core.Bool.{Bool, true, false, ◌&&◌}
use mathlib.Core.Logic.{◌⊎◌, ⊎_elim}
use Prim.Native.Nat.{ℕ, ◌+◌, ◌-◌, ◌^◌, ◌≤◌}
use native.Mathlib.Omega.{arith}
use lib.ListN.{length, take, drop, get_or}
use lib.Seq.{take-length, length-take-le}
use lib.Dec.{eqb, leb}
use borrow.Author.Tests.{eqb-true, eqb-false, leb-true, lt-ltb}
use Rattle.numbers.specs.Number.{be}
use Rattle.numbers.specs.Field.{when}
use Rattle.numbers.specs.declared.Refusal.TheVariants as refusal
use Rattle.numbers.specs.declared.Refusal.{Refusal}
use Rattle.numbers.proofs.Laws.{Bytes}
use Rattle.numbers.proofs.Chain.{whole, is_le, by-true, way, field-way}
use Rattle.put.specs.Put.{wrote}
use Rattle.layout.specs.Rule.{rule_of}
use Rattle.layout.specs.Read.{read_of}
use Rattle.layout.specs.Write.{slotted, write_of}
use Rattle.layout.specs.Canonical.{slots, firsts, most, limit, canonical_of, Canonical}
use Rattle.rounds.proofs.Boxes.{fields_in, own_read, own-bytes, fits}
use Rattle.rounds.proofs.Decided.{writes-canonical}
use Rattle.descriptor.specs.Descriptor.{size_for, head_by, head_of, length_of}
use Rattle.descriptor.proofs.Laws.{headed}
use Rattle.descriptors.specs.Descriptors.{seek_of, span, descriptor_bytes}
use Rattle.descriptors.proofs.Laws as walk
use Rattle.descriptors.proofs.Puts.{length-descriptor}
use Rattle.descriptors.proofs.Own.{length-span, span_none, span-join, span-end, span-take, bytes_take, stands, content-small, content-long, reaches, descriptor-own}
use Rattle.decoderconfig.specs.DecoderConfig.{config_of, config_bytes, info_bytes}
use Rattle.decoderconfig.specs.DecoderConfig as config
use Rattle.decoderconfig.specs.declared.Config.{Config}
use Rattle.decoderconfig.proofs.Puts.{length-config}
use Rattle.decoderconfig.proofs.ConfigOwn.{config-own}
use Rattle.esfields.specs.EsFields.{wide, fields_of}
use Rattle.esfields.specs.EsFields as es
use Rattle.esfields.specs.declared.Stream.{Stream}
use Rattle.esfields.proofs.Puts.{length_fields}
use Rattle.esfields.proofs.FieldsOwn.{fields-own}
use Rattle.esds.specs.Esds.{kind, fields, behind, last_of, after_config, configured, first_of, tail_of, esds, places, with_tail, with_fields, content_of, lengthed, stream_of, full_of, esds_of, span_of, url_of, info_of, sl_of, decoder_bytes, sl_bytes, content_bytes, decoder_sound, sl_sound, sound, esds_in}
use Rattle.esds.specs.declared.Esds.{Esds}
use Rattle.esds.specs.declared.Places.{Places}
use Rattle.esds.specs.declared.Parts.{Parts}
use Rattle.esds.proofs.Sounds.{length-content}
use Rattle.esds.proofs.EsdsLaws.{esds-back}
use Rattle.descriptor.specs.declared.Length.{Length}
use Rattle.descriptors.specs.declared.Sought.{Sought}
use Rattle.descriptor.specs.Descriptor.{head_record}
use Rattle.descriptor.specs.Descriptor.{length_record}
use Rattle.descriptors.specs.Descriptors.{sought_record}

-- HOW MANY BYTES ARE NEEDED, of parts with so many bytes

-- a descriptor with n bytes, its length in the shortest form
abbrev pub descriptor_needs : ℕ → ℕ
descriptor_needs n = size_for n + 1 + n

abbrev pub decoder_needs : Option Config → ℕ → ℕ
decoder_needs None info = 0
decoder_needs (Some c) info = descriptor_needs (13 + when c.has_info (descriptor_needs info) 0)

abbrev pub fields_need : Stream → ℕ → ℕ
fields_need m url = 3 + wide m.flags 0x80 2 + wide m.flags 0x40 1 + url + wide m.flags 0x20 2

-- the ES_Descriptor
abbrev pub needs : Esds → ℕ → ℕ → ℕ → ℕ
needs m url info sl = descriptor_needs (fields_need m.stream url + decoder_needs m.decoder info + when m.has_sl (descriptor_needs sl) 0)

-- what is written has as many
module _ (m : Esds) (url info sl : List ℕ) where
  sl-needs : (t : Bool) → when t (descriptor_needs (length sl)) 0 ≡ length (sl_bytes t sl)
  unfolding when
  sl-needs true = sym (length-descriptor 6 sl)
  sl-needs false = refl

  info-needs : (t : Bool) → when t (descriptor_needs (length info)) 0 ≡ length (info_bytes t info)
  unfolding when
  info-needs true = sym (length-descriptor 5 info)
  info-needs false = refl

  decoder-needs : (d : Option Config) → decoder_needs d (length info) ≡ length (decoder_bytes d info)
  decoder-needs None = refl
  decoder-needs (Some c) =
      ap descriptor_needs (ap (λ n. 13 + n) (info-needs c.has_info) ∙ sym (length-config c info)) ∙ sym (length-descriptor 4 (config_bytes c info))

  pub written-needs : needs m (length url) (length info) (length sl) ≡ length (descriptor_bytes 3 (content_bytes m url info sl))
  written-needs =
      ap descriptor_needs
      (ap₂ (λ (i j : ℕ). i + j) (ap₂ (λ (i j : ℕ). i + j) (sym (length_fields m.stream url)) (decoder-needs m.decoder)) (sl-needs m.has_sl)
      ∙ sym (length-content m url info sl))
      ∙ sym (length-descriptor 3 (content_bytes m url info sl))

-- THE SLCONFIG, or nothing

record Last (has : Bool) (s : List ℕ) (at from to : ℕ) : Type 0 where
  inside : (from ≤ to) × (to ≤ length s)
  room : at + length (sl_bytes has (span s from to)) ≤ length s
  own : at + length (sl_bytes has (span s from to)) ≡ length s → span s at (length s) ≡ sl_bytes has (span s from to)
  ok : sl_sound has (span s from to) ≡ true

module _ (s : List ℕ) (at : ℕ) where
  last_none : at ≤ length s → Last false s at 0 0
  unfolding when
  last_none h =
      record {
        inside = (omega arith, omega arith);
        room = omega (arith, h);
        own = λ e. ap (span s at) (let z : length s ≡ at = omega (arith, e) in z) ∙ span_none s at;
        ok = refl;
      }

  last_some : Bytes s → (one t p f e : ℕ) → seek_of s at one 6 ≡ Ok (Some (sought_record t p f e)) → t ≡ 6 → Last true s at f e
  unfolding when
  last_some b one t p f e q six =
      let h = walk.sought s one 6 t p f e at q in
      let k = stands s one 6 t p f e at q in
      let g = headed s p t f e h in
      let x = span s f e in
      let l : length x ≡ e - f = length-span s f e (omega (arith, g.content)) g.inside in
      let lt = length-descriptor t x in
      let l6 = length-descriptor 6 x in
      let r = reaches s at p t f e k.0 h x (omega (arith, l)) in
      record {
        inside = (omega (arith, g.content), g.inside);
        room = omega (arith, r, lt, l6, g.inside);
        own = λ w.
            let z : e ≡ length s = omega (arith, r, lt, l6, g.inside, w) in
            ap (span s at) (sym z) ∙ descriptor-own s at p t f e k.0 h x (omega (arith, l)) (omega (arith, w, z, lt, l6)) b refl
            ∙ ap (λ t. descriptor_bytes t x) six;
        ok = lt-ltb (length x) (128 ^ 4) (content-small s at p t f e k.0 h x (omega (arith, l)));
      }

  last-moved : (h g : Bool) (f e from to : ℕ) → h ≡ g → f ≡ from → e ≡ to → Last h s at f e → Last g s at from to
  last-moved h g f e from to eh ef ee w =
      subst (λ (h : Bool). Last h s at from to) eh (subst (λ (f : ℕ). Last h s at f to) ef (subst (λ (e : ℕ). Last h s at f e) ee w))

-- THE DECODERCONFIG, or nothing, up to a place

record First (d : Option Config) (s : List ℕ) (at to i j : ℕ) : Type 0 where
  inside : (i ≤ j) × (j ≤ length s)
  room : at + length (decoder_bytes d (span s i j)) ≤ to
  own : at + length (decoder_bytes d (span s i j)) ≡ to → span s at to ≡ decoder_bytes d (span s i j)
  ok : decoder_sound d (span s i j) ≡ true

module _ (s : List ℕ) (at : ℕ) where
  first-none : First None s at at 0 0
  first-none = record { inside = (omega arith, omega arith); room = omega arith; own = λ e. span_none s at; ok = refl }

  first_some : Bytes s → (t p f e : ℕ) → seek_of s at 4 6 ≡ Ok (Some (sought_record t p f e)) → t ≡ 4 → (c : Config) (i j : ℕ) → config_of (take e s) f ≡ Ok (c, i, j) → First (Some c) s at e i j
  first_some b t p f e q four c i j r =
      let h = walk.sought s 4 6 t p f e at q in
      let k = stands s 4 6 t p f e at q in
      let g = headed s p t f e h in
      let n : length (take e s) ≡ e = length-take-le e s g.inside in
      let w = config-own (take e s) f (bytes_take e s b) c i j r in
      let ei : span (take e s) i j ≡ span s i j = span-take s e i j w.info-in.0 w.info-in.1 in
      let x = config_bytes c (span s i j) in
      let ex : config_bytes c (span (take e s) i j) ≡ x = ap (config_bytes c) ei in
      let el = ap length ex in
      let l : length x ≤ e - f = omega (arith, el, n, w.room) in
      let lt = length-descriptor t x in
      let l4 = length-descriptor 4 x in
      let z : span (take e s) f e ≡ span s f e = span-take s e f e (omega (arith, g.content)) (omega (arith, n)) in
      record {
        inside = (w.info-in.0, omega (arith, w.info-in.1, n, g.inside));
        room = omega (arith, reaches s at p t f e k.0 h x l, lt, l4);
        own = λ v.
            let u : at + length (descriptor_bytes t x) ≡ e = omega (arith, v, lt, l4) in
            let y = content-long s at p t f e k.0 h x l u in
            descriptor-own s at p t f e k.0 h x l u b
            (sym z ∙ ap (span (take e s) f) (sym n) ∙ w.bytes-own (omega (arith, el, y, n, g.content)) ∙ ex)
            ∙ ap (λ t. descriptor_bytes t x) four;
        ok = both (config.sound c (span s i j)) _ (ap (config.sound c) (sym ei) ∙ w.own-sound) (lt-ltb (length x) (128 ^ 4) (content-small s at p t f e k.0 h x l));
      }
    where
      both : (a b : Bool) → a ≡ true → b ≡ true → a && b ≡ true
      both a b p q = simp (p, q)

  first-moved : (d c : Option Config) (to f e i j : ℕ) → d ≡ c → f ≡ i → e ≡ j → First d s at to f e → First c s at to i j
  first-moved d c to f e i j ed ef ee w =
      subst (λ (d : Option Config). First d s at to i j) ed (subst (λ (f : ℕ). First d s at to f j) ef (subst (λ (e : ℕ). First d s at to f e) ee w))

-- BEHIND THE FIELDS

-- both, the one behind the other
record Rest (d : Option Config) (has : Bool) (o : Parts) (s : List ℕ) (at : ℕ) : Type 0 where
  middle : ℕ
  first : First d s at middle o.info o.info_end
  last : Last has s middle o.sl o.sl_end

module _ (s : List ℕ) (b : Bytes s) (d : Option Config) (has : Bool) (o : Parts) where
  refused : {A : Type 0} (q : Refusal) → ◌≡◌ {A = Result (Option Config × Bool × Parts) Refusal} (Err q) (Ok (d, has, o)) → A
  refused q e = let z : ◌≡◌ {A = ℕ} 0 1 = cc e in absurd (omega arith)

  moved : (c : Option Config) (h : Bool) (i j f e at to : ℕ) → behind c h i j f e ≡ Ok (d, has, o) → First c s at to i j → Last h s to f e → Rest d has o s at
  moved c h i j f e at to q w v =
      let k : ◌≡◌ {A = Option Config × Bool × Parts} (c, h, record { info = i; info_end = j; sl = f; sl_end = e }) (d, has, o) = cc q in
      let k1 : c ≡ d = ap (λ (t : Option Config × Bool × Parts). t.0) k in
      let k2 : h ≡ has = ap (λ (t : Option Config × Bool × Parts). t.1) k in
      let k3 : i ≡ o.info = ap (λ (t : Option Config × Bool × Parts). (t.2).info) k in
      let k4 : j ≡ o.info_end = ap (λ (t : Option Config × Bool × Parts). (t.2).info_end) k in
      let k5 : f ≡ o.sl = ap (λ (t : Option Config × Bool × Parts). (t.2).sl) k in
      let k6 : e ≡ o.sl_end = ap (λ (t : Option Config × Bool × Parts). (t.2).sl_end) k in
      record { middle = to; first = first-moved s at c d to i j o.info o.info_end k1 k3 k4 w; last = last-moved s to h has f e o.sl o.sl_end k2 k5 k6 v }

  after-own : (at to : ℕ) (c : Config) (i j : ℕ) → to ≤ length s → First (Some c) s at to i j → after_config s to c i j ≡ Ok (d, has, o) → Rest d has o s at
  after-own at to c i j l w h = by (seek_of s to 6 6) refl h
    where
      by : (x : Result (Option Sought) Refusal) → seek_of s to 6 6 ≡ x → last_of c i j x ≡ Ok (d, has, o) → Rest d has o s at
      by (Ok None) e h = moved (Some c) false i j 0 0 at to h w (last_none s to l)
      by (Ok (Some r)) e h =
          moved (Some c) true i j r.from r.to at to h w
          (last_some s to b 6 r.tag r.at r.from r.to e (⊎_elim (λ y. y) (λ y. y) (stands s 6 6 r.tag r.at r.from r.to to e).1))
      by (Err q) e h = refused q h

  rest-own : (at : ℕ) → at ≤ length s → tail_of s at ≡ Ok (d, has, o) → Rest d has o s at
  rest-own at l h = by (seek_of s at 4 6) refl h
    where
      four : (t : ℕ) → (t ≡ 6 → ⊥) → (t ≡ 4) ⊎ (t ≡ 6) → t ≡ 4
      four t n k = ⊎_elim (λ y. y) (λ y. absurd (n y)) k

      on : (t p f g : ℕ) (y : Result (Config × ℕ × ℕ) Refusal) → seek_of s at 4 6 ≡ Ok (Some (sought_record t p f g)) → t ≡ 4 → config_of (take g s) f ≡ y → configured s g y ≡ Ok (d, has, o) → Rest d has o s at
      on t p f g (Err q) e n r h = refused q h
      on t p f g (Ok (c, i, j)) e n r h =
          after-own at g c i j (headed s p t f g (walk.sought s 4 6 t p f g at e)).inside (first_some s at b t p f g e n c i j r) h

      by : (x : Result (Option Sought) Refusal) → seek_of s at 4 6 ≡ x → first_of s x ≡ Ok (d, has, o) → Rest d has o s at
      by (Ok None) e h = moved None false 0 0 0 0 at at h (first-none s at) (last_none s at l)
      by (Err q) e h = refused q h
      by (Ok (Some r)) e h =
          let t = r.tag in
          let p = r.at in
          let f = r.from in
          let g = r.to in
          ⊎_elim (λ y. moved None true 0 0 f g at at y.1 (first-none s at) (last_some s at b 4 t p f g e (eqb-true t 6 y.0)))
          (λ y. on t p f g (config_of (take g s) f) e (four t (eqb-false t 6 y.0) (stands s 4 6 t p f g at e).1) refl y.1)
          (way (eqb t 6) _ _ _ h)

-- THE CONTENT

abbrev url-of : Places → List ℕ → List ℕ
url-of p s = span s p.url p.url_end

abbrev info-of : Places → List ℕ → List ℕ
info-of p s = span s p.info p.info_end

abbrev sl-of : Places → List ℕ → List ℕ
sl-of p s = span s p.sl p.sl_end

record Content (m : Esds) (p : Places) (s : List ℕ) (at fl : ℕ) : Type 0 where
  flags : m.flags ≡ fl
  url-in : (p.url ≤ p.url_end) × (p.url_end ≤ length s)
  info-in : (p.info ≤ p.info_end) × (p.info_end ≤ length s)
  sl-in : (p.sl ≤ p.sl_end) × (p.sl_end ≤ length s)
  room : at + length (content_bytes m (url-of p s) (info-of p s) (sl-of p s)) ≤ length s
  own : at + length (content_bytes m (url-of p s) (info-of p s) (sl-of p s)) ≡ length s → span s at (length s) ≡ content_bytes m (url-of p s) (info-of p s) (sl-of p s)
  fields-ok : es.sound m.stream (url-of p s) ≡ true
  decoder-ok : decoder_sound m.decoder (info-of p s) ≡ true
  sl-ok : sl_sound m.has_sl (sl-of p s) ≡ true

module _ (s : List ℕ) (b : Bytes s) (at fl : ℕ) where
  as_read : (x : Stream) (u v end : ℕ) (d : Option Config) (has : Bool) (o : Parts) → fields_of s at ≡ Ok (x, u, v, end) → tail_of s end ≡ Ok (d, has, o) →
      Content (esds fl x d has) (places u v o) s at fl
  as_read x u v end d has o e g =
      let f = fields-own s at b x u v end e in
      let r = rest-own s b d has o end f.url-in.2 g in
      let w1 = r.first in
      let w2 = r.last in
      let to = r.middle in
      let m = esds fl x d has in
      let url = span s u v in
      let i = span s o.info o.info_end in
      let sl = span s o.sl o.sl_end in
      let l = length-content m url i sl in
      record {
        flags = refl;
        url-in = (f.url-in.0, omega (arith, f.url-in.1, f.url-in.2));
        info-in = w1.inside;
        sl-in = w2.inside;
        room = omega (arith, l, f.long, w1.room, w2.room);
        own = λ q.
            span-join s at to (length s) (omega (arith, f.long, w1.room)) (omega (arith, w2.room))
            ∙ ap₂ (λ (x y : List ℕ). x ++ y)
            (span-join s at end to (omega (arith, f.long)) (omega (arith, w1.room))
            ∙ ap₂ (λ (x y : List ℕ). x ++ y) f.bytes-own (w1.own (omega (arith, l, f.long, w1.room, w2.room, q))))
            (w2.own (omega (arith, l, f.long, w1.room, w2.room, q)));
        fields-ok = f.own-sound;
        decoder-ok = w1.ok;
        sl-ok = w2.ok;
      }

  content-own : (m : Esds) (p : Places) → content_of s at fl ≡ Ok (m, p) → Content m p s at fl
  content-own m p h = by (fields_of s at) refl h
    where
      on : (x : Stream) (u v end : ℕ) (y : Result ((Option Config) × Bool × Parts) Refusal) → fields_of s at ≡ Ok (x, u, v, end) → tail_of s end ≡ y → with_tail fl x u v y ≡ Ok (m, p) → Content m p s at fl
      on x u v end (Err q) e g h = let z : ◌≡◌ {A = ℕ} 0 1 = cc h in absurd (omega arith)
      on x u v end (Ok (d, has, o)) e g h =
          let r : ◌≡◌ {A = Esds × Places} (esds fl x d has, places u v o) (m, p) = cc h in
          let em : esds fl x d has ≡ m = ap (λ (t : Esds × Places). t.0) r in
          let ep : places u v o ≡ p = ap (λ (t : Esds × Places). t.1) r in
          subst (λ (m : Esds). Content m p s at fl) em (subst (λ (p : Places). Content (esds fl x d has) p s at fl) ep (as_read x u v end d has o e g))

      by : (x : Result (Stream × ℕ × ℕ × ℕ) Refusal) → fields_of s at ≡ x → with_fields s fl x ≡ Ok (m, p) → Content m p s at fl
      by (Err q) e h = let z : ◌≡◌ {A = ℕ} 0 1 = cc h in absurd (omega arith)
      by (Ok (x, u, v, end)) e h = on x u v end (tail_of s end) e refl h

-- THE STREAM'S DESCRIPTOR

-- it ends where the bytes do, when they are no more than are needed
record Own (m : Esds) (p : Places) (b : List ℕ) (at fl : ℕ) : Type 0 where
  flags : m.flags ≡ fl
  own : at + length (descriptor_bytes 3 (content_bytes m (url-of p b) (info-of p b) (sl-of p b))) ≡ length b → descriptor_bytes 3 (content_bytes m (url-of p b) (info-of p b) (sl-of p b)) ≡ drop at b
  ok : sound m (url-of p b) (info-of p b) (sl-of p b) ≡ true

all_true : (a b c d : Bool) → a ≡ true → b ≡ true → c ≡ true → d ≡ true → a && b && c && d ≡ true
all_true a b c d p q r s = simp (p, q, r, s)

module _ (b : List ℕ) (y : Bytes b) (at fl : ℕ) (m : Esds) (p : Places) where
  head-there : (n from : ℕ) → at + 1 ≤ length b → be 1 b at ≡ 3 → length_of b (at + 1) ≡ Ok (length_record n from) → from + n ≤ length b → head_of b at ≡ Ok (head_record 3 from (from + n))
  unfolding head_by
  head-there n from h t v l =
      sym (whole 1 b at Err _ _ 3 h (sym t)
      (is_le (Ok (head_record 3 from (from + n))) (Err (refusal.Cut at)) _ (from + n) (length b) l refl ∙ ap (head_by b at 3) (sym v)))

  content-told : (n from : ℕ) → head_of b at ≡ Ok (head_record 3 from (from + n)) → content_of (take (from + n) b) from fl ≡ Ok (m, p) → Own m p b at fl
  content-told n from h q =
      let e = from + n in
      let g = headed b at 3 from e h in
      let s = take e b in
      let k : length s ≡ e = length-take-le e b g.inside in
      let c = content-own s (bytes_take e b y) from fl m p q in
      let eu : url-of p s ≡ url-of p b = span-take b e p.url p.url_end c.url-in.0 c.url-in.1 in
      let ei : info-of p s ≡ info-of p b = span-take b e p.info p.info_end c.info-in.0 c.info-in.1 in
      let esl : sl-of p s ≡ sl-of p b = span-take b e p.sl p.sl_end c.sl-in.0 c.sl-in.1 in
      let x = content_bytes m (url-of p b) (info-of p b) (sl-of p b) in
      let ex : content_bytes m (url-of p s) (info-of p s) (sl-of p s) ≡ x =
      ap₂ (λ (u i : List ℕ). content_bytes m u i (sl-of p s)) eu ei ∙ ap (content_bytes m (url-of p b) (info-of p b)) esl in
      let el = ap length ex in
      let l : length x ≤ e - from = omega (arith, el, k, c.room) in
      let le : at ≤ at = omega arith in
      let r = reaches b at at 3 from e le h x l in
      record {
        flags = c.flags;
        own = λ w.
            let z : e ≡ length b = omega (arith, r, w, g.inside) in
            let u : at + length (descriptor_bytes 3 x) ≡ e = omega (arith, w, z) in
            let v = content-long b at at 3 from e le h x l u in
            let i : span s from e ≡ span b from e = span-take b e from e (omega (arith, g.content)) (omega (arith, k)) in
            sym (descriptor-own b at at 3 from e le h x l u y
            (sym i ∙ ap (span s from) (sym k) ∙ c.own (omega (arith, el, v, k, g.content)) ∙ ex))
            ∙ ap (span b at) z ∙ sym (span-end b at);
        ok =
            all_true _ _ _ _ (ap (es.sound m.stream) (sym eu) ∙ c.fields-ok) (ap (decoder_sound m.decoder) (sym ei) ∙ c.decoder-ok) (ap (sl_sound m.has_sl) (sym esl) ∙ c.sl-ok)
            (lt-ltb (length x) (128 ^ 4) (content-small b at at 3 from e le h x l));
      }

  stream-own : stream_of b at fl ≡ Ok (m, p) → Own m p b at fl
  stream-own h =
      ⊎_elim (λ y. by (be 1 b at) (length_of b (at + 1)) refl refl y.0 y.1) (λ y. let z : ◌≡◌ {A = ℕ} 0 1 = cc y.1 in absurd (omega arith)) (field-way 1 b at Err _ _ h)
    where
      by : (tag : ℕ) (l : Result Length Refusal) → be 1 b at ≡ tag → length_of b (at + 1) ≡ l → at + 1 ≤ length b → lengthed b at fl tag l ≡ Ok (m, p) → Own m p b at fl
      by tag (Err q) t v h f =
          ⊎_elim (λ y. let z : ◌≡◌ {A = ℕ} 0 1 = cc y.1 in absurd (omega arith)) (λ y. let z : ◌≡◌ {A = ℕ} 0 1 = cc y.1 in absurd (omega arith)) (way (eqb tag 3) _ _ _ f)
      by tag (Ok l) t v h f =
          let n = l.value in
          let from = l.after in
          ⊎_elim
          (λ y. ⊎_elim (λ w. content-told n from (head-there n from h (t ∙ eqb-true tag 3 w.0) v (leb-true (from + n) (length b) y.0)) w.1)
          (λ w. let z : ◌≡◌ {A = ℕ} 0 1 = cc w.1 in absurd (omega arith))
          (way (eqb tag 3) _ _ _ y.1))
          (λ y. let z : ◌≡◌ {A = ℕ} 0 1 = cc y.1 in absurd (omega arith))
          (way (leb (from + n) (length b)) _ _ _ f)

-- THE BOX

-- so many bytes follow version and flags as the record and its parts need, with every length in its shortest form: then
-- nothing else has room
pub esds-own : (b : List ℕ) (m : Esds) (p : Places) → esds_of b ≡ Ok (m, p) → Canonical kind fields (needs m (length (url_of b)) (length (info_of b)) (length (sl_of b))) b → (buf : List ℕ) → length b ≤ length buf →
    esds_in m (url_of b) (info_of b) (sl_of b) buf ≡ wrote (Ok (length b)) (b ++ drop (length b) buf)
unfolding slots firsts most limit rule_of when
esds-own b m p h c buf hl =
    let url = url-of p b in
    let i = info-of p b in
    let sl = sl-of p b in
    let eu : url_of b ≡ url = ap (span_of (λ p. p.url) (λ p. p.url_end) b) h in
    let ei : info_of b ≡ i = ap (span_of (λ p. p.info) (λ p. p.info_end) b) h in
    let esl : sl_of b ≡ sl = ap (span_of (λ p. p.sl) (λ p. p.sl_end) b) h in
    let k = needs m (length (url_of b)) (length (info_of b)) (length (sl_of b)) in
    let at = c.end in
    let g = fields_in (length b) at c.values in
    let r : read_of kind fields b ≡ Ok g = own_read kind fields k b c in
    let fl = get_or g.values 1 0 in
    let q : stream_of b at fl ≡ Ok (m, p) = ap (λ s. stream_of s at fl) (sym (take-length b)) ∙ sym (ap (full_of b) r) ∙ h in
    let o = stream-own b c.byte at fl m p q in
    let x = descriptor_bytes 3 (content_bytes m url i sl) in
    let n : k ≡ length x =
    ap₂ (λ (u i : List ℕ). needs m (length u) (length i) (length (sl_of b))) eu ei ∙ ap (λ s. needs m (length url) (length i) (length s)) esl ∙ written-needs m url i sl in
    let tail : x ≡ drop at b = o.own (omega (arith, n, c.rest)) in
    let z : get_or g.values 0 0 ≡ 0 = omega (arith, fits kind fields b 0 0 g r refl) in
    let same : 0 ∷ m.flags ∷ [] ≡ get_or g.values 0 0 ∷ fl ∷ [] = ap₂ (λ (i j : ℕ). i ∷ j ∷ []) (sym z) o.flags in
    ap₂ (λ (u i : List ℕ). esds_in m u i (sl_of b) buf) eu ei ∙ ap (λ s. esds_in m url i s buf) esl
    ∙ sym (by-true _ _ _ (sound m url i sl) o.ok
    (sym (ap (λ l. write_of kind fields (slotted (0 ∷ m.flags ∷ [])) l buf) tail ∙ own-bytes kind fields k b c g r (slotted (0 ∷ m.flags ∷ [])) buf (omega arith) same hl)))

-- whatever is written is canonical
pub esds-writes-canonical : (m : Esds) (url info sl buf : List ℕ) (n : ℕ) (out : List ℕ) → esds_in m url info sl buf ≡ wrote (Ok n) out →
    canonical_of kind fields (needs m (length (url_of (take n out))) (length (info_of (take n out))) (length (sl_of (take n out)))) (take n out) ≡ true
esds-writes-canonical m url info sl buf n out h = ⊎_elim (λ y. written y.1) (λ y. refuse y.1) (way (sound m url info sl) _ _ _ h)
  where
    refuse : {A : Type 0} → wrote (Err refusal.Unwritable) buf ≡ wrote (Ok n) out → A
    refuse q = let z : ◌≡◌ {A = ℕ} 0 1 = cc in absurd (omega arith)

    written : write_of kind fields (slotted (0 ∷ m.flags ∷ [])) (descriptor_bytes 3 (content_bytes m url info sl)) buf ≡ wrote (Ok n) out →
        canonical_of kind fields (needs m (length (url_of (take n out))) (length (info_of (take n out))) (length (sl_of (take n out)))) (take n out) ≡ true
    written w =
        let b = take n out in
        let s = esds-back m url info sl buf n out h in
        let k : needs m (length (url_of b)) (length (info_of b)) (length (sl_of b)) ≡ length (descriptor_bytes 3 (content_bytes m url info sl)) =
        ap₂ (λ (u i : List ℕ). needs m (length u) (length i) (length (sl_of b))) s.url-same s.info-same
        ∙ ap (λ x. needs m (length url) (length info) (length x)) s.sl-same ∙ written-needs m url info sl in
        ap (λ k. canonical_of kind fields k b) k ∙ writes-canonical kind fields (slotted (0 ∷ m.flags ∷ [])) (descriptor_bytes 3 (content_bytes m url info sl)) buf n out (omega arith) w
