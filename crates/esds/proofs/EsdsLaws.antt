-- What is written reads back the same: the record, and each part where it lies. Assumes nothing.
use Rattle.std.specs.Prelude.{Option, Ok, Err, Some, None}
use mathlib.Core.Path.{◌≡◌, refl, sym, ap, ap₂, ◌∙◌}
use mathlib.Core.List.{List, [], ◌∷◌, ◌++◌, append_assoc, append-nil}
use mathlib.Core.Bool.{Bool, true, false}
use mathlib.Core.Logic.{⊎_elim}
use Prim.Native.Nat.{ℕ, ◌+◌, ◌-◌, ◌^◌, ◌≤◌, ◌<◌}
use native.Mathlib.Omega.{arith}
use lib.ListN.{length, take, drop, length-append, take-append-drop, length-drop}
use lib.Seq.{take-length, length-take-le, take-append-le, drop-append-le, take_at}
use borrow.Author.Tests.{eqb-true, ltb-true}
use Rattle.numbers.specs.Number.{be}
use Rattle.numbers.specs.Field.{when}
use Rattle.numbers.specs.declared.Refusal.TheVariants as refusal
use Rattle.numbers.proofs.Laws.{one}
use Rattle.numbers.proofs.Chain.{whole, is_eq, is_ne, is_le, by-true, by-false, way}
use Rattle.put.specs.Put.{wrote}
use Rattle.layout.specs.Rule.{rule_of}
use Rattle.layout.specs.Read.{read_of}
use Rattle.layout.specs.Write.{slotted, write_of}
use Rattle.layout.specs.Canonical.{slots, firsts}
use Rattle.rounds.proofs.Boxes.{fields_in, reads-back}
use Rattle.descriptor.specs.Descriptor.{size_for, head_bytes, head_of, length_of}
use Rattle.descriptor.proofs.Laws.{head-reads}
use Rattle.descriptor.proofs.Laws as descriptor-laws
use Rattle.descriptors.specs.Descriptors.{seek_of, span, descriptor_bytes}
use Rattle.descriptors.proofs.Laws.{seek-end, seek-one, seek-other}
use Rattle.descriptors.proofs.Lies.{Lies, next, split, in-it, span-back}
use Rattle.descriptors.proofs.Puts.{length-head, length-descriptor}
use Rattle.decoderconfig.specs.DecoderConfig.{config_of, config_bytes}
use Rattle.decoderconfig.specs.DecoderConfig as config
use Rattle.decoderconfig.specs.declared.Config.{Config}
use Rattle.decoderconfig.proofs.ConfigLaws.{config-back}
use Rattle.decoderconfig.proofs.Configs as configs
use Rattle.esfields.specs.EsFields.{fields_of, field_bytes}
use Rattle.esfields.proofs.FieldLaws.{fields_back}
use Rattle.esds.specs.Esds.{kind, fields, behind, last_of, after_config, configured, first_of, tail_of, esds, places, with_tail, with_fields, content_of, lengthed, stream_of, full_of, esds_of, span_of, url_of, info_of, sl_of, decoder_bytes, sl_bytes, content_bytes, decoder_sound, sl_sound, sound, esds_in}
use Rattle.esds.specs.declared.Esds.{Esds}
use Rattle.esds.specs.declared.Places.{Places}
use Rattle.esds.specs.declared.Parts.{Parts}
use Rattle.esds.proofs.Sounds.{and-true, sounds, Sound}
use Rattle.descriptor.specs.Descriptor.{head_record}
use Rattle.descriptor.specs.Descriptor.{length_record}
use Rattle.descriptors.specs.Descriptors.{sought_record}

nothing : (x : List ℕ) → length x ≡ 0 → [] ≡ x
nothing [] e = refl
nothing (y ∷ x) e = absurd (omega arith)

-- THE SLCONFIG, or nothing, up to the end: what is found, and where

pub record Last (has : Bool) (sl s : List ℕ) (at : ℕ) : Type 0 where
  pub from : ℕ
  pub to : ℕ
  pub part : span s from to ≡ sl
  pub none : has ≡ false → ((one : ℕ) → seek_of s at one 6 ≡ (Ok None)) × (from ≡ 0) × (to ≡ 0)
  pub some : has ≡ true → seek_of s at 4 6 ≡ Ok (Some (sought_record 6 at from to))
  pub alone : has ≡ true → seek_of s at 6 6 ≡ Ok (Some (sought_record 6 at from to))

differ : {A : Type 0} → true ≡ false → A
differ e = let z : ◌≡◌ {A = ℕ} 0 1 = cc in absurd (omega arith)

pub last-back : (has : Bool) (sl s pre : List ℕ) (at : ℕ) → sl_sound has sl ≡ true → Lies s pre (sl_bytes has sl) [] at → Last has sl s at
unfolding when
last-back false sl s pre at ok l =
    let z : length s ≡ at = omega (arith, in-it s pre [] [] at l) in
    record { from = 0; to = 0; part = nothing sl (eqb-true (length sl) 0 ok); none = λ e. (λ one. seek-end s at one 6 (omega (arith, z)), refl, refl); some = λ e. differ (sym e); alone = λ e. differ (sym e) }
last-back true sl s pre at ok l =
    let f = at + 1 + size_for (length sl) in
    let h : length sl < 128 ^ 4 = ltb-true (length sl) (128 ^ 4) ok in
    let m = next s pre (head_bytes 6 (length sl)) sl [] at (size_for (length sl) + 1) (split s pre (head_bytes 6 (length sl)) sl [] at l) (sym (length-head 6 (length sl))) in
    record {
      from = f;
      to = f + length sl;
      part = span-back s (pre ++ head_bytes 6 (length sl)) sl [] f (f + length sl) (m.0, omega (arith, m.1)) refl;
      none = λ e. differ e;
      some = λ e. seek-other 6 sl pre [] s at 4 6 l.0 l.1 h (λ z. omega (arith, z)) refl;
      alone = λ e. seek-one 6 sl pre [] s at 6 6 l.0 l.1 h refl;
    }

-- BEHIND THE FIELDS

pub record Rest (m : Esds) (info sl s : List ℕ) (at : ℕ) : Type 0 where
  pub p : Parts
  pub read : tail_of s at ≡ Ok (m.decoder, m.has_sl, p)
  pub info-part : span s p.info p.info_end ≡ info
  pub sl-part : span s p.sl p.sl_end ≡ sl

-- a part of the first bytes is that part of all
span-first : (x y : List ℕ) (i j : ℕ) → i ≤ j → j ≤ length x → span (x ++ y) i j ≡ span x i j
span-first x y i j h k =
    ap (take (j - i)) (drop-append-le i x y (omega (arith, h, k)))
    ∙ take-append-le (j - i) (drop i x) y (omega (arith, h, k, length-drop i x))

module _ (has : Bool) (sl s : List ℕ) (at : ℕ) (l : Last has sl s at) where
  abbrev parts : ℕ → ℕ → Parts
  parts i j = record { info = i; info_end = j; sl = l.from; sl_end = l.to }

  after-back : (c : Config) (i j : ℕ) → after_config s at c i j ≡ Ok (Some c, has, record { info = i; info_end = j; sl = l.from; sl_end = l.to })
  after-back c i j = by has refl
    where
      by : (b : Bool) → has ≡ b → after_config s at c i j ≡ Ok (Some c, has, record { info = i; info_end = j; sl = l.from; sl_end = l.to })
      by false e =
          let n = l.none e in
          ap (last_of c i j) (n.0 6)
          ∙ ap₂ (λ (f t : ℕ). behind (Some c) false i j f t) (sym n.1) (sym n.2) ∙ ap (λ b. behind (Some c) b i j l.from l.to) (sym e)
      by true e =
          ap (last_of c i j) (l.alone e) ∙ ap (λ b. behind (Some c) b i j l.from l.to) (sym e)

  bare-back : tail_of s at ≡ Ok (None, has, record { info = 0; info_end = 0; sl = l.from; sl_end = l.to })
  bare-back = by has refl
    where
      by : (b : Bool) → has ≡ b → tail_of s at ≡ Ok (None, has, record { info = 0; info_end = 0; sl = l.from; sl_end = l.to })
      by false e =
          let n = l.none e in
          ap (first_of s) (n.0 4)
          ∙ ap₂ (λ (f t : ℕ). behind None false 0 0 f t) (sym n.1) (sym n.2) ∙ ap (λ b. behind None b 0 0 l.from l.to) (sym e)
      by true e =
          ap (first_of s) (l.some e) ∙ sym (is_eq _ (configured s l.to (config_of (take l.to s) l.from)) _ 6 6 refl refl)
          ∙ ap (λ b. behind None b 0 0 l.from l.to) (sym e)

pub rest_back : (m : Esds) (info sl s pre : List ℕ) (at : ℕ) → decoder_sound m.decoder info ≡ true → sl_sound m.has_sl sl ≡ true →
    Lies s pre (decoder_bytes m.decoder info) (sl_bytes m.has_sl sl ++ []) at → Rest m info sl s at
rest_back m info sl s pre at okd oks l = by m.decoder refl
  where
    by : (d : Option Config) → m.decoder ≡ d → Rest m info sl s at
    by None e =
        let n : Lies s pre (sl_bytes m.has_sl sl) [] at = (l.0 ∙ ap (λ d. pre ++ (decoder_bytes d info ++ (sl_bytes m.has_sl sl ++ []))) e, l.1) in
        let k = last-back m.has_sl sl s pre at oks n in
        record {
          p = record { info = 0; info_end = 0; sl = k.from; sl_end = k.to };
          read =
              bare-back m.has_sl sl s at k
              ∙ ap (λ d. Ok (d, m.has_sl, record { info = 0; info_end = 0; sl = k.from; sl_end = k.to })) (sym e);
          info-part = nothing info (eqb-true (length info) 0 (ap (λ d. decoder_sound d info) (sym e) ∙ okd));
          sl-part = k.part;
        }
    by (Some c) e =
        let cfg = config_bytes c info in
        let x3 = sl_bytes m.has_sl sl in
        let ok = and-true (config.sound c info) _ (ap (λ d. decoder_sound d info) (sym e) ∙ okd) in
        let small : length cfg < 128 ^ 4 = ltb-true (length cfg) (128 ^ 4) ok.1 in
        let n : Lies s pre (descriptor_bytes 4 cfg) (x3 ++ []) at = (l.0 ∙ ap (λ d. pre ++ (decoder_bytes d info ++ (x3 ++ []))) e, l.1) in
        let f = at + 1 + size_for (length cfg) in
        let t = f + length cfg in
        let found : seek_of s at 4 6 ≡ Ok (Some (sought_record 4 at f t)) = seek-one 4 cfg pre (x3 ++ []) s at 4 6 n.0 n.1 small refl in
        let front = pre ++ descriptor_bytes 4 cfg in
        let long : length front ≡ t = omega (arith, length-append pre (descriptor_bytes 4 cfg), length-descriptor 4 cfg, n.1) in
        let whole_is : s ≡ front ++ (x3 ++ []) = n.0 ∙ sym (append_assoc pre (descriptor_bytes 4 cfg) (x3 ++ [])) in
        let cut : take t s ≡ front = ap (take t) whole_is ∙ take_at front (x3 ++ []) t long in
        let inner : Lies (take t s) (pre ++ head_bytes 4 (length cfg)) cfg [] f = (
          cut ∙ sym (append_assoc pre (head_bytes 4 (length cfg)) cfg) ∙ ap (λ x. pre ++ head_bytes 4 (length cfg) ++ x) (sym (append-nil cfg)),
          omega (arith, n.1, length-append pre (head_bytes 4 (length cfg)), length-head 4 (length cfg)),
        ) in
        let c-back = config-back c info (take t s) (pre ++ head_bytes 4 (length cfg)) f ok.0 inner in
        let i = c-back.from in
        let j = c-back.to in
        let lie = configs.inside (take t s) f c i j c-back.read in
        let last : Lies s front x3 [] t = (whole_is, sym long) in
        let k = last-back m.has_sl sl s front t oks last in
        record {
          p = record { info = i; info_end = j; sl = k.from; sl_end = k.to };
          read =
              ap (first_of s) found ∙ sym (is_ne (behind None true 0 0 f t) _ _ 4 6 (λ z. omega (arith, z)) refl)
              ∙ ap (configured s t) c-back.read ∙ after-back m.has_sl sl s t k c i j
              ∙ ap (λ d. Ok (d, m.has_sl, record { info = i; info_end = j; sl = k.from; sl_end = k.to })) (sym e);
          info-part =
              ap (λ b. span b i j) (whole_is ∙ ap (λ b. b ++ (x3 ++ [])) (sym cut))
              ∙ span-first (take t s) (x3 ++ []) i j lie.0 lie.1 ∙ c-back.part;
          sl-part = k.part;
        }

-- THE BOX

pub record Same (m : Esds) (url info sl b : List ℕ) : Type 0 where
  pub p : Places
  pub read : esds_of b ≡ Ok (m, p)
  pub url-same : url_of b ≡ url
  pub info-same : info_of b ≡ info
  pub sl-same : sl_of b ≡ sl

module _ (m : Esds) (url info sl b pre : List ℕ) (at : ℕ) (ok : Sound m url info sl) (l : Lies b pre (descriptor_bytes 3 (content_bytes m url info sl)) [] at)
    (r : read_of kind fields b ≡ Ok (fields_in (length b) at (0 ∷ m.flags ∷ []))) where
  pub same : Same m url info sl b
  unfolding when
  same =
      let content = content_bytes m url info sl in
      let n = length content in
      let x1 = field_bytes m.stream url in
      let x2 = decoder_bytes m.decoder info in
      let x3 = sl_bytes m.has_sl sl in
      let f = at + 1 + size_for n in
      let l0 : Lies b pre (head_bytes 3 n) (content ++ []) at = split b pre (head_bytes 3 n) content [] at l in
      let hd : head_of b at ≡ Ok (head_record 3 f (f + n)) =
      ap₂ (λ (b : List ℕ) (i : ℕ). head_of b i) l0.0 l0.1 ∙ head-reads 3 n pre (content ++ []) ok.small (omega (arith, length-append content []))
      ∙ ap (λ i. Ok (head_record 3 (i + 1 + size_for n) (i + 1 + size_for n + n))) (sym l0.1) in
      let h = descriptor-laws.headed b at 3 f (f + n) hd in
      let long : f + n ≡ length b = omega (arith, in-it b pre (descriptor_bytes 3 content) [] at l, length-descriptor 3 content) in
      let v : length_of b (at + 1) ≡ Ok (length_record n f) = h.length-is ∙ ap (λ k. Ok (length_record k f)) (let z : h.value ≡ n = omega (arith, h.content) in z) in
      let lm = next b pre (head_bytes 3 n) content [] at (size_for n + 1) l0 (sym (length-head 3 n)) in
      let lc : Lies b (pre ++ head_bytes 3 n) content [] f = (lm.0, omega (arith, lm.1)) in
      let l2 = split b (pre ++ head_bytes 3 n) (x1 ++ x2) x3 [] f lc in
      let l1 = split b (pre ++ head_bytes 3 n) x1 x2 (x3 ++ []) f l2 in
      let fb = fields_back m.stream url b (pre ++ head_bytes 3 n) (x2 ++ (x3 ++ [])) f ok.fields-ok l1 in
      let ln = next b (pre ++ head_bytes 3 n) x1 x2 (x3 ++ []) f (length x1) l1 refl in
      let rb = rest_back m info sl b (pre ++ head_bytes 3 n ++ x1) (f + length x1) ok.decoder-ok ok.sl-ok ln in
      let p = places fb.from fb.to rb.p in
      let inner : content_of b f m.flags ≡ Ok (m, p) =
      ap (with_fields b m.flags) fb.read ∙ ap (with_tail m.flags m.stream fb.from fb.to) rb.read in
      let outer : stream_of b at m.flags ≡ Ok (m, p) =
      sym (whole 1 b at Err _ _ 3 (omega (arith, long)) (h.tag_is ∙ sym (one b at)) refl)
      ∙ ap (lengthed b at m.flags 3) v
      ∙ sym (is_le _ (Err (refusal.Cut at)) _ (f + n) (length b) (omega (arith, long)) (is_eq _ (Err (refusal.Value at)) _ 3 3 refl refl))
      ∙ ap (λ s. content_of s f m.flags) (ap (λ k. take k b) long ∙ take-length b) ∙ inner in
      let q : esds_of b ≡ Ok (m, p) = ap (full_of b) r ∙ ap (λ s. stream_of s at m.flags) (take-length b) ∙ outer in
      record {
        p = p;
        read = q;
        url-same = ap (span_of (λ p. p.url) (λ p. p.url_end) b) q ∙ fb.part;
        info-same = ap (span_of (λ p. p.info) (λ p. p.info_end) b) q ∙ rb.info-part;
        sl-same = ap (span_of (λ p. p.sl) (λ p. p.sl_end) b) q ∙ rb.sl-part;
      }

pub esds-back : (m : Esds) (url info sl buf : List ℕ) (n : ℕ) (out : List ℕ) → esds_in m url info sl buf ≡ wrote (Ok n) out → Same m url info sl (take n out)
unfolding slots firsts rule_of when
esds-back m url info sl buf n out h = ⊎_elim (λ y. written y.0 y.1) (λ y. refused y.1) (way (sound m url info sl) _ _ _ h)
  where
    refused : wrote (Err refusal.Unwritable) buf ≡ wrote (Ok n) out → Same m url info sl (take n out)
    refused q = let z : ◌≡◌ {A = ℕ} 0 1 = cc in absurd (omega arith)

    written : sound m url info sl ≡ true → write_of kind fields (slotted (0 ∷ m.flags ∷ [])) (descriptor_bytes 3 (content_bytes m url info sl)) buf ≡ wrote (Ok n) out → Same m url info sl (take n out)
    written hs w =
        let t = descriptor_bytes 3 (content_bytes m url info sl) in
        let b = take n out in
        let r = reads-back kind fields (slotted (0 ∷ m.flags ∷ [])) t buf n out (omega arith) w in
        let at = r.0 in
        let l : length (take at b) ≡ at = length-take-le at b (omega (arith, r.3)) in
        let e : b ≡ take at b ++ (t ++ []) = sym (take-append-drop at b) ∙ ap (λ x. take at b ++ x) (r.2 ∙ sym (append-nil t)) in
        same m url info sl b (take at b) at (sounds m url info sl hs) (e, sym l) r.1
