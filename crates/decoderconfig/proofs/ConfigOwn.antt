-- The content of a DecoderConfig that was read is sound and at least as long as what is written of it; where it is no
-- longer, its bytes are those that are written. Assumes nothing.
use Rattle.std.specs.Prelude.{Result, Option, Ok, Err, Some, None}
use mathlib.Core.Path.{◌≡◌, refl, sym, ap, ap₂, ◌∙◌}
use mathlib.Core.List.{List, [], ◌++◌, append-nil}
use mathlib.Core.Bool.{true, false}
use mathlib.Core.Logic.{⊎_elim}
use Prim.Native.Nat.{ℕ, ◌+◌, ◌-◌, ◌^◌, ◌≤◌, ◌<◌}
use native.Mathlib.Omega.{arith}
use lib.ListN.{length}
use Rattle.numbers.specs.Number.{be, bytes}
use Rattle.numbers.specs.declared.Refusal.TheVariants as refusal
use Rattle.numbers.specs.declared.Refusal.{Refusal}
use Rattle.numbers.proofs.Laws.{Bytes, be-below}
use Rattle.numbers.proofs.Chain.{field-way, way}
use Rattle.descriptor.proofs.Laws.{headed}
use Rattle.descriptors.specs.Descriptors.{seek_of, span, descriptor_bytes}
use Rattle.descriptors.proofs.Laws as walk
use Rattle.descriptors.proofs.Puts.{length-descriptor}
use Rattle.descriptors.proofs.Own.{length-span, span_none, span-join, grown, stands, content-small, reaches, descriptor-own}
use Rattle.decoderconfig.specs.DecoderConfig.{numbers_of, later, is_whole, info_by, info_of, config, with_info, with_numbers, config_of, sound, number_bytes, config_bytes}
use Rattle.decoderconfig.specs.declared.Config.{Config}
use Rattle.decoderconfig.proofs.Puts.{length-config, info-there, info-absent, with-info, without-info}
use Rattle.descriptors.specs.declared.Sought.{Sought}
use Rattle.descriptors.specs.Descriptors.{sought_record}

-- THE NUMBERS

record Read (s : List ℕ) (at o t z x a : ℕ) : Type 0 where
  within : at + 13 ≤ length s
  object : o < 256 ^ 1
  stream : t < 256 ^ 1
  buffer : z < 256 ^ 3
  max : x < 256 ^ 4
  avg : a < 256 ^ 4
  own : span s at (at + 13) ≡ bytes 1 o ++ bytes 1 t ++ bytes 3 z ++ bytes 4 x ++ bytes 4 a

module _ (s : List ℕ) (at : ℕ) (b : Bytes s) where
  as_read : at + 13 ≤ length s → Read s at (be 1 s at) (be 1 s (at + 1)) (be 3 s (at + 2)) (be 4 s (at + 5)) (be 4 s (at + 9))
  as_read h =
      let x1 = bytes 1 (be 1 s at) in
      let x2 = x1 ++ bytes 1 (be 1 s (at + 1)) in
      let x3 = x2 ++ bytes 3 (be 3 s (at + 2)) in
      let x4 = x3 ++ bytes 4 (be 4 s (at + 5)) in
      let g1 : span s at (at + 1) ≡ x1 = grown s at at 1 (at + 1) [] b (omega arith) (omega (arith, h)) refl (span_none s at) in
      let g2 : span s at (at + 2) ≡ x2 = grown s at (at + 1) 1 (at + 2) x1 b (omega arith) (omega (arith, h)) (omega arith) g1 in
      let g3 : span s at (at + 5) ≡ x3 = grown s at (at + 2) 3 (at + 5) x2 b (omega arith) (omega (arith, h)) (omega arith) g2 in
      let g4 : span s at (at + 9) ≡ x4 = grown s at (at + 5) 4 (at + 9) x3 b (omega arith) (omega (arith, h)) (omega arith) g3 in
      record {
        within = h;
        object = be-below 1 s at b;
        stream = be-below 1 s (at + 1) b;
        buffer = be-below 3 s (at + 2) b;
        max = be-below 4 s (at + 5) b;
        avg = be-below 4 s (at + 9) b;
        own = grown s at (at + 9) 4 (at + 13) x4 b (omega arith) (omega (arith, h)) (omega arith) g4;
      }

  module _ (o t z x a : ℕ) where
    refused : (q : Refusal) → ◌≡◌ {A = Result (ℕ × ℕ × ℕ × ℕ × ℕ) Refusal} (Err q) (Ok (o, t, z, x, a)) → Read s at o t z x a
    refused q e = let v : ◌≡◌ {A = ℕ} 0 1 = cc e in absurd (omega arith)

    told : at + 13 ≤ length s →
        ◌≡◌ {A = Result (ℕ × ℕ × ℕ × ℕ × ℕ) Refusal} (Ok (be 1 s at, be 1 s (at + 1), be 3 s (at + 2), be 4 s (at + 5), be 4 s (at + 9))) (Ok (o, t, z, x, a)) → Read s at o t z x a
    told h e =
        let r = as_read h in
        let all : ◌≡◌ {A = ℕ × ℕ × ℕ × ℕ × ℕ} (be 1 s at, be 1 s (at + 1), be 3 s (at + 2), be 4 s (at + 5), be 4 s (at + 9)) (o, t, z, x, a) = cc e in
        let e1 : be 1 s at ≡ o = ap (λ (n : ℕ × ℕ × ℕ × ℕ × ℕ). n.0) all in
        let e2 : be 1 s (at + 1) ≡ t = ap (λ (n : ℕ × ℕ × ℕ × ℕ × ℕ). n.1) all in
        let e3 : be 3 s (at + 2) ≡ z = ap (λ (n : ℕ × ℕ × ℕ × ℕ × ℕ). n.2) all in
        let e4 : be 4 s (at + 5) ≡ x = ap (λ (n : ℕ × ℕ × ℕ × ℕ × ℕ). n.3) all in
        let e5 : be 4 s (at + 9) ≡ a = ap (λ (n : ℕ × ℕ × ℕ × ℕ × ℕ). n.4) all in
        record {
          within = h;
          object = omega (arith, e1, r.object);
          stream = omega (arith, e2, r.stream);
          buffer = omega (arith, e3, r.buffer);
          max = omega (arith, e4, r.max);
          avg = omega (arith, e5, r.avg);
          own =
              r.own
              ∙ ap₂ (λ (x y : List ℕ). x ++ y)
              (ap₂ (λ (x y : List ℕ). x ++ y)
              (ap₂ (λ (x y : List ℕ). x ++ y) (ap₂ (λ (x y : List ℕ). x ++ y) (ap (bytes 1) e1) (ap (bytes 1) e2)) (ap (bytes 3) e3))
              (ap (bytes 4) e4))
              (ap (bytes 4) e5);
        }

    numbers-own : numbers_of s at ≡ Ok (o, t, z, x, a) → Read s at o t z x a
    numbers-own e =
        ⊎_elim
        (λ y. ⊎_elim
        (λ x. ⊎_elim
        (λ v. ⊎_elim
        (λ u. ⊎_elim (λ w. told (omega (arith, w.0)) w.1) (λ w. refused _ w.1) (field-way 4 s (at + 9) Err _ _ u.1))
        (λ u. refused _ u.1)
        (field-way 4 s (at + 5) Err _ _ v.1))
        (λ v. refused _ v.1)
        (field-way 3 s (at + 2) Err _ _ x.1))
        (λ x. refused _ x.1)
        (field-way 1 s (at + 1) Err _ _ y.1))
        (λ y. refused _ y.1)
        (field-way 1 s at Err _ _ e)

-- THE INFO

record Kept (s : List ℕ) (at from to : ℕ) : Type 0 where
  inside : (from ≤ to) × (to ≤ length s)
  whole : is_whole (span s from to) ≡ true
  small : length (span s from to) < 128 ^ 4
  reach : at + length (descriptor_bytes 5 (span s from to)) ≤ to
  own : Bytes s → at + length (descriptor_bytes 5 (span s from to)) ≡ to → span s at to ≡ descriptor_bytes 5 (span s from to)

module _ (s : List ℕ) (at from to : ℕ) where
  as-found : (t p : ℕ) → seek_of s at 5 5 ≡ Ok (Some (sought_record t p from to)) → is_whole (span s from to) ≡ true → Kept s at from to
  as-found t p e w =
      let h = walk.sought s 5 5 t p from to at e in
      let k = stands s 5 5 t p from to at e in
      let five : t ≡ 5 = ⊎_elim (λ y. y) (λ y. y) k.1 in
      let g = headed s p t from to h in
      let x = span s from to in
      let l : length x ≡ to - from = length-span s from to (omega (arith, g.content)) g.inside in
      let lt = length-descriptor t x in
      let l5 = length-descriptor 5 x in
      record {
        inside = (omega (arith, g.content), g.inside);
        whole = w;
        small = content-small s at p t from to k.0 h x (omega (arith, l));
        reach = omega (arith, reaches s at p t from to k.0 h x (omega (arith, l)), lt, l5);
        own = λ b q. descriptor-own s at p t from to k.0 h x (omega (arith, l)) (omega (arith, q, lt, l5)) b refl ∙ ap (λ t. descriptor_bytes t x) five;
      }

  info-own : info_of s at ≡ Ok (Some (from, to)) → Kept s at from to
  info-own h = by (seek_of s at 5 5) refl h
    where
      cut : (q : Refusal) → ◌≡◌ {A = Result (Option (ℕ × ℕ)) Refusal} (Err q) (Ok (Some (from, to))) → Kept s at from to
      cut q e = let z : ◌≡◌ {A = ℕ} 0 1 = cc e in absurd (omega arith)

      none : {x : Result (Option (ℕ × ℕ)) Refusal} → x ≡ Ok (Some (from, to)) → x ≡ Ok None → Kept s at from to
      none h e = let z : ◌≡◌ {A = ℕ} 0 1 = cc (h, e) in absurd (omega arith)

      moved : (f e t p : ℕ) → seek_of s at 5 5 ≡ Ok (Some (sought_record t p f e)) → is_whole (span s f e) ≡ true →
          ◌≡◌ {A = Result (Option (ℕ × ℕ)) Refusal} (Ok (Some (f, e))) (Ok (Some (from, to))) → Kept s at from to
      moved f e t p q w h =
          let r : ◌≡◌ {A = ℕ × ℕ} (f, e) (from, to) = cc h in
          let a : f ≡ from = ap (λ (x : ℕ × ℕ). x.0) r in
          let b : e ≡ to = ap (λ (x : ℕ × ℕ). x.1) r in
          as-found t p (q ∙ ap₂ (λ c d. Ok (Some (sought_record t p c d))) a b) (ap is_whole (sym (ap₂ (span s) a b)) ∙ w)

      same : (f e : ℕ) (x : Result (Option Sought) Refusal) (t p : ℕ) → seek_of s at 5 5 ≡ Ok (Some (sought_record t p f e)) → is_whole (span s f e) ≡ true → later f e x ≡ Ok (Some (from, to)) → Kept s at from to
      same f e (Ok None) t p q w h = moved f e t p q w h
      same f e (Ok (Some d)) t p q w h = moved f e t p q w h
      same f e (Err r) t p q w h = cut r h

      by : (x : Result (Option Sought) Refusal) → seek_of s at 5 5 ≡ x → info_by s x ≡ Ok (Some (from, to)) → Kept s at from to
      by (Ok None) e h = none h refl
      by (Ok (Some d)) e h =
          ⊎_elim (λ y. same d.from d.to (seek_of s d.to 256 256) d.tag d.at e y.0 y.1) (λ y. cut _ y.1) (way (is_whole (span s d.from d.to)) _ _ _ h)
      by (Err q) e h = cut q h

-- ALL OF IT

pub record Own (c : Config) (s : List ℕ) (at i j : ℕ) : Type 0 where
  pub info-in : (i ≤ j) × (j ≤ length s)
  pub room : at + length (config_bytes c (span s i j)) ≤ length s
  pub bytes-own : at + length (config_bytes c (span s i j)) ≡ length s → span s at (length s) ≡ config_bytes c (span s i j)
  pub own-sound : sound c (span s i j) ≡ true

module _ (s : List ℕ) (at : ℕ) (b : Bytes s) (o t z x a : ℕ) (r : Read s at o t z x a) where
  without : Own (config o t z x a false) s at 0 0
  without =
      let c = config o t z x a false in
      let n : config_bytes c [] ≡ number_bytes c = ap (λ l. number_bytes c ++ l) (info-absent false [] refl) ∙ append-nil (number_bytes c) in
      let l : length (config_bytes c []) ≡ 13 = omega (arith, length-config c [], ap length (info-absent false [] refl)) in
      record {
        info-in = (omega arith, omega arith);
        room = omega (arith, l, r.within);
        bytes-own = λ e. ap (span s at) (let w : length s ≡ at + 13 = omega (arith, e, l) in w) ∙ r.own ∙ sym n;
        own-sound = sym (without-info c [] r.object r.stream r.buffer r.max r.avg refl);
      }

  with_it : (i j : ℕ) → Kept s (at + 13) i j → Own (config o t z x a true) s at i j
  with_it i j f =
      let c = config o t z x a true in
      let y = span s i j in
      let n = info-there true y refl in
      let l : length (config_bytes c y) ≡ 13 + length (descriptor_bytes 5 y) = omega (arith, length-config c y, ap length n) in
      record {
        info-in = f.inside;
        room = omega (arith, l, f.reach, f.inside.1);
        bytes-own = λ e.
            let w : j ≡ length s = omega (arith, l, f.reach, f.inside.1, e) in
            ap (span s at) (sym w) ∙ span-join s at (at + 13) j (omega arith) (omega (arith, f.reach))
            ∙ ap₂ (λ (x y : List ℕ). x ++ y) r.own (f.own b (omega (arith, w, l, e)) ∙ sym n);
        own-sound = sym (with-info c y r.object r.stream r.buffer r.max r.avg refl f.small) ∙ f.whole;
      }

pub config-own : (s : List ℕ) (at : ℕ) → Bytes s → (c : Config) (i j : ℕ) → config_of s at ≡ Ok (c, i, j) → Own c s at i j
config-own s at b c i j h = by (numbers_of s at) refl h
  where
    refused : (q : Refusal) → ◌≡◌ {A = Result (Config × ℕ × ℕ) Refusal} (Err q) (Ok (c, i, j)) → Own c s at i j
    refused q e = let z : ◌≡◌ {A = ℕ} 0 1 = cc e in absurd (omega arith)

    moved : (d : Config) (f g : ℕ) → ◌≡◌ {A = Result (Config × ℕ × ℕ) Refusal} (Ok (d, f, g)) (Ok (c, i, j)) → Own d s at f g → Own c s at i j
    moved d f g q w =
        let r : ◌≡◌ {A = Config × ℕ × ℕ} (d, f, g) (c, i, j) = cc q in
        let e1 : d ≡ c = ap (λ (x : Config × ℕ × ℕ). x.0) r in
        let e2 : f ≡ i = ap (λ (x : Config × ℕ × ℕ). x.1) r in
        let e3 : g ≡ j = ap (λ (x : Config × ℕ × ℕ). x.2) r in
        let ep : span s f g ≡ span s i j = ap₂ (span s) e2 e3 in
        let eb : config_bytes d (span s f g) ≡ config_bytes c (span s i j) = ap₂ config_bytes e1 ep in
        let el = ap length eb in
        record {
          info-in = (omega (arith, e2, e3, w.info-in.0), omega (arith, e3, w.info-in.1));
          room = omega (arith, el, w.room);
          bytes-own = λ e. w.bytes-own (omega (arith, e, el)) ∙ eb;
          own-sound = ap₂ sound (sym e1) (sym ep) ∙ w.own-sound;
        }

    on : (o t z x a : ℕ) (n : Result (Option (ℕ × ℕ)) Refusal) → numbers_of s at ≡ Ok (o, t, z, x, a) → info_of s (at + 13) ≡ n → with_info o t z x a n ≡ Ok (c, i, j) → Own c s at i j
    on o t z x a (Ok None) f e q = moved (config o t z x a false) 0 0 q (without s at b o t z x a (numbers-own s at b o t z x a f))
    on o t z x a (Ok (Some (u, v))) f e q =
        moved (config o t z x a true) u v q (with_it s at b o t z x a (numbers-own s at b o t z x a f) u v (info-own s (at + 13) u v e))
    on o t z x a (Err r) f e q = refused r q

    by : (n : Result (ℕ × ℕ × ℕ × ℕ × ℕ) Refusal) → numbers_of s at ≡ n → with_numbers s at n ≡ Ok (c, i, j) → Own c s at i j
    by (Ok (o, t, z, x, a)) f q = on o t z x a (info_of s (at + 13)) f refl q
    by (Err r) f q = refused r q
