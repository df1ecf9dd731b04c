-- What the writer does, step by step. Assumes nothing.
use Rattle.std.specs.Prelude.{Result, Ok, Err}
use mathlib.Core.Path.{◌≡◌, refl, sym, ap, ap₂, ◌∙◌}
use mathlib.Core.List.{List, ◌++◌}
use mathlib.Core.Bool.{Bool, true, false, ◌&&◌}
use mathlib.Core.Logic.{⊎_elim}
use Prim.Native.Nat.{ℕ, ◌+◌, ◌^◌, ◌≤◌, ◌<◌}
use native.Mathlib.Omega.{arith}
use lib.ListN.{length, length-append}
use lib.Seq.{sets}
use lib.Dec.{ltb}
use borrow.Author.Tests.{lt-ltb, ltb-true}
use Rattle.numbers.specs.Number.{bytes}
use Rattle.numbers.specs.Field.{when}
use Rattle.numbers.specs.declared.Refusal.TheVariants as refusal
use Rattle.numbers.specs.declared.Refusal.{Refusal}
use Rattle.numbers.proofs.Laws.{length-bytes, under}
use Rattle.numbers.proofs.Chain.{by-true, by-false, way}
use Rattle.put.specs.Put.{wrote, placed, put_of}
use Rattle.put.proofs.Placed.{done, has_room, no-sum, no_room}
use Rattle.descriptors.proofs.Puts.{number_put, part-put, more, same-long}
use Rattle.esfields.specs.EsFields.{is_set, wide, has, sound, field_bytes, size_of, fields_in}
use Rattle.esfields.specs.declared.Stream.{Stream}
use Rattle.esfields.proofs.Cases.{few}

-- SOUND

and-third : (a b c d e : Bool) → a ≡ true → b ≡ true → c ≡ false → false ≡ a && b && c && d && e
and-third a b c d e p q r = sym (simp (p, q, r))

and-fourth : (a b c d e : Bool) → a ≡ true → b ≡ true → c ≡ true → d ≡ false → false ≡ a && b && c && d && e
and-fourth a b c d e p q r s = sym (simp (p, q, r, s))

and_last : (a b c d e : Bool) → a ≡ true → b ≡ true → c ≡ true → d ≡ true → e ≡ a && b && c && d && e
and_last a b c d e p q r s = sym (simp (p, q, r, s))

-- what was asked of a number by a bit
by_bit : (n fl bit w : ℕ) (t r : Bool) → t ≡ is_set fl bit → r ≡ ltb n (256 ^ when t w 0) → r ≡ has (wide fl bit w) n
by_bit n fl bit w t r e q = q ∙ ap (λ t. ltb n (256 ^ when t w 0)) e

module _ (m : Stream) (url : List ℕ) (hi : m.id < 256 ^ 2) (hf : m.flags < 256 ^ 1) (a b c r q p : Bool) (ea : a ≡ is_set m.flags 0x80) (er : r ≡ ltb m.depends_on (256 ^ when a 2 0)) where
  pub no-depends : r ≡ false → false ≡ sound m url
  no-depends e =
      and-third _ _ _ _ _ (lt-ltb m.id (256 ^ 2) hi) (lt-ltb m.flags (256 ^ 1) hf) (sym (by_bit m.depends_on m.flags 0x80 2 a r ea er) ∙ e)

  module _ (ok : r ≡ true) (eb : b ≡ is_set m.flags 0x40) (eq : q ≡ ltb (length url) (256 ^ when b 1 0)) where
    pub no-url : q ≡ false → false ≡ sound m url
    no-url e =
        and-fourth _ _ _ _ _ (lt-ltb m.id (256 ^ 2) hi) (lt-ltb m.flags (256 ^ 1) hf) (sym (by_bit m.depends_on m.flags 0x80 2 a r ea er) ∙ ok)
        (sym (by_bit (length url) m.flags 0x40 1 b q eb eq) ∙ e)

    pub clock-says : q ≡ true → c ≡ is_set m.flags 0x20 → p ≡ ltb m.ocr_id (256 ^ when c 2 0) → p ≡ sound m url
    clock-says e ec ep =
        by_bit m.ocr_id m.flags 0x20 2 c p ec ep
        ∙ and_last _ _ _ _ _ (lt-ltb m.id (256 ^ 2) hi) (lt-ltb m.flags (256 ^ 1) hf) (sym (by_bit m.depends_on m.flags 0x80 2 a r ea er) ∙ ok)
        (sym (by_bit (length url) m.flags 0x40 1 b q eb eq) ∙ e)

and-true : (a b : Bool) → a && b ≡ true → (a ≡ true) × (b ≡ true)
and-true true b h = (refl, h)
and-true false b h = let z : ◌≡◌ {A = ℕ} 0 1 = cc h in absurd (omega arith)

pub record Sound (m : Stream) (url : List ℕ) : Type 0 where
  pub id : m.id < 256 ^ 2
  pub flags : m.flags < 256 ^ 1
  pub depends : m.depends_on < 256 ^ wide m.flags 0x80 2
  pub url-has : length url < 256 ^ wide m.flags 0x40 1
  pub clock : m.ocr_id < 256 ^ wide m.flags 0x20 2
  pub short : length url < 256

pub sounds : (m : Stream) (url : List ℕ) → sound m url ≡ true → Sound m url
sounds m url h =
    let ho = has (wide m.flags 0x20 2) m.ocr_id in
    let hu = has (wide m.flags 0x40 1) (length url) in
    let hd = has (wide m.flags 0x80 2) m.depends_on in
    let p = and-true (has 2 m.id && has 1 m.flags && hd && hu) ho h in
    let q = and-true (has 2 m.id && has 1 m.flags && hd) hu p.0 in
    let r = and-true (has 2 m.id && has 1 m.flags) hd q.0 in
    let s = and-true (has 2 m.id) (has 1 m.flags) r.0 in
    let u : length url < 256 ^ wide m.flags 0x40 1 = ltb-true (length url) (256 ^ wide m.flags 0x40 1) q.1 in
    record {
      id = ltb-true m.id (256 ^ 2) s.0;
      flags = ltb-true m.flags (256 ^ 1) s.1;
      depends = ltb-true m.depends_on (256 ^ wide m.flags 0x80 2) r.1;
      url-has = u;
      clock = ltb-true m.ocr_id (256 ^ wide m.flags 0x20 2) p.1;
      short = omega (arith, u, under (wide m.flags 0x40 1) 1 (few (is_set m.flags 0x40) 1));
    }

-- HOW LONG THEY ARE

pub length_fields : (m : Stream) (url : List ℕ) → length (field_bytes m url) ≡ 3 + wide m.flags 0x80 2 + wide m.flags 0x40 1 + length url + wide m.flags 0x20 2
length_fields m url =
    let wd = wide m.flags 0x80 2 in
    let wu = wide m.flags 0x40 1 in
    let wo = wide m.flags 0x20 2 in
    let x1 = bytes 2 m.id in
    let x2 = bytes 1 m.flags in
    let x3 = bytes wd m.depends_on in
    let x4 = bytes wu (length url) in
    let x6 = bytes wo m.ocr_id in
    omega (
      arith,
      length-append (x1 ++ x2 ++ x3 ++ x4 ++ url) x6,
      length-append (x1 ++ x2 ++ x3 ++ x4) url,
      length-append (x1 ++ x2 ++ x3) x4,
      length-append (x1 ++ x2) x3,
      length-append x1 x2,
      length-bytes 2 m.id,
      length-bytes 1 m.flags,
      length-bytes wd m.depends_on,
      length-bytes wu (length url),
      length-bytes wo m.ocr_id,
    )

module _ (m : Stream) (url : List ℕ) where
  -- each width, as it was asked for
  pub widths : (a b c : Bool) (x y z : ℕ) → a ≡ is_set m.flags 0x80 → b ≡ is_set m.flags 0x40 → c ≡ is_set m.flags 0x20 → x ≡ when a 2 0 → y ≡ when b 1 0 → z ≡ when c 2 0 →
      (x ≡ wide m.flags 0x80 2) × (y ≡ wide m.flags 0x40 1) × (z ≡ wide m.flags 0x20 2)
  widths a b c x y z ea eb ec ex ey ez = (ex ∙ ap (λ t. when t 2 0) ea, ey ∙ ap (λ t. when t 1 0) eb, ez ∙ ap (λ t. when t 2 0) ec)

  pub no_size : sound m url ≡ false → Err refusal.Unwritable ≡ size_of m url
  no_size e = by-false _ _ _ (sound m url) e refl

  pub its-size : (n : ℕ) → sound m url ≡ true → n ≡ length (field_bytes m url) → Ok n ≡ size_of m url
  its-size n e q = by-true _ _ _ (sound m url) e (ap Ok q)

  pub size-told : (r : Result ℕ Refusal) → r ≡ size_of m url → (n : ℕ) → r ≡ Ok n → (sound m url ≡ true) × (n ≡ length (field_bytes m url))
  size-told r e n f =
      ⊎_elim (λ y. let z : n ≡ length (field_bytes m url) = cc (y.1, f) in (y.0, z)) (λ y. let z : ◌≡◌ {A = ℕ} 0 1 = cc (y.1, f) in absurd (omega arith))
      (way (sound m url) _ _ _ (sym e))

-- STORES

module _ (m : Stream) (url : List ℕ) (at x y z : ℕ) (ex : x ≡ wide m.flags 0x80 2) (ey : y ≡ wide m.flags 0x40 1) (ez : z ≡ wide m.flags 0x20 2)
    (buf b1 b2 b3 b4 b5 b6 : List ℕ) (p q r t u v : Result ℕ Refusal) (room : at + length (field_bytes m url) ≤ length buf) (hi : m.id < 256 ^ 2) (hf : m.flags < 256 ^ 1)
    (hd : m.depends_on < 256 ^ wide m.flags 0x80 2) (hu : length url < 256 ^ wide m.flags 0x40 1) (ho : m.ocr_id < 256 ^ wide m.flags 0x20 2) where
  pub fields-put : wrote p b1 ≡ put_of 2 m.id at buf → wrote q b2 ≡ put_of 1 m.flags (at + 2) b1 → wrote r b3 ≡ put_of x m.depends_on (at + 3) b2 →
      wrote t b4 ≡ put_of y (length url) (at + 3 + x) b3 → wrote u b5 ≡ placed url (length url) (at + 3 + x + y) b4 → wrote v b6 ≡ put_of z m.ocr_id (at + 3 + x + y + length url) b5 →
      wrote v b6 ≡ placed (field_bytes m url) (length (field_bytes m url)) at buf
  fields-put e1 e2 e3 e4 e5 e6 =
      let x1 = bytes 2 m.id in
      let x2 = bytes 1 m.flags in
      let x3 = bytes x m.depends_on in
      let x4 = bytes y (length url) in
      let x6 = bytes z m.ocr_id in
      let l = length_fields m url in
      let fx : x ≤ 2 = omega (arith, ex, few (is_set m.flags 0x80) 2) in
      let fy : y ≤ 1 = omega (arith, ey, few (is_set m.flags 0x40) 1) in
      let fz : z ≤ 2 = omega (arith, ez, few (is_set m.flags 0x20) 2) in
      let long : at + 3 + x + y + length url + z ≤ length buf = omega (arith, room, l, ex, ey, ez) in
      let k1 : length x1 ≡ 2 = length-bytes 2 m.id in
      let k2 : length x2 ≡ 1 = length-bytes 1 m.flags in
      let k3 : length x3 ≡ x = length-bytes x m.depends_on in
      let k4 : length x4 ≡ y = length-bytes y (length url) in
      let gd : m.depends_on < 256 ^ x = omega (arith, hd, ap (λ w. 256 ^ w) ex) in
      let gu : length url < 256 ^ y = omega (arith, hu, ap (λ w. 256 ^ w) ey) in
      let go : m.ocr_id < 256 ^ z = omega (arith, ho, ap (λ w. 256 ^ w) ez) in
      let f1 : b1 ≡ sets buf at x1 = number_put 2 m.id at buf b1 p (omega arith) hi (omega (arith, long)) e1 in
      let l1 : length b1 ≡ length buf = same-long buf b1 x1 at f1 in
      let f2 : b2 ≡ sets b1 (at + 2) x2 = number_put 1 m.flags (at + 2) b1 b2 q (omega arith) hf (omega (arith, long, l1)) e2 in
      let l2 : length b2 ≡ length b1 = same-long b1 b2 x2 (at + 2) f2 in
      let f3 : b3 ≡ sets b2 (at + 3) x3 = number_put x m.depends_on (at + 3) b2 b3 r (omega (arith, fx)) gd (omega (arith, long, l1, l2)) e3 in
      let l3 : length b3 ≡ length b2 = same-long b2 b3 x3 (at + 3) f3 in
      let f4 : b4 ≡ sets b3 (at + 3 + x) x4 = number_put y (length url) (at + 3 + x) b3 b4 t (omega (arith, fy)) gu (omega (arith, long, l1, l2, l3)) e4 in
      let l4 : length b4 ≡ length b3 = same-long b3 b4 x4 (at + 3 + x) f4 in
      let f5 : b5 ≡ sets b4 (at + 3 + x + y) url = part-put url (at + 3 + x + y) b4 b5 u (omega (arith, long, l1, l2, l3, l4)) e5 in
      let l5 : length b5 ≡ length b4 = same-long b4 b5 url (at + 3 + x + y) f5 in
      let g2 : b2 ≡ sets buf at (x1 ++ x2) = more buf b1 b2 x1 x2 at (at + 2) f1 f2 (omega (arith, k1)) in
      let g3 : b3 ≡ sets buf at (x1 ++ x2 ++ x3) = more buf b2 b3 (x1 ++ x2) x3 at (at + 3) g2 f3 (omega (arith, k1, k2, length-append x1 x2)) in
      let g4 : b4 ≡ sets buf at (x1 ++ x2 ++ x3 ++ x4) = more buf b3 b4 (x1 ++ x2 ++ x3) x4 at (at + 3 + x) g3 f4 (omega (arith, k1, k2, k3, length-append x1 x2, length-append (x1 ++ x2) x3)) in
      let g5 : b5 ≡ sets buf at (x1 ++ x2 ++ x3 ++ x4 ++ url) =
      more buf b4 b5 (x1 ++ x2 ++ x3 ++ x4) url at (at + 3 + x + y) g4 f5 (omega (arith, k1, k2, k3, k4, length-append x1 x2, length-append (x1 ++ x2) x3, length-append (x1 ++ x2 ++ x3) x4)) in
      let g6 : sets b5 (at + 3 + x + y + length url) x6 ≡ sets buf at (x1 ++ x2 ++ x3 ++ x4 ++ url ++ x6) =
      more buf b5 _ (x1 ++ x2 ++ x3 ++ x4 ++ url) x6 at (at + 3 + x + y + length url) g5 refl
      (omega (arith, k1, k2, k3, k4, length-append x1 x2, length-append (x1 ++ x2) x3, length-append (x1 ++ x2 ++ x3) x4, length-append (x1 ++ x2 ++ x3 ++ x4) url)) in
      let g7 : sets b5 (at + 3 + x + y + length url) x6 ≡ sets buf at (field_bytes m url) =
      g6
      ∙ ap₂ (λ (i j : ℕ). sets buf at (x1 ++ x2 ++ bytes i m.depends_on ++ bytes j (length url) ++ url ++ x6)) ex ey
      ∙ ap (λ i. sets buf at (x1 ++ x2 ++ bytes (wide m.flags 0x80 2) m.depends_on ++ bytes (wide m.flags 0x40 1) (length url) ++ url ++ bytes i m.ocr_id)) ez in
      e6 ∙ sym (done z m.ocr_id (at + 3 + x + y + length url) b5 (omega (arith, fz)) go (omega (arith, long, l1, l2, l3, l4, l5)))
      ∙ ap₂ (λ (n : ℕ) (b : List ℕ). wrote (Ok n) b) (let k : at + 3 + x + y + length url + z ≡ at + length (field_bytes m url) = omega (arith, l, ex, ey, ez) in k) g7
      ∙ has_room (field_bytes m url) (length (field_bytes m url)) at buf room

-- ALL FIELDS

module _ (m : Stream) (url : List ℕ) (at : ℕ) (out : List ℕ) where
  pub unsound : sound m url ≡ false → wrote (Err refusal.Unwritable) out ≡ fields_in m url at out
  unsound e = by-false _ _ _ (sound m url) e refl

  module _ (h : sound m url ≡ true) (n : ℕ) (e : n ≡ length (field_bytes m url)) where
    pub no_end : length out < 2 ^ 64 → 2 ^ 64 ≤ at + n → wrote (Err refusal.Overflow) out ≡ fields_in m url at out
    no_end l g = by-true _ _ _ (sound m url) h (no-sum (field_bytes m url) (length (field_bytes m url)) at out l (omega (arith, e, g)))

    pub no_place : at + n < 2 ^ 64 → length out < at + n → wrote (Err (refusal.TooSmall (at + n))) out ≡ fields_in m url at out
    no_place l g =
        ap (λ n. wrote (Err (refusal.TooSmall (at + n))) out) e
        ∙ by-true _ _ _ (sound m url) h (no_room (field_bytes m url) (length (field_bytes m url)) at out (omega (arith, e, l)) (omega (arith, e, g)))

    pub all-put : (b : List ℕ) (p : Result ℕ Refusal) → wrote p b ≡ placed (field_bytes m url) (length (field_bytes m url)) at out → wrote p b ≡ fields_in m url at out
    all-put b p f = by-true _ _ _ (sound m url) h f

-- fields that have room
pub fields-in : (m : Stream) (url : List ℕ) (at : ℕ) (out after : List ℕ) (p : Result ℕ Refusal) → sound m url ≡ true → at + length (field_bytes m url) ≤ length out →
    wrote p after ≡ fields_in m url at out → after ≡ sets out at (field_bytes m url)
fields-in m url at out after p h r e =
    cc (e ∙ sym (by-true _ _ _ (sound m url) h (has_room (field_bytes m url) (length (field_bytes m url)) at out r)))
