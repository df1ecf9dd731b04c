-- What the writer does, step by step. Assumes nothing.
use Rattle.std.specs.Prelude.{Result, Ok, Err}
use mathlib.Core.Path.{◌≡◌, refl, sym, ap, ap₂, ◌∙◌}
use mathlib.Core.List.{List, [], ◌++◌}
use mathlib.Core.Bool.{Bool, true, false, ◌&&◌}
use mathlib.Core.Logic.{⊎_elim}
use Prim.Native.Nat.{ℕ, ◌+◌, ◌^◌, ◌≤◌, ◌<◌}
use native.Mathlib.Omega.{arith}
use lib.ListN.{length, length-append}
use lib.Seq.{sets}
use lib.Dec.{eqb, ltb}
use borrow.Author.Tests.{lt-ltb, le-ltb, ltb-true, eqb-true}
use Rattle.numbers.specs.Number.{bytes}
use Rattle.numbers.specs.Field.{when}
use Rattle.numbers.specs.declared.Refusal.TheVariants as refusal
use Rattle.numbers.specs.declared.Refusal.{Refusal}
use Rattle.numbers.proofs.Laws.{length-bytes}
use Rattle.numbers.proofs.Chain.{by-true, by-false, is_lt, way}
use Rattle.put.specs.Put.{wrote, placed, put_of}
use Rattle.put.proofs.Placed.{done, has_room, no-sum, no_room}
use Rattle.descriptor.specs.Descriptor.{size_for}
use Rattle.descriptors.specs.Descriptors.{descriptor_bytes, descriptor_in}
use Rattle.descriptors.proofs.Puts.{length-descriptor, number_put, more, same-long}
use Rattle.decoderconfig.specs.DecoderConfig.{is_whole, has, sound, number_bytes, info_bytes, config_bytes, size_of, config_in}
use Rattle.decoderconfig.specs.declared.Config.{Config}

-- SOUND

and-third : (a b c d e f : Bool) → a ≡ true → b ≡ true → c ≡ false → false ≡ a && b && c && d && e && f
and-third a b c d e f p q r = sym (simp (p, q, r))

and_last : (a b c d e f : Bool) → a ≡ true → b ≡ true → c ≡ true → d ≡ true → e ≡ true → f ≡ a && b && c && d && e && f
and_last a b c d e f p q r s t = sym (simp (p, q, r, s, t))

module _ (c : Config) (info : List ℕ) (ho : c.object_type_indication < 256 ^ 1) (ht : c.stream < 256 ^ 1) where
  pub large-buffer : 256 ^ 3 ≤ c.buffer_size → false ≡ sound c info
  large-buffer h =
      and-third _ _ _ _ _ _ (lt-ltb c.object_type_indication (256 ^ 1) ho) (lt-ltb c.stream (256 ^ 1) ht) (le-ltb c.buffer_size (256 ^ 3) h)

  module _ (hz : c.buffer_size < 256 ^ 3) (hx : c.max_bitrate < 256 ^ 4) (ha : c.avg_bitrate < 256 ^ 4) where
    pub info-says : (t : Bool) → t ≡ when c.has_info (ltb (length info) (128 ^ 4) && is_whole info) (eqb (length info) 0) → t ≡ sound c info
    info-says t e =
        e
        ∙ and_last _ _ _ _ _ _ (lt-ltb c.object_type_indication (256 ^ 1) ho) (lt-ltb c.stream (256 ^ 1) ht) (lt-ltb c.buffer_size (256 ^ 3) hz)
        (lt-ltb c.max_bitrate (256 ^ 4) hx) (lt-ltb c.avg_bitrate (256 ^ 4) ha)

    pub long-info : c.has_info ≡ true → 128 ^ 4 ≤ length info → false ≡ sound c info
    long-info e h = info-says _ (by-true _ _ _ c.has_info e (sym (ap (λ (b : Bool). b && is_whole info) (le-ltb (length info) (128 ^ 4) h))))

    pub with-info : c.has_info ≡ true → length info < 128 ^ 4 → is_whole info ≡ sound c info
    with-info e h = info-says _ (by-true _ _ _ c.has_info e (sym (ap (λ (b : Bool). b && is_whole info) (lt-ltb (length info) (128 ^ 4) h))))

    pub without-info : c.has_info ≡ false → eqb (length info) 0 ≡ sound c info
    without-info e = info-says _ (by-false _ _ _ c.has_info e refl)

and-true : (a b : Bool) → a && b ≡ true → (a ≡ true) × (b ≡ true)
and-true true b h = (refl, h)
and-true false b h = let z : ◌≡◌ {A = ℕ} 0 1 = cc h in absurd (omega arith)

pub record Sound (c : Config) (info : List ℕ) : Type 0 where
  pub object : c.object_type_indication < 256 ^ 1
  pub stream : c.stream < 256 ^ 1
  pub buffer : c.buffer_size < 256 ^ 3
  pub max : c.max_bitrate < 256 ^ 4
  pub avg : c.avg_bitrate < 256 ^ 4
  pub some : c.has_info ≡ true → length info < 128 ^ 4
  pub whole : c.has_info ≡ true → is_whole info ≡ true
  pub none : c.has_info ≡ false → length info ≡ 0
  pub small : length info < 128 ^ 4

pub sounds : (c : Config) (info : List ℕ) → sound c info ≡ true → Sound c info
sounds c info h =
    let t = when c.has_info (ltb (length info) (128 ^ 4) && is_whole info) (eqb (length info) 0) in
    let p = and-true (has 1 c.object_type_indication && has 1 c.stream && has 3 c.buffer_size && has 4 c.max_bitrate && has 4 c.avg_bitrate) t h in
    let q = and-true (has 1 c.object_type_indication && has 1 c.stream && has 3 c.buffer_size && has 4 c.max_bitrate) (has 4 c.avg_bitrate) p.0 in
    let r = and-true (has 1 c.object_type_indication && has 1 c.stream && has 3 c.buffer_size) (has 4 c.max_bitrate) q.0 in
    let s = and-true (has 1 c.object_type_indication && has 1 c.stream) (has 3 c.buffer_size) r.0 in
    let u = and-true (has 1 c.object_type_indication) (has 1 c.stream) s.0 in
    let there : c.has_info ≡ true → (ltb (length info) (128 ^ 4) ≡ true) × (is_whole info ≡ true) =
    λ e. and-true (ltb (length info) (128 ^ 4)) (is_whole info) (by-true (ltb (length info) (128 ^ 4) && is_whole info) (eqb (length info) 0) _ c.has_info e refl ∙ p.1) in
    let none : c.has_info ≡ false → length info ≡ 0 =
    λ e. eqb-true (length info) 0 (by-false (ltb (length info) (128 ^ 4) && is_whole info) (eqb (length info) 0) _ c.has_info e refl ∙ p.1) in
    record {
      object = ltb-true c.object_type_indication (256 ^ 1) u.0;
      stream = ltb-true c.stream (256 ^ 1) u.1;
      buffer = ltb-true c.buffer_size (256 ^ 3) s.1;
      max = ltb-true c.max_bitrate (256 ^ 4) r.1;
      avg = ltb-true c.avg_bitrate (256 ^ 4) q.1;
      some = λ e. ltb-true (length info) (128 ^ 4) (there e).0;
      whole = λ e. (there e).1;
      none = none;
      small = ⊎_elim (λ y. ltb-true (length info) (128 ^ 4) (and-true (ltb (length info) (128 ^ 4)) (is_whole info) y.1).0) (λ y. omega (arith, eqb-true (length info) 0 y.1)) (way c.has_info _ _ _ p.1);
    }

-- HOW LONG IT IS

pub info-there : (t : Bool) (info : List ℕ) → t ≡ true → info_bytes t info ≡ descriptor_bytes 5 info
info-there t info e = sym (by-true (descriptor_bytes 5 info) [] _ t e refl)

pub info-absent : (t : Bool) (info : List ℕ) → t ≡ false → info_bytes t info ≡ []
info-absent t info e = sym (by-false (descriptor_bytes 5 info) [] _ t e refl)

pub length-numbers : (c : Config) → length (number_bytes c) ≡ 13
length-numbers c =
    simp length-append
    (omega (arith, length-bytes 1 c.object_type_indication, length-bytes 1 c.stream, length-bytes 3 c.buffer_size, length-bytes 4 c.max_bitrate, length-bytes 4 c.avg_bitrate))

pub length-config : (c : Config) (info : List ℕ) → length (config_bytes c info) ≡ 13 + length (info_bytes c.has_info info)
length-config c info = omega (arith, length-append (number_bytes c) (info_bytes c.has_info info), length-numbers c)

module _ (c : Config) (info : List ℕ) where
  pub long-with : c.has_info ≡ true → length (config_bytes c info) ≡ 14 + size_for (length info) + length info
  long-with e = omega (arith, length-config c info, ap length (info-there c.has_info info e), length-descriptor 5 info)

  pub long-without : c.has_info ≡ false → length (config_bytes c info) ≡ 13
  long-without e = omega (arith, length-config c info, ap length (info-absent c.has_info info e))

  pub no_size : sound c info ≡ false → Err refusal.Unwritable ≡ size_of c info
  no_size e = by-false _ _ _ (sound c info) e refl

  pub its-size : (n : ℕ) → sound c info ≡ true → n ≡ length (config_bytes c info) → Ok n ≡ size_of c info
  its-size n e q = by-true _ _ _ (sound c info) e (ap Ok q)

  -- a size that was told
  pub size-told : (r : Result ℕ Refusal) → r ≡ size_of c info → (n : ℕ) → r ≡ Ok n → (sound c info ≡ true) × (n ≡ length (config_bytes c info))
  size-told r e n f =
      ⊎_elim
      (λ y. (y.0, let z : n ≡ length (config_bytes c info) = cc (y.1, f) in z))
      (λ y. let z : ◌≡◌ {A = ℕ} 0 1 = cc (y.1, f) in absurd (omega arith))
      (way (sound c info) _ _ _ (sym e))

  pub size-refused : (r : Result ℕ Refusal) → r ≡ size_of c info → (q : Refusal) → r ≡ Err q → (sound c info ≡ false) × (q ≡ refusal.Unwritable)
  size-refused r e q f =
      ⊎_elim (λ y. let v : ◌≡◌ {A = ℕ} 0 1 = cc (y.1, f) in absurd (omega arith)) (λ y. let v : q ≡ refusal.Unwritable = cc (y.1, f) in (y.0, v))
      (way (sound c info) _ _ _ (sym e))

-- STORES

pub numbers-put : (c : Config) (buf b1 b2 b3 b4 b5 : List ℕ) (p q r t u : Result ℕ Refusal) (at : ℕ) → at + 13 ≤ length buf → c.object_type_indication < 256 ^ 1 → c.stream < 256 ^ 1 →
    c.buffer_size < 256 ^ 3 → c.max_bitrate < 256 ^ 4 → c.avg_bitrate < 256 ^ 4 → wrote p b1 ≡ put_of 1 c.object_type_indication at buf →
    wrote q b2 ≡ put_of 1 c.stream (at + 1) b1 → wrote r b3 ≡ put_of 3 c.buffer_size (at + 2) b2 → wrote t b4 ≡ put_of 4 c.max_bitrate (at + 5) b3 →
    wrote u b5 ≡ put_of 4 c.avg_bitrate (at + 9) b4 → wrote u b5 ≡ placed (number_bytes c) 13 at buf
numbers-put c buf b1 b2 b3 b4 b5 p q r t u at h ho ht hz hx ha e1 e2 e3 e4 e5 =
    let x1 = bytes 1 c.object_type_indication in
    let x2 = bytes 1 c.stream in
    let x3 = bytes 3 c.buffer_size in
    let x4 = bytes 4 c.max_bitrate in
    let x5 = bytes 4 c.avg_bitrate in
    let k1 : length x1 ≡ 1 = length-bytes 1 c.object_type_indication in
    let k2 : length x2 ≡ 1 = length-bytes 1 c.stream in
    let k3 : length x3 ≡ 3 = length-bytes 3 c.buffer_size in
    let k4 : length x4 ≡ 4 = length-bytes 4 c.max_bitrate in
    let f1 : b1 ≡ sets buf at x1 = number_put 1 c.object_type_indication at buf b1 p (omega arith) ho (omega arith) e1 in
    let l1 : length b1 ≡ length buf = same-long buf b1 x1 at f1 in
    let f2 : b2 ≡ sets b1 (at + 1) x2 = number_put 1 c.stream (at + 1) b1 b2 q (omega arith) ht (omega arith) e2 in
    let l2 : length b2 ≡ length b1 = same-long b1 b2 x2 (at + 1) f2 in
    let f3 : b3 ≡ sets b2 (at + 2) x3 = number_put 3 c.buffer_size (at + 2) b2 b3 r (omega arith) hz (omega arith) e3 in
    let l3 : length b3 ≡ length b2 = same-long b2 b3 x3 (at + 2) f3 in
    let f4 : b4 ≡ sets b3 (at + 5) x4 = number_put 4 c.max_bitrate (at + 5) b3 b4 t (omega arith) hx (omega arith) e4 in
    let l4 : length b4 ≡ length b3 = same-long b3 b4 x4 (at + 5) f4 in
    let g2 : b2 ≡ sets buf at (x1 ++ x2) = more buf b1 b2 x1 x2 at (at + 1) f1 f2 (omega arith) in
    let g3 : b3 ≡ sets buf at (x1 ++ x2 ++ x3) = more buf b2 b3 (x1 ++ x2) x3 at (at + 2) g2 f3 (omega (arith, length-append x1 x2)) in
    let g4 : b4 ≡ sets buf at (x1 ++ x2 ++ x3 ++ x4) = more buf b3 b4 (x1 ++ x2 ++ x3) x4 at (at + 5) g3 f4 (omega (arith, length-append x1 x2, length-append (x1 ++ x2) x3)) in
    let g5 : sets b4 (at + 9) x5 ≡ sets buf at (number_bytes c) =
    more buf b4 _ (x1 ++ x2 ++ x3 ++ x4) x5 at (at + 9) g4 refl (omega (arith, length-append x1 x2, length-append (x1 ++ x2) x3, length-append (x1 ++ x2 ++ x3) x4)) in
    e5 ∙ sym (done 4 c.avg_bitrate (at + 9) b4 (omega arith) ha (omega arith))
    ∙ ap₂ (λ (n : ℕ) (b : List ℕ). wrote (Ok n) b) (let z : at + 9 + 4 ≡ at + 13 = omega arith in z) g5
    ∙ has_room (number_bytes c) 13 at buf h

-- numbers that have room
module _ (c : Config) (at : ℕ) (out b : List ℕ) (p : Result ℕ Refusal) (h : at + 13 ≤ length out) (e : wrote p b ≡ placed (number_bytes c) 13 at out) where
  numbers-are : wrote p b ≡ wrote (Ok (at + 13)) (sets out at (number_bytes c))
  numbers-are = e ∙ sym (has_room (number_bytes c) 13 at out h)

  pub numbers-done : b ≡ sets out at (number_bytes c)
  numbers-done = cc numbers-are

  pub numbers-room : (q : Refusal) → p ≡ Err q → ⊥
  numbers-room q f = let z : ◌≡◌ {A = ℕ} 0 1 = cc (numbers-are, f) in omega arith

module _ (t : Bool) (info : List ℕ) (at : ℕ) (out : List ℕ) where
  pub info-put : t ≡ true → length info < 128 ^ 4 → descriptor_in 5 info at out ≡ placed (info_bytes t info) (length (info_bytes t info)) at out
  info-put e h = sym (is_lt _ _ _ (length info) (128 ^ 4) h refl) ∙ ap (λ l. placed l (length l) at out) (sym (info-there t info e))

  pub no-info-put : t ≡ false → at ≤ length out → wrote (Ok at) out ≡ placed (info_bytes t info) (length (info_bytes t info)) at out
  no-info-put e h =
      ap (λ n. wrote (Ok n) out) (let z : at ≡ at + 0 = omega arith in z) ∙ has_room [] 0 at out (omega arith)
      ∙ ap (λ l. placed l (length l) at out) (sym (info-absent t info e))

-- THE WHOLE CONTENT

module _ (c : Config) (info : List ℕ) (at : ℕ) (out : List ℕ) where
  pub unsound : sound c info ≡ false → wrote (Err refusal.Unwritable) out ≡ config_in c info at out
  unsound e = by-false _ _ _ (sound c info) e refl

  module _ (h : sound c info ≡ true) (n : ℕ) (e : n ≡ length (config_bytes c info)) where
    pub no_end : length out < 2 ^ 64 → 2 ^ 64 ≤ at + n → wrote (Err refusal.Overflow) out ≡ config_in c info at out
    no_end l g = by-true _ _ _ (sound c info) h (no-sum (config_bytes c info) (length (config_bytes c info)) at out l (omega (arith, e, g)))

    pub no_place : at + n < 2 ^ 64 → length out < at + n → wrote (Err (refusal.TooSmall (at + n))) out ≡ config_in c info at out
    no_place l g =
        ap (λ n. wrote (Err (refusal.TooSmall (at + n))) out) e
        ∙ by-true _ _ _ (sound c info) h (no_room (config_bytes c info) (length (config_bytes c info)) at out (omega (arith, e, l)) (omega (arith, e, g)))

    pub all-put : at + n ≤ length out → (b1 b2 : List ℕ) (p q : Result ℕ Refusal) → wrote p b1 ≡ placed (number_bytes c) 13 at out →
        wrote q b2 ≡ placed (info_bytes c.has_info info) (length (info_bytes c.has_info info)) (at + 13) b1 → wrote q b2 ≡ config_in c info at out
    all-put g b1 b2 p q e1 e2 =
        let l = length-config c info in
        let f1 : b1 ≡ sets out at (number_bytes c) = numbers-done c at out b1 p (omega (arith, e, l, g)) e1 in
        let l1 : length b1 ≡ length out = same-long out b1 (number_bytes c) at f1 in
        let f2 : sets b1 (at + 13) (info_bytes c.has_info info) ≡ sets out at (config_bytes c info) =
        more out b1 _ (number_bytes c) (info_bytes c.has_info info) at (at + 13) f1 refl (omega (arith, length-numbers c)) in
        e2 ∙ sym (has_room (info_bytes c.has_info info) (length (info_bytes c.has_info info)) (at + 13) b1 (omega (arith, e, l, l1, g)))
        ∙ ap₂ (λ (n : ℕ) (b : List ℕ). wrote (Ok n) b) (let z : at + 13 + length (info_bytes c.has_info info) ≡ at + length (config_bytes c info) = omega (arith, l) in z) f2
        ∙ by-true _ _ _ (sound c info) h (has_room (config_bytes c info) (length (config_bytes c info)) at out (omega (arith, e, g)))

-- a content that has room
pub config-put : (c : Config) (info : List ℕ) (at : ℕ) (out after : List ℕ) (p : Result ℕ Refusal) → sound c info ≡ true → at + length (config_bytes c info) ≤ length out →
    wrote p after ≡ config_in c info at out → after ≡ sets out at (config_bytes c info)
config-put c info at out after p h r e =
    cc (e ∙ sym (by-true _ _ _ (sound c info) h (has_room (config_bytes c info) (length (config_bytes c info)) at out r)))
