-- What was read behind the flags, laid again: the box's own bytes. Assumes nothing.
use Rattle.std.specs.Prelude.{Some}
use mathlib.Core.Path.{◌≡◌, sym, ap, ap₂, ◌∙◌}
use mathlib.Core.List.{List, [], ◌∷◌, ◌++◌, append_assoc}
use mathlib.Core.Bool.{true}
use Prim.Native.Nat.{ℕ, suc, ◌+◌, ◌-◌, ◌^◌, ◌≤◌, ◌<◌}
use native.Mathlib.Numerals.{add-one}
use native.Mathlib.Omega.{arith}
use lib.ListN.{length, get_or, take, drop}
use lib.Seq.{take-add, take-suc, take-length, length-take-le, get_or-drop, get_or_at, drop_at}
use borrow.Author.Tests.{lt-ltb}
use Rattle.numbers.specs.Number.{bytes}
use Rattle.numbers.proofs.Laws.{Bytes, be-below}
use Rattle.rounds.proofs.Round.{grown}
use Rattle.strings.specs.Text.{text_at}
use Rattle.emsg.specs.Emsg.{emsg, span, whole, wide, sound, string_bytes, number_bytes, laid}
use Rattle.emsg.specs.declared.Emsg.{Emsg}
use Rattle.emsg.specs.declared.Places.{Places}
use Rattle.emsg.proofs.Texts.{ended, Both}
use Rattle.emsg.proofs.FourNumbers.{Four}
use Rattle.emsg.proofs.Contents.{Early, Late}
use Rattle.emsg.proofs.Puts.{wide-0, wide-1, and_last, laid-0, laid-1}

three-on : (t a b c : List ℕ) → t ++ (a ++ b ++ c) ≡ t ++ a ++ b ++ c
three-on t a b c = simp append_assoc

four-on : (t a b c d : List ℕ) → t ++ (a ++ b ++ c ++ d) ≡ t ++ a ++ b ++ c ++ d
four-on t a b c d = simp append_assoc

-- THE BYTES UP TO A PLACE, AND FURTHER

span-grows : (b : List ℕ) (from to : ℕ) → from ≤ to → take from b ++ span b from to ≡ take to b
span-grows b from to h = sym (take-add from (to - from) b) ∙ ap (λ n. take n b) (let z : from + (to - from) ≡ to = omega (arith, h) in z)

zero_is : (b : List ℕ) (at e : ℕ) → text_at b at ≡ Some e → get_or b e 0 ≡ 0
zero_is b at e h =
    let i = ended (drop at b) at e h in
    let n = e - at in
    let l : length (take n (drop at b)) ≡ n = length-take-le n (drop at b) (omega (arith, i.from, i.within)) in
    ap (λ k. get_or b k 0) (let z : e ≡ at + n = omega (arith, i.from) in z)
    ∙ sym (get_or-drop at b n 0) ∙ ap (λ l. get_or l n 0) (sym i.same) ∙ get_or_at (take n (drop at b)) 0 (drop (suc n) (drop at b)) 0 n l

zero-grows : (b : List ℕ) (at e : ℕ) → text_at b at ≡ Some e → e < length b → take e b ++ (0 ∷ []) ≡ take (e + 1) b
zero-grows b at e h l =
    ap (λ x. take e b ++ (x ∷ [])) (sym (zero_is b at e h)) ∙ sym (take-suc b e 0 l) ∙ ap (λ n. take n b) (sym (add-one e))

clear : (b : List ℕ) (at e : ℕ) → text_at b at ≡ Some e → whole (text_at (span b at e) 0) ≡ true
clear b at e h = ap whole (ended (drop at b) at e h).clear

strings-own : (b : List ℕ) (at e f : ℕ) → Both b at e f → take at b ++ string_bytes (span b at e) (span b (e + 1) f) ≡ take (f + 1) b
strings-own b at e f h =
    let s = span b at e in
    let v = span b (e + 1) f in
    four-on (take at b) s (0 ∷ []) v (0 ∷ [])
    ∙ ap (λ l. l ++ (0 ∷ []) ++ v ++ (0 ∷ [])) (span-grows b at e h.from)
    ∙ ap (λ l. l ++ v ++ (0 ∷ [])) (zero-grows b at e h.first (omega (arith, h.next, h.within)))
    ∙ ap (λ l. l ++ (0 ∷ [])) (span-grows b (e + 1) f (omega (arith, h.next)))
    ∙ zero-grows b (e + 1) f h.second h.within

numbers-own : (w v fl s t d i : ℕ) (b : List ℕ) (at : ℕ) → Bytes b → Four w b at s t d i → take at b ++ number_bytes w (emsg v fl s t d i) ≡ take (at + 4 + w + 4 + 4) b
numbers-own w v fl s t d i b at hb h =
    four-on (take at b) (bytes 4 s) (bytes w t) (bytes 4 d) (bytes 4 i)
    ∙ ap (λ l. l ++ bytes w t ++ bytes 4 d ++ bytes 4 i) (ap (λ n. take at b ++ bytes 4 n) h.scale ∙ grown 4 b at hb (omega (arith, h.within)))
    ∙ ap (λ l. l ++ bytes 4 d ++ bytes 4 i) (ap (λ n. take (at + 4) b ++ bytes w n) h.time ∙ grown w b (at + 4) hb (omega (arith, h.within)))
    ∙ ap (λ l. l ++ bytes 4 i) (ap (λ n. take (at + 4 + w) b ++ bytes 4 n) h.duration ∙ grown 4 b (at + 4 + w) hb (omega (arith, h.within)))
    ∙ ap (λ n. take (at + 4 + w + 4) b ++ bytes 4 n) h.id ∙ grown 4 b (at + 4 + w + 4) hb h.within

numbers-sound : (w v fl s t d i : ℕ) (m : Emsg) (b : List ℕ) (at : ℕ) (x y : List ℕ) → Bytes b → Four w b at s t d i → m ≡ emsg v fl s t d i → wide m.version ≡ w →
    whole (text_at x 0) ≡ true → whole (text_at y 0) ≡ true → sound m x y ≡ true
numbers-sound w v fl s t d i m b at x y hb h e ew hx hy =
    sym (and_last _ _ _ _ _ _
    (lt-ltb m.timescale (256 ^ 4) (omega (arith, ap (λ m. m.timescale) e, h.scale, be-below 4 b at hb)))
    (lt-ltb m.presentation_time (256 ^ wide m.version)
    (omega (arith, ap (λ m. m.presentation_time) e, h.time, be-below w b (at + 4) hb, ap (λ w. 256 ^ w) ew)))
    (lt-ltb m.event_duration (256 ^ 4) (omega (arith, ap (λ m. m.event_duration) e, h.duration, be-below 4 b (at + 4 + w) hb)))
    (lt-ltb m.id (256 ^ 4) (omega (arith, ap (λ m. m.id) e, h.id, be-below 4 b (at + 4 + w + 4) hb)))
    hx)
    ∙ hy

-- THE CONTENT

pub record Own (b : List ℕ) (at : ℕ) (m : Emsg) (p : Places) : Type 0 where
  pub sounds : sound m (span b p.scheme p.scheme_end) (span b p.value p.value_end) ≡ true
  pub same : laid m (span b p.scheme p.scheme_end) (span b p.value p.value_end) (span b p.message p.end) ≡ drop at b

-- what stands before is known, so what is left is known too
left : (b x : List ℕ) (at : ℕ) → at ≤ length b → take at b ++ x ≡ b → x ≡ drop at b
left b x at h e = sym (drop_at (take at b) x at (length-take-le at b h)) ∙ ap (drop at) e

module _ (b : List ℕ) (at fl : ℕ) (m : Emsg) (p : Places) (hb : Bytes b) (hat : at ≤ length b) where
  pub early-own : Early b at fl m p → Own b at m p
  early-own y =
      let e = y.e in
      let f = y.f in
      let s = span b at e in
      let v = span b (e + 1) f in
      let x = span b (f + 1 + 16) (length b) in
      let z : m.version ≡ 0 = ap (λ m. m.version) y.is in
      let k : take (f + 1) b ++ number_bytes 4 m ≡ take (f + 1 + 16) b =
      ap (λ m. take (f + 1) b ++ number_bytes 4 m) y.is ∙ numbers-own 4 0 fl y.s y.t y.d y.i b (f + 1) hb y.numbers
      ∙ ap (λ n. take n b) (let q : f + 1 + 4 + 4 + 4 + 4 ≡ f + 1 + 16 = omega arith in q) in
      let all : take at b ++ (string_bytes s v ++ number_bytes 4 m ++ x) ≡ b =
      three-on (take at b) (string_bytes s v) (number_bytes 4 m) x
      ∙ ap (λ l. l ++ number_bytes 4 m ++ x) (strings-own b at e f y.texts)
      ∙ ap (λ l. l ++ x) k ∙ span-grows b (f + 1 + 16) (length b) (omega (arith, y.numbers.within)) ∙ take-length b in
      record {
        sounds =
            ap₂ (λ (s v : List ℕ). sound m s v) (ap (λ p. span b p.scheme p.scheme_end) y.lies) (ap (λ p. span b p.value p.value_end) y.lies)
            ∙ numbers-sound 4 0 fl y.s y.t y.d y.i m b (f + 1) s v hb y.numbers y.is (wide-0 m.version z)
            (clear b at e y.texts.first) (clear b (e + 1) f y.texts.second);
        same =
            ap (λ p. laid m (span b p.scheme p.scheme_end) (span b p.value p.value_end) (span b p.message p.end)) y.lies
            ∙ laid-0 m s v x z ∙ left b (string_bytes s v ++ number_bytes 4 m ++ x) at hat all;
      }

  pub late-own : Late b at fl m p → Own b at m p
  late-own y =
      let e = y.e in
      let f = y.f in
      let s = span b (at + 20) e in
      let v = span b (e + 1) f in
      let x = span b (f + 1) (length b) in
      let z : m.version ≡ 1 = ap (λ m. m.version) y.is in
      let z0 : m.version ≡ 0 → ⊥ = λ q. omega (arith, z, q) in
      let k : take at b ++ number_bytes 8 m ≡ take (at + 20) b =
      ap (λ m. take at b ++ number_bytes 8 m) y.is ∙ numbers-own 8 1 fl y.s y.t y.d y.i b at hb y.numbers
      ∙ ap (λ n. take n b) (let q : at + 4 + 8 + 4 + 4 ≡ at + 20 = omega arith in q) in
      let all : take at b ++ (number_bytes 8 m ++ string_bytes s v ++ x) ≡ b =
      three-on (take at b) (number_bytes 8 m) (string_bytes s v) x
      ∙ ap (λ l. l ++ string_bytes s v ++ x) k
      ∙ ap (λ l. l ++ x) (strings-own b (at + 20) e f y.texts) ∙ span-grows b (f + 1) (length b) (omega (arith, y.texts.within)) ∙ take-length b in
      record {
        sounds =
            ap₂ (λ (s v : List ℕ). sound m s v) (ap (λ p. span b p.scheme p.scheme_end) y.lies) (ap (λ p. span b p.value p.value_end) y.lies)
            ∙ numbers-sound 8 1 fl y.s y.t y.d y.i m b at s v hb y.numbers y.is (wide-1 m.version z0)
            (clear b (at + 20) e y.texts.first) (clear b (e + 1) f y.texts.second);
        same =
            ap (λ p. laid m (span b p.scheme p.scheme_end) (span b p.value p.value_end) (span b p.message p.end)) y.lies
            ∙ laid-1 m s v x z0 ∙ left b (number_bytes 8 m ++ string_bytes s v ++ x) at hat all;
      }
