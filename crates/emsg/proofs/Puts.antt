-- What `write` does, step by step. Assumes nothing.
use Rattle.std.specs.Prelude.{Result, Ok, Err}
use mathlib.Core.Path.{◌≡◌, refl, sym, ap, ap₂, ◌∙◌}
use mathlib.Core.List.{List, [], ◌∷◌, ◌++◌, append-nil}
use mathlib.Core.Bool.{Bool, true, false, ◌&&◌}
use Prim.Native.Nat.{ℕ, ◌+◌, ◌-◌, ◌^◌, ◌≤◌, ◌<◌, min}
use native.Mathlib.Nat.{zero-add}
use native.Mathlib.Omega.{arith}
use lib.ListN.{length, drop, length-append}
use lib.Seq.{sets, sets-eq, length-sets}
use lib.Dec.{eqb}
use borrow.Author.Tests.{eq-eqb, ne_eqb, eqb-true, eqb-false, lt-ltb, le-ltb, ltb-true}
use Rattle.numbers.specs.Number.{bytes}
use Rattle.numbers.specs.Field.{when, widest}
use Rattle.numbers.specs.declared.Refusal.TheVariants as refusal
use Rattle.numbers.proofs.Laws.{length-bytes}
use Rattle.numbers.proofs.Chain.{is_eq, is_ne, is_lt, not-lt, by-true, by-false}
use Rattle.put.specs.Put.{Wrote, wrote, put_of}
use Rattle.put.specs.Put as put
use Rattle.put.proofs.Placed.{done, has_room}
use Rattle.put.proofs.Stores.{sets-append}
use Rattle.boxes.specs.Header.{plain_bytes, header_in}
use Rattle.boxes.specs.Full.{full_in}
use Rattle.layout.specs.Rule.{rule_of}
use Rattle.layout.specs.Write.{Made, made, bad, after, lay, encode, full, place, placed, slotted}
use Rattle.layout.specs.declared.Field.TheVariants.{Version, Flags}
use Rattle.layout.specs.declared.rule.Rule.{Rule}
use Rattle.layout.proofs.Writes.{length-full, headed, parted}
use Rattle.strings.specs.Text.{text_at}
use Rattle.emsg.specs.Emsg.{kind, fields, wide, whole, has, sound, string_bytes, number_bytes, laid, emsg_in}
use Rattle.emsg.specs.declared.Emsg.{Emsg}
use Rattle.numbers.specs.declared.Refusal.{Refusal}

-- THE TIME'S WIDTH

pub wide-0 : (v : ℕ) → v ≡ 0 → wide v ≡ 4
unfolding when
wide-0 v e = ap (λ t. when t 4 8) (eq-eqb v 0 e)

pub wide-1 : (v : ℕ) → (v ≡ 0 → ⊥) → wide v ≡ 8
unfolding when
wide-1 v e = ap (λ t. when t 4 8) (ne_eqb v 0 e)

pub wide-most : (v : ℕ) → wide v ≤ 8
unfolding when
wide-most v = by (eqb v 0)
  where
    by : (t : Bool) → when t 4 8 ≤ 8
    by true = omega arith
    by false = omega arith

pub early-time : (m : Emsg) → m.version ≡ 0 → m.presentation_time < 256 ^ wide m.version → m.presentation_time < 256 ^ 4
early-time m e h = omega (arith, h, ap (λ w. 256 ^ w) (wide-0 m.version e))

pub late-time : (m : Emsg) → (m.version ≡ 0 → ⊥) → m.presentation_time < 256 ^ wide m.version → m.presentation_time < 256 ^ 8
late-time m e h = omega (arith, h, ap (λ w. 256 ^ w) (wide-1 m.version e))

-- SOUND

and_second : (a b c d e f : Bool) → a ≡ true → b ≡ false → false ≡ a && b && c && d && e && f
and_second a b c d e f p q = sym (simp (p, q))

and-fifth : (a b c d e f : Bool) → a ≡ true → b ≡ true → c ≡ true → d ≡ true → e ≡ false → false ≡ a && b && c && d && e && f
and-fifth a b c d e f p q r s t = sym (simp (p, q, r, s, t))

pub and_last : (a b c d e f : Bool) → a ≡ true → b ≡ true → c ≡ true → d ≡ true → e ≡ true → f ≡ a && b && c && d && e && f
and_last a b c d e f p q r s t = sym (simp (p, q, r, s, t))

module _ (m : Emsg) (s v : List ℕ) (hs : m.timescale < 256 ^ 4) where
  pub long-time : 256 ^ wide m.version - 1 < m.presentation_time → false ≡ sound m s v
  long-time h = and_second _ _ _ _ _ _ (lt-ltb m.timescale (256 ^ 4) hs) (le-ltb m.presentation_time (256 ^ wide m.version) (omega arith))

  module _ (ht : m.presentation_time ≤ 256 ^ wide m.version - 1) (p : 0 < 256 ^ wide m.version) (hd : m.event_duration < 256 ^ 4) (hi : m.id < 256 ^ 4) where
    pub scheme-zero : whole (text_at s 0) ≡ false → false ≡ sound m s v
    scheme-zero h =
        and-fifth _ _ _ _ _ _ (lt-ltb m.timescale (256 ^ 4) hs) (lt-ltb m.presentation_time (256 ^ wide m.version) (omega arith))
        (lt-ltb m.event_duration (256 ^ 4) hd) (lt-ltb m.id (256 ^ 4) hi) h

    pub value-says : whole (text_at s 0) ≡ true → whole (text_at v 0) ≡ sound m s v
    value-says h =
        and_last _ _ _ _ _ _ (lt-ltb m.timescale (256 ^ 4) hs) (lt-ltb m.presentation_time (256 ^ wide m.version) (omega arith))
        (lt-ltb m.event_duration (256 ^ 4) hd) (lt-ltb m.id (256 ^ 4) hi) h

and-true : (a b : Bool) → a && b ≡ true → (a ≡ true) × (b ≡ true)
and-true true b h = (refl, h)
and-true false b h = let z : ◌≡◌ {A = ℕ} 0 1 = cc in absurd (omega arith)

and-all : (a b c d e f : Bool) → a && b && c && d && e && f ≡ true → (a ≡ true) × (b ≡ true) × (c ≡ true) × (d ≡ true) × (e ≡ true) × (f ≡ true)
and-all a b c d e f h =
    let p = and-true (a && b && c && d && e) f h in
    let q = and-true (a && b && c && d) e p.0 in
    let r = and-true (a && b && c) d q.0 in
    let s = and-true (a && b) c r.0 in
    let t = and-true a b s.0 in
    (t.0, t.1, s.1, r.1, q.1, p.1)

pub record Sound (m : Emsg) (s v : List ℕ) : Type 0 where
  pub scale : m.timescale < 256 ^ 4
  pub time : m.presentation_time < 256 ^ wide m.version
  pub duration : m.event_duration < 256 ^ 4
  pub id : m.id < 256 ^ 4
  pub scheme : whole (text_at s 0) ≡ true
  pub value : whole (text_at v 0) ≡ true

pub sounds : (m : Emsg) (s v : List ℕ) → sound m s v ≡ true → Sound m s v
sounds m s v h =
    let a =
    and-all (has 4 m.timescale) (has (wide m.version) m.presentation_time) (has 4 m.event_duration) (has 4 m.id)
    (whole (text_at s 0)) (whole (text_at v 0)) h in
    record {
      scale = ltb-true m.timescale (256 ^ 4) a.0;
      time = ltb-true m.presentation_time (256 ^ wide m.version) a.1;
      duration = ltb-true m.event_duration (256 ^ 4) a.2;
      id = ltb-true m.id (256 ^ 4) a.3;
      scheme = a.4;
      value = a.5;
    }

-- RUNS OF STORES

-- a number that has its bytes and room for them
pub stored : (w n at : ℕ) (buf out : List ℕ) (p : Result ℕ Refusal) → w ≤ widest → n < 256 ^ w → at + w ≤ length buf → wrote p out ≡ put_of w n at buf → out ≡ sets buf at (bytes w n)
stored w n at buf out p hw hn h e = cc (e ∙ sym (done w n at buf hw hn h))

-- a run behind another
more : (buf x y a c : List ℕ) (at n : ℕ) → x ≡ sets buf at a → y ≡ sets x n c → n ≡ at + length a → y ≡ sets buf at (a ++ c)
more buf x y a c at n ex ey en = ey ∙ ap₂ (λ (b : List ℕ) (n : ℕ). sets b n c) ex en ∙ sets-append buf at a c

same-long : (buf x a : List ℕ) (at : ℕ) → x ≡ sets buf at a → length x ≡ length buf
same-long buf x a at e = ap length e ∙ length-sets buf at a

pub length-strings : (s v : List ℕ) → length (string_bytes s v) ≡ length s + 1 + length v + 1
length-strings s v = simp length-append

pub length-numbers : (w : ℕ) (m : Emsg) → length (number_bytes w m) ≡ 12 + w
length-numbers w m =
    simp length-append
    (omega (arith, length-bytes 4 m.timescale, length-bytes w m.presentation_time, length-bytes 4 m.event_duration, length-bytes 4 m.id))

pub strings-put : (s v buf b1 b2 b3 b4 : List ℕ) (p q r t : Result ℕ Refusal) (at : ℕ) → at + length (string_bytes s v) ≤ length buf →
    wrote p b1 ≡ put.placed s (length s) at buf → wrote q b2 ≡ put_of 1 0 (at + length s) b1 →
    wrote r b3 ≡ put.placed v (length v) (at + length s + 1) b2 → wrote t b4 ≡ put_of 1 0 (at + length s + 1 + length v) b3 → b4 ≡ sets buf at (string_bytes s v)
unfolding bytes
strings-put s v buf b1 b2 b3 b4 p q r t at h e1 e2 e3 e4 =
    let l = length-strings s v in
    let f1 : b1 ≡ sets buf at s = parted s at buf b1 p (omega arith) e1 in
    let l1 : length b1 ≡ length buf = same-long buf b1 s at f1 in
    let f2 : b2 ≡ sets b1 (at + length s) (0 ∷ []) = stored 1 0 (at + length s) b1 b2 q (omega arith) (omega arith) (omega arith) e2 in
    let l2 : length b2 ≡ length b1 = same-long b1 b2 (0 ∷ []) (at + length s) f2 in
    let f3 : b3 ≡ sets b2 (at + length s + 1) v = parted v (at + length s + 1) b2 b3 r (omega arith) e3 in
    let l3 : length b3 ≡ length b2 = same-long b2 b3 v (at + length s + 1) f3 in
    let f4 : b4 ≡ sets b3 (at + length s + 1 + length v) (0 ∷ []) = stored 1 0 (at + length s + 1 + length v) b3 b4 t (omega arith) (omega arith) (omega arith) e4 in
    let g2 : b2 ≡ sets buf at (s ++ (0 ∷ [])) = more buf b1 b2 s (0 ∷ []) at (at + length s) f1 f2 refl in
    let g3 : b3 ≡ sets buf at (s ++ (0 ∷ []) ++ v) = more buf b2 b3 (s ++ (0 ∷ [])) v at (at + length s + 1) g2 f3 (omega (arith, length-append s (0 ∷ []))) in
    more buf b3 b4 (s ++ (0 ∷ []) ++ v) (0 ∷ []) at (at + length s + 1 + length v) g3 f4
    (omega (arith, length-append s (0 ∷ []), length-append (s ++ (0 ∷ [])) v))

pub numbers-put : (m : Emsg) (w : ℕ) (buf b1 b2 b3 b4 : List ℕ) (p q r t : Result ℕ Refusal) (at : ℕ) → at + 12 + w ≤ length buf → w ≤ 8 → m.timescale < 256 ^ 4 →
    m.presentation_time < 256 ^ w → m.event_duration < 256 ^ 4 → m.id < 256 ^ 4 → wrote p b1 ≡ put_of 4 m.timescale at buf →
    wrote q b2 ≡ put_of w m.presentation_time (at + 4) b1 → wrote r b3 ≡ put_of 4 m.event_duration (at + 4 + w) b2 →
    wrote t b4 ≡ put_of 4 m.id (at + 4 + w + 4) b3 → b4 ≡ sets buf at (number_bytes w m)
numbers-put m w buf b1 b2 b3 b4 p q r t at h hw hs ht hd hi e1 e2 e3 e4 =
    let x1 = bytes 4 m.timescale in
    let x2 = bytes w m.presentation_time in
    let x3 = bytes 4 m.event_duration in
    let x4 = bytes 4 m.id in
    let k1 : length x1 ≡ 4 = length-bytes 4 m.timescale in
    let k2 : length x2 ≡ w = length-bytes w m.presentation_time in
    let k3 : length x3 ≡ 4 = length-bytes 4 m.event_duration in
    let f1 : b1 ≡ sets buf at x1 = stored 4 m.timescale at buf b1 p (omega arith) hs (omega arith) e1 in
    let l1 : length b1 ≡ length buf = same-long buf b1 x1 at f1 in
    let f2 : b2 ≡ sets b1 (at + 4) x2 = stored w m.presentation_time (at + 4) b1 b2 q hw ht (omega arith) e2 in
    let l2 : length b2 ≡ length b1 = same-long b1 b2 x2 (at + 4) f2 in
    let f3 : b3 ≡ sets b2 (at + 4 + w) x3 = stored 4 m.event_duration (at + 4 + w) b2 b3 r (omega arith) hd (omega arith) e3 in
    let l3 : length b3 ≡ length b2 = same-long b2 b3 x3 (at + 4 + w) f3 in
    let f4 : b4 ≡ sets b3 (at + 4 + w + 4) x4 = stored 4 m.id (at + 4 + w + 4) b3 b4 t (omega arith) hi (omega arith) e4 in
    let g2 : b2 ≡ sets buf at (x1 ++ x2) = more buf b1 b2 x1 x2 at (at + 4) f1 f2 (omega arith) in
    let g3 : b3 ≡ sets buf at (x1 ++ x2 ++ x3) = more buf b2 b3 (x1 ++ x2) x3 at (at + 4 + w) g2 f3 (omega (arith, length-append x1 x2)) in
    more buf b3 b4 (x1 ++ x2 ++ x3) x4 at (at + 4 + w + 4) g3 f4 (omega (arith, length-append x1 x2, length-append (x1 ++ x2) x3))

-- BEHIND THE FLAGS

pub laid-0 : (m : Emsg) (s v message : List ℕ) → m.version ≡ 0 → laid m s v message ≡ string_bytes s v ++ number_bytes 4 m ++ message
laid-0 m s v message e = sym (is_eq _ _ _ m.version 0 e refl)

pub laid-1 : (m : Emsg) (s v message : List ℕ) → (m.version ≡ 0 → ⊥) → laid m s v message ≡ number_bytes 8 m ++ string_bytes s v ++ message
laid-1 m s v message e = sym (is_ne _ _ _ m.version 0 e refl)

pub length-laid-0 : (m : Emsg) (s v message : List ℕ) → m.version ≡ 0 → length (laid m s v message) ≡ length (string_bytes s v) + 16 + length message
length-laid-0 m s v message e =
    ap length (laid-0 m s v message e)
    ∙ (let z : length (string_bytes s v ++ number_bytes 4 m ++ message) ≡ length (string_bytes s v) + 16 + length message =
    omega (arith, length-append (string_bytes s v ++ number_bytes 4 m) message, length-append (string_bytes s v) (number_bytes 4 m), length-numbers 4 m) in z)

pub length-laid-1 : (m : Emsg) (s v message : List ℕ) → (m.version ≡ 0 → ⊥) → length (laid m s v message) ≡ length (string_bytes s v) + 20 + length message
length-laid-1 m s v message e =
    ap length (laid-1 m s v message e)
    ∙ (let z : length (number_bytes 8 m ++ string_bytes s v ++ message) ≡ length (string_bytes s v) + 20 + length message =
    omega (arith, length-append (number_bytes 8 m ++ string_bytes s v) message, length-append (number_bytes 8 m) (string_bytes s v), length-numbers 8 m) in z)

module _ (m : Emsg) (s v message buf b1 b2 b3 : List ℕ) (p q : ℕ) (r : Result ℕ Refusal) (room : 12 + length (laid m s v message) ≤ length buf) where
  pub early-put : m.version ≡ 0 → b1 ≡ sets buf 12 (string_bytes s v) → p ≡ 12 + length (string_bytes s v) → b2 ≡ sets b1 p (number_bytes 4 m) → q ≡ p + 12 + 4 →
      wrote r b3 ≡ put.placed message (length message) q b2 → b3 ≡ sets buf 12 (laid m s v message)
  early-put e e1 ep e2 eq e3 =
      let l = length-laid-0 m s v message e in
      let k = length-numbers 4 m in
      let l1 = same-long buf b1 (string_bytes s v) 12 e1 in
      let l2 = same-long b1 b2 (number_bytes 4 m) p e2 in
      let f3 : b3 ≡ sets b2 q message = parted message q b2 b3 r (omega arith) e3 in
      let g2 : b2 ≡ sets buf 12 (string_bytes s v ++ number_bytes 4 m) = more buf b1 b2 (string_bytes s v) (number_bytes 4 m) 12 p e1 e2 ep in
      more buf b2 b3 (string_bytes s v ++ number_bytes 4 m) message 12 q g2 f3 (omega (arith, length-append (string_bytes s v) (number_bytes 4 m)))
      ∙ ap (sets buf 12) (sym (laid-0 m s v message e))

  pub late-put : (m.version ≡ 0 → ⊥) → b1 ≡ sets buf 12 (number_bytes 8 m) → p ≡ 12 + 12 + 8 → b2 ≡ sets b1 p (string_bytes s v) → q ≡ p + length (string_bytes s v) →
      wrote r b3 ≡ put.placed message (length message) q b2 → b3 ≡ sets buf 12 (laid m s v message)
  late-put e e1 ep e2 eq e3 =
      let l = length-laid-1 m s v message e in
      let k = length-numbers 8 m in
      let l1 = same-long buf b1 (number_bytes 8 m) 12 e1 in
      let l2 = same-long b1 b2 (string_bytes s v) p e2 in
      let f3 : b3 ≡ sets b2 q message = parted message q b2 b3 r (omega arith) e3 in
      let g2 : b2 ≡ sets buf 12 (number_bytes 8 m ++ string_bytes s v) = more buf b1 b2 (number_bytes 8 m) (string_bytes s v) 12 p e1 e2 (omega arith) in
      more buf b2 b3 (number_bytes 8 m ++ string_bytes s v) message 12 q g2 f3 (omega (arith, length-append (number_bytes 8 m) (string_bytes s v)))
      ∙ ap (sets buf 12) (sym (laid-1 m s v message e))

pub length-laid : (m : Emsg) (s v message : List ℕ) → length (laid m s v message) ≡ 14 + wide m.version + length s + length v + length message
length-laid m s v message = by (eqb m.version 0) refl
  where
    by : (t : Bool) → eqb m.version 0 ≡ t → length (laid m s v message) ≡ 14 + wide m.version + length s + length v + length message
    by true h =
        let e = eqb-true m.version 0 h in
        omega (arith, length-laid-0 m s v message e, length-strings s v, wide-0 m.version e)
    by false h =
        let e = eqb-false m.version 0 h in
        omega (arith, length-laid-1 m s v message e, length-strings s v, wide-1 m.version e)

-- VERSION AND FLAGS

lay-is : (r : Rule) (x : ℕ) (m : Made) → r.low ≤ x → x ≤ r.high → lay r x m ≡ after (bytes r.width x) m
unfolding lay
lay-is r x m l h = sym (not-lt _ _ _ x r.low l (not-lt _ _ _ r.high x h refl))

lay-high : (r : Rule) (x : ℕ) (m : Made) → r.low ≤ x → r.high < x → lay r x m ≡ bad
unfolding lay
lay-high r x m l h = sym (not-lt _ _ _ x r.low l (is_lt _ _ _ r.high x h refl))

abbrev row : ℕ → ℕ → Made
row v f = encode fields (slotted (v ∷ f ∷ [])) 0 0 0

pub coded : (v f : ℕ) → v ≤ 1 → f < 2 ^ 24 → row v f ≡ made (bytes 1 v ++ bytes 3 f)
unfolding encode rule_of lay when bytes
coded v f hv hf =
    lay-is (rule_of (Version 0 1) 0 0) v (lay (rule_of Flags v 0) f (made [])) (omega arith) (omega arith)
    ∙ ap (after (bytes 1 v)) (lay-is (rule_of Flags v 0) f (made []) (omega arith) (omega arith))
    ∙ ap (λ l. made (bytes 1 v ++ l)) (append-nil (bytes 3 f))

pub no-version : (v f : ℕ) → 1 < v → row v f ≡ bad
unfolding encode rule_of lay when bytes
no-version v f hv = lay-high (rule_of (Version 0 1) 0 0) v (lay (rule_of Flags v 0) f (made [])) (omega arith) (omega arith)

pub no-flags : (v f : ℕ) → v ≤ 1 → 2 ^ 24 - 1 < f → row v f ≡ bad
unfolding encode rule_of lay when bytes
no-flags v f hv hf =
    lay-is (rule_of (Version 0 1) 0 0) v (lay (rule_of Flags v 0) f (made [])) (omega arith) (omega arith)
    ∙ ap (after (bytes 1 v)) (lay-high (rule_of Flags v 0) f (made []) (omega arith) (omega arith))

-- THE WRITER'S RETURNS

pub by-fixed : (w k n f r : ℕ) → f ≡ 26 + w → r ≡ min (f + n) k → r ≡ min (26 + w + n) k
by-fixed w k n f r e q = q ∙ ap (λ f. min (f + n) k) e

module _ (m : Emsg) (s v message buf : List ℕ) where
  pub unsound : sound m s v ≡ false → wrote (Err refusal.Unwritable) buf ≡ emsg_in m s v message buf
  unsound h = by-false _ _ _ (sound m s v) h refl

  module _ (hs : sound m s v ≡ true) where
    made_so : (z : Wrote) (x : Made) → row m.version m.flags ≡ x → z ≡ placed kind (laid m s v message) buf x → z ≡ emsg_in m s v message buf
    made_so z x e q = by-true _ _ _ (sound m s v) hs (q ∙ ap (placed kind (laid m s v message) buf) (sym e))

    pub other-version : 1 < m.version → wrote (Err refusal.Unwritable) buf ≡ emsg_in m s v message buf
    other-version h = made_so _ bad (no-version m.version m.flags h) refl

    pub long-flags : m.version ≤ 1 → 2 ^ 24 - 1 < m.flags → wrote (Err refusal.Unwritable) buf ≡ emsg_in m s v message buf
    long-flags hv h = made_so _ bad (no-flags m.version m.flags hv h) refl

    module _ (hv : m.version ≤ 1) (hf : m.flags ≤ 2 ^ 24 - 1) (n1 n2 n : ℕ) (e1 : n1 ≡ min (26 + wide m.version + length s) (2 ^ 32))
        (e2 : n2 ≡ min (n1 + length v) (2 ^ 32)) (e3 : n ≡ min (n2 + length message) (2 ^ 32)) where
      code : List ℕ
      code = bytes 1 m.version ++ bytes 3 m.flags

      all : List ℕ
      unfolding code
      all = full kind code (laid m s v message)

      code-long : length code ≡ 4
      unfolding code
      code-long = length-append (bytes 1 m.version) (bytes 3 m.flags) ∙ ap₂ (λ (i j : ℕ). i + j) (length-bytes 1 m.version) (length-bytes 3 m.flags)

      long : length all ≡ 12 + length (laid m s v message)
      unfolding all
      long = omega (arith, length-full kind code (laid m s v message), code-long)

      is-long : n ≡ min (length all) (2 ^ 32)
      is-long = omega (arith, long, length-laid m s v message, e1, e2, e3)

      so : (z : Wrote) → z ≡ place buf all → z ≡ emsg_in m s v message buf
      unfolding all code
      so z q = made_so z (made code) (coded m.version m.flags hv (omega (arith, hf))) q

      pub too_long : 2 ^ 32 - 1 < n → wrote (Err refusal.Unwritable) buf ≡ emsg_in m s v message buf
      too_long h = so _ (is_lt _ _ _ (2 ^ 32 - 1) (length all) (omega (arith, is-long)) refl)

      module _ (h : n ≤ 2 ^ 32 - 1) where
        pub content-in : n ≤ length buf → 12 + length (laid m s v message) ≤ length buf
        content-in b = omega (arith, is-long, long)

        same : n ≡ length all
        same = omega (arith, is-long)

        pub too_small : length buf < n → wrote (Err (refusal.TooSmall n)) buf ≡ emsg_in m s v message buf
        too_small b =
            so _ (not-lt _ _ _ (2 ^ 32 - 1) (length all) (omega (arith, same))
            (is_lt _ _ _ (length buf) (length all) (omega (arith, same)) (ap (λ n. wrote (Err (refusal.TooSmall n)) buf) same)))

        pub all-put : n ≤ length buf → (b1 b2 b3 : List ℕ) (p q : Result ℕ Refusal) → wrote p b1 ≡ header_in kind n 0 buf → wrote q b2 ≡ full_in m.version m.flags 8 b1 →
            b3 ≡ sets b2 12 (laid m s v message) → wrote (Ok n) b3 ≡ emsg_in m s v message buf
        unfolding all code
        all-put b b1 b2 b3 p q f1 f2 f3 =
            let k = length-bytes 4 n in
            let head = plain_bytes kind n in
            let lh : length head ≡ 8 = length-append (bytes 4 n) (bytes 4 kind) ∙ ap₂ (λ (i j : ℕ). i + j) (length-bytes 4 n) (length-bytes 4 kind) in
            let g1 : b1 ≡ sets buf 0 head = headed kind n buf b1 p (omega (arith, same, long)) (omega arith) (omega (arith, same, long)) f1 in
            let l1 : length b1 ≡ length buf = same-long buf b1 head 0 g1 in
            let g2 : b2 ≡ sets b1 8 code =
            cc (f2 ∙ sym (is_lt _ _ _ m.flags (2 ^ 24) (omega (arith, hf)) (has_room code 4 8 b1 (let z : 8 + 4 ≤ length b1 = omega (arith, l1, same, long) in z)))) in
            let t2 : b2 ≡ sets buf 0 (head ++ code) = more buf b1 b2 head code 0 8 g1 g2 (omega (arith, lh)) in
            let t3 : b3 ≡ sets buf 0 (head ++ code ++ laid m s v message) =
            more buf b2 b3 (head ++ code) (laid m s v message) 0 12 t2 f3 (omega (arith, lh, code-long, length-append head code)) in
            let ea : head ++ code ++ laid m s v message ≡ all =
            ap (λ n. bytes 4 n ++ bytes 4 kind ++ code ++ laid m s v message) (same ∙ length-full kind code (laid m s v message)) in
            let t4 : b3 ≡ all ++ drop (length all) buf =
            t3 ∙ ap (sets buf 0) ea ∙ sets-eq all buf 0 (let f : 0 + length all ≤ length buf = omega (arith, same) in f)
            ∙ ap (λ k. all ++ drop k buf) (zero-add (length all)) in
            so _ (not-lt _ _ _ (2 ^ 32 - 1) (length all) (omega (arith, same))
            (not-lt _ _ _ (length buf) (length all) (omega (arith, same)) (ap₂ (λ (n : ℕ) (b : List ℕ). wrote (Ok n) b) same t4)))
