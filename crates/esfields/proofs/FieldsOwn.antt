-- The fields that were read are sound, and their bytes are those that are written. Assumes nothing.
use Rattle.std.specs.Prelude.{Result, Ok, Err}
use mathlib.Core.Path.{◌≡◌, refl, sym, ap, ap₂, ◌∙◌}
use mathlib.Core.List.{List, [], ◌++◌}
use mathlib.Core.Bool.{Bool, true, ◌&&◌}
use mathlib.Core.Logic.{⊎_elim}
use Prim.Native.Nat.{ℕ, ◌+◌, ◌^◌, ◌≤◌}
use native.Mathlib.Omega.{arith}
use lib.ListN.{length}
use borrow.Author.Tests.{lt-ltb}
use Rattle.numbers.specs.Number.{be, bytes}
use Rattle.numbers.specs.declared.Refusal.{Refusal}
use Rattle.numbers.proofs.Laws.{Bytes, be-below}
use Rattle.numbers.proofs.Chain.{field-way}
use Rattle.descriptors.specs.Descriptors.{span}
use Rattle.descriptors.proofs.Own.{length-span, span_none, span-join, grown}
use Rattle.esfields.specs.EsFields.{wide, stream, fields_of, sound, field_bytes}
use Rattle.esfields.specs.declared.Stream.{Stream}
use Rattle.esfields.proofs.Puts.{length_fields}

all_true : (a b c d e : Bool) → a ≡ true → b ≡ true → c ≡ true → d ≡ true → e ≡ true → a && b && c && d && e ≡ true
all_true a b c d e p q r s t = simp (p, q, r, s, t)

pub record Own (m : Stream) (s : List ℕ) (at u v e : ℕ) : Type 0 where
  pub url-in : (u ≤ v) × (v ≤ e) × (e ≤ length s)
  pub long : at + length (field_bytes m (span s u v)) ≡ e
  pub bytes-own : span s at e ≡ field_bytes m (span s u v)
  pub own-sound : sound m (span s u v) ≡ true

-- each field as it was read
module _ (s : List ℕ) (at : ℕ) (b : Bytes s) where
  abbrev id : ℕ
  id = be 2 s at

  abbrev flags : ℕ
  flags = be 1 s (at + 2)

  abbrev wd : ℕ
  wd = wide flags 0x80 2

  abbrev wu : ℕ
  wu = wide flags 0x40 1

  abbrev wo : ℕ
  wo = wide flags 0x20 2

  abbrev depends : ℕ
  depends = be wd s (at + 3)

  abbrev count : ℕ
  count = be wu s (at + 3 + wd)

  abbrev clock : ℕ
  clock = be wo s (at + 3 + wd + wu + count)

  abbrev first : ℕ
  first = at + 3 + wd + wu

  abbrev last : ℕ
  last = at + 3 + wd + wu + count

  as_read : last + wo ≤ length s → Own (stream id flags depends clock) s at first last (last + wo)
  as_read h =
      let url = span s first last in
      let n : length url ≡ count = length-span s first last (omega arith) (omega (arith, h)) ∙ omega arith in
      let g1 : span s at (at + 2) ≡ bytes 2 id = grown s at at 2 (at + 2) [] b (omega arith) (omega (arith, h)) refl (span_none s at) in
      let g2 : span s at (at + 3) ≡ bytes 2 id ++ bytes 1 flags = grown s at (at + 2) 1 (at + 3) (bytes 2 id) b (omega arith) (omega (arith, h)) (omega arith) g1 in
      let x3 = bytes 2 id ++ bytes 1 flags ++ bytes wd depends in
      let g3 : span s at (at + 3 + wd) ≡ x3 = grown s at (at + 3) wd (at + 3 + wd) (bytes 2 id ++ bytes 1 flags) b (omega arith) (omega (arith, h)) refl g2 in
      let g4 : span s at first ≡ x3 ++ bytes wu count = grown s at (at + 3 + wd) wu first x3 b (omega arith) (omega (arith, h)) refl g3 in
      let g5 : span s at last ≡ x3 ++ bytes wu (length url) ++ url =
      span-join s at first last (omega arith) (omega arith) ∙ ap (λ x. x ++ url) (g4 ∙ ap (λ k. x3 ++ bytes wu k) (sym n)) in
      record {
        url-in = (omega arith, omega arith, h);
        long = omega (arith, length_fields (stream id flags depends clock) url, n);
        bytes-own = grown s at last wo (last + wo) (x3 ++ bytes wu (length url) ++ url) b (omega arith) h refl g5;
        own-sound =
            all_true _ _ _ _ _ (lt-ltb id (256 ^ 2) (be-below 2 s at b)) (lt-ltb flags (256 ^ 1) (be-below 1 s (at + 2) b)) (lt-ltb depends (256 ^ wd) (be-below wd s (at + 3) b))
            (lt-ltb (length url) (256 ^ wu) (omega (arith, n, be-below wu s (at + 3 + wd) b))) (lt-ltb clock (256 ^ wo) (be-below wo s last b));
      }

  told : (m : Stream) (u v e : ℕ) → last + wo ≤ length s → ◌≡◌ {A = Result (Stream × ℕ × ℕ × ℕ) Refusal} (Ok (stream id flags depends clock, first, last, last + wo)) (Ok (m, u, v, e)) → Own m s at u v e
  told m u v e h q =
      let r = as_read h in
      let all : ◌≡◌ {A = Stream × ℕ × ℕ × ℕ} (stream id flags depends clock, first, last, last + wo) (m, u, v, e) = cc q in
      let em : stream id flags depends clock ≡ m = ap (λ (x : Stream × ℕ × ℕ × ℕ). x.0) all in
      let eu : first ≡ u = ap (λ (x : Stream × ℕ × ℕ × ℕ). x.1) all in
      let ev : last ≡ v = ap (λ (x : Stream × ℕ × ℕ × ℕ). x.2) all in
      let ee : last + wo ≡ e = ap (λ (x : Stream × ℕ × ℕ × ℕ). x.3) all in
      let ep : span s first last ≡ span s u v = ap₂ (span s) eu ev in
      let eb : field_bytes (stream id flags depends clock) (span s first last) ≡ field_bytes m (span s u v) = ap₂ field_bytes em ep in
      record {
        url-in = (omega (arith, eu, ev), omega (arith, ev, ee), omega (arith, ee, h));
        long = ap (λ l. at + length l) (sym eb) ∙ r.long ∙ ee;
        bytes-own = ap (span s at) (sym ee) ∙ r.bytes-own ∙ eb;
        own-sound = ap₂ sound (sym em) (sym ep) ∙ r.own-sound;
      }

-- the fields that were read: where the URL lies, how long they are, and their bytes
pub fields-own : (s : List ℕ) (at : ℕ) → Bytes s → (m : Stream) (u v e : ℕ) → fields_of s at ≡ Ok (m, u, v, e) → Own m s at u v e
fields-own s at b m u v e h =
    ⊎_elim
    (λ y1. ⊎_elim
    (λ y2. ⊎_elim
    (λ y3. ⊎_elim
    (λ y4. ⊎_elim
    (λ y5. ⊎_elim (λ y6. told s at b m u v e y6.0 y6.1) (λ y. refused _ y.1) (field-way _ s _ Err _ _ y5.1))
    (λ y. refused _ y.1)
    (field-way _ s _ Err _ _ y4.1))
    (λ y. refused _ y.1)
    (field-way _ s _ Err _ _ y3.1))
    (λ y. refused _ y.1)
    (field-way _ s _ Err _ _ y2.1))
    (λ y. refused _ y.1)
    (field-way 1 s (at + 2) Err _ _ y1.1))
    (λ y. refused _ y.1)
    (field-way 2 s at Err _ _ h)
  where
    refused : (q : Refusal) → ◌≡◌ {A = Result (Stream × ℕ × ℕ × ℕ) Refusal} (Err q) (Ok (m, u, v, e)) → Own m s at u v e
    refused q f = let z : ◌≡◌ {A = ℕ} 0 1 = cc f in absurd (omega arith)
