-- emsg: what is written reads back the same, and a canonical box gives its own bytes. Assumes nothing.
use Rattle.std.specs.Prelude.{Ok, Err}
use mathlib.Core.Path.{◌≡◌, refl, sym, ap, ap₂, ◌∙◌, subst}
use mathlib.Core.List.{List, [], ◌∷◌, ◌++◌, append-nil}
use mathlib.Core.Bool.{true}
use mathlib.Core.Logic.{⊎_elim}
use Prim.Native.Nat.{ℕ, zero, suc, ◌+◌, ◌-◌, ◌≤◌, ◌<◌}
use native.Mathlib.Omega.{arith}
use lib.ListN.{length, get_or, take, drop, take-append-drop}
use lib.Seq.{take-length, length-take-le}
use Rattle.numbers.specs.Number.{be}
use Rattle.numbers.specs.Field.{when}
use Rattle.numbers.specs.declared.Refusal.TheVariants as refusal
use Rattle.numbers.proofs.Laws.{Bytes}
use Rattle.numbers.proofs.Chain.{way, by-true}
use Rattle.put.specs.Put.{wrote}
use Rattle.layout.specs.Rule.{rule_of}
use Rattle.layout.specs.Read.{read_of}
use Rattle.layout.specs.Write.{placed, slotted, write_of}
use Rattle.layout.specs.Canonical.{slots, firsts, limit, most, Canonical}
use Rattle.rounds.proofs.Boxes.{fields_in, same_read, reads-back, own_read, own-bytes, fits}
use Rattle.emsg.specs.Emsg.{kind, fields, sound, laid, content_of, full_of, emsg_of, span, span_of, scheme_of, value_of, message_of, emsg_in}
use Rattle.emsg.specs.declared.Emsg.{Emsg}
use Rattle.emsg.specs.declared.Places.{Places}
use Rattle.emsg.proofs.Contents.{Early, Late, opened}
use Rattle.emsg.proofs.Puts.{sounds, no-version}
use Rattle.emsg.proofs.Backs.{Back, early-back, late-back}
use Rattle.emsg.proofs.Owns.{Own, early-own, late-own}
use Rattle.emsg.proofs.Canonicals.{canonical}

-- WHAT IS WRITTEN READS BACK THE SAME

-- the record, the two strings and the message
pub record Same (m : Emsg) (s v message b : List ℕ) : Type 0 where
  pub p : Places
  pub read : emsg_of b ≡ Ok (m, p)
  pub scheme : scheme_of b ≡ s
  pub value : value_of b ≡ v
  pub rest : message_of b ≡ message

-- a version that is written is 0 or 1
written-version : (m : Emsg) (tail buf : List ℕ) (n : ℕ) (out : List ℕ) → write_of kind fields (slotted (m.version ∷ m.flags ∷ [])) tail buf ≡ wrote (Ok n) out → 1 < m.version → ⊥
written-version m tail buf n out w h =
    let z : wrote (Err refusal.Unwritable) buf ≡ wrote (Ok n) out = ap (placed kind tail buf) (sym (no-version m.version m.flags h)) ∙ w in
    let y : ◌≡◌ {A = ℕ} 0 1 = cc in
    omega arith

either-version : {A : Type 0} (k : ℕ) → (k ≡ 0 → A) → (k ≡ 1 → A) → (1 < k → ⊥) → A
either-version zero f g h = f refl
either-version (suc zero) f g h = g refl
either-version (suc (suc k)) f g h = absurd (h (omega arith))

module _ (m : Emsg) (s v message b : List ℕ) (at : ℕ) (r : read_of kind fields b ≡ Ok (fields_in (length b) at (m.version ∷ m.flags ∷ []))) where
  told : (p : Places) → content_of b at m.version m.flags ≡ Ok (m, p) → emsg_of b ≡ Ok (m, p)
  unfolding when
  told p h = ap (full_of b) r ∙ ap (λ l. content_of l at m.version m.flags) (take-length b) ∙ h

  same : Back m s v message b at → Same m s v message b
  same h =
      let q = told h.p h.read in
      record {
        p = h.p;
        read = q;
        scheme = ap (span_of (λ p. p.scheme) (λ p. p.scheme_end) b) q ∙ h.scheme;
        value = ap (span_of (λ p. p.value) (λ p. p.value_end) b) q ∙ h.value;
        rest = ap (span_of (λ p. p.message) (λ p. p.end) b) q ∙ h.rest;
      }

pub emsg-back : (m : Emsg) (s v message buf : List ℕ) (n : ℕ) (out : List ℕ) → emsg_in m s v message buf ≡ wrote (Ok n) out → Same m s v message (take n out)
unfolding slots firsts rule_of when
emsg-back m s v message buf n out h = ⊎_elim (λ y. written y.0 y.1) (λ y. refused y.1) (way (sound m s v) _ _ _ h)
  where
    b : List ℕ
    b = take n out

    refused : wrote (Err refusal.Unwritable) buf ≡ wrote (Ok n) out → Same m s v message (take n out)
    refused q = let z : ◌≡◌ {A = ℕ} 0 1 = cc in absurd (omega arith)

    written : sound m s v ≡ true → write_of kind fields (slotted (m.version ∷ m.flags ∷ [])) (laid m s v message) buf ≡ wrote (Ok n) out → Same m s v message (take n out)
    written hs w =
        let ok = sounds m s v hs in
        let r = reads-back kind fields (slotted (m.version ∷ m.flags ∷ [])) (laid m s v message) buf n out (omega arith) w in
        let at = r.0 in
        let l : length (take at b) ≡ at = length-take-le at b (omega (arith, r.3)) in
        let e : b ≡ take at b ++ (laid m s v message ++ []) =
        sym (take-append-drop at b) ∙ ap (λ x. take at b ++ x) (r.2 ∙ sym (append-nil (laid m s v message))) in
        same m s v message b at r.1
        (either-version m.version (λ z. early-back m s v message b (take at b) at (e, sym l) ok z) (λ z. late-back m s v message b (take at b) at (e, sym l) ok z) (written-version m (laid m s v message) buf n out w))

-- A CANONICAL BOX, READ AND WRITTEN, GIVES ITS OWN BYTES

pinned : (n : ℕ) → (n ≡ 0 → ⊥) → n ≤ 1 → 1 ≡ n
pinned zero h l = absurd (h refl)
pinned (suc n) h l = omega arith

own : (b : List ℕ) (k : ℕ) → Canonical kind fields k b → (m : Emsg) (p : Places) → emsg_of b ≡ Ok (m, p) → (buf : List ℕ) → length b ≤ length buf →
    emsg_in m (scheme_of b) (value_of b) (message_of b) buf ≡ wrote (Ok (length b)) (b ++ drop (length b) buf)
unfolding slots firsts rule_of when limit most
own b k c m p h buf hl =
    let op = opened b m p h in
    let g = op.g in
    let r : g ≡ fields_in (length b) c.end c.values = same_read _ _ (sym op.read ∙ own_read kind fields k b c) in
    let at = g.place in
    let t : take g.end b ≡ b = ap (λ g. take g.end b) r ∙ take-length b in
    let hat : at ≤ length b = omega (arith, ap (λ g. g.place) r, c.rest) in
    let es : scheme_of b ≡ span b p.scheme p.scheme_end = ap (span_of (λ p. p.scheme) (λ p. p.scheme_end) b) h in
    let ev : value_of b ≡ span b p.value p.value_end = ap (span_of (λ p. p.value) (λ p. p.value_end) b) h in
    let em : message_of b ≡ span b p.message p.end = ap (span_of (λ p. p.message) (λ p. p.end) b) h in
    let low = fits kind fields b 0 1 g op.read refl in
    let facts : (m.version ≡ get_or g.values 0 0) × (m.flags ≡ get_or g.values 1 0) × Own b at m p =
    ⊎_elim
    (λ y.
    let z = subst (λ (l : List ℕ). Early l at (get_or g.values 1 0) m p) t y.1 in
    (ap (λ m. m.version) z.is ∙ sym y.0, ap (λ m. m.flags) z.is, early-own b at (get_or g.values 1 0) m p c.byte hat z))
    (λ y.
    let z = subst (λ (l : List ℕ). Late l at (get_or g.values 1 0) m p) t y.1 in
    let one : 1 ≡ get_or g.values 0 0 = pinned (get_or g.values 0 0) y.0 low in
    (ap (λ m. m.version) z.is ∙ one, ap (λ m. m.flags) z.is, late-own b at (get_or g.values 1 0) m p c.byte hat z))
    op.content in
    let o = facts.2 in
    let ys = slotted (m.version ∷ m.flags ∷ []) in
    let first : firsts (slots fields) 0 ys ≡ firsts (slots fields) 0 g.values = ap₂ (λ (x y : ℕ). x ∷ y ∷ []) facts.0 facts.1 in
    let tail : laid m (scheme_of b) (value_of b) (message_of b) ≡ drop at b =
    ap (λ s. laid m s (value_of b) (message_of b)) es ∙ ap (λ v. laid m (span b p.scheme p.scheme_end) v (message_of b)) ev
    ∙ ap (laid m (span b p.scheme p.scheme_end) (span b p.value p.value_end)) em ∙ o.same in
    let hs : sound m (scheme_of b) (value_of b) ≡ true = ap₂ (λ (s v : List ℕ). sound m s v) es ev ∙ o.sounds in
    sym (by-true _ _ _ (sound m (scheme_of b) (value_of b)) hs
    (sym (ap (λ l. write_of kind fields ys l buf) tail ∙ own-bytes kind fields k b c g op.read ys buf (omega arith) first hl)))

-- canonical is, of an emsg: each element is a byte, the size field is the length, and the box is read
pub emsg-own : (b : List ℕ) → Bytes b → be 4 b 0 ≡ length b → (m : Emsg) (p : Places) → emsg_of b ≡ Ok (m, p) → (buf : List ℕ) → length b ≤ length buf →
    emsg_in m (scheme_of b) (value_of b) (message_of b) buf ≡ wrote (Ok (length b)) (b ++ drop (length b) buf)
emsg-own b hb hz m p h buf hl =
    let o = opened b m p h in
    let c = canonical b hb hz o.g o.read in
    own b c.0 c.1 m p h buf hl
