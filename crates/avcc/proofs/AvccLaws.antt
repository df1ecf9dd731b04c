-- avcC: what is written reads back the same, set by set, and a canonical box gives its own bytes. Assumes nothing.
use Rattle.std.specs.Prelude.{Ok, Err}
use mathlib.Core.Path.{◌≡◌, refl, sym, ap, ap₂, ◌∙◌}
use mathlib.Core.List.{List, [], ◌∷◌, ◌++◌}
use mathlib.Core.Bool.{true}
use mathlib.Core.Logic.{⊎_elim}
use Prim.Native.Nat.{ℕ, zero, suc, ◌+◌, ◌*◌, ◌-◌, ◌/◌, ◌%◌, ◌≤◌, ◌<◌}
use native.Mathlib.Nat.{add-zero, mod-eq_of_lt, mul-add-mod_self_right, div-add-mod', mod-lt}
use native.Mathlib.Omega.{arith}
use lib.ListN.{length, get_or, take, drop, replicate, length-drop, take-append-drop}
use lib.Seq.{take-length, drop-cons, drop-drop, get_or-drop, take-append-le, drop-append-le, take-append_seam, drop-append_seam}
use lib.Dec.{eqb}
use borrow.Author.Tests.{eqb-true, lt-ltb}
use Rattle.numbers.specs.Number.{be}
use Rattle.numbers.specs.Field.{when}
use Rattle.numbers.specs.declared.Refusal.TheVariants as refusal
use Rattle.numbers.proofs.Laws.{one}
use Rattle.numbers.proofs.Chain.{whole, is_eq, not-lt, way, by-true}
use Rattle.put.specs.Put.{wrote}
use Rattle.layout.specs.Rule.{rule_of}
use Rattle.layout.specs.Read as layout
use Rattle.layout.specs.Read.{got, decode, read_of}
use Rattle.layout.specs.Write.{slotted, write_of}
use Rattle.layout.specs.Canonical.{slots, firsts, Canonical}
use Rattle.layout.specs.declared.Field.TheVariants.{Nothing}
use Rattle.rounds.proofs.Boxes.{fields_in, reads-back, own_read, own-bytes}
use Rattle.sets.specs.Sets.{end_of, nth_of, list_of}
use Rattle.sets.proofs.SetsLaws.{Short, lies, taken, end_after, made-nth, past-the-last}
use Rattle.avcc.specs.Avcc.{kind, fields, head_of, places, last_of, second_of, first_of, content_of, behind_of, avcc_of, span, span_of, sps_list_of, pps_list_of, extension_of, sps_of, pps_of, sound, laid, avcc_in, ones}
use Rattle.avcc.specs.declared.Avcc.{Avcc}
use Rattle.avcc.specs.declared.Places.{Places}
use Rattle.avcc.proofs.Cases.{Six, Content, content-way, avcc-way}
use Rattle.avcc.proofs.Puts.{Sound, sounds, and_last, and-true, length-laid}

-- WHAT WAS LAID BEHIND THE HEADER, read where it stands

-- a byte of what lies from `at` on
byte_at : (b l : List ℕ) (at k : ℕ) → drop at b ≡ l → be 1 b (at + k) ≡ get_or l k 0
byte_at b l at k h = one b (at + k) ∙ sym (get_or-drop at b k 0) ∙ ap (λ t. get_or t k 0) h

-- the bytes of a list at their place
span-is : (b x rest : List ℕ) (from to : ℕ) → drop from b ≡ x ++ rest → to ≡ from + length x → span b from to ≡ x
span-is b x rest from to h e =
    ap₂ (λ (n : ℕ) (t : List ℕ). take n t) (let z : to - from ≡ length x = omega (arith, e) in z) h ∙ take-append_seam x rest

low_bits : (q w n : ℕ) → n < w → (q * w + n) % w ≡ n
low_bits q w n h = mul-add-mod_self_right q w n ∙ mod-eq_of_lt h

pub record Back (m : Avcc) (s p x b : List ℕ) (at : ℕ) : Type 0 where
  pub q : Places
  pub read : content_of b at ≡ Ok (m, q)
  pub first : span b q.sps q.sps_end ≡ s
  pub second : span b q.pps q.pps_end ≡ p
  pub rest : span b q.pps_end q.end ≡ x

module _ (m : Avcc) (s p x b : List ℕ) (at : ℕ) (h : drop at b ≡ laid m s p x) (a : at + length (laid m s p x) ≡ length b) (ok : Sound m s p) where
  six-back : head_of b at ≡ Ok (m.profile, m.compatibility, m.level, m.length_size, m.sps)
  six-back =
      let l = length-laid m s p x in
      let y = byte_at b (laid m s p x) at in
      let size : (252 + m.length_size) % 4 ≡ m.length_size = low_bits 63 4 m.length_size (omega (arith, ok.size)) in
      let count : (224 + m.sps) % 32 ≡ m.sps = low_bits 7 32 m.sps (omega (arith, ok.count)) in
      sym (whole 1 b at Err _ _ 1 (omega (arith, a, l)) (sym (ap (be 1 b) (sym (add-zero at)) ∙ y 0 h))
      (is_eq _ _ _ 1 1 refl
      (whole 1 b (at + 1) Err _ _ m.profile (omega (arith, a, l)) (sym (y 1 h))
      (whole 1 b (at + 2) Err _ _ m.compatibility (omega (arith, a, l)) (sym (y 2 h))
      (whole 1 b (at + 3) Err _ _ m.level (omega (arith, a, l)) (sym (y 3 h))
      (whole 1 b (at + 4) Err _ _ (252 + m.length_size) (omega (arith, a, l)) (sym (y 4 h))
      (whole 1 b (at + 5) Err _ _ (224 + m.sps) (omega (arith, a, l)) (sym (y 5 h))
      (ap₂ (λ (z n : ℕ). Ok (m.profile, m.compatibility, m.level, z, n)) (sym size) (sym count)))))))))

  pub content-back : Back m s p x b at
  content-back =
      let l = length-laid m s p x in
      let k = m.pps in
      let d6 : drop (at + 6) b ≡ s ++ (k ∷ (p ++ x)) = sym (drop-drop 6 at b) ∙ ap (drop 6) h in
      let e = at + 6 + length s in
      let es : end_of m.sps b (at + 6) ≡ Ok e = lies m.sps s b (k ∷ (p ++ x)) (at + 6) ok.first d6 (omega (arith, a, l)) in
      let de : drop e b ≡ k ∷ (p ++ x) = sym (drop-drop (length s) (at + 6) b) ∙ ap (drop (length s)) d6 ∙ drop-append_seam s (k ∷ (p ++ x)) in
      let ek : be 1 b e ≡ k = one b e ∙ ap (λ n. get_or b n 0) (sym (add-zero e)) ∙ sym (get_or-drop e b 0 0) ∙ ap (λ t. get_or t 0 0) de in
      let dp : drop (e + 1) b ≡ p ++ x = sym (drop-drop 1 e b) ∙ ap (drop 1) de in
      let f = e + 1 + length p in
      let ep : end_of k b (e + 1) ≡ Ok f = lies k p b x (e + 1) ok.second dp (omega (arith, a, l)) in
      let dx : drop f b ≡ x = sym (drop-drop (length p) (e + 1) b) ∙ ap (drop (length p)) dp ∙ drop-append_seam p x in
      record {
        q = places (at + 6) e f (length b);
        read =
            ap (first_of b (at + 6)) six-back
            ∙ ap (second_of b (at + 6) m.profile m.compatibility m.level m.length_size m.sps) es
            ∙ sym (whole 1 b e Err _ _ k (omega (arith, a, l)) (sym ek) (sym (ap (last_of b (at + 6) m e) ep)));
        first = span-is b s (k ∷ (p ++ x)) (at + 6) e d6 refl;
        second = span-is b p x (e + 1) f dp refl;
        rest = ap (λ t. take (length b - f) t) dx ∙ ap (λ n. take n x) (let z : length b - f ≡ length x = omega (arith, a, l) in z) ∙ take-length x;
      }

-- WHAT IS WRITTEN READS BACK THE SAME

-- the record, the two lists with each of their sets, and the extension
pub record Same (m : Avcc) (s p x b : List ℕ) : Type 0 where
  pub q : Places
  pub read : avcc_of b ≡ Ok (m, q)
  pub first : sps_list_of b ≡ s
  pub second : pps_list_of b ≡ p
  pub rest : extension_of b ≡ x
  pub first-set : (i : ℕ) → sps_of i b ≡ nth_of i s 0
  pub second-set : (i : ℕ) → pps_of i b ≡ nth_of i p 0

same : (m : Avcc) (s p x b : List ℕ) (q : Places) → avcc_of b ≡ Ok (m, q) → span b q.sps q.sps_end ≡ s → span b q.pps q.pps_end ≡ p →
    span b q.pps_end q.end ≡ x → Same m s p x b
same m s p x b q h hs hp hx =
    let es : sps_list_of b ≡ s = ap (span_of (λ p. p.sps) (λ p. p.sps_end) b) h ∙ hs in
    let ep : pps_list_of b ≡ p = ap (span_of (λ p. p.pps) (λ p. p.pps_end) b) h ∙ hp in
    record {
      q = q;
      read = h;
      first = es;
      second = ep;
      rest = ap (span_of (λ p. p.pps_end) (λ p. p.end) b) h ∙ hx;
      first-set = λ i. ap (λ l. nth_of i l 0) es;
      second-set = λ i. ap (λ l. nth_of i l 0) ep;
    }

-- a box that is read to its end
to-content : (b : List ℕ) (at : ℕ) (vs : List ℕ) → read_of kind fields b ≡ Ok (fields_in (length b) at vs) → avcc_of b ≡ content_of b at
unfolding when
to-content b at vs r = ap (behind_of b) r ∙ ap (λ l. content_of l at) (take-length b)

pub avcc-back : (m : Avcc) (s p x buf : List ℕ) (n : ℕ) (out : List ℕ) → avcc_in m s p x buf ≡ wrote (Ok n) out → Same m s p x (take n out)
avcc-back m s p x buf n out h = ⊎_elim (λ y. written y.0 y.1) (λ y. refused y.1) (way (sound m s p) _ _ _ h)
  where
    refused : wrote (Err refusal.Unwritable) buf ≡ wrote (Ok n) out → Same m s p x (take n out)
    refused q = let z : ◌≡◌ {A = ℕ} 0 1 = cc in absurd (omega arith)

    written : sound m s p ≡ true → write_of kind fields (slotted []) (laid m s p x) buf ≡ wrote (Ok n) out → Same m s p x (take n out)
    written hs w =
        let b = take n out in
        let r = reads-back kind fields (slotted []) (laid m s p x) buf n out (omega arith) w in
        let k = content-back m s p x b r.0 r.2 r.3 (sounds m s p hs) in
        same m s p x b k.q (to-content b r.0 (firsts (slots fields) 0 (slotted [])) r.1 ∙ k.read) k.first k.second k.rest

-- so each set of lists that were made of sets is handed back
pub avcc-sets-back : (m : Avcc) (xs ys : List (List ℕ)) (x buf : List ℕ) (n : ℕ) (out : List ℕ) → Short xs → Short ys → avcc_in m (list_of xs) (list_of ys) x buf ≡ wrote (Ok n) out →
    ((i : ℕ) → sps_of i (take n out) ≡ get_or xs i []) × ((i : ℕ) → pps_of i (take n out) ≡ get_or ys i [])
avcc-sets-back m xs ys x buf n out hx hy h =
    let r = avcc-back m (list_of xs) (list_of ys) x buf n out h in
    (λ i. r.first-set i ∙ made-nth xs hx i, λ i. r.second-set i ∙ made-nth ys hy i)

-- NO SET PAST THE LAST, in a box that is read

-- what lies before the box's end lies in the part that is lent
up_to : (b : List ℕ) (n from to : ℕ) → from ≤ to → to ≤ length (take n b) → span b from to ≡ span (take n b) from to
up_to b n from to h l =
    ap (λ t. span t from to) (sym (take-append-drop n b))
    ∙ ap (take (to - from)) (drop-append-le from (take n b) (drop n b) (omega (arith, h, l)))
    ∙ take-append-le (to - from) (drop from (take n b)) (drop n b) (omega (arith, length-drop from (take n b), h, l))

pub no-more-sps : (b : List ℕ) (m : Avcc) (q : Places) → avcc_of b ≡ Ok (m, q) → (i : ℕ) → m.sps ≤ i → sps_of i b ≡ []
no-more-sps b m q h i l =
    let found = avcc-way b m q h in
    let g = found.0 in
    let y = found.2 in
    let at = g.place + 6 in
    let k = end_after m.sps (take g.end b) at y.e y.first y.bytes.within in
    let list : sps_list_of b ≡ span (take g.end b) at y.e =
    ap (span_of (λ p. p.sps) (λ p. p.sps_end) b) h ∙ ap (λ q. span b q.sps q.sps_end) y.lies ∙ up_to b g.end at y.e k.0 k.1 in
    ap (λ l. nth_of i l 0) list ∙ past-the-last m.sps i (span (take g.end b) at y.e) (taken m.sps (take g.end b) at y.e y.first y.bytes.within) l

pub no-more-pps : (b : List ℕ) (m : Avcc) (q : Places) → avcc_of b ≡ Ok (m, q) → (i : ℕ) → m.pps ≤ i → pps_of i b ≡ []
no-more-pps b m q h i l =
    let found = avcc-way b m q h in
    let g = found.0 in
    let y = found.2 in
    let at = y.e + 1 in
    let k = end_after m.pps (take g.end b) at y.f y.second y.room in
    let list : pps_list_of b ≡ span (take g.end b) at y.f =
    ap (span_of (λ p. p.pps) (λ p. p.pps_end) b) h ∙ ap (λ q. span b q.pps q.pps_end) y.lies ∙ up_to b g.end at y.f k.0 k.1 in
    ap (λ l. nth_of i l 0) list ∙ past-the-last m.pps i (span (take g.end b) at y.f) (taken m.pps (take g.end b) at y.f y.second y.room) l

-- A CANONICAL BOX, READ AND WRITTEN, GIVES ITS OWN BYTES

-- no field is none
no_fields : (b : List ℕ) → 8 ≤ length b → (n : ℕ) → decode (replicate n Nothing) b 8 0 0 ≡ got [] 8
unfolding decode layout.one rule_of when be
no_fields b h zero = refl
no_fields b h (suc n) = sym (not-lt _ _ _ (length b) 8 h (sym (no_fields b h n)))

peel : (b : List ℕ) (at next : ℕ) → at < length b → next ≡ at + 1 → drop at b ≡ be 1 b at ∷ drop next b
peel b at next h e =
    drop-cons b at 0 h ∙ ap₂ (λ (x n : ℕ). x ∷ drop n b) (sym (one b at)) (let z : suc at ≡ next = omega (arith, e) in z)

split : (b : List ℕ) (from to : ℕ) → from ≤ to → drop from b ≡ span b from to ++ drop to b
split b from to h =
    sym (take-append-drop (to - from) (drop from b))
    ∙ ap (λ t. span b from to ++ t) (drop-drop (to - from) from b ∙ ap (λ n. drop n b) (let z : from + (to - from) ≡ to = omega (arith, h) in z))

to_the_end : (b : List ℕ) (from : ℕ) → drop from b ≡ span b from (length b)
to_the_end b from = sym (ap (λ n. take n (drop from b)) (sym (length-drop from b)) ∙ take-length (drop from b))

high_bits : (q w n : ℕ) → n / w ≡ q → n ≡ q * w + n % w
high_bits q w n h = sym (div-add-mod' n w) ∙ ap (λ k. k * w + n % w) h

below : (w n : ℕ) → 0 < w → n % w < w
below w n h = mod-lt n h

-- what lies from a box's header on, byte by byte and list by list
own-drop : (b : List ℕ) (m : Avcc) (e f : ℕ) → Six b 8 m.profile m.compatibility m.level m.length_size m.sps → 14 ≤ e → e + 1 ≤ length b → m.pps ≡ be 1 b e → e + 1 ≤ f →
    be 1 b 12 ≡ 252 + m.length_size → be 1 b 13 ≡ 224 + m.sps → drop 8 b ≡ laid m (span b 14 e) (span b (e + 1) f) (span b f (length b))
own-drop b m e f w i r k j size count =
    peel b 8 9 (omega (arith, w.within)) refl
    ∙ begins w.version (peel b 9 10 (omega (arith, w.within)) refl)
    (begins (sym w.profile) (peel b 10 11 (omega (arith, w.within)) refl)
    (begins (sym w.compatibility) (peel b 11 12 (omega (arith, w.within)) refl)
    (begins (sym w.level) (peel b 12 13 (omega (arith, w.within)) refl)
    (begins size (peel b 13 14 (omega (arith, w.within)) refl)
    (begins count (split b 14 e i)
    (ap (λ t. span b 14 e ++ t)
    (peel b e (e + 1) (omega (arith, r)) refl
    ∙ begins (sym k) (split b (e + 1) f j) (ap (λ t. span b (e + 1) f ++ t) (to_the_end b f)))))))))
  where
    begins : {x y : ℕ} {t u v : List ℕ} → x ≡ y → t ≡ u → u ≡ v → x ∷ t ≡ y ∷ v
    begins {x} {y} {t} {u} {v} e g h = ap₂ (λ (n : ℕ) (l : List ℕ). n ∷ l) e (g ∙ h)

-- the bits above the lower ones are ones
high_ones : (b : List ℕ) (z n : ℕ) → ones b ≡ true → z ≡ be 1 b 12 % 4 → n ≡ be 1 b 13 % 32 → (be 1 b 12 ≡ 252 + z) × (be 1 b 13 ≡ 224 + n)
high_ones b z n o hz hn =
    let t = and-true (eqb (be 1 b 12 / 4) 63) (eqb (be 1 b 13 / 32) 7) o in (
      high_bits 63 4 (be 1 b 12) (eqb-true (be 1 b 12 / 4) 63 t.0) ∙ ap (λ k. 252 + k) (sym hz),
      high_bits 7 32 (be 1 b 13) (eqb-true (be 1 b 13 / 32) 7 t.1) ∙ ap (λ k. 224 + k) (sym hn),
    )

-- a box that is read: what is laid again is what lay there, and it is sound
module _ (b : List ℕ) (m : Avcc) (q : Places) (h : avcc_of b ≡ Ok (m, q)) (y : Content b 8 m q) where
  own-laid : ones b ≡ true → laid m (sps_list_of b) (pps_list_of b) (extension_of b) ≡ drop 8 b
  own-laid o =
      let e = y.e in
      let f = y.f in
      let w = y.bytes in
      let i = end_after m.sps b 14 e y.first w.within in
      let j = end_after m.pps b (e + 1) f y.second y.room in
      let t = high_ones b m.length_size m.sps o w.size w.count in
      ap (λ r. laid m (span_of (λ p. p.sps) (λ p. p.sps_end) b r) (span_of (λ p. p.pps) (λ p. p.pps_end) b r) (span_of (λ p. p.pps_end) (λ p. p.end) b r)) h
      ∙ ap (λ q. laid m (span b q.sps q.sps_end) (span b q.pps q.pps_end) (span b q.pps_end q.end)) y.lies
      ∙ sym (own-drop b m e f w i.0 y.room y.number j.0 t.0 t.1)

  own-sound : sound m (sps_list_of b) (pps_list_of b) ≡ true
  own-sound =
      let e = y.e in
      let f = y.f in
      let w = y.bytes in
      ap (λ r. sound m (span_of (λ p. p.sps) (λ p. p.sps_end) b r) (span_of (λ p. p.pps) (λ p. p.pps_end) b r)) h
      ∙ ap (λ q. sound m (span b q.sps q.sps_end) (span b q.pps q.pps_end)) y.lies
      ∙ sym (and_last _ _ _ _ (lt-ltb m.length_size 4 (omega (arith, w.size, below 4 (be 1 b 12) (omega arith))))
      (lt-ltb m.sps 32 (omega (arith, w.count, below 32 (be 1 b 13) (omega arith))))
      (taken m.sps b 14 e y.first w.within))
      ∙ taken m.pps b (e + 1) f y.second y.room

pub avcc-own : (b : List ℕ) (k : ℕ) → Canonical kind fields k b → ones b ≡ true → (m : Avcc) (q : Places) → avcc_of b ≡ Ok (m, q) → (buf : List ℕ) → length b ≤ length buf →
    avcc_in m (sps_list_of b) (pps_list_of b) (extension_of b) buf ≡ wrote (Ok (length b)) (b ++ drop (length b) buf)
unfolding slots firsts rule_of when
avcc-own b k c o m q h buf hl =
    let d : got [] 8 ≡ got c.values c.end = sym (no_fields b c.long 24) ∙ c.fields in
    let e8 : c.end ≡ 8 = cc in
    let r : read_of kind fields b ≡ Ok (fields_in (length b) 8 c.values) = own_read kind fields k b c ∙ ap (λ e. Ok (fields_in (length b) e c.values)) e8 in
    let y = content-way b 8 m q (sym (to-content b 8 c.values r) ∙ h) in
    let tail = own-laid b m q h y o in
    sym (by-true _ _ _ (sound m (sps_list_of b) (pps_list_of b)) (own-sound b m q h y)
    (sym (ap (λ l. write_of kind fields (slotted []) l buf) tail ∙ own-bytes kind fields k b c (fields_in (length b) 8 c.values) r (slotted []) buf (omega arith) refl hl)))
