-- Whole boxes of any type: what is written reads back the same, a canonical box gives its own bytes, and what is read fits. Assumes nothing.
use Rattle.std.specs.Prelude.{Result, Ok, Err}
use mathlib.Core.Path.{◌≡◌, refl, sym, ap, ap₂, ◌∙◌, subst}
use mathlib.Core.Logic.{◌⊎◌, inl, inr, ⊎_elim}
use mathlib.Core.List.{List, [], ◌∷◌, ◌++◌, append_assoc, append-nil}
use mathlib.Core.Bool.{Bool, true, false}
use Prim.Native.Nat.{ℕ, zero, suc, ◌+◌, ◌*◌, ◌-◌, ◌/◌, ◌%◌, ◌^◌, ◌≤◌, ◌<◌, min, max}
use native.Mathlib.Nat.{add-zero, zero-add, mod-eq_of_lt, mod-lt}
use native.Mathlib.Omega.{arith}
use lib.ListN.{length, get_or, drop, take, set, length-append, length-set, length-replicate, take-append-drop}
use lib.Seq.{length-take-le, take_at, drop_at, take-length, drop-length, sets, length-sets, get_or-set_same, get_or-set_other, set_out}
use lib.Dec.{ltb, leb, eqb}
use borrow.Author.Tests.{lt-ltb, le-ltb, ltb-true, ltb-false, eqb-true, eqb-false, eq-eqb, ne_eqb}
use Rattle.numbers.specs.Number.{be, bytes}
use Rattle.numbers.specs.Field.{when, field}
use Rattle.numbers.specs.declared.Refusal.TheVariants as refusal
use Rattle.numbers.specs.declared.Refusal.{Refusal}
use Rattle.numbers.proofs.Laws.{Bytes, be-bytes, be-below, under, length-bytes}
use Rattle.numbers.proofs.Chain.{whole, is_eq, is_ne, not-lt, way}
use Rattle.put.specs.Put.{Wrote, wrote}
use Rattle.boxes.specs.Header.{header, header_of}
use Rattle.layout.specs.Rule.{rule_of}
use Rattle.layout.specs.Read.{Got, got, fault, keep, one, decode, fields_of, headed, read_of, zeros, answer}
use Rattle.layout.specs.Write.{Made, made, bad, encode, full, place, placed, write_of}
use Rattle.layout.specs.Canonical.{standard, slots, firsts, Canonical, most, limit}
use Rattle.layout.specs.declared.Field.{Field}
use Rattle.layout.specs.declared.Field.TheVariants.{Number, Reserved, Wide, Optional, Least, Version, Flags, Nothing}
use Rattle.layout.specs.declared.rule.Rule.{Rule}
use Rattle.layout.specs.declared.read.Fields.{Fields}
use Rattle.layout.proofs.Writes.{length-full}
use Rattle.rounds.proofs.Round.{grown, back, forth, kept_same, one-got, keep-got}
use Rattle.boxes.specs.declared.header.Header.{Header}

-- values stored from slot k on are the first from slot k on
before : (l : List ℕ) (j i : ℕ) (vs : List ℕ) → i < j → get_or (sets l j vs) i 0 ≡ get_or l i 0
before l j i [] h = refl
before l j i (v ∷ vs) h = before (set l j v) (suc j) i vs (omega arith) ∙ get_or-set_other l j i v 0 (λ e. omega arith)

pub pulled : (vs l : List ℕ) (k : ℕ) → k + length vs ≤ length l → firsts (length vs) k (sets l k vs) ≡ vs
unfolding firsts
pulled [] l k h = refl
pulled (v ∷ vs) l k h =
    ap₂ (λ (x : ℕ) (r : List ℕ). x ∷ r) (before (set l k v) (suc k) k vs (omega arith) ∙ get_or-set_same l k v 0 (omega arith))
    (pulled vs (set l k v) (suc k) (omega (arith, length-set l k v)))

pub length_got : (fs : List Field) (b : List ℕ) (at v fl : ℕ) (vs : List ℕ) (e : ℕ) → decode fs b at v fl ≡ got vs e → length vs ≡ slots fs
unfolding decode slots when
length_got [] b at v fl vs e d = let q : [] ≡ vs = cc in sym (ap length q)
length_got (f ∷ fs) b at v fl vs e d =
    let r = rule_of f v fl in
    let x = be r.width b at in
    let g = decode fs b (at + r.width) (when r.version x v) (when r.flags x fl) in
    let j = keep-got r.kept x g vs e (one-got r b at (λ x. decode fs b (at + r.width) (when r.version x v) (when r.flags x fl)) vs e d).3 in
    let ih = length_got fs b (at + r.width) (when r.version x v) (when r.flags x fl) j.0 e j.1 in
    by r.kept x j.0 (slots fs) vs j.2 ih ∙ ap (λ t. when t (suc (slots fs)) (slots fs)) (sym (kept_same f v fl))
  where
    by : (t : Bool) (x : ℕ) (ws : List ℕ) (n : ℕ) (vs : List ℕ) → vs ≡ when t (x ∷ ws) ws → length ws ≡ n → length vs ≡ when t (suc n) n
    by true x ws n vs e h = ap length e ∙ ap suc h
    by false x ws n vs e h = ap length e ∙ h

-- the record that a reader gets for these values
abbrev pub fields_in : ℕ → ℕ → List ℕ → Fields
fields_in end e vs = record { place = e; end = end; values = sets (zeros 24) 0 vs }

-- reading a box whose size and type are right
opens : (kind : ℕ) (fs : List Field) (b vs : List ℕ) (e : ℕ) → 8 ≤ length b → be 4 b 4 ≡ kind → be 4 b 0 ≡ length b → decode fs b 8 0 0 ≡ got vs e →
    read_of kind fs b ≡ Ok (fields_in (length b) e vs)
opens kind fs b vs e h k s d =
    let r : Ok (header kind (length b) 8) ≡ header_of b 0 true =
    whole 4 b 0 Err _ _ (length b) (omega arith) (sym s)
    (is_ne _ _ _ (length b) 1 (λ z. omega arith)
    (is_ne _ _ _ (length b) 0 (λ z. omega arith)
    (not-lt _ _ _ (length b - 0) (length b) (omega arith)
    (not-lt _ _ _ (length b) 8 h
    (whole 4 b 4 Err _ _ kind (omega arith) (sym k) refl))))) in
    let same : fields_of (length (take (length b) b)) (zeros 24) 0 (decode fs (take (length b) b) 8 0 0) ≡ Ok (fields_in (length b) e vs) =
    ap (λ l. fields_of (length l) (zeros 24) 0 (decode fs l 8 0 0)) (take-length b) ∙ ap (fields_of (length b) (zeros 24) 0) d in
    ap (headed kind fs b) (sym r) ∙ sym (is_eq _ _ _ kind kind refl (sym same))

-- bytes, joined and made
pub joined : (a b : List ℕ) → Bytes a → Bytes b → Bytes (a ++ b)
joined [] b h g i = g i
joined (x ∷ a) b h g zero = h zero
joined (x ∷ a) b h g (suc i) = joined a b (λ j. h (suc j)) g i

pub are-bytes : (w n : ℕ) → Bytes (bytes w n)
unfolding bytes
are-bytes zero n i = omega arith
are-bytes (suc w) n zero = mod-lt (n / 256 ^ w) (omega arith)
are-bytes (suc w) n (suc i) = are-bytes w n i

-- a box that was written, by its answer
pub placed-done : (kind : ℕ) (tail buf : List ℕ) (m : Made) (n : ℕ) (out : List ℕ) → placed kind tail buf m ≡ wrote (Ok n) out →
    (cs : List ℕ) × (m ≡ made cs) × (n ≡ length (full kind cs tail)) × (out ≡ full kind cs tail ++ drop (length (full kind cs tail)) buf) × (length (full kind cs tail) ≤ 4294967295)
unfolding when
placed-done kind tail buf bad n out e = let z : ◌≡◌ {A = ℕ} 0 1 = cc in absurd (omega arith)
placed-done kind tail buf (made cs) n out e = by (ltb 4294967295 (length a)) (ltb (length buf) (length a)) refl refl e
  where
    a : List ℕ
    a = full kind cs tail

    by : (p q : Bool) → ltb 4294967295 (length a) ≡ p → ltb (length buf) (length a) ≡ q →
        when p (wrote (Err refusal.Unwritable) buf) (when q (wrote (Err (refusal.TooSmall (length a))) buf) (wrote (Ok (length a)) (a ++ drop (length a) buf))) ≡ wrote (Ok n) out →
        (ds : List ℕ) × (made cs ≡ made ds) × (n ≡ length (full kind ds tail)) × (out ≡ full kind ds tail ++ drop (length (full kind ds tail)) buf) × (length (full kind ds tail) ≤ 4294967295)
    by true q ep eq e = let z : ◌≡◌ {A = ℕ} 0 1 = cc in absurd (omega arith)
    by false true ep eq e = let z : ◌≡◌ {A = ℕ} 0 1 = cc in absurd (omega arith)
    by false false ep eq e = (cs, refl, let q : n ≡ length a = cc in q, let q : out ≡ a ++ drop (length a) buf = cc in q, ltb-false 4294967295 (length a) ep)

-- b is a box that was written: a header of 8 bytes with its size and type, the fields' bytes, the tail
pub record Written (kind : ℕ) (fs : List Field) (xs tail b : List ℕ) : Type 0 where
  pub head : List ℕ
  pub fields : List ℕ
  pub eight : length head ≡ 8
  pub coded : encode fs xs 0 0 0 ≡ made fields
  pub shape : b ≡ head ++ (fields ++ tail)
  pub long : length b ≡ 8 + length fields + length tail
  pub size : be 4 b 0 ≡ length b
  pub type : be 4 b 4 ≡ kind
  pub byte : Bytes head

pub written-box : (kind : ℕ) (fs : List Field) (xs tail buf : List ℕ) (n : ℕ) (out : List ℕ) → kind < 4294967296 → write_of kind fs xs tail buf ≡ wrote (Ok n) out →
    Written kind fs xs tail (take n out)
written-box kind fs xs tail buf n out hk w =
    let p = placed-done kind tail buf (encode fs xs 0 0 0) n out w in
    let cs = p.0 in
    let total = 8 + length cs + length tail in
    let a = full kind cs tail in
    let l4 : length (bytes 4 total) ≡ 4 = length-bytes 4 total in
    let la : length a ≡ total = length-full kind cs tail in
    let t : take n out ≡ a = ap₂ (λ (n : ℕ) (o : List ℕ). take n o) p.2 p.3 ∙ take_at a (drop (length a) buf) (length a) refl in
    let s : a ≡ bytes 4 total ++ (bytes 4 kind ++ (cs ++ tail)) = simp append_assoc in
    let z : be 4 a 0 ≡ total = ap (λ b. be 4 b 0) s ∙ be-bytes 4 total [] (bytes 4 kind ++ (cs ++ tail)) ∙ mod-eq_of_lt (omega (arith, p.4)) in
    let k : be 4 a 4 ≡ kind = ap₂ (λ (b : List ℕ) (n : ℕ). be 4 b n) s (sym l4) ∙ be-bytes 4 kind (bytes 4 total) (cs ++ tail) ∙ mod-eq_of_lt hk in
    subst (Written kind fs xs tail) (sym t)
    (record {
      head = bytes 4 total ++ bytes 4 kind;
      fields = cs;
      eight = length-append (bytes 4 total) (bytes 4 kind) ∙ ap₂ (λ (m n : ℕ). m + n) l4 (length-bytes 4 kind);
      coded = p.1;
      shape = simp append_assoc;
      long = la;
      size = z ∙ sym la;
      type = k;
      byte = joined (bytes 4 total) (bytes 4 kind) (are-bytes 4 total) (are-bytes 4 kind);
    })

-- what was read is one record
pub same_read : (f g : Fields) → ◌≡◌ {A = Result Fields Refusal} (Ok f) (Ok g) → f ≡ g
same_read f g e = cc e

-- WHAT IS WRITTEN READS BACK THE SAME: the values, and the tail after them
pub reads-back : (kind : ℕ) (fs : List Field) (xs tail buf : List ℕ) (n : ℕ) (out : List ℕ) → kind < 4294967296 → write_of kind fs xs tail buf ≡ wrote (Ok n) out →
    (e : ℕ) × (read_of kind fs (take n out) ≡ Ok (fields_in (length (take n out)) e (firsts (slots fs) 0 xs))) × (drop e (take n out) ≡ tail) × (e + length tail ≡ length (take n out))
reads-back kind fs xs tail buf n out hk w =
    let b = take n out in
    let r = written-box kind fs xs tail buf n out hk w in
    let cs = r.fields in
    let e = 8 + length cs in
    let vs = firsts (slots fs) 0 xs in
    let d : decode fs b 8 0 0 ≡ got vs e =
    ap₂ (λ (b : List ℕ) (n : ℕ). decode fs b n 0 0) r.shape (sym r.eight) ∙ back fs xs 0 0 0 cs r.coded r.head tail ∙ ap (λ n. got vs (n + length cs)) r.eight in
    let l : length (r.head ++ cs) ≡ e = length-append r.head cs ∙ ap (λ n. n + length cs) r.eight in (
      e,
      opens kind fs b vs e (omega (arith, r.long)) r.type r.size d,
      ap (drop e) (r.shape ∙ sym (append_assoc r.head cs tail)) ∙ drop_at (r.head ++ cs) tail e l,
      sym r.long,
    )

module _ (kind : ℕ) (fs : List Field) (n : ℕ) (b : List ℕ) (c : Canonical kind fs n b) where
  -- how a canonical box is read
  pub own_read : read_of kind fs b ≡ Ok (fields_in (length b) c.end c.values)
  own_read = opens kind fs b c.values c.end c.long c.type c.size c.fields

  -- A CANONICAL BOX, READ AND WRITTEN, GIVES ITS OWN BYTES, from any values that are those read, with the n bytes that followed
  pub own-bytes : (f : Fields) → read_of kind fs b ≡ Ok f → (ys buf : List ℕ) → slots fs ≤ 24 → firsts (slots fs) 0 ys ≡ firsts (slots fs) 0 f.values → length b ≤ length buf →
      write_of kind fs ys (drop f.place b) buf ≡ wrote (Ok (length b)) (b ++ drop (length b) buf)
  unfolding when
  own-bytes f r ys buf hs h hl =
      let own : f ≡ fields_in (length b) c.end c.values = same_read f (fields_in (length b) c.end c.values) (sym r ∙ own_read) in
      let e = c.end in
      let lv : length c.values ≡ slots fs = length_got fs b 8 0 0 c.values e c.fields in
      let same : firsts (slots fs) 0 ys ≡ c.values =
      h ∙ ap (λ r. firsts (slots fs) 0 r.values) own ∙ ap (λ n. firsts n 0 (sets (zeros 24) 0 c.values)) (sym lv)
      ∙ pulled c.values (zeros 24) 0 (omega (arith, length-replicate {A = ℕ} 24 0)) in
      let w = forth fs b 8 0 0 c.values e c.byte c.long c.fields c.reserved ys 0 same in
      let cs = w.0 in
      let tail = drop e b in
      let pl : f.place ≡ e = ap (λ r. r.place) own in
      let small : length b < 4294967296 = omega (arith, be-below 4 b 0 c.byte, c.size) in
      let g4 : bytes 4 (length b) ≡ take 4 b = ap (bytes 4) (sym c.size) ∙ grown 4 b 0 c.byte (omega (arith, c.long)) ∙ ap (λ n. take n b) (zero-add 4) in
      let g8 : take 4 b ++ bytes 4 kind ≡ take 8 b = ap (λ k. take 4 b ++ bytes 4 k) (sym c.type) ∙ grown 4 b 4 c.byte c.long in
      let lt : length (take e b ++ tail) ≡ length b = ap length (take-append-drop e b) in
      let ls : 8 + length cs + length tail ≡ length b = omega (arith, length-append (take e b) tail, ap length w.2, length-append (take 8 b) cs, lt, w.4, length-take-le e b w.3) in
      let a : full kind cs tail ≡ b =
      ap (λ n. bytes 4 n ++ bytes 4 kind ++ cs ++ tail) ls
      ∙ ap (λ l. l ++ bytes 4 kind ++ cs ++ tail) g4
      ∙ ap (λ l. l ++ cs ++ tail) g8
      ∙ ap (λ l. l ++ tail) w.2 ∙ take-append-drop e b in
      ap (λ p. write_of kind fs ys (drop p b) buf) pl
      ∙ ap (placed kind tail buf) w.1
      ∙ ap (place buf) a
      ∙ simp (le-ltb 4294967295 (length b) (omega arith), le-ltb (length buf) (length b) hl)

-- WHAT IS READ FITS
most-is : (f : Field) (v fl : ℕ) → (rule_of f 0 0).kept ≡ true → (rule_of f v fl).high ≤ most f
unfolding rule_of most when
most-is (Number w) v fl k = omega arith
most-is (Reserved w c) v fl k = let z : ◌≡◌ {A = ℕ} 0 1 = cc in absurd (omega arith)
most-is (Wide x y) v fl k = by (eqb v 1)
  where
    by : (t : Bool) → 256 ^ min (when t y x) 8 - 1 ≤ 256 ^ max (min x 8) (min y 8) - 1
    by true = omega (arith, under (min y 8) (max (min x 8) (min y 8)) (omega arith))
    by false = omega (arith, under (min x 8) (max (min x 8) (min y 8)) (omega arith))
most-is (Optional w bit) v fl k = by (when (eqb bit 0) false (eqb (fl / bit % 2) 1))
  where
    by : (t : Bool) → 256 ^ min (when t w 0) 8 - 1 ≤ 256 ^ min w 8 - 1
    by true = omega arith
    by false = omega (arith, under (min 0 8) (min w 8) (omega arith))
most-is (Least w n) v fl k = omega arith
most-is (Version lo hi) v fl k = omega arith
most-is Flags v fl k = omega arith
most-is Nothing v fl k = let z : ◌≡◌ {A = ℕ} 0 1 = cc in absurd (omega arith)

fits-zero : (t : Bool) (x m l : ℕ) (vs ws : List ℕ) → vs ≡ when t (x ∷ ws) ws → (t ≡ true → x ≤ m) → get_or ws 0 0 ≤ l → get_or vs 0 0 ≤ when t m l
unfolding when
fits-zero true x m l vs ws e h g = omega (arith, ap (λ l. get_or l 0 0) e, h refl)
fits-zero false x m l vs ws e h g = omega (arith, ap (λ l. get_or l 0 0) e)

fits_suc : (t : Bool) (x k a b : ℕ) (vs ws : List ℕ) → vs ≡ when t (x ∷ ws) ws → get_or ws k 0 ≤ a → get_or ws (suc k) 0 ≤ b → get_or vs (suc k) 0 ≤ when t a b
unfolding when
fits_suc true x k a b vs ws e h g = omega (arith, ap (λ l. get_or l (suc k) 0) e)
fits_suc false x k a b vs ws e h g = omega (arith, ap (λ l. get_or l (suc k) 0) e)

-- the field's value and the values after it
opened : (f : Field) (fs : List Field) (b : List ℕ) (at v fl : ℕ) (vs : List ℕ) (e : ℕ) → decode (f ∷ fs) b at v fl ≡ got vs e →
    (x at' v' fl' : ℕ) × (ws : List ℕ) × (x ≤ (rule_of f v fl).high) × (decode fs b at' v' fl' ≡ got ws e) × (vs ≡ when (rule_of f 0 0).kept (x ∷ ws) ws)
unfolding decode
opened f fs b at v fl vs e d =
    let r = rule_of f v fl in
    let x = be r.width b at in
    let g = decode fs b (at + r.width) (when r.version x v) (when r.flags x fl) in
    let o = one-got r b at (λ x. decode fs b (at + r.width) (when r.version x v) (when r.flags x fl)) vs e d in
    let j = keep-got r.kept x g vs e o.3 in
    (x, at + r.width, when r.version x v, when r.flags x fl, j.0, o.2, j.1, j.2 ∙ ap (λ t. when t (x ∷ j.0) j.0) (sym (kept_same f v fl)))

got-fits : (fs : List Field) (b : List ℕ) (at v fl : ℕ) (vs : List ℕ) (e : ℕ) → decode fs b at v fl ≡ got vs e → (k : ℕ) → get_or vs k 0 ≤ limit fs k
unfolding decode limit
got-fits [] b at v fl vs e d k = let q : [] ≡ vs = cc in omega (arith, ap (λ l. get_or l k 0) q)
got-fits (f ∷ fs) b at v fl vs e d zero =
    let o = opened f fs b at v fl vs e d in
    let ih = got-fits fs b o.1 o.2 o.3 o.4 e o.6 in
    fits-zero (rule_of f 0 0).kept o.0 (most f) (limit fs 0) vs o.4 o.7 (λ k. omega (arith, o.5, most-is f v fl k)) (ih 0)
got-fits (f ∷ fs) b at v fl vs e d (suc k) =
    let o = opened f fs b at v fl vs e d in
    let ih = got-fits fs b o.1 o.2 o.3 o.4 e o.6 in
    fits_suc (rule_of f 0 0).kept o.0 k (limit fs k) (limit fs (suc k)) vs o.4 o.7 (ih k) (ih (suc k))

zero-at : (n k : ℕ) → get_or (zeros n) k 0 ≡ 0
zero-at zero k = refl
zero-at (suc n) zero = refl
zero-at (suc n) (suc k) = zero-at n k

stored-fits : (vs l : List ℕ) (j : ℕ) (lim : ℕ → ℕ) → ((k : ℕ) → get_or l k 0 ≤ lim k) → ((k : ℕ) → get_or vs k 0 ≤ lim (j + k)) → (k : ℕ) → get_or (sets l j vs) k 0 ≤ lim k
stored-fits [] l j lim h g k = h k
stored-fits (v ∷ vs) l j lim h g k =
    stored-fits vs (set l j v) (suc j) lim (λ k. set-fits (eqb k j) k refl) (λ k. omega (arith, g (suc k), ap lim (let e : suc j + k ≡ j + suc k = omega arith in e))) k
  where
    same-fits : (k : ℕ) (t : Bool) → ltb j (length l) ≡ t → k ≡ j → get_or (set l j v) k 0 ≤ lim k
    same-fits k true q e = omega (arith, ap (λ k. get_or (set l j v) k 0) e, get_or-set_same l j v 0 (ltb-true j (length l) q), g 0, ap lim (add-zero j ∙ sym e))
    same-fits k false q e = omega (arith, ap (λ s. get_or s k 0) (set_out l j v (ltb-false j (length l) q)), h k)

    set-fits : (t : Bool) (k : ℕ) → eqb k j ≡ t → get_or (set l j v) k 0 ≤ lim k
    set-fits true k q = same-fits k (ltb j (length l)) refl (eqb-true k j q)
    set-fits false k q = omega (arith, get_or-set_other l j k v 0 (eqb-false k j q), h k)

-- what slot k of a reader's record holds is at most its field's greatest value
pub fits : (kind : ℕ) (fs : List Field) (b : List ℕ) (k m : ℕ) (f : Fields) → read_of kind fs b ≡ Ok f → limit fs k ≡ m → get_or f.values k 0 ≤ m
fits kind fs b k m f e l = by (header_of b 0 true) e
  where
    in_row : (end : ℕ) (s : List ℕ) (at : ℕ) (g : Got) → decode fs s at 0 0 ≡ g → fields_of end (zeros 24) 0 g ≡ Ok f → get_or f.values k 0 ≤ m
    in_row end s at (got vs p) d q =
        let z : f.values ≡ sets (zeros 24) 0 vs = cc q in
        let h : get_or (sets (zeros 24) 0 vs) k 0 ≤ limit fs k =
        stored-fits vs (zeros 24) 0 (limit fs) (λ k. omega (arith, zero-at 24 k)) (λ k. omega (arith, got-fits fs s at 0 0 vs p d k, ap (limit fs) (zero-add k))) k in
        omega (arith, ap (λ l. get_or l k 0) z, h, l)
    in_row end s at (fault r) d q = let z : ◌≡◌ {A = ℕ} 0 1 = cc q in absurd (omega arith)

    by : (h : Result Header Refusal) → headed kind fs b h ≡ Ok f → get_or f.values k 0 ≤ m
    by (Ok h) q =
        ⊎_elim (λ y. in_row (length (take h.size b)) (take h.size b) h.length (decode fs (take h.size b) h.length 0 0) refl y.1)
        (λ y. let z : ◌≡◌ {A = ℕ} 0 1 = cc y.1 in absurd (omega arith))
        (way (eqb h.kind kind) _ _ _ q)
    by (Err r) q = let z : ◌≡◌ {A = ℕ} 0 1 = cc q in absurd (omega arith)

-- A BOX'S VALUE AS A RECORD: `to` lays it in slots, `from` takes it out of them
module _ {M : Type 0} (from : List ℕ → M) where
  -- the record that a value was made of
  pub told_from : (r : Result Fields Refusal) (m : M) → answer from r ≡ Ok m → (f : Fields) × (r ≡ Ok f) × (from f.values ≡ m)
  told_from (Ok f) m e = (f, refl, cc e)
  told_from (Err q) m e = let z : ◌≡◌ {A = ℕ} 0 1 = cc e in absurd (omega arith)

  module _ (to : M → List ℕ) (kind : ℕ) (fs : List Field) where
    pub plain_back : kind < 4294967296 → ((m : M) → from (sets (zeros 24) 0 (firsts (slots fs) 0 (to m))) ≡ m) →
        (m : M) (buf : List ℕ) (n : ℕ) (out : List ℕ) → write_of kind fs (to m) [] buf ≡ wrote (Ok n) out →
        answer from (read_of kind fs (take n out)) ≡ Ok m
    plain_back hk ft m buf n out w =
        let p = reads-back kind fs (to m) [] buf n out hk w in
        ap (answer from) p.1 ∙ ap Ok (ft m)

    pub plain-own : ((vs : List ℕ) → firsts (slots fs) 0 (to (from vs)) ≡ firsts (slots fs) 0 vs) → slots fs ≤ 24 →
        (b : List ℕ) → Canonical kind fs 0 b → (m : M) → answer from (read_of kind fs b) ≡ Ok m → (buf : List ℕ) → length b ≤ length buf →
        write_of kind fs (to m) [] buf ≡ wrote (Ok (length b)) (b ++ drop (length b) buf)
    plain-own tf hs b c m a buf hl =
        let o = own_read kind fs 0 b c in
        let t = told_from (read_of kind fs b) m a in
        let f = t.0 in
        let own : f ≡ fields_in (length b) c.end c.values = same_read f (fields_in (length b) c.end c.values) (sym t.1 ∙ o) in
        let q : from f.values ≡ m = t.2 in
        let e : f.place ≡ length b = ap (λ r. r.place) own ∙ sym (add-zero c.end) ∙ c.rest in
        let d : drop f.place b ≡ [] = ap (λ n. drop n b) e ∙ drop-length b in
        ap (λ t. write_of kind fs (to m) t buf) (sym d)
        ∙ own-bytes kind fs 0 b c f t.1 (to m) buf hs (ap (λ m. firsts (slots fs) 0 (to m)) (sym q) ∙ tf f.values) hl
