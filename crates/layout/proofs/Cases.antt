-- One field more, read or written. Assumes nothing.
use Rattle.std.specs.Prelude.{Result, Ok, Err}
use mathlib.Core.Path.{◌≡◌, refl, sym, ap, ap₂, ◌∙◌}
use mathlib.Core.List.{List, [], ◌∷◌, ◌++◌}
use mathlib.Core.Bool.{Bool, true, false}
use Prim.Native.Nat.{ℕ, zero, suc, ◌+◌, ◌*◌, ◌-◌, ◌/◌, ◌%◌, ◌^◌, ◌≤◌, ◌<◌, min}
use native.Mathlib.Nat.{add-zero}
use native.Mathlib.Numerals.{add-one}
use native.Mathlib.Omega.{arith}
use lib.ListN.{length, get_or, take, drop, set, length-append}
use lib.Seq.{drop-cons, drop-length, sets, length-take-le}
use lib.Dec.{ltb, leb, eqb}
use borrow.Author.Tests.{lt-ltb, le-ltb}
use Rattle.numbers.specs.Number.{be, bytes}
use Rattle.numbers.specs.Field.{when}
use Rattle.layout.specs.Rule.{rule_of, refusal_of}
use Rattle.layout.specs.Read.{Got, got, fault, keep, one, decode, fields_of, zeros}
use Rattle.layout.specs.Write.{Made, made, bad, after, lay, encode, coded_of, badly}
use Rattle.layout.specs.declared.Field.{Field}
use Rattle.layout.specs.declared.Field.TheVariants.{Number, Reserved, Wide, Optional, Least, Version, Flags, Nothing}
use Rattle.layout.specs.declared.rule.Rule.{Rule}
use Rattle.layout.specs.declared.read.Fields.{Fields}
use Rattle.layout.specs.declared.Coded.{Coded}
use Rattle.numbers.proofs.Laws.{pow_pos, length-bytes}
use Rattle.boxes.specs.Header.{header_of}
use Rattle.boxes.specs.declared.header.Header.{Header}
use Rattle.boxes.proofs.Within.{Within, header-within}
use Rattle.put.specs.Put.{Wrote, wrote, put_of}
use Rattle.put.proofs.Stores.{sets-append}
use Rattle.put.proofs.Placed.{done}
use Rattle.numbers.specs.declared.Refusal.{Refusal}
use Rattle.numbers.specs.declared.Refusal.TheVariants as refusal

-- no field is wider than 8 bytes
pub width-8 : (f : Field) (v fl : ℕ) → (rule_of f v fl).width ≤ 8
unfolding rule_of
width-8 (Number w) v fl = omega arith
width-8 (Reserved w c) v fl = omega arith
width-8 (Wide a b) v fl = omega arith
width-8 (Optional w bit) v fl = omega arith
width-8 (Least w n) v fl = omega arith
width-8 (Version lo hi) v fl = omega arith
width-8 Flags v fl = omega arith
width-8 Nothing v fl = omega arith

pub width_of : (r : Rule) (f : Field) (v fl : ℕ) → r ≡ rule_of f v fl → r.width ≤ 8
width_of r f v fl e = omega (arith, ap (λ r. r.width) e, width-8 f v fl)

kept_in : (end : ℕ) (t : Bool) (vs : List ℕ) (k x : ℕ) (g : Got) → fields_of end (when t (set vs k x) vs) (when t (k + 1) k) g ≡ fields_of end vs k (keep t x g)
unfolding when
kept_in end true vs k x (got xs e) = ap (λ n. fields_of end (set vs k x) n (got xs e)) (add-one k)
kept_in end true vs k x (fault q) = refl
kept_in end false vs k x g = refl

module _ (layout : List Field) (d : Field) (end : ℕ) (b : List ℕ) (i at v fl : ℕ) (vs : List ℕ) (k : ℕ) (r : Rule) (inside : i < length layout) (e : r ≡ rule_of (get_or layout i d) v fl) where
  rest : ℕ → Got
  rest x = decode (drop (suc i) layout) b (at + r.width) (when r.version x v) (when r.flags x fl)

  opened : decode (drop i layout) b at v fl ≡ one r b at rest
  unfolding decode rest
  opened =
      ap (λ l. decode l b at v fl) (drop-cons layout i d inside)
      ∙ ap (λ r. one r b at (λ x. decode (drop (suc i) layout) b (at + r.width) (when r.version x v) (when r.flags x fl))) (sym e)

  pub short : length b < at + r.width → Err (refusal.Cut at) ≡ fields_of end vs k (decode (drop i layout) b at v fl)
  unfolding one when
  short h =
      let go : decode (drop i layout) b at v fl ≡ fault (refusal.Cut at) = opened ∙ simp (lt-ltb (length b) (at + r.width) h) in
      sym (ap (fields_of end vs k) go)

  pub low : (x : ℕ) → at + r.width ≤ length b → x ≡ be r.width b at → x < r.low → Err (refusal_of r at) ≡ fields_of end vs k (decode (drop i layout) b at v fl)
  unfolding one when
  low x h q l =
      let go : decode (drop i layout) b at v fl ≡ fault (refusal_of r at) = opened ∙ simp (le-ltb (length b) (at + r.width) h, ← q, lt-ltb x r.low l) in
      sym (ap (fields_of end vs k) go)

  pub high : (x : ℕ) → at + r.width ≤ length b → x ≡ be r.width b at → r.low ≤ x → r.high < x → Err (refusal_of r at) ≡ fields_of end vs k (decode (drop i layout) b at v fl)
  unfolding one when
  high x h q l u =
      let go : decode (drop i layout) b at v fl ≡ fault (refusal_of r at) = opened ∙ simp (le-ltb (length b) (at + r.width) h, ← q, le-ltb x r.low l, lt-ltb r.high x u) in
      sym (ap (fields_of end vs k) go)

  pub more : (x : ℕ) → at + r.width ≤ length b → x ≡ be r.width b at → r.low ≤ x → x ≤ r.high →
      (vs' : List ℕ) (k' v' fl' : ℕ) → vs' ≡ when r.kept (set vs k x) vs → k' ≡ when r.kept (k + 1) k → v' ≡ when r.version x v → fl' ≡ when r.flags x fl →
      fields_of end vs' k' (decode (drop (i + 1) layout) b (at + r.width) v' fl') ≡ fields_of end vs k (decode (drop i layout) b at v fl)
  unfolding one when rest
  more x h q l u vs' k' v' fl' e1 e2 e3 e4 =
      let go : decode (drop i layout) b at v fl ≡ keep r.kept x (rest x) =
      opened ∙ simp (le-ltb (length b) (at + r.width) h, ← q, le-ltb x r.low l, le-ltb r.high x u) in
      rw (e1, e2, e3, e4, add-one i) (kept_in end r.kept vs k x (rest x)) ∙ sym (ap (fields_of end vs k) go)

pub all : (layout : List Field) (end : ℕ) (b : List ℕ) (i at v fl : ℕ) (vs : List ℕ) (k : ℕ) → i ≡ length layout →
    Ok (record { place = at; end = end; values = vs }) ≡ fields_of end vs k (decode (drop i layout) b at v fl)
unfolding decode
all layout end b i at v fl vs k e = sym (ap (λ l. fields_of end vs k (decode l b at v fl)) (ap (λ n. drop n layout) e ∙ drop-length layout))

-- writing

laid_in : (bs : List ℕ) (n w x : ℕ) (m : Made) → coded_of (sets bs n (bytes w x)) (n + w) m ≡ coded_of bs n (after (bytes w x) m)
laid_in bs n w x (made cs) =
    let e : length (bytes w x) ≡ w = length-bytes w x in
    let l : n + w + length cs ≡ n + length (bytes w x ++ cs) = simp length-append (omega arith) in
    let s : sets (sets bs n (bytes w x)) (n + w) cs ≡ sets bs n (bytes w x ++ cs) =
    ap (λ k. sets (sets bs n (bytes w x)) (n + k) cs) (sym e) ∙ sets-append bs n (bytes w x) cs in
    ap₂ (λ (k : ℕ) (s : List ℕ). record { ok = true; len = k; bytes = s }) l s
laid_in bs n w x bad = refl

module _ (layout : List Field) (d : Field) (xs : List ℕ) (i k v fl : ℕ) (bs : List ℕ) (n : ℕ) (r : Rule) (x : ℕ) (inside : i < length layout) (e : r ≡ rule_of (get_or layout i d) v fl)
    (q : x ≡ when r.kept (get_or xs k 0) r.fixed) where
  later : Made
  later = encode (drop (suc i) layout) xs (when r.kept (k + 1) k) (when r.version x v) (when r.flags x fl)

  begun : encode (drop i layout) xs k v fl ≡ lay r x later
  unfolding encode later
  begun =
      ap (λ l. encode l xs k v fl) (drop-cons layout i d inside)
      ∙ ap (λ r. let x = when r.kept (get_or xs k 0) r.fixed in
      lay r x (encode (drop (suc i) layout) xs (when r.kept (k + 1) k) (when r.version x v) (when r.flags x fl))) (sym e)
      ∙ ap (λ x. lay r x (encode (drop (suc i) layout) xs (when r.kept (k + 1) k) (when r.version x v) (when r.flags x fl))) (sym q)

  pub too-low : x < r.low → badly ≡ coded_of bs n (encode (drop i layout) xs k v fl)
  unfolding lay when
  too-low l =
      let go : encode (drop i layout) xs k v fl ≡ bad = begun ∙ simp (lt-ltb x r.low l) in
      sym (ap (coded_of bs n) go)

  pub too-high : r.low ≤ x → r.high < x → badly ≡ coded_of bs n (encode (drop i layout) xs k v fl)
  unfolding lay when
  too-high l u =
      let go : encode (drop i layout) xs k v fl ≡ bad = begun ∙ simp (le-ltb x r.low l, lt-ltb r.high x u) in
      sym (ap (coded_of bs n) go)

  pub further : r.low ≤ x → x ≤ r.high → (bs' : List ℕ) (k' v' fl' : ℕ) → bs' ≡ sets bs n (bytes r.width x) →
      k' ≡ when r.kept (k + 1) k → v' ≡ when r.version x v → fl' ≡ when r.flags x fl →
      coded_of bs' (n + r.width) (encode (drop (i + 1) layout) xs k' v' fl') ≡ coded_of bs n (encode (drop i layout) xs k v fl)
  unfolding lay when later
  further l u bs' k' v' fl' e1 e2 e3 e4 =
      let go : encode (drop i layout) xs k v fl ≡ after (bytes r.width x) later = begun ∙ simp (le-ltb x r.low l, le-ltb r.high x u) in
      rw (e1, e2, e3, e4, add-one i) (laid_in bs n r.width x later) ∙ sym (ap (coded_of bs n) go)

pub all_laid : (layout : List Field) (xs : List ℕ) (i k v fl : ℕ) (bs : List ℕ) (n : ℕ) → i ≡ length layout →
    record { ok = true; len = n; bytes = bs } ≡ coded_of bs n (encode (drop i layout) xs k v fl)
unfolding encode
all_laid layout xs i k v fl bs n e =
    ap (λ n. record { ok = true; len = n; bytes = bs }) (sym (add-zero n))
    ∙ sym (ap (λ l. coded_of bs n (encode l xs k v fl)) (ap (λ n. drop n layout) e ∙ drop-length layout))

-- no value in its range is too wide for its field
pub range : (f : Field) (v fl : ℕ) → (rule_of f v fl).high < 256 ^ (rule_of f v fl).width
unfolding rule_of
range (Number w) v fl = omega (arith, pow_pos (min w 8))
range (Reserved w c) v fl = omega (arith, pow_pos (min w 8))
range (Wide a b) v fl = omega (arith, pow_pos (min (when (eqb v 1) b a) 8))
range (Optional w bit) v fl = omega (arith, pow_pos (rule_of (Optional w bit) v fl).width)
range (Least w n) v fl = omega (arith, pow_pos (min w 8))
range (Version lo hi) v fl = omega arith
range Flags v fl = omega arith
range Nothing v fl = omega arith

-- a value in its range is stored
pub laid : (r : Rule) (f : Field) (v fl x : ℕ) → r ≡ rule_of f v fl → x ≤ r.high → (at : ℕ) (buf out : List ℕ) (p : Result ℕ Refusal) → at + r.width ≤ length buf → wrote p out ≡ put_of r.width x at buf →
    out ≡ sets buf at (bytes r.width x)
laid r f v fl x e h at buf out p l q =
    let b : x < 256 ^ r.width = omega (arith, range f v fl, ap (λ i. i.high) e, ap (λ i. 256 ^ i.width) e) in
    cc (q ∙ sym (done r.width x at buf (width_of r f v fl e) b l))

-- a box whose header was read: its part is as long as it says, and the header lies in it
pub part-of : (b : List ℕ) (h : Header) → header_of b 0 true ≡ Ok h → (h.size ≡ length (take h.size b)) × (h.length ≤ length (take h.size b))
part-of b h e =
    let w : Within b 0 h = header-within b 0 h true e in
    let l : length (take h.size b) ≡ h.size = length-take-le h.size b (omega (arith, w.inside)) in
    (sym l, omega (arith, w.whole))
