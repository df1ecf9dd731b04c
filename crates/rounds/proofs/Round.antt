-- What is written reads back the same, and what is read is written the same, for any row of fields. Assumes nothing.
use mathlib.Core.Path.{◌≡◌, refl, sym, ap, ap₂, ◌∙◌, subst}
use mathlib.Core.Logic.{◌⊎◌, inl, inr, ⊎_elim}
use mathlib.Core.List.{List, [], ◌∷◌, ◌++◌, append_assoc, append-nil}
use mathlib.Core.Bool.{Bool, true, false}
use Prim.Native.Nat.{ℕ, zero, suc, ◌+◌, ◌*◌, ◌-◌, ◌/◌, ◌%◌, ◌^◌, ◌≤◌, ◌<◌, min}
use native.Mathlib.Nat.{add-zero, zero-add, mod-eq_of_lt, mod-lt, pow-zero}
use native.Mathlib.Numerals.{add-one}
use native.Mathlib.Omega.{arith}
use lib.ListN.{length, get_or, drop, take, set, length-append}
use lib.Seq.{take-add}
use lib.Dec.{ltb, leb, eqb}
use borrow.Author.Tests.{lt-ltb, le-ltb, ltb-true, ltb-false, eqb-true}
use Rattle.numbers.specs.Number.{be, bytes}
use Rattle.numbers.specs.Field.{when}
use Rattle.numbers.specs.declared.Refusal.TheVariants as refusal
use Rattle.layout.specs.Rule.{rule_of, refusal_of}
use Rattle.layout.specs.Read.{Got, got, fault, keep, one, decode}
use Rattle.layout.specs.Write.{Made, made, bad, after, lay, encode}
use Rattle.layout.specs.Canonical.{standard, slots, firsts}
use Rattle.layout.specs.declared.Field.{Field}
use Rattle.layout.specs.declared.Field.TheVariants.{Number, Reserved, Wide, Optional, Least, Version, Flags, Nothing}
use Rattle.layout.specs.declared.rule.Rule.{Rule}
use Rattle.numbers.proofs.Laws.{pow_pos, under, be-bytes, Bytes, be-below, bytes-be, length-bytes}

-- the bytes up to a field, and the field's own
pub grown : (w : ℕ) (b : List ℕ) (at : ℕ) → Bytes b → at + w ≤ length b → take at b ++ bytes w (be w b at) ≡ take (at + w) b
grown w b at h f = ap (λ l. take at b ++ l) (bytes-be w b at h f) ∙ sym (take-add at w b)

-- a kept field takes no number that its bytes cannot hold; a reserved one takes any that they can
abbrev pub Good : Rule → Type 0
Good r = ((r.kept ≡ true) × (r.high < 256 ^ r.width)) ⊎
    ((r.kept ≡ false) × (r.low ≡ 0) × (256 ^ r.width ≤ suc r.high) × (r.version ≡ false) × (r.flags ≡ false))

pub good : (f : Field) (v fl : ℕ) → Good (rule_of f v fl)
unfolding rule_of
good (Number w) v fl = inl (refl, omega (arith, pow_pos (min w 8)))
good (Reserved w c) v fl = inr (refl, refl, omega (arith, pow_pos (min w 8)), refl, refl)
good (Wide a b) v fl = inl (refl, omega (arith, pow_pos (min (when (eqb v 1) b a) 8)))
good (Optional w bit) v fl = inl (refl, omega (arith, pow_pos (rule_of (Optional w bit) v fl).width))
good (Least w n) v fl = inl (refl, omega (arith, pow_pos (min w 8)))
good (Version lo hi) v fl = inl (refl, omega arith)
good Flags v fl = inl (refl, omega arith)
good Nothing v fl = inr (refl, refl, omega arith, refl, refl)

-- whether a field is kept depends on nothing
pub kept_same : (f : Field) (v fl : ℕ) → (rule_of f 0 0).kept ≡ (rule_of f v fl).kept
unfolding rule_of
kept_same (Number w) v fl = refl
kept_same (Reserved w c) v fl = refl
kept_same (Wide a b) v fl = refl
kept_same (Optional w bit) v fl = refl
kept_same (Least w n) v fl = refl
kept_same (Version lo hi) v fl = refl
kept_same Flags v fl = refl
kept_same Nothing v fl = refl

-- what was laid, taken apart
after-made : (a : List ℕ) (m : Made) (bs : List ℕ) → after a m ≡ made bs → (cs : List ℕ) × (m ≡ made cs) × (bs ≡ a ++ cs)
after-made a (made cs) bs e = (cs, refl, let q : bs ≡ a ++ cs = cc in q)
after-made a bad bs e = let z : ◌≡◌ {A = ℕ} 0 1 = cc in absurd (omega arith)

pub lay-made : (r : Rule) (x : ℕ) (m : Made) (bs : List ℕ) → lay r x m ≡ made bs →
    (r.low ≤ x) × (x ≤ r.high) × ((cs : List ℕ) × (m ≡ made cs) × (bs ≡ bytes r.width x ++ cs))
unfolding lay when
lay-made r x m bs e = by (ltb x r.low) (ltb r.high x) refl refl e
  where
    by : (p q : Bool) → ltb x r.low ≡ p → ltb r.high x ≡ q → when p bad (when q bad (after (bytes r.width x) m)) ≡ made bs →
        (r.low ≤ x) × (x ≤ r.high) × ((cs : List ℕ) × (m ≡ made cs) × (bs ≡ bytes r.width x ++ cs))
    by true q ep eq e = let z : ◌≡◌ {A = ℕ} 0 1 = cc in absurd (omega arith)
    by false true ep eq e = let z : ◌≡◌ {A = ℕ} 0 1 = cc in absurd (omega arith)
    by false false ep eq e = (ltb-false x r.low ep, ltb-false r.high x eq, after-made (bytes r.width x) m bs e)

-- a field that is whole and allowed
pub passes : (r : Rule) (b : List ℕ) (at : ℕ) (go : ℕ → Got) (y : ℕ) → at + r.width ≤ length b → be r.width b at ≡ y → r.low ≤ y → y ≤ r.high →
    one r b at go ≡ keep r.kept y (go y)
unfolding one when
passes r b at go y h e l u = simp (le-ltb (length b) (at + r.width) h, e, le-ltb y r.low l, le-ltb r.high y u)

-- one field, read where it was written; what follows is read by `after-it`
module _ (r : Rule) (fs : List Field) (xs : List ℕ) (k v fl x n n' : ℕ) (pre rest cs bs : List ℕ)
    (slots-are : n' ≡ when r.kept (suc n) n) (is : x ≡ when r.kept (get_or xs k 0) r.fixed) (low : r.low ≤ x) (high : x ≤ r.high) (eb : bs ≡ bytes r.width x ++ cs)
    (after-it : decode fs ((pre ++ bytes r.width x) ++ (cs ++ rest)) (length (pre ++ bytes r.width x)) (when r.version x v) (when r.flags x fl)
    ≡ got (firsts n (when r.kept (k + 1) k) xs) (length (pre ++ bytes r.width x) + length cs)) where
  b : List ℕ
  b = pre ++ (bs ++ rest)

  go : ℕ → Got
  go y = decode fs b (length pre + r.width) (when r.version y v) (when r.flags y fl)

  shape : b ≡ pre ++ (bytes r.width x ++ (cs ++ rest))
  unfolding b
  shape = ap (λ l. pre ++ (l ++ rest)) eb ∙ ap (λ l. pre ++ l) (append_assoc (bytes r.width x) cs rest)

  whole : length pre + r.width ≤ length b
  whole = omega (arith, ap length shape ∙ length-append pre (bytes r.width x ++ (cs ++ rest)), length-append (bytes r.width x) (cs ++ rest), length-bytes r.width x)

  reads : be r.width b (length pre) ≡ x % 256 ^ r.width
  reads = ap (λ b. be r.width b (length pre)) shape ∙ be-bytes r.width x pre (cs ++ rest)

  on : go x ≡ got (firsts n (when r.kept (k + 1) k) xs) (length pre + length bs)
  unfolding go
  on =
      let l : length (pre ++ bytes r.width x) ≡ length pre + r.width = length-append pre (bytes r.width x) ∙ ap (λ n. length pre + n) (length-bytes r.width x) in
      let m : length bs ≡ r.width + length cs = ap length eb ∙ length-append (bytes r.width x) cs ∙ ap (λ n. n + length cs) (length-bytes r.width x) in
      let s : b ≡ (pre ++ bytes r.width x) ++ (cs ++ rest) = shape ∙ sym (append_assoc pre (bytes r.width x) (cs ++ rest)) in
      ap₂ (λ (b : List ℕ) (at : ℕ). decode fs b at (when r.version x v) (when r.flags x fl)) s (sym l)
      ∙ after-it ∙ ap (λ e. got (firsts n (when r.kept (k + 1) k) xs) e) (omega arith)

  back_step : Good r → one r b (length pre) go ≡ got (firsts n' k xs) (length pre + length bs)
  unfolding when firsts go
  back_step (inl g) =
      let y : x % 256 ^ r.width ≡ x = mod-eq_of_lt (omega (arith, g.1)) in
      let ek : r.kept ≡ true = g.0 in
      passes r b (length pre) go x whole (reads ∙ y) low high
      ∙ ap (keep r.kept x) on
      ∙ ap (λ t. keep t x (got (firsts n (when t (k + 1) k) xs) (length pre + length bs))) ek
      ∙ ap₂ (λ (y k' : ℕ). got (y ∷ firsts n k' xs) (length pre + length bs)) (is ∙ ap (λ t. when t (get_or xs k 0) r.fixed) ek) (add-one k)
      ∙ sym (ap (λ m. got (firsts m k xs) (length pre + length bs)) (slots-are ∙ ap (λ t. when t (suc n) n) ek))
  back_step (inr g) =
      let y = x % 256 ^ r.width in
      let u : y < 256 ^ r.width = mod-lt x (pow_pos r.width) in
      let ek : r.kept ≡ false = g.0 in
      let same : go y ≡ go x =
      ap₂ (λ (p q : Bool). decode fs b (length pre + r.width) (when p y v) (when q y fl)) g.3 g.4
      ∙ sym (ap₂ (λ (p q : Bool). decode fs b (length pre + r.width) (when p x v) (when q x fl)) g.3 g.4) in
      passes r b (length pre) go y whole reads (omega (arith, g.1)) (omega (arith, g.2))
      ∙ ap (keep r.kept y) (same ∙ on)
      ∙ ap (λ t. keep t y (got (firsts n (when t (k + 1) k) xs) (length pre + length bs))) ek
      ∙ sym (ap (λ m. got (firsts m k xs) (length pre + length bs)) (slots-are ∙ ap (λ t. when t (suc n) n) ek))

-- WHAT IS WRITTEN READS BACK THE SAME
pub back : (fs : List Field) (xs : List ℕ) (k v fl : ℕ) (bs : List ℕ) → encode fs xs k v fl ≡ made bs → (pre rest : List ℕ) →
    decode fs (pre ++ (bs ++ rest)) (length pre) v fl ≡ got (firsts (slots fs) k xs) (length pre + length bs)
unfolding encode decode slots firsts b go
back [] xs k v fl bs e pre rest =
    let q : [] ≡ bs = cc in
    ap (λ n. got [] n) (sym (add-zero (length pre)) ∙ ap (λ l. length pre + length l) q)
back (f ∷ fs) xs k v fl bs e pre rest =
    let r = rule_of f v fl in
    let x = when r.kept (get_or xs k 0) r.fixed in
    let i = lay-made r x (encode fs xs (when r.kept (k + 1) k) (when r.version x v) (when r.flags x fl)) bs e in
    let cs = i.2.0 in
    let ih = back fs xs (when r.kept (k + 1) k) (when r.version x v) (when r.flags x fl) cs i.2.1 (pre ++ bytes r.width x) rest in
    back_step r fs xs k v fl x (slots fs) (when (rule_of f 0 0).kept (suc (slots fs)) (slots fs)) pre rest cs bs
    (ap (λ t. when t (suc (slots fs)) (slots fs)) (kept_same f v fl)) refl i.0 i.1 i.2.2 ih (good f v fl)

-- a field that was read, taken apart
pub keep-got : (t : Bool) (x : ℕ) (g : Got) (vs : List ℕ) (e : ℕ) → keep t x g ≡ got vs e → (ws : List ℕ) × (g ≡ got ws e) × (vs ≡ when t (x ∷ ws) ws)
unfolding when
keep-got true x (got ws e') vs e h = (ws, let q : got ws e' ≡ got ws e = cc in q, let q : vs ≡ x ∷ ws = cc in q)
keep-got true x (fault q) vs e h = let z : ◌≡◌ {A = ℕ} 0 1 = cc in absurd (omega arith)
keep-got false x g vs e h = (vs, h, refl)

pub one-got : (r : Rule) (b : List ℕ) (at : ℕ) (go : ℕ → Got) (vs : List ℕ) (e : ℕ) → one r b at go ≡ got vs e →
    (at + r.width ≤ length b) × (r.low ≤ be r.width b at) × (be r.width b at ≤ r.high) × (keep r.kept (be r.width b at) (go (be r.width b at)) ≡ got vs e)
unfolding one when
one-got r b at go vs e h = by (ltb (length b) (at + r.width)) (ltb x r.low) (ltb r.high x) refl refl refl h
  where
    x : ℕ
    x = be r.width b at

    by : (p q s : Bool) → ltb (length b) (at + r.width) ≡ p → ltb x r.low ≡ q → ltb r.high x ≡ s →
        when p (fault (refusal.Cut at)) (when q (fault (refusal_of r at)) (when s (fault (refusal_of r at)) (keep r.kept x (go x)))) ≡ got vs e →
        (at + r.width ≤ length b) × (r.low ≤ x) × (x ≤ r.high) × (keep r.kept x (go x) ≡ got vs e)
    by true q s ep eq es h = let z : ◌≡◌ {A = ℕ} 0 1 = cc in absurd (omega arith)
    by false true s ep eq es h = let z : ◌≡◌ {A = ℕ} 0 1 = cc in absurd (omega arith)
    by false false true ep eq es h = let z : ◌≡◌ {A = ℕ} 0 1 = cc in absurd (omega arith)
    by false false false ep eq es h = (ltb-false (length b) (at + r.width) ep, ltb-false x r.low eq, ltb-false r.high x es, h)

lays : (r : Rule) (x : ℕ) (cs : List ℕ) → r.low ≤ x → x ≤ r.high → lay r x (made cs) ≡ made (bytes r.width x ++ cs)
unfolding lay when
lays r x cs l u = simp (le-ltb x r.low l, le-ltb r.high x u)

-- the value that is written is the one that was read, and what is left to write is what was left to read
split : (t : Bool) (n k x c : ℕ) (ys vs ws : List ℕ) (s : Bool) → firsts (when t (suc n) n) k ys ≡ vs → vs ≡ when t (x ∷ ws) ws → when t s (when (eqb x c) s false) ≡ true →
    (when t (get_or ys k 0) c ≡ x) × (firsts n (when t (k + 1) k) ys ≡ ws) × (s ≡ true)
unfolding when firsts
split true n k x c ys vs ws s a b st =
    let q : get_or ys k 0 ∷ firsts n (suc k) ys ≡ x ∷ ws = a ∙ b in
    (let z : get_or ys k 0 ≡ x = cc in z, ap (λ j. firsts n j ys) (add-one k) ∙ (let z : firsts n (suc k) ys ≡ ws = cc in z), st)
split false n k x c ys vs ws s a b st = by (eqb x c) refl st
  where
    by : (p : Bool) → eqb x c ≡ p → when p s false ≡ true → (c ≡ x) × (firsts n k ys ≡ ws) × (s ≡ true)
    by true e st = (sym (eqb-true x c e), a ∙ b, st)
    by false e st = let z : ◌≡◌ {A = ℕ} 0 1 = cc in absurd (omega arith)

-- what `forth` says of a row of fields
abbrev pub Same : List Field → List ℕ → ℕ → ℕ → ℕ → ℕ → List ℕ → ℕ → Type 0
Same fs b at v fl e ys k = (bs : List ℕ) × (encode fs ys k v fl ≡ made bs) × (take at b ++ bs ≡ take e b) × (e ≤ length b) × (at + length bs ≡ e)

-- WHAT IS READ IS WRITTEN THE SAME
pub forth : (fs : List Field) (b : List ℕ) (at v fl : ℕ) (vs : List ℕ) (e : ℕ) → Bytes b → at ≤ length b → decode fs b at v fl ≡ got vs e → standard fs b at v fl ≡ true →
    (ys : List ℕ) (k : ℕ) → firsts (slots fs) k ys ≡ vs → Same fs b at v fl e ys k
unfolding decode encode standard slots firsts
forth [] b at v fl vs e hb ha d s ys k f =
    let q : at ≡ e = cc in
    ([], refl, append-nil (take at b) ∙ ap (λ n. take n b) q, omega arith, add-zero at ∙ q)
forth (f ∷ fs) b at v fl vs e hb ha d s ys k fi =
    let r = rule_of f v fl in
    let x = be r.width b at in
    let i = one-got r b at (λ x. decode fs b (at + r.width) (when r.version x v) (when r.flags x fl)) vs e d in
    let j = keep-got r.kept x (decode fs b (at + r.width) (when r.version x v) (when r.flags x fl)) vs e i.3 in
    let t : firsts (when r.kept (suc (slots fs)) (slots fs)) k ys ≡ vs = ap (λ t. firsts (when t (suc (slots fs)) (slots fs)) k ys) (sym (kept_same f v fl)) ∙ fi in
    let p = split r.kept (slots fs) k x r.fixed ys vs j.0 (standard fs b (at + r.width) (when r.version x v) (when r.flags x fl)) t j.2 s in
    let ih = forth fs b (at + r.width) (when r.version x v) (when r.flags x fl) j.0 e hb i.0 j.1 p.2 ys (when r.kept (k + 1) k) p.1 in
    let cs = ih.0 in
    let en : lay r (when r.kept (get_or ys k 0) r.fixed) (encode fs ys (when r.kept (k + 1) k) (when r.version (when r.kept (get_or ys k 0) r.fixed) v)
    (when r.flags (when r.kept (get_or ys k 0) r.fixed) fl)) ≡ made (bytes r.width x ++ cs) =
    ap (λ x. lay r x (encode fs ys (when r.kept (k + 1) k) (when r.version x v) (when r.flags x fl))) p.0
    ∙ ap (lay r x) ih.1 ∙ lays r x cs i.1 i.2 in
    let tk : take at b ++ (bytes r.width x ++ cs) ≡ take e b =
    sym (append_assoc (take at b) (bytes r.width x) cs) ∙ ap (λ l. l ++ cs) (grown r.width b at hb i.0) ∙ ih.2 in
    (bytes r.width x ++ cs, en, tk, ih.3, omega (arith, length-append (bytes r.width x) cs, length-bytes r.width x, ih.4))
