-- Numbers put one behind the other, and a table's box. Assumes nothing.
use Rattle.std.specs.Prelude.{Result, Ok}
use Prim.Native.Nat.{ℕ, ◌+◌, ◌-◌, ◌*◌, ◌/◌, ◌^◌, ◌≤◌, ◌<◌}
use mathlib.Core.Path.{◌≡◌, refl, sym, ap, ap₂, subst, ◌∙◌}
use mathlib.Core.List.{List, [], ◌∷◌, ◌++◌, append_assoc, append-nil}
use mathlib.Core.Bool.{Bool, true, false}
use native.Mathlib.Nat.{zero-add}
use native.Mathlib.Omega.{arith}
use lib.ListN.{length, take, drop, length-append, length-drop, drop_of_length-le}
use lib.Seq.{sets, sets-eq, length-sets, take_all, drop-drop}
use lib.Dec.{eqb}
use Rattle.numbers.specs.Number.{bytes}
use Rattle.numbers.specs.Field.{when}
use Rattle.numbers.proofs.Laws.{length-bytes}
use Rattle.numbers.proofs.Chain.{by-true, by-false, is_le}
use Rattle.put.specs.Put.{wrote, put_of}
use Rattle.put.proofs.Stores.{sets-append}
use Rattle.put.proofs.Placed.{done}
use Rattle.tables.proofs.Lists.{length-list}
use Rattle.columns.specs.declared.Rule.TheVariants.{Zero}
use Rattle.columns.specs.Columns.{column_of, low_at, lows_of, all_meet}
use Rattle.columns.specs.Entries.{words_of, placed_of}
use Rattle.builder.specs.Built as builder
use Rattle.builder.proofs.Fills.{runs-few, syncs-few}
use Rattle.chunking.proofs.Fills.{groups-few, offsets-few}
use Rattle.sampletable.specs.declared.Table.{Table}
use Rattle.sampletable.specs.declared.Table.TheVariants.{Stts, Ctts, Stsc, Stsz, Offsets, Stss}
use Rattle.sampletable.specs.SampleTable.{wide_in, list_of, kind_of, is_there, first_of, second_of, head_of, table_of, tables_of, box_of}
use Rattle.sampletable.specs.Inside.{entries_in, behind_of, before_of, Ready, Puts, HasRoom}
use Rattle.sampletable.proofs.Cases.{ready-placed}
use Rattle.numbers.specs.declared.Refusal.{Refusal}

-- NUMBERS

pub length-words : (ns : List ℕ) → length (words_of ns) ≡ length ns * 4
length-words [] = omega arith
length-words (x ∷ ns) = omega (arith, length-append (bytes 4 x) (words_of ns), length-bytes 4 x, length-words ns)

words_append : (a b : List ℕ) → words_of (a ++ b) ≡ words_of a ++ words_of b
words_append [] b = refl
words_append (x ∷ a) b = ap (λ (l : List ℕ). bytes 4 x ++ l) (words_append a b) ∙ sym (append_assoc (bytes 4 x) (words_of a) (words_of b))

pub one-put : (x at : ℕ) (o q : List ℕ) (r : Result ℕ Refusal) → wrote r q ≡ put_of 4 x at o → at + 4 ≤ length o → x < 2 ^ 32 → q ≡ sets o at (bytes 4 x)
one-put x at o q r e h b =
    let d : wrote (Ok (at + 4)) (sets o at (bytes 4 x)) ≡ put_of 4 x at o = done 4 x at o (omega arith) b h in
    cc

pub puts-both : (a b o p q : List ℕ) (at r s : ℕ) → Puts a o at p r → Puts b p r q s → Puts (a ++ b) o at q s
puts-both a b o p q at r s x y =
    let n : r ≡ at + length (words_of a) = x.next ∙ ap (λ (k : ℕ). at + k) (sym (length-words a)) in
    record {
      next = omega (arith, x.next, y.next, length-append a b);
      put = y.put ∙ ap₂ (λ (l : List ℕ) (k : ℕ). sets l k (words_of b)) x.put n ∙ sets-append o at (words_of a) (words_of b) ∙ ap (sets o at) (sym (words_append a b));
    }

pub puts_none : (o : List ℕ) (at : ℕ) → Puts [] o at o at
puts_none o at = record { next = omega arith; put = refl }

pub puts-same : (ns o p : List ℕ) (at r : ℕ) → Puts ns o at p r → length p ≡ length o
puts-same ns o p at r x = ap length x.put ∙ length-sets o at (words_of ns)

-- room for all is room for the first, and then for the rest
pub first-room : (a b o : List ℕ) (at : ℕ) → HasRoom (a ++ b) o at → HasRoom a o at
first-room a b o at h = record { within = omega (arith, h.within, length-append a b); small = omega (arith, h.small, length-append a b) }

pub rest-room : (a b o p : List ℕ) (at r : ℕ) → HasRoom (a ++ b) o at → Puts a o at p r → HasRoom b p r
rest-room a b o p at r h x = record { within = omega (arith, h.within, length-append a b, x.next, puts-same a o p at r x); small = omega (arith, h.small, length-append a b, x.next) }

-- FOUR NUMBERS

pub four-put : (o p₁ p₂ p₃ p₄ : List ℕ) (at a b c d : ℕ) (r₁ r₂ r₃ r₄ : Result ℕ Refusal) → at + 16 ≤ length o → a < 2 ^ 32 → b < 2 ^ 32 → c < 2 ^ 32 → d < 2 ^ 32
    → wrote r₁ p₁ ≡ put_of 4 a at o → wrote r₂ p₂ ≡ put_of 4 b (at + 4) p₁ → wrote r₃ p₃ ≡ put_of 4 c (at + 8) p₂ → wrote r₄ p₄ ≡ put_of 4 d (at + 12) p₃
    → p₄ ≡ sets o at (words_of (a ∷ b ∷ c ∷ d ∷ []))
four-put o p₁ p₂ p₃ p₄ at a b c d r₁ r₂ r₃ r₄ h ha hb hc hd e₁ e₂ e₃ e₄ =
    let x₁ : Puts (a ∷ []) o at p₁ (at + 4) = one o p₁ at (at + 4) a r₁ (omega arith) ha refl e₁ in
    let x₂ : Puts (b ∷ []) p₁ (at + 4) p₂ (at + 8) = one p₁ p₂ (at + 4) (at + 8) b r₂ (omega (arith, puts-same (a ∷ []) o p₁ at (at + 4) x₁)) hb (omega arith) e₂ in
    let y₂ : Puts (a ∷ b ∷ []) o at p₂ (at + 8) = puts-both (a ∷ []) (b ∷ []) o p₁ p₂ at (at + 4) (at + 8) x₁ x₂ in
    let x₃ : Puts (c ∷ []) p₂ (at + 8) p₃ (at + 12) = one p₂ p₃ (at + 8) (at + 12) c r₃ (omega (arith, puts-same (a ∷ b ∷ []) o p₂ at (at + 8) y₂)) hc (omega arith) e₃ in
    let y₃ : Puts (a ∷ b ∷ c ∷ []) o at p₃ (at + 12) = puts-both (a ∷ b ∷ []) (c ∷ []) o p₂ p₃ at (at + 8) (at + 12) y₂ x₃ in
    let x₄ : Puts (d ∷ []) p₃ (at + 12) p₄ (at + 16) = one p₃ p₄ (at + 12) (at + 16) d r₄ (omega (arith, puts-same (a ∷ b ∷ c ∷ []) o p₃ at (at + 12) y₃)) hd (omega arith) e₄ in
    (puts-both (a ∷ b ∷ c ∷ []) (d ∷ []) o p₃ p₄ at (at + 12) (at + 16) y₃ x₄).put
  where
    one : (o q : List ℕ) (at s x : ℕ) (r : Result ℕ Refusal) → at + 4 ≤ length o → x < 2 ^ 32 → s ≡ at + 4 → wrote r q ≡ put_of 4 x at o → Puts (x ∷ []) o at q s
    one o q at s x r h b n e = record { next = omega arith; put = one-put x at o q r e h b ∙ ap (sets o at) (sym (append-nil (bytes 4 x))) }

-- BETWEEN THE FIRST NUMBER AND THE ENTRIES

pub the-behind : (t s : Table) → t ≡ s → (k : ℕ) → k ≡ behind_of s → k ≡ behind_of t
the-behind t s e k q = q ∙ sym (ap behind_of e)

pub behinds-are : (0 ≡ behind_of Stts) × (0 ≡ behind_of Ctts) × (0 ≡ behind_of Stsc) × (4 ≡ behind_of Stsz) × (0 ≡ behind_of Offsets) × (0 ≡ behind_of Stss)
unfolding behind_of
behinds-are = (refl, refl, refl, refl, refl, refl)

pub behind-length : (t : Table) (n : ℕ) → length (second_of t n) * 4 ≡ behind_of t
unfolding second_of behind_of
behind-length Stts n = omega arith
behind-length Ctts n = omega arith
behind-length Stsc n = omega arith
behind-length Stsz n = omega arith
behind-length Offsets n = omega arith
behind-length Stss n = omega arith

pub second_none : (t : Table) (n : ℕ) (o : List ℕ) (at : ℕ) → behind_of t ≡ 0 → Puts (second_of t n) o at o at
unfolding second_of behind_of
second_none Stts n o at e = puts_none o at
second_none Ctts n o at e = puts_none o at
second_none Stsc n o at e = puts_none o at
second_none Stsz n o at e = absurd (omega arith)
second_none Offsets n o at e = puts_none o at
second_none Stss n o at e = puts_none o at

pub second-some : (t : Table) (n : ℕ) (o q : List ℕ) (at : ℕ) (r : Result ℕ Refusal) → (behind_of t ≡ 0 → ⊥) → HasRoom (second_of t n) o at → n < 2 ^ 32 → wrote r q ≡ put_of 4 n at o → Puts (second_of t n) o at q (at + 4)
unfolding second_of behind_of
second-some Stts n o q at r z h b e = absurd (z refl)
second-some Ctts n o q at r z h b e = absurd (z refl)
second-some Stsc n o q at r z h b e = absurd (z refl)
second-some Stsz n o q at r z h b e = record { next = omega arith; put = one-put n at o q r e (omega (arith, h.within)) b ∙ ap (sets o at) (sym (append-nil (bytes 4 n))) }
second-some Offsets n o q at r z h b e = absurd (z refl)
second-some Stss n o q at r z h b e = absurd (z refl)

-- A TABLE'S BOX

module _ (t : Table) (scale : ℕ) (rs : List ℕ) (n : ℕ) where
  pub few-numbers : length (list_of t scale rs n) ≤ 3 * (2 + n)
  unfolding when list_of
  few-numbers = cases t
    where
      when-few : (b : Bool) (x y : List ℕ) → length x ≤ 3 * (2 + n) → length y ≤ 3 * (2 + n) → length (when b x y) ≤ 3 * (2 + n)
      when-few true x y h k = h
      when-few false x y h k = k

      cases : (t : Table) → length (list_of t scale rs n) ≤ 3 * (2 + n)
      cases Stts = omega (arith, runs-few rs n 4)
      cases Ctts = when-few (all_meet Zero (column_of rs n 5)) [] (builder.runs_of rs n 5) (omega arith) (omega (arith, runs-few rs n 5))
      cases Stsc = groups-few scale rs n
      cases Stsz = when-few (eqb (builder.common_in rs n) 0) (lows_of rs n 2) [] (omega (arith, length-list (low_at rs 2) n 0)) (omega arith)
      cases Offsets = omega (arith, offsets-few scale rs n (wide_in scale rs n))
      cases Stss = omega (arith, syncs-few rs n)

  pub size_none : is_there t rs n ≡ false → 0 ≡ length (table_of t scale rs n) * 4
  size_none e = ap (λ (l : List ℕ). length l * 4) (by-false (box_of (kind_of t (wide_in scale rs n)) (head_of t scale rs n ++ list_of t scale rs n)) [] [] (is_there t rs n) e refl)

  the-box : is_there t rs n ≡ true → box_of (kind_of t (wide_in scale rs n)) (head_of t scale rs n ++ list_of t scale rs n) ≡ table_of t scale rs n
  the-box e = by-true (box_of (kind_of t (wide_in scale rs n)) (head_of t scale rs n ++ list_of t scale rs n)) [] _ (is_there t rs n) e refl

  pub size-some : is_there t rs n ≡ true → (more bytes : ℕ) → more ≡ behind_of t → bytes ≡ length (list_of t scale rs n) * 4 → 16 + more + bytes ≡ length (table_of t scale rs n) * 4
  size-some e more bytes m b =
      let l : length (box_of (kind_of t (wide_in scale rs n)) (head_of t scale rs n ++ list_of t scale rs n)) ≡ length (table_of t scale rs n) = ap length (the-box e) in
      omega (arith, l, m, b, behind-length t n, length-append (second_of t n) (list_of t scale rs n))

  pub few-sizes : length (table_of t scale rs n) ≤ 3 * (2 + n) + 5
  unfolding second_of
  few-sizes = cases (is_there t rs n) refl
    where
      few-second : (t : Table) → length (second_of t n) ≤ 1
      few-second Stts = omega arith
      few-second Ctts = omega arith
      few-second Stsc = omega arith
      few-second Stsz = omega arith
      few-second Offsets = omega arith
      few-second Stss = omega arith

      cases : (b : Bool) → is_there t rs n ≡ b → length (table_of t scale rs n) ≤ 3 * (2 + n) + 5
      cases true e = omega (arith, ap length (the-box e), length-append (second_of t n) (list_of t scale rs n), few-numbers, few-second t)
      cases false e = omega (arith, size_none e)

  -- before the entries
  pub before-put : (o p q : List ℕ) (at total kind number r more bytes : ℕ) → p ≡ sets o at (words_of (total ∷ kind ∷ 0 ∷ number ∷ [])) → total ≡ 16 + more + bytes → more ≡ behind_of t
      → bytes ≡ length (list_of t scale rs n) * 4 → kind ≡ kind_of t (wide_in scale rs n) → (many : ℕ) → many ≡ bytes / 4 → number ≡ first_of t (wide_in scale rs n) rs n many → Puts (second_of t n) p (at + 16) q r
      → Puts (before_of t scale rs n) o at q r
  before-put o p q at total kind number r more bytes e ht hm hb hk many hn hf x =
      let size : total ≡ 12 + length (head_of t scale rs n ++ list_of t scale rs n) * 4 = omega (arith, ht, hm, hb, behind-length t n, length-append (second_of t n) (list_of t scale rs n)) in
      let len : many ≡ length (list_of t scale rs n) = omega (arith, hn, hb) in
      let four = (12 + length (head_of t scale rs n ++ list_of t scale rs n) * 4) ∷ kind_of t (wide_in scale rs n) ∷ 0 ∷ first_of t (wide_in scale rs n) rs n (length (list_of t scale rs n)) ∷ [] in
      let words : words_of (total ∷ kind ∷ 0 ∷ number ∷ []) ≡ words_of ((12 + length (head_of t scale rs n ++ list_of t scale rs n) * 4) ∷ kind_of t (wide_in scale rs n) ∷ 0 ∷ first_of t (wide_in scale rs n) rs n (length (list_of t scale rs n)) ∷ []) =
      ap₂ (λ (a b : ℕ). words_of (a ∷ b ∷ 0 ∷ number ∷ [])) size hk
      ∙ ap (λ (d : ℕ). words_of ((12 + length (head_of t scale rs n ++ list_of t scale rs n) * 4) ∷ kind_of t (wide_in scale rs n) ∷ 0 ∷ d ∷ [])) (hf ∙ ap (first_of t (wide_in scale rs n) rs n) len) in
      puts-both four (second_of t n) o p q at (at + 16) r (record { next = omega arith; put = e ∙ ap (sets o at) words }) x

  pub table_none : (o : List ℕ) (at : ℕ) → is_there t rs n ≡ false → Puts (table_of t scale rs n) o at o at
  table_none o at e =
      subst (λ (l : List ℕ). Puts l o at o at) (by-false (box_of (kind_of t (wide_in scale rs n)) (head_of t scale rs n ++ list_of t scale rs n)) [] [] (is_there t rs n) e refl) (puts_none o at)

-- A PART OF THE BUFFER

-- numbers placed at the start of a part are put from there on
pub part-put : (ns o part ys : List ℕ) (a k : ℕ) (r : Result ℕ Refusal) → part ≡ take k (drop a o) → k ≡ length o - a → a + length ns * 4 ≤ length o → wrote r ys ≡ placed_of ns part → take a o ++ (ys ++ drop k (drop a o)) ≡ sets o a (words_of ns)
unfolding placed_of
part-put ns o part ys a k r pe ke h e =
    let w = length-words ns in
    let whole : take k (drop a o) ≡ drop a o = take_all k (drop a o) (omega (arith, length-drop a o)) in
    let is : part ≡ drop a o = pe ∙ whole in
    let lp : length part ≡ length o - a = ap length is ∙ length-drop a o in
    let d : wrote (Ok (length ns * 4)) (sets part 0 (words_of ns)) ≡ wrote r ys = is_le _ _ _ (length ns * 4) (length part) (omega arith) refl ∙ sym e in
    let ye : ys ≡ sets part 0 (words_of ns) = cc in
    let se : sets part 0 (words_of ns) ≡ words_of ns ++ drop (0 + length (words_of ns)) part = sets-eq (words_of ns) part 0 (omega arith) in
    let past : length (drop a o) ≤ k = omega (arith, length-drop a o) in
    let none : drop k (drop a o) ≡ [] = drop_of_length-le (drop a o) past in
    let back : sets o a (words_of ns) ≡ take a o ++ words_of ns ++ drop (a + length (words_of ns)) o = sets-eq (words_of ns) o a (omega arith) in
    ap₂ (λ (x y : List ℕ). take a o ++ (x ++ y)) (ye ∙ se) none
    ∙ ap (λ (x : List ℕ). take a o ++ x) (append-nil (words_of ns ++ drop (0 + length (words_of ns)) part))
    ∙ ap (λ (m : ℕ). take a o ++ (words_of ns ++ drop m part)) (zero-add (length (words_of ns)))
    ∙ ap (λ (x : List ℕ). take a o ++ (words_of ns ++ x)) (ap (drop (length (words_of ns))) is ∙ drop-drop (length (words_of ns)) a o)
    ∙ sym (append_assoc (take a o) (words_of ns) (drop (a + length (words_of ns)) o)) ∙ sym back

module _ (t : Table) (scale : ℕ) (rs : List ℕ) (n : ℕ) (g : Ready scale rs n) where
  pub table-some : (o p part ys q : List ℕ) (at begin bytes k : ℕ) (r : Result ℕ Refusal) → is_there t rs n ≡ true → HasRoom (table_of t scale rs n) o at → Puts (before_of t scale rs n) o at p begin → bytes ≡ length (list_of t scale rs n) * 4
      → part ≡ take k (drop begin p) → k ≡ length p - begin → wrote r ys ≡ entries_in t scale rs n part → q ≡ take begin p ++ (ys ++ drop k (drop begin p))
      → Puts (table_of t scale rs n) o at q (begin + bytes)
  table-some o p part ys q at begin bytes k r e h x b pe ke w f =
      let box = the-box t scale rs n e in
      let ls = list_of t scale rs n in
      let lb : length (table_of t scale rs n) ≡ length (before_of t scale rs n) + length (list_of t scale rs n) = sym (ap length box) ∙ length-append (before_of t scale rs n) (list_of t scale rs n) in
      let room : begin + length (list_of t scale rs n) * 4 ≤ length p = omega (arith, h.within, x.next, lb, puts-same (before_of t scale rs n) o p at begin x) in
      let y : Puts (list_of t scale rs n) p begin q (begin + bytes) = record { next = ap (λ (m : ℕ). begin + m) b; put = f ∙ part-put ls p part ys begin k r pe ke room (w ∙ ready-placed scale rs n g part t) } in
      subst (λ (l : List ℕ). Puts l o at q (begin + bytes)) box (puts-both (before_of t scale rs n) ls o p q at begin (begin + bytes) x y)

  pub before-room : (o : List ℕ) (at bytes : ℕ) → is_there t rs n ≡ true → HasRoom (table_of t scale rs n) o at → bytes ≡ length (list_of t scale rs n) * 4 →
      (n < 2 ^ 32) × (bytes ≡ length (list_of t scale rs n) * 4) × (at + (20 + bytes) < 2 ^ 33) × (16 + behind_of t + bytes < 2 ^ 32) × (at + (16 + behind_of t) ≤ length o) × (at + (16 + behind_of t) < 2 ^ 32)
  before-room o at bytes e h b =
      let s : 16 + behind_of t + bytes ≡ length (table_of t scale rs n) * 4 = size-some t scale rs n e (behind_of t) bytes refl b in
      (g.counted, b, omega (arith, h.small), omega (arith, h.small), omega (arith, h.within), omega (arith, h.small))

  pub entries-room : (o p : List ℕ) (at begin bytes : ℕ) → is_there t rs n ≡ true → HasRoom (table_of t scale rs n) o at → bytes ≡ length (list_of t scale rs n) * 4 → Puts (before_of t scale rs n) o at p begin →
      (begin + bytes ≤ length p) × (begin + bytes < 2 ^ 32)
  entries-room o p at begin bytes e h b x =
      let lb : length (table_of t scale rs n) ≡ length (before_of t scale rs n) + length (list_of t scale rs n) = sym (ap length (the-box t scale rs n e)) ∙ length-append (before_of t scale rs n) (list_of t scale rs n) in
      (omega (arith, h.within, x.next, lb, puts-same (before_of t scale rs n) o p at begin x), omega (arith, h.small, x.next, lb))

pub behind-few : (t : Table) → behind_of t ≤ 4
unfolding behind_of
behind-few Stts = omega arith
behind-few Ctts = omega arith
behind-few Stsc = omega arith
behind-few Stsz = omega arith
behind-few Offsets = omega arith
behind-few Stss = omega arith

pub second-room : (t : Table) (n at a b c d : ℕ) (o p : List ℕ) → p ≡ sets o at (words_of (a ∷ b ∷ c ∷ d ∷ [])) → at + (16 + behind_of t) ≤ length o → at + (16 + behind_of t) < 2 ^ 32 → HasRoom (second_of t n) p (at + 16)
second-room t n at a b c d o p e h k =
    let l : length p ≡ length o = ap length e ∙ length-sets o at (words_of (a ∷ b ∷ c ∷ d ∷ [])) in
    record { within = omega (arith, behind-length t n); small = omega (arith, behind-length t n) }

-- ALL TABLES

module _ (scale : ℕ) (rs : List ℕ) (n : ℕ) where
  abbrev pub from6 : List ℕ
  from6 = table_of Stss scale rs n

  abbrev pub from5 : List ℕ
  from5 = table_of Offsets scale rs n ++ from6

  abbrev pub from4 : List ℕ
  from4 = table_of Stsz scale rs n ++ from5

  abbrev pub from3 : List ℕ
  from3 = table_of Stsc scale rs n ++ from4

  abbrev pub from2 : List ℕ
  from2 = table_of Ctts scale rs n ++ from3

  pub tables-put : (o p₁ p₂ p₃ p₄ p₅ p₆ : List ℕ) (at r₁ r₂ r₃ r₄ r₅ r₆ : ℕ) → Puts (table_of Stts scale rs n) o at p₁ r₁ → Puts (table_of Ctts scale rs n) p₁ r₁ p₂ r₂ → Puts (table_of Stsc scale rs n) p₂ r₂ p₃ r₃
      → Puts (table_of Stsz scale rs n) p₃ r₃ p₄ r₄ → Puts (table_of Offsets scale rs n) p₄ r₄ p₅ r₅ → Puts (table_of Stss scale rs n) p₅ r₅ p₆ r₆ → p₆ ≡ sets o at (words_of (tables_of scale rs n))
  tables-put o p₁ p₂ p₃ p₄ p₅ p₆ at r₁ r₂ r₃ r₄ r₅ r₆ x₁ x₂ x₃ x₄ x₅ x₆ =
      (puts-both (table_of Stts scale rs n) from2 o p₁ p₆ at r₁ r₆ x₁
      (puts-both (table_of Ctts scale rs n) from3 p₁ p₂ p₆ r₁ r₂ r₆ x₂
      (puts-both (table_of Stsc scale rs n) from4 p₂ p₃ p₆ r₂ r₃ r₆ x₃
      (puts-both (table_of Stsz scale rs n) from5 p₃ p₄ p₆ r₃ r₄ r₆ x₄ (puts-both (table_of Offsets scale rs n) from6 p₄ p₅ p₆ r₄ r₅ r₆ x₅ x₆))))).put

  pub tables-length : (a b c d e f : ℕ) → a ≡ length (table_of Stts scale rs n) * 4 → b ≡ length (table_of Ctts scale rs n) * 4 → c ≡ length (table_of Stsc scale rs n) * 4 → d ≡ length (table_of Stsz scale rs n) * 4
      → e ≡ length (table_of Offsets scale rs n) * 4 → f ≡ length (table_of Stss scale rs n) * 4 → a + b + c + d + e + f ≡ length (tables_of scale rs n) * 4
  tables-length a b c d e f ha hb hc hd he hf =
      let l₅ : length from5 ≡ length (table_of Offsets scale rs n) + length from6 = length-append (table_of Offsets scale rs n) from6 in
      let l₄ : length from4 ≡ length (table_of Stsz scale rs n) + length from5 = length-append (table_of Stsz scale rs n) from5 in
      let l₃ : length from3 ≡ length (table_of Stsc scale rs n) + length from4 = length-append (table_of Stsc scale rs n) from4 in
      let l₂ : length from2 ≡ length (table_of Ctts scale rs n) + length from3 = length-append (table_of Ctts scale rs n) from3 in
      let l₁ : length (tables_of scale rs n) ≡ length (table_of Stts scale rs n) + length from2 = length-append (table_of Stts scale rs n) from2 in
      omega arith
