-- Lists of sets: what is put in is handed back, where a list lies makes no difference, and a list that is read is a list.
-- Assumes nothing.
use Rattle.std.specs.Prelude.{Result, Ok, Err}
use mathlib.Core.Path.{◌≡◌, refl, sym, ap, ap₂, ◌∙◌}
use mathlib.Core.List.{List, [], ◌∷◌, ◌++◌, append_assoc, append-nil}
use mathlib.Core.Bool.{true}
use mathlib.Core.Logic.{⊎_elim}
use Prim.Native.Nat.{ℕ, zero, suc, ◌+◌, ◌*◌, ◌-◌, ◌^◌, ◌≤◌, ◌<◌}
use native.Mathlib.Nat.{add-zero, zero-add, mod-eq_of_lt}
use native.Mathlib.Omega.{arith}
use lib.ListN.{length, get_or, take, drop, length-append, length-drop, take-append-drop}
use lib.Seq.{sets-eq, length-take-le, get_or-take, get_or-drop, drop-drop, take_at, drop_at, take-append_seam, drop-append_seam}
use lib.Dec.{ltb}
use borrow.Author.Tests.{ltb-true, eq-eqb, eqb-true}
use Rattle.numbers.specs.Number.{be, bytes}
use Rattle.numbers.specs.declared.Refusal.{Refusal}
use Rattle.numbers.proofs.Laws.{be-bytes, length-bytes, one, snoc}
use Rattle.numbers.proofs.Chain.{ends, way}
use Rattle.put.specs.Put.{wrote}
use Rattle.put.proofs.Placed.{Placed, placed-done}
use Rattle.sets.specs.Sets.{one_of, onward, end_of, body_of, next_of, nth_of, reaches, filled_by, set_bytes, list_of, set_in}
use Rattle.sets.proofs.Cases.{one-whole, one_way}

refused : {A : Type 0} (q : Refusal) (e : ℕ) → ◌≡◌ {A = Result ℕ Refusal} (Err q) (Ok e) → A
refused q e h = let z : ◌≡◌ {A = ℕ} 0 1 = cc h in absurd (omega arith)

-- n sets are all of a list where they reach its end
pub filled-reach : (n : ℕ) (l : List ℕ) → filled_by n l ≡ true → end_of n l 0 ≡ Ok (length l)
filled-reach n l h = by (end_of n l 0) h
  where
    by : (r : Result ℕ Refusal) → reaches (length l) r ≡ true → r ≡ Ok (length l)
    by (Ok e) g = ap Ok (eqb-true e (length l) g)
    by (Err q) g = let z : ◌≡◌ {A = ℕ} 0 1 = cc g in absurd (omega arith)

pub reach-filled : (n : ℕ) (l : List ℕ) → end_of n l 0 ≡ Ok (length l) → filled_by n l ≡ true
reach-filled n l h = ap (reaches (length l)) h ∙ eq-eqb (length l) (length l) refl

-- THE LENGTHS OF SETS have two bytes each

abbrev pub Short : List (List ℕ) → Type 0
Short xs = (i : ℕ) → length (get_or xs i []) < 2 ^ 16

length-set : (x : List ℕ) → length (set_bytes x) ≡ 2 + length x
length-set x = length-append (bytes 2 (length x)) x ∙ ap (λ n. n + length x) (length-bytes 2 (length x))

-- a set that lies at `at`
module _ (x s rest : List ℕ) (at : ℕ) (l : length x < 2 ^ 16) (h : drop at s ≡ set_bytes x ++ rest) (a : at ≤ length s) where
  behind : drop at s ≡ bytes 2 (length x) ++ (x ++ rest)
  behind = h ∙ append_assoc (bytes 2 (length x)) x rest

  room : at + 2 + length x ≤ length s
  room = omega (arith, a, length-drop at s, ap length h, length-append (set_bytes x) rest, length-set x)

  number : length x ≡ be 2 s at
  number =
      let pre = take at s in
      let e : s ≡ pre ++ (bytes 2 (length x) ++ (x ++ rest)) = sym (take-append-drop at s) ∙ ap (λ t. pre ++ t) behind in
      sym (ap₂ (λ (b : List ℕ) (n : ℕ). be 2 b n) e (sym (length-take-le at s a)) ∙ be-bytes 2 (length x) pre (x ++ rest) ∙ mod-eq_of_lt (omega (arith, l)))

  pub one-back : one_of s at ≡ Ok (at + 2 + length x)
  one-back = sym (one-whole s at (length x) (omega (arith, room), number) (omega (arith, room)))

  body_is : drop (at + 2) s ≡ x ++ rest
  body_is = sym (drop-drop 2 at s) ∙ ap (drop 2) behind ∙ drop_at (bytes 2 (length x)) (x ++ rest) 2 (length-bytes 2 (length x))

  pub body_back : body_of s at (one_of s at) ≡ x
  body_back =
      ap (body_of s at) one-back
      ∙ ap₂ (λ (n : ℕ) (t : List ℕ). take n t) (let z : at + 2 + length x - (at + 2) ≡ length x = omega arith in z) body_is
      ∙ take-append_seam x rest

  pub next-is : drop (at + 2 + length x) s ≡ rest
  next-is = sym (drop-drop (length x) (at + 2) s) ∙ ap (drop (length x)) body_is ∙ drop-append_seam x rest

-- no set begins where the bytes end
none-there : (i : ℕ) (s : List ℕ) (at : ℕ) → length s < at + 2 → nth_of i s at ≡ []
unfolding end_of
none-there zero s at h = ap (body_of s at) (sym (ends 2 s at Err _ _ h refl))
none-there (suc i) s at h = ap (λ r. next_of s (onward (end_of i s) r)) (sym (ends 2 s at Err _ _ h refl))

-- A LIST MADE OF SETS is so many sets, and the i-th set is the i-th of them

list-end : (xs : List (List ℕ)) (s rest : List ℕ) (at : ℕ) → Short xs → drop at s ≡ list_of xs ++ rest → at ≤ length s → end_of (length xs) s at ≡ Ok (at + length (list_of xs))
unfolding end_of
list-end [] s rest at l h a = ap Ok (sym (add-zero at))
list-end (x ∷ xs) s rest at l h a =
    let g : drop at s ≡ set_bytes x ++ (list_of xs ++ rest) = h ∙ append_assoc (set_bytes x) (list_of xs) rest in
    ap (onward (end_of (length xs) s)) (one-back x s (list_of xs ++ rest) at (l 0) g a)
    ∙ list-end xs s rest (at + 2 + length x) (λ i. l (suc i)) (next-is x s (list_of xs ++ rest) at (l 0) g a) (room x s (list_of xs ++ rest) at (l 0) g a)
    ∙ ap Ok (let z : at + 2 + length x + length (list_of xs) ≡ at + length (set_bytes x ++ list_of xs) = omega (arith, length-append (set_bytes x) (list_of xs), length-set x) in z)

pub made-filled : (xs : List (List ℕ)) → Short xs → filled_by (length xs) (list_of xs) ≡ true
made-filled xs l =
    reach-filled (length xs) (list_of xs)
    (list-end xs (list_of xs) [] 0 l (sym (append-nil (list_of xs))) (omega arith) ∙ ap Ok (zero-add (length (list_of xs))))

list-nth : (i : ℕ) (xs : List (List ℕ)) (s : List ℕ) (at : ℕ) → Short xs → drop at s ≡ list_of xs → at ≤ length s → nth_of i s at ≡ get_or xs i []
unfolding end_of
list-nth i [] s at l h a = none-there i s at (omega (arith, length-drop at s, ap length h))
list-nth zero (x ∷ xs) s at l h a = body_back x s (list_of xs) at (l 0) h a
list-nth (suc i) (x ∷ xs) s at l h a =
    ap (λ r. next_of s (onward (end_of i s) r)) (one-back x s (list_of xs) at (l 0) h a)
    ∙ list-nth i xs s (at + 2 + length x) (λ i. l (suc i)) (next-is x s (list_of xs) at (l 0) h a) (room x s (list_of xs) at (l 0) h a)

pub made-nth : (xs : List (List ℕ)) → Short xs → (i : ℕ) → nth_of i (list_of xs) 0 ≡ get_or xs i []
made-nth xs l i = list-nth i xs (list_of xs) 0 l refl (omega arith)

-- A SET THAT IS PUT behind others joins their list

list-append : (xs ys : List (List ℕ)) → list_of (xs ++ ys) ≡ list_of xs ++ list_of ys
list-append [] ys = refl
list-append (x ∷ xs) ys = ap (λ l. set_bytes x ++ l) (list-append xs ys) ∙ sym (append_assoc (set_bytes x) (list_of xs) (list_of ys))

pub put-joins : (xs : List (List ℕ)) (x : List ℕ) (at : ℕ) (buf out : List ℕ) (p : ℕ) → take at buf ≡ list_of xs → at ≤ length buf → set_in x at buf ≡ wrote (Ok p) out →
    (take p out ≡ list_of (xs ++ (x ∷ []))) × (length x < 2 ^ 16)
put-joins xs x at buf out p h a e =
    ⊎_elim
    (λ y.
    let d : Placed (set_bytes x) (2 + length x) at buf p out = placed-done (set_bytes x) (2 + length x) at buf p out y.1 in
    let l = length-set x in
    let s : out ≡ take at buf ++ set_bytes x ++ drop (at + length (set_bytes x)) buf = d.bytes ∙ sets-eq (set_bytes x) buf at (omega (arith, d.room, l)) in
    let k : length (take at buf ++ set_bytes x) ≡ p = omega (arith, length-append (take at buf) (set_bytes x), length-take-le at buf a, l, d.next) in (
      ap (take p) s ∙ take_at (take at buf ++ set_bytes x) (drop (at + length (set_bytes x)) buf) p k
          ∙ ap₂ (λ (u v : List ℕ). u ++ v) h (sym (append-nil (set_bytes x))) ∙ sym (list-append xs (x ∷ [])),
      ltb-true (length x) (2 ^ 16) y.0,
    ))
    (λ y. let z : ◌≡◌ {A = ℕ} 0 1 = cc y.1 in absurd (omega arith))
    (way (ltb (length x) (2 ^ 16)) _ _ _ e)

-- WHERE A LIST LIES makes no difference

-- m bytes of s from `at` on are those of t from `bt` on
abbrev Agree : List ℕ → ℕ → List ℕ → ℕ → ℕ → Type 0
Agree s at t bt m = (k : ℕ) → k < m → get_or s (at + k) 0 ≡ get_or t (bt + k) 0

same_length : (s t : List ℕ) (at bt m : ℕ) → Agree s at t bt m → 2 ≤ m → be 2 s at ≡ be 2 t bt
same_length s t at bt m g l =
    snoc 1 s at
    ∙ ap₂ (λ (i j : ℕ). i * 256 + j)
    (one s at ∙ ap (λ n. get_or s n 0) (sym (add-zero at)) ∙ g 0 (omega (arith, l)) ∙ ap (λ n. get_or t n 0) (add-zero bt) ∙ sym (one t bt))
    (g 1 (omega (arith, l)))
    ∙ sym (snoc 1 t bt)

-- sets end behind their start, and in the bytes
pub end_after : (n : ℕ) (s : List ℕ) (at e : ℕ) → end_of n s at ≡ Ok e → at ≤ length s → (at ≤ e) × (e ≤ length s)
unfolding end_of
end_after zero s at e h a = let q : at ≡ e = cc h in (omega (arith, q), omega (arith, q, a))
end_after (suc n) s at e h a = by (one_of s at) refl h (λ p. end_after n s p e)
  where
    by : (r : Result ℕ Refusal) → one_of s at ≡ r → onward (end_of n s) r ≡ Ok e → ((p : ℕ) → end_of n s p ≡ Ok e → p ≤ length s → (p ≤ e) × (e ≤ length s)) → (at ≤ e) × (e ≤ length s)
    by (Ok p) o g f =
        let w = one_way s at p o in
        let i = f p g w.2 in
        (omega (arith, i.0, w.1), i.1)
    by (Err q) o g f = refused q e g

same : (n : ℕ) (s t : List ℕ) (at bt e : ℕ) → end_of n s at ≡ Ok e → at ≤ length s → Agree s at t bt (e - at) → bt + (e - at) ≤ length t → end_of n t bt ≡ Ok (bt + (e - at))
unfolding end_of
same zero s t at bt e h a g r = let q : at ≡ e = cc h in ap Ok (let z : bt ≡ bt + (e - at) = omega (arith, q) in z)
same (suc n) s t at bt e h a g r = by (one_of s at) refl h (λ p q. same n s t p q e)
  where
    by : (f : Result ℕ Refusal) → one_of s at ≡ f → onward (end_of n s) f ≡ Ok e →
        ((p q : ℕ) → end_of n s p ≡ Ok e → p ≤ length s → Agree s p t q (e - p) → q + (e - p) ≤ length t → end_of n t q ≡ Ok (q + (e - p))) →
        onward (end_of n t) (one_of t bt) ≡ Ok (bt + (e - at))
    by (Ok p) o i f =
        let w = one_way s at p o in
        let k = end_after n s p e i w.2 in
        let m = be 2 s at in
        let b : m ≡ be 2 t bt = same_length s t at bt (e - at) g (omega (arith, w.1, k.0)) in
        let d : p - at ≡ 2 + m = omega (arith, w.1) in
        let o2 : one_of t bt ≡ Ok (bt + 2 + m) = sym (one-whole t bt m (omega (arith, r, w.1, k.0), b) (omega (arith, r, w.1, k.0))) in
        let g2 : Agree s p t (bt + 2 + m) (e - p) =
        λ j l.
        ap (λ n. get_or s n 0) (let z : p + j ≡ at + (2 + m + j) = omega (arith, w.1) in z)
        ∙ g (2 + m + j) (omega (arith, l, w.1)) ∙ ap (λ n. get_or t n 0) (let z : bt + (2 + m + j) ≡ bt + 2 + m + j = omega arith in z) in
        ap (onward (end_of n t)) o2 ∙ f p (bt + 2 + m) i w.2 g2 (omega (arith, r, w.1, k.0))
        ∙ ap Ok (let z : bt + 2 + m + (e - p) ≡ bt + (e - at) = omega (arith, w.1, k.0) in z)
    by (Err q) o i f = refused q e i

-- a list of n sets, found in other bytes
pub lies : (n : ℕ) (l s rest : List ℕ) (at : ℕ) → filled_by n l ≡ true → drop at s ≡ l ++ rest → at ≤ length s → end_of n s at ≡ Ok (at + length l)
lies n l s rest at h d a =
    let g : Agree l 0 s at (length l - 0) =
    λ k m.
    ap (λ n. get_or l n 0) (zero-add k) ∙ ap (λ t. get_or t k 0) (sym (take-append_seam l rest))
    ∙ get_or-take (length l) (l ++ rest) k 0 (omega (arith, m)) ∙ ap (λ t. get_or t k 0) (sym d) ∙ get_or-drop at s k 0 in
    same n l s 0 at (length l) (filled-reach n l h) (omega arith) g (omega (arith, a, length-drop at s, ap length d, length-append l rest))
    ∙ ap Ok (let z : at + (length l - 0) ≡ at + length l = omega arith in z)

-- n sets that were found, taken out
pub taken : (n : ℕ) (s : List ℕ) (at e : ℕ) → end_of n s at ≡ Ok e → at ≤ length s → filled_by n (take (e - at) (drop at s)) ≡ true
taken n s at e h a =
    let l = take (e - at) (drop at s) in
    let i = end_after n s at e h a in
    let k : length l ≡ e - at = length-take-le (e - at) (drop at s) (omega (arith, length-drop at s, i.0, i.1)) in
    let g : Agree s at l 0 (e - at) =
    λ j m. sym (ap (λ n. get_or l n 0) (zero-add j) ∙ get_or-take (e - at) (drop at s) j 0 m ∙ get_or-drop at s j 0) in
    reach-filled n l (same n s l at 0 e h a g (omega (arith, k)) ∙ ap Ok (let z : 0 + (e - at) ≡ length l = omega (arith, k) in z))

-- PAST THE LAST of n sets that reach the end there is none

past-from : (n i : ℕ) (s : List ℕ) (at : ℕ) → end_of n s at ≡ Ok (length s) → n ≤ i → nth_of i s at ≡ []
unfolding end_of
past-from zero i s at h l = let q : at ≡ length s = cc h in none-there i s at (omega (arith, q))
past-from (suc n) zero s at h l = absurd (omega arith)
past-from (suc n) (suc i) s at h l = by (one_of s at) h (λ p g. past-from n i s p g (omega arith))
  where
    by : (r : Result ℕ Refusal) → onward (end_of n s) r ≡ Ok (length s) → ((p : ℕ) → end_of n s p ≡ Ok (length s) → nth_of i s p ≡ []) → next_of s (onward (end_of i s) r) ≡ []
    by (Ok p) g f = f p g
    by (Err q) g f = refl

pub past-the-last : (n i : ℕ) (l : List ℕ) → filled_by n l ≡ true → n ≤ i → nth_of i l 0 ≡ []
past-the-last n i l h g = past-from n i l 0 (filled-reach n l h) g
