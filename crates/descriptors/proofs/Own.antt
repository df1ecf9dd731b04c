-- What was read is at least as long as what is written of it; where it is no longer, its bytes are those that are written.
-- Assumes nothing.
use Rattle.std.specs.Prelude.{Result, Option, Ok, Err, Some}
use mathlib.Core.Path.{◌≡◌, refl, sym, ap, ap₂, ◌∙◌}
use mathlib.Core.List.{List, [], ◌∷◌, ◌++◌}
use mathlib.Core.Logic.{◌⊎◌, inl, inr, ⊎_elim}
use Prim.Native.Nat.{ℕ, zero, suc, ◌+◌, ◌-◌, ◌^◌, ◌≤◌, ◌<◌}
use native.Mathlib.Omega.{arith}
use lib.ListN.{length, take, drop, length-drop, take-append-drop}
use lib.Seq.{length-take-le, take-length, take-add, drop-drop, take-append-le, drop-append-le}
use lib.Dec.{eqb, ltb}
use borrow.Author.Tests.{eqb-true}
use Rattle.numbers.specs.Number.{be, bytes}
use Rattle.numbers.proofs.Laws.{Bytes, bytes-be}
use Rattle.numbers.proofs.Chain.{way}
use Rattle.descriptor.specs.Descriptor.{size_for, head_bytes, head_of, length_of}
use Rattle.descriptor.proofs.Laws.{size-grows, shortest, head-bytes-own}
use Rattle.descriptor.proofs.Laws as laws
use Rattle.descriptors.specs.Descriptors.{headed, seek_from, seek_of, span, descriptor_bytes}
use Rattle.descriptors.proofs.Puts.{length-descriptor}
use Rattle.descriptor.specs.declared.Head.{Head}
use Rattle.numbers.specs.declared.Refusal.{Refusal}
use Rattle.descriptor.specs.Descriptor.{head_record}
use Rattle.descriptor.specs.Descriptor.{length_record}
use Rattle.descriptors.specs.declared.Sought.{Sought}
use Rattle.descriptors.specs.Descriptors.{sought_record}

-- SPANS

pub length-span : (s : List ℕ) (i j : ℕ) → i ≤ j → j ≤ length s → length (span s i j) ≡ j - i
length-span s i j h k = length-take-le (j - i) (drop i s) (omega (arith, h, k, length-drop i s))

pub span_none : (s : List ℕ) (i : ℕ) → span s i i ≡ []
span_none s i = ap (λ n. take n (drop i s)) (let z : i - i ≡ 0 = omega arith in z)

pub span-join : (s : List ℕ) (i j k : ℕ) → i ≤ j → j ≤ k → span s i k ≡ span s i j ++ span s j k
span-join s i j k h l =
    ap (λ n. take n (drop i s)) (let z : k - i ≡ (j - i) + (k - j) = omega (arith, h, l) in z) ∙ take-add (j - i) (k - j) (drop i s)
    ∙ ap (λ t. span s i j ++ take (k - j) t) (drop-drop (j - i) i s ∙ ap (λ n. drop n s) (let z : i + (j - i) ≡ j = omega (arith, h) in z))

pub span-end : (s : List ℕ) (i : ℕ) → drop i s ≡ span s i (length s)
span-end s i = sym (ap (λ n. take n (drop i s)) (sym (length-drop i s)) ∙ take-length (drop i s))

-- what lies in the first bytes
pub span-take : (s : List ℕ) (n i j : ℕ) → i ≤ j → j ≤ length (take n s) → span (take n s) i j ≡ span s i j
span-take s n i j h l =
    sym (ap (λ t. span t i j) (sym (take-append-drop n s))
    ∙ ap (take (j - i)) (drop-append-le i (take n s) (drop n s) (omega (arith, h, l)))
    ∙ take-append-le (j - i) (drop i (take n s)) (drop n s) (omega (arith, length-drop i (take n s), h, l)))

pub bytes_take : (n : ℕ) (s : List ℕ) → Bytes s → Bytes (take n s)
bytes_take zero s h i = omega arith
bytes_take (suc n) [] h i = omega arith
bytes_take (suc n) (x ∷ s) h zero = h zero
bytes_take (suc n) (x ∷ s) h (suc i) = bytes_take n s (λ j. h (suc j)) i

-- a number behind what lies there
pub grown : (s : List ℕ) (at j w k : ℕ) (x : List ℕ) → Bytes s → at ≤ j → j + w ≤ length s → k ≡ j + w → span s at j ≡ x → span s at k ≡ x ++ bytes w (be w s j)
grown s at j w k x b h l e q =
    span-join s at j k h (omega (arith, e))
    ∙ ap₂ (λ (x y : List ℕ). x ++ y) q (ap (λ n. take n (drop j s)) (let z : k - j ≡ w = omega (arith, e) in z) ∙ sym (bytes-be w s j b l))

-- A WALK

-- what a walk found stands no earlier than where it began, and has one of the tags
module _ (s : List ℕ) (one other tag p from to : ℕ) where
  same : (t at f e : ℕ) → (t ≡ one) ⊎ (t ≡ other) → ◌≡◌ {A = Result (Option Sought) Refusal} (Ok (Some (sought_record t at f e))) (Ok (Some (sought_record tag p from to))) → (at ≤ p) × ((tag ≡ one) ⊎ (tag ≡ other))
  same t at f e o q =
      let r : sought_record t at f e ≡ sought_record tag p from to = cc q in
      let a : at ≡ p = ap (λ (x : Sought). x.at) r in
      let b : tag ≡ t = sym (ap (λ (x : Sought). x.tag) r) in
      (omega (arith, a), ⊎_elim (λ y. inl (b ∙ y)) (λ y. inr (b ∙ y)) o)

  found : (f at : ℕ) → seek_from f s at one other ≡ Ok (Some (sought_record tag p from to)) → (at ≤ p) × ((tag ≡ one) ⊎ (tag ≡ other))
  unfolding seek_from
  found zero at h = let z : ◌≡◌ {A = ℕ} 0 1 = cc h in absurd (omega arith)
  found (suc f) at h =
      ⊎_elim (λ y. by (head_of s at) refl y.1 (found f)) (λ y. let z : ◌≡◌ {A = ℕ} 0 1 = cc y.1 in absurd (omega arith))
      (way (ltb at (length s)) _ _ _ h)
    where
      by : (x : Result Head Refusal) → head_of s at ≡ x → headed one other at (λ to. seek_from f s to one other) x ≡ Ok (Some (sought_record tag p from to)) →
          ((at : ℕ) → seek_from f s at one other ≡ Ok (Some (sought_record tag p from to)) → (at ≤ p) × ((tag ≡ one) ⊎ (tag ≡ other))) → (at ≤ p) × ((tag ≡ one) ⊎ (tag ≡ other))
      by (Err q) e h on = let z : ◌≡◌ {A = ℕ} 0 1 = cc h in absurd (omega arith)
      by (Ok x) e h on =
          let w = laws.headed s at x.tag x.from x.to e in
          ⊎_elim (λ y. same x.tag at x.from x.to (inl (eqb-true x.tag one y.0)) y.1)
          (λ y. ⊎_elim (λ v. same x.tag at x.from x.to (inr (eqb-true x.tag other v.0)) v.1)
          (λ v. let r = on x.to v.1 in (omega (arith, r.0, w.before, w.content), r.1)) (way (eqb x.tag other) _ _ _ y.1))
          (way (eqb x.tag one) _ _ _ h)

  pub stands : (at : ℕ) → seek_of s at one other ≡ Ok (Some (sought_record tag p from to)) → (at ≤ p) × ((tag ≡ one) ⊎ (tag ≡ other))
  stands at h = found (length s) at h

-- A DESCRIPTOR

-- a head at p, which is `at` or behind it, and a content x that is no longer than what it tells
module _ (s : List ℕ) (at p tag from to : ℕ) (a : at ≤ p) (h : head_of s p ≡ Ok (head_record tag from to)) (x : List ℕ) (l : length x ≤ to - from) where
  its : laws.Headed s p tag from to
  its = laws.headed s p tag from to h

  told : length_of s (p + 1) ≡ Ok (length_record (to - from) from)
  told = its.length-is ∙ ap (λ k. Ok (length_record k from)) (let z : its.value ≡ to - from = omega (arith, its.content) in z)

  room : p + 1 + size_for (to - from) ≤ from
  room = shortest s (p + 1) (to - from) from told

  wider : size_for (length x) ≤ size_for (to - from)
  wider = size-grows (length x) (to - from) l (omega (arith, its.small, its.content))

  pub content-small : length x < 128 ^ 4
  content-small = omega (arith, its.small, its.content, l)

  pub reaches : at + length (descriptor_bytes tag x) ≤ to
  reaches = omega (arith, length-descriptor tag x, a, room, wider, l, its.content)

  -- what has no more room than is needed is what is written
  module _ (e : at + length (descriptor_bytes tag x) ≡ to) where
    pub content-long : length x ≡ to - from
    content-long = omega (arith, length-descriptor tag x, a, room, wider, l, its.content, e)

    pub descriptor-own : Bytes s → span s from to ≡ x → span s at to ≡ descriptor_bytes tag x
    descriptor-own b own =
        let k = length-descriptor tag x in
        let n : size_for (length x) ≡ size_for (to - from) = ap size_for content-long in
        let f : from ≡ p + 1 + size_for (to - from) = omega (arith, k, a, room, n, content-long, its.content, e) in
        let z : at ≡ p = omega (arith, k, a, room, n, content-long, its.content, e) in
        span-join s at from to (omega (arith, f, z)) (omega (arith, its.content))
        ∙ ap₂ (λ (x y : List ℕ). x ++ y)
        (ap₂ (λ (n i : ℕ). take n (drop i s)) (let w : from - at ≡ size_for (to - from) + 1 = omega (arith, f, z) in w) z
        ∙ sym (head-bytes-own s p tag from to h b f) ∙ ap (head_bytes tag) (sym content-long))
        own
