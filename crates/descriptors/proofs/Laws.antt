-- What a walk over descriptors finds: the descriptor that stands there, nothing at the end, and never one that passes its
-- parent. Assumes nothing.
use Rattle.std.specs.Prelude.{Result, Option, Ok, Err, Some, None}
use mathlib.Core.Path.{◌≡◌, refl, sym, ap, ap₂, ◌∙◌}
use mathlib.Core.List.{List, ◌++◌, append_assoc}
use mathlib.Core.Logic.{⊎_elim}
use Prim.Native.Nat.{ℕ, zero, suc, ◌+◌, ◌^◌, ◌<◌, ◌≤◌}
use native.Mathlib.Omega.{arith}
use lib.ListN.{length, length-append}
use lib.Dec.{eqb, ltb}
use Rattle.numbers.specs.Field.{when}
use Rattle.numbers.proofs.Chain.{way}
use Rattle.descriptor.specs.Descriptor.{size_for, head_bytes, head_of}
use Rattle.descriptor.proofs.Laws.{head-reads}
use Rattle.descriptors.specs.Descriptors.{headed, seek_from, seek_of, descriptor_bytes}
use Rattle.descriptors.proofs.Walk.{spent, is_one, is-other}
use Rattle.descriptors.proofs.Puts.{length-descriptor}
use Rattle.descriptor.specs.declared.Head.{Head}
use Rattle.numbers.specs.declared.Refusal.{Refusal}
use Rattle.descriptor.specs.Descriptor.{head_record}
use Rattle.descriptors.specs.declared.Sought.{Sought}
use Rattle.descriptors.specs.Descriptors.{sought_record}

pub seek-end : (s : List ℕ) (at one other : ℕ) → length s ≤ at → seek_of s at one other ≡ (Ok None)
seek-end s at one other h = spent s one other (length s) at h

-- a descriptor among other bytes
module _ (tag : ℕ) (content pre rest s : List ℕ) (at one other : ℕ) (e : s ≡ pre ++ (descriptor_bytes tag content ++ rest)) (l : at ≡ length pre) (h : length content < 128 ^ 4) where
  abbrev from : ℕ
  from = at + 1 + size_for (length content)

  its-head : head_of s at ≡ Ok (head_record tag from (from + length content))
  its-head =
      ap₂ (λ (b : List ℕ) (i : ℕ). head_of b i) (e ∙ ap (λ b. pre ++ b) (append_assoc (head_bytes tag (length content)) content rest)) l
      ∙ head-reads tag (length content) pre (content ++ rest) h (omega (arith, length-append content rest))
      ∙ ap (λ i. Ok (head_record tag (i + 1 + size_for (length content)) (i + 1 + size_for (length content) + length content))) (sym l)

  inside : at < length s
  inside =
      omega (arith, l, ap length e, length-append pre (descriptor_bytes tag content ++ rest), length-append (descriptor_bytes tag content) rest, length-descriptor tag content)

  pub seek-one : tag ≡ one → seek_of s at one other ≡ Ok (Some (sought_record tag at (at + 1 + size_for (length content)) (at + 1 + size_for (length content) + length content)))
  seek-one q = sym (is_one s one other (length s) at inside (omega arith) tag from (from + length content) its-head q)

  pub seek-other : (tag ≡ one → ⊥) → tag ≡ other → seek_of s at one other ≡ Ok (Some (sought_record tag at (at + 1 + size_for (length content)) (at + 1 + size_for (length content) + length content)))
  seek-other p q = sym (is-other s one other (length s) at inside (omega arith) tag from (from + length content) its-head p q)

-- what was found stands where it is said to stand
module _ (s : List ℕ) (one other tag p from to : ℕ) where
  same : (t at f e : ℕ) → head_of s at ≡ Ok (head_record t f e) → ◌≡◌ {A = Result (Option Sought) Refusal} (Ok (Some (sought_record t at f e))) (Ok (Some (sought_record tag p from to))) →
      head_of s p ≡ Ok (head_record tag from to)
  same t at f e h q =
      let r : sought_record t at f e ≡ sought_record tag p from to = cc q in
      let a : at ≡ p = ap (λ (x : Sought). x.at) r in
      ap (head_of s) (sym a) ∙ h ∙ ap (λ (x : Sought). Ok (head_record x.tag x.from x.to)) r

  found : (f at : ℕ) → seek_from f s at one other ≡ Ok (Some (sought_record tag p from to)) → head_of s p ≡ Ok (head_record tag from to)
  unfolding seek_from
  found zero at h = let z : ◌≡◌ {A = ℕ} 0 1 = cc h in absurd (omega arith)
  found (suc f) at h =
      ⊎_elim (λ y. by (head_of s at) refl y.1 (found f)) (λ y. let z : ◌≡◌ {A = ℕ} 0 1 = cc y.1 in absurd (omega arith))
      (way (ltb at (length s)) _ _ _ h)
    where
      by : (x : Result Head Refusal) → head_of s at ≡ x → headed one other at (λ to. seek_from f s to one other) x ≡ Ok (Some (sought_record tag p from to)) →
          ((at : ℕ) → seek_from f s at one other ≡ Ok (Some (sought_record tag p from to)) → head_of s p ≡ Ok (head_record tag from to)) → head_of s p ≡ Ok (head_record tag from to)
      by (Err q) e h on = let z : ◌≡◌ {A = ℕ} 0 1 = cc h in absurd (omega arith)
      by (Ok x) e h on =
          ⊎_elim (λ y. same x.tag at x.from x.to e y.1)
          (λ y. ⊎_elim (λ v. same x.tag at x.from x.to e v.1) (λ v. on x.to v.1) (way (eqb x.tag other) _ _ _ y.1))
          (way (eqb x.tag one) _ _ _ h)

  pub sought : (at : ℕ) → seek_of s at one other ≡ Ok (Some (sought_record tag p from to)) → head_of s p ≡ Ok (head_record tag from to)
  sought at h = found (length s) at h
