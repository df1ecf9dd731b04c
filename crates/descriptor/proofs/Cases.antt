-- The ways of a length's bytes, one for each turn of the loop and each return, over plain variables. Assumes nothing.
use Rattle.std.specs.Prelude.{Result, Ok, Err}
use mathlib.Core.Path.{◌≡◌, refl, sym, ap, ◌∙◌}
use mathlib.Core.List.{List, ◌∷◌}
use Prim.Native.Nat.{ℕ, zero, suc, ◌+◌, ◌*◌, ◌-◌, ◌/◌, ◌%◌, ◌^◌, ◌≤◌, ◌<◌}
use native.Mathlib.Nat.{pow-suc, pow-le-pow_right, one-le-pow}
use native.Mathlib.Numerals.{add-one}
use native.Mathlib.Omega.{arith}
use lib.ListN.{length, get_or, set, length-set}
use lib.Seq.{sets, length-sets}
use lib.Dec.{ltb}
use mathlib.Core.Logic.{⊎_elim}
use Rattle.numbers.specs.Field.{when}
use Rattle.numbers.specs.declared.Refusal.TheVariants as refusal
use Rattle.numbers.specs.declared.Refusal.{Refusal}
use Rattle.numbers.proofs.Chain.{way, is_lt, not-lt, is_le, not-le}
use Rattle.put.specs.Put.{Wrote, wrote, placed}
use Rattle.put.proofs.Placed.{has_room, no-sum, no_room}
use Rattle.descriptor.specs.Descriptor.{length_from, size_for, high, groups, head_by}
use Rattle.descriptor.specs.declared.Length.{Length}
use Rattle.descriptor.specs.Descriptor.{head_record}
use Rattle.descriptor.specs.Descriptor.{length_record}

-- READING

module _ (first n : ℕ) (s : List ℕ) (p k : ℕ) where
  -- a byte would follow the fourth
  pub too_long : k ≡ 0 → Err (refusal.Value first) ≡ length_from first k n s p
  unfolding length_from
  too_long e = sym (ap (λ i. length_from first i n s p) e)

  module _ (j : ℕ) (e : k ≡ suc j) where
    -- the bytes end
    pub cut : length s ≤ p → Err (refusal.Cut first) ≡ length_from first k n s p
    unfolding length_from
    cut h = not-lt _ _ _ p (length s) h refl ∙ sym (ap (λ i. length_from first i n s p) e)

    module _ (h : p < length s) (v : ℕ) (q : v ≡ n * 128 + get_or s p 0 % 128) where
      pub last : get_or s p 0 < 128 → Ok (length_record v (suc p)) ≡ length_from first k n s p
      unfolding length_from
      last b = is_lt _ _ _ p (length s) h (is_lt _ _ _ (get_or s p 0) 128 b (ap (λ x. Ok (length_record x (suc p))) q)) ∙ sym (ap (λ i. length_from first i n s p) e)

      pub more : 128 ≤ get_or s p 0 → length_from first j v s (suc p) ≡ length_from first k n s p
      unfolding length_from
      more b =
          is_lt _ _ _ p (length s) h (not-lt _ _ _ (get_or s p 0) 128 b (ap (λ x. length_from first j x s (suc p)) q))
          ∙ sym (ap (λ i. length_from first i n s p) e)

-- a number of i bytes and one byte more
pub grows : (i n b : ℕ) → n < 128 ^ i → b < 128 → n * 128 + b < 128 ^ suc i
grows i n b h g = rw pow-suc (omega arith)

pub under : (i w : ℕ) → i ≤ w → 128 ^ i ≤ 128 ^ w
under i w h = pow-le-pow_right (omega arith) h

pub pow_pos : (w : ℕ) → 0 < 128 ^ w
pow_pos w = one-le-pow w 128 (omega arith)

-- WRITING

-- one byte more is stored
pub stored : (out : List ℕ) (left p n d h : ℕ) → 0 < left → d ≡ 128 ^ (left - 1) → h ≡ high (left - 1) →
    sets (set out p (h + n / d % 128)) (p + 1) (groups (left - 1) n) ≡ sets out p (groups left n)
unfolding groups
stored out zero p n d h l e f = absurd (omega arith)
stored out (suc k) p n d h l e f = let q : suc k - 1 ≡ k = omega arith in rw (e, f, q, add-one p)

pub none_left : (out : List ℕ) (left p n : ℕ) → left ≡ 0 → sets out p (groups left n) ≡ out
unfolding groups
none_left out left p n e = ap (λ k. sets out p (groups k n)) e

-- the high bit
pub ends-here : (left : ℕ) → left ≡ 0 → 0 ≡ high left
unfolding high
ends-here left e = sym (ap high e)

pub goes_on : (left : ℕ) → (left ≡ 0 → ⊥) → 128 ≡ high left
unfolding high
goes_on zero f = absurd (f refl)
goes_on (suc left) f = refl

pub high_is : (left : ℕ) → high left ≤ 128
unfolding high
high_is zero = omega arith
high_is (suc left) = omega arith

-- how many bytes a length has
pub size_is : (n : ℕ) → (0 < size_for n) × (size_for n ≤ 4)
size_is n =
    ⊎_elim (λ y. (omega (arith, y.1), omega (arith, y.1)))
    (λ y. ⊎_elim (λ z. (omega (arith, y.1, z.1), omega (arith, y.1, z.1)))
    (λ z. ⊎_elim (λ x. (omega (arith, y.1, z.1, x.1), omega (arith, y.1, z.1, x.1))) (λ x. (omega (arith, y.1, z.1, x.1), omega (arith, y.1, z.1, x.1)))
    (way (ltb n (128 ^ 3)) _ _ _ z.1))
    (way (ltb n (128 ^ 2)) _ _ _ y.1))
    (way (ltb n (128 ^ 1)) _ _ (size_for n) refl)

-- bytes that depend on how many a length n has: `of` them, so many as `long` says
module _ (n at : ℕ) (out : List ℕ) (of : ℕ → List ℕ) (long : ℕ → ℕ) where
  abbrev pub lengthed : Wrote
  lengthed = when (ltb n (128 ^ 4)) (placed (of (size_for n)) (long (size_for n)) at out) (wrote (Err refusal.Unwritable) out)

  -- four bytes do not hold it
  pub no-form : 128 ^ 4 ≤ n → wrote (Err refusal.Unwritable) out ≡ lengthed
  no-form h = not-lt _ _ _ n (128 ^ 4) h refl

  module _ (h : n < 128 ^ 4) (w : ℕ) (e : w ≡ size_for n) where
    pub no_end : length out < 2 ^ 64 → 2 ^ 64 ≤ at + long w → wrote (Err refusal.Overflow) out ≡ lengthed
    no_end l g = is_lt _ _ _ n (128 ^ 4) h (no-sum (of w) (long w) at out l g ∙ ap (λ k. placed (of k) (long k) at out) e)

    pub no_place : at + long w < 2 ^ 64 → length out < at + long w → wrote (Err (refusal.TooSmall (at + long w))) out ≡ lengthed
    no_place l g = is_lt _ _ _ n (128 ^ 4) h (no_room (of w) (long w) at out l g ∙ ap (λ k. placed (of k) (long k) at out) e)

    pub in_place : (after : List ℕ) → after ≡ sets out at (of w) → at + long w ≤ length out → wrote (Ok (at + long w)) after ≡ lengthed
    in_place after q g =
        is_lt _ _ _ n (128 ^ 4) h
        (ap (wrote (Ok (at + long w))) q ∙ has_room (of w) (long w) at out g ∙ ap (λ k. placed (of k) (long k) at out) e)

-- a tag is stored before the bytes of a length
pub tagged : (out : List ℕ) (at tag : ℕ) (bs : List ℕ) → sets (set out at tag) (at + 1) bs ≡ sets out at (tag ∷ bs)
tagged out at tag bs = ap (λ k. sets (set out at tag) k bs) (add-one at)

pub tagged-long : (out : List ℕ) (at tag k : ℕ) (bs : List ℕ) → length (sets (set out at tag) k bs) ≡ length out
tagged-long out at tag k bs = length-sets (set out at tag) k bs ∙ length-set out at tag

-- HEADS

module _ (s : List ℕ) (at tag : ℕ) (r : Result Length Refusal) where
  pub head-no : (q : Refusal) → r ≡ Err q → Err q ≡ head_by s at tag r
  unfolding head_by
  head-no q e = sym (ap (head_by s at tag) e)

  module _ (n from : ℕ) (e : r ≡ Ok (length_record n from)) where
    pub head-past : length s < from + n → Err (refusal.Cut at) ≡ head_by s at tag r
    unfolding head_by
    head-past h = not-le _ _ _ (from + n) (length s) h refl ∙ sym (ap (head_by s at tag) e)

    pub head-is : from + n ≤ length s → Ok (head_record tag from (from + n)) ≡ head_by s at tag r
    unfolding head_by
    head-is h = is_le _ _ _ (from + n) (length s) h refl ∙ sym (ap (head_by s at tag) e)
