-- A descriptor with its content, way by way. Assumes nothing.
use Rattle.std.specs.Prelude.{Result, Ok, Err}
use mathlib.Core.Path.{◌≡◌, refl, sym, ap, ap₂, ◌∙◌}
use mathlib.Core.List.{List, ◌++◌}
use Prim.Native.Nat.{ℕ, suc, ◌+◌, ◌^◌, ◌≤◌, ◌<◌}
use native.Mathlib.Omega.{arith}
use lib.ListN.{length, length-append}
use lib.Seq.{sets, length-sets}
use Rattle.numbers.specs.Number.{bytes}
use Rattle.numbers.specs.Field.{widest}
use Rattle.numbers.specs.declared.Refusal.TheVariants as refusal
use Rattle.numbers.proofs.Chain.{is_lt, not-lt}
use Rattle.put.specs.Put.{wrote, placed, put_of}
use Rattle.put.proofs.Placed.{done, has_room, no-sum, no_room}
use Rattle.put.proofs.Stores.{sets-append}
use Rattle.descriptor.specs.Descriptor.{size_for, groups, head_bytes, head_in}
use Rattle.descriptor.proofs.Laws.{length-groups}
use Rattle.descriptors.specs.Descriptors.{descriptor_bytes, descriptor_in}
use Rattle.numbers.specs.declared.Refusal.{Refusal}

pub length-head : (tag n : ℕ) → length (head_bytes tag n) ≡ size_for n + 1
length-head tag n = let z : suc (length (groups (size_for n) n)) ≡ size_for n + 1 = omega (arith, length-groups (size_for n) n) in z

pub length-descriptor : (tag : ℕ) (content : List ℕ) → length (descriptor_bytes tag content) ≡ size_for (length content) + 1 + length content
length-descriptor tag content = omega (arith, length-append (head_bytes tag (length content)) content, length-head tag (length content))

-- a head that has room, and bytes that have it
pub head-put : (tag n at : ℕ) (out after : List ℕ) (p : Result ℕ Refusal) → n < 128 ^ 4 → at + (size_for n + 1) ≤ length out → wrote p after ≡ head_in tag n at out → after ≡ sets out at (head_bytes tag n)
head-put tag n at out after p h r e =
    cc (e ∙ sym (is_lt _ _ _ n (128 ^ 4) h (has_room (head_bytes tag n) (size_for n + 1) at out r)))

pub number_put : (w n at : ℕ) (out after : List ℕ) (p : Result ℕ Refusal) → w ≤ widest → n < 256 ^ w → at + w ≤ length out → wrote p after ≡ put_of w n at out → after ≡ sets out at (bytes w n)
number_put w n at out after p hw hn h e = cc (e ∙ sym (done w n at out hw hn h))

-- a run behind another
pub more : (out x y a c : List ℕ) (at n : ℕ) → x ≡ sets out at a → y ≡ sets x n c → n ≡ at + length a → y ≡ sets out at (a ++ c)
more out x y a c at n ex ey en = ey ∙ ap₂ (λ (b : List ℕ) (n : ℕ). sets b n c) ex en ∙ sets-append out at a c

pub same-long : (out x a : List ℕ) (at : ℕ) → x ≡ sets out at a → length x ≡ length out
same-long out x a at e = ap length e ∙ length-sets out at a

pub part-put : (s : List ℕ) (at : ℕ) (out after : List ℕ) (p : Result ℕ Refusal) → at + length s ≤ length out → wrote p after ≡ placed s (length s) at out → after ≡ sets out at s
part-put s at out after p h e = cc (e ∙ sym (has_room s (length s) at out h))

module _ (tag : ℕ) (content : List ℕ) (at : ℕ) (out : List ℕ) where
  pub too_long : 128 ^ 4 ≤ length content → wrote (Err refusal.Unwritable) out ≡ descriptor_in tag content at out
  too_long h = not-lt _ _ _ (length content) (128 ^ 4) h refl

  module _ (h : length content < 128 ^ 4) (w : ℕ) (e : w ≡ size_for (length content)) where
    long : w + 1 + length content ≡ length (descriptor_bytes tag content)
    long = omega (arith, e, length-descriptor tag content)

    pub no-sum-for : length out < 2 ^ 64 → 2 ^ 64 ≤ at + (w + 1 + length content) → wrote (Err refusal.Overflow) out ≡ descriptor_in tag content at out
    no-sum-for l g =
        is_lt _ _ _ (length content) (128 ^ 4) h
        (no-sum (descriptor_bytes tag content) (length (descriptor_bytes tag content)) at out l (omega (arith, long, g)))

    pub no-room-for : at + (w + 1 + length content) < 2 ^ 64 → length out < at + (w + 1 + length content) →
        wrote (Err (refusal.TooSmall (at + (w + 1 + length content)))) out ≡ descriptor_in tag content at out
    no-room-for l g =
        ap (λ n. wrote (Err (refusal.TooSmall (at + n))) out) long
        ∙ is_lt _ _ _ (length content) (128 ^ 4) h
        (no_room (descriptor_bytes tag content) (length (descriptor_bytes tag content)) at out (omega (arith, long, l)) (omega (arith, long, g)))

    pub all-put : at + (w + 1 + length content) ≤ length out → (b1 b2 : List ℕ) (p q : Result ℕ Refusal) → wrote p b1 ≡ head_in tag (length content) at out →
        wrote q b2 ≡ placed content (length content) (at + (w + 1)) b1 → wrote q b2 ≡ descriptor_in tag content at out
    all-put g b1 b2 p q e1 e2 =
        let head = head_bytes tag (length content) in
        let lh = length-head tag (length content) in
        let f1 : b1 ≡ sets out at head = head-put tag (length content) at out b1 p h (omega (arith, e, g)) e1 in
        let l1 : length b1 ≡ length out = same-long out b1 head at f1 in
        let k : at + (w + 1) ≡ at + length head = omega (arith, e, lh) in
        let f2 : sets b1 (at + (w + 1)) content ≡ sets out at (descriptor_bytes tag content) = more out b1 _ head content at (at + (w + 1)) f1 refl k in
        e2 ∙ sym (has_room content (length content) (at + (w + 1)) b1 (omega (arith, l1, g)))
        ∙ ap₂ (λ (n : ℕ) (b : List ℕ). wrote (Ok n) b) (let z : at + (w + 1) + length content ≡ at + length (descriptor_bytes tag content) = omega (arith, long) in z) f2
        ∙ is_lt _ _ _ (length content) (128 ^ 4) h
        (has_room (descriptor_bytes tag content) (length (descriptor_bytes tag content)) at out (omega (arith, long, g)))

-- a descriptor that has room
pub descriptor-put : (tag : ℕ) (content : List ℕ) (at : ℕ) (out after : List ℕ) (p : Result ℕ Refusal) → length content < 128 ^ 4 →
    at + length (descriptor_bytes tag content) ≤ length out → wrote p after ≡ descriptor_in tag content at out → after ≡ sets out at (descriptor_bytes tag content)
descriptor-put tag content at out after p h r e =
    cc (e ∙ sym (is_lt _ _ _ (length content) (128 ^ 4) h (has_room (descriptor_bytes tag content) (length (descriptor_bytes tag content)) at out r)))
