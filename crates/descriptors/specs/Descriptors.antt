-- Descriptors one after the other, up to where the bytes end (ISO/IEC 14496-1, 7.2.2): the first of two tags. Each one
-- before it is skipped by its length, whatever it is (A29). And a descriptor with its content. Assumes nothing.
use Rattle.std.specs.Prelude.{ℕ, zero, suc, ◌-◌, ◌^◌, List, ◌++◌, length, take, drop, eqb, ltb, Result, Option, Ok, Err, Some, None}
use Rattle.numbers.specs.Field.{when}
use Rattle.numbers.specs.declared.Refusal.TheVariants as refusal
use Rattle.put.specs.Put.{Wrote, wrote, placed}
use Rattle.descriptor.specs.Descriptor.{head_of, head_bytes}
use Rattle.descriptors.specs.declared.Sought.{Sought}
use Rattle.numbers.specs.declared.Refusal.{Refusal}
use Rattle.descriptor.specs.declared.Head.{Head}

abbrev pub sought_record : ℕ → ℕ → ℕ → ℕ → Sought
sought_record tag at from to = record { tag = tag; at = at; from = from; to = to }

-- by a head at `at`: it is the one, or what comes behind it, or its fault
abbrev pub headed : ℕ → ℕ → ℕ → (ℕ → Result (Option Sought) Refusal) → Result Head Refusal → Result (Option Sought) Refusal
headed one other at next (Ok h) =
    when (eqb h.tag one) (Ok (Some (sought_record h.tag at h.from h.to)))
    (when (eqb h.tag other) (Ok (Some (sought_record h.tag at h.from h.to))) (next h.to))
headed one other at next (Err q) = Err q

-- from `at` on. A descriptor has 2 bytes at least, so that no more than f of them fit where f bytes are left.
unfoldable pub seek_from : ℕ → List ℕ → ℕ → ℕ → ℕ → Result (Option Sought) Refusal
seek_from zero s at one other = (Ok None)
seek_from (suc f) s at one other = when (ltb at (length s)) (headed one other at (λ to. seek_from f s to one other) (head_of s at)) (Ok None)

abbrev pub seek_of : List ℕ → ℕ → ℕ → ℕ → Result (Option Sought) Refusal
seek_of s at one other = seek_from (length s) s at one other

-- the bytes from a place up to another
abbrev pub span : List ℕ → ℕ → ℕ → List ℕ
span s from to = take (to - from) (drop from s)

-- a descriptor with its content, its length in the shortest form; 13 where four bytes do not hold it
abbrev pub descriptor_bytes : ℕ → List ℕ → List ℕ
descriptor_bytes tag content = head_bytes tag (length content) ++ content

abbrev pub descriptor_in : ℕ → List ℕ → ℕ → List ℕ → Wrote
descriptor_in tag content at out =
    when (ltb (length content) (128 ^ 4)) (placed (descriptor_bytes tag content) (length (descriptor_bytes tag content)) at out)
    (wrote (Err refusal.Unwritable) out)
