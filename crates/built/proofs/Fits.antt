-- What follows for the samples where the builders do not refuse them: their numbers have the bits of their fields.
-- Assumes nothing.
use Prim.Native.Nat.{ℕ, ◌+◌, ◌-◌, ◌*◌, ◌%◌, ◌^◌, ◌≤◌, ◌<◌}
use mathlib.Core.Path.{◌≡◌, refl, ap}
use mathlib.Core.List.{List, [], ◌∷◌, ◌++◌}
use mathlib.Core.Bool.{Bool, true, false, ◌&&◌}
use native.Mathlib.Omega.{arith}
use lib.IntN.{ℤ, pos, negsuc}
use lib.Signed.{mag}
use lib.ListN.{length}
use lib.Dec.{eqb, leb, ltb}
use borrow.Author.Tests.{eqb-true, leb-true, ltb-true}
use Rattle.numbers.specs.Field.{when}
use Rattle.samples.specs.declared.Sample.{Sample}
use Rattle.samples.specs.Records.{bits_of}
use Rattle.columns.specs.declared.Rule.{Rule}
use Rattle.columns.specs.declared.Rule.TheVariants as rule
use Rattle.columns.specs.Columns.{meets, all_meet}
use Rattle.merging.proofs.Rows.{All, nothing, each}
use Rattle.builder.specs.Built.{sync_word, syncs_from}
use Rattle.builder.proofs.Back as back
use Rattle.builder.proofs.Bytes.{Small}
use Rattle.built.specs.Written.{Of64}
use Rattle.built.proofs.Joins.{bits_in}

-- a test of a list is one of its first, and of the rest
module _ (r : Rule) (x : ℕ) (l : List ℕ) where
  pub both_meet : all_meet r (x ∷ l) ≡ true → (meets r x ≡ true) × (all_meet r l ≡ true)
  both_meet e = cases (meets r x) (all_meet r l) e
    where
      cases : (a b : Bool) → (a && b) ≡ true → (a ≡ true) × (b ≡ true)
      cases true b h = (refl, h)
      cases false b h = let z : ◌≡◌ {A = ℕ} 0 1 = cc in absurd (omega arith)

-- NUMBERS OF 32 BITS

is-small : (x : ℕ) → meets rule.Narrow x ≡ true → Small x
unfolding meets
is-small x e = ltb-true x (2 ^ 32) e

pub all_small : (l : List ℕ) → all_meet rule.Narrow l ≡ true → All Small l
all_small [] e = nothing
all_small (x ∷ l) e = let b = both_meet rule.Narrow x l e in each (is-small x b.0) (all_small l b.1)

pub shifts-small : (l : List Sample) → All Small (back.shifts_of l)
shifts-small [] = nothing
shifts-small (s ∷ l) = let h : Small (bits_of s.composition % 2 ^ 32) = omega arith in each h (shifts-small l)

-- COMPOSITION OFFSETS

signed-narrow : (z : ℤ) → mag z * 2 < 2 ^ 64 → meets rule.Signed (bits_of z) ≡ true → mag z * 2 < 2 ^ 32
unfolding meets when
signed-narrow z h e = cases z h (ltb (bits_of z) (2 ^ 31)) refl e
  where
    cases : (z : ℤ) → mag z * 2 < 2 ^ 64 → (b : Bool) → ltb (bits_of z) (2 ^ 31) ≡ b → when b true (leb (2 ^ 64 - 2 ^ 31) (bits_of z)) ≡ true → mag z * 2 < 2 ^ 32
    cases (pos n) h true q e = let k : n < 2 ^ 31 = ltb-true n (2 ^ 31) q in omega arith
    cases (pos n) h false q e = let k : 2 ^ 64 - 2 ^ 31 ≤ n = leb-true (2 ^ 64 - 2 ^ 31) n e in absurd (omega arith)
    cases (negsuc n) h true q e = let k : 2 ^ 64 - 1 - n < 2 ^ 31 = ltb-true (2 ^ 64 - 1 - n) (2 ^ 31) q in absurd (omega arith)
    cases (negsuc n) h false q e = let k : 2 ^ 64 - 2 ^ 31 ≤ 2 ^ 64 - 1 - n = leb-true (2 ^ 64 - 2 ^ 31) (2 ^ 64 - 1 - n) e in omega arith

is-zero : (z : ℤ) → mag z * 2 < 2 ^ 64 → meets rule.Zero (bits_of z) ≡ true → z ≡ pos 0
unfolding meets
is-zero (pos n) h e = ap pos (eqb-true n 0 e)
is-zero (negsuc n) h e = let k : 2 ^ 64 - 1 - n ≡ 0 = eqb-true (2 ^ 64 - 1 - n) 0 e in absurd (omega arith)

pub compositions-narrow : (l : List Sample) → All Of64 l → all_meet rule.Signed (bits_in l) ≡ true → back.Narrow l
compositions-narrow [] nothing e = back.Narrow.none
compositions-narrow (s ∷ l) (each h k) e =
    let b = both_meet rule.Signed (bits_of s.composition) (bits_in l) e in
    back.Narrow.and (signed-narrow s.composition h.composition b.0) (compositions-narrow l k b.1)

pub compositions-zero : (l : List Sample) → All Of64 l → all_meet rule.Zero (bits_in l) ≡ true → back.Zero l
compositions-zero [] nothing e = back.Zero.none
compositions-zero (s ∷ l) (each h k) e =
    let b = both_meet rule.Zero (bits_of s.composition) (bits_in l) e in
    back.Zero.and (is-zero s.composition h.composition b.0) (compositions-zero l k b.1)

-- SYNC SAMPLES

-- their numbers are at most as many as there are samples
pub syncs-small : (i : ℕ) (l : List ℕ) → i + length l < 2 ^ 32 → All Small (syncs_from i l)
unfolding sync_word when
syncs-small i [] h = nothing
syncs-small i (x ∷ l) h = cases (eqb x 0) (syncs-small (i + 1) l (omega arith))
  where
    cases : (b : Bool) → All Small (syncs_from (i + 1) l) → All Small (when b [] ((i + 1) ∷ []) ++ syncs_from (i + 1) l)
    cases true r = r
    cases false r = let k : Small (i + 1) = omega arith in each k r
