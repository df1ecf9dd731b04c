-- The three numbers in the byte: put together and taken apart. Assumes nothing.
use Rattle.std.specs.Prelude.{Ok}
use mathlib.Core.Path.{◌≡◌, refl, ap}
use mathlib.Core.Bool.{Bool, true, false}
use mathlib.Core.Logic.{⊎_elim}
use Prim.Native.Nat.{ℕ, ◌+◌, ◌*◌, ◌/◌, ◌%◌, ◌≤◌, ◌<◌}
use native.Mathlib.Omega.{arith}
use lib.Dec.{eqb, ltb}
use borrow.Author.Tests.{le-ltb, ltb-false, eqb-true, eqb-false, eq-eqb, ne_eqb}
use Rattle.numbers.specs.Field.{when}
use Rattle.numbers.proofs.Chain.{way}
use Rattle.vpformat.specs.Sampling.{depth_of, chroma_of, full_of, sampling_of}

-- what is put together is taken apart the same,
pub sampling-back : (depth chroma : ℕ) (full : Bool) (s : ℕ) → sampling_of depth chroma full ≡ Ok s → (depth_of s ≡ depth) × (chroma_of s ≡ chroma) × (full_of s ≡ full)
unfolding when
sampling-back depth chroma full s e =
    ⊎_elim (λ y. let z : ◌≡◌ {A = ℕ} 0 1 = cc in absurd (omega arith))
    (λ y. ⊎_elim (λ v. let z : ◌≡◌ {A = ℕ} 0 1 = cc in absurd (omega arith))
    (λ v. apart full (ltb-false 7 chroma v.0) (let q : s ≡ depth * 16 + chroma * 2 + when full 1 0 = cc in q))
    (way (ltb 7 chroma) _ _ _ y.1))
    (way (ltb 15 depth) _ _ _ e)
  where
    apart : (t : Bool) → chroma ≤ 7 → s ≡ depth * 16 + chroma * 2 + when t 1 0 → (depth_of s ≡ depth) × (chroma_of s ≡ chroma) × (full_of s ≡ t)
    apart true h q = (omega arith, omega arith, eq-eqb (s % 2) 1 (omega arith))
    apart false h q = (omega arith, omega arith, ne_eqb (s % 2) 1 (λ z. omega arith))

-- and every byte that is taken apart is put together the same
pub sampling-own : (s : ℕ) → s < 256 → sampling_of (depth_of s) (chroma_of s) (full_of s) ≡ Ok s
unfolding when
sampling-own s h = together (eqb (s % 2) 1) refl
  where
    together : (t : Bool) → eqb (s % 2) 1 ≡ t → sampling_of (depth_of s) (chroma_of s) t ≡ Ok s
    together true e = simp (le-ltb 15 (s / 16) (omega arith), le-ltb 7 (s / 2 % 8) (omega arith)) (ap Ok (let q : s / 16 * 16 + s / 2 % 8 * 2 + 1 ≡ s = omega (arith, eqb-true (s % 2) 1 e) in q))
    together false e = simp (le-ltb 15 (s / 16) (omega arith), le-ltb 7 (s / 2 % 8) (omega arith)) (ap Ok (let q : s / 16 * 16 + s / 2 % 8 * 2 + 0 ≡ s = omega (arith, eqb-false (s % 2) 1 e) in q))
