-- What the casts of signed fixed point numbers ask, and what they give. Assumes nothing.
use Prim.Native.Nat.{ℕ, zero, suc, ◌+◌, ◌-◌, ◌*◌, ◌/◌, ◌^◌, ◌≤◌, ◌<◌}
use mathlib.Core.Path.{◌≡◌, refl, sym, ap, subst, ◌∙◌}
use native.Mathlib.Omega.{arith}
use lib.IntN.{ℤ, pos, negsuc, neg_ℤ, ◌*ℤ◌, pos-*ℤ-pos, negsuc-*ℤ-pos}
use lib.Signed.{mag, quot_z}
use mir.Syntax.{w8, w16}
use mir.Val.{SFits, to_z, of_z}
use mir.Facts.{to_z-of_z}
use Rattle.types.specs.Fixed.{signed_raw, signed_whole}

mag-neg : (r k : ℕ) → r ≤ suc k → mag (neg_ℤ (pos r)) ≤ k
mag-neg zero k h = omega arith
mag-neg (suc r) k h = omega arith

times : (z : ℤ) → z *ℤ pos 256 ≡ signed_raw 1 z
times (pos n) = pos-*ℤ-pos n 256
times (negsuc n) = negsuc-*ℤ-pos n 256

times-small : (z : ℤ) → mag z < 2 ^ 7 → mag (signed_raw 1 z) < 2 ^ 15
times-small (pos n) h = omega arith
times-small (negsuc n) h = omega (arith, mag-neg (suc n * 256) 32767 (omega arith))

over : (z : ℤ) → quot_z z (pos 256) ≡ signed_whole 1 z
over (pos n) = refl
over (negsuc n) = refl

over-small : (z : ℤ) → mag z < 2 ^ 15 → mag (signed_whole 1 z) < 2 ^ 7
over-small (pos n) h = omega arith
over-small (negsuc n) h = omega (arith, mag-neg (suc n / 256) 127 (omega arith))

module _ (z : ℤ) (h : SFits w8 z) where
  round8 : to_z w8 (of_z w8 z) ≡ z
  round8 = to_z-of_z h

  pub raw-widens : SFits w16 (to_z w8 (of_z w8 z))
  raw-widens = subst (λ (x : ℤ). SFits w16 x) (sym round8) (record { sfits = omega (arith, h.sfits) })

  widened : to_z w16 (of_z w16 (to_z w8 (of_z w8 z))) ≡ z
  widened = to_z-of_z raw-widens ∙ round8

  pub raw-fits : SFits w16 (to_z w16 (of_z w16 (to_z w8 (of_z w8 z))) *ℤ pos 256)
  raw-fits = subst (λ (x : ℤ). SFits w16 (x *ℤ pos 256)) (sym widened) (subst (λ (x : ℤ). SFits w16 x) (sym (times z)) (record { sfits = times-small z h.sfits }))

  pub raw-is : to_z w16 (of_z w16 (to_z w16 (of_z w16 (to_z w8 (of_z w8 z))) *ℤ pos 256)) ≡ signed_raw 1 z
  raw-is = to_z-of_z raw-fits ∙ ap (λ (x : ℤ). x *ℤ pos 256) widened ∙ times z

module _ (z : ℤ) (h : SFits w16 z) where
  round16 : to_z w16 (of_z w16 z) ≡ z
  round16 = to_z-of_z h

  quotient : quot_z (to_z w16 (of_z w16 z)) (pos 256) ≡ signed_whole 1 z
  quotient = ap (λ (x : ℤ). quot_z x (pos 256)) round16 ∙ over z

  pub whole-divides : SFits w16 (quot_z (to_z w16 (of_z w16 z)) (pos 256))
  whole-divides = subst (λ (x : ℤ). SFits w16 x) (sym quotient) (record { sfits = omega (arith, over-small z h.sfits) })

  divided : to_z w16 (of_z w16 (quot_z (to_z w16 (of_z w16 z)) (pos 256))) ≡ signed_whole 1 z
  divided = to_z-of_z whole-divides ∙ quotient

  pub whole-fits : SFits w8 (to_z w16 (of_z w16 (quot_z (to_z w16 (of_z w16 z)) (pos 256))))
  whole-fits = subst (λ (x : ℤ). SFits w8 x) (sym divided) (record { sfits = over-small z h.sfits })

  pub whole_is : to_z w8 (of_z w8 (to_z w16 (of_z w16 (quot_z (to_z w16 (of_z w16 z)) (pos 256))))) ≡ signed_whole 1 z
  whole_is = to_z-of_z whole-fits ∙ divided
