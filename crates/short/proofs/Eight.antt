-- A list of eight is its eight elements. Assumes nothing.
use mathlib.Core.Path.{◌≡◌, refl}
use mathlib.Core.List.{List, [], ◌∷◌, ◌++◌}
use Prim.Native.Nat.{ℕ, ◌-◌}
use native.Mathlib.Omega.{arith}
use lib.ListN.{length, get_or, replicate}

pub eight : {A : Type 0} (d z : A) (xs : List A) → length xs ≡ 8 →
    (get_or xs 0 d ∷ get_or xs 1 d ∷ get_or xs 2 d ∷ get_or xs 3 d ∷ get_or xs 4 d ∷ get_or xs 5 d ∷ get_or xs 6 d ∷ get_or xs 7 d ∷ replicate 16 z) ≡
    xs ++ replicate (24 - length xs) z
eight d z [] e = absurd (omega (arith, e))
eight d z (a ∷ []) e = absurd (omega (arith, e))
eight d z (a ∷ b ∷ []) e = absurd (omega (arith, e))
eight d z (a ∷ b ∷ c ∷ []) e = absurd (omega (arith, e))
eight d z (a ∷ b ∷ c ∷ f ∷ []) e = absurd (omega (arith, e))
eight d z (a ∷ b ∷ c ∷ f ∷ g ∷ []) e = absurd (omega (arith, e))
eight d z (a ∷ b ∷ c ∷ f ∷ g ∷ h ∷ []) e = absurd (omega (arith, e))
eight d z (a ∷ b ∷ c ∷ f ∷ g ∷ h ∷ i ∷ []) e = absurd (omega (arith, e))
eight d z (a ∷ b ∷ c ∷ f ∷ g ∷ h ∷ i ∷ j ∷ []) e = refl
eight d z (a ∷ b ∷ c ∷ f ∷ g ∷ h ∷ i ∷ j ∷ k ∷ xs) e = absurd (omega (arith, e))
