-- The first so many of a list, one by one. Assumes nothing.
use Prim.Native.Nat.{ℕ, suc, ◌+◌, ◌<◌, ◌≤◌, min}
use mathlib.Core.Path.{◌≡◌, ap₂, ◌∙◌}
use mathlib.Core.List.{List, [], ◌∷◌}
use native.Mathlib.Omega.{arith}
use lib.ListN.{length, take, drop, get_or, length-take, drop_of_length-le}
use lib.Seq.{drop-cons, get_or-take}

module _ {A : Type 0} (l : List A) (count i : ℕ) where
  pub at_row : (d : A) → i < count → i < length l → drop i (take count l) ≡ get_or l i d ∷ drop (i + 1) (take count l)
  at_row d h g =
      let k : i < length (take count l) = omega (arith, length-take count l) in
      drop-cons (take count l) i d k ∙ ap₂ (λ (x : A) (j : ℕ). x ∷ drop j (take count l)) (get_or-take count l i d h) (let e : suc i ≡ i + 1 = omega arith in e)

  pub no_row : min count 4 ≤ i → length l ≡ 4 → drop i (take count l) ≡ []
  no_row h e = drop_of_length-le (take count l) {i = i} (omega (arith, length-take count l))
