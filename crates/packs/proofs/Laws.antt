-- Where an item lies. Assumes nothing.
use mathlib.Core.Path.{◌≡◌}
use mathlib.Core.List.{List}
use mathlib.Core.Logic.{⊎_elim}
use Prim.Native.Nat.{ℕ, ◌+◌, ◌≤◌}
use native.Mathlib.Omega.{arith}
use lib.ListN.{length}
use borrow.Author.Tests.{leb-true}
use Rattle.numbers.specs.Number.{be}
use Rattle.numbers.specs.Field.{fits}
use Rattle.numbers.proofs.Chain.{field-way, way}
use Rattle.packs.specs.Packs.{item_of}
use Rattle.packs.specs.declared.Item.TheVariants.{End, Cut, Is}

-- an item ends in its pack
pub within : (s : List ℕ) (at from n : ℕ) → item_of s at ≡ Is from n → from + n ≤ length s
within s at from n h =
    ⊎_elim
    (λ y. ⊎_elim
    (λ v.
    let p : from ≡ at + 4 = cc v.1 in
    let q : n ≡ be 4 s at = cc v.1 in
    omega (arith, p, q, leb-true (at + 4 + be 4 s at) (length s) v.0))
    (λ v. cut v.1)
    (way (fits (be 4 s at) s (at + 4)) _ _ _ y.1))
    (λ y. none y.1)
    (field-way 4 s at _ _ _ h)
  where
    cut : Cut ≡ Is from n → from + n ≤ length s
    cut r = let z : ◌≡◌ {A = ℕ} 0 1 = cc in absurd (omega arith)

    none : End ≡ Is from n → from + n ≤ length s
    none r = let z : ◌≡◌ {A = ℕ} 0 1 = cc in absurd (omega arith)
