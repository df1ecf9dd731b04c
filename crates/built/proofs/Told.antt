-- What a reader tells of a box, by what its fields gave: their refusal, or the record made of them. Assumes nothing.
use Rattle.std.specs.Prelude.{Result, Ok, Err}
use Prim.Native.Nat.{ℕ}
use mathlib.Core.Path.{◌≡◌, sym, ap, ◌∙◌}
use mathlib.Core.List.{List}
use Rattle.numbers.specs.declared.Refusal.{Refusal}
use Rattle.layout.specs.declared.read.Fields.{Fields}
use Rattle.layout.specs.Read.{answer}

module _ {M : Type 0} (from : List ℕ → M) (g f : Result Fields Refusal) (e : g ≡ f) where
  pub told-no : (q : Refusal) → g ≡ Err q → Err q ≡ answer from f
  told-no q h = sym (ap (answer from) h) ∙ ap (answer from) e

  pub told_is : (v : Fields) → g ≡ Ok v → Ok (from v.values) ≡ answer from f
  told_is v h = sym (ap (answer from) h) ∙ ap (answer from) e
