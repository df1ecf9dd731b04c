-- A signed field that was read was there, and one that was refused was cut. Any width. Assumes nothing.
use Rattle.std.specs.Prelude.{Result, Ok, Err}
use mathlib.Core.Path.{◌≡◌, refl, sym, ap, ◌∙◌}
use mathlib.Core.List.{List}
use mathlib.Core.Logic.{⊎_elim}
use Prim.Native.Nat.{ℕ, ◌+◌, ◌≤◌, ◌<◌}
use native.Mathlib.Omega.{arith}
use lib.ListN.{length}
use lib.IntN.{ℤ}
use Rattle.numbers.specs.Number.{be}
use Rattle.numbers.specs.Field.{field}
use Rattle.numbers.specs.declared.Refusal.{Refusal}
use Rattle.numbers.specs.declared.Refusal.TheVariants as refusal
use Rattle.numbers.proofs.Chain.{field-way, whole, ends}
use Rattle.signed.specs.Signed.{signed}

module _ (w : ℕ) (s : List ℕ) (at : ℕ) (r : Result ℤ Refusal) (e : r ≡ field Err w s at (λ n. Ok (signed w n))) where
  there : (z : ℤ) → r ≡ Ok z → (at + w ≤ length s) × (z ≡ signed w (be w s at))
  there z f =
      ⊎_elim (λ y. (y.0, cc y.1)) (λ y. let z : ◌≡◌ {A = ℕ} 0 1 = cc y.1 in absurd (omega arith))
      (field-way w s at Err (λ n. Ok (signed w n)) (Ok z) (sym e ∙ f))

  was-cut : (q : Refusal) → r ≡ Err q → (length s < at + w) × (q ≡ refusal.Cut at)
  was-cut q f =
      ⊎_elim (λ y. let z : ◌≡◌ {A = ℕ} 0 1 = cc y.1 in absurd (omega arith)) (λ y. (y.0, cc y.1))
      (field-way w s at Err (λ n. Ok (signed w n)) (Err q) (sym e ∙ f))

  pub signed-lacks : (q : Refusal) → r ≡ Err q → length s < at + w
  signed-lacks q f = (was-cut q f).0

  pub signed-has : {A : Type 0} (away : Refusal → A) (go : ℕ → A) (x : A) (z : ℤ) → r ≡ Ok z → ((n : ℕ) → z ≡ signed w n → x ≡ go n) → x ≡ field away w s at go
  signed-has away go x z f k = let t = there z f in whole w s at away go x (be w s at) t.0 refl (k (be w s at) t.1)

  pub signed-not : {A : Type 0} (away : Refusal → A) (go : ℕ → A) (x : A) (q : Refusal) → r ≡ Err q → x ≡ away q → x ≡ field away w s at go
  signed-not away go x q f o = let t = was-cut q f in ends w s at away go x t.0 (o ∙ ap away t.1)
