-- A type's reader is the first of its type in the table. Assumes nothing.
use Rattle.std.specs.Prelude.{Result}
use mathlib.Core.Path.{◌≡◌, refl}
use mathlib.Core.List.{List, [], ◌∷◌}
use Prim.Native.Nat.{ℕ}
use Rattle.numbers.proofs.Chain.{is_eq, is_ne}
use Rattle.codings.specs.Codings.{Reader, pick}
use Rattle.numbers.specs.declared.Refusal.{Refusal}

module _ (other : Result (Unit {0}) Refusal) (kind : ℕ) (part : List ℕ) where
  module _ (r : Reader) (rs : List Reader) (x : Result (Unit {0}) Refusal) where
    pub here : kind ≡ r.kind → x ≡ r.fault part → x ≡ pick other kind part (r ∷ rs)
    unfolding pick
    here e q = is_eq _ _ _ _ _ e q

    pub further : (kind ≡ r.kind → ⊥) → x ≡ pick other kind part rs → x ≡ pick other kind part (r ∷ rs)
    unfolding pick
    further e q = is_ne _ _ _ _ _ e q

  pub unread : (x : Result (Unit {0}) Refusal) → x ≡ other → x ≡ pick other kind part []
  unfolding pick
  unread x e = e
