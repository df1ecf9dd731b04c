-- A type's key is that of the first of its type in the table, and is read by the fields up to it. Assumes nothing.
use Rattle.std.specs.Prelude.{Option, Some, None}
use mathlib.Core.Path.{◌≡◌, refl, ap, ap₂, ◌∙◌}
use mathlib.Core.List.{List, [], ◌∷◌}
use Prim.Native.Nat.{ℕ}
use lib.ListN.{get_or, set}
use lib.Dec.{eqb}
use Rattle.numbers.specs.Field.{when}
use Rattle.numbers.proofs.Chain.{is_eq, is_ne}
use Rattle.layout.specs.Read.{read_of}
use Rattle.layout.specs.declared.Field.{Field}
use Rattle.layout.specs.declared.Field.TheVariants.{Nothing}
use Rattle.layout.specs.declared.read.Fields.{Fields}
use Rattle.keys.specs.Key.{Keyed, key_in, key_at, pick_key}

module _ (kind : ℕ) (part : List ℕ) where
  -- a row that is the same, with the key and without it
  pub same_row : (x : Option (ℕ × ℕ)) (slot : ℕ) (row fs : List Field) → row ≡ fs → x ≡ key_in slot (read_of kind (set row slot Nothing) part) (read_of kind row part) →
      x ≡ key_in slot (read_of kind (set fs slot Nothing) part) (read_of kind fs part)
  same_row x slot row fs e q = q ∙ ap (λ r. key_in slot (read_of kind (set r slot Nothing) part) (read_of kind r part)) e

  module _ (k : Keyed) (ks : List Keyed) (x : Option (ℕ × ℕ)) where
    pub here : kind ≡ k.kind → x ≡ key_at kind part k.fields k.slot → x ≡ pick_key kind part (k ∷ ks)
    unfolding pick_key
    here e q = is_eq _ _ _ _ _ e q

    pub further : (kind ≡ k.kind → ⊥) → x ≡ pick_key kind part ks → x ≡ pick_key kind part (k ∷ ks)
    unfolding pick_key
    further e q = is_ne _ _ _ _ _ e q

  pub unkeyed : None ≡ pick_key kind part []
  unfolding pick_key
  unkeyed = refl
