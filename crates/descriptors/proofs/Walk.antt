-- The walk over descriptors: each turn of the loop is a step of the definition. Assumes nothing.
use Rattle.std.specs.Prelude.{Result, Option, Ok, Err, Some, None}
use mathlib.Core.Path.{◌≡◌, refl, sym, ap, ◌∙◌}
use mathlib.Core.List.{List}
use Prim.Native.Nat.{ℕ, zero, suc, ◌+◌, ◌<◌, ◌≤◌}
use native.Mathlib.Omega.{arith}
use lib.ListN.{length}
use lib.Dec.{eqb}
use borrow.Author.Tests.{lt-ltb, le-ltb}
use Rattle.numbers.specs.Field.{when}
use Rattle.numbers.specs.declared.Refusal.{Refusal}
use Rattle.numbers.proofs.Chain.{is_eq, is_ne}
use Rattle.descriptor.specs.Descriptor.{head_of}
use Rattle.descriptor.proofs.Laws.{headed}
use Rattle.descriptors.specs.Descriptors.{seek_from}
use Rattle.descriptors.specs.Descriptors as is
use Rattle.descriptors.specs.declared.Sought.{Sought}
use Rattle.descriptor.specs.Descriptor.{head_record}
use Rattle.descriptors.specs.Descriptors.{sought_record}

module _ (s : List ℕ) (one other : ℕ) where
  -- no byte is left
  pub spent : (f at : ℕ) → length s ≤ at → seek_from f s at one other ≡ (Ok None)
  unfolding seek_from when
  spent zero at h = refl
  spent (suc f) at h = ap (λ t. when t (is.headed one other at (λ to. seek_from f s to one other) (head_of s at)) (Ok None)) (le-ltb at (length s) h)

  -- a byte is left, and fuel with it
  pub turn : (f at : ℕ) → at < length s → length s ≤ at + f → (g : ℕ) × (f ≡ suc g) × (seek_from f s at one other ≡ is.headed one other at (λ to. seek_from g s to one other) (head_of s at))
  unfolding seek_from when
  turn zero at h l = absurd (omega arith)
  turn (suc f) at h l = (f, refl, ap (λ t. when t (is.headed one other at (λ to. seek_from f s to one other) (head_of s at)) (Ok None)) (lt-ltb at (length s) h))

  module _ (f at : ℕ) (h : at < length s) (l : length s ≤ at + f) where
    pub fault : (q : Refusal) → head_of s at ≡ Err q → Err q ≡ seek_from f s at one other
    fault q e = let t = turn f at h l in sym (t.2 ∙ ap (is.headed one other at (λ to. seek_from t.0 s to one other)) e)

    module _ (tag from to : ℕ) (e : head_of s at ≡ Ok (head_record tag from to)) where
      pub is_one : tag ≡ one → Ok (Some (sought_record tag at from to)) ≡ seek_from f s at one other
      is_one q =
          let t = turn f at h l in
          is_eq _ (when (eqb tag other) (Ok (Some (sought_record tag at from to))) (seek_from t.0 s to one other)) _ tag one q refl
          ∙ sym (t.2 ∙ ap (is.headed one other at (λ to. seek_from t.0 s to one other)) e)

      pub is-other : (tag ≡ one → ⊥) → tag ≡ other → Ok (Some (sought_record tag at from to)) ≡ seek_from f s at one other
      is-other p q =
          let t = turn f at h l in
          is_ne (Ok (Some (sought_record tag at from to))) _ _ tag one p (is_eq _ (seek_from t.0 s to one other) _ tag other q refl)
          ∙ sym (t.2 ∙ ap (is.headed one other at (λ to. seek_from t.0 s to one other)) e)

      pub is_none : (tag ≡ one → ⊥) → (tag ≡ other → ⊥) → (z : Result (Option Sought) Refusal) → seek_from f s at one other ≡ z → (g : ℕ) × (length s ≤ to + g) × (seek_from g s to one other ≡ z)
      is_none p q z i =
          let t = turn f at h l in
          let w = headed s at tag from to e in (
            t.0,
            omega (arith, t.1, w.before, w.content),
            is_ne (Ok (Some (sought_record tag at from to))) _ _ tag one p (is_ne (Ok (Some (sought_record tag at from to))) _ _ tag other q refl)
                ∙ sym (t.2 ∙ ap (is.headed one other at (λ to. seek_from t.0 s to one other)) e) ∙ i,
          )
