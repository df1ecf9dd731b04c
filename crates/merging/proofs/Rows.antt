-- What each merged row is: it counts at least 1 and at most 2^32 - 1, and its value is one of the values. Assumes nothing.
use Prim.Native.Nat.{ℕ, ◌+◌, ◌-◌, ◌^◌, ◌≤◌, ◌<◌}
use mathlib.Core.Path.{◌≡◌, refl, sym, ap, subst, ◌∙◌}
use mathlib.Core.List.{List, [], ◌∷◌, ◌++◌}
use native.Mathlib.Omega.{arith}
use lib.ListN.{length}
use Rattle.tables.specs.declared.Row.{Row}
use Rattle.merging.specs.declared.Open.{Open}
use Rattle.merging.specs.declared.Step.{Step}
use Rattle.merging.specs.Merging.{most, run, fresh, row_of, step_of, finish_of, rows_of, open_of, merged_from, merged_of}
use Rattle.merging.proofs.Steps.{Way, first, longer, closes, way_of, Ended, none, some, ended_of}
use Rattle.merging.proofs.Fewest.{many, at_most_one, one-or-none}

-- every one of a list is so
pub data All {A : Type 0} (P : A → Type 0) : List A → Type 0 where
  nothing : All P []
  each : {x : A} {l : List A} → P x → All P l → All P (x ∷ l)

pub record Right (Q : ℕ → Type 0) (r : Row) : Type 0 where
  pub some : 0 < r.count
  pub bounded : r.count ≤ most
  pub own : Q r.value

module _ (Q : ℕ → Type 0) where
  -- an open run whose value is one of them, where it counts any
  pub record Going (o : Open) : Type 0 where
    pub bounded : o.count ≤ most
    pub own : 0 < o.count → Q o.value

  pub right-from : (o : Open) (l : List ℕ) → Going o → All Q l → All (Right Q) (merged_from o l)
  right-from o [] g nothing = cases (ended_of o)
    where
      cases : Ended o → All (Right Q) (rows_of (finish_of o))
      cases (none z e) = subst (λ s. All (Right Q) (rows_of s)) (sym e) nothing
      cases (some z e) = subst (λ s. All (Right Q) (rows_of s)) (sym e) (each (record { some = z; bounded = g.bounded; own = g.own z }) nothing)
  right-from o (v ∷ l) g (each q h) =
      cases (way_of o v) (right-from (run 1 v) l (record { bounded = omega arith; own = λ z. q }) h) (λ k. right-from (run (o.count + 1) v) l (record { bounded = omega arith; own = λ z. q }) h)
    where
      cases : Way o v → All (Right Q) (merged_from (run 1 v) l) → (o.count < most → All (Right Q) (merged_from (run (o.count + 1) v) l))
          → All (Right Q) (rows_of (step_of o v) ++ merged_from (open_of (step_of o v)) l)
      cases (first z e) a b = subst (λ s. All (Right Q) (rows_of s ++ merged_from (open_of s) l)) (sym e) a
      cases (longer z r k e) a b = subst (λ s. All (Right Q) (rows_of s ++ merged_from (open_of s) l)) (sym e) (b k)
      cases (closes z r e) a b =
          subst (λ s. All (Right Q) (rows_of s ++ merged_from (open_of s) l)) (sym e) (each (record { some = z; bounded = g.bounded; own = g.own z }) a)

  pub merged-right : (l : List ℕ) → All Q l → All (Right Q) (merged_of l)
  merged-right l h = right-from fresh l (record { bounded = omega arith; own = λ z. absurd (omega arith) }) h

-- at most one row more than there are values
pub few-rows : (o : Open) (l : List ℕ) → many o l ≤ 1 + length l
few-rows o [] = omega (arith, one-or-none (finish_of o))
few-rows o (v ∷ l) = omega (arith, at_most_one (step_of o v) l, few-rows (open_of (step_of o v)) l)
