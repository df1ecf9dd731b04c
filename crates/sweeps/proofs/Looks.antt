-- What is seen of one track's next sample. Assumes nothing.
use Prim.Native.Nat.{ℕ, ◌≤◌, ◌<◌}
use mathlib.Core.Path.{◌≡◌, refl}
use Rattle.numbers.proofs.Chain.{is_lt, not-lt, is_eq, is_ne}
use Rattle.sweeps.specs.declared.Seen.{Seen}
use Rattle.sweeps.specs.Heads.{see_at}

module _ (l : Seen) (t p o : ℕ) where
  pub sees_below : o < p → l.below ≡ 4 → record { below = t; first = l.first; second = l.second } ≡ see_at l t p o
  unfolding see_at
  sees_below h e = is_lt _ _ _ o p h (is_eq _ _ _ l.below 4 e refl)

  pub keeps_below : o < p → (l.below ≡ 4 → ⊥) → l ≡ see_at l t p o
  unfolding see_at
  keeps_below h e = is_lt _ _ _ o p h (is_ne _ _ _ l.below 4 e refl)

  pub keeps-above : p ≤ o → (o ≡ p → ⊥) → l ≡ see_at l t p o
  unfolding see_at
  keeps-above h n = not-lt _ _ _ o p h (is_ne _ _ _ o p n refl)

  module _ (h : p ≤ o) (e : o ≡ p) where
    pub sees-first : l.first ≡ 4 → record { below = l.below; first = t; second = l.second } ≡ see_at l t p o
    unfolding see_at
    sees-first a = not-lt _ _ _ o p h (is_eq _ _ _ o p e (is_eq _ _ _ l.first 4 a refl))

    pub sees-second : (l.first ≡ 4 → ⊥) → l.second ≡ 4 → record { below = l.below; first = l.first; second = t } ≡ see_at l t p o
    unfolding see_at
    sees-second a b = not-lt _ _ _ o p h (is_eq _ _ _ o p e (is_ne _ _ _ l.first 4 a (is_eq _ _ _ l.second 4 b refl)))

    pub keeps-both : (l.first ≡ 4 → ⊥) → (l.second ≡ 4 → ⊥) → l ≡ see_at l t p o
    unfolding see_at
    keeps-both a b = not-lt _ _ _ o p h (is_eq _ _ _ o p e (is_ne _ _ _ l.first 4 a (is_ne _ _ _ l.second 4 b refl)))
