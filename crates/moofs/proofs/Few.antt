-- There are no more runs and moofs, together, than recorded boxes: each has a row of its own. Assumes nothing.
use Prim.Native.Nat.{ℕ, zero, suc, ◌+◌, ◌≤◌, min}
use mathlib.Core.Path.{◌≡◌, refl, ap, ◌∙◌}
use mathlib.Core.List.{List}
use mathlib.Core.Bool.{true, false}
use native.Mathlib.Omega.{arith}
use lib.ListN.{length}
use Rattle.kin.specs.Kin.{Boxes}
use Rattle.runs.specs.declared.Run.{Run}
use Rattle.mooftable.specs.declared.Moof.{Moof}
use Rattle.moofs.specs.Moofs.{Fragment, all, fragments_of, all_runs}
use Rattle.moofs.specs.Walk.{Move, still, begins, adds, stop, row, begun, added, move_of, Plan, plan, none, run_first, moof_first, left_by, left_in, plan_of}
use Rattle.moofs.specs.declared.State.{State}
use Rattle.moofs.proofs.Left.{all_left}
use Rattle.moofs.proofs.Filling.{length-moofs}

abbrev rows : Plan → ℕ
rows (plan rs ms) = length rs + length ms
rows (none q) = 0

one-run : (r : Run) (p : Plan) → rows (run_first r p) ≤ suc (rows p)
one-run r (plan rs ms) = omega arith
one-run r (none q) = omega arith

one-moof : (m : Moof) (p : Plan) → rows (moof_first m p) ≤ suc (rows p)
one-moof m (plan rs ms) = omega arith
one-moof m (none q) = omega arith

one-row : (k : ℕ) (σ : State) (mv : Move) (go : State → Plan) → ((o : State) → rows (go o) ≤ k) → rows (left_by σ mv go) ≤ suc k
one-row k σ still go h = omega (arith, h σ)
one-row k σ (begins start number) go h = omega (arith, h (begun start σ), one-moof (row start number σ.runs) (go (begun start σ)))
one-row k σ (adds r e) go h = omega (arith, h (added e σ), one-run r (go (added e σ)))
one-row k σ (stop q) go h = omega arith

-- a walk that has not begun
abbrev pub fresh : State
fresh = record { inside = false; start = 0; first = true; previous = 0; runs = 0; moofs = 0 }

module _ (s : List ℕ) (t : Boxes) (n : ℕ) where
  left-few : (k j : ℕ) (σ : State) → rows (left_in s t n k j σ) ≤ k
  unfolding left_in
  left-few zero j σ = omega arith
  left-few (suc k) j σ = one-row k σ (move_of s t n j σ) (left_in s t n k (j + 1)) (left-few k (j + 1))

  pub together : (fs : List Fragment) → fragments_of s t n ≡ all fs → length (all_runs fs) + length fs ≤ min n 4096
  unfolding plan_of
  together fs e =
      omega (arith, left-few (min n 4096) 0 fresh, ap rows (all_left s t n (min n 4096) fresh refl refl ∙ ap plan_of e), length-moofs 0 fs)
