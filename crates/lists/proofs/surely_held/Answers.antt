use Prim.Native.Nat.{ℕ}
use mathlib.Core.Path.{sym, ◌∙◌}
use native.Mathlib.Omega.{arith}
use Rattle.tables.specs.Tables.{chunks}
use Rattle.lists.proofs.Held.{below-low, narrow_below, surely, says_nothing}
use Rattle.lists.proofs.surely_held.Goals as goal

pub returns-then-places : goal.returns-then-places
returns-then-places c =
    λ e. surely _ c.args.track (λ (i : ℕ). omega (arith, c.shared_slice_known-1.given i)) (omega (arith, c.well_formed.1.0.1)) c.if-sizes-gt-MANY.false (below-low (chunks c.args.file.now c.args.track.stco) (sym c.all_low.ensures ∙ e))

pub returns : goal.returns
returns c =
    λ e. surely _ c.args.track (λ (i : ℕ). omega (arith, c.shared_slice_known-1.given i)) (omega (arith, c.well_formed.1.0.1)) c.if-sizes-gt-MANY.false (narrow_below _ (λ (i : ℕ). omega (arith, c.shared_slice_known-1.given i)) c.args.track.stco c.if-places.false)
