-- The promise fixes one answer, with both tables as they are left: two that meet it are equal. Stated on the promise
-- itself. Assumes nothing.
use mathlib.Core.Path.{◌≡◌}
use Rattle.moofs.proofs.fill.Reads as moofs-fill

fill-fixed : (κs : _) (a : _) (r q : _) (s t : _) → moofs-fill.Post κs a r s → moofs-fill.Post κs a q t
    → (r ≡ q) × (s.1.1.1.1.1.1.1.0.now ≡ t.1.1.1.1.1.1.1.0.now) × (s.1.1.1.1.1.1.1.1.0.now ≡ t.1.1.1.1.1.1.1.1.0.now)
fill-fixed κs a r q s t p o = (cc, cc, cc)
