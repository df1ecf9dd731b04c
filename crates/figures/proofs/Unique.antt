-- The promise fixes one answer, and the buffer with it: two that meet it are equal. Stated on the promise itself. Assumes
-- nothing.
use mathlib.Core.Path.{◌≡◌}
use Rattle.figures.proofs.of.Reads as of-reads

of-fixed : (κs : _) (a : _) (r q : _) (s t : _) → of-reads.Post κs a r s → of-reads.Post κs a q t → (r ≡ q) × (s.1.1.1.0.now ≡ t.1.1.1.0.now)
of-fixed κs a r q s t p o = (cc, cc)
