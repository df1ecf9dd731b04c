-- The promise fixes one answer, and the buffer with it: two that meet it are equal. Stated on the promise itself. Assumes
-- nothing.
use mathlib.Core.Path.{◌≡◌}
use Rattle.opened.proofs.tell.Reads as tell

tell-fixed : (κs : _) (a : _) (r q : _) (s t : _) → tell.Post κs a r s → tell.Post κs a q t → (r ≡ q) × (s.1.1.1.0.now ≡ t.1.1.1.0.now)
tell-fixed κs a r q s t p o = (cc, cc)
