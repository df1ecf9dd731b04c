-- Each promise fixes one answer, and the buffer with it: two that meet it are equal. Stated on the promise itself.
-- Assumes nothing.
use mathlib.Core.Path.{◌≡◌}
use Rattle.tx3g_write.proofs.write.Reads as tx3g-write

tx3g-write-fixed : (κs : _) (a : _) (r q : _) (s t : _) → tx3g-write.Post κs a r s → tx3g-write.Post κs a q t → (r ≡ q) × (s.1.1.0.now ≡ t.1.1.0.now)
tx3g-write-fixed κs a r q s t p o = (cc, cc)
