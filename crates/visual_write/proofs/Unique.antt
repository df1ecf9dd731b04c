-- Each promise fixes one answer, and the buffer with it: two that meet it are equal. Stated on the promise itself.
-- Assumes nothing.
use mathlib.Core.Path.{◌≡◌}
use Rattle.visual_write.proofs.write.Reads as visual-write

visual-write-fixed : (κs : _) (a : _) (r q : _) (s t : _) → visual-write.Post κs a r s → visual-write.Post κs a q t → (r ≡ q) × (s.1.1.1.0.now ≡ t.1.1.1.0.now)
visual-write-fixed κs a r q s t p o = (cc, cc)
