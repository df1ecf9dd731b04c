-- Each promise fixes one answer, and the buffer with it: two that meet it are equal. Stated on the promise itself.
-- Assumes nothing.
use mathlib.Core.Path.{◌≡◌}
use Rattle.vpcc_write.proofs.write.Reads as vpcc-write

vpcc-write-fixed : (κs : _) (a : _) (r q : _) (s t : _) → vpcc-write.Post κs a r s → vpcc-write.Post κs a q t → (r ≡ q) × (s.1.1.0.now ≡ t.1.1.0.now)
vpcc-write-fixed κs a r q s t p o = (cc, cc)
