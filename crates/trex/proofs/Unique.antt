-- Each promise fixes one answer, and the buffer with it: two that meet it are equal. Stated on the promise itself.
-- Assumes nothing.
use mathlib.Core.Path.{◌≡◌, sym, ◌∙◌}
use Rattle.trex.proofs.read.Reads as trex-read
use Rattle.trex.proofs.write.Reads as trex-write

trex-read-fixed : (κs : _) (a : _) (r q : _) (s t : _) → trex-read.Post κs a r s → trex-read.Post κs a q t → r ≡ q
trex-read-fixed κs a r q s t p o = p ∙ sym o

trex-write-fixed : (κs : _) (a : _) (r q : _) (s t : _) → trex-write.Post κs a r s → trex-write.Post κs a q t → (r ≡ q) × (s.1.0.now ≡ t.1.0.now)
trex-write-fixed κs a r q s t p o = (cc, cc)
