-- Each promise fixes one answer, and the buffer with it: two that meet it are equal. Stated on the promise itself.
-- Assumes nothing.
use mathlib.Core.Path.{◌≡◌, sym, ◌∙◌}
use Rattle.tkhd.proofs.read.Reads as tkhd-read
use Rattle.tkhd.proofs.write.Reads as tkhd-write

tkhd-read-fixed : (κs : _) (a : _) (r q : _) (s t : _) → tkhd-read.Post κs a r s → tkhd-read.Post κs a q t → r ≡ q
tkhd-read-fixed κs a r q s t p o = p ∙ sym o

tkhd-write-fixed : (κs : _) (a : _) (r q : _) (s t : _) → tkhd-write.Post κs a r s → tkhd-write.Post κs a q t → (r ≡ q) × (s.1.0.now ≡ t.1.0.now)
tkhd-write-fixed κs a r q s t p o = (cc, cc)
