-- Each promise fixes one answer, and the buffer with it: two that meet it are equal. Stated on the promise itself.
-- Assumes nothing.
use mathlib.Core.Path.{◌≡◌, sym, ◌∙◌}
use Rattle.mdhd.proofs.read.Reads as mdhd-read
use Rattle.mdhd.proofs.write.Reads as mdhd-write

mdhd-read-fixed : (κs : _) (a : _) (r q : _) (s t : _) → mdhd-read.Post κs a r s → mdhd-read.Post κs a q t → r ≡ q
mdhd-read-fixed κs a r q s t p o = p ∙ sym o

mdhd-write-fixed : (κs : _) (a : _) (r q : _) (s t : _) → mdhd-write.Post κs a r s → mdhd-write.Post κs a q t → (r ≡ q) × (s.1.0.now ≡ t.1.0.now)
mdhd-write-fixed κs a r q s t p o = (cc, cc)
