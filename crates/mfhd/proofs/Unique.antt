-- Each promise fixes one answer, and the buffer with it: two that meet it are equal. Stated on the promise itself.
-- Assumes nothing.
use mathlib.Core.Path.{◌≡◌, sym, ◌∙◌}
use Rattle.mfhd.proofs.read.Reads as mfhd-read
use Rattle.mfhd.proofs.write.Reads as mfhd-write

mfhd-read-fixed : (κs : _) (a : _) (r q : _) (s t : _) → mfhd-read.Post κs a r s → mfhd-read.Post κs a q t → r ≡ q
mfhd-read-fixed κs a r q s t p o = p ∙ sym o

mfhd-write-fixed : (κs : _) (a : _) (r q : _) (s t : _) → mfhd-write.Post κs a r s → mfhd-write.Post κs a q t → (r ≡ q) × (s.1.0.now ≡ t.1.0.now)
mfhd-write-fixed κs a r q s t p o = (cc, cc)
