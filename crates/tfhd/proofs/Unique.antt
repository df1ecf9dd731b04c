-- Each promise fixes one answer, and the buffer with it: two that meet it are equal. Stated on the promise itself.
-- Assumes nothing.
use mathlib.Core.Path.{◌≡◌, sym, ◌∙◌}
use Rattle.tfhd.proofs.read.Reads as tfhd-read
use Rattle.tfhd.proofs.write.Reads as tfhd-write

tfhd-read-fixed : (κs : _) (a : _) (r q : _) (s t : _) → tfhd-read.Post κs a r s → tfhd-read.Post κs a q t → r ≡ q
tfhd-read-fixed κs a r q s t p o = p ∙ sym o

tfhd-write-fixed : (κs : _) (a : _) (r q : _) (s t : _) → tfhd-write.Post κs a r s → tfhd-write.Post κs a q t → (r ≡ q) × (s.1.0.now ≡ t.1.0.now)
tfhd-write-fixed κs a r q s t p o = (cc, cc)
