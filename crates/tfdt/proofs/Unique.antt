-- Each promise fixes one answer, and the buffer with it: two that meet it are equal. Stated on the promise itself.
-- Assumes nothing.
use mathlib.Core.Path.{◌≡◌, sym, ◌∙◌}
use Rattle.tfdt.proofs.read.Reads as tfdt-read
use Rattle.tfdt.proofs.write.Reads as tfdt-write

tfdt-read-fixed : (κs : _) (a : _) (r q : _) (s t : _) → tfdt-read.Post κs a r s → tfdt-read.Post κs a q t → r ≡ q
tfdt-read-fixed κs a r q s t p o = p ∙ sym o

tfdt-write-fixed : (κs : _) (a : _) (r q : _) (s t : _) → tfdt-write.Post κs a r s → tfdt-write.Post κs a q t → (r ≡ q) × (s.1.0.now ≡ t.1.0.now)
tfdt-write-fixed κs a r q s t p o = (cc, cc)
