-- Each promise fixes one answer, and the buffer with it: two that meet it are equal. Stated on the promise itself.
-- Assumes nothing.
use mathlib.Core.Path.{◌≡◌, sym, ◌∙◌}
use Rattle.stsz.proofs.read.Reads as stsz-read
use Rattle.stsz.proofs.write.Reads as stsz-write
use Rattle.stsz.proofs.entry.Reads as stsz-entry

stsz-read-fixed : (κs : _) (a : _) (r q : _) (s t : _) → stsz-read.Post κs a r s → stsz-read.Post κs a q t → r ≡ q
stsz-read-fixed κs a r q s t p o = p ∙ sym o

stsz-write-fixed : (κs : _) (a : _) (r q : _) (s t : _) → stsz-write.Post κs a r s → stsz-write.Post κs a q t → (r ≡ q) × (s.1.1.0.now ≡ t.1.1.0.now)
stsz-write-fixed κs a r q s t p o = (cc, cc)

stsz-entry-fixed : (κs : _) (a : _) (r q : _) (s t : _) → stsz-entry.Post κs a r s → stsz-entry.Post κs a q t → r ≡ q
stsz-entry-fixed κs a r q s t p o = p ∙ sym o
