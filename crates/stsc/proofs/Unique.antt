-- Each promise fixes one answer, and the buffer with it: two that meet it are equal. Stated on the promise itself.
-- Assumes nothing.
use mathlib.Core.Path.{◌≡◌, sym, ◌∙◌}
use Rattle.stsc.proofs.read.Reads as stsc-read
use Rattle.stsc.proofs.write.Reads as stsc-write
use Rattle.stsc.proofs.entry.Reads as stsc-entry

stsc-read-fixed : (κs : _) (a : _) (r q : _) (s t : _) → stsc-read.Post κs a r s → stsc-read.Post κs a q t → r ≡ q
stsc-read-fixed κs a r q s t p o = p ∙ sym o

stsc-write-fixed : (κs : _) (a : _) (r q : _) (s t : _) → stsc-write.Post κs a r s → stsc-write.Post κs a q t → (r ≡ q) × (s.1.1.0.now ≡ t.1.1.0.now)
stsc-write-fixed κs a r q s t p o = (cc, cc)

stsc-entry-fixed : (κs : _) (a : _) (r q : _) (s t : _) → stsc-entry.Post κs a r s → stsc-entry.Post κs a q t → r ≡ q
stsc-entry-fixed κs a r q s t p o = p ∙ sym o
