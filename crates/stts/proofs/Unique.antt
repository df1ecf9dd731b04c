-- Each promise fixes one answer, and the buffer with it: two that meet it are equal. Stated on the promise itself.
-- Assumes nothing.
use mathlib.Core.Path.{◌≡◌, sym, ◌∙◌}
use Rattle.stts.proofs.read.Reads as stts-read
use Rattle.stts.proofs.write.Reads as stts-write
use Rattle.stts.proofs.entry.Reads as stts-entry

stts-read-fixed : (κs : _) (a : _) (r q : _) (s t : _) → stts-read.Post κs a r s → stts-read.Post κs a q t → r ≡ q
stts-read-fixed κs a r q s t p o = p ∙ sym o

stts-write-fixed : (κs : _) (a : _) (r q : _) (s t : _) → stts-write.Post κs a r s → stts-write.Post κs a q t → (r ≡ q) × (s.1.1.0.now ≡ t.1.1.0.now)
stts-write-fixed κs a r q s t p o = (cc, cc)

stts-entry-fixed : (κs : _) (a : _) (r q : _) (s t : _) → stts-entry.Post κs a r s → stts-entry.Post κs a q t → r ≡ q
stts-entry-fixed κs a r q s t p o = p ∙ sym o
