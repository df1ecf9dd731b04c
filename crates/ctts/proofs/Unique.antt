-- Each promise fixes one answer, and the buffer with it: two that meet it are equal. Stated on the promise itself.
-- Assumes nothing.
use mathlib.Core.Path.{◌≡◌, sym, ◌∙◌}
use Rattle.ctts.proofs.read.Reads as ctts-read
use Rattle.ctts.proofs.write.Reads as ctts-write
use Rattle.ctts.proofs.entry.Reads as ctts-entry

ctts-read-fixed : (κs : _) (a : _) (r q : _) (s t : _) → ctts-read.Post κs a r s → ctts-read.Post κs a q t → r ≡ q
ctts-read-fixed κs a r q s t p o = p ∙ sym o

ctts-write-fixed : (κs : _) (a : _) (r q : _) (s t : _) → ctts-write.Post κs a r s → ctts-write.Post κs a q t → (r ≡ q) × (s.1.1.0.now ≡ t.1.1.0.now)
ctts-write-fixed κs a r q s t p o = (cc, cc)

ctts-entry-fixed : (κs : _) (a : _) (r q : _) (s t : _) → ctts-entry.Post κs a r s → ctts-entry.Post κs a q t → r ≡ q
ctts-entry-fixed κs a r q s t p o = p ∙ sym o
