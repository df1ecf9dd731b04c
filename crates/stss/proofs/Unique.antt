-- Each promise fixes one answer, and the buffer with it: two that meet it are equal. Stated on the promise itself.
-- Assumes nothing.
use mathlib.Core.Path.{◌≡◌, sym, ◌∙◌}
use Rattle.stss.proofs.read.Reads as stss-read
use Rattle.stss.proofs.write.Reads as stss-write
use Rattle.stss.proofs.entry.Reads as stss-entry

stss-read-fixed : (κs : _) (a : _) (r q : _) (s t : _) → stss-read.Post κs a r s → stss-read.Post κs a q t → r ≡ q
stss-read-fixed κs a r q s t p o = p ∙ sym o

stss-write-fixed : (κs : _) (a : _) (r q : _) (s t : _) → stss-write.Post κs a r s → stss-write.Post κs a q t → (r ≡ q) × (s.1.1.0.now ≡ t.1.1.0.now)
stss-write-fixed κs a r q s t p o = (cc, cc)

stss-entry-fixed : (κs : _) (a : _) (r q : _) (s t : _) → stss-entry.Post κs a r s → stss-entry.Post κs a q t → r ≡ q
stss-entry-fixed κs a r q s t p o = p ∙ sym o
