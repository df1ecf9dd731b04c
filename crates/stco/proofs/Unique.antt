-- Each promise fixes one answer, and the buffer with it: two that meet it are equal. Stated on the promise itself.
-- Assumes nothing.
use mathlib.Core.Path.{◌≡◌, sym, ◌∙◌}
use Rattle.stco.proofs.read.Reads as stco-read
use Rattle.stco.proofs.write.Reads as stco-write
use Rattle.stco.proofs.entry.Reads as stco-entry

stco-read-fixed : (κs : _) (a : _) (r q : _) (s t : _) → stco-read.Post κs a r s → stco-read.Post κs a q t → r ≡ q
stco-read-fixed κs a r q s t p o = p ∙ sym o

stco-write-fixed : (κs : _) (a : _) (r q : _) (s t : _) → stco-write.Post κs a r s → stco-write.Post κs a q t → (r ≡ q) × (s.1.1.0.now ≡ t.1.1.0.now)
stco-write-fixed κs a r q s t p o = (cc, cc)

stco-entry-fixed : (κs : _) (a : _) (r q : _) (s t : _) → stco-entry.Post κs a r s → stco-entry.Post κs a q t → r ≡ q
stco-entry-fixed κs a r q s t p o = p ∙ sym o
