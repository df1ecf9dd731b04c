-- Each promise fixes one answer, and the buffer with it: two that meet it are equal. Stated on the promise itself.
-- Assumes nothing.
use mathlib.Core.Path.{◌≡◌, sym, ◌∙◌}
use Rattle.co64.proofs.read.Reads as co64-read
use Rattle.co64.proofs.write.Reads as co64-write
use Rattle.co64.proofs.entry.Reads as co64-entry

co64-read-fixed : (κs : _) (a : _) (r q : _) (s t : _) → co64-read.Post κs a r s → co64-read.Post κs a q t → r ≡ q
co64-read-fixed κs a r q s t p o = p ∙ sym o

co64-write-fixed : (κs : _) (a : _) (r q : _) (s t : _) → co64-write.Post κs a r s → co64-write.Post κs a q t → (r ≡ q) × (s.1.1.0.now ≡ t.1.1.0.now)
co64-write-fixed κs a r q s t p o = (cc, cc)

co64-entry-fixed : (κs : _) (a : _) (r q : _) (s t : _) → co64-entry.Post κs a r s → co64-entry.Post κs a q t → r ≡ q
co64-entry-fixed κs a r q s t p o = p ∙ sym o
