-- Each promise fixes one answer, and the buffer with it: two that meet it are equal. Stated on the promise itself.
-- Assumes nothing.
use mathlib.Core.Path.{◌≡◌, sym, ◌∙◌}
use Rattle.elst.proofs.read.Reads as elst-read
use Rattle.elst.proofs.write.Reads as elst-write
use Rattle.elst.proofs.entry.Reads as elst-entry

elst-read-fixed : (κs : _) (a : _) (r q : _) (s t : _) → elst-read.Post κs a r s → elst-read.Post κs a q t → r ≡ q
elst-read-fixed κs a r q s t p o = p ∙ sym o

elst-write-fixed : (κs : _) (a : _) (r q : _) (s t : _) → elst-write.Post κs a r s → elst-write.Post κs a q t → (r ≡ q) × (s.1.1.0.now ≡ t.1.1.0.now)
elst-write-fixed κs a r q s t p o = (cc, cc)

elst-entry-fixed : (κs : _) (a : _) (r q : _) (s t : _) → elst-entry.Post κs a r s → elst-entry.Post κs a q t → r ≡ q
elst-entry-fixed κs a r q s t p o = p ∙ sym o
