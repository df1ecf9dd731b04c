-- Each promise fixes one answer, and the buffer with it: two that meet it are equal. Stated on the promise itself.
-- Assumes nothing.
use mathlib.Core.Path.{◌≡◌, sym, ◌∙◌}
use Rattle.dref.proofs.read.Reads as dref-read
use Rattle.dref.proofs.write.Reads as dref-write
use Rattle.dref.proofs.entries.Reads as dref-entries

dref-read-fixed : (κs : _) (a : _) (r q : _) (s t : _) → dref-read.Post κs a r s → dref-read.Post κs a q t → r ≡ q
dref-read-fixed κs a r q s t p o = p ∙ sym o

dref-write-fixed : (κs : _) (a : _) (r q : _) (s t : _) → dref-write.Post κs a r s → dref-write.Post κs a q t → (r ≡ q) × (s.1.1.0.now ≡ t.1.1.0.now)
dref-write-fixed κs a r q s t p o = (cc, cc)

dref-entries-fixed : (κs : _) (a : _) (r q : _) (s t : _) → dref-entries.Post κs a r s → dref-entries.Post κs a q t → r.now ≡ q.now
dref-entries-fixed κs a r q s t p o = p ∙ sym o
