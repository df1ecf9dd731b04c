-- Each promise fixes one answer, and the buffer with it: two that meet it are equal. Stated on the promise itself.
-- Assumes nothing.
use mathlib.Core.Path.{◌≡◌, sym, ◌∙◌}
use Rattle.stsd.proofs.read.Reads as stsd-read
use Rattle.stsd.proofs.write.Reads as stsd-write
use Rattle.stsd.proofs.entries.Reads as stsd-entries
use Rattle.stsd.proofs.entry.Reads as stsd-entry

stsd-read-fixed : (κs : _) (a : _) (r q : _) (s t : _) → stsd-read.Post κs a r s → stsd-read.Post κs a q t → r ≡ q
stsd-read-fixed κs a r q s t p o = p ∙ sym o

stsd-write-fixed : (κs : _) (a : _) (r q : _) (s t : _) → stsd-write.Post κs a r s → stsd-write.Post κs a q t → (r ≡ q) × (s.1.1.0.now ≡ t.1.1.0.now)
stsd-write-fixed κs a r q s t p o = (cc, cc)

stsd-entries-fixed : (κs : _) (a : _) (r q : _) (s t : _) → stsd-entries.Post κs a r s → stsd-entries.Post κs a q t → r.now ≡ q.now
stsd-entries-fixed κs a r q s t p o = p ∙ sym o

stsd-entry-fixed : (κs : _) (a : _) (r q : _) (s t : _) → stsd-entry.Post κs a r s → stsd-entry.Post κs a q t → r.now ≡ q.now
stsd-entry-fixed κs a r q s t p o = p ∙ sym o
