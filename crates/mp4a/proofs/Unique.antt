-- Each promise fixes one answer, and the buffer with it: two that meet it are equal. Stated on the promise itself.
-- Assumes nothing.
use mathlib.Core.Path.{◌≡◌, sym, ◌∙◌}
use Rattle.mp4a.proofs.read.Reads as mp4a-read
use Rattle.mp4a.proofs.write.Reads as mp4a-write
use Rattle.mp4a.proofs.children.Reads as mp4a-children
use Rattle.mp4a.proofs.esds.Reads as mp4a-esds

mp4a-read-fixed : (κs : _) (a : _) (r q : _) (s t : _) → mp4a-read.Post κs a r s → mp4a-read.Post κs a q t → r ≡ q
mp4a-read-fixed κs a r q s t p o = p ∙ sym o

mp4a-write-fixed : (κs : _) (a : _) (r q : _) (s t : _) → mp4a-write.Post κs a r s → mp4a-write.Post κs a q t → (r ≡ q) × (s.1.1.0.now ≡ t.1.1.0.now)
mp4a-write-fixed κs a r q s t p o = (cc, cc)

mp4a-children-fixed : (κs : _) (a : _) (r q : _) (s t : _) → mp4a-children.Post κs a r s → mp4a-children.Post κs a q t → r.now ≡ q.now
mp4a-children-fixed κs a r q s t p o = p ∙ sym o

mp4a-esds-fixed : (κs : _) (a : _) (r q : _) (s t : _) → mp4a-esds.Post κs a r s → mp4a-esds.Post κs a q t → r.now ≡ q.now
mp4a-esds-fixed κs a r q s t p o = p ∙ sym o
