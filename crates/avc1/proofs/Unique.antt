-- Each promise fixes one answer, and the buffer with it: two that meet it are equal. Stated on the promise itself.
-- Assumes nothing.
use mathlib.Core.Path.{◌≡◌, sym, ◌∙◌}
use Rattle.avc1.proofs.read.Reads as avc1-read
use Rattle.avc1.proofs.children.Reads as avc1-children
use Rattle.avc1.proofs.avcc.Reads as avc1-avcc
use Rattle.avc1.proofs.write.Reads as avc1-write

avc1-read-fixed : (κs : _) (a : _) (r q : _) (s t : _) → avc1-read.Post κs a r s → avc1-read.Post κs a q t → r ≡ q
avc1-read-fixed κs a r q s t p o = p ∙ sym o

avc1-children-fixed : (κs : _) (a : _) (r q : _) (s t : _) → avc1-children.Post κs a r s → avc1-children.Post κs a q t → r.now ≡ q.now
avc1-children-fixed κs a r q s t p o = p ∙ sym o

avc1-avcc-fixed : (κs : _) (a : _) (r q : _) (s t : _) → avc1-avcc.Post κs a r s → avc1-avcc.Post κs a q t → r.now ≡ q.now
avc1-avcc-fixed κs a r q s t p o = p ∙ sym o

avc1-write-fixed : (κs : _) (a : _) (r q : _) (s t : _) → avc1-write.Post κs a r s → avc1-write.Post κs a q t → (r ≡ q) × (s.1.1.0.now ≡ t.1.1.0.now)
avc1-write-fixed κs a r q s t p o = (cc, cc)
