-- Each promise fixes one answer, and the buffer with it: two that meet it are equal. Stated on the promise itself.
-- Assumes nothing.
use mathlib.Core.Path.{◌≡◌, sym, ◌∙◌}
use Rattle.avcc.proofs.read.Reads as read
use Rattle.avcc.proofs.write.Reads as write

read-fixed : (κs : _) (a : _) (r q : _) (s t : _) → read.Post κs a r s → read.Post κs a q t → r ≡ q
read-fixed κs a r q s t p o = p ∙ sym o

write-fixed : (κs : _) (a : _) (r q : _) (s t : _) → write.Post κs a r s → write.Post κs a q t → (r ≡ q) × (s.1.1.1.1.0.now ≡ t.1.1.1.1.0.now)
write-fixed κs a r q s t p o = (cc, cc)
