-- Each promise fixes one answer, and the buffer with it: two that meet it are equal. Stated on the promise itself.
-- Assumes nothing.
use mathlib.Core.Path.{◌≡◌, sym, ◌∙◌}
use Rattle.descriptors.proofs.seek.Reads as descriptors-seek
use Rattle.descriptors.proofs.put.Reads as descriptors-put

descriptors-seek-fixed : (κs : _) (a : _) (r q : _) (s t : _) → descriptors-seek.Post κs a r s → descriptors-seek.Post κs a q t → r ≡ q
descriptors-seek-fixed κs a r q s t p o = p ∙ sym o

descriptors-put-fixed : (κs : _) (a : _) (r q : _) (s t : _) → descriptors-put.Post κs a r s → descriptors-put.Post κs a q t → (r ≡ q) × (s.0.now ≡ t.0.now)
descriptors-put-fixed κs a r q s t p o = (cc, cc)
