-- Each promise fixes one answer, and the buffer with it: two that meet it are equal. Stated on the promise itself.
-- Assumes nothing.
use mathlib.Core.Path.{◌≡◌}
use Rattle.layout_write.proofs.by.Reads as write-by
use Rattle.layout_write.proofs.plain.Reads as write-plain

write-by-fixed : (κs : _) (a : _) (r q : _) (s t : _) → write-by.Post κs a r s → write-by.Post κs a q t → (r ≡ q) × (s.0.now ≡ t.0.now)
write-by-fixed κs a r q s t p o = (cc, cc)

write-plain-fixed : (κs : _) (a : _) (r q : _) (s t : _) → write-plain.Post κs a r s → write-plain.Post κs a q t → (r ≡ q) × (s.0.now ≡ t.0.now)
write-plain-fixed κs a r q s t p o = (cc, cc)
