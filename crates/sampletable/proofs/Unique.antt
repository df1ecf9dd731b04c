-- The promise fixes one answer, and the buffer: two that meet it are equal. Stated on the promise itself. Assumes nothing.
use mathlib.Core.Path.{◌≡◌}
use Rattle.sampletable.proofs.write.Reads as write

write-fixed : (κs : _) (a : _) (r q : _) (s t : _) → write.Post κs a r s → write.Post κs a q t → (r ≡ q) × (s.1.1.1.1.0.now ≡ t.1.1.1.1.0.now)
write-fixed κs a r q s t p o = (cc, cc)
