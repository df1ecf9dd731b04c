-- Each promise fixes one answer, and the buffer with it: two that meet it are equal. Stated on the promise itself.
-- Assumes nothing.
use mathlib.Core.Path.{◌≡◌, sym, ◌∙◌}
use Rattle.asc.proofs.read.Reads as asc-read
use Rattle.asc.proofs.write.Reads as asc-write

asc-read-fixed : (κs : _) (a : _) (r q : _) (s t : _) → asc-read.Post κs a r s → asc-read.Post κs a q t → r ≡ q
asc-read-fixed κs a r q s t p o = p ∙ sym o

asc-write-fixed : (κs : _) (a : _) (r q : _) (s t : _) → asc-write.Post κs a r s → asc-write.Post κs a q t → (r ≡ q) × (s.1.0.now ≡ t.1.0.now)
asc-write-fixed κs a r q s t p o = (cc, cc)
