-- Each promise fixes one answer, and the buffer with it: two that meet it are equal. Stated on the promise itself.
-- Assumes nothing.
use mathlib.Core.Path.{◌≡◌, sym, ◌∙◌}
use Rattle.boxes.proofs.header.read.Reads as header_read
use Rattle.boxes.proofs.header.write.Reads as header-write
use Rattle.boxes.proofs.full.read.Reads as full-read
use Rattle.boxes.proofs.full.write.Reads as full-write

header-read-fixed : (κs : _) (a : _) (r q : _) (s t : _) → header_read.Post κs a r s → header_read.Post κs a q t → r ≡ q
header-read-fixed κs a r q s t p o = p ∙ sym o

header-write-fixed : (κs : _) (a : _) (r q : _) (s t : _) → header-write.Post κs a r s → header-write.Post κs a q t → (r ≡ q) × (s.0.now ≡ t.0.now)
header-write-fixed κs a r q s t p o = (cc, cc)

full-read-fixed : (κs : _) (a : _) (r q : _) (s t : _) → full-read.Post κs a r s → full-read.Post κs a q t → r ≡ q
full-read-fixed κs a r q s t p o = p ∙ sym o

full-write-fixed : (κs : _) (a : _) (r q : _) (s t : _) → full-write.Post κs a r s → full-write.Post κs a q t → (r ≡ q) × (s.0.now ≡ t.0.now)
full-write-fixed κs a r q s t p o = (cc, cc)
