-- Each promise fixes one answer, and the buffer: two that meet it are equal. Stated on the promise itself. Assumes nothing.
use mathlib.Core.Path.{◌≡◌}
use Rattle.builder.proofs.stts.entries.Reads as stts
use Rattle.builder.proofs.ctts.entries.Reads as ctts

stts-fixed : (κs : _) (a : _) (r q : _) (s t : _) → stts.Post κs a r s → stts.Post κs a q t → (r ≡ q) × (s.1.1.0.now ≡ t.1.1.0.now)
stts-fixed κs a r q s t p o = (cc, cc)

ctts-fixed : (κs : _) (a : _) (r q : _) (s t : _) → ctts.Post κs a r s → ctts.Post κs a q t → (r ≡ q) × (s.1.1.0.now ≡ t.1.1.0.now)
ctts-fixed κs a r q s t p o = (cc, cc)
