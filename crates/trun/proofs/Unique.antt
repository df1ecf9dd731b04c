-- Each promise fixes one answer, and the buffer with it: two that meet it are equal. Stated on the promise itself.
-- Assumes nothing.
use mathlib.Core.Path.{◌≡◌, sym, ◌∙◌}
use Rattle.trun.proofs.read.Reads as trun-read
use Rattle.trun.proofs.write.Reads as trun-write
use Rattle.trun.proofs.offset_of.Reads as trun-offset-of
use Rattle.trun.proofs.entry.Reads as trun-entry

trun-read-fixed : (κs : _) (a : _) (r q : _) (s t : _) → trun-read.Post κs a r s → trun-read.Post κs a q t → r ≡ q
trun-read-fixed κs a r q s t p o = p ∙ sym o

trun-write-fixed : (κs : _) (a : _) (r q : _) (s t : _) → trun-write.Post κs a r s → trun-write.Post κs a q t → (r ≡ q) × (s.1.1.0.now ≡ t.1.1.0.now)
trun-write-fixed κs a r q s t p o = (cc, cc)

trun-offset-of-fixed : (κs : _) (a : _) (r q : _) (s t : _) → trun-offset-of.Post κs a r s → trun-offset-of.Post κs a q t → r ≡ q
trun-offset-of-fixed κs a r q s t p o = p ∙ sym o

trun-entry-fixed : (κs : _) (a : _) (r q : _) (s t : _) → trun-entry.Post κs a r s → trun-entry.Post κs a q t → r ≡ q
trun-entry-fixed κs a r q s t p o = p ∙ sym o
