-- Each promise fixes one answer, and the buffer with it: two that meet it are equal. Stated on the promise itself.
-- Assumes nothing.
use mathlib.Core.Path.{◌≡◌, sym, ◌∙◌}
use Rattle.containers.proofs.dinf.read.Reads as dinf-read
use Rattle.containers.proofs.edts.read.Reads as edts-read
use Rattle.containers.proofs.mvex.read.Reads as mvex-read

dinf-read-fixed : (κs : _) (a : _) (r q : _) (s t : _) → dinf-read.Post κs a r s → dinf-read.Post κs a q t → r ≡ q
dinf-read-fixed κs a r q s t p o = p ∙ sym o

edts-read-fixed : (κs : _) (a : _) (r q : _) (s t : _) → edts-read.Post κs a r s → edts-read.Post κs a q t → r ≡ q
edts-read-fixed κs a r q s t p o = p ∙ sym o

mvex-read-fixed : (κs : _) (a : _) (r q : _) (s t : _) → mvex-read.Post κs a r s → mvex-read.Post κs a q t → r ≡ q
mvex-read-fixed κs a r q s t p o = p ∙ sym o
