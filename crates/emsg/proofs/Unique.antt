-- Each promise fixes one answer, and the buffer with it: two that meet it are equal. Stated on the promise itself.
-- Assumes nothing.
use mathlib.Core.Path.{◌≡◌, sym, ◌∙◌}
use Rattle.emsg.proofs.read.Reads as emsg-read

emsg-read-fixed : (κs : _) (a : _) (r q : _) (s t : _) → emsg-read.Post κs a r s → emsg-read.Post κs a q t → r ≡ q
emsg-read-fixed κs a r q s t p o = p ∙ sym o
