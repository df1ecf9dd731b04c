-- Each promise fixes one answer, and the buffer with it: two that meet it are equal. Stated on the promise itself.
-- Assumes nothing.
use mathlib.Core.Path.{◌≡◌, sym, ◌∙◌}
use Rattle.tx3g.proofs.read.Reads as tx3g-read

tx3g-read-fixed : (κs : _) (a : _) (r q : _) (s t : _) → tx3g-read.Post κs a r s → tx3g-read.Post κs a q t → r ≡ q
tx3g-read-fixed κs a r q s t p o = p ∙ sym o
