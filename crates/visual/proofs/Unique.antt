-- Each promise fixes one answer, and the buffer with it: two that meet it are equal. Stated on the promise itself.
-- Assumes nothing.
use mathlib.Core.Path.{◌≡◌, sym, ◌∙◌}
use Rattle.visual.proofs.read.Reads as visual-read

visual-read-fixed : (κs : _) (a : _) (r q : _) (s t : _) → visual-read.Post κs a r s → visual-read.Post κs a q t → r ≡ q
visual-read-fixed κs a r q s t p o = p ∙ sym o
