-- The promise fixes one answer: two that meet it are equal. Stated on the promise itself. Assumes nothing.
use mathlib.Core.Path.{◌≡◌, sym, ◌∙◌}
use Rattle.esds.proofs.read.Reads as esds-read

esds-read-fixed : (κs : _) (a : _) (r q : _) (s t : _) → esds-read.Post κs a r s → esds-read.Post κs a q t → r ≡ q
esds-read-fixed κs a r q s t p o = p ∙ sym o
