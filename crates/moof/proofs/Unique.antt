-- The promise fixes one answer: two that meet it are equal. Stated on the promise itself. Assumes nothing.
use mathlib.Core.Path.{◌≡◌, sym, ◌∙◌}
use Rattle.moof.proofs.read.Reads as moof-read

moof-read-fixed : (κs : _) (a : _) (r q : _) (s t : _) → moof-read.Post κs a r s → moof-read.Post κs a q t → r ≡ q
moof-read-fixed κs a r q s t p o = p ∙ sym o
