-- The promise fixes one answer: two that meet it are equal. Stated on the promise itself. Assumes nothing.
use mathlib.Core.Path.{◌≡◌, sym, ◌∙◌}
use Rattle.traf.proofs.read.Reads as traf-read

traf-read-fixed : (κs : _) (a : _) (r q : _) (s t : _) → traf-read.Post κs a r s → traf-read.Post κs a q t → r ≡ q
traf-read-fixed κs a r q s t p o = p ∙ sym o
