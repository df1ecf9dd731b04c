-- The promise fixes one answer: two that meet it are equal. Stated on the promise itself. Assumes nothing.
use mathlib.Core.Path.{◌≡◌, sym, ◌∙◌}
use Rattle.absolute.proofs.of.Reads as of

of-fixed : (κs : _) (a : _) (r q : _) (s t : _) → of.Post κs a r s → of.Post κs a q t → r ≡ q
of-fixed κs a r q s t p o = p ∙ sym o
