-- The promise fixes one answer: two that meet it are equal. Stated on the promise itself. Assumes nothing.
use mathlib.Core.Path.{◌≡◌, sym, ◌∙◌}
use Rattle.tableboxes.proofs.find.Reads as find

find-fixed : (κs : _) (a : _) (r q : _) (s t : _) → find.Post κs a r s → find.Post κs a q t → r ≡ q
find-fixed κs a r q s t p o = p ∙ sym o
