-- The promise fixes one answer: two that meet it are equal. Stated on the promise itself. Assumes nothing.
use mathlib.Core.Path.{◌≡◌, sym, ◌∙◌}
use Rattle.canonical.proofs.by.Reads as canonical-by

canonical-by-fixed : (κs : _) (a : _) (r q : _) (s t : _) → canonical-by.Post κs a r s → canonical-by.Post κs a q t → r ≡ q
canonical-by-fixed κs a r q s t p o = p ∙ sym o
