-- The promise fixes one answer: two that meet it are equal. Stated on the promise itself. Assumes nothing.
use mathlib.Core.Path.{◌≡◌, sym, ◌∙◌}
use Rattle.gaps.proofs.between.Reads as between

between-fixed : (κs : _) (a : _) (r q : _) (s t : _) → between.Post κs a r s → between.Post κs a q t → r ≡ q
between-fixed κs a r q s t p o = p ∙ sym o
