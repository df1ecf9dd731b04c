-- Each promise fixes one answer, and the buffer with it: two that meet it are equal. Stated on the promise itself.
-- Assumes nothing.
use mathlib.Core.Path.{◌≡◌, sym, ◌∙◌}
use Rattle.visual_parts.proofs.children.Reads as visual-children

visual-children-fixed : (κs : _) (a : _) (r q : _) (s t : _) → visual-children.Post κs a r s → visual-children.Post κs a q t → r.now ≡ q.now
visual-children-fixed κs a r q s t p o = p ∙ sym o
