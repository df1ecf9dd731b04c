-- Each promise fixes one answer, and the buffer with it: two that meet it are equal. Stated on the promise itself.
-- Assumes nothing.
use mathlib.Core.Path.{◌≡◌, sym, ◌∙◌}
use Rattle.tx3g_parts.proofs.rest.Reads as tx3g-rest

tx3g-rest-fixed : (κs : _) (a : _) (r q : _) (s t : _) → tx3g-rest.Post κs a r s → tx3g-rest.Post κs a q t → r.now ≡ q.now
tx3g-rest-fixed κs a r q s t p o = p ∙ sym o
