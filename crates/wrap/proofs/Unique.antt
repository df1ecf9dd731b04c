-- Each promise fixes one answer, and the buffer with it: two that meet it are equal. Stated on the promise itself.
-- Assumes nothing.
use mathlib.Core.Path.{◌≡◌, sym, ◌∙◌}
use Rattle.wrap.proofs.content.Reads as content
use Rattle.wrap.proofs.around.Reads as around

content-fixed : (κs : _) (a : _) (r q : _) (s t : _) → content.Post κs a r s → content.Post κs a q t → r.now ≡ q.now
content-fixed κs a r q s t p o = p ∙ sym o

around-fixed : (κs : _) (a : _) (r q : _) (s t : _) → around.Post κs a r s → around.Post κs a q t → (r ≡ q) × (s.1.1.0.now ≡ t.1.1.0.now)
around-fixed κs a r q s t p o = (cc, cc)
