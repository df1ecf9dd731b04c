-- Each promise fixes one answer, and the buffer with it: two that meet it are equal. Stated on the promise itself.
-- Assumes nothing.
use mathlib.Core.Path.{◌≡◌, sym, ◌∙◌}
use Rattle.vpcc.proofs.read.Reads as vpcc-read
use Rattle.vpcc.proofs.initialization.Reads as vpcc-initial

vpcc-read-fixed : (κs : _) (a : _) (r q : _) (s t : _) → vpcc-read.Post κs a r s → vpcc-read.Post κs a q t → r ≡ q
vpcc-read-fixed κs a r q s t p o = p ∙ sym o

vpcc-initial-fixed : (κs : _) (a : _) (r q : _) (s t : _) → vpcc-initial.Post κs a r s → vpcc-initial.Post κs a q t → r.now ≡ q.now
vpcc-initial-fixed κs a r q s t p o = p ∙ sym o
