-- Each promise fixes one answer, and the buffer with it: two that meet it are equal. Stated on the promise itself.
-- Assumes nothing.
use mathlib.Core.Path.{◌≡◌, sym, ◌∙◌}
use Rattle.vp09.proofs.read.Reads as vp09-read
use Rattle.vp09.proofs.children.Reads as vp09-children
use Rattle.vp09.proofs.vpcc.Reads as vp09-vpcc
use Rattle.vp09.proofs.write.Reads as vp09-write

vp09-read-fixed : (κs : _) (a : _) (r q : _) (s t : _) → vp09-read.Post κs a r s → vp09-read.Post κs a q t → r ≡ q
vp09-read-fixed κs a r q s t p o = p ∙ sym o

vp09-children-fixed : (κs : _) (a : _) (r q : _) (s t : _) → vp09-children.Post κs a r s → vp09-children.Post κs a q t → r.now ≡ q.now
vp09-children-fixed κs a r q s t p o = p ∙ sym o

vp09-vpcc-fixed : (κs : _) (a : _) (r q : _) (s t : _) → vp09-vpcc.Post κs a r s → vp09-vpcc.Post κs a q t → r.now ≡ q.now
vp09-vpcc-fixed κs a r q s t p o = p ∙ sym o

vp09-write-fixed : (κs : _) (a : _) (r q : _) (s t : _) → vp09-write.Post κs a r s → vp09-write.Post κs a q t → (r ≡ q) × (s.1.1.0.now ≡ t.1.1.0.now)
vp09-write-fixed κs a r q s t p o = (cc, cc)
