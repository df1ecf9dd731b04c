-- Each promise fixes one answer, and the buffer with it: two that meet it are equal. Stated on the promise itself.
-- Assumes nothing.
use mathlib.Core.Path.{◌≡◌, sym, ◌∙◌}
use Rattle.hdlr.proofs.read.Reads as hdlr-read
use Rattle.hdlr.proofs.write.Reads as hdlr-write
use Rattle.hdlr.proofs.name.Reads as hdlr-name

hdlr-read-fixed : (κs : _) (a : _) (r q : _) (s t : _) → hdlr-read.Post κs a r s → hdlr-read.Post κs a q t → r ≡ q
hdlr-read-fixed κs a r q s t p o = p ∙ sym o

hdlr-write-fixed : (κs : _) (a : _) (r q : _) (s t : _) → hdlr-write.Post κs a r s → hdlr-write.Post κs a q t → (r ≡ q) × (s.1.1.0.now ≡ t.1.1.0.now)
hdlr-write-fixed κs a r q s t p o = (cc, cc)

hdlr-name-fixed : (κs : _) (a : _) (r q : _) (s t : _) → hdlr-name.Post κs a r s → hdlr-name.Post κs a q t → r.now ≡ q.now
hdlr-name-fixed κs a r q s t p o = p ∙ sym o
