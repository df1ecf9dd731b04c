-- Each promise fixes one answer, and the buffer with it: two that meet it are equal. Stated on the promise itself.
-- Assumes nothing.
use mathlib.Core.Path.{◌≡◌, sym, ◌∙◌}
use Rattle.decoderconfig.proofs.read.Reads as decoderconfig-read
use Rattle.decoderconfig.proofs.size.Reads as decoderconfig-size
use Rattle.decoderconfig.proofs.put.Reads as decoderconfig-put

decoderconfig-read-fixed : (κs : _) (a : _) (r q : _) (s t : _) → decoderconfig-read.Post κs a r s → decoderconfig-read.Post κs a q t → r ≡ q
decoderconfig-read-fixed κs a r q s t p o = p ∙ sym o

decoderconfig-size-fixed : (κs : _) (a : _) (r q : _) (s t : _) → decoderconfig-size.Post κs a r s → decoderconfig-size.Post κs a q t → r ≡ q
decoderconfig-size-fixed κs a r q s t p o = p ∙ sym o

decoderconfig-put-fixed : (κs : _) (a : _) (r q : _) (s t : _) → decoderconfig-put.Post κs a r s → decoderconfig-put.Post κs a q t → (r ≡ q) × (s.0.now ≡ t.0.now)
decoderconfig-put-fixed κs a r q s t p o = (cc, cc)
