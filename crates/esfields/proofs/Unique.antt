-- Each promise fixes one answer, and the buffer with it: two that meet it are equal. Stated on the promise itself.
-- Assumes nothing.
use mathlib.Core.Path.{◌≡◌, sym, ◌∙◌}
use Rattle.esfields.proofs.read.Reads as esfields-read
use Rattle.esfields.proofs.size.Reads as esfields-size
use Rattle.esfields.proofs.put.Reads as esfields-put

esfields-read-fixed : (κs : _) (a : _) (r q : _) (s t : _) → esfields-read.Post κs a r s → esfields-read.Post κs a q t → r ≡ q
esfields-read-fixed κs a r q s t p o = p ∙ sym o

esfields-size-fixed : (κs : _) (a : _) (r q : _) (s t : _) → esfields-size.Post κs a r s → esfields-size.Post κs a q t → r ≡ q
esfields-size-fixed κs a r q s t p o = p ∙ sym o

esfields-put-fixed : (κs : _) (a : _) (r q : _) (s t : _) → esfields-put.Post κs a r s → esfields-put.Post κs a q t → (r ≡ q) × (s.0.now ≡ t.0.now)
esfields-put-fixed κs a r q s t p o = (cc, cc)
