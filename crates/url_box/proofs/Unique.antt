-- Each promise fixes one answer, and the buffer with it: two that meet it are equal. Stated on the promise itself.
-- Assumes nothing.
use mathlib.Core.Path.{◌≡◌, sym, ◌∙◌}
use Rattle.url_box.proofs.read.Reads as url-read
use Rattle.url_box.proofs.write.Reads as url-write
use Rattle.url_box.proofs.location.Reads as url-location

url-read-fixed : (κs : _) (a : _) (r q : _) (s t : _) → url-read.Post κs a r s → url-read.Post κs a q t → r ≡ q
url-read-fixed κs a r q s t p o = p ∙ sym o

url-write-fixed : (κs : _) (a : _) (r q : _) (s t : _) → url-write.Post κs a r s → url-write.Post κs a q t → (r ≡ q) × (s.1.1.0.now ≡ t.1.1.0.now)
url-write-fixed κs a r q s t p o = (cc, cc)

url-location-fixed : (κs : _) (a : _) (r q : _) (s t : _) → url-location.Post κs a r s → url-location.Post κs a q t → r.now ≡ q.now
url-location-fixed κs a r q s t p o = p ∙ sym o
