-- Each promise fixes one answer, and the buffer with it: two that meet it are equal. Stated on the promise itself.
-- Assumes nothing.
use mathlib.Core.Path.{◌≡◌, sym, ◌∙◌}
use Rattle.short.proofs.read.by.Reads as read_by_lem
use Rattle.short.proofs.read.rest.Reads as read-rest
use Rattle.short.proofs.write.by.Reads as write-by
use Rattle.short.proofs.write.plain.Reads as write-plain

read-by-fixed : (κs : _) (a : _) (r q : _) (s t : _) → read_by_lem.Post κs a r s → read_by_lem.Post κs a q t → r ≡ q
read-by-fixed κs a r q s t p o = p ∙ sym o

read-rest-fixed : (κs : _) (a : _) (r q : _) (s t : _) → read-rest.Post κs a r s → read-rest.Post κs a q t → r.now ≡ q.now
read-rest-fixed κs a r q s t p o = p ∙ sym o

write-by-fixed : (κs : _) (a : _) (r q : _) (s t : _) → write-by.Post κs a r s → write-by.Post κs a q t → (r ≡ q) × (s.0.now ≡ t.0.now)
write-by-fixed κs a r q s t p o = (cc, cc)

write-plain-fixed : (κs : _) (a : _) (r q : _) (s t : _) → write-plain.Post κs a r s → write-plain.Post κs a q t → (r ≡ q) × (s.0.now ≡ t.0.now)
write-plain-fixed κs a r q s t p o = (cc, cc)
