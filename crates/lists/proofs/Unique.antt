-- Each promise fixes one answer, and the buffer with it: two that meet it are equal. Stated on the promise itself.
-- Assumes nothing.
use mathlib.Core.Path.{◌≡◌}
use Rattle.lists.proofs.count.Reads as lists-count
use Rattle.lists.proofs.list.Reads as lists-list

count-fixed : (κs : _) (a : _) (r q : _) (s t : _) → lists-count.Post κs a r s → lists-count.Post κs a q t → r ≡ q
count-fixed κs a r q s t p o = cc

list-fixed : (κs : _) (a : _) (r q : _) (s t : _) → lists-list.Post κs a r s → lists-list.Post κs a q t → (r ≡ q) × (s.1.1.0.now ≡ t.1.1.0.now)
list-fixed κs a r q s t p o = (cc, cc)
