-- Each promise fixes one answer: two that meet it are equal. Stated on the promise itself. Assumes nothing.
use mathlib.Core.Path.{◌≡◌, sym, ◌∙◌}
use Rattle.lookup.proofs.count.Reads as count
use Rattle.lookup.proofs.total.Reads as total
use Rattle.lookup.proofs.is_sync.Reads as is-sync

count-fixed : (κs : _) (a : _) (r q : _) (s t : _) → count.Post κs a r s → count.Post κs a q t → r ≡ q
count-fixed κs a r q s t p o = p ∙ sym o

total-fixed : (κs : _) (a : _) (r q : _) (s t : _) → total.Post κs a r s → total.Post κs a q t → r ≡ q
total-fixed κs a r q s t p o = p ∙ sym o

is-sync-fixed : (κs : _) (a : _) (r q : _) (s t : _) → is-sync.Post κs a r s → is-sync.Post κs a q t → r ≡ q
is-sync-fixed κs a r q s t p o = p ∙ sym o
