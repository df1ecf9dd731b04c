-- Each promise fixes one answer, and the buffer with it: two that meet it are equal. Stated on the promise itself.
-- Assumes nothing.
use mathlib.Core.Path.{◌≡◌, sym, ◌∙◌}
use Rattle.tracksamples.proofs.list.Reads as list-reads
use Rattle.tracksamples.proofs.sample.Reads as sample-reads
use Rattle.tracksamples.proofs.count.Reads as count-reads
use Rattle.tracksamples.proofs.total.Reads as total-reads

list-fixed : (κs : _) (a : _) (r q : _) (s t : _) → list-reads.Post κs a r s → list-reads.Post κs a q t → (r ≡ q) × (s.1.1.1.1.0.now ≡ t.1.1.1.1.0.now)
list-fixed κs a r q s t p o = (cc, cc)

sample-fixed : (κs : _) (a : _) (r q : _) (s t : _) → sample-reads.Post κs a r s → sample-reads.Post κs a q t → (r ≡ q) × (s.1.1.1.1.1.0.now ≡ t.1.1.1.1.1.0.now)
sample-fixed κs a r q s t p o = (cc, cc)

count-fixed : (κs : _) (a : _) (r q : _) (s t : _) → count-reads.Post κs a r s → count-reads.Post κs a q t → r ≡ q
count-fixed κs a r q s t p o = p ∙ sym o

total-fixed : (κs : _) (a : _) (r q : _) (s t : _) → total-reads.Post κs a r s → total-reads.Post κs a q t → r ≡ q
total-fixed κs a r q s t p o = p ∙ sym o
