-- Each promise fixes one answer: two that meet it are equal. Stated on the promises themselves. Assumes nothing.
use mathlib.Core.Path.{◌≡◌, sym, ◌∙◌}
use Rattle.runlookup.proofs.count.Reads as runlookup-count
use Rattle.runlookup.proofs.sample.Reads as runlookup-sample
use Rattle.runlookup.proofs.is_sync.Reads as runlookup-is-sync

count-fixed : (κs : _) (a : _) (r q : _) (s t : _) → runlookup-count.Post κs a r s → runlookup-count.Post κs a q t → r ≡ q
count-fixed κs a r q s t p o = p ∙ sym o

sample-fixed : (κs : _) (a : _) (r q : _) (s t : _) → runlookup-sample.Post κs a r s → runlookup-sample.Post κs a q t → r ≡ q
sample-fixed κs a r q s t p o = p ∙ sym o

is-sync-fixed : (κs : _) (a : _) (r q : _) (s t : _) → runlookup-is-sync.Post κs a r s → runlookup-is-sync.Post κs a q t → r ≡ q
is-sync-fixed κs a r q s t p o = p ∙ sym o
