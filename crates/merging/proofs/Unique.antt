-- Each promise fixes one answer: two that meet it are equal. Stated on the promise itself. Assumes nothing.
use mathlib.Core.Path.{◌≡◌, sym, ◌∙◌}
use Rattle.merging.proofs.Open.fresh.Reads as fresh
use Rattle.merging.proofs.Open.next.Reads as next
use Rattle.merging.proofs.Open.finish.Reads as finish
use Rattle.merging.proofs.Step.after.Reads as after

fresh-fixed : (κs : _) (a : _) (r q : _) (s t : _) → fresh.Post κs a r s → fresh.Post κs a q t → r ≡ q
fresh-fixed κs a r q s t p o = p ∙ sym o

next-fixed : (κs : _) (a : _) (r q : _) (s t : _) → next.Post κs a r s → next.Post κs a q t → r ≡ q
next-fixed κs a r q s t p o = p ∙ sym o

finish-fixed : (κs : _) (a : _) (r q : _) (s t : _) → finish.Post κs a r s → finish.Post κs a q t → r ≡ q
finish-fixed κs a r q s t p o = p ∙ sym o

after-fixed : (κs : _) (a : _) (r q : _) (s t : _) → after.Post κs a r s → after.Post κs a q t → r ≡ q
after-fixed κs a r q s t p o = p ∙ sym o
