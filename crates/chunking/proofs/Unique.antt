-- Each promise fixes one answer: two that meet it are equal. Stated on the promise itself. Assumes nothing.
use mathlib.Core.Path.{◌≡◌, sym, ◌∙◌}
use Rattle.chunking.proofs.none.Reads as none
use Rattle.chunking.proofs.next.Reads as next
use Rattle.chunking.proofs.finish.Reads as finish
use Rattle.chunking.proofs.after.Reads as after
use Rattle.chunking.proofs.fit.Reads as fit

none-fixed : (κs : _) (a : _) (r q : _) (s t : _) → none.Post κs a r s → none.Post κs a q t → r ≡ q
none-fixed κs a r q s t p o = p ∙ sym o

next-fixed : (κs : _) (a : _) (r q : _) (s t : _) → next.Post κs a r s → next.Post κs a q t → r ≡ q
next-fixed κs a r q s t p o = p ∙ sym o

finish-fixed : (κs : _) (a : _) (r q : _) (s t : _) → finish.Post κs a r s → finish.Post κs a q t → r ≡ q
finish-fixed κs a r q s t p o = p ∙ sym o

after-fixed : (κs : _) (a : _) (r q : _) (s t : _) → after.Post κs a r s → after.Post κs a q t → r ≡ q
after-fixed κs a r q s t p o = p ∙ sym o

fit-fixed : (κs : _) (a : _) (r q : _) (s t : _) → fit.Post κs a r s → fit.Post κs a q t → r ≡ q
fit-fixed κs a r q s t p o = p ∙ sym o
