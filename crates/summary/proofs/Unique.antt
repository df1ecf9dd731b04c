-- Each promise fixes one answer: two that meet it are equal. Stated on the promise itself. Assumes nothing.
use mathlib.Core.Path.{◌≡◌, sym, ◌∙◌}
use Rattle.summary.proofs.fixed.Reads as fixed
use Rattle.summary.proofs.rate.Reads as rate
use Rattle.summary.proofs.of.Reads as of

fixed-fixed : (κs : _) (a : _) (r q : _) (s t : _) → fixed.Post κs a r s → fixed.Post κs a q t → r ≡ q
fixed-fixed κs a r q s t p o = p ∙ sym o

rate-fixed : (κs : _) (a : _) (r q : _) (s t : _) → rate.Post κs a r s → rate.Post κs a q t → r ≡ q
rate-fixed κs a r q s t p o = p ∙ sym o

of-fixed : (κs : _) (a : _) (r q : _) (s t : _) → of.Post κs a r s → of.Post κs a q t → r ≡ q
of-fixed κs a r q s t p o = p ∙ sym o
