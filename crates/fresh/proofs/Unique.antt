-- Each promise fixes one answer: two that meet it are equal. Stated on the promise itself. Assumes nothing.
use mathlib.Core.Path.{◌≡◌, sym, ◌∙◌}
use Rattle.fresh.proofs.visual.Reads as visual
use Rattle.fresh.proofs.avcc.Reads as avcc
use Rattle.fresh.proofs.vpcc.Reads as vpcc
use Rattle.fresh.proofs.tx3g.Reads as tx3g
use Rattle.fresh.proofs.rate.Reads as rate
use Rattle.fresh.proofs.mp4a.Reads as mp4a
use Rattle.fresh.proofs.esds.Reads as esds

visual-fixed : (κs : _) (a : _) (r q : _) (s t : _) → visual.Post κs a r s → visual.Post κs a q t → r ≡ q
visual-fixed κs a r q s t p o = p ∙ sym o

avcc-fixed : (κs : _) (a : _) (r q : _) (s t : _) → avcc.Post κs a r s → avcc.Post κs a q t → r ≡ q
avcc-fixed κs a r q s t p o = p ∙ sym o

vpcc-fixed : (κs : _) (a : _) (r q : _) (s t : _) → vpcc.Post κs a r s → vpcc.Post κs a q t → r ≡ q
vpcc-fixed κs a r q s t p o = p ∙ sym o

tx3g-fixed : (κs : _) (a : _) (r q : _) (s t : _) → tx3g.Post κs a r s → tx3g.Post κs a q t → r ≡ q
tx3g-fixed κs a r q s t p o = p ∙ sym o

rate-fixed : (κs : _) (a : _) (r q : _) (s t : _) → rate.Post κs a r s → rate.Post κs a q t → r ≡ q
rate-fixed κs a r q s t p o = p ∙ sym o

mp4a-fixed : (κs : _) (a : _) (r q : _) (s t : _) → mp4a.Post κs a r s → mp4a.Post κs a q t → r ≡ q
mp4a-fixed κs a r q s t p o = p ∙ sym o

esds-fixed : (κs : _) (a : _) (r q : _) (s t : _) → esds.Post κs a r s → esds.Post κs a q t → r ≡ q
esds-fixed κs a r q s t p o = p ∙ sym o
