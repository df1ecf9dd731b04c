-- Each promise fixes one answer: two that meet it are equal. Stated on the promise itself. Assumes nothing.
use mathlib.Core.Path.{◌≡◌, sym, ◌∙◌}
use Rattle.boxparts.proofs.first_box.Reads as first-box
use Rattle.boxparts.proofs.nth_box.Reads as nth-box

first-box-fixed : (κs : _) (a : _) (r q : _) (s t : _) → first-box.Post κs a r s → first-box.Post κs a q t → r.now ≡ q.now
first-box-fixed κs a r q s t p o = p ∙ sym o

nth-box-fixed : (κs : _) (a : _) (r q : _) (s t : _) → nth-box.Post κs a r s → nth-box.Post κs a q t → r.now ≡ q.now
nth-box-fixed κs a r q s t p o = p ∙ sym o
