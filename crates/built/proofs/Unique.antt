-- Each promise of a refusal fixes one answer: two that meet it are equal. Stated on the promise itself. Assumes nothing.
use mathlib.Core.Path.{◌≡◌, sym, ◌∙◌}
use Rattle.numbers.proofs.Refusal.code.Reads as code
use Rattle.numbers.proofs.Refusal.detail.Reads as detail
use Rattle.numbers.proofs.Refusal.moved.Reads as moved

code-fixed : (κs : _) (a : _) (r q : _) (s t : _) → code.Post κs a r s → code.Post κs a q t → r ≡ q
code-fixed κs a r q s t p o = p ∙ sym o

detail-fixed : (κs : _) (a : _) (r q : _) (s t : _) → detail.Post κs a r s → detail.Post κs a q t → r ≡ q
detail-fixed κs a r q s t p o = p ∙ sym o

moved-fixed : (κs : _) (a : _) (r q : _) (s t : _) → moved.Post κs a r s → moved.Post κs a q t → r ≡ q
moved-fixed κs a r q s t p o = p ∙ sym o
