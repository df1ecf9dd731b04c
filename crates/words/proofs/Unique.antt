-- Each promise fixes one answer: two that meet it are equal. Stated on the promise itself. Assumes nothing.
use mathlib.Core.Path.{◌≡◌, sym, ◌∙◌}
use Rattle.words.proofs.four.Reads as four
use Rattle.words.proofs.eight.Reads as eight
use Rattle.words.proofs.as_signed.Reads as as-signed

four-fixed : (κs : _) (a : _) (r q : _) (s t : _) → four.Post κs a r s → four.Post κs a q t → r ≡ q
four-fixed κs a r q s t p o = p ∙ sym o

eight-fixed : (κs : _) (a : _) (r q : _) (s t : _) → eight.Post κs a r s → eight.Post κs a q t → r ≡ q
eight-fixed κs a r q s t p o = p ∙ sym o

as-signed-fixed : (κs : _) (a : _) (r q : _) (s t : _) → as-signed.Post κs a r s → as-signed.Post κs a q t → r ≡ q
as-signed-fixed κs a r q s t p o = p ∙ sym o
