-- Each promise fixes one answer: two that meet it are equal. Stated on the promise itself. Assumes nothing.
use mathlib.Core.Path.{◌≡◌, sym, ◌∙◌}
use Rattle.children.proofs.first.Reads as first
use Rattle.children.proofs.whole.Reads as whole
use Rattle.children.proofs.place_of.Reads as place_of
use Rattle.children.proofs.first_from.Reads as first-from

first-fixed : (κs : _) (a : _) (r q : _) (s t : _) → first.Post κs a r s → first.Post κs a q t → r ≡ q
first-fixed κs a r q s t p o = p ∙ sym o

whole-fixed : (κs : _) (a : _) (r q : _) (s t : _) → whole.Post κs a r s → whole.Post κs a q t → r ≡ q
whole-fixed κs a r q s t p o = p ∙ sym o

place-of-fixed : (κs : _) (a : _) (r q : _) (s t : _) → place_of.Post κs a r s → place_of.Post κs a q t → r ≡ q
place-of-fixed κs a r q s t p o = p ∙ sym o

first-from-fixed : (κs : _) (a : _) (r q : _) (s t : _) → first-from.Post κs a r s → first-from.Post κs a q t → r ≡ q
first-from-fixed κs a r q s t p o = p ∙ sym o
