-- Each promise fixes one answer: two that meet it are equal. Stated on the promise itself. Assumes nothing.
use mathlib.Core.Path.{◌≡◌, sym, ◌∙◌}
use Rattle.bits.proofs.is_set.Reads as is_set
use Rattle.bits.proofs.chosen.Reads as chosen

is-set-fixed : (κs : _) (a : _) (r q : _) (s t : _) → is_set.Post κs a r s → is_set.Post κs a q t → r ≡ q
is-set-fixed κs a r q s t p o = p ∙ sym o

chosen-fixed : (κs : _) (a : _) (r q : _) (s t : _) → chosen.Post κs a r s → chosen.Post κs a q t → r ≡ q
chosen-fixed κs a r q s t p o = p ∙ sym o
