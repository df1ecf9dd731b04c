-- Each promise fixes one answer: two that meet it are equal. Stated on the promise itself. Assumes nothing.
use mathlib.Core.Path.{◌≡◌, sym, ◌∙◌}
use Rattle.runstarts.proofs.base.Reads as base
use Rattle.runstarts.proofs.make.Reads as make

base-fixed : (κs : _) (a : _) (r q : _) (s t : _) → base.Post κs a r s → base.Post κs a q t → r ≡ q
base-fixed κs a r q s t p o = p ∙ sym o

make-fixed : (κs : _) (a : _) (r q : _) (s t : _) → make.Post κs a r s → make.Post κs a q t → r ≡ q
make-fixed κs a r q s t p o = p ∙ sym o
