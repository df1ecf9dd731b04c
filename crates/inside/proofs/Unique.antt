-- Each promise fixes one answer: two that meet it are equal. Stated on the promise itself. Assumes nothing.
use mathlib.Core.Path.{◌≡◌, sym, ◌∙◌}
use Rattle.inside.proofs.next.Reads as next
use Rattle.inside.proofs.child.Reads as child

next-fixed : (κs : _) (a : _) (r q : _) (s t : _) → next.Post κs a r s → next.Post κs a q t → r ≡ q
next-fixed κs a r q s t p o = p ∙ sym o

child-fixed : (κs : _) (a : _) (r q : _) (s t : _) → child.Post κs a r s → child.Post κs a q t → r ≡ q
child-fixed κs a r q s t p o = p ∙ sym o
