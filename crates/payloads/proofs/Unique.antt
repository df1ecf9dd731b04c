-- Each promise fixes one answer: two that meet it are equal. Stated on the promise itself. Assumes nothing.
use mathlib.Core.Path.{◌≡◌, sym, ◌∙◌}
use Rattle.payloads.proofs.next.Reads as next
use Rattle.payloads.proofs.holds.Reads as holds

next-fixed : (κs : _) (a : _) (r q : _) (s t : _) → next.Post κs a r s → next.Post κs a q t → r ≡ q
next-fixed κs a r q s t p o = p ∙ sym o

holds-fixed : (κs : _) (a : _) (r q : _) (s t : _) → holds.Post κs a r s → holds.Post κs a q t → r ≡ q
holds-fixed κs a r q s t p o = p ∙ sym o
