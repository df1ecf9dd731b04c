-- Each promise fixes one answer, and the buffer with it: two that meet it are equal. Stated on the promise itself.
-- Assumes nothing.
use mathlib.Core.Path.{◌≡◌, sym, ◌∙◌}
use Rattle.descriptor.proofs.length_at.Reads as length_at
use Rattle.descriptor.proofs.head_at.Reads as head_at

length-at-fixed : (κs : _) (a : _) (r q : _) (s t : _) → length_at.Post κs a r s → length_at.Post κs a q t → r ≡ q
length-at-fixed κs a r q s t p o = p ∙ sym o

head-at-fixed : (κs : _) (a : _) (r q : _) (s t : _) → head_at.Post κs a r s → head_at.Post κs a q t → r ≡ q
head-at-fixed κs a r q s t p o = p ∙ sym o
