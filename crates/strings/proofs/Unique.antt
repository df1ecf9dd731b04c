-- The promise fixes one answer: two that meet it are equal. Stated on the promise itself. Assumes nothing.
use mathlib.Core.Path.{◌≡◌, sym, ◌∙◌}
use Rattle.strings.proofs.text_end.Reads as text-end

text-end-fixed : (κs : _) (a : _) (r q : _) (s t : _) → text-end.Post κs a r s → text-end.Post κs a q t → r ≡ q
text-end-fixed κs a r q s t p o = p ∙ sym o
