-- Each promise fixes one answer: two that meet it are equal. Stated on the promise itself. Assumes nothing.
use mathlib.Core.Path.{◌≡◌, sym, ◌∙◌}
use Rattle.locate.proofs.sample.Reads as sample

sample-fixed : (κs : _) (a : _) (r q : _) (s t : _) → sample.Post κs a r s → sample.Post κs a q t → r ≡ q
sample-fixed κs a r q s t p o = p ∙ sym o
