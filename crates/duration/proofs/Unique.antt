-- Each promise fixes one answer: two that meet it are equal. Stated on the promise itself. Assumes nothing.
use mathlib.Core.Path.{◌≡◌, sym, ◌∙◌}
use Rattle.duration.proofs.micros.Reads as micros

micros-fixed : (κs : _) (a : _) (r q : _) (s t : _) → micros.Post κs a r s → micros.Post κs a q t → r ≡ q
micros-fixed κs a r q s t p o = p ∙ sym o
