-- The promise fixes one answer: two that meet it are equal. Stated on the promise itself. Assumes nothing.
use mathlib.Core.Path.{◌≡◌, sym, ◌∙◌}
use Rattle.opening.proofs.refusal.Reads as refusal

refusal-fixed : (κs : _) (a : _) (r q : _) (s t : _) → refusal.Post κs a r s → refusal.Post κs a q t → r ≡ q
refusal-fixed κs a r q s t p o = p ∙ sym o
