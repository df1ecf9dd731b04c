-- The promise fixes one answer: two that meet it are equal. Stated on the promise itself. Assumes nothing.
use mathlib.Core.Path.{◌≡◌, sym, ◌∙◌}
use Rattle.sweeps.proofs.sweep.Reads as sweep

sweep-fixed : (κs : _) (a : _) (r q : _) (s t : _) → sweep.Post κs a r s → sweep.Post κs a q t → r ≡ q
sweep-fixed κs a r q s t p o = p ∙ sym o
