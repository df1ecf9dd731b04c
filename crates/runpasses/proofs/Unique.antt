-- The promise fixes one answer: two that meet it are equal. Stated on the promise itself. Assumes nothing.
use mathlib.Core.Path.{◌≡◌, sym, ◌∙◌}
use Rattle.runpasses.proofs.runs.Reads as runpasses-runs

runs-fixed : (κs : _) (a : _) (r q : _) (s t : _) → runpasses-runs.Post κs a r s → runpasses-runs.Post κs a q t → r ≡ q
runs-fixed κs a r q s t p o = p ∙ sym o
