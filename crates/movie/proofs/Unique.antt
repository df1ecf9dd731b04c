-- The promise fixes one answer: two that meet it are equal. Stated on the promise itself. Assumes nothing.
use mathlib.Core.Path.{◌≡◌, sym, ◌∙◌}
use Rattle.movie.proofs.judge.Reads as judge

judge-fixed : (κs : _) (a : _) (r q : _) (s t : _) → judge.Post κs a r s → judge.Post κs a q t → r ≡ q
judge-fixed κs a r q s t p o = p ∙ sym o
