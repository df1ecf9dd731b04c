-- The promise fixes one answer: two that meet it are equal. Stated on the promise itself. Assumes nothing.
use mathlib.Core.Path.{◌≡◌, sym, ◌∙◌}
use Rattle.needed.proofs.first_missing.Reads as first-missing
use Rattle.needed.proofs.moofs.trex_of.Reads as trex-of

first-missing-fixed : (κs : _) (a : _) (r q : _) (s t : _) → first-missing.Post κs a r s → first-missing.Post κs a q t → r ≡ q
first-missing-fixed κs a r q s t p o = p ∙ sym o

trex-of-fixed : (κs : _) (a : _) (r q : _) (s t : _) → trex-of.Post κs a r s → trex-of.Post κs a q t → r ≡ q
trex-of-fixed κs a r q s t p o = p ∙ sym o
