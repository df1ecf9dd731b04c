-- The promise fixes one answer: two that meet it are equal. Stated on the promise itself. Assumes nothing.
use mathlib.Core.Path.{◌≡◌, sym, ◌∙◌}
use Rattle.readers.proofs.fault.Reads as fault

fault-fixed : (κs : _) (a : _) (r q : _) (s t : _) → fault.Post κs a r s → fault.Post κs a q t → r ≡ q
fault-fixed κs a r q s t p o = p ∙ sym o
