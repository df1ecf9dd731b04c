-- The promise fixes one answer: two that meet it are equal. Stated on the promise itself. Assumes nothing.
use mathlib.Core.Path.{◌≡◌, sym, ◌∙◌}
use Rattle.agree.proofs.tables.Reads as tables

tables-fixed : (κs : _) (a : _) (r q : _) (s t : _) → tables.Post κs a r s → tables.Post κs a q t → r ≡ q
tables-fixed κs a r q s t p o = p ∙ sym o
