-- Each promise fixes one answer: two that meet it are equal. Stated on the promise itself. Assumes nothing.
use mathlib.Core.Path.{◌≡◌, sym, ◌∙◌}
use Rattle.traks.proofs.next.Reads as next
use Rattle.traks.proofs.number.Reads as number
use Rattle.traks.proofs.tables.Reads as tables

next-fixed : (κs : _) (a : _) (r q : _) (s t : _) → next.Post κs a r s → next.Post κs a q t → r ≡ q
next-fixed κs a r q s t p o = p ∙ sym o

number-fixed : (κs : _) (a : _) (r q : _) (s t : _) → number.Post κs a r s → number.Post κs a q t → r ≡ q
number-fixed κs a r q s t p o = p ∙ sym o

tables-fixed : (κs : _) (a : _) (r q : _) (s t : _) → tables.Post κs a r s → tables.Post κs a q t → r ≡ q
tables-fixed κs a r q s t p o = p ∙ sym o
