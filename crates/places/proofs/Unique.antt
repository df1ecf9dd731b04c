-- Each promise fixes one answer: two that meet it are equal. Stated on the promise itself. Assumes nothing.
use mathlib.Core.Path.{◌≡◌, sym, ◌∙◌}
use Rattle.places.proofs.table.belongs.Reads as belongs
use Rattle.places.proofs.table.held.Reads as held
use Rattle.places.proofs.visit.Reads as visit

belongs-fixed : (κs : _) (a : _) (r q : _) (s t : _) → belongs.Post κs a r s → belongs.Post κs a q t → r ≡ q
belongs-fixed κs a r q s t p o = p ∙ sym o

held-fixed : (κs : _) (a : _) (r q : _) (s t : _) → held.Post κs a r s → held.Post κs a q t → r ≡ q
held-fixed κs a r q s t p o = p ∙ sym o

visit-fixed : (κs : _) (a : _) (r q : _) (s t : _) → visit.Post κs a r s → visit.Post κs a q t → r ≡ q
visit-fixed κs a r q s t p o = p ∙ sym o
