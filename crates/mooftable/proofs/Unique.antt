-- Each promise fixes one answer, with the table as it is left: two that meet it are equal. Stated on the promises
-- themselves. Assumes nothing.
use mathlib.Core.Path.{◌≡◌, sym, ◌∙◌}
use Rattle.mooftable.proofs.row.Reads as mooftable-row
use Rattle.mooftable.proofs.store.Reads as mooftable-store

row-fixed : (κs : _) (a : _) (r q : _) (s t : _) → mooftable-row.Post κs a r s → mooftable-row.Post κs a q t → r ≡ q
row-fixed κs a r q s t p o = p ∙ sym o

store-fixed : (κs : _) (a : _) (r q : _) (s t : _) → mooftable-store.Post κs a r s → mooftable-store.Post κs a q t → (r ≡ q) × (s.0.now ≡ t.0.now)
store-fixed κs a r q s t p o = (cc, cc)
