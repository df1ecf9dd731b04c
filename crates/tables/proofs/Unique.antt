-- Each promise fixes one answer: two that meet it are equal. Stated on the promise itself. Assumes nothing.
use mathlib.Core.Path.{◌≡◌, sym, ◌∙◌}
use Rattle.tables.proofs.pairs.Reads as pairs
use Rattle.tables.proofs.groups.Reads as groups
use Rattle.tables.proofs.entry.Reads as entry
use Rattle.tables.proofs.size_at.Reads as size-at
use Rattle.tables.proofs.offset_at.Reads as offset_at

pairs-fixed : (κs : _) (a : _) (r q : _) (s t : _) → pairs.Post κs a r s → pairs.Post κs a q t → r ≡ q
pairs-fixed κs a r q s t p o = p ∙ sym o

groups-fixed : (κs : _) (a : _) (r q : _) (s t : _) → groups.Post κs a r s → groups.Post κs a q t → r ≡ q
groups-fixed κs a r q s t p o = p ∙ sym o

entry-fixed : (κs : _) (a : _) (r q : _) (s t : _) → entry.Post κs a r s → entry.Post κs a q t → r ≡ q
entry-fixed κs a r q s t p o = p ∙ sym o

size-at-fixed : (κs : _) (a : _) (r q : _) (s t : _) → size-at.Post κs a r s → size-at.Post κs a q t → r ≡ q
size-at-fixed κs a r q s t p o = p ∙ sym o

offset-at-fixed : (κs : _) (a : _) (r q : _) (s t : _) → offset_at.Post κs a r s → offset_at.Post κs a q t → r ≡ q
offset-at-fixed κs a r q s t p o = p ∙ sym o
