-- Each promise fixes one answer: two that meet it are equal. Stated on the promise itself. Assumes nothing.
use mathlib.Core.Path.{◌≡◌, sym, ◌∙◌}
use Rattle.passes.proofs.finding.Reads as finding
use Rattle.passes.proofs.tables.Reads as passes-tables

finding-fixed : (κs : _) (a : _) (r q : _) (s t : _) → finding.Post κs a r s → finding.Post κs a q t → r ≡ q
finding-fixed κs a r q s t p o = p ∙ sym o

tables-fixed : (κs : _) (a : _) (r q : _) (s t : _) → passes-tables.Post κs a r s → passes-tables.Post κs a q t → r ≡ q
tables-fixed κs a r q s t p o = p ∙ sym o
