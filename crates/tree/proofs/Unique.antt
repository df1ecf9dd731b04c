-- Each promise fixes one answer, and all six tables with it: two that meet it are equal. Stated on the promise itself.
-- Assumes nothing.
use mathlib.Core.Path.{◌≡◌}
use Rattle.tree.specs.Tables.{tables}
use Rattle.tree.proofs.scan.Reads as scan

scan-fixed : (κs : _) (a : _) (r q : _) (s t : _) → scan.Post κs a r s → scan.Post κs a q t → (r ≡ q)
    × (tables s.1.0.now s.1.1.0.now s.1.1.1.0.now s.1.1.1.1.0.now s.1.1.1.1.1.0.now s.1.1.1.1.1.1.0.now
    ≡ tables t.1.0.now t.1.1.0.now t.1.1.1.0.now t.1.1.1.1.0.now t.1.1.1.1.1.0.now t.1.1.1.1.1.1.0.now)
scan-fixed κs a r q s t p o = (cc, cc)
