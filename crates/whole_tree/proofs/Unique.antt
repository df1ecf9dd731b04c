-- Each promise fixes one answer, and all six tables with it: two that meet it are equal. Stated on the promise itself.
-- Assumes nothing.
use mathlib.Core.Path.{◌≡◌}
use Rattle.tree.specs.Tables.{tables}
use Rattle.whole_tree.proofs.tree.Reads as tree

tree-fixed : (κs : _) (a : _) (r q : _) (s t : _) → tree.Post κs a r s → tree.Post κs a q t → (r ≡ q)
    × (tables s.1.0.now s.1.1.0.now s.1.1.1.0.now s.1.1.1.1.0.now s.1.1.1.1.1.0.now s.1.1.1.1.1.1.0.now
    ≡ tables t.1.0.now t.1.1.0.now t.1.1.1.0.now t.1.1.1.1.0.now t.1.1.1.1.1.0.now t.1.1.1.1.1.1.0.now)
tree-fixed κs a r q s t p o = (cc, cc)
