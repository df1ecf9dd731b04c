-- The promise fixes one answer: two that meet it are equal. Stated on the promise itself. Assumes nothing.
use mathlib.Core.Path.{◌≡◌, sym, ◌∙◌}
use Rattle.packs.proofs.item_at.Reads as item-at

item-at-fixed : (κs : _) (a : _) (r q : _) (s t : _) → item-at.Post κs a r s → item-at.Post κs a q t → r ≡ q
item-at-fixed κs a r q s t p o = p ∙ sym o
