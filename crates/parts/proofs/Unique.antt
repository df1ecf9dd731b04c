-- The promise fixes one part: two that meet it are equal. Stated on the promise itself. Assumes nothing.
use mathlib.Core.Path.{◌≡◌, sym, ◌∙◌}
use Rattle.parts.proofs.part.Reads as part

part-fixed : (κs : _) (a : _) (r q : _) (s t : _) → part.Post κs a r s → part.Post κs a q t → r.now ≡ q.now
part-fixed κs a r q s t p o = p ∙ sym o
