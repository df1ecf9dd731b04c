-- The promise fixes the buffer: two that meet it are equal. Stated on the promise itself. Assumes nothing.
use mathlib.Core.Path.{◌≡◌, sym, ◌∙◌}
use Rattle.samples.proofs.put.Reads as samples-put

put-fixed : (κs : _) (a : _) (r q : _) (s t : _) → samples-put.Post κs a r s → samples-put.Post κs a q t → s.0.now ≡ t.0.now
put-fixed κs a r q s t p o = p ∙ sym o
