-- The promise fixes one answer: two that meet it are equal, at each width. Stated on the promise itself. Assumes nothing.
use mathlib.Core.Path.{◌≡◌, sym, ◌∙◌}
use Rattle.signed.proofs.read.Reads as read

read-fixed : (κs : _) (a : _) (b : _) (c : _) (d : _) (e : _) (f : _) (g : _) (x : _) (r q : _) (s t : _) → read.Post κs a b c d e f g x r s → read.Post κs a b c d e f g x q t → r ≡ q
read-fixed κs a b c d e f g x r q s t p o = p ∙ sym o
