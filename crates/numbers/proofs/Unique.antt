-- Each promise fixes one answer: two that meet it are equal. Stated on the promise itself. Assumes nothing.
use mathlib.Core.Path.{◌≡◌, sym, ◌∙◌}
use Rattle.numbers.proofs.read.Reads as read
use Rattle.numbers.proofs.number_at.Reads as number_at

read-fixed : (κs : _) (a : _) (b : _) (c : _) (d : _) (e : _) (f : _) (g : _) (x : _) (r q : _) (s t : _) → read.Post κs a b c d e f g x r s → read.Post κs a b c d e f g x q t → r ≡ q
read-fixed κs a b c d e f g x r q s t p o = p ∙ sym o

number-at-fixed : (κs : _) (a : _) (r q : _) (s t : _) → number_at.Post κs a r s → number_at.Post κs a q t → r ≡ q
number-at-fixed κs a r q s t p o = p ∙ sym o
