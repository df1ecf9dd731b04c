-- Each promise fixes one answer: two that meet it are equal. Stated on the promises themselves. Assumes nothing.
use mathlib.Core.Path.{◌≡◌, sym, ◌∙◌}
use Rattle.runbytes.proofs.total.Reads as runlookup-total

total-fixed : (κs : _) (a : _) (r q : _) (s t : _) → runlookup-total.Post κs a r s → runlookup-total.Post κs a q t → r ≡ q
total-fixed κs a r q s t p o = p ∙ sym o
