-- Each promise fixes one answer: two that meet it are equal. Stated on the promises themselves. Assumes nothing.
use mathlib.Core.Path.{◌≡◌, sym, ◌∙◌}
use Rattle.stbl.proofs.track.Reads as track

track-fixed : (κs : _) (a : _) (r q : _) (s t : _) → track.Post κs a r s → track.Post κs a q t → r ≡ q
track-fixed κs a r q s t p o = p ∙ sym o
