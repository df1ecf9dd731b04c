-- The promise fixes one answer: two that meet it are equal. Stated on the promise itself. Assumes nothing.
use Rattle.std.proofs.Common.{◌≡◌, sym, ◌∙◌}
use Rattle.follows.proofs.follow.Reads as follow

follow-fixed : (κs : _) (a : _) (r q : _) (s t : _) → follow.Post κs a r s → follow.Post κs a q t → r ≡ q
follow-fixed κs a r q s t p o = p ∙ sym o
