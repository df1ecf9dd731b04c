-- Each promise fixes one answer: two that meet it are equal. Stated on the promise itself. Assumes nothing.
use mathlib.Core.Path.{◌≡◌, sym, ◌∙◌}
use Rattle.profiles.proofs.profile_of.Reads as profile-of

profile-of-fixed : (κs : _) (a : _) (r q : _) (s t : _) → profile-of.Post κs a r s → profile-of.Post κs a q t → r ≡ q
profile-of-fixed κs a r q s t p o = p ∙ sym o
