-- Each promise fixes one answer: two that meet it are equal. Stated on the promise itself. Assumes nothing.
use mathlib.Core.Path.{◌≡◌, sym, ◌∙◌}
use Rattle.kin.proofs.twice.Reads as twice
use Rattle.kin.proofs.crowded.Reads as crowded

twice-fixed : (κs : _) (a : _) (r q : _) (s t : _) → twice.Post κs a r s → twice.Post κs a q t → r ≡ q
twice-fixed κs a r q s t p o = p ∙ sym o

crowded-fixed : (κs : _) (a : _) (r q : _) (s t : _) → crowded.Post κs a r s → crowded.Post κs a q t → r ≡ q
crowded-fixed κs a r q s t p o = p ∙ sym o
