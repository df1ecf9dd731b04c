-- Each promise fixes one answer: two that meet it are equal. Stated on the promise itself. Assumes nothing.
use mathlib.Core.Path.{◌≡◌, sym, ◌∙◌}
use Rattle.runsums.proofs.reach.Reads as reach
use Rattle.runsums.proofs.end.Reads as end
use Rattle.runsums.proofs.lasts.Reads as lasts

reach-fixed : (κs : _) (a : _) (r q : _) (s t : _) → reach.Post κs a r s → reach.Post κs a q t → r ≡ q
reach-fixed κs a r q s t p o = p ∙ sym o

end-fixed : (κs : _) (a : _) (r q : _) (s t : _) → end.Post κs a r s → end.Post κs a q t → r ≡ q
end-fixed κs a r q s t p o = p ∙ sym o

lasts-fixed : (κs : _) (a : _) (r q : _) (s t : _) → lasts.Post κs a r s → lasts.Post κs a q t → r ≡ q
lasts-fixed κs a r q s t p o = p ∙ sym o
