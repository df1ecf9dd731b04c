-- Each promise fixes one answer, and the list with it: two that meet it are equal. Stated on the promise itself.
-- Assumes nothing.
use mathlib.Core.Path.{◌≡◌, sym, ◌∙◌}
use Rattle.sets.proofs.end_of.Reads as end_of_lem
use Rattle.sets.proofs.nth.Reads as nth
use Rattle.sets.proofs.filled_by.Reads as filled-by
use Rattle.sets.proofs.put_set.Reads as put-set

end-of-fixed : (κs : _) (a : _) (r q : _) (s t : _) → end_of_lem.Post κs a r s → end_of_lem.Post κs a q t → r ≡ q
end-of-fixed κs a r q s t p o = p ∙ sym o

nth-fixed : (κs : _) (a : _) (r q : _) (s t : _) → nth.Post κs a r s → nth.Post κs a q t → r.now ≡ q.now
nth-fixed κs a r q s t p o = p ∙ sym o

filled-by-fixed : (κs : _) (a : _) (r q : _) (s t : _) → filled-by.Post κs a r s → filled-by.Post κs a q t → r ≡ q
filled-by-fixed κs a r q s t p o = p ∙ sym o

put-set-fixed : (κs : _) (a : _) (r q : _) (s t : _) → put-set.Post κs a r s → put-set.Post κs a q t → (r ≡ q) × (s.0.now ≡ t.0.now)
put-set-fixed κs a r q s t p o = (cc, cc)
