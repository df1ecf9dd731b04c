-- Each promise fixes one answer: two that meet it are equal. An answer of `next` is fixed in its sample and in what the
-- lane after it has left. Stated on the promises themselves. Assumes nothing.
use mathlib.Core.Path.{◌≡◌, sym, ◌∙◌}
use Rattle.runs.specs.Lane.{shows}
use Rattle.runs.proofs.own.Reads as runs_own
use Rattle.runs.proofs.sync_at.Reads as runs-sync-at
use Rattle.runs.proofs.begin.Reads as runs-begin
use Rattle.runs.proofs.next.Reads as runs-next

own_fixed : (κs : _) (a : _) (r q : _) (s t : _) → runs_own.Post κs a r s → runs_own.Post κs a q t → r ≡ q
own_fixed κs a r q s t p o = p ∙ sym o

sync-at-fixed : (κs : _) (a : _) (r q : _) (s t : _) → runs-sync-at.Post κs a r s → runs-sync-at.Post κs a q t → r ≡ q
sync-at-fixed κs a r q s t p o = p ∙ sym o

begin-fixed : (κs : _) (a : _) (r q : _) (s t : _) → runs-begin.Post κs a r s → runs-begin.Post κs a q t → r ≡ q
begin-fixed κs a r q s t p o = p ∙ sym o

next-fixed : (κs : _) (a : _) (r q : _) (s t : _) → runs-next.Post κs a r s → runs-next.Post κs a q t → shows a.0.now a.1.0 r ≡ shows a.0.now a.1.0 q
next-fixed κs a r q s t p o = p.0 ∙ sym o.0
