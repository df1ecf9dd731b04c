-- Each promise fixes one answer: two that meet it are equal. Stated on the promise itself. Assumes nothing.
use mathlib.Core.Path.{◌≡◌, sym, ◌∙◌}
use Rattle.seek.proofs.value_at.Reads as value-at
use Rattle.seek.proofs.chunk_at.Reads as chunk-at
use Rattle.seek.proofs.span.Reads as span

value-at-fixed : (κs : _) (a : _) (r q : _) (s t : _) → value-at.Post κs a r s → value-at.Post κs a q t → r ≡ q
value-at-fixed κs a r q s t p o = p ∙ sym o

chunk-at-fixed : (κs : _) (a : _) (r q : _) (s t : _) → chunk-at.Post κs a r s → chunk-at.Post κs a q t → r ≡ q
chunk-at-fixed κs a r q s t p o = p ∙ sym o

span-fixed : (κs : _) (a : _) (r q : _) (s t : _) → span.Post κs a r s → span.Post κs a q t → r ≡ q
span-fixed κs a r q s t p o = p ∙ sym o
