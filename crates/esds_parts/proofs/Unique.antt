-- Each promise fixes one answer: two that meet it are equal. Stated on the promise itself. Assumes nothing.
use mathlib.Core.Path.{◌≡◌, sym, ◌∙◌}
use Rattle.esds_parts.proofs.url.Reads as url
use Rattle.esds_parts.proofs.info.Reads as info
use Rattle.esds_parts.proofs.sl.Reads as sl

url-fixed : (κs : _) (a : _) (r q : _) (s t : _) → url.Post κs a r s → url.Post κs a q t → r.now ≡ q.now
url-fixed κs a r q s t p o = p ∙ sym o

info-fixed : (κs : _) (a : _) (r q : _) (s t : _) → info.Post κs a r s → info.Post κs a q t → r.now ≡ q.now
info-fixed κs a r q s t p o = p ∙ sym o

sl-fixed : (κs : _) (a : _) (r q : _) (s t : _) → sl.Post κs a r s → sl.Post κs a q t → r.now ≡ q.now
sl-fixed κs a r q s t p o = p ∙ sym o
