-- Each promise fixes one answer: two that meet it are equal. Stated on the promise itself. Assumes nothing.
use mathlib.Core.Path.{◌≡◌, sym, ◌∙◌}
use Rattle.avcc_parts.proofs.sps_list.Reads as sps-list
use Rattle.avcc_parts.proofs.pps_list.Reads as pps-list
use Rattle.avcc_parts.proofs.extension.Reads as extension
use Rattle.avcc_parts.proofs.sps.Reads as sps
use Rattle.avcc_parts.proofs.pps.Reads as pps

sps-list-fixed : (κs : _) (a : _) (r q : _) (s t : _) → sps-list.Post κs a r s → sps-list.Post κs a q t → r.now ≡ q.now
sps-list-fixed κs a r q s t p o = p ∙ sym o

pps-list-fixed : (κs : _) (a : _) (r q : _) (s t : _) → pps-list.Post κs a r s → pps-list.Post κs a q t → r.now ≡ q.now
pps-list-fixed κs a r q s t p o = p ∙ sym o

extension-fixed : (κs : _) (a : _) (r q : _) (s t : _) → extension.Post κs a r s → extension.Post κs a q t → r.now ≡ q.now
extension-fixed κs a r q s t p o = p ∙ sym o

sps-fixed : (κs : _) (a : _) (r q : _) (s t : _) → sps.Post κs a r s → sps.Post κs a q t → r.now ≡ q.now
sps-fixed κs a r q s t p o = p ∙ sym o

pps-fixed : (κs : _) (a : _) (r q : _) (s t : _) → pps.Post κs a r s → pps.Post κs a q t → r.now ≡ q.now
pps-fixed κs a r q s t p o = p ∙ sym o
