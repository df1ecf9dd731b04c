-- Each promise fixes one answer, and the buffer: two that meet it are equal. Stated on the promise itself. Assumes nothing.
use mathlib.Core.Path.{◌≡◌, sym, ◌∙◌}
use Rattle.builder_stsz.proofs.common.Reads as common
use Rattle.builder_stsz.proofs.entries.Reads as entries

common-fixed : (κs : _) (a : _) (r q : _) (s t : _) → common.Post κs a r s → common.Post κs a q t → r ≡ q
common-fixed κs a r q s t p o = p ∙ sym o

entries-fixed : (κs : _) (a : _) (r q : _) (s t : _) → entries.Post κs a r s → entries.Post κs a q t → (r ≡ q) × (s.1.1.0.now ≡ t.1.1.0.now)
entries-fixed κs a r q s t p o = (cc, cc)
