-- Each promise fixes one answer, and the buffer: two that meet it are equal. Stated on the promise itself. Assumes nothing.
use mathlib.Core.Path.{◌≡◌}
use Rattle.builder_stss.proofs.entries.Reads as entries

entries-fixed : (κs : _) (a : _) (r q : _) (s t : _) → entries.Post κs a r s → entries.Post κs a q t → (r ≡ q) × (s.1.1.0.now ≡ t.1.1.0.now)
entries-fixed κs a r q s t p o = (cc, cc)
