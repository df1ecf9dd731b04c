-- Each promise fixes one answer: two that meet it are equal. Stated on the promise itself. Assumes nothing.
use mathlib.Core.Path.{◌≡◌, sym, ◌∙◌}
use Rattle.vpformat.proofs.bit_depth.Reads as depth
use Rattle.vpformat.proofs.chroma.Reads as chroma
use Rattle.vpformat.proofs.full_range.Reads as full
use Rattle.vpformat.proofs.sampling.Reads as sampling

depth-fixed : (κs : _) (a : _) (r q : _) (s t : _) → depth.Post κs a r s → depth.Post κs a q t → r ≡ q
depth-fixed κs a r q s t p o = p ∙ sym o

chroma-fixed : (κs : _) (a : _) (r q : _) (s t : _) → chroma.Post κs a r s → chroma.Post κs a q t → r ≡ q
chroma-fixed κs a r q s t p o = p ∙ sym o

full-fixed : (κs : _) (a : _) (r q : _) (s t : _) → full.Post κs a r s → full.Post κs a q t → r ≡ q
full-fixed κs a r q s t p o = p ∙ sym o

sampling-fixed : (κs : _) (a : _) (r q : _) (s t : _) → sampling.Post κs a r s → sampling.Post κs a q t → r ≡ q
sampling-fixed κs a r q s t p o = p ∙ sym o
