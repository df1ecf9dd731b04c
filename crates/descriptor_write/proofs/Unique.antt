-- Each promise fixes one answer, and the buffer with it: two that meet it are equal. Stated on the promise itself.
-- Assumes nothing.
use mathlib.Core.Path.{◌≡◌, sym, ◌∙◌}
use Rattle.descriptor_write.proofs.length_size.Reads as length-size
use Rattle.descriptor_write.proofs.put_length.Reads as put-length
use Rattle.descriptor_write.proofs.put_head.Reads as put-head

length-size-fixed : (κs : _) (a : _) (r q : _) (s t : _) → length-size.Post κs a r s → length-size.Post κs a q t → r ≡ q
length-size-fixed κs a r q s t p o = p ∙ sym o

put-length-fixed : (κs : _) (a : _) (r q : _) (s t : _) → put-length.Post κs a r s → put-length.Post κs a q t → (r ≡ q) × (s.0.now ≡ t.0.now)
put-length-fixed κs a r q s t p o = (cc, cc)

put-head-fixed : (κs : _) (a : _) (r q : _) (s t : _) → put-head.Post κs a r s → put-head.Post κs a q t → (r ≡ q) × (s.0.now ≡ t.0.now)
put-head-fixed κs a r q s t p o = (cc, cc)
