-- Each promise fixes one answer, and the buffer with it: two that meet it are equal. Stated on the promise itself. Assumes nothing.
use mathlib.Core.Path.{◌≡◌}
use Rattle.put.proofs.number.Reads as number
use Rattle.put.proofs.part.Reads as part
use Rattle.put.proofs.write.Reads as write

number-fixed : (κs : _) (a : _) (r q : _) (s t : _) → number.Post κs a r s → number.Post κs a q t → (r ≡ q) × (s.0.now ≡ t.0.now)
number-fixed κs a r q s t p o = (cc, cc)

-- a number of any type
write-fixed : (κs : _) (a : _) (b : _) (c : _) (d : _) (e : _) (f : _) (g : _) (x : _) (r q : _) (s t : _) → write.Post κs a b c d e f g x r s → write.Post κs a b c d e f g x q t → (r ≡ q) × (s.0.now ≡ t.0.now)
write-fixed κs a b c d e f g x r q s t p o = (cc, cc)

part-fixed : (κs : _) (a : _) (r q : _) (s t : _) → part.Post κs a r s → part.Post κs a q t → (r ≡ q) × (s.0.now ≡ t.0.now)
part-fixed κs a r q s t p o = (cc, cc)
