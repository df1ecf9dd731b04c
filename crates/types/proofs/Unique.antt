-- Each promise fixes one answer: two that meet it are equal. Stated on the promise itself. Assumes nothing.
use mathlib.Core.Path.{◌≡◌, sym, ◌∙◌}
use Rattle.types.proofs.fixed.raw8.Reads as raw8
use Rattle.types.proofs.fixed.whole8.Reads as whole8
use Rattle.types.proofs.fixed.raw16.Reads as raw16
use Rattle.types.proofs.fixed.whole16.Reads as whole16
use Rattle.types.proofs.fixed.raw_signed8.Reads as raw-signed8
use Rattle.types.proofs.fixed.whole_signed8.Reads as whole-signed8
use Rattle.types.proofs.letters.number_of.Reads as number_of_lem
use Rattle.types.proofs.letters.of_number.Reads as of_number

raw8-fixed : (κs : _) (a : _) (r q : _) (s t : _) → raw8.Post κs a r s → raw8.Post κs a q t → r ≡ q
raw8-fixed κs a r q s t p o = p ∙ sym o

whole8-fixed : (κs : _) (a : _) (r q : _) (s t : _) → whole8.Post κs a r s → whole8.Post κs a q t → r ≡ q
whole8-fixed κs a r q s t p o = p ∙ sym o

raw16-fixed : (κs : _) (a : _) (r q : _) (s t : _) → raw16.Post κs a r s → raw16.Post κs a q t → r ≡ q
raw16-fixed κs a r q s t p o = p ∙ sym o

whole16-fixed : (κs : _) (a : _) (r q : _) (s t : _) → whole16.Post κs a r s → whole16.Post κs a q t → r ≡ q
whole16-fixed κs a r q s t p o = p ∙ sym o

raw-signed8-fixed : (κs : _) (a : _) (r q : _) (s t : _) → raw-signed8.Post κs a r s → raw-signed8.Post κs a q t → r ≡ q
raw-signed8-fixed κs a r q s t p o = p ∙ sym o

whole-signed8-fixed : (κs : _) (a : _) (r q : _) (s t : _) → whole-signed8.Post κs a r s → whole-signed8.Post κs a q t → r ≡ q
whole-signed8-fixed κs a r q s t p o = p ∙ sym o

number-of-fixed : (κs : _) (a : _) (r q : _) (s t : _) → number_of_lem.Post κs a r s → number_of_lem.Post κs a q t → r ≡ q
number-of-fixed κs a r q s t p o = p ∙ sym o

of-number-fixed : (κs : _) (a : _) (r q : _) (s t : _) → of_number.Post κs a r s → of_number.Post κs a q t → r ≡ q
of-number-fixed κs a r q s t p o = p ∙ sym o
