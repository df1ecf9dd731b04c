-- Each promise fixes one answer: two that meet it are equal. Stated on the promise itself. Assumes nothing.
use mathlib.Core.Path.{◌≡◌, sym, ◌∙◌}
use Rattle.language.proofs.of_code.Reads as of_code
use Rattle.language.proofs.code_of.Reads as code_of_lem

of-code-fixed : (κs : _) (a : _) (r q : _) (s t : _) → of_code.Post κs a r s → of_code.Post κs a q t → r ≡ q
of-code-fixed κs a r q s t p o = p ∙ sym o

code-of-fixed : (κs : _) (a : _) (r q : _) (s t : _) → code_of_lem.Post κs a r s → code_of_lem.Post κs a q t → r ≡ q
code-of-fixed κs a r q s t p o = p ∙ sym o
