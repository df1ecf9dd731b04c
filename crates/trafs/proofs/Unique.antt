-- Each promise fixes one answer: two that meet it are equal. Stated on the promise itself. Assumes nothing.
use mathlib.Core.Path.{◌≡◌, sym, ◌∙◌}
use Rattle.trafs.proofs.of_box.Reads as of-box
use Rattle.trafs.proofs.run.Reads as trafs-run

of-box-fixed : (κs : _) (a : _) (r q : _) (s t : _) → of-box.Post κs a r s → of-box.Post κs a q t → r ≡ q
of-box-fixed κs a r q s t p o = p ∙ sym o

run-fixed : (κs : _) (a : _) (r q : _) (s t : _) → trafs-run.Post κs a r s → trafs-run.Post κs a q t → r ≡ q
run-fixed κs a r q s t p o = p ∙ sym o
