-- Each promise fixes one answer, and the buffer: two that meet it are equal. Stated on the promise itself. Assumes nothing.
use mathlib.Core.Path.{◌≡◌, sym, ◌∙◌}
use Rattle.columns.proofs.has.Reads as has
use Rattle.columns.proofs.cell.Reads as cell
use Rattle.columns.proofs.low.Reads as low
use Rattle.columns.proofs.right.Reads as right
use Rattle.columns.proofs.all_right.Reads as All-right
use Rattle.columns.proofs.word.Reads as word

has-fixed : (κs : _) (a : _) (r q : _) (s t : _) → has.Post κs a r s → has.Post κs a q t → r ≡ q
has-fixed κs a r q s t p o = p ∙ sym o

cell-fixed : (κs : _) (a : _) (r q : _) (s t : _) → cell.Post κs a r s → cell.Post κs a q t → r ≡ q
cell-fixed κs a r q s t p o = p ∙ sym o

low-fixed : (κs : _) (a : _) (r q : _) (s t : _) → low.Post κs a r s → low.Post κs a q t → r ≡ q
low-fixed κs a r q s t p o = p ∙ sym o

right-fixed : (κs : _) (a : _) (r q : _) (s t : _) → right.Post κs a r s → right.Post κs a q t → r ≡ q
right-fixed κs a r q s t p o = p ∙ sym o

all-right-fixed : (κs : _) (a : _) (r q : _) (s t : _) → All-right.Post κs a r s → All-right.Post κs a q t → r ≡ q
all-right-fixed κs a r q s t p o = p ∙ sym o

word-fixed : (κs : _) (a : _) (r q : _) (s t : _) → word.Post κs a r s → word.Post κs a q t → s.0.now ≡ t.0.now
word-fixed κs a r q s t p o = p ∙ sym o
