-- Each promise fixes one answer: two that meet it are equal. Stated on the promise itself. Assumes nothing.
use mathlib.Core.Path.{◌≡◌, sym, ◌∙◌}
use Rattle.trak_boxes.proofs.tkhd.Reads as tkhd-reads
use Rattle.trak_boxes.proofs.mdhd.Reads as mdhd-reads
use Rattle.trak_boxes.proofs.hdlr.Reads as hdlr-reads
use Rattle.trak_boxes.proofs.stsz.Reads as stsz-reads
use Rattle.trak_boxes.proofs.stsd.Reads as stsd-reads
use Rattle.trak_boxes.proofs.entry_kind.Reads as entry-kind-reads

tkhd-fixed : (κs : _) (a : _) (r q : _) (s t : _) → tkhd-reads.Post κs a r s → tkhd-reads.Post κs a q t → r ≡ q
tkhd-fixed κs a r q s t p o = p ∙ sym o

mdhd-fixed : (κs : _) (a : _) (r q : _) (s t : _) → mdhd-reads.Post κs a r s → mdhd-reads.Post κs a q t → r ≡ q
mdhd-fixed κs a r q s t p o = p ∙ sym o

hdlr-fixed : (κs : _) (a : _) (r q : _) (s t : _) → hdlr-reads.Post κs a r s → hdlr-reads.Post κs a q t → r ≡ q
hdlr-fixed κs a r q s t p o = p ∙ sym o

stsz-fixed : (κs : _) (a : _) (r q : _) (s t : _) → stsz-reads.Post κs a r s → stsz-reads.Post κs a q t → r ≡ q
stsz-fixed κs a r q s t p o = p ∙ sym o

stsd-fixed : (κs : _) (a : _) (r q : _) (s t : _) → stsd-reads.Post κs a r s → stsd-reads.Post κs a q t → r ≡ q
stsd-fixed κs a r q s t p o = p ∙ sym o

entry-kind-fixed : (κs : _) (a : _) (r q : _) (s t : _) → entry-kind-reads.Post κs a r s → entry-kind-reads.Post κs a q t → r ≡ q
entry-kind-fixed κs a r q s t p o = p ∙ sym o
