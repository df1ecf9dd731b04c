-- Each promise fixes one answer: two that meet it are equal. Stated on the promise itself. Assumes nothing.
use mathlib.Core.Path.{◌≡◌, sym, ◌∙◌}
use Rattle.trak.proofs.tkhd.Reads as tkhd-reads
use Rattle.trak.proofs.mdhd.Reads as mdhd-reads
use Rattle.trak.proofs.hdlr.Reads as hdlr-reads
use Rattle.trak.proofs.stbl.Reads as stbl-reads
use Rattle.trak.proofs.stsz.Reads as stsz-reads
use Rattle.trak.proofs.stsd.Reads as stsd-reads
use Rattle.trak.proofs.entry.Reads as entry-reads
use Rattle.trak.proofs.missing_in_mdia.Reads as missing-in-mdia-reads
use Rattle.trak.proofs.missing_in_stbl.Reads as missing-in-stbl-reads

tkhd-fixed : (κs : _) (a : _) (r q : _) (s t : _) → tkhd-reads.Post κs a r s → tkhd-reads.Post κs a q t → r.now ≡ q.now
tkhd-fixed κs a r q s t p o = p ∙ sym o

mdhd-fixed : (κs : _) (a : _) (r q : _) (s t : _) → mdhd-reads.Post κs a r s → mdhd-reads.Post κs a q t → r.now ≡ q.now
mdhd-fixed κs a r q s t p o = p ∙ sym o

hdlr-fixed : (κs : _) (a : _) (r q : _) (s t : _) → hdlr-reads.Post κs a r s → hdlr-reads.Post κs a q t → r.now ≡ q.now
hdlr-fixed κs a r q s t p o = p ∙ sym o

stbl-fixed : (κs : _) (a : _) (r q : _) (s t : _) → stbl-reads.Post κs a r s → stbl-reads.Post κs a q t → r.now ≡ q.now
stbl-fixed κs a r q s t p o = p ∙ sym o

stsz-fixed : (κs : _) (a : _) (r q : _) (s t : _) → stsz-reads.Post κs a r s → stsz-reads.Post κs a q t → r.now ≡ q.now
stsz-fixed κs a r q s t p o = p ∙ sym o

stsd-fixed : (κs : _) (a : _) (r q : _) (s t : _) → stsd-reads.Post κs a r s → stsd-reads.Post κs a q t → r.now ≡ q.now
stsd-fixed κs a r q s t p o = p ∙ sym o

entry-fixed : (κs : _) (a : _) (r q : _) (s t : _) → entry-reads.Post κs a r s → entry-reads.Post κs a q t → r.now ≡ q.now
entry-fixed κs a r q s t p o = p ∙ sym o

missing-in-mdia-fixed : (κs : _) (a : _) (r q : _) (s t : _) → missing-in-mdia-reads.Post κs a r s → missing-in-mdia-reads.Post κs a q t → r ≡ q
missing-in-mdia-fixed κs a r q s t p o = p ∙ sym o

missing-in-stbl-fixed : (κs : _) (a : _) (r q : _) (s t : _) → missing-in-stbl-reads.Post κs a r s → missing-in-stbl-reads.Post κs a q t → r ≡ q
missing-in-stbl-fixed κs a r q s t p o = p ∙ sym o
