-- Each promise fixes one answer: two that meet it are equal. Stated on the promise itself. Assumes nothing.
use mathlib.Core.Path.{◌≡◌, sym, ◌∙◌}
use Rattle.track_size.proofs.bytes.Reads as bytes-reads
use Rattle.track_size.proofs.bitrate.Reads as bitrate-reads
use Rattle.track_size.proofs.summary.Reads as summary-reads

bytes-fixed : (κs : _) (a : _) (r q : _) (s t : _) → bytes-reads.Post κs a r s → bytes-reads.Post κs a q t → r ≡ q
bytes-fixed κs a r q s t p o = p ∙ sym o

bitrate-fixed : (κs : _) (a : _) (r q : _) (s t : _) → bitrate-reads.Post κs a r s → bitrate-reads.Post κs a q t → r ≡ q
bitrate-fixed κs a r q s t p o = p ∙ sym o

summary-fixed : (κs : _) (a : _) (r q : _) (s t : _) → summary-reads.Post κs a r s → summary-reads.Post κs a q t → r ≡ q
summary-fixed κs a r q s t p o = p ∙ sym o
