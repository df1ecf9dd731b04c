-- Each promise fixes one answer: two that meet it are equal. Stated on the promise itself. Assumes nothing.
use mathlib.Core.Path.{◌≡◌, sym, ◌∙◌}
use Rattle.track_video.proofs.profile.Reads as profile-reads
use Rattle.track_video.proofs.sps.Reads as sps-reads
use Rattle.track_video.proofs.pps.Reads as pps-reads
use Rattle.track_video.proofs.sps_fault.Reads as sps-fault-reads
use Rattle.track_video.proofs.pps_fault.Reads as pps-fault-reads

profile-fixed : (κs : _) (a : _) (r q : _) (s t : _) → profile-reads.Post κs a r s → profile-reads.Post κs a q t → r ≡ q
profile-fixed κs a r q s t p o = p ∙ sym o

sps-fixed : (κs : _) (a : _) (r q : _) (s t : _) → sps-reads.Post κs a r s → sps-reads.Post κs a q t → r.now ≡ q.now
sps-fixed κs a r q s t p o = p ∙ sym o

pps-fixed : (κs : _) (a : _) (r q : _) (s t : _) → pps-reads.Post κs a r s → pps-reads.Post κs a q t → r.now ≡ q.now
pps-fixed κs a r q s t p o = p ∙ sym o

sps-fault-fixed : (κs : _) (a : _) (r q : _) (s t : _) → sps-fault-reads.Post κs a r s → sps-fault-reads.Post κs a q t → r ≡ q
sps-fault-fixed κs a r q s t p o = p ∙ sym o

pps-fault-fixed : (κs : _) (a : _) (r q : _) (s t : _) → pps-fault-reads.Post κs a r s → pps-fault-reads.Post κs a q t → r ≡ q
pps-fault-fixed κs a r q s t p o = p ∙ sym o
