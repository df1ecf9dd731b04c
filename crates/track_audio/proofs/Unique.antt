-- Each promise fixes one answer: two that meet it are equal. Stated on the promise itself. Assumes nothing.
use mathlib.Core.Path.{◌≡◌, sym, ◌∙◌}
use Rattle.track_audio.proofs.profile.Reads as profile-reads
use Rattle.track_audio.proofs.frequency.Reads as frequency-reads
use Rattle.track_audio.proofs.channels.Reads as channels-reads
use Rattle.track_audio.proofs.bitrate.Reads as bitrate-reads

profile-fixed : (κs : _) (a : _) (r q : _) (s t : _) → profile-reads.Post κs a r s → profile-reads.Post κs a q t → r ≡ q
profile-fixed κs a r q s t p o = p ∙ sym o

frequency-fixed : (κs : _) (a : _) (r q : _) (s t : _) → frequency-reads.Post κs a r s → frequency-reads.Post κs a q t → r ≡ q
frequency-fixed κs a r q s t p o = p ∙ sym o

channels-fixed : (κs : _) (a : _) (r q : _) (s t : _) → channels-reads.Post κs a r s → channels-reads.Post κs a q t → r ≡ q
channels-fixed κs a r q s t p o = p ∙ sym o

bitrate-fixed : (κs : _) (a : _) (r q : _) (s t : _) → bitrate-reads.Post κs a r s → bitrate-reads.Post κs a q t → r ≡ q
bitrate-fixed κs a r q s t p o = p ∙ sym o
