-- Each promise fixes one answer, with what is told beside it and the words: two that meet it are equal. Stated on the
-- promise itself. Assumes nothing.
use mathlib.Core.Path.{◌≡◌}
use Rattle.witness.proofs.framewitness_audit.Reads as audit
use Rattle.witness.proofs.framewitness_track.Reads as track
use Rattle.witness.proofs.framewitness_list.Reads as list
use Rattle.witness.proofs.framewitness_sample.Reads as sample
use Rattle.witness.proofs.framewitness_summary.Reads as summary

audit-fixed : (κs : _) (a : _) (r q : _) (s t : _) → audit.Post κs a r s → audit.Post κs a q t
    → (r ≡ q) × (s.1.0.now ≡ t.1.0.now) × (s.1.1.0.now ≡ t.1.1.0.now)
audit-fixed κs a r q s t p o = (cc, cc, cc)

track-fixed : (κs : _) (a : _) (r q : _) (s t : _) → track.Post κs a r s → track.Post κs a q t → (r ≡ q) × (s.1.1.0.now ≡ t.1.1.0.now)
track-fixed κs a r q s t p o = (cc, cc)

list-fixed : (κs : _) (a : _) (r q : _) (s t : _) → list.Post κs a r s → list.Post κs a q t
    → (r ≡ q) × (s.1.1.0.now ≡ t.1.1.0.now) × (s.1.1.1.0.now ≡ t.1.1.1.0.now)
list-fixed κs a r q s t p o = (cc, cc, cc)

sample-fixed : (κs : _) (a : _) (r q : _) (s t : _) → sample.Post κs a r s → sample.Post κs a q t
    → (r ≡ q) × (s.1.1.1.0.now ≡ t.1.1.1.0.now) × (s.1.1.1.1.0.now ≡ t.1.1.1.1.0.now)
sample-fixed κs a r q s t p o = (cc, cc, cc)

summary-fixed : (κs : _) (a : _) (r q : _) (s t : _) → summary.Post κs a r s → summary.Post κs a q t
    → (r ≡ q) × (s.1.1.0.now ≡ t.1.1.0.now) × (s.1.1.1.0.now ≡ t.1.1.1.0.now)
summary-fixed κs a r q s t p o = (cc, cc, cc)
