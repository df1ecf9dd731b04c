-- Each promise fixes one answer: two that meet it are equal. Stated on the promise itself. Assumes nothing.
use mathlib.Core.Path.{◌≡◌, sym, ◌∙◌}
use Rattle.track.proofs.number.Reads as number-reads
use Rattle.track.proofs.timescale.Reads as timescale-reads
use Rattle.track.proofs.language.Reads as language-reads
use Rattle.track.proofs.kind.Reads as kind-reads
use Rattle.track.proofs.media.Reads as media-reads
use Rattle.track.proofs.samples.Reads as samples-reads

number-fixed : (κs : _) (a : _) (r q : _) (s t : _) → number-reads.Post κs a r s → number-reads.Post κs a q t → r ≡ q
number-fixed κs a r q s t p o = p ∙ sym o

timescale-fixed : (κs : _) (a : _) (r q : _) (s t : _) → timescale-reads.Post κs a r s → timescale-reads.Post κs a q t → r ≡ q
timescale-fixed κs a r q s t p o = p ∙ sym o

language-fixed : (κs : _) (a : _) (r q : _) (s t : _) → language-reads.Post κs a r s → language-reads.Post κs a q t → r ≡ q
language-fixed κs a r q s t p o = p ∙ sym o

kind-fixed : (κs : _) (a : _) (r q : _) (s t : _) → kind-reads.Post κs a r s → kind-reads.Post κs a q t → r ≡ q
kind-fixed κs a r q s t p o = p ∙ sym o

media-fixed : (κs : _) (a : _) (r q : _) (s t : _) → media-reads.Post κs a r s → media-reads.Post κs a q t → r ≡ q
media-fixed κs a r q s t p o = p ∙ sym o

samples-fixed : (κs : _) (a : _) (r q : _) (s t : _) → samples-reads.Post κs a r s → samples-reads.Post κs a q t → r ≡ q
samples-fixed κs a r q s t p o = p ∙ sym o
