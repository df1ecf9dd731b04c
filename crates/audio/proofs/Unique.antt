-- Each promise fixes one answer: two that meet it are equal. Stated on the promise itself. Assumes nothing.
use mathlib.Core.Path.{◌≡◌, sym, ◌∙◌}
use Rattle.audio.proofs.objects.object_type.Reads as object_type
use Rattle.audio.proofs.frequencies.frequency.Reads as frequency
use Rattle.audio.proofs.frequencies.index_of.Reads as index_of
use Rattle.audio.proofs.channels.configuration.Reads as configuration

object-type-fixed : (κs : _) (a : _) (r q : _) (s t : _) → object_type.Post κs a r s → object_type.Post κs a q t → r ≡ q
object-type-fixed κs a r q s t p o = p ∙ sym o

frequency-fixed : (κs : _) (a : _) (r q : _) (s t : _) → frequency.Post κs a r s → frequency.Post κs a q t → r ≡ q
frequency-fixed κs a r q s t p o = p ∙ sym o

index-of-fixed : (κs : _) (a : _) (r q : _) (s t : _) → index_of.Post κs a r s → index_of.Post κs a q t → r ≡ q
index-of-fixed κs a r q s t p o = p ∙ sym o

configuration-fixed : (κs : _) (a : _) (r q : _) (s t : _) → configuration.Post κs a r s → configuration.Post κs a q t → r ≡ q
configuration-fixed κs a r q s t p o = p ∙ sym o
