-- Each promise fixes one answer: two that meet it are equal. Stated on the promise itself. Assumes nothing.
use mathlib.Core.Path.{◌≡◌, sym, ◌∙◌}
use Rattle.media.proofs.handlers.kind_of.Reads as kind-of
use Rattle.media.proofs.handlers.letters_of.Reads as letters-of
use Rattle.media.proofs.entries.media_of.Reads as media-of
use Rattle.media.proofs.entries.entry_of.Reads as entry_of

kind-of-fixed : (κs : _) (a : _) (r q : _) (s t : _) → kind-of.Post κs a r s → kind-of.Post κs a q t → r ≡ q
kind-of-fixed κs a r q s t p o = p ∙ sym o

letters-of-fixed : (κs : _) (a : _) (r q : _) (s t : _) → letters-of.Post κs a r s → letters-of.Post κs a q t → r ≡ q
letters-of-fixed κs a r q s t p o = p ∙ sym o

media-of-fixed : (κs : _) (a : _) (r q : _) (s t : _) → media-of.Post κs a r s → media-of.Post κs a q t → r ≡ q
media-of-fixed κs a r q s t p o = p ∙ sym o

entry-of-fixed : (κs : _) (a : _) (r q : _) (s t : _) → entry_of.Post κs a r s → entry_of.Post κs a q t → r ≡ q
entry-of-fixed κs a r q s t p o = p ∙ sym o
