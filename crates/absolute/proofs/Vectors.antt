-- Worked examples of the definition, computed. Assumes nothing.
use mathlib.Core.Path.{◌≡◌, refl}
use lib.IntN.{pos, negsuc}
use Rattle.absolute.specs.Absolute.{absolute_of}

none : absolute_of (pos 0) ≡ 0
none = refl

above : absolute_of (pos 7) ≡ 7
above = refl

-- -1, and the least of 64 bits
below : absolute_of (negsuc 0) ≡ 1
below = refl

least : absolute_of (negsuc 0x7fff_ffff_ffff_ffff) ≡ 0x8000_0000_0000_0000
least = refl
