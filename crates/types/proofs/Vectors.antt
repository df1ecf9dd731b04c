-- Worked examples of the definitions, computed. Assumes nothing.
use mathlib.Core.Path.{◌≡◌, refl}
use mathlib.Core.List.{[], ◌∷◌}
use Prim.Native.Nat.{◌+◌, ◌*◌}
use lib.IntN.{pos, negsuc}
use Rattle.numbers.specs.Number.{be}
use Rattle.types.specs.Fixed.{raw_of, whole_of, signed_raw, signed_whole}

-- 'moov'
moov : be 4 (0x6d ∷ 0x6f ∷ 0x6f ∷ 0x76 ∷ []) 0 ≡ 0x6d6f6f76
unfolding be
moov = refl

-- a width of 640 in 16.16; 640 and a half has the whole part 640
width-640 : raw_of 2 640 ≡ 640 * 65536
width-640 = refl

half-left : whole_of 2 (640 * 65536 + 32768) ≡ 640
half-left = refl

-- a balance of -1 in signed 8.8, of the least, of -1.5 and of -0.5: toward 0
left : signed_raw 1 (negsuc 0) ≡ negsuc 255
left = refl

least : signed_raw 1 (negsuc 127) ≡ negsuc 32767
least = refl

least-back : signed_whole 1 (negsuc 32767) ≡ negsuc 127
least-back = refl

one_and_a_half : signed_whole 1 (negsuc 383) ≡ negsuc 0
one_and_a_half = refl

half-of-left : signed_whole 1 (negsuc 127) ≡ pos 0
half-of-left = refl
