-- Worked examples of the definitions, computed. Assumes nothing.
use Rattle.std.specs.Prelude.{Ok, Err}
use mathlib.Core.Path.{◌≡◌, refl}
use Prim.Native.Nat.{◌*◌}
use mathlib.Core.Bool.{false}
use lib.IntN.{pos, negsuc}
use lib.Ieee.{fin, round}
use Rattle.numbers.specs.Field.{when}
use Rattle.numbers.specs.declared.Refusal.TheVariants as refusal
use Rattle.summary.specs.Figures.{over, fixed_of, rate_of, summed_of}

-- `fin false m e` is m times 2 to the power of e: 1.5, the least above 0, a width of 1920, and the largest
half : fixed_of 0x1_8000 ≡ fin false 3 (negsuc 0)
unfolding round
half = refl

least : fixed_of 1 ≡ fin false 1 (negsuc 15)
unfolding round
least = refl

wide : fixed_of (1920 * 65536) ≡ fin false 15 (pos 7)
unfolding round
wide = refl

largest : fixed_of 0xffff_ffff ≡ fin false 0xffff_ffff (negsuc 15)
unfolding round
largest = refl

-- case 4: 1,800 samples in 60,060 ms are 29.0 frames to a second, though the nearest whole number is 30
case-4 : rate_of 1800 60060 ≡ fin false 29 (pos 0)
unfolding when round
case-4 = refl

-- 30.0 in a minute, less than that in a millisecond more, and 0.0 without a millisecond
a-minute : rate_of 1800 60000 ≡ fin false 15 (pos 1)
unfolding when round
a-minute = refl

over-a-minute : rate_of 1800 60001 ≡ fin false 29 (pos 0)
unfolding when round
over-a-minute = refl

no-time : rate_of 1800 0 ≡ fin false 0 (pos 0)
unfolding when round
no-time = refl

-- the fastest: every number that a count may be, in one millisecond
fastest : rate_of 0xffff_ffff 1 ≡ over 4_294_967_295_000 1
unfolding when
fastest = refl

-- case 4 from a duration: 60.06 seconds by a timescale of 30,000, in a picture of 1920 by 1080
case-4-summed : summed_of 1800 1_801_800 30_000 (1920 * 65536) (1080 * 65536)
    ≡ Ok (record { frame_rate = fin false 29 (pos 0); width = fin false 15 (pos 7); height = fin false 135 (pos 3); micros = 60_060_000 })
unfolding when round
case-4-summed = refl

-- whole milliseconds alone count: 1.999 of them are one
one-milli : summed_of 1 1_999 1_000_000 0 0
    ≡ Ok (record { frame_rate = fin false 125 (pos 3); width = fin false 0 (pos 0); height = fin false 0 (pos 0); micros = 1_999 })
unfolding when round
one-milli = refl

no-milli : summed_of 1 999 1_000_000 0 0
    ≡ Ok (record { frame_rate = fin false 0 (pos 0); width = fin false 0 (pos 0); height = fin false 0 (pos 0); micros = 999 })
unfolding when round
no-milli = refl

-- case 5: timescale 1, duration 18,446,744,073,709 fits; one more is 9
case-5-fits : summed_of 1800 18_446_744_073_709 1 0 0
    ≡ Ok (record { frame_rate = fin false 0 (pos 0); width = fin false 0 (pos 0); height = fin false 0 (pos 0); micros = 18_446_744_073_709_000_000 })
unfolding when round
case-5-fits = refl

case-5-one-more : summed_of 1800 18_446_744_073_710 1 0 0 ≡ Err refusal.Overflow
unfolding when
case-5-one-more = refl

-- a timescale of 0 is 8, however long the duration
no-timescale : summed_of 1800 18_446_744_073_710 0 0 0 ≡ Err (refusal.Value 0)
unfolding when
no-timescale = refl
