-- The figures are exact: `HasValue x s a c` says that x is finite, has the sign s, and is a / c in size. Assumes nothing.
use mathlib.Core.Path.{sym}
use Prim.Native.Nat.{ℕ, ◌*◌, ◌/◌, ◌^◌, ◌≤◌, ◌<◌}
use native.Mathlib.Nat.{lt_trans, mul_assoc, div-le_self}
use native.Mathlib.Omega.{arith}
use mathlib.Core.Bool.{Bool, true, false}
use lib.Dec.{eqb}
use lib.Pow.{pow-lt, shl_lt}
use lib.Ieee.{binary64}
use lib.Ieee.Exact.{HasValue, round_exact}
use lib.Ieee.Back.{round_whole}
use Rattle.numbers.specs.Field.{when}
use Rattle.summary.specs.Figures.{over, fixed_of, frames_of, rate_of, summary_of}

-- a whole number up to 2^53
pub whole-exact : (n : ℕ) → n ≤ 2 ^ 53 → HasValue (over n 1) false n 1
whole-exact n h = round_whole binary64 false n h

-- a raw 16.16 number is itself over 65,536
pub fixed-exact : (raw : ℕ) → raw < 2 ^ 32 → HasValue (fixed_of raw) false raw 65536
fixed-exact raw h =
    round_exact binary64 false raw 65536 raw 1058 (omega arith) (omega (arith, h)) (lt_trans (shl_lt 32 1058 h) (pow-lt {i = 1090} {j = 2098} (omega arith)))
    (sym (mul_assoc raw (2 ^ 1058) 65536))

-- no rate is larger than that of one millisecond
pub frames-few : (count millis : ℕ) → frames_of count millis ≤ count * 1000
unfolding when
frames-few count millis = cases (eqb millis 0)
  where
    cases : (t : Bool) → when t 0 (count * 1000 / millis) ≤ count * 1000
    cases true = omega arith
    cases false = div-le_self (count * 1000) millis

-- a frame rate is its whole frames, whatever the milliseconds
pub rate-exact : (count millis : ℕ) → count < 2 ^ 32 → HasValue (rate_of count millis) false (frames_of count millis) 1
rate-exact count millis h = whole-exact (frames_of count millis) (omega (arith, frames-few count millis, h))

-- so are all figures of a summary
pub summary-exact : (count width height micros : ℕ) → count < 2 ^ 32 → width < 2 ^ 32 → height < 2 ^ 32 →
    HasValue (summary_of count width height micros).frame_rate false (frames_of count (micros / 1000)) 1
    × (HasValue (summary_of count width height micros).width false width 65536
    × HasValue (summary_of count width height micros).height false height 65536)
summary-exact count width height micros c w h = (rate-exact count (micros / 1000) c, (fixed-exact width w, fixed-exact height h))
