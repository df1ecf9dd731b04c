-- The summary of a track (document 01, Summary and Duration). Its figures are values of binary64, IEEE 754: `round` gives
-- the one nearest to a fraction, and proofs/Exact.antt says that it is the fraction itself. Width and height are 16.16
-- numbers (ISO/IEC 14496-12, 8.3.2). Assumes nothing.
use Rattle.std.specs.Prelude.{ℕ, ◌*◌, ◌/◌, false, eqb, Float, Result, Ok, Err}
use Rattle.std.specs.Float.{binary64}
use Rattle.std.specs.Float.Ieee.{round}
use Rattle.numbers.specs.Field.{when}
use Rattle.duration.specs.Duration.{micros_of}
use Rattle.summary.specs.declared.Summary.{Summary}
use Rattle.numbers.specs.declared.Refusal.{Refusal}

-- the value nearest to a / c
abbrev pub over : ℕ → ℕ → Float
over a c = round binary64 false a c

-- a raw 16.16 number over 65,536
abbrev pub fixed_of : ℕ → Float
fixed_of raw = over raw 65536

-- the whole frames to a second, of so many in that many milliseconds; 0 where those are 0
abbrev pub frames_of : ℕ → ℕ → ℕ
frames_of count millis = when (eqb millis 0) 0 (count * 1000 / millis)

abbrev pub rate_of : ℕ → ℕ → Float
rate_of count millis = over (frames_of count millis) 1

-- the summary from the microseconds, whose whole milliseconds the frame rate counts by
abbrev pub summary_of : ℕ → ℕ → ℕ → ℕ → Summary
summary_of count width height micros =
    record { frame_rate = rate_of count (micros / 1000); width = fixed_of width; height = fixed_of height; micros = micros }

-- the same from what is told of the microseconds; their refusal is the summary's
abbrev pub summed_by : ℕ → ℕ → ℕ → Result ℕ Refusal → Result Summary Refusal
summed_by count width height (Ok micros) = Ok (summary_of count width height micros)
summed_by count width height (Err q) = Err q

abbrev pub summed_of : ℕ → ℕ → ℕ → ℕ → ℕ → Result Summary Refusal
summed_of count duration timescale width height = summed_by count width height (micros_of duration timescale)
