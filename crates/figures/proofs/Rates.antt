-- The frame rate of a summary is the float of the whole frames here. Assumes nothing.
use Prim.Native.Nat.{ℕ, ◌/◌}
use mathlib.Core.Path.{◌≡◌, refl}
use Rattle.summary.specs.Figures.{over, rate_of}
use Rattle.tkhd.specs.declared.Tkhd.{Tkhd}
use Rattle.mdhd.specs.declared.Mdhd.{Mdhd}
use Rattle.figures.specs.Words.{figures_by}

pub rate-of-frames : (h : Tkhd) (m : Mdhd) (handler entry micros samples bytes : ℕ)
    → rate_of samples (micros / 1000) ≡ over (figures_by h m handler entry micros samples bytes).frames 1
rate-of-frames h m handler entry micros samples bytes = refl
