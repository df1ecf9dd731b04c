-- What the functions return, case by case, over plain variables. Assumes nothing.
use Rattle.std.specs.Prelude.{Result, Ok, Err}
use mathlib.Core.Path.{◌≡◌, refl, sym, ap, ◌∙◌}
use Prim.Native.Nat.{ℕ, ◌*◌, ◌/◌}
use lib.Ieee.{Float}
use Rattle.numbers.specs.declared.Refusal.{Refusal}
use Rattle.numbers.proofs.Chain.{is_eq, is_ne}
use Rattle.duration.specs.Duration.{micros_of}
use Rattle.summary.specs.Figures.{over, fixed_of, rate_of, summed_by, summed_of}

-- there is no millisecond
pub no-time : (count millis : ℕ) → millis ≡ 0 → over 0 1 ≡ rate_of count millis
no-time count millis e = ap (λ (n : ℕ). over n 1) (is_eq 0 (count * 1000 / millis) 0 millis 0 e refl)

-- there is one
pub some-time : (count millis : ℕ) → (millis ≡ 0 → ⊥) → over (count * 1000 / millis) 1 ≡ rate_of count millis
some-time count millis e = ap (λ (n : ℕ). over n 1) (is_ne 0 (count * 1000 / millis) (count * 1000 / millis) millis 0 e refl)

module _ (count duration timescale width height : ℕ) (told : Result ℕ Refusal) (is : told ≡ micros_of duration timescale) where
  -- the duration is refused
  pub refused : (q : Refusal) → told ≡ Err q → Err q ≡ summed_of count duration timescale width height
  refused q e = ap (summed_by count width height) (sym e ∙ is)

  -- it is told, and so are the figures
  pub summed : (micros : ℕ) → told ≡ Ok micros → (f w h : Float) → f ≡ rate_of count (micros / 1000) → w ≡ fixed_of width → h ≡ fixed_of height →
      Ok (record { frame_rate = f; width = w; height = h; micros = micros }) ≡ summed_of count duration timescale width height
  summed micros e f w h F W H =
      ap (λ (x : Float). Ok (record { frame_rate = x; width = w; height = h; micros = micros })) F
      ∙ ap (λ (x : Float). Ok (record { frame_rate = rate_of count (micros / 1000); width = x; height = h; micros = micros })) W
      ∙ ap (λ (x : Float). Ok (record { frame_rate = rate_of count (micros / 1000); width = fixed_of width; height = x; micros = micros })) H
      ∙ ap (summed_by count width height) (sym e ∙ is)
