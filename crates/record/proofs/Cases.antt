-- What the functions return, case by case, over plain variables. Assumes nothing.
use Rattle.std.specs.Prelude.{Ok, Err}
use mathlib.Core.Path.{◌≡◌, refl, ap, ◌∙◌}
use Prim.Native.Nat.{ℕ, ◌+◌, ◌<◌, ◌≤◌}
use mathlib.Core.Bool.{Bool, false, ◌&&◌}
use lib.Dec.{ltb}
use borrow.Author.Tests.{lt-ltb, le-ltb}
use Rattle.numbers.specs.declared.Refusal.TheVariants as refusal
use Rattle.numbers.proofs.Chain.{by-true, by-false, is_lt, not-lt}
use Rattle.samples.specs.Lists.{end_bound, time_bound}
use Rattle.record.specs.Growth.{most, grown_by, holds, added_to}
use Rattle.record.specs.declared.Track.{Track}

module _ (t : Track) (size duration : ℕ) where
  -- there are as many samples as a track may have
  pub full : most ≤ t.samples → Err (refusal.Limit 0) ≡ added_to t size duration
  full h = not-lt _ _ _ t.samples most h refl

  module _ (few : t.samples < most) where
    no_room : holds t size duration ≡ false → Err refusal.Overflow ≡ added_to t size duration
    no_room e = is_lt _ _ _ t.samples most few (by-false _ _ _ (holds t size duration) e refl)

    -- the sample's time is no decode time
    pub late : time_bound ≤ t.duration → Err refusal.Overflow ≡ added_to t size duration
    late h = no_room (ap (λ (b : Bool). b && (ltb (t.bytes + size) end_bound && ltb (t.duration + duration) end_bound)) (le-ltb t.duration time_bound h))

    module _ (early : t.duration < time_bound) where
      -- the bytes have no 64 bits
      pub large : end_bound ≤ t.bytes + size → Err refusal.Overflow ≡ added_to t size duration
      large h =
          no_room
          (ap (λ (b : Bool). b && (ltb (t.bytes + size) end_bound && ltb (t.duration + duration) end_bound)) (lt-ltb t.duration time_bound early)
          ∙ ap (λ (b : Bool). b && ltb (t.duration + duration) end_bound) (le-ltb (t.bytes + size) end_bound h))

      pub grows : t.bytes + size < end_bound → t.duration + duration < end_bound → Ok (grown_by t size duration) ≡ added_to t size duration
      grows h k =
          is_lt _ _ _ t.samples most few
          (by-true _ _ _ (holds t size duration)
          (ap (λ (b : Bool). b && (ltb (t.bytes + size) end_bound && ltb (t.duration + duration) end_bound)) (lt-ltb t.duration time_bound early)
          ∙ ap (λ (b : Bool). b && ltb (t.duration + duration) end_bound) (lt-ltb (t.bytes + size) end_bound h)
          ∙ lt-ltb (t.duration + duration) end_bound k)
          refl)
