-- One law for each return of `next`: what it tells is what is left. Assumes nothing.
use Prim.Native.Nat.{ℕ, suc, ◌+◌, ◌-◌, ◌^◌, ◌≤◌, ◌<◌}
use mathlib.Core.Path.{◌≡◌, sym, ap, ◌∙◌}
use mathlib.Core.List.{List, ◌∷◌}
use mathlib.Core.Bool.{Bool, false}
use native.Mathlib.Omega.{arith}
use lib.IntN.{ℤ}
use Rattle.numbers.specs.Field.{when}
use Rattle.layout.specs.Rule.{is_set}
use Rattle.trun.specs.Trun.{duration_bit, size_bit}
use Rattle.samples.specs.Lists.{held, none, over, view}
use Rattle.samples.proofs.Fits.{held-is, no_number, no_end, no-time, view-held, view-not}
use Rattle.samples.specs.declared.Sample.{Sample}
use Rattle.runs.specs.Values.{own_of, duration_at, size_at, flags_by, flags_at, sync_by}
use Rattle.runs.specs.Samples.{sample_at, samples_from}
use Rattle.runs.specs.Lane.{left, shows}
use Rattle.runs.specs.declared.Run.{Run}
use Rattle.runs.specs.declared.Lane.{Lane}
use Rattle.trun.specs.declared.Sample as own
use Rattle.runs.specs.declared.Taken.TheVariants as taken

-- whether a sample is sync, by what was read of it
pub sync-is : (f : List ℕ) (r : Run) (i : ℕ) (s : own.Sample) (g : ℕ) (b : Bool) → s ≡ own_of f r i → g ≡ flags_by r s.flags i → b ≡ sync_by g → b ≡ sync_by (flags_at f r i)
sync-is f r i s g b es eg eb = eb ∙ ap sync_by (eg ∙ ap (λ (x : own.Sample). flags_by r x.flags i) es)

module _ (f : List ℕ) (r : Run) (l : Lane) where
  pub no_more : r.trun.sample_count ≤ l.index → none ≡ view (left f r l)
  unfolding left
  no_more h =
      let e : r.trun.sample_count - l.index ≡ 0 = omega arith in
      sym (ap (λ (k : ℕ). view (samples_from f r k l.index l.number l.offset l.time)) e)

  -- the sample that comes next, and the lane after it
  abbrev pub comes : Sample
  comes = sample_at f r l.index (l.number + 1) l.offset l.time

  abbrev pub after : Lane
  after = record { index = l.index + 1; number = l.number + 1; offset = l.offset + size_at f r l.index; time = l.time + duration_at f r l.index }

  module _ (h : l.index < r.trun.sample_count) where
    pub left-cons : left f r l ≡ comes ∷ left f r after
    unfolding left
    left-cons =
        let e : r.trun.sample_count - l.index ≡ suc (r.trun.sample_count - (l.index + 1)) = omega arith in
        ap (λ (k : ℕ). samples_from f r k l.index l.number l.offset l.time) e

    -- it does not fit
    over-comes : held comes ≡ false → over ≡ view (left f r l)
    over-comes e = sym (ap view left-cons ∙ view-not comes (left f r after) e)

    pub over-number : l.number ≡ 4294967295 → over ≡ view (left f r l)
    unfolding sample_at
    over-number k = let g : 2 ^ 32 ≤ l.number + 1 = omega arith in over-comes (no_number comes g)

    pub over-end : 2 ^ 64 ≤ l.offset + size_at f r l.index → over ≡ view (left f r l)
    unfolding sample_at
    over-end k = over-comes (no_end comes k)

    pub over-time : 2 ^ 63 ≤ l.time → over ≡ view (left f r l)
    unfolding sample_at
    over-time k = over-comes (no-time comes k)

    -- the same, of what was read
    module _ (s : own.Sample) (z : ℕ) (es : s ≡ own_of f r l.index) (ez : z ≡ when (is_set r.trun.flags size_bit) s.size r.size) where
      pub size_is : z ≡ size_at f r l.index
      unfolding size_at
      size_is = ez ∙ ap (λ (x : own.Sample). when (is_set r.trun.flags size_bit) x.size r.size) es

      pub over-read : 2 ^ 64 ≤ l.offset + z → over ≡ view (left f r l)
      over-read k = over-end (omega (arith, size_is))

      module _ (d g : ℕ) (b : Bool) (co : ℤ) (ed : d ≡ when (is_set r.trun.flags duration_bit) s.duration r.duration) (eg : g ≡ flags_by r s.flags l.index) (eb : b ≡ sync_by g) (ec : co ≡ s.composition_offset) where
        duration-is : d ≡ duration_at f r l.index
        unfolding duration_at
        duration-is = ed ∙ ap (λ (x : own.Sample). when (is_set r.trun.flags duration_bit) x.duration r.duration) es

        composition-is : co ≡ (own_of f r l.index).composition_offset
        composition-is = ec ∙ ap (λ (x : own.Sample). x.composition_offset) es

        pub takes : l.number + 1 < 2 ^ 32 → l.offset + z < 2 ^ 64 → l.time < 2 ^ 63
            → shows f r (taken.One
            (record { number = l.number + 1; offset = l.offset; size = z; time = l.time; duration = d; composition = co; sync = b })
            (record { index = l.index + 1; number = l.number + 1; offset = l.offset + z; time = l.time + d }))
            ≡ view (left f r l)
        unfolding sample_at
        takes n k m =
            let q : l.offset + size_at f r l.index < 2 ^ 64 = omega (arith, size_is) in
            rw (size_is, duration-is, sync-is f r l.index s g b es eg eb, composition-is)
            (sym (ap view left-cons ∙ view-held comes (left f r after) (held-is comes n q m)))
