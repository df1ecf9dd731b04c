-- What a run begins with (ISO/IEC 14496-12, 8.8.7 and 8.8.8): the base of its data offset, where its data begin, its
-- time, and the values of samples that do not say their own. Where the standard asks that the base of a later traf be
-- the end of the one before, A38 says of which. Assumes nothing.
use Rattle.std.specs.Prelude.{ℕ, Bool, ℤ, pos, negsuc, ◌+ℤ◌, ltb, Result, Option, Ok, Err, Some, None}
use Rattle.numbers.specs.Field.{when}
use Rattle.numbers.specs.declared.Refusal.TheVariants as refusal
use Rattle.signed.specs.Signed.{signed}
use Rattle.samples.specs.Lists.{end_bound, time_bound}
use Rattle.layout.specs.Rule.{is_set}
use Rattle.tfhd.specs.declared.Tfhd.{Tfhd}
use Rattle.trex.specs.declared.Trex.{Trex}
use Rattle.tfdt.specs.declared.Tfdt.{Tfdt}
use Rattle.trun.specs.declared.Trun.{Trun}
use Rattle.trun.specs.Trun.{offset_of}
use Rattle.runs.specs.declared.Run.{Run}
use Rattle.numbers.specs.declared.Refusal.{Refusal}

-- the flags of tfhd
abbrev pub base_bit : ℕ
base_bit = 0x1

abbrev pub default_duration_bit : ℕ
default_duration_bit = 0x8

abbrev pub default_size_bit : ℕ
default_size_bit = 0x10

abbrev pub default_flags_bit : ℕ
default_flags_bit = 0x20

abbrev pub moof_bit : ℕ
moof_bit = 0x20000

-- tfhd's own base; else the moof's start, where tfhd says so, or the traf is the first of its moof; else the end of the
-- data of the traf before in the same moof
abbrev pub base_of : Tfhd → ℕ → Bool → ℕ → ℕ
base_of h moof first previous =
    when (is_set h.flags base_bit) h.base_data_offset (when (is_set h.flags moof_bit) moof (when first moof previous))

-- a position in a file
abbrev pub position : ℤ → Option ℕ
position (pos n) = when (ltb n end_bound) (Some n) None
position (negsuc k) = None

-- the base and the signed offset that 32 bits stand for
abbrev pub placed : ℕ → ℕ → Option ℕ
placed base n = position (pos base +ℤ signed 4 n)

abbrev pub start_by : ℕ → Option ℤ → Option ℕ
start_by base None = Some base
start_by base (Some z) = position (pos base +ℤ z)

-- where the data begin: at the base, or as far from it as the trun says
abbrev pub start_of : Trun → ℕ → Option ℕ
start_of m base = start_by base (offset_of m)

-- the run that begins there: what a sample does not say of itself is tfhd's, else trex's
abbrev pub run_of : Tfhd → Trex → Tfdt → Trun → ℕ → ℕ → Run
run_of h x d m at s = record {
  track = h.track_id;
  start = s;
  time = d.base_media_decode_time;
  at = at;
  trun = m;
  duration = when (is_set h.flags default_duration_bit) h.default_sample_duration x.default_sample_duration;
  size = when (is_set h.flags default_size_bit) h.default_sample_size x.default_sample_size;
  flags = when (is_set h.flags default_flags_bit) h.default_sample_flags x.default_sample_flags;
}

abbrev pub made_by : (ℕ → Run) → Option ℕ → Result Run Refusal
made_by go (Some s) = Ok (go s)
made_by go None = Err refusal.Overflow

-- no time of 2^63 or more, and no start below 0 or above 2^64 - 1 (A13), whatever the count of samples
abbrev pub make_of : Tfhd → Trex → Tfdt → Trun → ℕ → ℕ → Result Run Refusal
make_of h x d m at base = when (ltb d.base_media_decode_time time_bound) (made_by (run_of h x d m at) (start_of m base)) (Err refusal.Overflow)
