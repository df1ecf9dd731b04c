-- The profile of an H.264 stream, by the profile indication and the compatibility byte of its avcC (ISO/IEC 14496-15,
-- 5.3.3.1; 14496-10, A.2). The byte holds constraint_set0_flag in its highest bit, constraint_set1_flag in the next one,
-- 0x40; with profile 66 that one says constrained baseline (A.2.1.1). Another profile is 8 (A63). Assumes nothing.
use Rattle.std.specs.Prelude.{ℕ, ◌/◌, ◌%◌, Bool, eqb, Result, Ok, Err}
use Rattle.numbers.specs.Field.{when}
use Rattle.numbers.specs.declared.Refusal.TheVariants as refusal
use Rattle.profiles.specs.declared.Profile.TheVariants.{ConstrainedBaseline, Baseline, Main, Extended, High}
use Rattle.profiles.specs.declared.Profile.{Profile}
use Rattle.numbers.specs.declared.Refusal.{Refusal}

-- constraint_set1_flag
abbrev pub constrained : ℕ → Bool
constrained compatibility = eqb (compatibility / 0x40 % 2) 1

abbrev pub profile_of : ℕ → ℕ → Result Profile Refusal
profile_of indication compatibility =
    when (eqb indication 66) (when (constrained compatibility) (Ok ConstrainedBaseline) (Ok Baseline))
    (when (eqb indication 77) (Ok Main)
    (when (eqb indication 88) (Ok Extended)
    (when (eqb indication 100) (Ok High)
    (Err (refusal.Value 0)))))
