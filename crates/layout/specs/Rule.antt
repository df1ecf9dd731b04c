-- What is asked of a field of a box, once the version and the flags are known. Assumes nothing.
use Rattle.std.specs.Prelude.{ℕ, ◌-◌, ◌/◌, ◌%◌, ◌^◌, min, Bool, true, false, eqb}
use Rattle.numbers.specs.Field.{when}
use Rattle.numbers.specs.declared.Refusal.{Refusal}
use Rattle.numbers.specs.declared.Refusal.TheVariants as refusal
use Rattle.layout.specs.declared.Field.{Field}
use Rattle.layout.specs.declared.Field.TheVariants.{Number, Reserved, Wide, Optional, Least, Version, Flags, Nothing}
use Rattle.layout.specs.declared.rule.Rule.{Rule}

-- n bytes of any value, kept
abbrev pub plain : ℕ → Rule
plain n = record { width = n; low = 0; high = 256 ^ n - 1; kept = true; fixed = 0; version = false; flags = false }

-- a bit of the flags
abbrev pub is_set : ℕ → ℕ → Bool
is_set flags bit = when (eqb bit 0) false (eqb (flags / bit % 2) 1)

-- a field's width and range, and whether it is kept or has a value of its own
unfoldable pub rule_of : Field → ℕ → ℕ → Rule
rule_of (Number w) v fl = plain (min w 8)
rule_of (Reserved w c) v fl =
    record { width = min w 8; low = 0; high = 256 ^ min w 8 - 1; kept = false; fixed = c; version = false; flags = false }
rule_of (Wide a b) v fl = plain (min (when (eqb v 1) b a) 8)
rule_of (Optional w bit) v fl = plain (min (when (is_set fl bit) w 0) 8)
rule_of (Least w n) v fl =
    record { width = min w 8; low = n; high = 256 ^ min w 8 - 1; kept = true; fixed = 0; version = false; flags = false }
rule_of (Version lo hi) v fl =
    record { width = 1; low = lo; high = min hi 255; kept = true; fixed = 0; version = true; flags = false }
rule_of Flags v fl = record { width = 3; low = 0; high = 0xff_ffff; kept = true; fixed = 0; version = false; flags = true }
rule_of Nothing v fl = record { width = 0; low = 0; high = 0; kept = false; fixed = 0; version = false; flags = false }

-- the version and the flags after a field with the value x
abbrev pub version_after : Rule → ℕ → ℕ → ℕ
version_after r x v = when r.version x v

abbrev pub flags_after : Rule → ℕ → ℕ → ℕ
flags_after r x fl = when r.flags x fl

-- the refusal of a value outside of the range, at `at`
abbrev pub refusal_of : Rule → ℕ → Refusal
refusal_of r at = when r.version (refusal.Version at) (refusal.Value at)
