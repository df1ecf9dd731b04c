-- Fixed point, as the raw integer that stands in the file: 8.8 and 16.16 (ISO/IEC 14496-12, 8.3.2: volume, width and
-- height), and signed 8.8 (12.2.2: balance). The whole part of an unsigned one is the upper half; that of a signed one is
-- rounded toward 0, as the Rust has it, since the standard gives it no meaning. Assumes nothing.
use Rattle.std.specs.Prelude.{ℕ, suc, ◌*◌, ◌/◌, ◌^◌, ℤ, pos, negsuc, neg_ℤ}

-- the raw integer of a whole number, with w bytes after the point
abbrev pub raw_of : ℕ → ℕ → ℕ
raw_of w n = n * 256 ^ w

-- the whole part of a raw integer with w bytes after the point
abbrev pub whole_of : ℕ → ℕ → ℕ
whole_of w raw = raw / 256 ^ w

-- the same of an integer: its sign, and the rule for what it is without it. (negsuc n is -1 - n.)
abbrev pub signed_raw : ℕ → ℤ → ℤ
signed_raw w (pos n) = pos (raw_of w n)
signed_raw w (negsuc n) = neg_ℤ (pos (raw_of w (suc n)))

abbrev pub signed_whole : ℕ → ℤ → ℤ
signed_whole w (pos n) = pos (whole_of w n)
signed_whole w (negsuc n) = neg_ℤ (pos (whole_of w (suc n)))
