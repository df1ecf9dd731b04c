-- The gap of a fragment: its tfdt minus the same track's previous tfdt plus its durations, signed (document 01,
-- Fragments). Times of 2^63 and more are no decode times, and the gap has 64 bits (A13, 3 and 4): else 9. Assumes nothing.
use Rattle.std.specs.Prelude.{ℕ, zero, suc, ◌+◌, ◌^◌, ◌&&◌, ltb, ℤ, pos, negsuc, Option, Some, None}
use Rattle.std.proofs.Math.IntN.{sub_ℕ}
use Rattle.numbers.specs.Field.{when}

-- a number in 64 signed bits
abbrev pub signed64 : ℤ → Option ℤ
signed64 (pos n) = when (ltb n (2 ^ 63)) (Some (pos n)) None
signed64 (negsuc n) = when (ltb n (2 ^ 63)) (Some (negsuc n)) None

unfoldable pub gap_of : ℕ → ℕ → ℕ → Option ℤ
gap_of b l t = when (ltb b (2 ^ 63) && ltb t (2 ^ 63)) (signed64 (sub_ℕ t (b + l))) None

-- INSIDE

-- so many below 0
abbrev pub behind : ℕ → Option ℤ
behind zero = Some (pos 0)
behind (suc n) = signed64 (negsuc n)
