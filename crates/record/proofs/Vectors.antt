-- Worked examples of the definitions, computed. Assumes nothing.
use Rattle.std.specs.Prelude.{Ok, Err}
use mathlib.Core.Path.{◌≡◌, refl}
use mathlib.Core.List.{[], ◌∷◌}
use Prim.Native.Nat.{ℕ}
use Rattle.numbers.specs.Field.{when}
use Rattle.numbers.specs.declared.Refusal.TheVariants as refusal
use Rattle.record.specs.Growth.{added_to, all_to, outcome, outcome_of}
use Rattle.record.specs.declared.Track.{Track}

abbrev so_far : ℕ → ℕ → ℕ → Track
so_far n b d = record { samples = n; bytes = b; duration = d }

first : added_to (so_far 0 0 0) 10 1000 ≡ Ok (so_far 1 10 1000)
unfolding when
first = refl

-- the 65,536th is taken, and the next is 4, also where its time would be 9
last_one : added_to (so_far 65535 7 7) 1 1 ≡ Ok (so_far 65536 8 8)
unfolding when
last_one = refl

one-too-many : added_to (so_far 65536 7 7) 1 1 ≡ Err (refusal.Limit 0)
unfolding when
one-too-many = refl

four-first : added_to (so_far 65536 7 0x8000_0000_0000_0000) 1 1 ≡ Err (refusal.Limit 0)
unfolding when
four-first = refl

-- a time below 2^63 is one, though the sample may end behind it; 2^63 is none
latest : added_to (so_far 1 7 0x7fff_ffff_ffff_ffff) 1 0xffff_ffff ≡ Ok (so_far 2 8 0x8000_0000_ffff_fffe)
unfolding when
latest = refl

too-late : added_to (so_far 1 7 0x8000_0000_0000_0000) 1 0 ≡ Err refusal.Overflow
unfolding when
too-late = refl

-- as many bytes as 64 bits can count, and one more
most_bytes : added_to (so_far 1 0xffff_ffff_0000_0000 7) 0xffff_ffff 1 ≡ Ok (so_far 2 0xffff_ffff_ffff_ffff 8)
unfolding when
most_bytes = refl

too_large : added_to (so_far 1 0xffff_ffff_0000_0001 7) 0xffff_ffff 1 ≡ Err refusal.Overflow
unfolding when
too_large = refl

-- in place: a sample more, or the record as it was
in_place : outcome_of (so_far 5 150 4000) 60 500 ≡ outcome (Ok tt) (so_far 6 210 4500)
unfolding when
in_place = refl

kept : outcome_of (so_far 65536 7 7) 1 1 ≡ outcome (Err (refusal.Limit 0)) (so_far 65536 7 7)
unfolding when
kept = refl

kept-late : outcome_of (so_far 1 7 0x8000_0000_0000_0000) 1 1 ≡ outcome (Err refusal.Overflow) (so_far 1 7 0x8000_0000_0000_0000)
unfolding when
kept-late = refl

-- cases 1 and 2: six samples of 210 bytes, the durations of stts (3,1000)(3,500)
cases-1-and-2 : all_to (so_far 0 0 0) (10 ∷ 20 ∷ 30 ∷ 40 ∷ 50 ∷ 60 ∷ []) (1000 ∷ 1000 ∷ 1000 ∷ 500 ∷ 500 ∷ 500 ∷ []) ≡ Ok (so_far 6 210 4500)
unfolding when all_to
cases-1-and-2 = refl

-- of the longer column the rest is not looked at
shorter : all_to (so_far 0 0 0) (10 ∷ 20 ∷ 30 ∷ []) (1000 ∷ []) ≡ Ok (so_far 1 10 1000)
unfolding when all_to
shorter = refl

-- the first refusal is the answer
second-refused : all_to (so_far 65535 0 0) (10 ∷ 20 ∷ []) (1000 ∷ 1000 ∷ []) ≡ Err (refusal.Limit 0)
unfolding when all_to
second-refused = refl
