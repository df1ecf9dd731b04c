-- What a refusal is told as: its number, and what it says besides (document 01, Refusals). Assumes nothing.
use Rattle.std.specs.Prelude.{ℕ, ◌+◌, ◌-◌, ◌^◌, Option, Some, None, leb}
use Rattle.numbers.specs.Field.{when}
use Rattle.numbers.specs.declared.Refusal.{Refusal}
use Rattle.numbers.specs.declared.Refusal.TheVariants.{Cut, Size, Depth, Limit, Missing, Twice, Version, Value, Overflow, Mixed, NoSample, TooSmall, Unwritable}

abbrev pub code : Refusal → ℕ
code (Cut p) = 1
code (Size p) = 2
code (Depth p) = 3
code (Limit p) = 4
code (Missing k) = 5
code (Twice p) = 6
code (Version p) = 7
code (Value p) = 8
code Overflow = 9
code Mixed = 10
code (NoSample n) = 11
code (TooSmall n) = 12
code Unwritable = 13

-- a position, the four letters of a type, a sample's number or a length; 0 where there is none
abbrev pub detail : Refusal → ℕ
detail (Cut p) = p
detail (Size p) = p
detail (Depth p) = p
detail (Limit p) = p
detail (Missing k) = k
detail (Twice p) = p
detail (Version p) = p
detail (Value p) = p
detail Overflow = 0
detail Mixed = 0
detail (NoSample n) = n
detail (TooSmall n) = n
detail Unwritable = 0

-- the position of the first byte at fault, where there is one
abbrev pub position : Refusal → Option ℕ
position (Cut p) = Some p
position (Size p) = Some p
position (Depth p) = Some p
position (Limit p) = Some p
position (Missing k) = None
position (Twice p) = Some p
position (Version p) = Some p
position (Value p) = Some p
position Overflow = None
position Mixed = None
position (NoSample n) = None
position (TooSmall n) = None
position Unwritable = None

-- the same at another position
abbrev pub placed_at : ℕ → Refusal → Refusal
placed_at at (Cut p) = Cut at
placed_at at (Size p) = Size at
placed_at at (Depth p) = Depth at
placed_at at (Limit p) = Limit at
placed_at at (Missing k) = Missing k
placed_at at (Twice p) = Twice at
placed_at at (Version p) = Version at
placed_at at (Value p) = Value at
placed_at at Overflow = Overflow
placed_at at Mixed = Mixed
placed_at at (NoSample n) = NoSample n
placed_at at (TooSmall n) = TooSmall n
placed_at at Unwritable = Unwritable

-- the last position that there is: what would lie behind it does not fit, and no file has it
abbrev pub last_position : ℕ
last_position = 2 ^ 64 - 1

abbrev pub moved_to : ℕ → Refusal → Option ℕ → Refusal
moved_to start q None = q
moved_to start q (Some p) = when (leb (start + p) last_position) (placed_at (start + p) q) Overflow

-- a refusal of a part, told of the whole in which the part begins at `start`
abbrev pub moved : ℕ → Refusal → Refusal
moved start q = moved_to start q (position q)
