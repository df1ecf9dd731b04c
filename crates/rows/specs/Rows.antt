-- The entries of a table, judged where they lie (A9, A21): each field first whole (1), then allowed (8), at its own
-- position, entry after entry. Assumes nothing.
use Rattle.std.specs.Prelude.{ℕ, zero, suc, ◌+◌, min, List, [], ◌∷◌, Bool, true, false, ◌||◌, eqb, ltb, leb, Result, Ok, Err}
use Rattle.numbers.specs.Field.{field, when}
use Rattle.numbers.specs.declared.Refusal.TheVariants as refusal
use Rattle.numbers.specs.declared.Refusal.{Refusal}
use Rattle.rows.specs.declared.Cell.{Cell}
use Rattle.rows.specs.declared.Cell.TheVariants.{Any, Least, Rising, FromOne, Time, Nothing}

unfoldable pub width_of : Cell → ℕ
width_of (Any w) = min w 8
width_of (Least w n) = min w 8
width_of (Rising w) = min w 8
width_of (FromOne w) = min w 8
width_of (Time w) = min w 8
width_of Nothing = 0

-- a signed number of 4 bytes or of 8 that is -1 or more (two's complement)
abbrev pub time_of : ℕ → ℕ → Bool
time_of w x =
    when (eqb w 4) (◌||◌ (ltb x 0x8000_0000) (eqb x 0xffff_ffff)) (◌||◌ (ltb x 0x8000_0000_0000_0000) (eqb x 0xffff_ffff_ffff_ffff))

-- whether a value may stand behind an entry whose rising number was `last` (0 before the first)
unfoldable pub allowed_of : Cell → ℕ → ℕ → Bool
allowed_of (Any w) last x = true
allowed_of (Least w n) last x = leb n x
allowed_of (Rising w) last x = ltb last x
allowed_of (FromOne w) last x = when (eqb last 0) (eqb x 1) (ltb last x)
allowed_of (Time w) last x = time_of w x
allowed_of Nothing last x = true

-- the rising number behind a field
unfoldable pub last_of : Cell → ℕ → ℕ → ℕ
last_of (Any w) last x = last
last_of (Least w n) last x = last
last_of (Rising w) last x = x
last_of (FromOne w) last x = x
last_of (Time w) last x = last
last_of Nothing last x = last

-- the fields of an entry: the position behind them, and the rising number
unfoldable pub cells_of : List Cell → List ℕ → ℕ → ℕ → Result (ℕ × ℕ) Refusal
cells_of [] b at last = Ok (at, last)
cells_of (c ∷ cs) b at last =
    field Err (width_of c) b at
    (λ x. when (allowed_of c last x) (cells_of cs b (at + width_of c) (last_of c last x)) (Err (refusal.Value at)))

abbrev pub entry_of : List Cell → List ℕ → ℕ → ℕ → Result (ℕ × ℕ) Refusal
entry_of cells b at last = cells_of cells b at last

-- behind an entry
abbrev pub step : (ℕ → ℕ → Result (Unit {0}) Refusal) → Result (ℕ × ℕ) Refusal → Result (Unit {0}) Refusal
step go (Ok (at, last)) = go at last
step go (Err q) = Err q

unfoldable pub entries_of : ℕ → List Cell → List ℕ → ℕ → ℕ → Result (Unit {0}) Refusal
entries_of zero cells b at last = (Ok tt)
entries_of (suc n) cells b at last = step (λ p l. entries_of n cells b p l) (entry_of cells b at last)
