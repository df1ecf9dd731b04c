-- Writing a number into a lent buffer: the answer, and the buffer afterwards. Assumes nothing.
use Rattle.std.specs.Prelude.{ℕ, ◌+◌, ◌^◌, List, ◌&&◌, length, leb, ltb, Result, Ok, Err}
use Rattle.std.proofs.lemmas.List.Edits.{sets}
use Rattle.numbers.specs.Number.{bytes}
use Rattle.numbers.specs.Field.{when, fits, widest}
use Rattle.numbers.specs.declared.Refusal.TheVariants as refusal
use Rattle.numbers.specs.declared.Refusal.{Refusal}

-- an answer, with the buffer as it is left
pub data Wrote : Type 0 where
  wrote : Result ℕ Refusal → List ℕ → Wrote

-- there is room: the bytes from `at` on, and the position after them. There is none: 12 with the length needed, or 9
-- where that length is no 64-bit number; the buffer stays.
abbrev pub placed : List ℕ → ℕ → ℕ → List ℕ → Wrote
placed bs w at buf =
    when (fits w buf at) (wrote (Ok (at + w)) (sets buf at bs))
    (when (ltb (at + w) (2 ^ 64)) (wrote (Err (refusal.TooSmall (at + w))) buf) (wrote (Err refusal.Overflow) buf))

-- n in w bytes at `at`; 13 where n has no such bytes
abbrev pub put_of : ℕ → ℕ → ℕ → List ℕ → Wrote
put_of w n at buf =
    when (leb w widest) (when (ltb n (256 ^ w)) (placed (bytes w n) w at buf) (wrote (Err refusal.Unwritable) buf))
    (wrote (Err refusal.Unwritable) buf)
