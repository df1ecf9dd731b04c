-- The version and the flags of a full box (ISO/IEC 14496-12, 4.2). Assumes nothing.
use Rattle.std.specs.Prelude.{ℕ, ◌+◌, ◌^◌, List, ◌++◌, ltb, Result, Ok, Err}
use Rattle.numbers.specs.Number.{bytes}
use Rattle.numbers.specs.Field.{field, when}
use Rattle.numbers.specs.declared.Refusal.TheVariants as refusal
use Rattle.put.specs.Put.{Wrote, wrote, placed}
use Rattle.boxes.specs.declared.full.Full.{Full}
use Rattle.numbers.specs.declared.Refusal.{Refusal}

abbrev pub full_of : List ℕ → ℕ → Result Full Refusal
full_of s at = field Err 1 s at (λ v. field Err 3 s (at + 1) (λ f. Ok (record { version = v; flags = f })))

-- a version and flags at `at`; 13 where the flags have a fourth byte
abbrev pub full_in : ℕ → ℕ → ℕ → List ℕ → Wrote
full_in v f at out = when (ltb f (2 ^ 24)) (placed (bytes 1 v ++ bytes 3 f) 4 at out) (wrote (Err refusal.Unwritable) out)
