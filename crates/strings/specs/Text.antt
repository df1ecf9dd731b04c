-- Strings that end with a 0, as the two of an emsg (ISO/IEC 23009-1, 5.10.3.3): where the 0 stands. Assumes nothing.
use Rattle.std.specs.Prelude.{ℕ, suc, List, [], ◌∷◌, drop, eqb, Option, Some, None}
use Rattle.numbers.specs.Field.{when}

-- where the first 0 of a list stands that begins at `at`
unfoldable pub text_end : List ℕ → ℕ → Option ℕ
text_end [] at = None
text_end (x ∷ s) at = when (eqb x 0) (Some at) (text_end s (suc at))

abbrev pub text_at : List ℕ → ℕ → Option ℕ
text_at b at = text_end (drop at b) at
