-- What a walk over samples has found so far, step by step. The pass itself is `passed_of` of passes; `pass-end`
-- (proofs/Steps.antt) says that the steps come to it. Assumes nothing.
use Rattle.std.specs.Prelude.{ℕ, Bool, eqb, Option, Some, None}
use Rattle.numbers.specs.Field.{when}
use Rattle.passes.specs.Passed.{of_sample}
use Rattle.passes.specs.declared.Passed.{Passed}
use Rattle.passes.specs.declared.Passed.TheVariants as passed
use Rattle.verdicts.specs.declared.Finding.{Finding}

-- INSIDE

-- what is found up to a sample of track t, by its number and size, where the one before it has the number k, and lasts no
-- time or does
unfoldable pub after_sample : Option Finding → ℕ → Bool → ℕ → ℕ → ℕ → Option Finding
after_sample (Some x) t idle k n z = Some x
after_sample None t idle k n z = when idle (Some (of_sample 3 t k)) (when (eqb z 0) (Some (of_sample 2 t n)) None)

-- what was found in so many samples
abbrev pub told_of : ℕ → Option Finding → Passed
told_of n (Some x) = passed.Found x
told_of n None = passed.Fine n
