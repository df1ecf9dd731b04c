-- The audit's pass over one track's samples (01, Audit findings; A13, A40): 9 where one of them does not fit, else the
-- first of F2 and F3, sample by sample, else how many samples there are. Assumes nothing.
use Rattle.std.specs.Prelude.{ℕ, suc, List, [], ◌∷◌, length, eqb, pos}
use Rattle.numbers.specs.Field.{when}
use Rattle.samples.specs.Lists.{all_held}
use Rattle.samples.specs.declared.Sample.{Sample}
use Rattle.verdicts.specs.Findings.{Answer, passes, found, first_found}
use Rattle.verdicts.specs.Audit.{passed_in}
use Rattle.verdicts.specs.declared.Finding.{Finding}
use Rattle.passes.specs.declared.Passed.{Passed}
use Rattle.passes.specs.declared.Passed.TheVariants.{Over, Fine, Found}

-- an answer about so many samples
abbrev pub tell : ℕ → Answer → Passed
tell k passes = Fine k
tell k (found x) = Found x

-- the samples l of track n
unfoldable pub passed_of : ℕ → List Sample → Passed
passed_of n l = when (all_held l) (tell (length l) (first_found (passed_in n l))) Over

-- a finding of that number about a sample of a track, with no position and no gap: `F2` and `F3` are such
abbrev pub of_sample : ℕ → ℕ → ℕ → Finding
of_sample n t s = record { number = n; track = t; sample = s; position = 0; gap = pos 0 }

-- INSIDE

-- how many numbers come before the first 0: all where none is 0
abbrev pub before_zero : List ℕ → ℕ
before_zero [] = 0
before_zero (x ∷ l) = when (eqb x 0) 0 (suc (before_zero l))
