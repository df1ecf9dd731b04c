-- What the code tells on its way. Assumes nothing.
use Rattle.std.specs.Prelude.{ℕ, ◌^◌, ◌≤◌, List, [], ◌∷◌, Bool, true, false, ltb, Option, Some, None}
use Rattle.numbers.specs.Field.{when}
use Rattle.samples.specs.Lists.{all_held}
use Rattle.tables.specs.declared.Track as tables
use Rattle.tables.specs.Samples.{samples_of}
use Rattle.agree.specs.Agree.{agree_of}
use Rattle.runs.specs.declared.Run.{Run}
use Rattle.verdicts.specs.Findings.{Answer, passes, found, F1, first_found}
use Rattle.verdicts.specs.Sweep.{total}
use Rattle.verdicts.specs.declared.Finding.{Finding}
use Rattle.verdicts.specs.Audit.{passed}
use Rattle.passes.specs.Passed.{tell, passed_of}
use Rattle.passes.specs.declared.Passed.{Passed}
use Rattle.passes.specs.declared.Passed.TheVariants as pass
use Rattle.verdicts.specs.declared.Audited.{Audited}
use Rattle.verdicts.specs.declared.Audited.TheVariants as answer
use Rattle.follows.specs.declared.Followed.{Followed}
use Rattle.follows.specs.declared.Followed.TheVariants as follow
use Rattle.movie.specs.Movie.{samples_by, tracks_by, samples_fit}

-- a number of bytes, where it has 64 bits
unfoldable pub media_of : ℕ → Option ℕ
media_of n = when (ltb n (2 ^ 64)) (Some n) None

-- F1, of one track, and by track
unfoldable pub agreement : List ℕ → ℕ → tables.Track → Answer
agreement f n t = when (agree_of f t) passes (found (F1 n))

abbrev pub agreed : List ℕ → List ℕ → List tables.Track → List Answer
agreed f [] ts = []
agreed f (n ∷ ns) [] = []
agreed f (n ∷ ns) (t ∷ ts) = agreement f n t ∷ agreed f ns ts

-- a sample that does not fit, F2 and F3, of one track, and of all
unfoldable pub pass_of : Bool → List ℕ → List Run → ℕ → tables.Track → Passed
pass_of b f rs n t = when (all_held (samples_of f t)) (passed_of n (samples_by b f t rs n)) pass.Over

unfoldable pub pass_all : Bool → List ℕ → List Run → List ℕ → List tables.Track → Passed
pass_all b f rs ns ts = when (samples_fit b f rs ns ts) (tell (total (tracks_by b f rs ns ts)) (first_found (passed (tracks_by b f rs ns ts)))) pass.Over

-- no track has more samples than 32 bits number
abbrev pub Few : Passed → Type 0
Few pass.Over = Unit {0}
Few (pass.Fine k) = k ≤ 2 ^ 32
Few (pass.Found x) = Unit {0}

abbrev pub is_over : Passed → Bool
is_over pass.Over = true
is_over (pass.Fine k) = false
is_over (pass.Found x) = false

-- the first finding stays the first
abbrev pub either : Option Finding → Finding → Option Finding
either None x = Some x
either (Some y) x = Some y

abbrev pub first_of : Passed → Option Finding
first_of pass.Over = None
first_of (pass.Fine k) = None
first_of (pass.Found x) = Some x

abbrev pub samples_in : Passed → ℕ
samples_in pass.Over = 0
samples_in (pass.Fine k) = k
samples_in (pass.Found x) = 0

abbrev pub breaks : Followed → Bool
breaks follow.Over = true
breaks follow.Passes = false
breaks (follow.Found x) = false

abbrev pub last_of : Followed → Option Finding
last_of follow.Over = None
last_of follow.Passes = None
last_of (follow.Found x) = Some x

abbrev pub or_asked : Option Finding → Option Finding → Option Finding
or_asked None b = b
or_asked (Some x) b = Some x

abbrev pub told_of : Option Finding → ℕ → ℕ → ℕ → Audited
told_of None a b c = answer.Clean a b c
told_of (Some x) a b c = answer.Found x

abbrev pub is_some : {A : Type 0} → List A → Bool
is_some [] = false
is_some (x ∷ l) = true
