-- The sweep, F4 to F6 (01, Sweep; A36, A37, A41): p goes through the payloads, and every byte that it comes to must be
-- the first of one sample. What is kept is what is left: of the payload that p is in from p on, of the payloads after
-- it, and of each track's samples. Assumes nothing.
use Rattle.std.specs.Prelude.{ℕ, zero, suc, ◌+◌, ◌-◌, List, [], ◌∷◌, Bool, false, ◌&&◌, ◌||◌, length, ltb, leb, eqb}
use Rattle.numbers.specs.Field.{when}
use Rattle.samples.specs.declared.Sample.{Sample}
use Rattle.verdicts.specs.Findings.{Track, track, Claim, claim, Span, F4, F5, F6, Answer, passes, found}

-- byte b lies in a payload
abbrev pub in_some : ℕ → List Span → Bool
in_some b [] = false
in_some b (c ∷ m) = (leb c.from b && ltb b c.to) || in_some b m

-- a sample that starts below p, or is left after the last payload: F5 if its start lies in a payload, else F4
abbrev pub misplaced : List Span → Claim → Answer
misplaced all x = found (when (in_some x.sample.offset all) (F5 x) (F4 x))

-- the tracks' next samples that start below p, in track order
abbrev pub below : ℕ → List Track → List Claim
below p [] = []
below p (track n a [] ∷ ts) = below p ts
below p (track n a (s ∷ l) ∷ ts) = when (ltb s.offset p) (claim n s ∷ below p ts) (below p ts)

-- the tracks' next samples that start at p, in track order
abbrev pub heads : ℕ → List Track → List Claim
heads p [] = []
heads p (track n a [] ∷ ts) = heads p ts
heads p (track n a (s ∷ l) ∷ ts) = when (eqb s.offset p) (claim n s ∷ heads p ts) (heads p ts)

-- every track without its next sample, where that starts at p
abbrev pub advance : ℕ → List Track → List Track
advance p [] = []
advance p (track n a [] ∷ ts) = track n a [] ∷ advance p ts
advance p (track n a (s ∷ l) ∷ ts) = track n a (when (eqb s.offset p) l (s ∷ l)) ∷ advance p ts

-- after the last payload: the first track with a sample left
abbrev pub leftover : List Span → List Track → Answer
leftover all [] = passes
leftover all (track n a [] ∷ ts) = leftover all ts
leftover all (track n a (s ∷ l) ∷ ts) = misplaced all (claim n s)

-- a step ends the sweep, or leaves these payloads and tracks
pub data Step : Type 0 where
  stop : Answer → Step
  go : List Span → List Track → Step

-- the span from n bytes on
abbrev pub rest : Span → ℕ → Span
rest c n = record { from = c.from + n; to = c.to }

-- p is in payload c and at none's end: by those that start below p and those that start at p
abbrev pub take : List Span → Span → List Span → List Track → List Claim → List Claim → Step
take all c m ts (x ∷ xs) hs = stop (misplaced all x)
take all c m ts [] (x ∷ y ∷ hs) = stop (found (F5 y))
take all c m ts [] (x ∷ []) =
    when (leb (c.from + x.sample.size) c.to) (go (rest c x.sample.size ∷ m) (advance c.from ts)) (stop (found (F4 x)))
take all c m ts [] [] = stop (found (F6 c.from))

-- at a payload's end p moves to the next
abbrev pub step : List Span → List Span → List Track → Step
step all [] ts = stop (leftover all ts)
step all (c ∷ m) ts = when (eqb c.from c.to) (go m ts) (take all c m ts (below c.from ts) (heads c.from ts))

abbrev pub cont : (List Span → List Track → Answer) → Step → Answer
cont k (stop a) = a
cont k (go m ts) = k m ts

-- at most n steps; each leaves a payload or a sample less, so `sweep` has enough of them (`sweep-step`)
abbrev pub run : ℕ → List Span → List Span → List Track → Answer
run zero all m ts = found (F6 0)
run (suc n) all m ts = cont (λ m' ts'. run n all m' ts') (step all m ts)

-- of all samples together
abbrev pub sum_in : (Sample → ℕ) → List Sample → ℕ
sum_in f [] = 0
sum_in f (s ∷ l) = f s + sum_in f l

abbrev pub sum_all : (Sample → ℕ) → List Track → ℕ
sum_all f [] = 0
sum_all f (track n a l ∷ ts) = sum_in f l + sum_all f ts

-- how many samples there are
abbrev pub total : List Track → ℕ
total ts = sum_all (λ s. 1) ts

-- the bytes of payloads
abbrev pub bytes : List Span → ℕ
bytes [] = 0
bytes (c ∷ m) = (c.to - c.from) + bytes m

-- the answer from a state on
unfoldable pub sweep_from : List Span → List Span → List Track → Answer
sweep_from all m ts = run (suc (length m + total ts)) all m ts

abbrev pub sweep : List Span → List Track → Answer
sweep m ts = sweep_from m m ts
