-- What the private functions of the sweep promise: the tracks' next samples, what is seen of them at a position, and what
-- a turn does. No public promise rests on it. Assumes nothing.
use Rattle.std.specs.Prelude.{ℕ, zero, suc, ◌+◌, ◌-◌, ◌≤◌, ◌<◌, ◌≡◌, List, [], ◌∷◌, Bool, true, false, length, get_or, set, ltb, eqb, pos}
use Rattle.numbers.specs.Field.{when}
use Rattle.samples.specs.declared.Sample.{Sample}
use Rattle.verdicts.specs.declared.Finding.{Finding}
use Rattle.verdicts.specs.Findings.{Track, track, samples_of, Span, Answer, passes, found}
use Rattle.verdicts.specs.Sweep.{in_some, sweep_from}
use Rattle.payloads.specs.Payloads.{span}
use Rattle.sweeps.specs.declared.Head.{Head}
use Rattle.sweeps.specs.declared.Seen.{Seen}
use Rattle.sweeps.specs.declared.Turn.{Turn}
use Rattle.sweeps.specs.declared.Turn.TheVariants.{Skip, Take, Stray, Stop}

-- HEADS

-- a head, by its numbers
abbrev pub ahead : Bool → ℕ → ℕ → ℕ → ℕ → Head
ahead b t n o z = record { live = b; track = t; number = n; offset = o; size = z }

-- finding k of a track's next sample
abbrev pub claimed : ℕ → Head → Finding
claimed k h = record { number = k; track = h.track; sample = h.number; position = h.offset; gap = pos 0 }

-- one that starts where it must not: F5 if that lies in a payload, else F4
abbrev pub stray_of : List Span → Head → Answer
stray_of all h = found (when (in_some h.offset all) (claimed 5 h) (claimed 4 h))

-- the first that is left
abbrev pub left_in : List Span → List Head → Answer
left_in all [] = passes
left_in all (h ∷ hs) = when h.live (stray_of all h) (left_in all hs)

-- h is the first of the samples y, and x the others
abbrev pub Shown : Head → List Sample → List Sample → Type 0
Shown h x [] = (h.live ≡ false) × (x ≡ [])
Shown h x (s ∷ y) = (h.live ≡ true) × (s.number ≡ h.number) × (s.offset ≡ h.offset) × (s.size ≡ h.size) × (x ≡ y)

-- the same of a track: h is its next sample, and the first track has the others
abbrev pub Known : Head → Track → Track → Type 0
Known h (track i a x) (track n b y) = (h.track ≡ n) × (i ≡ n) × (a ≡ b) × Shown h x y

-- of the tracks ts the first k are filled: their next samples are in the heads, and xs has what their lanes have left. Of
-- the others all is left in the lanes. Behind the last track no head is live
abbrev pub State : ℕ → List Head → List Track → List Track → Type 0
State k [] xs [] = Unit {0}
State k [] xs (t ∷ ts) = ⊥
State k (h ∷ hs) xs [] = (h.live ≡ false) × State k hs xs []
State k (h ∷ hs) [] (t ∷ ts) = ⊥
State zero (h ∷ hs) (x ∷ xs) (t ∷ ts) = (h.live ≡ false) × (x ≡ t) × State zero hs xs ts
State (suc k) (h ∷ hs) (x ∷ xs) (t ∷ ts) = Known h x t × State k hs xs ts

-- how many samples the heads and the lanes have
abbrev pub one : Bool → ℕ
one true = 1
one false = 0

abbrev pub many : List Head → List Track → ℕ
many [] xs = 0
many (h ∷ hs) [] = 0
many (h ∷ hs) (x ∷ xs) = one h.live + length (samples_of x) + many hs xs

-- WHAT IS SEEN

abbrev pub nothing : Seen
nothing = record { below = 4; first = 4; second = 4 }

-- beside what was seen, the next sample of track t, which starts at o
unfoldable pub see_at : Seen → ℕ → ℕ → ℕ → Seen
see_at l t p o =
    when (ltb o p) (when (eqb l.below 4) (record { below = t; first = l.first; second = l.second }) l)
    (when (eqb o p)
    (when (eqb l.first 4) (record { below = l.below; first = t; second = l.second })
    (when (eqb l.second 4) (record { below = l.below; first = l.first; second = t }) l))
    l)

-- and those of all tracks from t on
abbrev pub look_at : Seen → ℕ → ℕ → List Head → Seen
look_at l t p [] = l
look_at l t p (h ∷ hs) = look_at (when h.live (see_at l t p h.offset) l) (suc t) p hs

-- HOW FAR ONE TRACK GOES

-- the bound b, or the start of track i's next sample where that is nearer; t's own is no bound
unfoldable pub nearer_at : ℕ → ℕ → ℕ → Head → ℕ
nearer_at b i t h = when h.live (when (eqb i t) b (when (ltb h.offset b) h.offset b)) b

-- and those of all tracks from i on
abbrev pub until_in : ℕ → ℕ → ℕ → List Head → ℕ
until_in b i t [] = b
until_in b i t (h ∷ hs) = until_in (nearer_at b i t h) (suc i) t hs

-- a track's next sample, if it has one, starts at b or later
abbrev pub Later : ℕ → Track → Type 0
Later b (track n a []) = Unit {0}
Later b (track n a (s ∷ l)) = b ≤ s.offset

-- so does that of every track but t, where they are counted from i
abbrev pub Beyond : ℕ → ℕ → ℕ → List Track → Type 0
Beyond b i t [] = Unit {0}
Beyond b i t (x ∷ ts) = ((i ≡ t → ⊥) → Later b x) × Beyond b (suc i) t ts

-- samples of the track y are taken one after the other from p to q, and z is left of it
pub record Passing (b e p : ℕ) (y : Track) (q : ℕ) (z : Track) : Type 0 where
  pub stays : q ≤ e
  pub fewer : length (samples_of z) ≤ length (samples_of y)
  pub goes : (all m : List Span) (ts : List Track) (t : ℕ) (d : Track) → t < length ts → get_or ts t d ≡ y → Beyond b 0 t ts
      → sweep_from all (span p e ∷ m) ts ≡ sweep_from all (span q e ∷ m) (set ts t z)

-- then h is its next sample, and x has the others
pub record Passed (b e p : ℕ) (y : Track) (q : ℕ) (h : Head) (x : Track) : Type 0 where
  pub rest : Track
  pub passing : Passing b e p y q rest
  pub known : Known h x rest

-- TURNS

-- how much is to be done
abbrev pub weight : ℕ → ℕ → List Head → List Track → ℕ
weight n k hs xs = many hs xs + (n - k)

-- the sample of track t is taken, up to q; below b no other track has one. k' tracks are filled as soon as the lane of t
-- has given its next sample, whichever that is
pub record Takes (all : List Span) (c : Span) (m : List Span) (k : ℕ) (hs : List Head) (xs ts : List Track) (t q b k' : ℕ) : Type 0 where
  pub low : t < 4
  pub stays : q ≤ c.to
  pub bounded : b ≤ c.to
  pub after : List Track
  pub as_many : length after ≡ length ts
  pub within : t < length after
  pub goes : sweep_from all (c ∷ m) ts ≡ sweep_from all (span q c.to ∷ m) after
  pub lane : (d : Track) → get_or after t d ≡ get_or xs t d
  pub beyond : Beyond b 0 t after
  pub refilled : (h : Head) (x z : Track) → Known h x z → State k' (set hs t h) (set xs t x) (set after t z)
  pub less : (d : Track) (h : Head) (x z : Track) → Known h x z → length (samples_of z) ≤ length (samples_of (get_or xs t d))
      → weight (length ts) k' (set hs t h) (set xs t x) < weight (length ts) k hs xs

-- what an answer says of the tracks ts, where c is left of the payload and m are those after it
abbrev pub TurnBy : List Span → Span → List Span → ℕ → List Head → List Track → List Track → Turn → Type 0
TurnBy all c m k hs xs ts Skip = (length ts ≤ k) × (c.from ≡ c.to)
TurnBy all c m k hs xs ts (Take t q b k') = Takes all c m k hs xs ts t q b k'
TurnBy all c m k hs xs ts (Stray h) = sweep_from all (c ∷ m) ts ≡ stray_of all h
TurnBy all c m k hs xs ts (Stop f) = sweep_from all (c ∷ m) ts ≡ found f

-- what a turn's answer says of any n tracks that have these heads, whatever payloads follow
abbrev pub TurnIs : List Head → ℕ → ℕ → ℕ → ℕ → Turn → Type 0
TurnIs hs k n p e r = (all m : List Span) (xs ts : List Track) → length ts ≡ n → State k hs xs ts → TurnBy all (span p e) m k hs xs ts r
