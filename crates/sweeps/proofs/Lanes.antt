-- The lanes beside the tracks: what each of them has left, and the next sample that it gives. Assumes nothing.
use Prim.Native.Nat.{ℕ, zero, suc, ◌+◌, ◌≤◌, ◌<◌, min}
use mathlib.Core.Path.{◌≡◌, refl, sym, ap, ap₂, ◌∙◌, subst}
use mathlib.Core.List.{List, [], ◌∷◌}
use mathlib.Core.Bool.{Bool, true, false}
use native.Mathlib.Omega.{arith}
use lib.ListN.{get_or, length, set, take, replicate}
use Rattle.numbers.specs.Field.{when}
use Rattle.samples.specs.declared.Sample.{Sample}
use Rattle.samples.specs.Lists.{held}
use Rattle.tables.specs.declared.Track as tables
use Rattle.lanes.specs.declared.site.Site as tabled
use Rattle.lanes.specs.Site as table
use Rattle.lanes.proofs.Sites as table-left
use Rattle.runs.specs.declared.Run.{Run}
use Rattle.fragments.specs.declared.Lane as ran
use Rattle.fragments.specs.Lane as run
use Rattle.fragments.proofs.Left as run-left
use Rattle.verdicts.specs.Findings.{Track, track}
use Rattle.sweeps.specs.declared.Head.{Head}
use Rattle.sweeps.specs.Tracks.{placed_by, fitting, tracks_in}
use Rattle.sweeps.specs.Heads.{ahead, Known, State, Passing, Passed}
use Rattle.sweeps.proofs.Laws.{fitting-one}
use Rattle.sweeps.proofs.Runs.{goes_further}

-- THE NEXT SAMPLE OF A LANE

-- it gives none
pub gives_none : (n : ℕ) (h : Head) (l : List Sample) → h ≡ ahead false n 0 0 0 → fitting l ≡ [] → Known h (track n true (fitting l)) (track n true (fitting l))
gives_none n h l q e =
    subst (λ (x : List Sample). Known h (track n true x) (track n true x)) (sym e)
    (ap (λ (z : Head). z.track) q, refl, refl, (ap (λ (z : Head). z.live) q, refl))

-- it gives s
pub gives_one : (n : ℕ) (s : Sample) (l m : List Sample) → (l ≡ s ∷ m) × (held s ≡ true)
    → Known (ahead true n s.number s.offset s.size) (track n true (fitting m)) (track n true (fitting l))
gives_one n s l m e =
    subst (λ (x : List Sample). Known (ahead true n s.number s.offset s.size) (track n true (fitting m)) (track n true x)) (sym (fitting-one l s m e))
    (refl, refl, refl, (refl, refl, refl, refl, refl))

-- A RUN OF A LANE

module _ (b e p : ℕ) (y : Track) (q n : ℕ) (l : List Sample) (pass : Passing b e p y q (track n true (fitting l))) where
  -- it gives none
  pub ends-none : (h : Head) → h ≡ ahead false n 0 0 0 → fitting l ≡ [] → Passed b e p y q h (track n true (fitting l))
  ends-none h k f = record { rest = track n true (fitting l); passing = pass; known = gives_none n h l k f }

  module _ (s : Sample) (m : List Sample) (is : (l ≡ s ∷ m) × (held s ≡ true)) where
    -- it gives s, which is not taken
    pub ends-one : (h : Head) → h ≡ ahead true n s.number s.offset s.size → Passed b e p y q h (track n true (fitting m))
    ends-one h k = record {
      rest = track n true (fitting l);
      passing = pass;
      known = subst (λ (z : Head). Known z (track n true (fitting m)) (track n true (fitting l))) (sym k) (gives_one n s l m is);
    }

    -- it gives s, which is taken
    pub goes_one : s.offset ≡ q → q < b → b ≤ e → q + s.size ≤ e → Passing b e p y (q + s.size) (track n true (fitting m))
    goes_one = goes_further b e p y q (track n true (fitting l)) pass n true s (fitting m) (ap (track n true) (fitting-one l s m is))

    pub less_one : length (fitting m) < length (fitting l)
    less_one = omega (arith, ap (λ (z : List Sample). length z) (fitting-one l s m is))

-- EVERY LANE

-- what a track's lane has left that fits, by runs or by tables
abbrev pub lane_of : Bool → List ℕ → List Run → ℕ → tables.Track → tabled.Site → ran.Lane → Track
lane_of b f rs n t l g = track n true (fitting (when b (run.left f rs n g) (table.left f t l)))

abbrev pub lanes_in : Bool → List ℕ → List Run → List ℕ → List tables.Track → List tabled.Site → List ran.Lane → List Track
lanes_in b f rs [] ts ls gs = []
lanes_in b f rs (n ∷ ns) [] ls gs = []
lanes_in b f rs (n ∷ ns) (t ∷ ts) [] gs = []
lanes_in b f rs (n ∷ ns) (t ∷ ts) (l ∷ ls) [] = []
lanes_in b f rs (n ∷ ns) (t ∷ ts) (l ∷ ls) (g ∷ gs) = lane_of b f rs n t l g ∷ lanes_in b f rs ns ts ls gs

module _ (b : Bool) (f : List ℕ) (rs : List Run) (n₀ : ℕ) (t₀ : tables.Track) (l₀ : tabled.Site) (g₀ : ran.Lane) (x₀ : Track) where
  -- lane i
  abbrev pub lane_at : List ℕ → List tables.Track → List tabled.Site → List ran.Lane → ℕ → Track
  lane_at ns ts ls gs i = lane_of b f rs (get_or ns i n₀) (get_or ts i t₀) (get_or ls i l₀) (get_or gs i g₀)

  pub lane-at : (ns : List ℕ) (ts : List tables.Track) (ls : List tabled.Site) (gs : List ran.Lane) (i : ℕ) → i < length ns → i < length ts → i < length ls → i < length gs
      → get_or (lanes_in b f rs ns ts ls gs) i x₀ ≡ lane_at ns ts ls gs i
  lane-at [] ts ls gs i p q r s = absurd (omega arith)
  lane-at (n ∷ ns) [] ls gs i p q r s = absurd (omega arith)
  lane-at (n ∷ ns) (t ∷ ts) [] gs i p q r s = absurd (omega arith)
  lane-at (n ∷ ns) (t ∷ ts) (l ∷ ls) [] i p q r s = absurd (omega arith)
  lane-at (n ∷ ns) (t ∷ ts) (l ∷ ls) (g ∷ gs) zero p q r s = refl
  lane-at (n ∷ ns) (t ∷ ts) (l ∷ ls) (g ∷ gs) (suc i) p q r s = lane-at ns ts ls gs i (omega arith) (omega arith) (omega arith) (omega arith)

  -- with another lane there
  pub set-table : (m : tabled.Site) (ns : List ℕ) (ts : List tables.Track) (ls : List tabled.Site) (gs : List ran.Lane) (i : ℕ) → i < length ns → i < length ts → i < length ls → i < length gs
      → set (lanes_in b f rs ns ts ls gs) i (lane_of b f rs (get_or ns i n₀) (get_or ts i t₀) m (get_or gs i g₀)) ≡ lanes_in b f rs ns ts (set ls i m) gs
  set-table m [] ts ls gs i p q r s = absurd (omega arith)
  set-table m (n ∷ ns) [] ls gs i p q r s = absurd (omega arith)
  set-table m (n ∷ ns) (t ∷ ts) [] gs i p q r s = absurd (omega arith)
  set-table m (n ∷ ns) (t ∷ ts) (l ∷ ls) [] i p q r s = absurd (omega arith)
  set-table m (n ∷ ns) (t ∷ ts) (l ∷ ls) (g ∷ gs) zero p q r s = refl
  set-table m (n ∷ ns) (t ∷ ts) (l ∷ ls) (g ∷ gs) (suc i) p q r s =
      ap (λ (xs : List Track). lane_of b f rs n t l g ∷ xs) (set-table m ns ts ls gs i (omega arith) (omega arith) (omega arith) (omega arith))

  pub set-run : (m : ran.Lane) (ns : List ℕ) (ts : List tables.Track) (ls : List tabled.Site) (gs : List ran.Lane) (i : ℕ) → i < length ns → i < length ts → i < length ls → i < length gs
      → set (lanes_in b f rs ns ts ls gs) i (lane_of b f rs (get_or ns i n₀) (get_or ts i t₀) (get_or ls i l₀) m) ≡ lanes_in b f rs ns ts ls (set gs i m)
  set-run m [] ts ls gs i p q r s = absurd (omega arith)
  set-run m (n ∷ ns) [] ls gs i p q r s = absurd (omega arith)
  set-run m (n ∷ ns) (t ∷ ts) [] gs i p q r s = absurd (omega arith)
  set-run m (n ∷ ns) (t ∷ ts) (l ∷ ls) [] i p q r s = absurd (omega arith)
  set-run m (n ∷ ns) (t ∷ ts) (l ∷ ls) (g ∷ gs) zero p q r s = refl
  set-run m (n ∷ ns) (t ∷ ts) (l ∷ ls) (g ∷ gs) (suc i) p q r s =
      ap (λ (xs : List Track). lane_of b f rs n t l g ∷ xs) (set-run m ns ts ls gs i (omega arith) (omega arith) (omega arith) (omega arith))

-- only one kind of lane counts
module _ (f : List ℕ) (rs : List Run) (u e p q : ℕ) (h : Head) (n : ℕ) (t : tables.Track) where
  pub passed-run : (b : Bool) (l : tabled.Site) (g g' : ran.Lane) → b ≡ true
      → Passed u e p (track n true (fitting (run.left f rs n g))) q h (track n true (fitting (run.left f rs n g')))
      → Passed u e p (lane_of b f rs n t l g) q h (lane_of b f rs n t l g')
  unfolding when
  passed-run true l g g' k w = w
  passed-run false l g g' k w = let z : ◌≡◌ {A = ℕ} 0 1 = cc in absurd (omega arith)

  pub passed-table : (b : Bool) (l l' : tabled.Site) (g : ran.Lane) → b ≡ false
      → Passed u e p (track n true (fitting (table.left f t l))) q h (track n true (fitting (table.left f t l')))
      → Passed u e p (lane_of b f rs n t l g) q h (lane_of b f rs n t l' g)
  unfolding when
  passed-table false l l' g k w = w
  passed-table true l l' g k w = let z : ◌≡◌ {A = ℕ} 0 1 = cc in absurd (omega arith)

-- THE START

module _ (b : Bool) (f : List ℕ) (rs : List Run) (z : Head) (l : tabled.Site) (g : ran.Lane) (dead : z.live ≡ false) (el : l ≡ table.fresh) (eg : g ≡ run.fresh) where
  all-dead : (k j : ℕ) (xs : List Track) → State k (replicate j z) xs []
  all-dead k zero xs = tt
  all-dead k (suc j) xs = (dead, all-dead k j xs)

  begun-lane : (n : ℕ) (t : tables.Track) → lane_of b f rs n t l g ≡ track n true (fitting (placed_by b f t rs n))
  begun-lane n t =
      ap₂ (λ (x y : List Sample). track n true (fitting (when b x y)))
      (ap (run.left f rs n) eg ∙ run-left.left-fresh f rs n) (ap (table.left f t) el ∙ table-left.left-fresh f t)

  -- nothing is filled, and every lane begins
  pub begun : (j k : ℕ) (ns : List ℕ) (ts : List tables.Track) → length ns ≡ j → length ts ≡ j
      → State zero (replicate j z) (lanes_in b f rs ns ts (replicate j l) (replicate j g)) (tracks_in b f rs (take k ns) (take k ts))
  begun j zero ns ts p q = all-dead zero j (lanes_in b f rs ns ts (replicate j l) (replicate j g))
  begun zero (suc k) [] ts p q = tt
  begun zero (suc k) (n ∷ ns) ts p q = absurd (omega arith)
  begun (suc j) (suc k) [] ts p q = absurd (omega arith)
  begun (suc j) (suc k) (n ∷ ns) [] p q = absurd (omega arith)
  begun (suc j) (suc k) (n ∷ ns) (t ∷ ts) p q = (dead, begun-lane n t, begun j k ns ts (omega arith) (omega arith))

  pub so-many : (j k : ℕ) (ns : List ℕ) (ts : List tables.Track) → length ns ≡ j → length ts ≡ j → length (tracks_in b f rs (take k ns) (take k ts)) ≡ min k j
  so-many j zero ns ts p q = omega arith
  so-many zero (suc k) [] ts p q = omega arith
  so-many zero (suc k) (n ∷ ns) ts p q = absurd (omega arith)
  so-many (suc j) (suc k) [] ts p q = absurd (omega arith)
  so-many (suc j) (suc k) (n ∷ ns) [] p q = absurd (omega arith)
  so-many (suc j) (suc k) (n ∷ ns) (t ∷ ts) p q = omega (arith, so-many j k ns ts (omega arith) (omega arith))
