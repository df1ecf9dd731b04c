-- F7 and F8 pass where fragments follow on: what is due after each is what its neighbour has. Assumes nothing.
use Prim.Native.Nat.{ℕ, ◌+◌}
use mathlib.Core.Path.{◌≡◌, refl}
use mathlib.Core.List.{List, [], ◌∷◌, ◌++◌}
use mathlib.Core.Bool.{true}
use borrow.Author.Tests.{eqb-true, eq-eqb}
use Rattle.verdicts.specs.Findings.{Track, track, F7, F8}
use Rattle.verdicts.specs.Fragments.{Traf, Moof, Due, free, due, fits, gap_of, next_number, next_time, Clock, clocks_of, own_trafs, timed, due_after, timed_all, clocks_after, follow_from, follow}
use Rattle.verdicts.specs.Meaning.{All, First, Neighbours, trafs_of, FollowsInTime}
use Rattle.verdicts.proofs.Laws.{all_join, all_split}
use Rattle.verdicts.proofs.Passing.{Passing, passes-true, true-passes}

abbrev Fits : Due → ℕ → Type 0
Fits free n = Unit {0}
Fits (due e) n = n ≡ e

fits-true : (d : Due) (n : ℕ) → fits d n ≡ true → Fits d n
fits-true free n e = tt
fits-true (due k) n e = eqb-true n k e

true-fits : (d : Due) (n : ℕ) → Fits d n → fits d n ≡ true
true-fits free n e = refl
true-fits (due k) n e = eq-eqb n k e

-- each has what is due after the one before it, the first what is due

abbrev FromDue : {A : Type 0} → (A → ℕ) → (A → ℕ) → Due → List A → Type 0
FromDue value next d [] = Unit {0}
FromDue value next d (x ∷ l) = Fits d (value x) × FromDue value next (due (next x)) l

module _ {A : Type 0} (value next : A → ℕ) where
  due-sound : (e : ℕ) (l : List A) → FromDue value next (due e) l → First (λ x. value x ≡ e) l × Neighbours (λ x y. value y ≡ next x) l
  due-sound e [] h = (tt, tt)
  due-sound e (x ∷ l) h = (h.0, due-sound (next x) l h.1)

  due-complete : (e : ℕ) (l : List A) → First (λ x. value x ≡ e) l → Neighbours (λ x y. value y ≡ next x) l → FromDue value next (due e) l
  due-complete e [] h k = tt
  due-complete e (x ∷ l) h k = (h, due-complete (next x) l k.0 k.1)

  free-sound : (l : List A) → FromDue value next free l → Neighbours (λ x y. value y ≡ next x) l
  free-sound [] h = tt
  free-sound (x ∷ l) h = due-sound (next x) l h.1

  free-complete : (l : List A) → Neighbours (λ x y. value y ≡ next x) l → FromDue value next free l
  free-complete [] k = tt
  free-complete (x ∷ l) k = (tt, due-complete (next x) l k.0 k.1)

abbrev NumbersFrom : Due → List Moof → Type 0
NumbersFrom d ms = FromDue (λ m. m.number) (λ m. next_number m.number) d ms

abbrev TimesFrom : Due → List Traf → Type 0
TimesFrom d l = FromDue (λ x. x.tfdt) next_time d l

-- F8 in one moof

timed-sound : (at t : ℕ) (d : Due) (l : List Traf) → All Passing (timed at t d l) → TimesFrom d l
timed-sound at t d [] h = tt
timed-sound at t d (x ∷ l) h =
    (fits-true d x.tfdt (passes-true (F8 t at (gap_of d x.tfdt)) (fits d x.tfdt) h.0), timed-sound at t (due (next_time x)) l h.1)

timed-complete : (at t : ℕ) (d : Due) (l : List Traf) → TimesFrom d l → All Passing (timed at t d l)
timed-complete at t d [] h = tt
timed-complete at t d (x ∷ l) h =
    (true-passes (F8 t at (gap_of d x.tfdt)) (fits d x.tfdt) (true-fits d x.tfdt h.0), timed-complete at t (due (next_time x)) l h.1)

-- one moof's trafs of a track, and then those of the moofs after it

times-join : (d : Due) (l r : List Traf) → TimesFrom d l → TimesFrom (due_after d l) r → TimesFrom d (l ++ r)
times-join d [] r h k = k
times-join d (x ∷ l) r h k = (h.0, times-join (due (next_time x)) l r h.1 k)

times-split : (d : Due) (l r : List Traf) → TimesFrom d (l ++ r) → TimesFrom d l × TimesFrom (due_after d l) r
times-split d [] r h = (tt, h)
times-split d (x ∷ l) r h = let i = times-split (due (next_time x)) l r h.1 in ((h.0, i.0), i.1)

abbrev OnTime : List Moof → Clock → Type 0
OnTime ms c = TimesFrom c.next (trafs_of c.track ms)

clocks-sound : (m : Moof) (ms : List Moof) (cs : List Clock) → All Passing (timed_all m cs) → All (OnTime ms) (clocks_after m cs) → All (OnTime (m ∷ ms)) cs
clocks-sound m ms [] h k = tt
clocks-sound m ms (c ∷ cs) h k =
    let j = all_split Passing (timed m.start c.track c.next (own_trafs c.track m.trafs)) (timed_all m cs) h in (
      times-join c.next (own_trafs c.track m.trafs) (trafs_of c.track ms)
          (timed-sound m.start c.track c.next (own_trafs c.track m.trafs) j.0) k.0,
      clocks-sound m ms cs j.1 k.1,
    )

clocks-complete : (m : Moof) (ms : List Moof) (cs : List Clock) → All (OnTime (m ∷ ms)) cs → All Passing (timed_all m cs) × All (OnTime ms) (clocks_after m cs)
clocks-complete m ms [] h = (tt, tt)
clocks-complete m ms (c ∷ cs) h =
    let own = own_trafs c.track m.trafs in
    let j = times-split c.next own (trafs_of c.track ms) h.0 in
    let i = clocks-complete m ms cs h.1 in (
      all_join Passing (timed m.start c.track c.next own) (timed_all m cs) (timed-complete m.start c.track c.next own j.0) i.0,
      (j.1, i.1),
    )

from-sound : (d : Due) (cs : List Clock) (ms : List Moof) → All Passing (follow_from d cs ms) → NumbersFrom d ms × All (OnTime ms) cs
from-sound d cs [] h = (tt, nothing cs)
  where
    nothing : (l : List Clock) → All (OnTime []) l
    nothing [] = tt
    nothing (c ∷ l) = (tt, nothing l)
from-sound d cs (m ∷ ms) h =
    let j = all_split Passing (timed_all m cs) (follow_from (due (next_number m.number)) (clocks_after m cs) ms) h.1 in
    let i = from-sound (due (next_number m.number)) (clocks_after m cs) ms j.1 in
    ((fits-true d m.number (passes-true (F7 m.start) (fits d m.number) h.0), i.0), clocks-sound m ms cs j.0 i.1)

from-complete : (d : Due) (cs : List Clock) (ms : List Moof) → NumbersFrom d ms → All (OnTime ms) cs → All Passing (follow_from d cs ms)
from-complete d cs [] h k = tt
from-complete d cs (m ∷ ms) h k =
    let j = clocks-complete m ms cs k in (
      true-passes (F7 m.start) (fits d m.number) (true-fits d m.number h.0),
      all_join Passing (timed_all m cs) (follow_from (due (next_number m.number)) (clocks_after m cs) ms) j.0
          (from-complete (due (next_number m.number)) (clocks_after m cs) ms h.1 j.1),
    )

-- every track's clock begins free

begin-sound : (ms : List Moof) (ts : List Track) → All (OnTime ms) (clocks_of ts) → All (FollowsInTime ms) ts
begin-sound ms [] h = tt
begin-sound ms (track n a l ∷ ts) h = (free-sound (λ x. x.tfdt) next_time (trafs_of n ms) h.0, begin-sound ms ts h.1)

begin-complete : (ms : List Moof) (ts : List Track) → All (FollowsInTime ms) ts → All (OnTime ms) (clocks_of ts)
begin-complete ms [] h = tt
begin-complete ms (track n a l ∷ ts) h = (free-complete (λ x. x.tfdt) next_time (trafs_of n ms) h.0, begin-complete ms ts h.1)

module _ (ts : List Track) (ms : List Moof) where
  pub follow-sound : All Passing (follow ts ms) → Neighbours (λ x y. y.number ≡ next_number x.number) ms × All (FollowsInTime ms) ts
  follow-sound h =
      let i = from-sound free (clocks_of ts) ms h in
      (free-sound (λ m. m.number) (λ m. next_number m.number) ms i.0, begin-sound ms ts i.1)

  pub follow-complete : Neighbours (λ x y. y.number ≡ next_number x.number) ms → All (FollowsInTime ms) ts → All Passing (follow ts ms)
  follow-complete h k =
      from-complete free (clocks_of ts) ms (free-complete (λ m. m.number) (λ m. next_number m.number) ms h) (begin-complete ms ts k)
