-- What each way through a turn shows. Assumes nothing.
use Prim.Native.Nat.{ℕ, zero, suc, ◌+◌, ◌-◌, ◌≤◌, ◌<◌}
use mathlib.Core.Path.{◌≡◌, refl, sym, ap, ap₂, ◌∙◌, subst}
use mathlib.Core.Logic.{◌⊎◌, ⊎_elim}
use mathlib.Core.List.{List, [], ◌∷◌}
use mathlib.Core.Bool.{Bool, true, false}
use native.Mathlib.Omega.{arith}
use native.Mathlib.Numerals.{add-one}
use lib.ListN.{get_or, length, set, length-set}
use lib.IntN.{pos}
use lib.Dec.{ltb, eqb}
use borrow.Author.Tests.{ltb-true, ltb-false, eqb-true}
use Rattle.numbers.specs.Field.{when}
use Rattle.numbers.proofs.Chain.{is_ne, is_le, not-le}
use Rattle.samples.specs.declared.Sample.{Sample}
use Rattle.verdicts.specs.declared.Finding.{Finding}
use Rattle.verdicts.specs.Findings.{Track, track, samples_of, Claim, claim, Span, F4, F5, F6, found}
use Rattle.verdicts.specs.Sweep.{in_some, misplaced, below, heads, advance, leftover, stop, go, rest, take, step, sweep_from}
use Rattle.verdicts.proofs.Steps.{sweep-stops, sweep-goes}
use Rattle.payloads.specs.Payloads.{span}
use Rattle.sweeps.specs.declared.Head.{Head}
use Rattle.sweeps.specs.declared.Seen.{Seen}
use Rattle.sweeps.specs.Heads.{claimed, stray_of, left_in, Known, State, one, many, nothing, see_at, look_at, nearer_at, until_in, Beyond, Takes}
use Rattle.sweeps.proofs.Runs.{set-set, get_set, beyond-set}
use Rattle.sweeps.proofs.Bridge.{look_in, Next, FirstBelow, Below, Only, Two, First, below-found, first_found}

-- HEADS AND TRACKS

pub as_long : (k : ℕ) (hs : List Head) (xs ts : List Track) → State k hs xs ts → (length ts ≤ length hs) × (length ts ≤ length xs)
as_long k [] xs [] s = (omega arith, omega arith)
as_long k [] xs (t ∷ ts) s = absurd s
as_long k (h ∷ hs) xs [] s = (omega arith, omega arith)
as_long k (h ∷ hs) [] (t ∷ ts) s = absurd s
as_long zero (h ∷ hs) (x ∷ xs) (t ∷ ts) s = let i = as_long zero hs xs ts s.2 in (omega (arith, i.0), omega (arith, i.1))
as_long (suc k) (h ∷ hs) (x ∷ xs) (t ∷ ts) s = let i = as_long k hs xs ts s.1 in (omega (arith, i.0), omega (arith, i.1))

looks : (l : Seen) (i p k : ℕ) (hs : List Head) (xs ts : List Track) → length ts ≤ k → State k hs xs ts → look_at l i p hs ≡ look_in l i p ts
unfolding when
looks l i p k [] xs [] g s = refl
looks l i p k [] xs (t ∷ ts) g s = absurd s
looks l i p k (h ∷ hs) xs [] g s =
    ap (λ (b : Bool). look_at (when b (see_at l i p h.offset) l) (suc i) p hs) s.0 ∙ looks l (suc i) p k hs xs [] g s.1
looks l i p k (h ∷ hs) [] (t ∷ ts) g s = absurd s
looks l i p zero (h ∷ hs) (x ∷ xs) (t ∷ ts) g s = absurd (omega arith)
looks l i p (suc k) (h ∷ hs) (track j b y ∷ xs) (track n a [] ∷ ts) g s =
    ap (λ (b : Bool). look_at (when b (see_at l i p h.offset) l) (suc i) p hs) s.0.3.0 ∙ looks l (suc i) p k hs xs ts (omega arith) s.1
looks l i p (suc k) (h ∷ hs) (track j b y ∷ xs) (track n a (u ∷ z) ∷ ts) g s =
    ap (λ (b : Bool). look_at (when b (see_at l i p h.offset) l) (suc i) p hs) s.0.3.0
    ∙ ap (λ (o : ℕ). look_at (see_at l i p o) (suc i) p hs) (sym s.0.3.2)
    ∙ looks (see_at l i p u.offset) (suc i) p k hs xs ts (omega arith) s.1

-- a head names a sample as a claim does
named-as : (k : ℕ) (h : Head) (n : ℕ) (s : Sample) → h.track ≡ n → s.number ≡ h.number → s.offset ≡ h.offset
    → claimed k h ≡ record { number = k; track = n; sample = s.number; position = s.offset; gap = pos 0 }
named-as k h n s a b c =
    ap (λ (x : ℕ). record { number = k; track = x; sample = h.number; position = h.offset; gap = pos 0 }) a
    ∙ ap₂ (λ (x y : ℕ). record { number = k; track = n; sample = x; position = y; gap = pos 0 }) (sym b) (sym c)

stray-as : (all : List Span) (h : Head) (n : ℕ) (s : Sample) → h.track ≡ n → s.number ≡ h.number → s.offset ≡ h.offset → stray_of all h ≡ misplaced all (claim n s)
stray-as all h n s a b c =
    ap₂ (λ (x y : Finding). found (when (in_some h.offset all) x y)) (named-as 5 h n s a b c) (named-as 4 h n s a b c)
    ∙ ap (λ (o : ℕ). found (when (in_some o all) (F5 (claim n s)) (F4 (claim n s)))) (sym c)

leftovers : (all : List Span) (k : ℕ) (hs : List Head) (xs ts : List Track) → length ts ≤ k → State k hs xs ts → left_in all hs ≡ leftover all ts
unfolding when
leftovers all k [] xs [] g s = refl
leftovers all k [] xs (t ∷ ts) g s = absurd s
leftovers all k (h ∷ hs) xs [] g s = ap (λ (b : Bool). when b (stray_of all h) (left_in all hs)) s.0 ∙ leftovers all k hs xs [] g s.1
leftovers all k (h ∷ hs) [] (t ∷ ts) g s = absurd s
leftovers all zero (h ∷ hs) (x ∷ xs) (t ∷ ts) g s = absurd (omega arith)
leftovers all (suc k) (h ∷ hs) (track j b y ∷ xs) (track n a [] ∷ ts) g s =
    ap (λ (b : Bool). when b (stray_of all h) (left_in all hs)) s.0.3.0 ∙ leftovers all k hs xs ts (omega arith) s.1
leftovers all (suc k) (h ∷ hs) (track j b y ∷ xs) (track n a (u ∷ z) ∷ ts) g s =
    ap (λ (b : Bool). when b (stray_of all h) (left_in all hs)) s.0.3.0 ∙ stray-as all h n u s.0.0 s.0.3.1 s.0.3.2

-- after the last payload
pub sweep-left : (all : List Span) (k : ℕ) (hs : List Head) (xs ts : List Track) → length ts ≤ k → State k hs xs ts → left_in all hs ≡ sweep_from all [] ts
sweep-left all k hs xs ts g s = leftovers all k hs xs ts g s ∙ sym (sweep-stops all [] ts (leftover all ts) refl)

-- head i is the next sample s of track n
record Named (hs : List Head) (i n : ℕ) (s : Sample) (d : Head) : Type 0 where
  pub low : i < length hs
  pub is_live : (get_or hs i d).live ≡ true
  pub track-is : (get_or hs i d).track ≡ n
  pub number_is : s.number ≡ (get_or hs i d).number
  pub offset-is : s.offset ≡ (get_or hs i d).offset
  pub size_is : s.size ≡ (get_or hs i d).size

module _ (d : Head) (e : Track) (n : ℕ) (a : Bool) (s : Sample) (x : List Sample) where
  named-at : (k : ℕ) (hs : List Head) (xs ts : List Track) → length ts ≤ k → State k hs xs ts → (i : ℕ) → i < length ts → get_or ts i e ≡ track n a (s ∷ x) → Named hs i n s d
  named-at k [] xs [] g st i h q = absurd (omega arith)
  named-at k [] xs (t ∷ ts) g st i h q = absurd st
  named-at k (y ∷ hs) xs [] g st i h q = absurd (omega arith)
  named-at k (y ∷ hs) [] (t ∷ ts) g st i h q = absurd st
  named-at zero (y ∷ hs) (z ∷ xs) (t ∷ ts) g st i h q = absurd (omega arith)
  named-at (suc k) (y ∷ hs) (track j b w ∷ xs) (track m c [] ∷ ts) g st zero h q = let z : ◌≡◌ {A = ℕ} 0 1 = cc in absurd (omega arith)
  named-at (suc k) (y ∷ hs) (track j b w ∷ xs) (track m c (u ∷ v) ∷ ts) g st zero h q =
      let o : u ≡ s = cc in
      let r : m ≡ n = cc in
      record {
        low = omega arith;
        is_live = st.0.3.0;
        track-is = st.0.0 ∙ r;
        number_is = ap (λ (z : Sample). z.number) (sym o) ∙ st.0.3.1;
        offset-is = ap (λ (z : Sample). z.offset) (sym o) ∙ st.0.3.2;
        size_is = ap (λ (z : Sample). z.size) (sym o) ∙ st.0.3.3;
      }
  named-at (suc k) (y ∷ hs) (z ∷ xs) (t ∷ ts) g st (suc i) h q =
      let r = named-at k hs xs ts (omega arith) st.1 i (omega arith) q in
      record { low = omega (arith, r.low); is_live = r.is_live; track-is = r.track-is; number_is = r.number_is; offset-is = r.offset-is; size_is = r.size_is }

  -- its sample is taken: what is left of it is what its lane has
  lane_has : (k : ℕ) (hs : List Head) (xs ts : List Track) → length ts ≤ k → State k hs xs ts → (i : ℕ) → i < length ts → get_or ts i e ≡ track n a (s ∷ x) → track n a x ≡ get_or xs i e
  lane_has k [] xs [] g st i l q = absurd (omega arith)
  lane_has k [] xs (t ∷ ts) g st i l q = absurd st
  lane_has k (o ∷ hs) xs [] g st i l q = absurd (omega arith)
  lane_has k (o ∷ hs) [] (t ∷ ts) g st i l q = absurd st
  lane_has zero (o ∷ hs) (z ∷ xs) (t ∷ ts) g st i l q = absurd (omega arith)
  lane_has (suc k) (o ∷ hs) (track j b r ∷ xs) (track m c [] ∷ ts) g st zero l q = let z : ◌≡◌ {A = ℕ} 0 1 = cc in absurd (omega arith)
  lane_has (suc k) (o ∷ hs) (track j b r ∷ xs) (track m c (u ∷ v) ∷ ts) g st zero l q =
      let e1 : j ≡ m = st.0.1 in
      let e2 : b ≡ c = st.0.2 in
      let e3 : r ≡ v = st.0.3.4 in
      cc
  lane_has (suc k) (o ∷ hs) (z ∷ xs) (t ∷ ts) g st (suc i) l q = lane_has k hs xs ts (omega arith) st.1 i (omega arith) q

-- THE OTHERS

nearer-le : (b i t : ℕ) (h : Head) → nearer_at b i t h ≤ b
unfolding nearer_at when
nearer-le b i t h = cases h.live (eqb i t) (ltb h.offset b) refl
  where
    cases : (x y z : Bool) → ltb h.offset b ≡ z → when x (when y b (when z h.offset b)) b ≤ b
    cases false y z e = omega arith
    cases true true z e = omega arith
    cases true false true e = omega (arith, ltb-true h.offset b e)
    cases true false false e = omega arith

-- a live head of another track is a bound
nearer-other : (b i t : ℕ) (h : Head) → h.live ≡ true → (i ≡ t → ⊥) → nearer_at b i t h ≤ h.offset
unfolding nearer_at when
nearer-other b i t h l n = cases h.live (eqb i t) (ltb h.offset b) l refl refl
  where
    cases : (x y z : Bool) → x ≡ true → eqb i t ≡ y → ltb h.offset b ≡ z → when x (when y b (when z h.offset b)) b ≤ h.offset
    cases false y z l f e = let w : ◌≡◌ {A = ℕ} 0 1 = cc in absurd (omega arith)
    cases true true z l f e = absurd (n (eqb-true i t f))
    cases true false true l f e = omega arith
    cases true false false l f e = ltb-false h.offset b e

until-le : (b i t : ℕ) (hs : List Head) → until_in b i t hs ≤ b
until-le b i t [] = omega arith
until-le b i t (h ∷ hs) = omega (arith, until-le (nearer_at b i t h) (suc i) t hs, nearer-le b i t h)

untils : (b i t k : ℕ) (hs : List Head) (xs ts : List Track) → length ts ≤ k → State k hs xs ts → Beyond (until_in b i t hs) i t ts
untils b i t k [] xs [] g s = tt
untils b i t k [] xs (y ∷ ts) g s = absurd s
untils b i t k (h ∷ hs) xs [] g s = tt
untils b i t k (h ∷ hs) [] (y ∷ ts) g s = absurd s
untils b i t zero (h ∷ hs) (x ∷ xs) (y ∷ ts) g s = absurd (omega arith)
untils b i t (suc k) (h ∷ hs) (track j c z ∷ xs) (track n a [] ∷ ts) g s = (λ o. tt, untils (nearer_at b i t h) (suc i) t k hs xs ts (omega arith) s.1)
untils b i t (suc k) (h ∷ hs) (track j c z ∷ xs) (track n a (u ∷ v) ∷ ts) g s = (
  λ o. omega (arith, until-le (nearer_at b i t h) (suc i) t hs, nearer-other b i t h s.0.3.0 o, s.0.3.2),
  untils (nearer_at b i t h) (suc i) t k hs xs ts (omega arith) s.1,
)

-- FILLING

module _ (h : Head) (y z : Track) (w : Known h y z) where
  -- the next track is filled
  filled : (k : ℕ) (hs : List Head) (xs ts : List Track) → State k hs xs ts → k < length ts → State (suc k) (set hs k h) (set xs k y) (set ts k z)
  filled k [] xs [] st l = absurd (omega arith)
  filled k [] xs (t ∷ ts) st l = absurd st
  filled k (o ∷ hs) xs [] st l = absurd (omega arith)
  filled k (o ∷ hs) [] (t ∷ ts) st l = absurd st
  filled zero (o ∷ hs) (x ∷ xs) (t ∷ ts) st l = (w, st.2)
  filled (suc k) (o ∷ hs) (x ∷ xs) (t ∷ ts) st l = (st.0, filled k hs xs ts st.1 (omega arith))

  -- one of the filled has another next sample
  refilled : (k : ℕ) (hs : List Head) (xs ts : List Track) → length ts ≤ k → State k hs xs ts → (i : ℕ) → i < length ts → State k (set hs i h) (set xs i y) (set ts i z)
  refilled k [] xs [] g st i l = absurd (omega arith)
  refilled k [] xs (t ∷ ts) g st i l = absurd st
  refilled k (o ∷ hs) xs [] g st i l = absurd (omega arith)
  refilled k (o ∷ hs) [] (t ∷ ts) g st i l = absurd st
  refilled zero (o ∷ hs) (x ∷ xs) (t ∷ ts) g st i l = absurd (omega arith)
  refilled (suc k) (o ∷ hs) (x ∷ xs) (t ∷ ts) g st zero l = (w, st.1)
  refilled (suc k) (o ∷ hs) (x ∷ xs) (t ∷ ts) g st (suc i) l = (st.0, refilled k hs xs ts (omega arith) st.1 i (omega arith))

-- the lane of the next track has all of it
unfilled-lane : (e : Track) (k : ℕ) (hs : List Head) (xs ts : List Track) → State k hs xs ts → k < length ts → get_or ts k e ≡ get_or xs k e
unfilled-lane e k [] xs [] st l = absurd (omega arith)
unfilled-lane e k [] xs (t ∷ ts) st l = absurd st
unfilled-lane e k (o ∷ hs) xs [] st l = absurd (omega arith)
unfilled-lane e k (o ∷ hs) [] (t ∷ ts) st l = absurd st
unfilled-lane e zero (o ∷ hs) (x ∷ xs) (t ∷ ts) st l = sym st.1
unfilled-lane e (suc k) (o ∷ hs) (x ∷ xs) (t ∷ ts) st l = unfilled-lane e k hs xs ts st.1 (omega arith)

module _ (d : Track) (h : Head) (y : Track) where
  -- its head was not live
  unfilled : (e : Head) (k : ℕ) (hs : List Head) (xs ts : List Track) → State k hs xs ts → k < length ts → (get_or hs k e).live ≡ false
  unfilled e k [] xs [] st l = absurd (omega arith)
  unfilled e k [] xs (t ∷ ts) st l = absurd st
  unfilled e k (o ∷ hs) xs [] st l = absurd (omega arith)
  unfilled e k (o ∷ hs) [] (t ∷ ts) st l = absurd st
  unfilled e zero (o ∷ hs) (x ∷ xs) (t ∷ ts) st l = st.0
  unfilled e (suc k) (o ∷ hs) (x ∷ xs) (t ∷ ts) st l = unfilled e k hs xs ts st.1 (omega arith)

  known_many : (x : Track) → Known h y x → one h.live + length (samples_of y) ≡ length (samples_of x)
  known_many x = cases y x
    where
      cases : (y x : Track) → Known h y x → one h.live + length (samples_of y) ≡ length (samples_of x)
      cases (track i a u) (track n b []) w = ap₂ (λ (z : Bool) (v : List Sample). one z + length v) w.3.0 w.3.1
      cases (track i a u) (track n b (s ∷ v)) w = ap₂ (λ (z : Bool) (v : List Sample). one z + length v) w.3.0 w.3.4 ∙ omega arith

  many-set : (e : Head) (i : ℕ) (hs : List Head) (xs : List Track) → i < length hs → i < length xs
      → many (set hs i h) (set xs i y) + (one (get_or hs i e).live + length (samples_of (get_or xs i d))) ≡ many hs xs + (one h.live + length (samples_of y))
  many-set e i [] xs a b = absurd (omega arith)
  many-set e i (o ∷ hs) [] a b = absurd (omega arith)
  many-set e zero (o ∷ hs) (x ∷ xs) a b = omega arith
  many-set e (suc i) (o ∷ hs) (x ∷ xs) a b = omega (arith, many-set e i hs xs (omega arith) (omega arith))

  -- of a lane that gives a sample to a head: at most as many, but for the head that was there
  pub many-known : (z : Track) (e : Head) (i : ℕ) (hs : List Head) (xs : List Track) → i < length hs → i < length xs → Known h y z → length (samples_of z) ≤ length (samples_of (get_or xs i d))
      → many (set hs i h) (set xs i y) + one (get_or hs i e).live ≤ many hs xs
  many-known z e i hs xs a b w f = omega (arith, many-set e i hs xs a b, known_many z w, f)

-- no bound is below 0
all-beyond : (i t : ℕ) (ts : List Track) → Beyond 0 i t ts
all-beyond i t [] = tt
all-beyond i t (track n a [] ∷ ts) = (λ o. tt, all-beyond (suc i) t ts)
all-beyond i t (track n a (s ∷ l) ∷ ts) = (λ o. omega arith, all-beyond (suc i) t ts)

-- A TURN

abbrev dead : Head
dead = record { live = false; track = 0; number = 0; offset = 0; size = 0 }

module _ (hs : List Head) (k n p q : ℕ) (four : length hs ≡ 4) (inside : p ≤ q) (all m : List Span) (xs ts : List Track) (len : length ts ≡ n) (st : State k hs xs ts) where
  pub fills : k < n → Takes all (span p q) m k hs xs ts k p 0 (k + 1)
  fills h =
      let l = as_long k hs xs ts st in
      let g : k < length ts = omega (arith, h, len) in
      record {
        low = omega (arith, l.0, g, four);
        stays = inside;
        bounded = omega arith;
        after = ts;
        as_many = refl;
        within = g;
        goes = refl;
        lane = λ d. unfilled-lane d k hs xs ts st g;
        beyond = all-beyond 0 k ts;
        refilled = λ h x z w. rw (add-one k) (filled h x z w k hs xs ts st g);
        less = λ d h x z w f. omega (
          arith,
          many-known d h x z dead k hs xs (omega (arith, l.0, g)) (omega (arith, l.1, g)) w f,
          ap one (unfilled d h x dead k hs xs ts st g),
          g,
        );
      }

  module _ (full : n ≤ k) where
    all_known : length ts ≤ k
    all_known = omega (arith, full, len)

    pub skips : p ≡ q → (length ts ≤ k) × (p ≡ q)
    skips e = (all_known, e)

    module _ (ne : p ≡ q → ⊥) (l : Seen) (seen : l ≡ look_at nothing 0 p hs) where
      looked : l ≡ look_in nothing 0 p ts
      looked = seen ∙ looks nothing 0 p k hs xs ts all_known st

      few : 0 + length ts ≤ 4
      few = omega (arith, (as_long k hs xs ts st).0, four)

      belows : Below 0 p ts l.below
      belows = subst (λ (z : Seen). Below 0 p ts z.below) (sym looked) (below-found nothing 0 p ts refl few)

      firsts : First 0 p ts l.first l.second
      firsts = subst (λ (z : Seen). First 0 p ts z.first z.second) (sym looked) (first_found nothing 0 p ts refl refl few)

      named : (d : Head) (r n : ℕ) (s : Sample) (x : List Sample) → Next 0 ts r n s x → Named hs r n s d
      named d r n s x w =
          let e : w.ix ≡ r = omega (arith, w.is-ix) in
          subst (λ (i : ℕ). Named hs i n s d) e (named-at d (track 0 true []) n w.agrees s x k hs xs ts all_known st w.ix w.in-ts (w.next (track 0 true [])))

      at-step : (bs cs : List Claim) → below p ts ≡ bs → heads p ts ≡ cs → step all (span p q ∷ m) ts ≡ take all (span p q) m ts bs cs
      at-step bs cs b h = sym (is_ne _ _ _ p q ne (sym (ap₂ (take all (span p q) m ts) b h)))

      pub strays : l.below < 4 → (d : Head) → sweep_from all (span p q ∷ m) ts ≡ stray_of all (get_or hs l.below d)
      strays h d = ⊎_elim (λ (a : (l.below ≡ 4) × (below p ts ≡ [])). absurd (omega (arith, a.0, h))) found-one belows
        where
          found-one : FirstBelow 0 p ts l.below → sweep_from all (span p q ∷ m) ts ≡ stray_of all (get_or hs l.below d)
          found-one a =
              let w = named d l.below a.number a.sample a.rest a.place in
              sweep-stops all (span p q ∷ m) ts (misplaced all (claim a.number a.sample)) (at-step (claim a.number a.sample ∷ a.others) (heads p ts) a.is refl)
              ∙ sym (stray-as all (get_or hs l.below d) a.number a.sample w.track-is w.number_is w.offset-is)

      module _ (nb : 4 ≤ l.below) where
        no-below : below p ts ≡ []
        no-below = ⊎_elim (λ (a : (l.below ≡ 4) × (below p ts ≡ [])). a.1)
            (λ (a : FirstBelow 0 p ts l.below). absurd (omega (arith, (named dead l.below a.number a.sample a.rest a.place).low, nb, four))) belows

        stops : (cs : List Claim) (f : Finding) → heads p ts ≡ cs → take all (span p q) m ts [] cs ≡ stop (found f) → sweep_from all (span p q ∷ m) ts ≡ found f
        stops cs f h e = sweep-stops all (span p q ∷ m) ts (found f) (at-step [] cs no-below h ∙ e)

        pub holes : 4 ≤ l.first → sweep_from all (span p q ∷ m) ts ≡ found (F6 p)
        holes h =
            ⊎_elim (λ (a : (l.first ≡ 4) × (heads p ts ≡ [])). stops [] (F6 p) a.1 refl)
            (λ (b : Only 0 p ts l.first l.second ⊎ Two 0 p ts l.first l.second). ⊎_elim
            (λ (a : Only 0 p ts l.first l.second). absurd (omega (arith, (named dead l.first a.number a.sample a.rest a.place).low, h, four)))
            (λ (a : Two 0 p ts l.first l.second). absurd (omega (arith, a.low, h))) b) firsts

        module _ (hf : l.first < 4) where
          pub overlaps : l.second < 4 → (d : Head) (f : Finding) → f ≡ claimed 5 (get_or hs l.second d) → sweep_from all (span p q ∷ m) ts ≡ found f
          overlaps h d f e =
              ⊎_elim (λ (a : (l.first ≡ 4) × (heads p ts ≡ [])). absurd (omega (arith, a.0, hf)))
              (λ (b : Only 0 p ts l.first l.second ⊎ Two 0 p ts l.first l.second). ⊎_elim
              (λ (a : Only 0 p ts l.first l.second). absurd (omega (arith, a.alone, h))) found-two b) firsts
            where
              found-two : Two 0 p ts l.first l.second → sweep_from all (span p q ∷ m) ts ≡ found f
              found-two a =
                  let w = named d l.second a.number a.sample a.rest a.place in
                  stops (a.before ∷ claim a.number a.sample ∷ a.others) (F5 (claim a.number a.sample)) a.is refl
                  ∙ ap found (sym (e ∙ named-as 5 (get_or hs l.second d) a.number a.sample w.track-is w.number_is w.offset-is))

          module _ (hs4 : 4 ≤ l.second) where
            only : Only 0 p ts l.first l.second
            only =
                ⊎_elim (λ (a : (l.first ≡ 4) × (heads p ts ≡ [])). absurd (omega (arith, a.0, hf)))
                (λ (b : Only 0 p ts l.first l.second ⊎ Two 0 p ts l.first l.second). ⊎_elim (λ (a : Only 0 p ts l.first l.second). a)
                (λ (a : Two 0 p ts l.first l.second). absurd (omega (arith, (named dead l.second a.number a.sample a.rest a.place).low, hs4, four))) b) firsts

            name : (d : Head) → Named hs l.first only.number only.sample d
            name d = named d l.first only.number only.sample only.rest only.place

            pub outside : (d : Head) (f : Finding) → q < p + (get_or hs l.first d).size → f ≡ claimed 4 (get_or hs l.first d) → sweep_from all (span p q ∷ m) ts ≡ found f
            outside d f h e =
                let w = name d in
                let g : q < p + only.sample.size = omega (arith, h, w.size_is) in
                stops (claim only.number only.sample ∷ []) (F4 (claim only.number only.sample)) only.is
                (sym (not-le _ _ _ (p + only.sample.size) q g refl))
                ∙ ap found (sym (e ∙ named-as 4 (get_or hs l.first d) only.number only.sample w.track-is w.number_is w.offset-is))

            pub takes : (d : Head) (b : ℕ) → p + (get_or hs l.first d).size ≤ q → b ≡ until_in q 0 l.first hs
                → Takes all (span p q) m k hs xs ts l.first (p + (get_or hs l.first d).size) b k
            takes d b h eb =
                let w = name d in
                let v = only.place in
                let same : v.ix ≡ l.first = omega (arith, v.is-ix) in
                let g : p + only.sample.size ≤ q = omega (arith, h, w.size_is) in
                let r : l.first < length ts = omega (arith, v.in-ts, same) in
                let s = as_long k hs xs ts st in
                let is : (e : Track) → get_or ts l.first e ≡ track only.number v.agrees (only.sample ∷ only.rest) =
                λ e. sym (ap (λ (i : ℕ). get_or ts i e) same) ∙ v.next e in
                let o : step all (span p q ∷ m) ts ≡ go (span (p + only.sample.size) q ∷ m) (advance p ts) =
                at-step [] (claim only.number only.sample ∷ []) no-below only.is ∙ sym (is_le _ _ _ (p + only.sample.size) q g refl) in
                let put = track only.number v.agrees only.rest in
                record {
                  low = hf;
                  stays = h;
                  bounded = omega (arith, eb, until-le q 0 l.first hs);
                  within = omega (arith, length-set ts l.first put, r);
                  lane = λ e. get_set ts l.first put e r ∙ lane_has d e only.number v.agrees only.sample only.rest k hs xs ts all_known st l.first r (is e);
                  beyond = beyond-set b 0 l.first put ts l.first (omega arith) (subst (λ (z : ℕ). Beyond z 0 l.first ts) (sym eb) (untils q 0 l.first k hs xs ts all_known st));
                  after = set ts l.first (track only.number v.agrees only.rest);
                  as_many = length-set ts l.first (track only.number v.agrees only.rest);
                  goes = sweep-goes all (span p q ∷ m) ts (span (p + only.sample.size) q ∷ m) (advance p ts) o
                      ∙ ap₂ (λ (z : ℕ) (y : List Track). sweep_from all (span (p + z) q ∷ m) y) w.size_is
                      (only.taken ∙ ap (λ (i : ℕ). set ts i (track only.number v.agrees only.rest)) same);
                  refilled = λ y x z w. subst (λ (o : List Track). State k (set hs l.first y) (set xs l.first x) o) (sym (set-set ts l.first put z)) (refilled y x z w k hs xs ts all_known st l.first r);
                  less = λ e y x z w f. omega (
                    arith,
                    many-known e y x z d l.first hs xs (omega (arith, s.0, r)) (omega (arith, s.1, r)) w f,
                    ap one (name d).is_live,
                  );
                }
