-- The walk gives what the definition says: what is kept on the way are the clocks of the definition, and every answer that it
-- joins is the first of the definition's answers there. Assumes nothing.
use Rattle.std.specs.Prelude.{Some, None}
use Rattle.std.proofs.Common.{◌≡◌, ℕ, zero, suc, ◌+◌, ◌-◌, ◌^◌, ◌<◌, ◌≤◌, min, Bool, true, false, cond, ◌&&◌, eqb, ltb, List, [], ◌∷◌, ◌++◌, length, get_or, set, ℤ, pos, negsuc, sym, refl, ap, ◌∙◌, ap₂, arith, length-set, get_or-set_other, get_or-set_same, ltb-false, ltb-true, eq-eqb, ne_eqb, eqb-true}
use mathlib.Core.Bool.{and_assoc}
use lib.IntN.{sub_ℕ}
use borrow.Author.Tests.{eqb-false}
use Rattle.numbers.specs.Field.{when}
use Rattle.tables.proofs.Lists.{length-list}
use Rattle.runs.specs.declared.Run.{Run}
use Rattle.mooftable.specs.declared.Moof as row
use Rattle.gaps.specs.Gaps as gaps
use Rattle.verdicts.specs.Findings.{F7, F8, Answer, passes, found, first_found}
use Rattle.verdicts.specs.Fragments as of
use Rattle.verdicts.specs.Fragments.{Traf, Moof, Due, free, due, Clock, own_trafs, numbered, timed, due_after, timed_all, clocks_after, follow_from, next_number}
use Rattle.verdicts.specs.Meaning.{trafs_of}
use Rattle.follows.specs.Follows.{numbers_in, traf_of, as_trafs, runs_in, moofs_in, clocks, fits_in64, fit_behind, fit_in, gaps_fit, tell, answer, followed_of}
use Rattle.follows.specs.Walk.{joined, is_zero, gap_asked, time_asked, number_asked, walked, fresh, behind, after_run, after_runs, walks, put_at, after_tracks, after_moof, after_moofs}
use Rattle.follows.proofs.Steps.{join-passes}
use Rattle.follows.specs.declared.Before.{Before}
use Rattle.follows.specs.declared.Walk.{Walk}
use Rattle.follows.specs.declared.Walks.{Walks}
use Rattle.follows.specs.declared.Followed.{Followed}
use Rattle.follows.specs.declared.Followed.TheVariants.{Over, Passes, Found}

-- ANSWERS TOGETHER

join-assoc : (a b c : Followed) → joined (joined a b) c ≡ joined a (joined b c)
unfolding joined
join-assoc Over b c = refl
join-assoc Passes b c = refl
join-assoc (Found f) Over c = refl
join-assoc (Found f) Passes Over = refl
join-assoc (Found f) Passes Passes = refl
join-assoc (Found f) Passes (Found h) = refl
join-assoc (Found f) (Found g) Over = refl
join-assoc (Found f) (Found g) Passes = refl
join-assoc (Found f) (Found g) (Found h) = refl

-- answers of two parts, where the gaps of each part fit or not
answer-join : (x y : Bool) (l m : List Answer) → answer (x && y) (l ++ m) ≡ joined (answer x l) (answer y m)
unfolding answer when joined
answer-join false y l m = refl
answer-join true y [] m = refl
answer-join true y (passes ∷ l) m = answer-join true y l m
answer-join true true (found f ∷ l) m = cases (first_found m)
  where
    cases : (z : Answer) → Found f ≡ joined (Found f) (tell z)
    cases passes = refl
    cases (found g) = refl
answer-join true false (found f ∷ l) m = refl

-- ONE TRAF

-- when a track's next traf is due
abbrev due_of : Before → Due
due_of b = when b.some (due (b.time + b.lasts)) free

-- whether a traf's gap fits, and F8 of it
abbrev fit_one : Before → ℕ → Bool
fit_one b time = when b.some (fits_in64 (gaps.gap_of b.time b.lasts time)) true

abbrev ask_one : Due → ℕ → ℕ → ℕ → Answer
ask_one d time t at = when (of.fits d time) passes (found (F8 t at (of.gap_of d time)))

-- a difference is 0 where the two are equal
zero_same : (n e : ℕ) → is_zero (sub_ℕ n e) ≡ eqb n e
zero_same n e = cases (ltb n e) refl
  where
    cases : (x : Bool) → ltb n e ≡ x → is_zero (sub_ℕ n e) ≡ eqb n e
    cases true h =
        let k = ltb-true n e h in
        ap (λ x. is_zero (cond x (negsuc (e - suc n)) (pos (n - e)))) h ∙ sym (ne_eqb n e (λ q. omega (arith, k, q)))
    cases false h = ap (λ x. is_zero (cond x (negsuc (e - suc n)) (pos (n - e)))) h ∙ equal (eqb n e) refl
      where
        equal : (y : Bool) → eqb n e ≡ y → eqb (n - e) 0 ≡ eqb n e
        equal true q = eq-eqb (n - e) 0 (omega (arith, eqb-true n e q)) ∙ sym q
        equal false q = ne_eqb (n - e) 0 (λ z. eqb-false n e q (omega (arith, z, ltb-false n e h))) ∙ sym q

module _ (t at : ℕ) where
  one_answer : (y : Bool) (g : ℤ) → when y Passes (Found (F8 t at g)) ≡ answer true (when y passes (found (F8 t at g)) ∷ [])
  unfolding answer when
  one_answer true g = refl
  one_answer false g = refl

  -- F8 by a difference that is put into 64 bits
  by_difference : (z : ℤ) → gap_asked (gaps.signed64 z) t at ≡ answer (fits_in64 (gaps.signed64 z)) (when (is_zero z) passes (found (F8 t at z)) ∷ [])
  unfolding when answer gap_asked
  by_difference (pos n) = cases (ltb n (2 ^ 63))
    where
      cases : (x : Bool)
          → gap_asked (when x (Some (pos n)) None) t at
          ≡ answer (fits_in64 (when x (Some (pos n)) None)) (when (eqb n 0) passes (found (F8 t at (pos n))) ∷ [])
      cases true = one_answer (eqb n 0) (pos n)
      cases false = refl
  by_difference (negsuc n) = cases (ltb n (2 ^ 63))
    where
      cases : (x : Bool)
          → gap_asked (when x (Some (negsuc n)) None) t at
          ≡ answer (fits_in64 (when x (Some (negsuc n)) None)) (when false passes (found (F8 t at (negsuc n))) ∷ [])
      cases true = one_answer false (negsuc n)
      cases false = refl

  module _ (b l time : ℕ) where
    by-gap : gap_asked (gaps.gap_of b l time) t at ≡ answer (fits_in64 (gaps.gap_of b l time)) (ask_one (due (b + l)) time t at ∷ [])
    unfolding gaps.gap_of when answer gap_asked
    by-gap = cases (ltb b (2 ^ 63) && ltb time (2 ^ 63))
      where
        cases : (x : Bool)
            → gap_asked (when x (gaps.signed64 (sub_ℕ time (b + l))) None) t at
            ≡ answer (fits_in64 (when x (gaps.signed64 (sub_ℕ time (b + l))) None)) (ask_one (due (b + l)) time t at ∷ [])
        cases true =
            by_difference (sub_ℕ time (b + l))
            ∙ ap (λ y. answer (fits_in64 (gaps.signed64 (sub_ℕ time (b + l)))) (when y passes (found (F8 t at (sub_ℕ time (b + l)))) ∷ [])) (zero_same time (b + l))
        cases false = refl

  one-timed : (b : Before) (time : ℕ) → time_asked b time t at ≡ answer (fit_one b time) (ask_one (due_of b) time t at ∷ [])
  unfolding time_asked when answer
  one-timed b time = cases b.some
    where
      cases : (s : Bool)
          → when s (gap_asked (gaps.gap_of b.time b.lasts time) t at) Passes
          ≡ answer (when s (fits_in64 (gaps.gap_of b.time b.lasts time)) true) (ask_one (when s (due (b.time + b.lasts)) free) time t at ∷ [])
      cases true = by-gap b.time b.lasts time
      cases false = refl

-- A TRACK IN A MOOF

abbrev as_before : Traf → Before
as_before x = record { some = true; time = x.tfdt; lasts = x.lasts }

-- a track's last traf behind these
abbrev before_after : Before → List Traf → Before
before_after b [] = b
before_after b (x ∷ l) = before_after (as_before x) l

abbrev fit_from : Before → List Traf → Bool
fit_from b [] = true
fit_from b (x ∷ l) = fit_one b x.tfdt && fit_from (as_before x) l

due-after : (b : Before) (l : List Traf) → due_of (before_after b l) ≡ due_after (due_of b) l
unfolding when
due-after b [] = refl
due-after b (x ∷ l) = due-after (as_before x) l

and-swap : (x y z w : Bool) → ((x && y) && (z && w)) ≡ ((x && z) && (y && w))
and-swap false y z w = refl
and-swap true false true w = refl
and-swap true false false w = refl
and-swap true true z w = refl

fit_append : (b : Before) (l m : List Traf) → fit_from b (l ++ m) ≡ (fit_from b l && fit_from (before_after b l) m)
fit_append b [] m = refl
fit_append b (x ∷ l) m =
    ap (λ y. fit_one b x.tfdt && y) (fit_append (as_before x) l m)
    ∙ sym (and_assoc (fit_one b x.tfdt) (fit_from (as_before x) l) (fit_from (before_after (as_before x) l) m))

module _ (f : List ℕ) (t at : ℕ) where
  -- F8 of a track's trafs
  abbrev told : Before → List Traf → Followed
  told b l = answer (fit_from b l) (timed at t (due_of b) l)

  told_none : (b : Before) → told b [] ≡ Passes
  unfolding answer when
  told_none b = refl

  told_more : (b : Before) (x : Traf) (l : List Traf) → told b (x ∷ l) ≡ joined (time_asked b x.tfdt t at) (told (as_before x) l)
  unfolding when
  told_more b x l =
      answer-join (fit_one b x.tfdt) (fit_from (as_before x) l) (ask_one (due_of b) x.tfdt t at ∷ []) (timed at t (due_of (as_before x)) l)
      ∙ ap (λ y. joined y (told (as_before x) l)) (sym (one-timed t at b x.tfdt))

  -- what a walk over runs leaves
  abbrev left : Before → Followed → List Traf → Walk
  left b a l = walked (before_after b l) (joined a (told b l))

  runs-told : (rs : List Run) (b : Before) (a : Followed) → after_runs f t at rs (walked b a) ≡ left b a (own_trafs t (as_trafs f rs))
  unfolding when after_run
  runs-told [] b a = ap (walked b) (sym (ap (joined a) (told_none b) ∙ join-passes a))
  runs-told (r ∷ rs) b a = cases (eqb r.track t) (runs-told rs (behind f r) (joined a (time_asked b r.time t at))) (runs-told rs b a)
    where
      cases : (y : Bool)
          → after_runs f t at rs (walked (behind f r) (joined a (time_asked b r.time t at))) ≡ left (behind f r) (joined a (time_asked b r.time t at)) (own_trafs t (as_trafs f rs))
          → after_runs f t at rs (walked b a) ≡ left b a (own_trafs t (as_trafs f rs))
          → after_runs f t at rs (when y (walked (behind f r) (joined a (time_asked b r.time t at))) (walked b a))
          ≡ left b a (when y (traf_of f r ∷ own_trafs t (as_trafs f rs)) (own_trafs t (as_trafs f rs)))
      cases true p q =
          p ∙ ap (walked (before_after (behind f r) (own_trafs t (as_trafs f rs))))
          (join-assoc a (time_asked b r.time t at) (told (behind f r) (own_trafs t (as_trafs f rs)))
          ∙ ap (joined a) (sym (told_more b (traf_of f r) (own_trafs t (as_trafs f rs)))))
      cases false p q = q

-- THE TRACKS OF A MOOF, the k-th at place k

abbrev clocks_by : List Before → ℕ → List ℕ → List Clock
clocks_by bs k [] = []
clocks_by bs k (t ∷ ts) = record { track = t; next = due_of (get_or bs k fresh) } ∷ clocks_by bs (k + 1) ts

-- every gap in a moof of these trafs fits; and every gap from here on
abbrev fit_moof : List Traf → List Before → ℕ → List ℕ → Bool
fit_moof xs bs k [] = true
fit_moof xs bs k (t ∷ ts) = fit_from (get_or bs k fresh) (own_trafs t xs) && fit_moof xs bs (k + 1) ts

abbrev fit_all : List Before → ℕ → List ℕ → List Moof → Bool
fit_all bs k [] ms = true
fit_all bs k (t ∷ ts) ms = fit_from (get_or bs k fresh) (trafs_of t ms) && fit_all bs (k + 1) ts ms

-- each track's last traf is its last in a moof of these trafs
abbrev Moved : List Traf → List Before → List Before → ℕ → List ℕ → Type 0
Moved xs bs cs k [] = Unit {0}
Moved xs bs cs k (t ∷ ts) = (get_or cs k fresh ≡ before_after (get_or bs k fresh) (own_trafs t xs)) × Moved xs bs cs (k + 1) ts

clocks-moved : (m : Moof) (bs cs : List Before) (k : ℕ) (ts : List ℕ) → Moved m.trafs bs cs k ts → clocks_by cs k ts ≡ clocks_after m (clocks_by bs k ts)
clocks-moved m bs cs k [] h = refl
clocks-moved m bs cs k (t ∷ ts) h =
    ap₂ (λ (d : Due) (l : List Clock). record { track = t; next = d } ∷ l) (ap due_of h.0 ∙ due-after (get_or bs k fresh) (own_trafs t m.trafs)) (clocks-moved m bs cs (k + 1) ts h.1)

fits_moved : (m : Moof) (ms : List Moof) (bs cs : List Before) (k : ℕ) (ts : List ℕ) → Moved m.trafs bs cs k ts
    → fit_all bs k ts (m ∷ ms) ≡ (fit_moof m.trafs bs k ts && fit_all cs k ts ms)
fits_moved m ms bs cs k [] h = refl
fits_moved m ms bs cs k (t ∷ ts) h =
    ap₂ (λ x y. x && y)
    (fit_append (get_or bs k fresh) (own_trafs t m.trafs) (trafs_of t ms)
    ∙ sym (ap (λ (b : Before). fit_from (get_or bs k fresh) (own_trafs t m.trafs) && fit_from b (trafs_of t ms)) h.0))
    (fits_moved m ms bs cs (k + 1) ts h.1)
    ∙ and-swap (fit_from (get_or bs k fresh) (own_trafs t m.trafs)) (fit_from (get_or cs k fresh) (trafs_of t ms)) (fit_moof m.trafs bs (k + 1) ts) (fit_all cs (k + 1) ts ms)

-- what stands at places from k on decides
abbrev SameFrom : ℕ → List Before → List Before → Type 0
SameFrom k bs cs = (j : ℕ) → k ≤ j → get_or bs j fresh ≡ get_or cs j fresh

clocks-same : (bs cs : List Before) (k : ℕ) (ts : List ℕ) → SameFrom k bs cs → clocks_by bs k ts ≡ clocks_by cs k ts
clocks-same bs cs k [] h = refl
clocks-same bs cs k (t ∷ ts) h =
    ap₂ (λ (b : Before) (l : List Clock). record { track = t; next = due_of b } ∷ l) (h k (omega arith)) (clocks-same bs cs (k + 1) ts (λ j g. h j (omega (arith, g))))

fits-same : (xs : List Traf) (bs cs : List Before) (k : ℕ) (ts : List ℕ) → SameFrom k bs cs → fit_moof xs bs k ts ≡ fit_moof xs cs k ts
fits-same xs bs cs k [] h = refl
fits-same xs bs cs k (t ∷ ts) h =
    ap₂ (λ (b : Before) (y : Bool). fit_from b (own_trafs t xs) && y) (h k (omega arith)) (fits-same xs bs cs (k + 1) ts (λ j g. h j (omega (arith, g))))

moved_same : (xs : List Traf) (bs cs es : List Before) (k : ℕ) (ts : List ℕ) → SameFrom k bs cs → Moved xs bs es k ts → Moved xs cs es k ts
moved_same xs bs cs es k [] h m = m
moved_same xs bs cs es k (t ∷ ts) h m =
    (m.0 ∙ ap (λ (b : Before). before_after b (own_trafs t xs)) (h k (omega arith)), moved_same xs bs cs es (k + 1) ts (λ j g. h j (omega (arith, g))) m.1)

set_same : (bs : List Before) (k : ℕ) (b : Before) → SameFrom (k + 1) (set bs k b) bs
set_same bs k b j g = get_or-set_other bs k j b fresh (λ e. omega (arith, e, g))

module _ (f : List ℕ) (n at : ℕ) (rs : List Run) where
  -- the moof
  abbrev this : Moof
  this = record { start = at; number = n; trafs = as_trafs f rs }

  -- the track at place k, and the others with it
  abbrev one : ℕ → ℕ → List Before → Followed → Walk
  one k t bs a = after_runs f t at rs (walked (get_or bs k fresh) a)

  abbrev rest : ℕ → ℕ → List ℕ → List Before → Followed → Walks
  rest k t ts bs a = after_tracks f at rs (k + 1) ts (put_at k bs (one k t bs a))

  long : (k : ℕ) (ts : List ℕ) (bs : List Before) (a : Followed) → length (after_tracks f at rs k ts (walks bs a)).befores ≡ length bs
  long k [] bs a = refl
  long k (t ∷ ts) bs a = long (k + 1) ts (set bs k (one k t bs a).before) (one k t bs a).told ∙ length-set bs k (one k t bs a).before

  below : (k : ℕ) (ts : List ℕ) (bs : List Before) (a : Followed) (j : ℕ) → j < k → get_or (after_tracks f at rs k ts (walks bs a)).befores j fresh ≡ get_or bs j fresh
  below k [] bs a j h = refl
  below k (t ∷ ts) bs a j h =
      below (k + 1) ts (set bs k (one k t bs a).before) (one k t bs a).told j (omega (arith, h)) ∙ get_or-set_other bs k j (one k t bs a).before fresh (λ e. omega (arith, e, h))

  tracks-moved : (k : ℕ) (ts : List ℕ) (bs : List Before) (a : Followed) → k + length ts ≤ length bs
      → Moved (as_trafs f rs) bs (after_tracks f at rs k ts (walks bs a)).befores k ts
  tracks-moved k [] bs a h = tt
  tracks-moved k (t ∷ ts) bs a h =
      let x = (one k t bs a).before in
      let cs : List Before = set bs k x in (
        below (k + 1) ts cs (one k t bs a).told k (omega arith) ∙ get_or-set_same bs k x fresh (omega (arith, h))
            ∙ ap (λ (w : Walk). w.before) (runs-told f t at rs (get_or bs k fresh) a),
        moved_same (as_trafs f rs) cs bs (rest k t ts bs a).befores (k + 1) ts (set_same bs k x)
            (tracks-moved (k + 1) ts cs (one k t bs a).told (omega (arith, h, length-set bs k x))),
      )

  tracks-told : (k : ℕ) (ts : List ℕ) (bs : List Before) (a : Followed)
      → (after_tracks f at rs k ts (walks bs a)).told ≡ joined a (answer (fit_moof (as_trafs f rs) bs k ts) (timed_all this (clocks_by bs k ts)))
  tracks-told k [] bs a = sym (ap (joined a) (told_none f 0 0 fresh) ∙ join-passes a)
  tracks-told k (t ∷ ts) bs a =
      let x = (one k t bs a).before in
      let cs : List Before = set bs k x in
      let q : Followed = told f t at (get_or bs k fresh) (own_trafs t (as_trafs f rs)) in
      tracks-told (k + 1) ts cs (one k t bs a).told
      ∙ ap₂ (λ (y : Bool) (l : List Clock). joined (one k t bs a).told (answer y (timed_all this l)))
      (fits-same (as_trafs f rs) cs bs (k + 1) ts (set_same bs k x)) (clocks-same cs bs (k + 1) ts (set_same bs k x))
      ∙ ap (λ (w : Walk). joined w.told (answer (fit_moof (as_trafs f rs) bs (k + 1) ts) (timed_all this (clocks_by bs (k + 1) ts))))
      (runs-told f t at rs (get_or bs k fresh) a)
      ∙ join-assoc a q (answer (fit_moof (as_trafs f rs) bs (k + 1) ts) (timed_all this (clocks_by bs (k + 1) ts)))
      ∙ ap (joined a)
      (sym (answer-join (fit_from (get_or bs k fresh) (own_trafs t (as_trafs f rs))) (fit_moof (as_trafs f rs) bs (k + 1) ts)
      (timed at t (due_of (get_or bs k fresh)) (own_trafs t (as_trafs f rs))) (timed_all this (clocks_by bs (k + 1) ts))))

-- THE MOOFS

number-told : (d : Due) (m : row.Moof) (xs : List Traf) → number_asked d m ≡ answer true (numbered d (record { start = m.start; number = m.number; trafs = xs }) ∷ [])
unfolding number_asked answer when
number-told d m xs = cases (of.fits d m.number)
  where
    cases : (y : Bool) → when y Passes (Found (F7 m.start)) ≡ tell (first_found (when y passes (found (F7 m.start)) ∷ []))
    cases true = refl
    cases false = refl

no-moofs-fit : (bs : List Before) (k : ℕ) (ts : List ℕ) → fit_all bs k ts [] ≡ true
no-moofs-fit bs k [] = refl
no-moofs-fit bs k (t ∷ ts) = no-moofs-fit bs (k + 1) ts

module _ (f : List ℕ) (rs : List Run) (ts : List ℕ) where
  moofs-told : (ms : List row.Moof) (d : Due) (bs : List Before) (a : Followed) → length ts ≤ length bs
      → (after_moofs f rs ts d ms (walks bs a)).told ≡ joined a (answer (fit_all bs 0 ts (moofs_in f rs ms)) (follow_from d (clocks_by bs 0 ts) (moofs_in f rs ms)))
  moofs-told [] d bs a h = sym (ap (λ y. joined a (answer y [])) (no-moofs-fit bs 0 ts) ∙ ap (joined a) (told_none f 0 0 fresh) ∙ join-passes a)
  moofs-told (m ∷ ms) d bs a h =
      let xs : List Traf = as_trafs f (runs_in rs m ms) in
      let o : Moof = record { start = m.start; number = m.number; trafs = xs } in
      let w : Walks = after_moof f rs ts d m ms (walks bs a) in
      let v = tracks-moved f m.number m.start (runs_in rs m ms) 0 ts bs (joined a (number_asked d m)) (omega (arith, h)) in
      let fs : List Moof = moofs_in f rs ms in
      let e : Due = due (next_number m.number) in
      let tail : Followed = answer (fit_all w.befores 0 ts fs) (follow_from e (clocks_by w.befores 0 ts) fs) in
      let mid : Followed = answer (fit_moof xs bs 0 ts) (timed_all o (clocks_by bs 0 ts)) in
      moofs-told ms e w.befores w.told (omega (arith, h, long f m.number m.start (runs_in rs m ms) 0 ts bs (joined a (number_asked d m))))
      ∙ ap (λ (x : Followed). joined x tail) (tracks-told f m.number m.start (runs_in rs m ms) 0 ts bs (joined a (number_asked d m)))
      ∙ join-assoc (joined a (number_asked d m)) mid tail ∙ join-assoc a (number_asked d m) (joined mid tail)
      ∙ ap (joined a)
      (ap₂ (λ x y. joined x y) (number-told d m xs)
      (ap (λ (l : List Clock). joined mid (answer (fit_all w.befores 0 ts fs) (follow_from e l fs))) (clocks-moved o bs w.befores 0 ts v)
      ∙ sym (answer-join (fit_moof xs bs 0 ts) (fit_all w.befores 0 ts fs) (timed_all o (clocks_by bs 0 ts)) (follow_from e (clocks_after o (clocks_by bs 0 ts)) fs)))
      ∙ sym (answer-join true (fit_moof xs bs 0 ts && fit_all w.befores 0 ts fs) (numbered d o ∷ []) (timed_all o (clocks_by bs 0 ts) ++ follow_from e (clocks_after o (clocks_by bs 0 ts)) fs))
      ∙ ap (λ y. answer y (follow_from d (clocks_by bs 0 ts) (o ∷ fs))) (sym (fits_moved o fs bs w.befores 0 ts v)))

-- FROM THE START

abbrev pub four : List Before
four = fresh ∷ fresh ∷ fresh ∷ fresh ∷ []

all-fresh : (k : ℕ) → get_or four k fresh ≡ fresh
all-fresh zero = refl
all-fresh (suc zero) = refl
all-fresh (suc (suc zero)) = refl
all-fresh (suc (suc (suc zero))) = refl
all-fresh (suc (suc (suc (suc k)))) = refl

clocks-start : (k : ℕ) (ts : List ℕ) → clocks_by four k ts ≡ clocks ts
unfolding when
clocks-start k [] = refl
clocks-start k (t ∷ ts) = ap₂ (λ (b : Before) (l : List Clock). record { track = t; next = due_of b } ∷ l) (all-fresh k) (clocks-start (k + 1) ts)

fit-behind : (b l : ℕ) (xs : List Traf) → fit_from (record { some = true; time = b; lasts = l }) xs ≡ fit_behind b l xs
unfolding when
fit-behind b l [] = refl
fit-behind b l (x ∷ xs) = ap (λ y. fits_in64 (gaps.gap_of b l x.tfdt) && y) (fit-behind x.tfdt x.lasts xs)

fit-start : (xs : List Traf) → fit_from fresh xs ≡ fit_in xs
unfolding when
fit-start [] = refl
fit-start (x ∷ xs) = fit-behind x.tfdt x.lasts xs

fits-start : (k : ℕ) (ts : List ℕ) (ms : List Moof) → fit_all four k ts ms ≡ gaps_fit ts ms
fits-start k [] ms = refl
fits-start k (t ∷ ts) ms = ap₂ (λ x y. x && y) (ap (λ (b : Before). fit_from b (trafs_of t ms)) (all-fresh k) ∙ fit-start (trafs_of t ms)) (fits-start (k + 1) ts ms)

pub walk-answers : (f : List ℕ) (rs : List Run) (ms : List row.Moof) (ts : List ℕ) → length ts ≤ 4
    → (after_moofs f rs ts free ms (walks four Passes)).told ≡ followed_of f rs ms ts
unfolding joined followed_of
walk-answers f rs ms ts h =
    moofs-told f rs ts ms free four Passes h
    ∙ ap₂ (λ (y : Bool) (l : List Clock). answer y (follow_from free l (moofs_in f rs ms))) (fits-start 0 ts (moofs_in f rs ms)) (clocks-start 0 ts)

-- for the first tracks, four at most
pub walk_of-numbers : (f : List ℕ) (rs : List Run) (ms : List row.Moof) (ns : List ℕ) (n k : ℕ) → k ≡ min n 4
    → (after_moofs f rs (numbers_in ns k) free ms (walks four Passes)).told ≡ followed_of f rs ms (numbers_in ns (min n 4))
walk_of-numbers f rs ms ns n k e =
    walk-answers f rs ms (numbers_in ns k) (omega (arith, length-list (λ j. get_or ns j 0) k 0, e)) ∙ ap (λ j. followed_of f rs ms (numbers_in ns j)) e
