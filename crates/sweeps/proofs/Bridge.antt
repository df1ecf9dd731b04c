-- What is seen of the tracks' next samples is what the definition asks of them: the first that starts below p, and the
-- first two that start at p. Assumes nothing.
use Prim.Native.Nat.{ℕ, suc, ◌+◌, ◌≤◌, ◌<◌}
use mathlib.Core.Path.{◌≡◌, refl, sym, ap, ◌∙◌}
use mathlib.Core.Logic.{◌⊎◌, inl, inr, ⊎_elim}
use mathlib.Core.List.{List, [], ◌∷◌}
use mathlib.Core.Bool.{Bool, true, false}
use native.Mathlib.Omega.{arith}
use lib.ListN.{get_or, length, set}
use lib.Dec.{ltb, eqb}
use borrow.Author.Tests.{ltb-true, ltb-false, eqb-true, eqb-false, lt-ltb, le-ltb}
use Rattle.numbers.specs.Field.{when}
use Rattle.samples.specs.declared.Sample.{Sample}
use Rattle.verdicts.specs.Findings.{Track, track, Claim, claim}
use Rattle.verdicts.specs.Sweep.{below, heads, advance}
use Rattle.sweeps.specs.declared.Seen.{Seen}
use Rattle.sweeps.specs.Heads.{see_at, nothing}
use Rattle.sweeps.proofs.Looks.{sees_below, keeps_below, keeps-above, sees-first, sees-second, keeps-both}

-- the look over the tracks themselves
abbrev pub look_t : Seen → ℕ → ℕ → Track → Seen
look_t l t p (track n a []) = l
look_t l t p (track n a (s ∷ x)) = see_at l t p s.offset

abbrev pub look_in : Seen → ℕ → ℕ → List Track → Seen
look_in l t p [] = l
look_in l t p (x ∷ ts) = look_in (look_t l t p x) (suc t) p ts

-- r is the place of a track of ts, counted from t; its number is n, its next sample s, and l the others
pub record Next (t : ℕ) (ts : List Track) (r n : ℕ) (s : Sample) (l : List Sample) : Type 0 where
  pub ix : ℕ
  pub is-ix : r ≡ t + ix
  pub in-ts : ix < length ts
  pub agrees : Bool
  pub next : (d : Track) → get_or ts ix d ≡ track n agrees (s ∷ l)

module _ (t : ℕ) (x : Track) (ts : List Track) (r n : ℕ) (s : Sample) (l : List Sample) where
  shift : Next (suc t) ts r n s l → Next t (x ∷ ts) r n s l
  shift k = record { ix = suc k.ix; is-ix = omega (arith, k.is-ix); in-ts = omega (arith, k.in-ts); agrees = k.agrees; next = k.next }

here : (t : ℕ) (ts : List Track) (r n : ℕ) (a : Bool) (s : Sample) (l : List Sample) → r ≡ t → Next t (track n a (s ∷ l) ∷ ts) r n s l
here t ts r n a s l e = record { ix = 0; is-ix = omega (arith, e); in-ts = omega arith; agrees = a; next = λ d. refl }

tri : (o p : ℕ) → (o < p) ⊎ ((o ≡ p) ⊎ (p < o))
tri o p = cases (ltb o p) (eqb o p) refl refl
  where
    cases : (x y : Bool) → ltb o p ≡ x → eqb o p ≡ y → (o < p) ⊎ ((o ≡ p) ⊎ (p < o))
    cases true y e f = inl (ltb-true o p e)
    cases false true e f = inr (inl (eqb-true o p f))
    cases false false e f = inr (inr (omega (arith, ltb-false o p e, eqb-false o p f)))

either : {A : Type 0} (m k : ℕ) → (m ≡ k → A) → ((m ≡ k → ⊥) → A) → A
either {A} m k f g = cases (eqb m k) refl
  where
    cases : (x : Bool) → eqb m k ≡ x → A
    cases true e = f (eqb-true m k e)
    cases false e = g (eqb-false m k e)

-- ONE LOOK

module _ (l : Seen) (t p o : ℕ) where
  abbrev l' : Seen
  l' = see_at l t p o

  abbrev Same : Seen → Type 0
  Same k = (l'.first ≡ k.first) × (l'.second ≡ k.second)

  same : (k : Seen) → k ≡ l' → Same k
  same k e = (ap (λ (z : Seen). z.first) (sym e), ap (λ (z : Seen). z.second) (sym e))

  -- below p
  first_below : o < p → l.below ≡ 4 → l'.below ≡ t
  first_below h e = ap (λ (z : Seen). z.below) (sym (sees_below l t p o h e))

  same-below : o < p → Same l
  same-below h = either l.below 4
      (λ e. let k = same (record { below = t; first = l.first; second = l.second }) (sees_below l t p o h e) in (k.0, k.1))
      (λ e. same l (keeps_below l t p o h e))

  -- not below p
  not-below : p ≤ o → l'.below ≡ l.below
  not-below h = either o p
      (λ e. either l.first 4 (λ a. ap (λ (z : Seen). z.below) (sym (sees-first l t p o h e a)))
      (λ a. either l.second 4 (λ b. ap (λ (z : Seen). z.below) (sym (sees-second l t p o h e a b)))
      (λ b. ap (λ (z : Seen). z.below) (sym (keeps-both l t p o h e a b)))))
      (λ e. ap (λ (z : Seen). z.below) (sym (keeps-above l t p o h e)))

  below_stays : (l.below ≡ 4 → ⊥) → l'.below ≡ l.below
  below_stays h =
      ⊎_elim (λ k. ap (λ (z : Seen). z.below) (sym (keeps_below l t p o k h)))
      (λ k. not-below (⊎_elim (λ (e : o ≡ p). omega (arith, e)) (λ (e : p < o). omega (arith, e)) k)) (tri o p)

  -- not at p
  not_at : (o ≡ p → ⊥) → Same l
  not_at h =
      ⊎_elim (λ (k : o < p). same-below k)
      (λ (k : (o ≡ p) ⊎ (p < o)). ⊎_elim (λ (z : o ≡ p). absurd (h z)) (λ (z : p < o). same l (keeps-above l t p o (omega (arith, z)) h)) k) (tri o p)

  both-stay : (l.first ≡ 4 → ⊥) → (l.second ≡ 4 → ⊥) → Same l
  both-stay a b = either o p (λ e. same l (keeps-both l t p o (omega (arith, e)) e a b)) not_at

-- THE FIRST BELOW

below-kept : (l : Seen) (t p : ℕ) (ts : List Track) → (l.below ≡ 4 → ⊥) → (look_in l t p ts).below ≡ l.below
below-kept l t p [] h = refl
below-kept l t p (track n a [] ∷ ts) h = below-kept l (suc t) p ts h
below-kept l t p (track n a (s ∷ x) ∷ ts) h =
    let k = below_stays l t p s.offset h in
    below-kept (see_at l t p s.offset) (suc t) p ts (λ e. h (sym k ∙ e)) ∙ k

pub record FirstBelow (t p : ℕ) (ts : List Track) (r : ℕ) : Type 0 where
  pub number : ℕ
  pub sample : Sample
  pub rest : List Sample
  pub others : List Claim
  pub place : Next t ts r number sample rest
  pub is : below p ts ≡ claim number sample ∷ others

abbrev pub Below : ℕ → ℕ → List Track → ℕ → Type 0
Below t p ts r = ((r ≡ 4) × (below p ts ≡ [])) ⊎ FirstBelow t p ts r

below-further : (t p : ℕ) (x : Track) (ts : List Track) (r : ℕ) → below p (x ∷ ts) ≡ below p ts → Below (suc t) p ts r → Below t p (x ∷ ts) r
below-further t p x ts r e (inl k) = inl (k.0, e ∙ k.1)
below-further t p x ts r e (inr k) =
    inr (record { number = k.number; sample = k.sample; rest = k.rest; others = k.others; place = shift t x ts r k.number k.sample k.rest k.place; is = e ∙ k.is })

pub below-found : (l : Seen) (t p : ℕ) (ts : List Track) → l.below ≡ 4 → t + length ts ≤ 4 → Below t p ts (look_in l t p ts).below
unfolding when
below-found l t p [] b f = inl (b, refl)
below-found l t p (track n a [] ∷ ts) b f = below-further t p (track n a []) ts (look_in l (suc t) p ts).below refl (below-found l (suc t) p ts b (omega arith))
below-found l t p (track n a (s ∷ x) ∷ ts) b f = cases (tri s.offset p) (below-found (see_at l t p s.offset) (suc t) p ts)
  where
    l'' : Seen
    l'' = see_at l t p s.offset

    r : ℕ
    r = (look_in l'' (suc t) p ts).below

    at-or : p ≤ s.offset → (l''.below ≡ 4 → suc t + length ts ≤ 4 → Below (suc t) p ts r) → Below t p (track n a (s ∷ x) ∷ ts) r
    at-or k ih =
        below-further t p (track n a (s ∷ x)) ts r (ap (λ (z : Bool). when z (claim n s ∷ below p ts) (below p ts)) (le-ltb s.offset p k))
        (ih (not-below l t p s.offset k ∙ b) (omega arith))

    cases : (s.offset < p) ⊎ ((s.offset ≡ p) ⊎ (p < s.offset)) → (l''.below ≡ 4 → suc t + length ts ≤ 4 → Below (suc t) p ts r) → Below t p (track n a (s ∷ x) ∷ ts) r
    cases (inl k) ih =
        let m : l''.below ≡ t = first_below l t p s.offset k b in
        let e = below-kept l'' (suc t) p ts (λ z. omega (arith, m, z)) in
        inr (record {
          number = n;
          sample = s;
          rest = x;
          others = below p ts;
          place = here t ts r n a s x (e ∙ m);
          is = ap (λ (z : Bool). when z (claim n s ∷ below p ts) (below p ts)) (lt-ltb s.offset p k);
        })
    cases (inr (inl k)) ih = at-or (omega (arith, k)) ih
    cases (inr (inr k)) ih = at-or (omega (arith, k)) ih

-- THE FIRST TWO AT P

kept : (l : Seen) (t p : ℕ) (ts : List Track) → (l.first ≡ 4 → ⊥) → (l.second ≡ 4 → ⊥)
    → ((look_in l t p ts).first ≡ l.first) × ((look_in l t p ts).second ≡ l.second)
kept l t p [] a b = (refl, refl)
kept l t p (track n c [] ∷ ts) a b = kept l (suc t) p ts a b
kept l t p (track n c (s ∷ x) ∷ ts) a b =
    let k = both-stay l t p s.offset a b in
    let i = kept (see_at l t p s.offset) (suc t) p ts (λ e. a (sym k.0 ∙ e)) (λ e. b (sym k.1 ∙ e)) in
    (i.0 ∙ k.0, i.1 ∙ k.1)

-- one more of them
pub record OneMore (t p : ℕ) (ts : List Track) (r : ℕ) : Type 0 where
  pub number : ℕ
  pub sample : Sample
  pub rest : List Sample
  pub others : List Claim
  pub place : Next t ts r number sample rest
  pub is : heads p ts ≡ claim number sample ∷ others

abbrev pub Second : ℕ → ℕ → List Track → ℕ → Type 0
Second t p ts r = ((r ≡ 4) × (heads p ts ≡ []) × (advance p ts ≡ ts)) ⊎ OneMore t p ts r

second-further : (t p : ℕ) (x : Track) (ts : List Track) (r : ℕ) → heads p (x ∷ ts) ≡ heads p ts → advance p (x ∷ ts) ≡ x ∷ advance p ts → Second (suc t) p ts r → Second t p (x ∷ ts) r
second-further t p x ts r e d (inl k) = inl (k.0, e ∙ k.1, d ∙ ap (λ (z : List Track). x ∷ z) k.2)
second-further t p x ts r e d (inr k) =
    inr (record { number = k.number; sample = k.sample; rest = k.rest; others = k.others; place = shift t x ts r k.number k.sample k.rest k.place; is = e ∙ k.is })

-- a track's next sample that does not start at p is no head, and stays; one that does is a head, and goes
module _ (p n : ℕ) (a : Bool) (s : Sample) (x : List Sample) (ts : List Track) where
  no-head : eqb s.offset p ≡ false → (heads p (track n a (s ∷ x) ∷ ts) ≡ heads p ts) × (advance p (track n a (s ∷ x) ∷ ts) ≡ track n a (s ∷ x) ∷ advance p ts)
  unfolding when
  no-head e = (
    ap (λ (z : Bool). when z (claim n s ∷ heads p ts) (heads p ts)) e,
    ap (λ (z : Bool). track n a (when z x (s ∷ x)) ∷ advance p ts) e,
  )

  a-head : eqb s.offset p ≡ true → (heads p (track n a (s ∷ x) ∷ ts) ≡ claim n s ∷ heads p ts) × (advance p (track n a (s ∷ x) ∷ ts) ≡ track n a x ∷ advance p ts)
  unfolding when
  a-head e = (
    ap (λ (z : Bool). when z (claim n s ∷ heads p ts) (heads p ts)) e,
    ap (λ (z : Bool). track n a (when z x (s ∷ x)) ∷ advance p ts) e,
  )

second-found : (l : Seen) (t p : ℕ) (ts : List Track) → (l.first ≡ 4 → ⊥) → l.second ≡ 4 → t + length ts ≤ 4
    → ((look_in l t p ts).first ≡ l.first) × Second t p ts (look_in l t p ts).second
second-found l t p [] a b f = (refl, inl (b, refl, refl))
second-found l t p (track n c [] ∷ ts) a b f =
    let i = second-found l (suc t) p ts a b (omega arith) in
    (i.0, second-further t p (track n c []) ts (look_in l (suc t) p ts).second refl refl i.1)
second-found l t p (track n c (s ∷ x) ∷ ts) a b f = cases (eqb s.offset p) refl (second-found (see_at l t p s.offset) (suc t) p ts)
  where
    l'' : Seen
    l'' = see_at l t p s.offset

    cases : (y : Bool) → eqb s.offset p ≡ y
        → ((l''.first ≡ 4 → ⊥) → l''.second ≡ 4 → suc t + length ts ≤ 4 → ((look_in l'' (suc t) p ts).first ≡ l''.first) × Second (suc t) p ts (look_in l'' (suc t) p ts).second)
        → ((look_in l'' (suc t) p ts).first ≡ l.first) × Second t p (track n c (s ∷ x) ∷ ts) (look_in l'' (suc t) p ts).second
    cases true e ih =
        let q = eqb-true s.offset p e in
        let m = same l t p s.offset (record { below = l.below; first = l.first; second = t }) (sees-second l t p s.offset (omega (arith, q)) q a b) in
        let r = kept l'' (suc t) p ts (λ z. a (sym m.0 ∙ z)) (λ z. omega (arith, m.1, z)) in (
          r.0 ∙ m.0,
          inr (record {
            number = n;
            sample = s;
            rest = x;
            others = heads p ts;
            place = here t ts (look_in l'' (suc t) p ts).second n c s x (r.1 ∙ m.1);
            is = (a-head p n c s x ts e).0;
          }),
        )
    cases false e ih =
        let m = not_at l t p s.offset (eqb-false s.offset p e) in
        let i = ih (λ z. a (sym m.0 ∙ z)) (m.1 ∙ b) (omega arith) in
        let w = no-head p n c s x ts e in
        (i.0 ∙ m.0, second-further t p (track n c (s ∷ x)) ts (look_in l'' (suc t) p ts).second w.0 w.1 i.1)

-- one track only, whose next sample is taken
pub record Only (t p : ℕ) (ts : List Track) (r q : ℕ) : Type 0 where
  pub number : ℕ
  pub sample : Sample
  pub rest : List Sample
  pub place : Next t ts r number sample rest
  pub alone : q ≡ 4
  pub is : heads p ts ≡ claim number sample ∷ []
  pub taken : advance p ts ≡ set ts place.ix (track number place.agrees rest)

-- two tracks at least: the second
pub record Two (t p : ℕ) (ts : List Track) (r q : ℕ) : Type 0 where
  pub before : Claim
  pub number : ℕ
  pub sample : Sample
  pub rest : List Sample
  pub others : List Claim
  pub low : r < 4
  pub place : Next t ts q number sample rest
  pub is : heads p ts ≡ before ∷ claim number sample ∷ others

abbrev pub First : ℕ → ℕ → List Track → ℕ → ℕ → Type 0
First t p ts r q = ((r ≡ 4) × (heads p ts ≡ [])) ⊎ (Only t p ts r q ⊎ Two t p ts r q)

first-further : (t p : ℕ) (x : Track) (ts : List Track) (r q : ℕ) → heads p (x ∷ ts) ≡ heads p ts → advance p (x ∷ ts) ≡ x ∷ advance p ts → First (suc t) p ts r q → First t p (x ∷ ts) r q
unfolding shift
first-further t p x ts r q e d (inl k) = inl (k.0, e ∙ k.1)
first-further t p x ts r q e d (inr (inl k)) =
    inr (inl (record {
      number = k.number;
      sample = k.sample;
      rest = k.rest;
      place = shift t x ts r k.number k.sample k.rest k.place;
      alone = k.alone;
      is = e ∙ k.is;
      taken = d ∙ ap (λ (z : List Track). x ∷ z) k.taken;
    }))
first-further t p x ts r q e d (inr (inr k)) =
    inr (inr (record {
      before = k.before;
      number = k.number;
      sample = k.sample;
      rest = k.rest;
      others = k.others;
      low = k.low;
      place = shift t x ts q k.number k.sample k.rest k.place;
      is = e ∙ k.is;
    }))

pub first_found : (l : Seen) (t p : ℕ) (ts : List Track) → l.first ≡ 4 → l.second ≡ 4 → t + length ts ≤ 4 → First t p ts (look_in l t p ts).first (look_in l t p ts).second
unfolding here
first_found l t p [] a b f = inl (a, refl)
first_found l t p (track n c [] ∷ ts) a b f =
    first-further t p (track n c []) ts (look_in l (suc t) p ts).first (look_in l (suc t) p ts).second refl refl (first_found l (suc t) p ts a b (omega arith))
first_found l t p (track n c (s ∷ x) ∷ ts) a b f = cases (eqb s.offset p) refl (first_found (see_at l t p s.offset) (suc t) p ts)
  where
    l'' : Seen
    l'' = see_at l t p s.offset

    cases : (y : Bool) → eqb s.offset p ≡ y
        → (l''.first ≡ 4 → l''.second ≡ 4 → suc t + length ts ≤ 4 → First (suc t) p ts (look_in l'' (suc t) p ts).first (look_in l'' (suc t) p ts).second)
        → First t p (track n c (s ∷ x) ∷ ts) (look_in l'' (suc t) p ts).first (look_in l'' (suc t) p ts).second
    cases true e ih =
        let q = eqb-true s.offset p e in
        let m = same l t p s.offset (record { below = l.below; first = t; second = l.second }) (sees-first l t p s.offset (omega (arith, q)) q a) in
        let j = second-found l'' (suc t) p ts (λ z. omega (arith, m.0, z)) (m.1 ∙ b) (omega arith) in
        let r = j.0 ∙ m.0 in
        let w = a-head p n c s x ts e in
        inr (⊎_elim
        (λ (k : ((look_in l'' (suc t) p ts).second ≡ 4) × (heads p ts ≡ []) × (advance p ts ≡ ts)). inl (record {
          number = n;
          sample = s;
          rest = x;
          place = here t ts (look_in l'' (suc t) p ts).first n c s x r;
          alone = k.0;
          is = w.0 ∙ ap (λ (z : List Claim). claim n s ∷ z) k.1;
          taken = w.1 ∙ ap (λ (z : List Track). track n c x ∷ z) k.2;
        }))
        (λ (k : OneMore (suc t) p ts (look_in l'' (suc t) p ts).second). inr (record {
          before = claim n s;
          number = k.number;
          sample = k.sample;
          rest = k.rest;
          others = k.others;
          low = omega (arith, r);
          place = shift t (track n c (s ∷ x)) ts (look_in l'' (suc t) p ts).second k.number k.sample k.rest k.place;
          is = w.0 ∙ ap (λ (z : List Claim). claim n s ∷ z) k.is;
        }))
        j.1)
    cases false e ih =
        let m = not_at l t p s.offset (eqb-false s.offset p e) in
        let w = no-head p n c s x ts e in
        first-further t p (track n c (s ∷ x)) ts (look_in l'' (suc t) p ts).first (look_in l'' (suc t) p ts).second w.0 w.1 (ih (m.0 ∙ a) (m.1 ∙ b) (omega arith))
