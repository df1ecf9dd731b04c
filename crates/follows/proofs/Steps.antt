-- One law for each return of the walk, over plain variables. Assumes nothing.
use Rattle.std.specs.Prelude.{Option, Some, None}
use Rattle.std.proofs.Common.{◌≡◌, ℕ, zero, suc, ◌+◌, ◌^◌, ◌<◌, ◌≤◌, min, Bool, true, false, ◌&&◌, eqb, ltb, List, [], ◌∷◌, length, get_or, take, drop, set, ℤ, pos, negsuc, sym, refl, ap, ◌∙◌, subst, ap₂, arith, to_z-of_z, w64, SFits, to_z, of_z, ltb-false, ltb-true, eq-eqb, ne_eqb}
use lib.IntN.{sub_ℕ}
use Rattle.numbers.specs.Field.{when}
use Rattle.numbers.proofs.Chain.{by-true, by-false}
use Rattle.tables.specs.Tables.{list_from, listed}
use Rattle.tables.proofs.Lists.{list-cons, list-nil, length-list}
use Rattle.runs.specs.Samples.{durations_in}
use Rattle.runs.specs.declared.Run.{Run}
use Rattle.runtable.specs.Table as runs
use Rattle.fragments.proofs.Cases as rows
use Rattle.mooftable.specs.declared.Moof as row
use Rattle.mooftable.specs.Table as moofs
use Rattle.gaps.specs.Gaps as gaps
use Rattle.verdicts.specs.declared.Finding.{Finding}
use Rattle.verdicts.specs.Findings.{F7, F8}
use Rattle.verdicts.specs.Fragments.{due, next_number}
use Rattle.follows.specs.Follows.{numbers_in, end_before}
use Rattle.follows.specs.Walk.{joined, is_zero, gap_asked, time_asked, number_asked, due_by, walked, fresh, behind, after_run, after_runs, walks, put_at, after_tracks, last_row, after_moof, after_moofs}
use Rattle.follows.specs.declared.Before.{Before}
use Rattle.follows.specs.declared.Walk.{Walk}
use Rattle.follows.specs.declared.Walks.{Walks}
use Rattle.follows.specs.declared.Followed.{Followed}
use Rattle.follows.specs.declared.Followed.TheVariants.{Over, Passes, Found}
use Rattle.mooftable.specs.declared.Moof.{Moof}

-- ONE ANSWER AFTER ANOTHER

pub join-passes : (a : Followed) → joined a Passes ≡ a
unfolding joined
join-passes Over = refl
join-passes Passes = refl
join-passes (Found f) = refl

pub join-over : (a : Followed) → joined a Over ≡ Over
unfolding joined
join-over Over = refl
join-over Passes = refl
join-over (Found f) = refl

module _ (a : Followed) (g : Finding) where
  pub found-over : a ≡ Over → Over ≡ joined a (Found g)
  unfolding joined
  found-over e = sym (ap (λ x. joined x (Found g)) e)

  pub found-passes : a ≡ Passes → Found g ≡ joined a (Found g)
  unfolding joined
  found-passes e = sym (ap (λ x. joined x (Found g)) e)

  pub found_first : (f : Finding) → a ≡ Found f → Found f ≡ joined a (Found g)
  unfolding joined
  found_first f e = sym (ap (λ x. joined x (Found g)) e)

-- a passes, so what was told stays
still : (a b : Followed) → b ≡ Passes → a ≡ joined a b
still a b e = sym (ap (joined a) e ∙ join-passes a)

-- F8

is-zero : (g : ℤ) → g ≡ pos 0 → is_zero g ≡ true
is-zero g e = ap is_zero e

is-not-zero : (g : ℤ) → (g ≡ pos 0 → ⊥) → is_zero g ≡ false
is-not-zero (pos n) h = ne_eqb n 0 (λ e. h (ap pos e))
is-not-zero (negsuc n) h = refl

-- a gap has 64 bits, so it is 0 where its bits are

fits-64 : (z : ℤ) (g : ℤ) → gaps.signed64 z ≡ Some g → SFits w64 g
unfolding when
fits-64 (pos n) g = cases (ltb n (2 ^ 63)) refl
  where
    cases : (x : Bool) → ltb n (2 ^ 63) ≡ x → when x (Some (pos n)) None ≡ Some g → SFits w64 g
    cases true h e = let q : pos n ≡ g = cc in subst (SFits w64) q (record { sfits = omega (arith, ltb-true n (2 ^ 63) h) })
    cases false h e = let z : ◌≡◌ {A = ℕ} 0 1 = cc in absurd (omega arith)
fits-64 (negsuc n) g = cases (ltb n (2 ^ 63)) refl
  where
    cases : (x : Bool) → ltb n (2 ^ 63) ≡ x → when x (Some (negsuc n)) None ≡ Some g → SFits w64 g
    cases true h e = let q : negsuc n ≡ g = cc in subst (SFits w64) q (record { sfits = omega (arith, ltb-true n (2 ^ 63) h) })
    cases false h e = let z : ◌≡◌ {A = ℕ} 0 1 = cc in absurd (omega arith)

gap-fits : (b l t : ℕ) (g : ℤ) → gaps.gap_of b l t ≡ Some g → SFits w64 g
unfolding gaps.gap_of when
gap-fits b l t g = cases (ltb b (2 ^ 63) && ltb t (2 ^ 63))
  where
    cases : (x : Bool) → when x (gaps.signed64 (sub_ℕ t (b + l))) None ≡ Some g → SFits w64 g
    cases true e = fits-64 (sub_ℕ t (b + l)) g e
    cases false e = let z : ◌≡◌ {A = ℕ} 0 1 = cc in absurd (omega arith)

zero_bits : (g : ℤ) → SFits w64 g → of_z w64 g ≡ 0 → g ≡ pos 0
zero_bits g h e = sym (to_z-of_z h) ∙ ap (to_z w64) e

module _ (a : Followed) (b : Before) (time t at : ℕ) where
  pub timed-free : b.some ≡ false → a ≡ joined a (time_asked b time t at)
  unfolding time_asked
  timed-free e = still a _ (sym (by-false (gap_asked (gaps.gap_of b.time b.lasts time) t at) Passes Passes b.some e refl))

  module _ (h : b.some ≡ true) (q : Option ℤ) (e : q ≡ gaps.gap_of b.time b.lasts time) where
    by-gap : (x : Followed) → x ≡ gap_asked q t at → x ≡ time_asked b time t at
    unfolding time_asked
    by-gap x k = by-true _ Passes x b.some h (k ∙ ap (λ y. gap_asked y t at) e)

    pub timed-over : q ≡ None → Over ≡ joined a (time_asked b time t at)
    unfolding gap_asked
    timed-over k = sym (join-over a) ∙ ap (joined a) (by-gap Over (sym (ap (λ y. gap_asked y t at) k)))

    module _ (g : ℤ) (k : q ≡ Some g) where
      pub timed-right : of_z w64 g ≡ 0 → a ≡ joined a (time_asked b time t at)
      unfolding gap_asked
      timed-right z =
          still a _
          (sym (by-gap Passes (by-true Passes (Found (F8 t at g)) Passes (is_zero g) (is-zero g (zero_bits g (gap-fits b.time b.lasts time g (sym e ∙ k)) z)) refl ∙ sym (ap (λ y. gap_asked y t at) k))))

      pub timed-found : (of_z w64 g ≡ 0 → ⊥) → (r : Followed) → r ≡ joined a (Found (F8 t at (to_z w64 (of_z w64 g)))) → r ≡ joined a (time_asked b time t at)
      unfolding gap_asked
      timed-found z r w =
          w ∙ ap (λ x. joined a (Found (F8 t at x))) (to_z-of_z (gap-fits b.time b.lasts time g (sym e ∙ k)))
          ∙ ap (joined a)
          (by-gap (Found (F8 t at g)) (by-false Passes (Found (F8 t at g)) (Found (F8 t at g)) (is_zero g) (is-not-zero g (λ y. z (ap (of_z w64) y))) refl ∙ sym (ap (λ y. gap_asked y t at) k)))

-- F7

module _ (a : Followed) (n : ℕ) (m : row.Moof) (s : Bool) where
  pub number-free : s ≡ false → a ≡ joined a (number_asked (due_by s n) m)
  unfolding number_asked when
  number-free e = still a _ (ap (λ x. number_asked (due_by x n) m) e)

  module _ (h : s ≡ true) where
    pub number-right : m.number ≡ n → a ≡ joined a (number_asked (due_by s n) m)
    unfolding number_asked
    number-right e =
        still a _ (ap (λ x. number_asked (due_by x n) m) h ∙ sym (by-true Passes (Found (F7 m.start)) Passes (eqb m.number n) (eq-eqb m.number n e) refl))

    pub number-found : (m.number ≡ n → ⊥) → (r : Followed) → r ≡ joined a (Found (F7 m.start)) → r ≡ joined a (number_asked (due_by s n) m)
    unfolding number_asked
    number-found e r w =
        w ∙ ap (joined a)
        (by-false Passes (Found (F7 m.start)) (Found (F7 m.start)) (eqb m.number n) (ne_eqb m.number n e) refl
        ∙ sym (ap (λ x. number_asked (due_by x n) m) h))

-- ONE RUN

module _ (f : List ℕ) (t at : ℕ) (r : Run) (b : Before) (a : Followed) where
  pub own-run : r.track ≡ t → (w : Followed) → w ≡ joined a (time_asked b r.time t at) → (l : ℕ) → l ≡ durations_in f r
      → ◌≡◌ {A = Walk} (record { before = record { some = true; time = r.time; lasts = l }; told = w }) (after_run f t at r (walked b a))
  unfolding after_run
  own-run e w ew l el =
      by-true _ (walked b a) _ (eqb r.track t) (eq-eqb r.track t e)
      (ap₂ (λ (x : ℕ) (y : Followed). walked (record { some = true; time = r.time; lasts = x }) y) el ew)

  pub other-run : (r.track ≡ t → ⊥) → walked b a ≡ after_run f t at r (walked b a)
  unfolding after_run
  other-run e = by-false (walked (behind f r) (joined a (time_asked b r.time t at))) _ _ (eqb r.track t) (ne_eqb r.track t e) refl

-- THE RUNS OF A TRACK IN A MOOF

-- what is known behind the rows from i on is all
module _ (f : List ℕ) (t at : ℕ) (tb : List ℕ) (n i : ℕ) (b : Before) (a : Followed) (all : Walk) (inv : after_runs f t at (drop i (runs.rows_of tb n)) (walked b a) ≡ all) where
  no-runs : drop i (runs.rows_of tb n) ≡ [] → walked b a ≡ all
  no-runs e = sym (ap (λ l. after_runs f t at l (walked b a)) e) ∙ inv

  pub runs_done : n ≤ i → walked b a ≡ all
  runs_done h = no-runs (list-nil (runs.row_at tb) (min n (runs.holds tb)) i (omega arith))

  module _ (q : Option Run) (e : q ≡ runs.row_of tb i) where
    pub run-missing : q ≡ None → walked b a ≡ all
    run-missing h = no-runs (list-nil (runs.row_at tb) (min n (runs.holds tb)) i (omega (arith, rows.row-not tb i q e h)))

    pub run-next : i < n → (r : Run) → q ≡ Some r → (w : Walk) → w ≡ after_run f t at r (walked b a)
        → after_runs f t at (drop (i + 1) (runs.rows_of tb n)) (walked w.before w.told) ≡ all
    run-next h r er w ew =
        let k = rows.row_is tb i q e r er in
        ap (after_runs f t at (drop (i + 1) (runs.rows_of tb n))) (ew ∙ ap (λ x. after_run f t at x (walked b a)) k.1)
        ∙ sym (ap (λ l. after_runs f t at l (walked b a)) (list-cons (runs.row_at tb) (min n (runs.holds tb)) i (omega (arith, k.0)))) ∙ inv

-- THE TRACKS OF A MOOF

module _ (f : List ℕ) (at : ℕ) (rs : List Run) (ns : List ℕ) (n k : ℕ) (bs : List Before) (a : Followed) (all : Walks)
    (inv : after_tracks f at rs k (drop k (numbers_in ns n)) (walks bs a) ≡ all) where
  pub tracks-done : n ≤ k → walks bs a ≡ all
  tracks-done h = sym (ap (λ l. after_tracks f at rs k l (walks bs a)) (list-nil (λ j. get_or ns j 0) n k h)) ∙ inv

  pub track-next : k < n → (b : Before) → b ≡ get_or bs k fresh → (w : Walk) → w ≡ after_runs f (get_or ns k 0) at rs (walked b a)
      → after_tracks f at rs (k + 1) (drop (k + 1) (numbers_in ns n)) (walks (set bs k w.before) w.told) ≡ all
  track-next h b eb w ew =
      ap (λ (x : Walk). after_tracks f at rs (k + 1) (drop (k + 1) (numbers_in ns n)) (put_at k bs x)) (ew ∙ ap (λ y. after_runs f (get_or ns k 0) at rs (walked y a)) eb)
      ∙ sym (ap (λ l. after_tracks f at rs k l (walks bs a)) (list-cons (λ j. get_or ns j 0) n k h)) ∙ inv

-- WHERE A MOOF'S RUNS END

module _ (tb : List ℕ) (i : ℕ) (q : Option Moof) (e : q ≡ moofs.row_of tb i) where
  pub moof-is-there : (m : row.Moof) → q ≡ Some m → (i < moofs.holds tb) × (m ≡ moofs.row_at tb i)
  unfolding when
  moof-is-there m h = cases (ltb i (moofs.holds tb)) refl e
    where
      cases : (b : Bool) → ltb i (moofs.holds tb) ≡ b → q ≡ when b (Some (moofs.row_at tb i)) None → (i < moofs.holds tb) × (m ≡ moofs.row_at tb i)
      cases true g d = (ltb-true i (moofs.holds tb) g, cc)
      cases false g d = let z : ◌≡◌ {A = ℕ} 0 1 = cc in absurd (omega arith)

  pub moof-is-not : q ≡ None → moofs.holds tb ≤ i
  unfolding when
  moof-is-not h = cases (ltb i (moofs.holds tb)) refl e
    where
      cases : (b : Bool) → ltb i (moofs.holds tb) ≡ b → q ≡ when b (Some (moofs.row_at tb i)) None → moofs.holds tb ≤ i
      cases true g d = let z : ◌≡◌ {A = ℕ} 0 1 = cc in absurd (omega arith)
      cases false g d = ltb-false i (moofs.holds tb) g

module _ (tb : List ℕ) (n i rows : ℕ) where
  pub past-moofs : n ≤ i → drop i (moofs.rows_of tb n) ≡ []
  past-moofs h = list-nil (moofs.row_at tb) (min n (moofs.holds tb)) i (omega arith)

  pub last-of-all : n ≤ i → rows ≡ last_row rows (drop i (moofs.rows_of tb n))
  last-of-all h = sym (ap (last_row rows) (past-moofs h))

  module _ (q : Option Moof) (e : q ≡ moofs.row_of tb i) where
    pub no-moof : q ≡ None → drop i (moofs.rows_of tb n) ≡ []
    no-moof h = list-nil (moofs.row_at tb) (min n (moofs.holds tb)) i (omega (arith, moof-is-not tb i q e h))

    pub last-missing : q ≡ None → rows ≡ last_row rows (drop i (moofs.rows_of tb n))
    last-missing h = sym (ap (last_row rows) (no-moof h))

    module _ (h : i < n) (m : row.Moof) (k : q ≡ Some m) where
      pub this-moof : drop i (moofs.rows_of tb n) ≡ m ∷ drop (i + 1) (moofs.rows_of tb n)
      this-moof =
          let w = moof-is-there tb i q e m k in
          list-cons (moofs.row_at tb) (min n (moofs.holds tb)) i (omega (arith, w.0)) ∙ sym (ap (λ x. x ∷ drop (i + 1) (moofs.rows_of tb n)) w.1)

      pub last-next : m.runs < rows → m.runs ≡ last_row rows (drop i (moofs.rows_of tb n))
      last-next g = let z : m.runs ≡ min m.runs rows = omega (arith, g) in z ∙ sym (ap (last_row rows) this-moof)

      pub last-cut : rows ≤ m.runs → rows ≡ last_row rows (drop i (moofs.rows_of tb n))
      last-cut g = let z : rows ≡ min m.runs rows = omega (arith, g) in z ∙ sym (ap (last_row rows) this-moof)

-- THE MOOFS

take-from : {A : Type 0} (g : ℕ → A) (k n i : ℕ) → take k (list_from g n i) ≡ list_from g (min k n) i
take-from g zero n i = let z : min 0 n ≡ 0 = omega arith in sym (ap (λ j. list_from g j i) z)
take-from g (suc k) zero i = let z : min (suc k) 0 ≡ 0 = omega arith in sym (ap (λ j. list_from g j i) z)
take-from {A} g (suc k) (suc n) i =
    let z : min (suc k) (suc n) ≡ suc (min k n) = omega arith in
    ap (λ (l : List A). g i ∷ l) (take-from g k n (suc i)) ∙ sym (ap (λ j. list_from g j i) z)

-- the runs of a moof are the rows up to the last one
module _ (tb : List ℕ) (n : ℕ) where
  last-rows : (ms : List row.Moof) → take (end_before (runs.rows_of tb n) ms) (runs.rows_of tb n) ≡ runs.rows_of tb (last_row n ms)
  last-rows [] =
      let e : min (length (runs.rows_of tb n)) (min n (runs.holds tb)) ≡ min n (runs.holds tb) = omega (arith, length-list (runs.row_at tb) (min n (runs.holds tb)) 0) in
      take-from (runs.row_at tb) (length (runs.rows_of tb n)) (min n (runs.holds tb)) 0 ∙ ap (listed (runs.row_at tb)) e
  last-rows (m ∷ ms) =
      let e : min m.runs (min n (runs.holds tb)) ≡ min (min m.runs n) (runs.holds tb) = omega arith in
      take-from (runs.row_at tb) m.runs (min n (runs.holds tb)) 0 ∙ ap (listed (runs.row_at tb)) e

module _ (f tb : List ℕ) (rows : ℕ) (ts : List ℕ) (mb : List ℕ) (n i : ℕ) (s : Bool) (d : ℕ) (bs : List Before) (a all : Followed)
    (inv : (after_moofs f (runs.rows_of tb rows) ts (due_by s d) (drop i (moofs.rows_of mb n)) (walks bs a)).told ≡ all) where
  no-moofs : drop i (moofs.rows_of mb n) ≡ [] → a ≡ all
  no-moofs e = sym (ap (λ l. (after_moofs f (runs.rows_of tb rows) ts (due_by s d) l (walks bs a)).told) e) ∙ inv

  pub moofs-done : n ≤ i → a ≡ all
  moofs-done h = no-moofs (past-moofs mb n i 0 h)

  module _ (q : Option Moof) (e : q ≡ moofs.row_of mb i) where
    pub moof-missing : q ≡ None → a ≡ all
    moof-missing h = no-moofs (no-moof mb n i 0 q e h)

    pub moof-next : i < n → (m : row.Moof) → q ≡ Some m → (to : ℕ) → to ≡ last_row rows (drop (i + 1) (moofs.rows_of mb n))
        → (c : Followed) → c ≡ joined a (number_asked (due_by s d) m) → (w : Walks) → w ≡ after_tracks f m.start (drop m.runs (runs.rows_of tb to)) 0 ts (walks bs c)
        → (u : ℕ) → u ≡ next_number m.number
        → (after_moofs f (runs.rows_of tb rows) ts (due_by true u) (drop (i + 1) (moofs.rows_of mb n)) (walks w.befores w.told)).told ≡ all
    moof-next h m k to et c ec w ew u eu =
        let ms = drop (i + 1) (moofs.rows_of mb n) in
        let z : w ≡ after_moof f (runs.rows_of tb rows) ts (due_by s d) m ms (walks bs a) =
        ew ∙ ap₂ (λ (l : List Run) (x : Followed). after_tracks f m.start (drop m.runs l) 0 ts (walks bs x)) (ap (runs.rows_of tb) et ∙ sym (last-rows tb rows ms)) ec in
        ap₂ (λ (x : Walks) (y : ℕ). (after_moofs f (runs.rows_of tb rows) ts (due y) ms x).told) z eu
        ∙ sym (ap (λ l. (after_moofs f (runs.rows_of tb rows) ts (due_by s d) l (walks bs a)).told) (this-moof mb n i 0 q e h m k)) ∙ inv
