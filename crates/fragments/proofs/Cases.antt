-- One law for each return of the lane, over plain variables. Assumes nothing.
use Rattle.std.specs.Prelude.{Option, Some, None}
use Prim.Native.Nat.{ℕ, ◌+◌, ◌≤◌, ◌<◌, min}
use mathlib.Core.Path.{◌≡◌, refl, sym, ap, ap₂, ◌∙◌}
use mathlib.Core.List.{List, [], ◌∷◌, ◌++◌}
use mathlib.Core.Bool.{Bool, true, false}
use native.Mathlib.Omega.{arith}
use native.Mathlib.Nat.{sub-zero}
use lib.ListN.{length, drop}
use lib.Dec.{eqb, ltb}
use borrow.Author.Tests.{ltb-true, ltb-false, eq-eqb, ne_eqb}
use Rattle.numbers.proofs.Chain.{by-true, by-false}
use Rattle.numbers.specs.Field.{when}
use Rattle.samples.specs.Lists.{View, none, over, one, view}
use Rattle.samples.proofs.Fits.{view-held, view-not}
use Rattle.samples.proofs.Views.{view-none, view-over, view-one}
use Rattle.samples.specs.declared.Sample.{Sample}
use Rattle.tables.proofs.Lists.{list-cons, list-nil}
use Rattle.runs.specs.Samples.{run_samples}
use Rattle.runs.specs.declared.Run.{Run}
use Rattle.runs.proofs.Left.{left-begun, how-many-left, how-many}
use Rattle.runtable.specs.Table.{row_at, row_of, rows_of, holds}
use Rattle.fragments.specs.Samples.{count_of, mine, samples_after}
use Rattle.fragments.specs.Lane.{left, shows}
use Rattle.fragments.specs.declared.Lane.{Lane}
use Rattle.runs.specs.Lane as run
use Rattle.runs.specs.declared.Lane as inside
use Rattle.runs.specs.declared.Taken as step
use Rattle.runs.specs.declared.Taken.TheVariants as step_is
use Rattle.fragments.specs.declared.Taken.TheVariants as taken

-- what a list shows, another list shows that has more behind it

pub still_one : (s : Sample) (k l m : List Sample) → one s k ≡ view l → one s (k ++ m) ≡ view (l ++ m)
still_one s k l m e =
    let v = view-one s k l e in
    sym (view-held s (k ++ m) v.1) ∙ sym (ap (λ (x : List Sample). view (x ++ m)) v.0)

pub still-over : (l m : List Sample) → over ≡ view l → over ≡ view (l ++ m)
still-over l m e =
    let v = view-over l e in
    sym (view-not v.head (v.tail ++ m) v.not-held) ∙ sym (ap (λ (x : List Sample). view (x ++ m)) v.is)

-- ONE RUN

module _ (f : List ℕ) (t n : ℕ) (r : Run) where
  pub length-mine : length (mine f t r n) ≡ count_of t r
  unfolding mine count_of when
  length-mine = cases (eqb r.track t)
    where
      cases : (b : Bool) → length (when b (run_samples f r n) []) ≡ when b r.trun.sample_count 0
      cases true = how-many f r n
      cases false = refl

  none-counts : mine f t r n ≡ [] → count_of t r ≡ 0
  none-counts e = sym length-mine ∙ ap (λ (l : List Sample). length l) e

  module _ (rs : List Run) where
    pub run-passed : none ≡ view (mine f t r n) → samples_after f t n rs ≡ samples_after f t n (r ∷ rs)
    run-passed e =
        let z = view-none (mine f t r n) e in
        let q : n + count_of t r ≡ n = omega (arith, none-counts z) in
        sym (ap₂ (λ (l : List Sample) (k : ℕ). l ++ samples_after f t k rs) z q)

    pub run-over : over ≡ view (mine f t r n) → over ≡ view (samples_after f t n (r ∷ rs))
    run-over e = still-over (mine f t r n) (samples_after f t (n + count_of t r) rs) e

    pub run-one : (s : Sample) (k : inside.Lane) → one s (run.left f r k) ≡ view (mine f t r n) → run.up_to r k ≡ n + count_of t r
        → one s (run.left f r k ++ samples_after f t (run.up_to r k) rs) ≡ view (samples_after f t n (r ∷ rs))
    run-one s k e q =
        ap (λ (m : ℕ). one s (run.left f r k ++ samples_after f t m rs)) q
        ∙ still_one s (run.left f r k) (mine f t r n) (samples_after f t (n + count_of t r) rs) e

-- ROWS

module _ (tb : List ℕ) (i : ℕ) (q : Option Run) (e : q ≡ row_of tb i) where
  pub row_is : (r : Run) → q ≡ Some r → (i < holds tb) × (r ≡ row_at tb i)
  unfolding when
  row_is r h = cases (ltb i (holds tb)) refl e
    where
      cases : (b : Bool) → ltb i (holds tb) ≡ b → q ≡ when b (Some (row_at tb i)) None → (i < holds tb) × (r ≡ row_at tb i)
      cases true g d = (ltb-true i (holds tb) g, cc)
      cases false g d = let z : ◌≡◌ {A = ℕ} 0 1 = cc in absurd (omega arith)

  pub row-not : q ≡ None → holds tb ≤ i
  unfolding when
  row-not h = cases (ltb i (holds tb)) refl e
    where
      cases : (b : Bool) → ltb i (holds tb) ≡ b → q ≡ when b (Some (row_at tb i)) None → holds tb ≤ i
      cases true g d = let z : ◌≡◌ {A = ℕ} 0 1 = cc in absurd (omega arith)
      cases false g d = ltb-false i (holds tb) g

-- what is left from row i on, where that is ss
module _ (f tb : List ℕ) (n t k i : ℕ) (ss : List Sample) (inv : samples_after f t k (drop i (rows_of tb n)) ≡ ss) where
  no_rows : drop i (rows_of tb n) ≡ [] → none ≡ view ss
  no_rows e = sym (ap view (sym inv ∙ ap (samples_after f t k) e))

  pub rows-done : n ≤ i → none ≡ view ss
  rows-done h = no_rows (list-nil (row_at tb) (min n (holds tb)) i (omega arith))

  module _ (q : Option Run) (e : q ≡ row_of tb i) where
    pub row-missing : q ≡ None → none ≡ view ss
    row-missing h = no_rows (list-nil (row_at tb) (min n (holds tb)) i (omega (arith, row-not tb i q e h)))

    module _ (h : i < n) (r : Run) (er : q ≡ Some r) (s : step.Taken) (es : run.shows f r s ≡ view (mine f t r k)) (en : run.up_to_by r s (k + count_of t r) ≡ k + count_of t r) where
      this : samples_after f t k (r ∷ drop (i + 1) (rows_of tb n)) ≡ ss
      this =
          let w = row_is tb i q e r er in
          ap (λ (x : Run). samples_after f t k (x ∷ drop (i + 1) (rows_of tb n))) w.1
          ∙ sym (ap (samples_after f t k) (list-cons (row_at tb) (min n (holds tb)) i (omega (arith, w.0)))) ∙ inv

      pub row_one : (x : Sample) (l : inside.Lane) → s ≡ step_is.One x l → shows f (rows_of tb n) t (taken.One x (record { next = i + 1; run = r; inside = l })) ≡ view ss
      unfolding left
      row_one x l d =
          run-one f t k r (drop (i + 1) (rows_of tb n)) x l (sym (ap (run.shows f r) d) ∙ es)
          (sym (ap (λ (y : step.Taken). run.up_to_by r y (k + count_of t r)) d) ∙ en) ∙ ap view this

      pub row-over : s ≡ step_is.Over → over ≡ view ss
      row-over d = run-over f t k r (drop (i + 1) (rows_of tb n)) (sym (ap (run.shows f r) d) ∙ es) ∙ ap view this

      pub row-passed : s ≡ step_is.End → samples_after f t k (drop (i + 1) (rows_of tb n)) ≡ ss
      row-passed d = run-passed f t k r (drop (i + 1) (rows_of tb n)) (sym (ap (run.shows f r) d) ∙ es) ∙ this

-- THE LANE

module _ (f : List ℕ) (rs : List Run) (t : ℕ) (l : Lane) (s : step.Taken) (es : run.shows f l.run s ≡ view (run.left f l.run l.inside))
    (en : run.up_to_by l.run s (run.up_to l.run l.inside) ≡ run.up_to l.run l.inside) where
  abbrev further : List Sample
  further = samples_after f t (run.up_to l.run l.inside) (drop l.next rs)

  pub lane-one : (x : Sample) (k : inside.Lane) → s ≡ step_is.One x k → shows f rs t (taken.One x (record { next = l.next; run = l.run; inside = k })) ≡ view (left f rs t l)
  unfolding left
  lane-one x k d =
      ap (λ (m : ℕ). one x (run.left f l.run k ++ samples_after f t m (drop l.next rs)))
      (sym (ap (λ (y : step.Taken). run.up_to_by l.run y (run.up_to l.run l.inside)) d) ∙ en)
      ∙ still_one x (run.left f l.run k) (run.left f l.run l.inside) further (sym (ap (run.shows f l.run) d) ∙ es)

  pub lane_over : s ≡ step_is.Over → over ≡ view (left f rs t l)
  unfolding left
  lane_over d = still-over (run.left f l.run l.inside) further (sym (ap (run.shows f l.run) d) ∙ es)

  pub lane-on : s ≡ step_is.End → (v : View) → v ≡ view (samples_after f t l.inside.number (drop l.next rs)) → v ≡ view (left f rs t l)
  unfolding left
  lane-on d v e =
      let z = view-none (run.left f l.run l.inside) (sym (ap (run.shows f l.run) d) ∙ es) in
      let c : length (run.left f l.run l.inside) ≡ 0 = ap (λ (x : List Sample). length x) z in
      let q : run.up_to l.run l.inside ≡ l.inside.number = omega (arith, c, how-many-left f l.run l.inside) in
      e ∙ sym (ap₂ (λ (x : List Sample) (m : ℕ). view (x ++ samples_after f t m (drop l.next rs))) z q)

-- THE FIRST OF A RUN

module _ (f : List ℕ) (t n : ℕ) (r : Run) where
  pub own-run : r.track ≡ t → (l : inside.Lane) → l ≡ run.begun r n → (s : step.Taken) → run.shows f r s ≡ view (run.left f r l) → run.up_to_by r s (run.up_to r l) ≡ run.up_to r l
      → (run.shows f r s ≡ view (mine f t r n)) × (run.up_to_by r s (n + count_of t r) ≡ n + count_of t r)
  unfolding mine count_of
  own-run h l el s es en =
      let b : eqb r.track t ≡ true = eq-eqb r.track t h in
      let z : run.up_to r l ≡ n + r.trun.sample_count = ap (run.up_to r) el ∙ ap (λ (k : ℕ). n + k) (sub-zero r.trun.sample_count) in
      let q : n + r.trun.sample_count ≡ n + when (eqb r.track t) r.trun.sample_count 0 = ap (λ (k : ℕ). n + k) (by-true _ _ _ _ b refl) in (
        es ∙ ap view (ap (run.left f r) el ∙ left-begun f r n ∙ by-true _ _ _ _ b refl),
        ap (run.up_to_by r s) (sym (z ∙ q)) ∙ en ∙ z ∙ q,
      )

  pub other-run : (r.track ≡ t → ⊥) → (none ≡ view (mine f t r n)) × (n + count_of t r ≡ n + count_of t r)
  unfolding mine
  other-run h = (ap view (by-false (run_samples f r n) [] _ _ (ne_eqb r.track t h) refl), refl)
