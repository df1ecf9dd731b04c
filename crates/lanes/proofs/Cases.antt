-- One law for each return of the cursors, over plain variables. Assumes nothing.
use Rattle.std.specs.Prelude.{Option, Some, None}
use Prim.Native.Nat.{ℕ, zero, suc, ◌+◌, ◌-◌, ◌*◌, ◌≤◌, ◌<◌}
use mathlib.Core.Path.{◌≡◌, refl, sym, ap, ap₂, ◌∙◌}
use mathlib.Core.List.{List, [], ◌∷◌, ◌++◌}
use mathlib.Core.Bool.{Bool, true, false}
use native.Mathlib.Omega.{arith}
use lib.ListN.{take, drop, replicate}
use lib.Dec.{eqb}
use borrow.Author.Tests.{ne_eqb}
use Rattle.numbers.specs.Field.{when, or_zero}
use Rattle.tables.specs.Tables.{values_of, pairs, offset_at, chunks, those, number_at, numbers}
use Rattle.tables.specs.Samples.{starts, place, first_or, rest, flag_of, past_of}
use Rattle.tables.specs.Rows.{row_at, rows_of}
use Rattle.tables.specs.declared.Table.{Table}
use Rattle.tables.specs.declared.Chunks.{Chunks}
use Rattle.tables.specs.declared.Rows.{Rows}
use Rattle.tables.specs.declared.Row.{Row}
use Rattle.tables.proofs.Lists.{list-cons, list-nil, rows-pairs}
use Rattle.lanes.specs.Lane.{runs_at, runs_left, places_at, places_left, shifts_left, marked, marks_left, syncs_left}
use Rattle.lanes.specs.Steps.{rows_at, Ready, after_of, PlaceReady, shift_by, shift_of, MarkReady, sync_of, unmarked}
use Rattle.lanes.specs.declared.Runs.{Runs}
use Rattle.lanes.specs.declared.Place.{Place}
use Rattle.lanes.specs.declared.Shift.{Shift}
use Rattle.lanes.specs.declared.Marks.{Marks}

-- RUNS

-- one of several of a value
several : (left v : ℕ) (l : List ℕ) → (left ≡ 0 → ⊥) → v ∷ (replicate (left - 1) v ++ l) ≡ replicate left v ++ l
several zero v l h = absurd (h refl)
several (suc k) v l h = let e : suc k - 1 ≡ k = omega arith in rw e

-- a cursor with a value left has that value first
pub run-one : (rs : List Row) (c : Runs) → (c.left ≡ 0 → ⊥) → c.value ∷ runs_left rs (after_of c) ≡ runs_left rs c
unfolding runs_at
run-one rs c h = several c.left c.value (values_of (drop c.next rs)) h

pub run-used : (rs : List Row) (c : Runs) → c.left ≡ 0 → values_of (drop c.next rs) ≡ runs_left rs c
unfolding runs_at
run-used rs c h = sym (ap (λ (n : ℕ). replicate n c.value ++ values_of (drop c.next rs)) h)

module _ (f : List ℕ) (t : Rows) (i : ℕ) where
  abbrev rows : List Row
  rows = rows_of f t

  pub fill_end : t.count ≤ i → [] ≡ values_of (drop i rows)
  fill_end h = sym (ap values_of (list-nil (row_at f t) t.count i h))

  module _ (e : Row) (h : i < t.count) (q : e ≡ row_at f t i) where
    pub fill-row : replicate e.count e.value ++ values_of (drop (i + 1) rows) ≡ values_of (drop i rows)
    fill-row = ap (λ (r : Row). values_of (r ∷ drop (i + 1) rows)) q ∙ sym (ap values_of (list-cons (row_at f t) t.count i h))

    pub fill_none : e.count ≡ 0 → values_of (drop (i + 1) rows) ≡ values_of (drop i rows)
    fill_none z = sym (ap (λ (n : ℕ). replicate n e.value ++ values_of (drop (i + 1) rows)) z) ∙ fill-row

    pub fill_one : runs_left rows (record { next = i + 1; left = e.count; value = e.value }) ≡ values_of (drop i rows)
    unfolding runs_at
    fill_one = fill-row

-- PLACES

places-none : (ns ss : List ℕ) → place ns [] ss ≡ []
places-none [] ss = refl
places-none (n ∷ ns) ss = refl

chunk-one : (left at : ℕ) (ns cs : List ℕ) (z : ℕ) (ss : List ℕ) → (left ≡ 0 → ⊥)
    → at ∷ (starts (at + z) (take (left - 1) ss) ++ place ns cs (drop (left - 1) ss)) ≡ starts at (take left (z ∷ ss)) ++ place ns cs (drop left (z ∷ ss))
chunk-one zero at ns cs z ss h = absurd (h refl)
chunk-one (suc k) at ns cs z ss h = let e : suc k - 1 ≡ k = omega arith in rw e

abbrev from : ℕ → ℕ → List ℕ → List ℕ → List ℕ → List ℕ
from n at ns cs ss = starts at (take n ss) ++ place ns cs (drop n ss)

-- a cursor with a sample left has its place first
pub place-one : (rs : List Row) (cs : List ℕ) (p : Place) → (p.left ≡ 0 → ⊥) → (z : ℕ) (ss : List ℕ)
    → p.at ∷ places_at rs cs (p.left - 1) (p.at + z) p.chunk p.groups ss ≡ places_left rs cs p (z ∷ ss)
unfolding places_at
place-one rs cs p h z ss = chunk-one p.left p.at (runs_left rs p.groups) (drop p.chunk cs) z ss h

module _ (f : List ℕ) (rs : List Row) (t : Chunks) (left at k : ℕ) (c : Runs) where
  abbrev stopped : Runs → Place
  stopped r = record { left = 0; at = at; chunk = k; groups = r }

  -- the cursor stands as it did, and none is left
  abbrev Stops : Runs → Type 0
  Stops r = ((ss : List ℕ) → places_left rs (chunks f t) (stopped r) ss ≡ places_at rs (chunks f t) left at k c ss) × PlaceReady rs (chunks f t) (stopped r)

  pub place-past : left ≡ 0 → t.count ≤ k → Stops c
  unfolding places_at
  place-past e h = (
    λ ss. sym (ap (λ (n : ℕ). from n at (runs_left rs c) (drop k (chunks f t)) ss) e),
    λ z ss. sym (ap (λ (cs : List ℕ). place (runs_left rs c) cs ss) (list-nil (offset_at f t) t.count k h) ∙ places-none (runs_left rs c) ss),
  )

  module _ (r : Runs) (q : runs_left rs r ≡ runs_left rs c) where
    pub place_end : left ≡ 0 → Ready rs r → r.left ≡ 0 → Stops r
    unfolding places_at
    place_end e h z = (
      λ ss. ap₂ (λ (n : ℕ) (ns : List ℕ). from n at ns (drop k (chunks f t)) ss) (sym e) q,
      λ y ss. ap (λ (ns : List ℕ). place ns (drop k (chunks f t)) ss) (h z),
    )

    pub place-next : (o : ℕ) (d : Runs) → left ≡ 0 → k < t.count → (r.left ≡ 0 → ⊥) → o ≡ offset_at f t k → d ≡ after_of r
        → (ss : List ℕ) → places_at rs (chunks f t) r.value o (k + 1) d ss ≡ places_at rs (chunks f t) left at k c ss
    unfolding places_at
    place-next o d e h m w y ss =
        ap₂ (λ (x : ℕ) (a : Runs). place (r.value ∷ runs_left rs a) (x ∷ drop (k + 1) (chunks f t)) ss) w y
        ∙ ap₂ (λ (ns cs : List ℕ). place ns cs ss) (run-one rs r m ∙ q) (sym (list-cons (offset_at f t) t.count k h))
        ∙ sym (ap (λ (n : ℕ). from n at (runs_left rs c) (drop k (chunks f t)) ss) e)

-- COMPOSITION OFFSETS

module _ (rs : List Row) where
  shift-by : (n : ℕ) (c : Runs) (l : List ℕ) → c.left ≡ n → Ready rs c → runs_left rs c ≡ l
      → ((shift_of c).value ≡ first_or 0 l) × (runs_left rs (shift_of c).rest ≡ rest l)
  shift-by zero c l e h q =
      let z : [] ≡ l = h e ∙ q in
      let k : shift_of c ≡ record { value = 0; rest = c } = ap (λ (j : ℕ). shift_by j c) e in
      (ap (λ (x : Shift). x.value) k ∙ ap (first_or 0) z, ap (λ (x : Shift). runs_left rs x.rest) k ∙ sym (h e) ∙ ap rest z)
  shift-by (suc n) c l e h q =
      let d : c.left ≡ 0 → ⊥ = λ v. omega (arith, v, e) in
      let w : c.value ∷ runs_left rs (after_of c) ≡ l = run-one rs c d ∙ q in
      let k : shift_of c ≡ record { value = c.value; rest = after_of c } = ap (λ (j : ℕ). shift_by j c) e in
      (ap (λ (x : Shift). x.value) k ∙ ap (first_or 0) w, ap (λ (x : Shift). runs_left rs x.rest) k ∙ ap rest w)

  pub shift-told : (c : Runs) (l : List ℕ) → Ready rs c → runs_left rs c ≡ l → ((shift_of c).value ≡ first_or 0 l) × (runs_left rs (shift_of c).rest ≡ rest l)
  shift-told c l h q = shift-by c.left c l refl h q

pub shift_none : (c : Runs) → c.left ≡ 0 → record { value = 0; rest = c } ≡ shift_of c
shift_none c e = sym (ap (λ (j : ℕ). shift_by j c) e)

shift-any : (n : ℕ) (c : Runs) → c.left ≡ n → (n ≡ 0 → ⊥) → record { value = c.value; rest = after_of c } ≡ shift_of c
shift-any zero c e h = absurd (h refl)
shift-any (suc n) c e h = sym (ap (λ (j : ℕ). shift_by j c) e)

pub shift-some : (c r : Runs) → (c.left ≡ 0 → ⊥) → r ≡ after_of c → record { value = c.value; rest = r } ≡ shift_of c
shift-some c r h e = ap (λ (x : Runs). record { value = c.value; rest = x }) e ∙ shift-any c.left c refl h

module _ (f : List ℕ) (o : Option Table) (t : Table) (eo : o ≡ Some t) (c s : Runs) (r : Shift) (er : r ≡ shift_of s) where
  abbrev shifts : List ℕ
  shifts = shifts_left f o c

  is-pairs : shifts ≡ runs_left (pairs f t) c
  is-pairs = ap (λ (x : Option Table). shifts_left f x c) eo

  pub shift_from : Ready (pairs f t) s → runs_left (pairs f t) s ≡ runs_left (pairs f t) c → (r.value ≡ first_or 0 shifts) × (shifts_left f o r.rest ≡ rest shifts)
  shift_from h q =
      let w = shift-told (pairs f t) s shifts h (q ∙ sym is-pairs) in
      (ap (λ (x : Shift). x.value) er ∙ w.0, ap (λ (x : Option Table). shifts_left f x r.rest) eo ∙ ap (λ (x : Shift). runs_left (pairs f t) x.rest) er ∙ w.1)

  abbrev filled : List Row
  filled = rows_of f (rows_at t.at t.count false 0)

  pub shift-filled : c.left ≡ 0 → runs_left filled s ≡ values_of (drop c.next filled) → Ready filled s → (r.value ≡ first_or 0 shifts) × (shifts_left f o r.rest ≡ rest shifts)
  shift-filled e q h =
      let w : filled ≡ pairs f t = rows-pairs f t in
      shift_from (λ z. h z ∙ ap (λ (rs : List Row). runs_left rs s) w)
      (sym (ap (λ (rs : List Row). runs_left rs s) w) ∙ q ∙ ap (λ (rs : List Row). values_of (drop c.next rs)) w ∙ run-used (pairs f t) c e)

-- SYNC NUMBERS

marked-some : (n : ℕ) (ns : List ℕ) → (n ≡ 0 → ⊥) → marked n ns ≡ n ∷ ns
marked-some zero ns h = absurd (h refl)
marked-some (suc n) ns h = refl

module _ (f : List ℕ) (o : Option Table) (m : Marks) where
  pub mark-there : (m.number ≡ 0 → ⊥) → MarkReady f o m
  mark-there h = by o
    where
      by : (x : Option Table) → MarkReady f x m
      by None = tt
      by (Some t) = λ e. absurd (h e)

  pub mark-all : o ≡ None → MarkReady f o m
  mark-all e = rw e tt

  module _ (t : Table) (eo : o ≡ Some t) (e : m.number ≡ 0) where
    unread : marks_left (numbers f t) m ≡ drop m.next (numbers f t)
    unfolding marks_left
    unread = ap (λ (k : ℕ). marked k (drop m.next (numbers f t))) e

    -- no sample's number comes first
    none_first : (l : List ℕ) → marks_left (numbers f t) m ≡ l → ((n : ℕ) → 0 < n → flag_of (those l) n ≡ false) → MarkReady f o m
    unfolding syncs_left
    none_first l q h = rw eo (λ z n k. ap (λ (x : List ℕ). flag_of (those x) n) q ∙ h n k)

    pub mark-past : t.count ≤ m.next → MarkReady f o m
    mark-past h = none_first [] (unread ∙ list-nil (number_at f t.at) t.count m.next h) (λ n k. refl)

    module _ (h : m.next < t.count) (x : ℕ) (w : x ≡ or_zero 4 f (t.at + m.next * 4)) where
      cons : marks_left (numbers f t) m ≡ x ∷ drop (m.next + 1) (numbers f t)
      unfolding number_at
      cons = unread ∙ list-cons (number_at f t.at) t.count m.next h ∙ ap (λ (a : ℕ). a ∷ drop (m.next + 1) (numbers f t)) (sym w)

      pub mark-zero : x ≡ 0 → MarkReady f o m
      mark-zero q = none_first (x ∷ drop (m.next + 1) (numbers f t)) cons (λ n k. ne_eqb x n (λ v. omega (arith, v, q, k)))

      pub mark-read : (x ≡ 0 → ⊥) → syncs_left f o (record { next = m.next + 1; number = x }) ≡ syncs_left f o m
      unfolding syncs_left marks_left
      mark-read q = rw eo (ap those (marked-some x (drop (m.next + 1) (numbers f t)) q ∙ sym cons))

-- what a cursor that is ready says of the sample of the next number
module _ (f : List ℕ) (m : Marks) (n : ℕ) (k : 0 < n) where
  stays : (l : List ℕ) → flag_of (those l) n ≡ false → past_of (those l) n ≡ those l
  unfolding when
  stays [] h = refl
  stays (x ∷ l) h = ap (λ (a : Bool). those (when a l (x ∷ l))) h

  abbrev Tells : Option Table → Type 0
  Tells o = (sync_of o m n ≡ flag_of (syncs_left f o m) n) × (syncs_left f o (unmarked m n) ≡ past_of (syncs_left f o m) n)

  by_number : (t : Table) (j : ℕ) (b : Bool) → m.number ≡ j → eqb j n ≡ b → MarkReady f (Some t) m → Tells (Some t)
  unfolding syncs_left marks_left when
  by_number t zero b e q h =
      let d : eqb m.number n ≡ false = ne_eqb m.number n (λ v. omega (arith, v, e, k)) in
      let g : flag_of (syncs_left f (Some t) m) n ≡ false = h e n k in
      (d ∙ sym g, ap (λ (a : Bool). syncs_left f (Some t) (record { next = m.next; number = when a 0 m.number })) d ∙ sym (stays (marks_left (numbers f t) m) g))
  by_number t (suc j) b e q h = rw (e, q) (refl, by-test b)
    where
      by-test : (a : Bool) → those (marked (when a 0 (suc j)) (drop m.next (numbers f t))) ≡ those (when a (drop m.next (numbers f t)) (suc j ∷ drop m.next (numbers f t)))
      by-test true = refl
      by-test false = refl

  pub mark-tells : (o : Option Table) → MarkReady f o m → Tells o
  unfolding syncs_left
  mark-tells None h = (refl, refl)
  mark-tells (Some t) h = by_number t m.number (eqb m.number n) refl refl h
