-- One law for each return, over plain variables. Assumes nothing.
use Rattle.std.specs.Prelude.{Result, Option, Ok, Err, Some, None}
use Prim.Native.Nat.{ℕ, zero, suc, ◌+◌, ◌-◌, ◌*◌, ◌^◌, ◌≤◌, ◌<◌, min}
use mathlib.Core.Path.{◌≡◌, refl, sym, ap, ◌∙◌}
use mathlib.Core.List.{List, [], ◌∷◌}
use mathlib.Core.Bool.{Bool, true, false}
use native.Mathlib.Omega.{arith}
use lib.ListN.{length, drop, length-drop, drop_of_length-le}
use lib.Seq.{drop-nil}
use lib.IntN.{ℤ}
use lib.Dec.{eqb, ltb}
use borrow.Author.Tests.{eq-eqb, ne_eqb, lt-ltb, le-ltb}
use Rattle.numbers.specs.Field.{when, or_zero}
use Rattle.numbers.specs.declared.Refusal.TheVariants as refusal
use Rattle.numbers.specs.declared.Refusal.{Refusal}
use Rattle.signed.specs.Signed.{signed}
use Rattle.samples.proofs.Fits as fits
use Rattle.samples.specs.Lists.{held, located, first_of, lookup_of, bytes_of}
use Rattle.samples.specs.declared.Sample.{Sample}
use Rattle.tables.specs.Tables.{sum, values_of, pairs, offset_at, size_at, syncs, number_at, numbers}
use Rattle.tables.specs.Samples.{first_or, risen, sync_at, samples_of}
use Rattle.tables.specs.Rows.{pair_rows, group_rows, rows_of}
use Rattle.tables.specs.declared.Table.{Table}
use Rattle.tables.specs.declared.Rows.{Rows}
use Rattle.tables.specs.declared.Track.{Track}
use Rattle.tables.proofs.Lists.{list-cons, list-nil}
use Rattle.seek.specs.Seek.{value_of, per_chunk, spot_of, span_of}
use Rattle.seek.specs.declared.Value.{Value}
use Rattle.seek.specs.declared.Value.TheVariants as value
use Rattle.seek.specs.declared.Spot.{Spot}
use Rattle.seek.specs.declared.Spot.TheVariants as spot
use Rattle.lookup.specs.Lookup.{flagged, sync_of, shift_at, sample_at}
use Rattle.lookup.proofs.Entries.{pair-told, pair-few, in_chunks, by-groups, group-few, group-many, lasts, count-is, bytes-are, sample-there, few-before, place-there, flag-there}
use Rattle.samples.specs.declared.Located.{Located}

-- HOW MANY

has_more : (l : List ℕ) (k v : ℕ) (m : List ℕ) → drop k l ≡ v ∷ m → k < length l
has_more l k v m e = omega (arith, length-drop k l, ap length e)

has-few : (l : List ℕ) (k : ℕ) → drop k l ≡ [] → length l ≤ k
has-few l k e = omega (arith, length-drop k l, ap length e)

module _ (f : List ℕ) (t : Table) (b : ℕ) (h : b ≡ 0 → ⊥) (w : Rows) (ew : w ≡ pair_rows t) (r : Value) (er : r ≡ value_of (values_of (rows_of f w)) (b - 1)) where
  pub timed-all : (v s : ℕ) → r ≡ value.At v s → b ≡ min b (length (values_of (pairs f t)))
  timed-all v s e =
      let q = pair-told f t w ew (b - 1) r er v s e in
      omega (arith, has_more (values_of (pairs f t)) (b - 1) v q.tail q.is)

  pub timed-few : (q : ℕ) → r ≡ value.Few q → q ≡ min b (length (values_of (pairs f t)))
  timed-few q e =
      let p = pair-few f t w ew (b - 1) r er q e in
      omega (arith, p.1, has-few (values_of (pairs f t)) (b - 1) p.0)

module _ (f : List ℕ) (t : Table) (c b : ℕ) (h : b ≡ 0 → ⊥) (w : Rows) (ew : w ≡ group_rows t c) (r : Spot) (er : r ≡ spot_of (per_chunk f w) (b - 1)) where
  pub placed-all : (i o : ℕ) → r ≡ spot.At i o → b ≡ min b (sum (in_chunks f t c))
  placed-all i o e = omega (arith, group-many f t c w ew (b - 1) r er i o e)

  pub placed-few : (q : ℕ) → r ≡ spot.Few q → q ≡ min b (sum (in_chunks f t c))
  placed-few q e = let p = group-few f t c w ew (b - 1) r er q e in omega (arith, p.0, p.1)

pub counted : (f : List ℕ) (t : Track) (a b : ℕ) → a ≡ min t.stsz.count (length (lasts f t)) → b ≡ min a (sum (in_chunks f t.stsc t.stco.count))
    → b ≡ length (samples_of f t)
counted f t a b e q = omega (arith, count-is f t)

pub summed : (f : List ℕ) (t : Track) (n b : ℕ) → n ≡ length (samples_of f t) → b ≡ span_of f t.stsz 0 n → b ≡ bytes_of (samples_of f t)
summed f t n b e q = q ∙ sym (bytes-are f t n e)

-- COMPOSITION OFFSETS

module _ (f : List ℕ) (o : Option Table) (k : ℕ) where
  pub shift-absent : o ≡ None → 0 ≡ shift_at f o k
  shift-absent e = sym (ap (λ (x : Option Table). shift_at f x k) e ∙ ap (first_or 0) (drop-nil k))

  module _ (t : Table) (eo : o ≡ Some t) (w : Rows) (ew : w ≡ pair_rows t) (r : Value) (er : r ≡ value_of (values_of (rows_of f w)) k) where
    pub shift_is : (v s : ℕ) → r ≡ value.At v s → v ≡ shift_at f o k
    shift_is v s e = sym (ap (λ (x : Option Table). shift_at f x k) eo ∙ ap (first_or 0) (pair-told f t w ew k r er v s e).is)

    pub shift_short : (q : ℕ) → r ≡ value.Few q → 0 ≡ shift_at f o k
    shift_short q e = sym (ap (λ (x : Option Table). shift_at f x k) eo ∙ ap (first_or 0) (pair-few f t w ew k r er q e).0)

-- SYNC NUMBERS

module _ (f : List ℕ) (o : Option Table) (n : ℕ) where
  pub flag-all : o ≡ None → true ≡ sync_at (syncs f o) n
  flag-all e = sym (ap (λ (x : Option Table). sync_at (syncs f x) n) e)

  module _ (t : Table) (eo : o ≡ Some t) (last i : ℕ) (g : risen last (drop i (numbers f t)) n ≡ risen 0 (numbers f t) n) where
    whole : risen last (drop i (numbers f t)) n ≡ sync_at (syncs f o) n
    whole = g ∙ sym (ap (λ (x : Option Table). sync_at (syncs f x) n) eo)

    pub flag-end : t.count ≤ i → false ≡ sync_at (syncs f o) n
    flag-end h = sym (ap (λ (l : List ℕ). risen last l n) (list-nil (number_at f t.at) t.count i h)) ∙ whole

    module _ (x : ℕ) (h : i < t.count) (ex : x ≡ or_zero 4 f (t.at + i * 4)) where
      abbrev past : List ℕ
      past = drop (i + 1) (numbers f t)

      cons : drop i (numbers f t) ≡ x ∷ past
      unfolding number_at
      cons = list-cons (number_at f t.at) t.count i h ∙ ap (λ (a : ℕ). a ∷ past) (sym ex)

      here : risen last (drop i (numbers f t)) n ≡ when (ltb last x) (when (eqb x n) true (risen x past n)) false
      here = ap (λ (l : List ℕ). risen last l n) cons

      pub flag-low : x ≤ last → false ≡ sync_at (syncs f o) n
      unfolding when
      flag-low q = sym (here ∙ ap (λ (b : Bool). when b (when (eqb x n) true (risen x past n)) false) (le-ltb last x q)) ∙ whole

      module _ (q : last < x) where
        rises : risen last (drop i (numbers f t)) n ≡ when (eqb x n) true (risen x past n)
        unfolding when
        rises = here ∙ ap (λ (b : Bool). when b (when (eqb x n) true (risen x past n)) false) (lt-ltb last x q)

        pub flag-hit : x ≡ n → true ≡ sync_at (syncs f o) n
        unfolding when
        flag-hit e = sym (rises ∙ ap (λ (b : Bool). when b true (risen x past n)) (eq-eqb x n e)) ∙ whole

        pub flag-on : (x ≡ n → ⊥) → risen x (drop (i + 1) (numbers f t)) n ≡ risen 0 (numbers f t) n
        unfolding when
        flag-on e = sym (rises ∙ ap (λ (b : Bool). when b true (risen x past n)) (ne_eqb x n e)) ∙ g

-- ONE SAMPLE

module _ (n : ℕ) (s : Sample) where
  over_by : held s ≡ false → Err refusal.Overflow ≡ first_of n (s ∷ [])
  unfolding when
  over_by h = sym (ap (λ (b : Bool). when b (Ok (located s)) (Err refusal.Overflow)) h)

  pub over-end : 2 ^ 64 ≤ s.offset + s.size → Err refusal.Overflow ≡ first_of n (s ∷ [])
  over-end h = over_by (fits.no_end s h)

  pub over-time : 2 ^ 63 ≤ s.time → Err refusal.Overflow ≡ first_of n (s ∷ [])
  over-time h = over_by (fits.no-time s h)

  is_held : held s ≡ true → Ok (located s) ≡ first_of n (s ∷ [])
  unfolding when
  is_held h = sym (ap (λ (b : Bool). when b (Ok (located s)) (Err refusal.Overflow)) h)

pub told_is : (f : List ℕ) (t : Track) (k n at z m d v : ℕ) (co : ℤ) → n < 2 ^ 32 → at + z < 2 ^ 64 → m < 2 ^ 63
    → v ≡ shift_at f t.ctts k → co ≡ signed 4 v
    → Ok (record { offset = at; size = z; time = m; duration = d; composition = co }) ≡ first_of n (sample_at f t k n at z m d ∷ [])
told_is f t k n at z m d v co b h g ev ec =
    ap (λ (x : ℤ). Ok (record { offset = at; size = z; time = m; duration = d; composition = x })) (ec ∙ ap (signed 4) ev)
    ∙ is_held n (sample_at f t k n at z m d) (fits.held-is (sample_at f t k n at z m d) b h g)

module _ (l : List Sample) where
  lookup-nth : (n : ℕ) → (n ≡ 0 → ⊥) → lookup_of l n ≡ first_of n (drop (n - 1) l)
  unfolding lookup_of
  lookup-nth zero h = absurd (h refl)
  lookup-nth (suc n) h = let e : n ≡ suc n - 1 = omega arith in ap (λ (k : ℕ). first_of (suc n) (drop k l)) e

  sync-nth : (n : ℕ) → (n ≡ 0 → ⊥) → sync_of l n ≡ flagged n (drop (n - 1) l)
  unfolding sync_of
  sync-nth zero h = absurd (h refl)
  sync-nth (suc n) h = let e : n ≡ suc n - 1 = omega arith in ap (λ (k : ℕ). flagged (suc n) (drop k l)) e

  module _ (n : ℕ) where
    pub zero-absent : n ≡ 0 → Err (refusal.NoSample n) ≡ lookup_of l n
    unfolding lookup_of
    zero-absent h = ap (λ (k : ℕ). Err (refusal.NoSample k)) h ∙ sym (ap (lookup_of l) h)

    pub zero-unsync : n ≡ 0 → Err (refusal.NoSample n) ≡ sync_of l n
    unfolding sync_of
    zero-unsync h = ap (λ (k : ℕ). Err (refusal.NoSample k)) h ∙ sym (ap (sync_of l) h)

    module _ (h : n ≡ 0 → ⊥) (g : length l ≤ n - 1) where
      pub past-absent : Err (refusal.NoSample n) ≡ lookup_of l n
      past-absent = sym (lookup-nth n h ∙ ap (first_of n) (drop_of_length-le l g))

      pub past-unsync : Err (refusal.NoSample n) ≡ sync_of l n
      past-unsync = sym (sync-nth n h ∙ ap (flagged n) (drop_of_length-le l g))

module _ (f : List ℕ) (t : Track) (n : ℕ) (h : n ≡ 0 → ⊥) where
  pub flag-of : (b : Bool) → n ≤ length (samples_of f t) → b ≡ sync_at (syncs f t.stss) n → Ok b ≡ sync_of (samples_of f t) n
  flag-of b g e =
      let r = flag-there f t (n - 1) (omega arith) in
      let a : n - 1 + 1 ≡ n = omega arith in
      sym (sync-nth (samples_of f t) n h ∙ ap (flagged n) r.is ∙ ap Ok (r.flag ∙ ap (λ (k : ℕ). sync_at (syncs f t.stss) k) a ∙ sym e))

  pub no_size : t.stsz.count ≤ n - 1 → length (samples_of f t) ≤ n - 1
  no_size g = omega (arith, count-is f t)

  module _ (w : Rows) (ew : w ≡ pair_rows t.stts) (r : Value) (er : r ≡ value_of (values_of (rows_of f w)) (n - 1)) where
    pub no-time : (q : ℕ) → r ≡ value.Few q → length (samples_of f t) ≤ n - 1
    no-time q e =
        let p = pair-few f t.stts w ew (n - 1) r er q e in
        omega (arith, count-is f t, has-few (lasts f t) (n - 1) p.0)

    module _ (d m : ℕ) (e : r ≡ value.At d m) (v : Rows) (ev : v ≡ group_rows t.stsc t.stco.count) (p : Spot) (ep : p ≡ spot_of (per_chunk f v) (n - 1)) where
      pub no_place : (q : ℕ) → p ≡ spot.Few q → length (samples_of f t) ≤ n - 1
      no_place q x = omega (arith, count-is f t, (group-few f t.stsc t.stco.count v ev (n - 1) p ep q x).0)

      module _ (g : n - 1 < t.stsz.count) (i o : ℕ) (x : p ≡ spot.At i o) where
        abbrev in-chunk : p ≡ spot_of (in_chunks f t.stsc t.stco.count) (n - 1)
        in-chunk = by-groups f t.stsc t.stco.count v ev (n - 1) p ep

        pub some-before : o ≤ n - 1
        some-before = few-before f t (n - 1) i o 0 0 g p in-chunk x

        pub looked-up : (z at gone : ℕ) (a : Result Located Refusal) → z ≡ size_at f t.stsz (n - 1) → at ≡ offset_at f t.stco i → gone ≡ span_of f t.stsz (n - 1 - o) (n - 1)
            → a ≡ first_of n (sample_at f t (n - 1) n (at + gone) z m d ∷ []) → a ≡ lookup_of (samples_of f t) n
        looked-up z at gone a ez ea eg y =
            let q = pair-told f t.stts w ew (n - 1) r er d m e in
            let l = place-there f t (n - 1) i o at gone g p in-chunk x ea eg in
            let s = sample-there f t (n - 1) z d m (at + gone) q.tail l.tail g ez q.is q.before-it l.is in
            let c : n ≡ n - 1 + 1 = omega arith in
            y ∙ ap (λ (k : ℕ). first_of n (sample_at f t (n - 1) k (at + gone) z m d ∷ s.tail)) c
            ∙ sym (lookup-nth (samples_of f t) n h ∙ ap (first_of n) s.is)
