-- One law for each return, over plain variables. Assumes nothing.
use Rattle.std.specs.Prelude.{Option, Some}
use Prim.Native.Nat.{ℕ, ◌+◌, ◌*◌, ◌≤◌, ◌<◌}
use mathlib.Core.Path.{◌≡◌, refl, sym, ap, ◌∙◌}
use mathlib.Core.List.{List}
use mathlib.Core.Bool.{Bool, true, false, ◌&&◌}
use native.Mathlib.Omega.{arith}
use lib.ListN.{length, drop, length-drop}
use lib.Dec.{eqb, leb}
use borrow.Author.Tests.{ne_eqb, le-leb, lt-leb}
use Rattle.numbers.specs.Field.{or_zero}
use Rattle.tables.specs.Tables.{sum, total, values_of, pairs, group_at, number_at, syncs}
use Rattle.tables.specs.Rows.{pair_rows, group_rows, rows_of}
use Rattle.tables.specs.declared.Table.{Table}
use Rattle.tables.specs.declared.Rows.{Rows}
use Rattle.tables.specs.declared.Track.{Track}
use Rattle.tables.proofs.Lists.{list-cons, list-nil, list_same}
use Rattle.tables.proofs.Lengths.{length-values}
use Rattle.seek.specs.Seek.{value_of, per_chunk, spot_of}
use Rattle.seek.specs.declared.Value.{Value}
use Rattle.seek.specs.declared.Value.TheVariants as value
use Rattle.seek.specs.declared.Spot.{Spot}
use Rattle.seek.specs.declared.Spot.TheVariants as spot
use Rattle.lookup.proofs.Entries.{pair-told, pair-few, in_chunks, group-few, group-many}
use Rattle.agree.specs.Agree.{times_count, shifts_count, chunks_count, within, first_chunks, heads, syncs_within, agree_of}

-- COUNTS

-- where the walk past n finds one, there are more than n; where it finds none, it says how many there are
module _ (f : List ℕ) (t : Table) (n : ℕ) (w : Rows) (ew : w ≡ pair_rows t) (r : Value) (er : r ≡ value_of (values_of (rows_of f w)) n) where
  pub times_more : (v s : ℕ) → r ≡ value.At v s → false ≡ times_count f t n
  times_more v s e =
      let l = values_of (pairs f t) in
      let q = pair-told f t w ew n r er v s e in
      sym (ne_eqb (total (pairs f t)) n (λ h. omega (arith, h, length-drop n l, ap length q.is, length-values (pairs f t))))

  pub times-all : (q : ℕ) → r ≡ value.Few q → eqb q n ≡ times_count f t n
  times-all q e = ap (λ (x : ℕ). eqb x n) ((pair-few f t w ew n r er q e).1 ∙ length-values (pairs f t))

module _ (f : List ℕ) (t : Table) (c n : ℕ) (w : Rows) (ew : w ≡ group_rows t c) (r : Spot) (er : r ≡ spot_of (per_chunk f w) n) where
  pub chunks-more : (i o : ℕ) → r ≡ spot.At i o → false ≡ chunks_count f t c n
  chunks-more i o e = sym (ne_eqb (sum (in_chunks f t c)) n (λ h. omega (arith, h, group-many f t c w ew n r er i o e)))

  pub chunks-all : (q : ℕ) → r ≡ spot.Few q → eqb q n ≡ chunks_count f t c n
  chunks-all q e = ap (λ (x : ℕ). eqb x n) (group-few f t c w ew n r er q e).1

module _ (f : List ℕ) (o : Option Table) (n : ℕ) where
  pub shifts-there : (t : Table) (b : Bool) → o ≡ Some t → b ≡ times_count f t n → b ≡ shifts_count f o n
  shifts-there t b e h = h ∙ sym (ap (λ (x : Option Table). shifts_count f x n) e)

-- NUMBERS PAST THE END

module _ (f : List ℕ) (t : Table) (w n i : ℕ) (g : within n (drop i (heads f t w)) ≡ within n (heads f t w)) where
  pub none_left : t.count ≤ i → true ≡ within n (heads f t w)
  none_left h = sym (ap (within n) (list-nil (λ k. or_zero 4 f (t.at + k * w)) t.count i h)) ∙ g

  module _ (x : ℕ) (h : i < t.count) (ex : x ≡ or_zero 4 f (t.at + i * w)) where
    here : within n (drop i (heads f t w)) ≡ leb x n && within n (drop (i + 1) (heads f t w))
    here =
        ap (within n) (list-cons (λ k. or_zero 4 f (t.at + k * w)) t.count i h)
        ∙ ap (λ (y : ℕ). leb y n && within n (drop (i + 1) (heads f t w))) (sym ex)

    pub past : n < x → false ≡ within n (heads f t w)
    past q = sym (here ∙ ap (λ (b : Bool). b && within n (drop (i + 1) (heads f t w))) (lt-leb x n q)) ∙ g

    pub not-past : x ≤ n → within n (drop (i + 1) (heads f t w)) ≡ within n (heads f t w)
    not-past q = sym (here ∙ ap (λ (b : Bool). b && within n (drop (i + 1) (heads f t w))) (le-leb x n q)) ∙ g

module _ (f : List ℕ) (o : Option Table) (n : ℕ) where
  pub syncs-there : (t : Table) (b : Bool) → o ≡ Some t → b ≡ within n (heads f t 4) → b ≡ syncs_within n (syncs f o)
  unfolding number_at
  syncs-there t b e h =
      h ∙ ap (within n) (list_same (λ k. or_zero 4 f (t.at + k * 4)) (number_at f t.at) t.count 0 (λ k. refl))
      ∙ sym (ap (λ (x : Option Table). syncs_within n (syncs f x)) e)

-- ALL OF THEM

pub all-agree : (f : List ℕ) (t : Track) (a b c d e : Bool) → a ≡ times_count f t.stts t.stsz.count
    → b ≡ shifts_count f t.ctts t.stsz.count → c ≡ chunks_count f t.stsc t.stco.count t.stsz.count
    → d ≡ within t.stco.count (heads f t.stsc 12) → e ≡ syncs_within t.stsz.count (syncs f t.stss)
    → a && b && c && d && e ≡ agree_of f t
unfolding agree_of group_at
all-agree f t a b c d e ha hb hc hd he =
    let g : d ≡ within t.stco.count (first_chunks f t.stsc) =
    hd ∙ ap (within t.stco.count) (list_same (λ k. or_zero 4 f (t.stsc.at + k * 12)) (λ k. (group_at f t.stsc.at k).first) t.stsc.count 0 (λ k. refl)) in
    rw (ha, hb, hc, g, he)
