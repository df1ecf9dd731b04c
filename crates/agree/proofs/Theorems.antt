-- What it says of a track that its tables agree: it has as many samples as stsz counts, each has its own composition
-- offset where there is a ctts, and each number of stss is a sample's. Assumes nothing.
use Rattle.std.specs.Prelude.{Option, Some}
use Prim.Native.Nat.{ℕ, ◌≤◌}
use mathlib.Core.Path.{◌≡◌, refl, sym, ap, ◌∙◌}
use mathlib.Core.List.{List, [], ◌∷◌}
use mathlib.Core.Bool.{Bool, true, false, ◌&&◌}
use native.Mathlib.Omega.{arith}
use lib.ListN.{length, take}
use lib.Dec.{leb}
use borrow.Author.Tests.{eqb-true, leb-true}
use Rattle.tables.specs.Tables.{sum, total, values_of, pairs, groups, shifts, numbers, syncs}
use Rattle.tables.specs.Samples.{samples_of}
use Rattle.tables.specs.declared.Table.{Table}
use Rattle.tables.specs.declared.Track.{Track}
use Rattle.tables.proofs.Lengths.{length-values, how-many}
use Rattle.agree.specs.Agree.{times_count, shifts_count, chunks_count, within, first_chunks, syncs_within, agree_of}

both : (a b : Bool) → a && b ≡ true → (a ≡ true) × (b ≡ true)
both true b h = (refl, h)
both false b h = let z : ◌≡◌ {A = ℕ} 0 1 = cc in absurd (omega arith)

-- each number of the list is at most n
abbrev pub EachWithin : ℕ → List ℕ → Type 0
EachWithin n [] = Unit {0}
EachWithin n (x ∷ l) = (x ≤ n) × EachWithin n l

pub each_within : (n : ℕ) (l : List ℕ) → within n l ≡ true → EachWithin n l
each_within n [] h = tt
each_within n (x ∷ l) h = let p = both (leb x n) (within n l) h in (leb-true x n p.0, each_within n l p.1)

module _ (f : List ℕ) (t : Track) where
  -- the five that F1 asks for
  pub record Agreeing : Type 0 where
    pub timed : total (pairs f t.stts) ≡ t.stsz.count
    pub shifted : shifts_count f t.ctts t.stsz.count ≡ true
    pub placed : sum (take t.stco.count (values_of (groups f t.stsc t.stco.count))) ≡ t.stsz.count
    pub chunked : EachWithin t.stco.count (first_chunks f t.stsc)
    pub synced : syncs_within t.stsz.count (syncs f t.stss) ≡ true

  module _ (h : agree_of f t ≡ true) where
    pub agreeing : Agreeing
    unfolding agree_of
    agreeing =
        let n = t.stsz.count in
        let a = times_count f t.stts n in
        let b = shifts_count f t.ctts n in
        let c = chunks_count f t.stsc t.stco.count n in
        let d = within t.stco.count (first_chunks f t.stsc) in
        let p = both (a && b && c && d) (syncs_within n (syncs f t.stss)) h in
        let q = both (a && b && c) d p.0 in
        let r = both (a && b) c q.0 in
        let s = both a b r.0 in
        record {
          timed = eqb-true _ _ s.0;
          shifted = s.1;
          placed = eqb-true _ _ r.1;
          chunked = each_within t.stco.count (first_chunks f t.stsc) q.1;
          synced = p.1;
        }

    -- as many samples as stsz counts (A43)
    pub as_many : length (samples_of f t) ≡ t.stsz.count
    as_many = omega (arith, how-many f t, agreeing.timed, agreeing.placed)

    -- no sample is without its own composition offset, and no offset without a sample
    pub each-shifted : (b : Table) → t.ctts ≡ Some b → length (shifts f t.ctts) ≡ length (samples_of f t)
    each-shifted b e =
        let k : shifts_count f (Some b) t.stsz.count ≡ true = sym (ap (λ (o : Option Table). shifts_count f o t.stsz.count) e) ∙ agreeing.shifted in
        let m : length (shifts f t.ctts) ≡ length (values_of (pairs f b)) = ap (λ (o : Option Table). length (shifts f o)) e in
        omega (arith, m, length-values (pairs f b), eqb-true (total (pairs f b)) t.stsz.count k, as_many)

    -- every number of stss is one of a sample
    pub each-sync : (b : Table) → t.stss ≡ Some b → EachWithin (length (samples_of f t)) (numbers f b)
    each-sync b e =
        each_within (length (samples_of f t)) (numbers f b)
        (ap (λ (n : ℕ). within n (numbers f b)) as_many ∙ sym (ap (λ (o : Option Table). syncs_within t.stsz.count (syncs f o)) e) ∙ agreeing.synced)
