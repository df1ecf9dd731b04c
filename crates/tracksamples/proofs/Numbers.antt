-- The samples of a track are numbered from 1, whichever way they are told. Assumes nothing.
use Prim.Native.Nat.{ℕ, zero, suc, ◌+◌}
use mathlib.Core.Path.{◌≡◌}
use mathlib.Core.List.{List, [], ◌∷◌}
use mathlib.Core.Bool.{Bool, true, false}
use native.Mathlib.Omega.{arith}
use lib.ListN.{drop}
use Rattle.numbers.specs.Field.{when}
use Rattle.samples.specs.declared.Sample.{Sample}
use Rattle.tables.specs.Tables.{values_of, pairs, groups, chunks, sizes, shifts, Syncs, syncs}
use Rattle.tables.specs.Samples.{place, rest, past_of, zipped, samples_of}
use Rattle.tables.specs.declared.Track.{Track}
use Rattle.runs.specs.declared.Run.{Run}
use Rattle.fragments.specs.Samples.{samples_of_runs}
use Rattle.runlookup.proofs.Numbers.{numbers-from-1}
use Rattle.tracksamples.specs.TrackSamples.{samples_from}
use Rattle.tracksamples.specs.declared.Source.{Source}

abbrev pub Numbered : List Sample → Type 0
Numbered l = (j : ℕ) (s : Sample) (k : List Sample) → drop j l ≡ s ∷ k → s.number ≡ j + 1

zipped-number : (j n m : ℕ) (ss ds os cs : List ℕ) (ys : Syncs) (s : Sample) (k : List Sample) → drop j (zipped n m ss ds os cs ys) ≡ s ∷ k → s.number ≡ n + j + 1
zipped-number zero n m [] ds os cs ys s k e = let z : ◌≡◌ {A = ℕ} 0 1 = cc in absurd (omega arith)
zipped-number zero n m (x ∷ ss) [] os cs ys s k e = let z : ◌≡◌ {A = ℕ} 0 1 = cc in absurd (omega arith)
zipped-number zero n m (x ∷ ss) (d ∷ ds) [] cs ys s k e = let z : ◌≡◌ {A = ℕ} 0 1 = cc in absurd (omega arith)
zipped-number zero n m (x ∷ ss) (d ∷ ds) (o ∷ os) cs ys s k e = let q : s.number ≡ n + 1 = cc in omega (arith, q)
zipped-number (suc j) n m [] ds os cs ys s k e = let z : ◌≡◌ {A = ℕ} 0 1 = cc in absurd (omega arith)
zipped-number (suc j) n m (x ∷ ss) [] os cs ys s k e = let z : ◌≡◌ {A = ℕ} 0 1 = cc in absurd (omega arith)
zipped-number (suc j) n m (x ∷ ss) (d ∷ ds) [] cs ys s k e = let z : ◌≡◌ {A = ℕ} 0 1 = cc in absurd (omega arith)
zipped-number (suc j) n m (x ∷ ss) (d ∷ ds) (o ∷ os) cs ys s k e =
    omega (arith, zipped-number j (n + 1) (m + d) ss ds os (rest cs) (past_of ys (n + 1)) s k e)

tables-number : (f : List ℕ) (t : Track) → Numbered (samples_of f t)
tables-number f t j s k e =
    omega (
      arith,
      zipped-number j 0 0 (sizes f t.stsz) (values_of (pairs f t.stts))
          (place (values_of (groups f t.stsc t.stco.count)) (chunks f t.stco) (sizes f t.stsz)) (shifts f t.ctts) (syncs f t.stss) s k e,
    )

pub from-1 : (f : List ℕ) (s : Source) (rs : List Run) → Numbered (samples_from f s rs)
unfolding when
from-1 f s rs = cases s.fragmented
  where
    cases : (b : Bool) → Numbered (when b (samples_of_runs f rs s.number) (samples_of f s.tables))
    cases true = numbers-from-1 f s.number rs
    cases false = tables-number f s.tables
