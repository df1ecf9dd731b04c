-- Tables without entries tell no sample: a writer of empty tables stores no list but the empty one. Assumes nothing.
use Prim.Native.Nat.{ℕ}
use mathlib.Core.Path.{◌≡◌, sym, ap, ◌∙◌}
use mathlib.Core.List.{List, [], ◌∷◌}
use native.Mathlib.Omega.{arith}
use lib.ListN.{length}
use Rattle.samples.specs.declared.Sample.{Sample}
use Rattle.tables.specs.Tables.{listed, size_at, values_of, pairs, groups, chunks, sizes, shifts, syncs}
use Rattle.tables.specs.Samples.{place, zipped, samples_of}
use Rattle.tables.specs.declared.Track.{Track}

pub empty-tells-none : (f : List ℕ) (t : Track) → t.stsz.count ≡ 0 → samples_of f t ≡ []
empty-tells-none f t e =
    ap
    (λ (n : ℕ). zipped 0 0 (listed (size_at f t.stsz) n) (values_of (pairs f t.stts)) (place (values_of (groups f t.stsc t.stco.count)) (chunks f t.stco) (sizes f t.stsz)) (shifts f t.ctts) (syncs f t.stss))
    e

pub empty-fails : (f : List ℕ) (t : Track) (s : Sample) (l : List Sample) → t.stsz.count ≡ 0 → samples_of f t ≡ s ∷ l → ⊥
empty-fails f t s l e q = omega (arith, ap length (sym (empty-tells-none f t e) ∙ q))
