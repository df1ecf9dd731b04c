-- How many samples a track has, by its tables (A14). Assumes nothing.
use Prim.Native.Nat.{ℕ, ◌+◌, min}
use mathlib.Core.Path.{◌≡◌, refl, ap, ◌∙◌}
use mathlib.Core.List.{List, [], ◌∷◌}
use native.Mathlib.Omega.{arith}
use lib.ListN.{length, take, drop, replicate, length-append, length-take, length-drop, length-replicate}
use Rattle.tables.specs.Tables.{sum, total, values_of, pairs, groups, chunks, sizes, size_at, offset_at, shifts, Syncs, syncs}
use Rattle.tables.specs.Samples.{starts, place, rest, past_of, zipped, samples_of}
use Rattle.tables.specs.declared.Row.{Row}
use Rattle.tables.specs.declared.Track.{Track}
use Rattle.tables.proofs.Lists.{length-list}

pub length-zipped : (n m : ℕ) (ss ds os cs : List ℕ) (ys : Syncs) → length (zipped n m ss ds os cs ys) ≡ min (length ss) (min (length ds) (length os))
length-zipped n m [] ds os cs ys = omega arith
length-zipped n m (z ∷ ss) [] os cs ys = omega arith
length-zipped n m (z ∷ ss) (d ∷ ds) [] cs ys = omega arith
length-zipped n m (z ∷ ss) (d ∷ ds) (o ∷ os) cs ys = omega (arith, length-zipped (n + 1) (m + d) ss ds os (rest cs) (past_of ys (n + 1)))

pub length-values : (rs : List Row) → length (values_of rs) ≡ total rs
length-values [] = refl
length-values (r ∷ rs) =
    omega (arith, length-append (replicate r.count r.value) (values_of rs), length-replicate r.count r.value, length-values rs)

pub length-starts : (at : ℕ) (ss : List ℕ) → length (starts at ss) ≡ length ss
length-starts at [] = refl
length-starts at (z ∷ ss) = omega (arith, length-starts (at + z) ss)

pub length-place : (ns cs ss : List ℕ) → length (place ns cs ss) ≡ min (length ss) (sum (take (length cs) ns))
length-place [] [] ss = omega arith
length-place [] (c ∷ cs) ss = omega arith
length-place (n ∷ ns) [] ss = omega arith
length-place (n ∷ ns) (c ∷ cs) ss =
    omega (arith, length-append (starts c (take n ss)) (place ns cs (drop n ss)), length-starts c (take n ss), length-take n ss, length-drop n ss, length-place ns cs (drop n ss))

-- a track has as many samples as the least of stsz's count, stts's total, and stsc's total over all chunks
pub how-many : (f : List ℕ) (t : Track) →
    length (samples_of f t)
    ≡ min t.stsz.count (min (total (pairs f t.stts)) (sum (take t.stco.count (values_of (groups f t.stsc t.stco.count)))))
how-many f t =
    let ss = sizes f t.stsz in
    let ns = values_of (groups f t.stsc t.stco.count) in
    let a : length (sizes f t.stsz) ≡ t.stsz.count = length-list (size_at f t.stsz) t.stsz.count 0 in
    let b : length (chunks f t.stco) ≡ t.stco.count = length-list (offset_at f t.stco) t.stco.count 0 in
    let p : length (place ns (chunks f t.stco) ss) ≡ min (length ss) (sum (take t.stco.count ns)) = length-place ns (chunks f t.stco) ss ∙ ap (λ (k : ℕ). min (length ss) (sum (take k ns))) b in
    omega (arith, length-zipped 0 0 ss (values_of (pairs f t.stts)) (place ns (chunks f t.stco) ss) (shifts f t.ctts) (syncs f t.stss), length-values (pairs f t.stts), a, p)
