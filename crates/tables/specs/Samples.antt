-- The samples of a track, from its tables as lists (ISO/IEC 14496-12, 8.6 and 8.7): every number in ℕ, without limit.
-- Assumes nothing.
use Rattle.std.specs.Prelude.{ℕ, ◌+◌, List, [], ◌∷◌, ◌++◌, Bool, true, false, take, drop, eqb, ltb}
use Rattle.numbers.specs.Field.{when}
use Rattle.signed.specs.Signed.{signed}
use Rattle.tables.specs.Tables.{values_of, pairs, groups, chunks, sizes, shifts, Syncs, every, those, syncs}
use Rattle.tables.specs.declared.Track.{Track}
use Rattle.samples.specs.declared.Sample.{Sample}

-- where each begins, if the first begins at `at` and each comes behind the one before
abbrev pub starts : ℕ → List ℕ → List ℕ
starts at [] = []
starts at (z ∷ ss) = at ∷ starts (at + z) ss

-- where samples of the sizes ss lie: ns of them in each chunk, the chunks at cs; in a chunk one behind the other
abbrev pub place : List ℕ → List ℕ → List ℕ → List ℕ
place [] cs ss = []
place (n ∷ ns) [] ss = []
place (n ∷ ns) (c ∷ cs) ss = starts c (take n ss) ++ place ns cs (drop n ss)

-- the first of a list, and what comes after it
abbrev pub first_or : ℕ → List ℕ → ℕ
first_or d [] = d
first_or d (x ∷ l) = x

abbrev pub rest : List ℕ → List ℕ
rest [] = []
rest (x ∷ l) = l

-- whether the sample of the next number is sync, and the sync numbers after it: the list rises (A21), so that its first
-- is the only one to look at
abbrev pub flag_of : Syncs → ℕ → Bool
flag_of every n = true
flag_of (those []) n = false
flag_of (those (x ∷ l)) n = eqb x n

abbrev pub past_of : Syncs → ℕ → Syncs
past_of every n = every
past_of (those []) n = those []
past_of (those (x ∷ l)) n = those (when (eqb x n) l (x ∷ l))

-- n is in the list, as far as the list rises from x on
abbrev pub risen : ℕ → List ℕ → ℕ → Bool
risen x [] n = false
risen x (y ∷ l) n = when (ltb x y) (when (eqb y n) true (risen y l n)) false

-- whether sample n is sync, with nothing gone before: `sync-is` (proofs/Flags.antt) says it of every sample of a track
abbrev pub sync_at : Syncs → ℕ → Bool
sync_at every n = true
sync_at (those l) n = risen 0 l n

-- the samples of these sizes, durations, places, composition offsets and sync numbers, as many as the sizes, durations
-- and places all have (A14): n came before, and the first is at time m. A composition offset that is not there is 0
-- (A14).
abbrev pub zipped : ℕ → ℕ → List ℕ → List ℕ → List ℕ → List ℕ → Syncs → List Sample
zipped n m [] ds os cs ys = []
zipped n m (z ∷ ss) [] os cs ys = []
zipped n m (z ∷ ss) (d ∷ ds) [] cs ys = []
zipped n m (z ∷ ss) (d ∷ ds) (o ∷ os) cs ys =
    record { number = n + 1; offset = o; size = z; time = m; duration = d; composition = signed 4 (first_or 0 cs); sync = flag_of ys (n + 1) }
    ∷ zipped (n + 1) (m + d) ss ds os (rest cs) (past_of ys (n + 1))

-- the samples of a track
abbrev pub samples_of : List ℕ → Track → List Sample
samples_of f t =
    zipped 0 0 (sizes f t.stsz) (values_of (pairs f t.stts))
    (place (values_of (groups f t.stsc t.stco.count)) (chunks f t.stco) (sizes f t.stsz))
    (shifts f t.ctts) (syncs f t.stss)
