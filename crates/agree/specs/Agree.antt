-- Whether the tables of a track agree (ISO/IEC 14496-12: 8.6.1.2 stts, 8.6.1.3 ctts, 8.6.2 stss, 8.7.3 stsz, 8.7.4
-- stsc): where they do not, the audit has the finding F1. Sums of counts, in ℕ, without limit. Assumes nothing.
use Rattle.std.specs.Prelude.{ℕ, ◌+◌, ◌*◌, List, [], ◌∷◌, Bool, true, ◌&&◌, take, eqb, leb, Option, Some, None}
use Rattle.numbers.specs.Field.{or_zero}
use Rattle.tables.specs.Tables.{listed, sum, total, values_of, pairs, group_at, groups, Syncs, every, those, syncs}
use Rattle.tables.specs.declared.Table.{Table}
use Rattle.tables.specs.declared.Track.{Track}

-- COUNTS

-- stts's entries count n samples in all
abbrev pub times_count : List ℕ → Table → ℕ → Bool
times_count f t n = eqb (total (pairs f t)) n

-- so do ctts's, where there is one
abbrev pub shifts_count : List ℕ → Option Table → ℕ → Bool
shifts_count f None n = true
shifts_count f (Some t) n = times_count f t n

-- c chunks have n samples in all, by stsc: an empty one has none (A33)
abbrev pub chunks_count : List ℕ → Table → ℕ → ℕ → Bool
chunks_count f t c n = eqb (sum (take c (values_of (groups f t c)))) n

-- NUMBERS PAST THE END

-- none of these numbers is above n
abbrev pub within : ℕ → List ℕ → Bool
within n [] = true
within n (x ∷ l) = leb x n && within n l

-- the first chunk of each entry of stsc
abbrev pub first_chunks : List ℕ → Table → List ℕ
first_chunks f t = listed (λ i. (group_at f t.at i).first) t.count

-- no sync sample has a number above n: that is asked only of those that stss lists
abbrev pub syncs_within : ℕ → Syncs → Bool
syncs_within n every = true
syncs_within n (those l) = within n l

-- ALL OF THEM

-- no F1: stsz's count is the total of stts, of ctts if present, and of stsc over all chunks; and no first chunk of stsc
-- and no number of stss is past the end (A33)
unfoldable pub agree_of : List ℕ → Track → Bool
agree_of f t =
    times_count f t.stts t.stsz.count
    && shifts_count f t.ctts t.stsz.count
    && chunks_count f t.stsc t.stco.count t.stsz.count
    && within t.stco.count (first_chunks f t.stsc)
    && syncs_within t.stsz.count (syncs f t.stss)

-- INSIDE

-- the first number of each entry of a table whose entries take w bytes
abbrev pub heads : List ℕ → Table → ℕ → List ℕ
heads f t w = listed (λ i. or_zero 4 f (t.at + i * w)) t.count
