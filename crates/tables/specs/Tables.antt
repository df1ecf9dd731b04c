-- The tables of a track as lists, as they lie in the file's bytes (ISO/IEC 14496-12: 8.6.1.2 stts, 8.6.1.3 ctts, 8.6.2
-- stss, 8.7.3 stsz, 8.7.4 stsc, 8.7.5 stco and co64). A track says where each table's entries begin and how many there
-- are; a number that the file does not hold whole is 0. There is no cursor here. Assumes nothing.
use Rattle.std.specs.Prelude.{ℕ, zero, suc, ◌+◌, ◌-◌, ◌*◌, List, [], ◌∷◌, ◌++◌, replicate, eqb, Option, Some, None}
use Rattle.numbers.specs.Field.{when, or_zero}
use Rattle.tables.specs.declared.Table.{Table}
use Rattle.tables.specs.declared.Sizes.{Sizes}
use Rattle.tables.specs.declared.Chunks.{Chunks}
use Rattle.tables.specs.declared.Row.{Row}

-- n things by their number, from number i on
abbrev pub list_from : {A : Type 0} → (ℕ → A) → ℕ → ℕ → List A
list_from g zero i = []
list_from g (suc n) i = g i ∷ list_from g n (suc i)

-- n things, numbered from 0
abbrev pub listed : {A : Type 0} → (ℕ → A) → ℕ → List A
listed g n = list_from g n 0

-- the numbers of a list together
abbrev pub sum : List ℕ → ℕ
sum [] = 0
sum (n ∷ ns) = n + sum ns

-- RUNS: so many of one value, a row

-- the rows' counts together
abbrev pub total : List Row → ℕ
total [] = 0
total (r ∷ rs) = r.count + total rs

-- each value as often as its row counts; a row that counts 0 has none (A53)
abbrev pub values_of : List Row → List ℕ
values_of [] = []
values_of (r ∷ rs) = replicate r.count r.value ++ values_of rs

-- entry i of stts or ctts: a count of samples, and the duration or composition offset of each of them
unfoldable pub pair_at : List ℕ → ℕ → ℕ → Row
pair_at f at i = record { count = or_zero 4 f (at + i * 8); value = or_zero 4 f (at + (i * 8 + 4)) }

abbrev pub pairs : List ℕ → Table → List Row
pairs f t = listed (pair_at f t.at) t.count

-- CHUNKS

-- an entry of stsc: from this chunk on, so many samples in each chunk (the description index says nothing of places)
pub record Group : Type 0 where
  pub first : ℕ
  pub per : ℕ

unfoldable pub group_at : List ℕ → ℕ → ℕ → Group
group_at f at i = record { first = or_zero 4 f (at + i * 12); per = or_zero 4 f (at + (i * 12 + 4)) }

-- the entries of stsc as runs of chunks, n chunks in all, numbered from 1: each up to the next one's first chunk, the
-- last one up to the last chunk
abbrev pub chunk_runs : ℕ → List Group → List Row
chunk_runs n [] = []
chunk_runs n (g ∷ []) = record { count = n + 1 - g.first; value = g.per } ∷ []
chunk_runs n (g ∷ h ∷ gs) = record { count = h.first - g.first; value = g.per } ∷ chunk_runs n (h ∷ gs)

-- stsc, for that many chunks
abbrev pub groups : List ℕ → Table → ℕ → List Row
groups f t n = chunk_runs n (listed (group_at f t.at) t.count)

-- where chunk i lies, counted from 0: by co64, or by stco
unfoldable pub offset_at : List ℕ → Chunks → ℕ → ℕ
offset_at f t i = when t.wide (or_zero 8 f (t.at + i * 8)) (or_zero 4 f (t.at + i * 4))

abbrev pub chunks : List ℕ → Chunks → List ℕ
chunks f t = listed (offset_at f t) t.count

-- SIZES

-- the size of sample i, counted from 0: common to all, or listed where the common one is 0
unfoldable pub size_at : List ℕ → Sizes → ℕ → ℕ
size_at f t i = when (eqb t.common 0) (or_zero 4 f (t.at + i * 4)) t.common

abbrev pub sizes : List ℕ → Sizes → List ℕ
sizes f t = listed (size_at f t) t.count

-- WHAT MAY BE ABSENT

-- the composition offsets, as 32 bits each: none where there is no ctts
abbrev pub shifts : List ℕ → Option Table → List ℕ
shifts f None = []
shifts f (Some t) = values_of (pairs f t)

-- the numbers of the sync samples: every one where there is no stss
pub data Syncs : Type 0 where
  every : Syncs
  those : List ℕ → Syncs

unfoldable pub number_at : List ℕ → ℕ → ℕ → ℕ
number_at f at i = or_zero 4 f (at + i * 4)

abbrev pub numbers : List ℕ → Table → List ℕ
numbers f t = listed (number_at f t.at) t.count

abbrev pub syncs : List ℕ → Option Table → Syncs
syncs f None = every
syncs f (Some t) = those (numbers f t)
