-- The tables that are built tell the samples that they are built from, wherever these lie: numbered from 1, each at the
-- sum of the durations before it. Assumes nothing.
use Prim.Native.Nat.{ℕ, zero, suc, ◌+◌, ◌-◌, ◌*◌, ◌%◌, ◌^◌, ◌≤◌, ◌<◌}
use mathlib.Core.Path.{◌≡◌, refl, sym, ap, ap₂, subst, ◌∙◌}
use mathlib.Core.List.{List, [], ◌∷◌, ◌++◌}
use mathlib.Core.Bool.{Bool, true, false}
use native.Mathlib.Omega.{arith}
use lib.IntN.{ℤ, pos, negsuc}
use lib.Signed.{mag}
use lib.Dec.{eqb}
use borrow.Author.Tests.{eq-eqb, ne_eqb}
use Rattle.numbers.specs.Field.{when}
use Rattle.signed.specs.Signed.{signed, unsigned}
use Rattle.signed.proofs.Signs.{signed-unsigned}
use Rattle.samples.specs.declared.Sample.{Sample}
use Rattle.samples.specs.Records.{bits_of, bit_of}
use Rattle.tables.specs.Tables.{values_of, Syncs, those}
use Rattle.tables.specs.Samples.{first_or, rest, flag_of, past_of, zipped}
use Rattle.merging.specs.Merging.{merged_of}
use Rattle.merging.proofs.Fewest.{merged-values}
use Rattle.builder.specs.Built.{sync_word, syncs_from}

-- THE SAMPLES' COLUMNS

abbrev pub sizes_of : List Sample → List ℕ
sizes_of [] = []
sizes_of (s ∷ l) = s.size ∷ sizes_of l

abbrev pub durations_of : List Sample → List ℕ
durations_of [] = []
durations_of (s ∷ l) = s.duration ∷ durations_of l

abbrev pub offsets_of : List Sample → List ℕ
offsets_of [] = []
offsets_of (s ∷ l) = s.offset ∷ offsets_of l

-- composition offsets as 32 bits each
abbrev pub shifts_of : List Sample → List ℕ
shifts_of [] = []
shifts_of (s ∷ l) = bits_of s.composition % 2 ^ 32 ∷ shifts_of l

abbrev pub flags_of : List Sample → List ℕ
flags_of [] = []
flags_of (s ∷ l) = bit_of s.sync ∷ flags_of l

-- COMPOSITION OFFSETS

-- numbers of a column say the composition offsets of the samples, 0 where there is none
pub data Shown : List ℕ → List Sample → Type 0 where
  none : {cs : List ℕ} → Shown cs []
  one : {cs : List ℕ} {s : Sample} {l : List Sample} → signed 4 (first_or 0 cs) ≡ s.composition → Shown (rest cs) l → Shown cs (s ∷ l)

-- the 32 bits of a composition offset that has no more say it
narrow : (z : ℤ) → mag z * 2 < 2 ^ 32 → signed 4 (bits_of z % 2 ^ 32) ≡ z
narrow (pos n) h = let e : n % 2 ^ 32 ≡ n = omega arith in ap (signed 4) e ∙ signed-unsigned 3 (pos n) h
narrow (negsuc k) h =
    let e : (2 ^ 64 - 1 - k) % 2 ^ 32 ≡ 2 ^ 32 - 1 - k = omega arith in
    ap (signed 4) e ∙ signed-unsigned 3 (negsuc k) h

-- every composition offset is a signed number of 32 bits; every one is 0
pub data Narrow : List Sample → Type 0 where
  none : Narrow []
  and : {s : Sample} {l : List Sample} → mag s.composition * 2 < 2 ^ 32 → Narrow l → Narrow (s ∷ l)

pub data Zero : List Sample → Type 0 where
  none : Zero []
  and : {s : Sample} {l : List Sample} → s.composition ≡ pos 0 → Zero l → Zero (s ∷ l)

pub shown-listed : (l : List Sample) → Narrow l → Shown (shifts_of l) l
shown-listed [] Narrow.none = Shown.none
shown-listed (s ∷ l) (Narrow.and h k) = one (narrow s.composition h) (shown-listed l k)

pub shown-absent : (l : List Sample) → Zero l → Shown [] l
unfolding signed when
shown-absent [] Zero.none = Shown.none
shown-absent (s ∷ l) (Zero.and e k) = one (sym e) (shown-absent l k)

-- SYNC SAMPLES

-- a number below all that are listed is not sync, and none goes
later : (k j : ℕ) (l : List ℕ) → k ≤ j → (flag_of (those (syncs_from j l)) k ≡ false) × (past_of (those (syncs_from j l)) k ≡ those (syncs_from j l))
unfolding sync_word when
later k j [] h = (refl, refl)
later k j (x ∷ l) h = cases (eqb x 0) (later k (j + 1) l (omega arith))
  where
    cases : (b : Bool) → (flag_of (those (syncs_from (j + 1) l)) k ≡ false) × (past_of (those (syncs_from (j + 1) l)) k ≡ those (syncs_from (j + 1) l))
        → (flag_of (those (when b [] ((j + 1) ∷ []) ++ syncs_from (j + 1) l)) k ≡ false) × (past_of (those (when b [] ((j + 1) ∷ []) ++ syncs_from (j + 1) l)) k ≡ those (when b [] ((j + 1) ∷ []) ++ syncs_from (j + 1) l))
    cases true r = r
    cases false r =
        let e : eqb (j + 1) k ≡ false = ne_eqb (j + 1) k (λ q. omega arith) in
        (e, ap (λ (b : Bool). those (when b (syncs_from (j + 1) l) ((j + 1) ∷ syncs_from (j + 1) l))) e)

sync-told : (n : ℕ) (b : Bool) (l : List ℕ) → (flag_of (those (syncs_from n (bit_of b ∷ l))) (n + 1) ≡ b) × (past_of (those (syncs_from n (bit_of b ∷ l))) (n + 1) ≡ those (syncs_from (n + 1) l))
unfolding sync_word when
sync-told n true l =
    let e : eqb (n + 1) (n + 1) ≡ true = eq-eqb (n + 1) (n + 1) refl in
    (e, ap (λ (b : Bool). those (when b (syncs_from (n + 1) l) ((n + 1) ∷ syncs_from (n + 1) l))) e)
sync-told n false l = later (n + 1) (n + 1) l (omega arith)

-- ALL OF THEM

-- samples with n before them are numbered on from there, and each is at the sum of the durations before it, from m on
pub data Numbered : ℕ → ℕ → List Sample → Type 0 where
  none : {n m : ℕ} → Numbered n m []
  one : {n m : ℕ} {s : Sample} {l : List Sample} → s.number ≡ n + 1 → s.time ≡ m → Numbered (n + 1) (m + s.duration) l → Numbered n m (s ∷ l)

zipped-back : (n m : ℕ) (cs : List ℕ) (l : List Sample) → Numbered n m l → Shown cs l →
    zipped n m (sizes_of l) (durations_of l) (offsets_of l) cs (those (syncs_from n (flags_of l))) ≡ l
zipped-back n m cs [] Numbered.none Shown.none = refl
zipped-back n m cs (s ∷ l) (Numbered.one a b k) (Shown.one e h) =
    let t = sync-told n s.sync (flags_of l) in
    let after : zipped (n + 1) (m + s.duration) (sizes_of l) (durations_of l) (offsets_of l) (rest cs) (past_of (those (syncs_from n (flags_of (s ∷ l)))) (n + 1)) ≡ l =
    ap (λ (y : Syncs). zipped (n + 1) (m + s.duration) (sizes_of l) (durations_of l) (offsets_of l) (rest cs) y) t.1 ∙ zipped-back (n + 1) (m + s.duration) (rest cs) l k h in
    let head : ◌≡◌ {A = Sample} (record { number = n + 1; offset = s.offset; size = s.size; time = m; duration = s.duration; composition = signed 4 (first_or 0 cs); sync = flag_of (those (syncs_from n (flags_of (s ∷ l)))) (n + 1) }) s =
    ap₂ (λ (x y : ℕ). record { number = x; offset = s.offset; size = s.size; time = y; duration = s.duration; composition = signed 4 (first_or 0 cs); sync = flag_of (those (syncs_from n (flags_of (s ∷ l)))) (n + 1) }) (sym a) (sym b)
    ∙ ap₂ (λ (x : ℤ) (y : Bool). record { number = s.number; offset = s.offset; size = s.size; time = s.time; duration = s.duration; composition = x; sync = y }) e t.0 in
    ap₂ (λ (x : Sample) (y : List Sample). x ∷ y) head after

-- stts, stsz, stss and ctts as they are built, with the samples' places, tell the samples
pub samples-back : (l : List Sample) (os : List ℕ) → Numbered 0 0 l → Narrow l → os ≡ offsets_of l →
    zipped 0 0 (sizes_of l) (values_of (merged_of (durations_of l))) os (values_of (merged_of (shifts_of l))) (those (syncs_from 0 (flags_of l))) ≡ l
samples-back l os n w e =
    ap₂ (λ (d o : List ℕ). zipped 0 0 (sizes_of l) d o (values_of (merged_of (shifts_of l))) (those (syncs_from 0 (flags_of l)))) (merged-values (durations_of l)) e
    ∙ ap (λ (c : List ℕ). zipped 0 0 (sizes_of l) (durations_of l) (offsets_of l) c (those (syncs_from 0 (flags_of l)))) (merged-values (shifts_of l))
    ∙ zipped-back 0 0 (shifts_of l) l n (shown-listed l w)

-- and so they do without ctts, where all composition offsets are 0
pub samples-back-absent : (l : List Sample) (os : List ℕ) → Numbered 0 0 l → Zero l → os ≡ offsets_of l →
    zipped 0 0 (sizes_of l) (values_of (merged_of (durations_of l))) os [] (those (syncs_from 0 (flags_of l))) ≡ l
samples-back-absent l os n w e =
    ap₂ (λ (d o : List ℕ). zipped 0 0 (sizes_of l) d o [] (those (syncs_from 0 (flags_of l)))) (merged-values (durations_of l)) e
    ∙ zipped-back 0 0 [] l n (shown-absent l w)
