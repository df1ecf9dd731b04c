-- Samples that surely fit: where there are at most 2^31, and every chunk begins below 2^63, since sizes and durations
-- have 32 bits. Assumes nothing.
use Prim.Native.Nat.{ℕ, zero, suc, ◌+◌, ◌*◌, ◌^◌, ◌≤◌, ◌<◌}
use mathlib.Core.Path.{◌≡◌, refl, sym, ap, ◌∙◌}
use mathlib.Core.List.{List, [], ◌∷◌, ◌++◌}
use mathlib.Core.Bool.{Bool, true, false, ◌&&◌}
use native.Mathlib.Omega.{arith}
use lib.ListN.{length, take, drop, replicate, length-drop}
use lib.Dec.{ltb, eqb}
use borrow.Author.Tests.{lt-ltb, le-ltb, ltb-true}
use Rattle.numbers.specs.Number.{be}
use Rattle.numbers.specs.Field.{when, field, fits, or_zero}
use Rattle.numbers.proofs.Laws.{Bytes, be-below}
use Rattle.signed.specs.Signed.{signed}
use Rattle.samples.proofs.Fits.{held-is}
use Rattle.samples.specs.declared.Sample.{Sample}
use Rattle.samples.specs.Lists.{end_bound, time_bound, all_held}
use Rattle.tables.specs.Tables.{list_from, values_of, pair_at, pairs, groups, offset_at, chunks, size_at, sizes, shifts, Syncs, syncs}
use Rattle.tables.specs.Samples.{starts, place, first_or, rest, flag_of, past_of, zipped, samples_of}
use Rattle.tables.specs.declared.Row.{Row}
use Rattle.tables.specs.declared.Sizes.{Sizes}
use Rattle.tables.specs.declared.Chunks.{Chunks}
use Rattle.tables.specs.declared.Track.{Track}
use Rattle.tables.proofs.Lists.{list-cons, list-nil, length-list}
use Rattle.lists.specs.Count.{all_low}

-- NUMBERS BELOW A BOUND

abbrev pub Below : ℕ → List ℕ → Type 0
Below b [] = Unit {0}
Below b (x ∷ l) = (x < b) × Below b l

below-drop : (b n : ℕ) (l : List ℕ) → Below b l → Below b (drop n l)
below-drop b zero l h = h
below-drop b (suc n) [] h = tt
below-drop b (suc n) (x ∷ l) h = below-drop b n l h.1

below-list : (b : ℕ) (g : ℕ → ℕ) (n i : ℕ) → ((k : ℕ) → g k < b) → Below b (list_from g n i)
below-list b g zero i h = tt
below-list b g (suc n) i h = (h i, below-list b g n (suc i) h)

below-run : (b n x : ℕ) (l : List ℕ) → x < b → Below b l → Below b (replicate n x ++ l)
below-run b zero x l h k = k
below-run b (suc n) x l h k = (h, below-run b n x l h k)

below-values : (b : ℕ) (g : ℕ → Row) (n i : ℕ) → ((k : ℕ) → (g k).value < b) → Below b (values_of (list_from g n i))
below-values b g zero i h = tt
below-values b g (suc n) i h = below-run b (g i).count (g i).value _ (h i) (below-values b g n (suc i) h)

pub below-low : (l : List ℕ) → all_low l ≡ true → Below time_bound l
below-low [] e = tt
below-low (x ∷ l) e = cases (ltb x time_bound) refl e (below-low l)
  where
    cases : (t : Bool) → ltb x time_bound ≡ t → t && all_low l ≡ true → (all_low l ≡ true → Below time_bound l) → (x < time_bound) × Below time_bound l
    cases true q e ih = (ltb-true x time_bound q, ih e)
    cases false q e ih = let z : ◌≡◌ {A = ℕ} 0 1 = cc in absurd (omega arith)

-- WHAT THE FILE HOLDS

module _ (f : List ℕ) (h : Bytes f) where
  pub word_below : (at : ℕ) → or_zero 4 f at < 2 ^ 32
  unfolding field when
  word_below at = cases (fits 4 f at)
    where
      cases : (t : Bool) → when t (be 4 f at) 0 < 2 ^ 32
      cases true = omega (arith, be-below 4 f at h)
      cases false = omega arith

  pub size_below : (t : Sizes) → t.common < 2 ^ 32 → (i : ℕ) → size_at f t i < 2 ^ 32
  unfolding size_at when
  size_below t k i = cases (eqb t.common 0)
    where
      cases : (b : Bool) → when b (or_zero 4 f (t.at + i * 4)) t.common < 2 ^ 32
      cases true = word_below (t.at + i * 4)
      cases false = k

  pub value-below : (at i : ℕ) → (pair_at f at i).value < 2 ^ 32
  unfolding pair_at
  value-below at i = word_below (at + (i * 8 + 4))

  pub narrow_below : (t : Chunks) → t.wide ≡ false → Below time_bound (chunks f t)
  unfolding offset_at when
  narrow_below t e = below-list time_bound (offset_at f t) t.count 0 one
    where
      one : (i : ℕ) → offset_at f t i < time_bound
      one i = rw e (omega (arith, word_below (t.at + i * 4)))

-- PLACES

-- each of the sizes fits behind its place
abbrev Room : List ℕ → List ℕ → Type 0
Room [] os = Unit {0}
Room (z ∷ ss) [] = Unit {0}
Room (z ∷ ss) (o ∷ os) = (o + z < end_bound) × Room ss os

room-chunk : (n at : ℕ) (ss os : List ℕ) → Below (2 ^ 32) ss → at + length ss * 2 ^ 32 ≤ end_bound → Room (drop n ss) os → Room ss (starts at (take n ss) ++ os)
room-chunk zero at ss os b h r = r
room-chunk (suc n) at [] os b h r = tt
room-chunk (suc n) at (z ∷ ss) os b h r = (omega (arith, b.0, h), room-chunk n (at + z) ss os b.1 (omega (arith, b.0, h)) r)

room-place : (ns cs ss : List ℕ) → Below time_bound cs → Below (2 ^ 32) ss → length ss ≤ 2 ^ 31 → Room ss (place ns cs ss)
room-place [] cs [] c b h = tt
room-place [] cs (z ∷ ss) c b h = tt
room-place (n ∷ ns) [] [] c b h = tt
room-place (n ∷ ns) [] (z ∷ ss) c b h = tt
room-place (n ∷ ns) (o ∷ cs) ss c b h =
    room-chunk n o ss (place ns cs (drop n ss)) b (omega (arith, c.0, h))
    (room-place ns cs (drop n ss) c.1 (below-drop (2 ^ 32) n ss b) (omega (arith, length-drop n ss, h)))

-- SAMPLES

held-zipped : (n m : ℕ) (ss ds os cs : List ℕ) (ys : Syncs) → Below (2 ^ 32) ds → Room ss os → n + length ss ≤ 2 ^ 31 → m + length ss * 2 ^ 32 ≤ time_bound → all_held (zipped n m ss ds os cs ys) ≡ true
held-zipped n m [] ds os cs ys b r k h = refl
held-zipped n m (z ∷ ss) [] os cs ys b r k h = refl
held-zipped n m (z ∷ ss) (d ∷ ds) [] cs ys b r k h = refl
held-zipped n m (z ∷ ss) (d ∷ ds) (o ∷ os) cs ys b r k h =
    let s : Sample = record { number = n + 1; offset = o; size = z; time = m; duration = d; composition = signed 4 (first_or 0 cs); sync = flag_of ys (n + 1) } in
    ap (λ (x : Bool). x && all_held (zipped (n + 1) (m + d) ss ds os (rest cs) (past_of ys (n + 1)))) (held-is s (omega (arith, k)) r.0 (omega (arith, h)))
    ∙ held-zipped (n + 1) (m + d) ss ds os (rest cs) (past_of ys (n + 1)) b.1 r.1 (omega (arith, k)) (omega (arith, b.0, h))

pub surely : (f : List ℕ) (t : Track) → Bytes f → t.stsz.common < 2 ^ 32 → t.stsz.count ≤ 2 ^ 31 → Below time_bound (chunks f t.stco) → all_held (samples_of f t) ≡ true
surely f t h w k c =
    let ss = sizes f t.stsz in
    let e : length ss ≡ t.stsz.count = length-list (size_at f t.stsz) t.stsz.count 0 in
    held-zipped 0 0 ss (values_of (pairs f t.stts)) (place (values_of (groups f t.stsc t.stco.count)) (chunks f t.stco) ss) (shifts f t.ctts) (syncs f t.stss)
    (below-values (2 ^ 32) (pair_at f t.stts.at) t.stts.count 0 (value-below f h t.stts.at))
    (room-place (values_of (groups f t.stsc t.stco.count)) (chunks f t.stco) ss c (below-list (2 ^ 32) (size_at f t.stsz) t.stsz.count 0 (size_below f h t.stsz w)) (omega (arith, e, k)))
    (omega (arith, e, k)) (omega (arith, e, k))

-- WHETHER EVERY CHUNK BEGINS LOW

module _ (f : List ℕ) (t : Chunks) (i : ℕ) where
  pub low_end : t.count ≤ i → true ≡ all_low (drop i (chunks f t))
  low_end h = sym (ap all_low (list-nil (offset_at f t) t.count i h))

  module _ (x : ℕ) (h : i < t.count) (e : x ≡ offset_at f t i) where
    low-split : all_low (drop i (chunks f t)) ≡ ltb x time_bound && all_low (drop (i + 1) (chunks f t))
    low-split =
        ap all_low (list-cons (offset_at f t) t.count i h)
        ∙ ap (λ (y : ℕ). ltb y time_bound && all_low (drop (i + 1) (chunks f t))) (sym e)

    pub low-more : x < time_bound → all_low (drop (i + 1) (chunks f t)) ≡ all_low (drop i (chunks f t))
    low-more k = sym (low-split ∙ ap (λ (b : Bool). b && all_low (drop (i + 1) (chunks f t))) (lt-ltb x time_bound k))

    pub low-stop : time_bound ≤ x → false ≡ all_low (drop i (chunks f t))
    low-stop k = sym (low-split ∙ ap (λ (b : Bool). b && all_low (drop (i + 1) (chunks f t))) (le-ltb x time_bound k))

-- a function that says nothing where it answers false
pub says_nothing : {A : Type 0} → false ≡ true → A
says_nothing e = let z : ◌≡◌ {A = ℕ} 0 1 = cc in absurd (omega arith)
