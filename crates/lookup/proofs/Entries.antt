-- What the tables' entries say of one sample is the sample of the list; what they lack, the list lacks. Assumes nothing.
use Prim.Native.Nat.{ℕ, ◌+◌, ◌-◌, ◌≤◌, ◌<◌, min}
use mathlib.Core.Path.{◌≡◌, sym, ap, ap₂, subst, ◌∙◌}
use mathlib.Core.List.{List, [], ◌∷◌}
use mathlib.Core.Bool.{Bool}
use native.Mathlib.Omega.{arith}
use lib.ListN.{length, take, drop}
use Rattle.signed.specs.Signed.{signed}
use Rattle.samples.specs.declared.Sample.{Sample}
use Rattle.samples.specs.Lists.{bytes_of}
use Rattle.tables.specs.Tables.{list_from, sum, values_of, pairs, groups, chunks, offset_at, sizes, size_at, shifts, syncs}
use Rattle.tables.specs.Samples.{place, rest, flag_of, past_of, sync_at, zipped, samples_of}
use Rattle.tables.specs.Rows.{pair_rows, group_rows, rows_of}
use Rattle.tables.specs.declared.Table.{Table}
use Rattle.tables.specs.declared.Rows.{Rows}
use Rattle.tables.specs.declared.Row.{Row}
use Rattle.tables.specs.declared.Track.{Track}
use Rattle.tables.proofs.Lists.{list-cons, length-list, rows-pairs, rows-groups}
use Rattle.tables.proofs.Lengths.{length-values, how-many}
use Rattle.tables.proofs.Flags.{All, all_drop, sync-is}
use Rattle.seek.specs.Seek.{value_of, per_chunk, spot_of, span_of}
use Rattle.seek.specs.declared.Value.{Value}
use Rattle.seek.specs.declared.Value.TheVariants as value
use Rattle.seek.specs.declared.Spot.{Spot}
use Rattle.seek.specs.declared.Spot.TheVariants as spot
use Rattle.lookup.specs.Lookup.{shift_at, sample_at}
use Rattle.lookup.proofs.Parts.{later, next_one, numbered-at, bytes-sizes, take-list, part-list, Told, value-told, value-few, Lies, spot-lies, spot-few, spot-many}

-- a list begins with that sample
pub record There (l : List Sample) (s : Sample) : Type 0 where
  pub tail : List Sample
  pub is : l ≡ s ∷ tail

-- a list of places begins with that one
pub record Lie (l : List ℕ) (o : ℕ) : Type 0 where
  pub tail : List ℕ
  pub is : l ≡ o ∷ tail

-- a list begins with a sample whose sync flag is b
pub record Flagged (l : List Sample) (b : Bool) : Type 0 where
  pub head : Sample
  pub tail : List Sample
  pub is : l ≡ head ∷ tail
  pub flag : head.sync ≡ b

-- a value of stts or ctts
module _ (f : List ℕ) (t : Table) (w : Rows) (ew : w ≡ pair_rows t) (k : ℕ) (r : Value) (er : r ≡ value_of (values_of (rows_of f w)) k) where
  by-pairs : r ≡ value_of (values_of (pairs f t)) k
  by-pairs = er ∙ ap (λ (rs : List Row). value_of (values_of rs) k) (ap (rows_of f) ew ∙ rows-pairs f t)

  pub pair-told : (v s : ℕ) → r ≡ value.At v s → Told (values_of (pairs f t)) k v s
  pair-told v s e = value-told (values_of (pairs f t)) k v s (sym e ∙ by-pairs)

  pub pair-few : (q : ℕ) → r ≡ value.Few q → (drop k (values_of (pairs f t)) ≡ []) × (q ≡ length (values_of (pairs f t)))
  pair-few q e = value-few (values_of (pairs f t)) k q (sym e ∙ by-pairs)

-- how many samples each of c chunks has
abbrev pub in_chunks : List ℕ → Table → ℕ → List ℕ
in_chunks f t c = take c (values_of (groups f t c))

-- a chunk by stsc
module _ (f : List ℕ) (t : Table) (c : ℕ) (w : Rows) (ew : w ≡ group_rows t c) (k : ℕ) (r : Spot) (er : r ≡ spot_of (per_chunk f w) k) where
  pub by-groups : r ≡ spot_of (in_chunks f t c) k
  by-groups =
      er ∙ ap (λ (x : Rows). spot_of (per_chunk f x) k) ew
      ∙ ap (λ (rs : List Row). spot_of (take c (values_of rs)) k) (rows-groups f t c)

  pub group-few : (q : ℕ) → r ≡ spot.Few q → (sum (in_chunks f t c) ≤ k) × (q ≡ sum (in_chunks f t c))
  group-few q e = spot-few (sum (in_chunks f t c)) 0 (in_chunks f t c) k q (sym e ∙ by-groups)

  pub group-many : (i o : ℕ) → r ≡ spot.At i o → k < sum (in_chunks f t c)
  group-many i o e = spot-many (sum (in_chunks f t c)) 0 (in_chunks f t c) k i o (sym e ∙ by-groups)

-- THE SAMPLES OF A TRACK

module _ (f : List ℕ) (t : Track) where
  abbrev pub lasts : List ℕ
  lasts = values_of (pairs f t.stts)

  abbrev pub lie : List ℕ
  lie = place (values_of (groups f t.stsc t.stco.count)) (chunks f t.stco) (sizes f t.stsz)

  pub count-is : length (samples_of f t) ≡ min (min t.stsz.count (length lasts)) (sum (in_chunks f t.stsc t.stco.count))
  count-is = omega (arith, how-many f t, length-values (pairs f t.stts))

  pub bytes-are : (n : ℕ) → n ≡ length (samples_of f t) → bytes_of (samples_of f t) ≡ span_of f t.stsz 0 n
  unfolding span_of
  bytes-are n e =
      let z : n - 0 ≡ n = omega arith in
      bytes-sizes 0 0 (sizes f t.stsz) lasts lie (shifts f t.ctts) (syncs f t.stss)
      ∙ ap (λ (k : ℕ). sum (take k (sizes f t.stsz))) (sym e)
      ∙ ap sum (take-list (size_at f t.stsz) n t.stsz.count 0 (omega (arith, count-is)))
      ∙ ap (λ (k : ℕ). sum (list_from (size_at f t.stsz) k 0)) (sym z)

  module _ (k z d m o : ℕ) (ds os : List ℕ) (h : k < t.stsz.count) (ez : z ≡ size_at f t.stsz k)
      (ed : drop k lasts ≡ d ∷ ds) (em : m ≡ sum (take k lasts)) (eo : drop k lie ≡ o ∷ os) where
    with-flag : ℕ → ℕ → Bool → Sample
    with-flag n time b =
        record { number = n; offset = o; size = z; time = time; duration = d; composition = signed 4 (shift_at f t.ctts k); sync = b }

    abbrev now-sync : Bool
    now-sync = flag_of (later k 0 (syncs f t.stss)) (0 + k + 1)

    tail : List Sample
    tail =
        zipped (0 + k + 1) (0 + sum (take k lasts) + d) (drop (k + 1) (sizes f t.stsz)) ds os (rest (drop k (shifts f t.ctts)))
        (past_of (later k 0 (syncs f t.stss)) (0 + k + 1))

    read : drop k (samples_of f t) ≡ with-flag (0 + k + 1) (0 + sum (take k lasts)) now-sync ∷ tail
    unfolding with-flag tail
    read =
        next_one k 0 0 (sizes f t.stsz) lasts lie (shifts f t.ctts) (syncs f t.stss) z d o (drop (k + 1) (sizes f t.stsz)) ds os
        (list-cons (size_at f t.stsz) t.stsz.count k h ∙ ap (λ (x : ℕ). x ∷ drop (k + 1) (sizes f t.stsz)) (sym ez)) ed eo

    -- the sample that every table has is in the list
    pub sample-there : There (drop k (samples_of f t)) (sample_at f t k (k + 1) o z m d)
    unfolding with-flag
    sample-there =
        let a : 0 + k + 1 ≡ k + 1 = omega arith in
        let b : 0 + sum (take k lasts) ≡ m = omega (arith, em) in
        let c : now-sync ≡ sync_at (syncs f t.stss) (0 + k + 1) =
        (subst (λ (l : List Sample). All (λ s. s.sync ≡ sync_at (syncs f t.stss) s.number) l) read
        (all_drop (λ s. s.sync ≡ sync_at (syncs f t.stss) s.number) k (samples_of f t) (sync-is f t))).0 in
        record {
          tail = tail;
          is =
              read
              ∙ ap (λ (s : Sample). s ∷ tail)
              (ap (λ (x : Bool). with-flag (0 + k + 1) (0 + sum (take k lasts)) x) c
              ∙ ap₂ (λ (x y : ℕ). with-flag x y (sync_at (syncs f t.stss) x)) a b);
        }

  -- where it lies, by its chunk and the sizes before it there
  module _ (k i w at gone : ℕ) (h : k < t.stsz.count) (r : Spot) (er : r ≡ spot_of (in_chunks f t.stsc t.stco.count) k) (ei : r ≡ spot.At i w) where
    lies : Lies (drop k lie) (offset_at f t.stco) (sizes f t.stsz) k i w
    lies =
        spot-lies (offset_at f t.stco) (sum (in_chunks f t.stsc t.stco.count)) t.stco.count 0 (values_of (groups f t.stsc t.stco.count))
        (sizes f t.stsz) k i w (omega (arith, length-list (size_at f t.stsz) t.stsz.count 0)) (sym ei ∙ er)

    pub few-before : w ≤ k
    few-before = lies.within

    pub place-there : at ≡ offset_at f t.stco i → gone ≡ span_of f t.stsz (k - w) k → Lie (drop k lie) (at + gone)
    unfolding span_of
    place-there ea eg =
        let x : k - (k - w) ≡ w = omega (arith, few-before) in
        let y : gone ≡ sum (take w (drop (k - w) (sizes f t.stsz))) =
        eg ∙ ap (λ (n : ℕ). sum (list_from (size_at f t.stsz) n (k - w))) x
        ∙ sym (ap sum (part-list (size_at f t.stsz) w (k - w) t.stsz.count (omega (arith, few-before)))) in
        record { tail = lies.tail; is = lies.is ∙ sym (ap₂ (λ (a b : ℕ). (a + b) ∷ lies.tail) ea y) }

  -- the sample of a number is the one that has it
  pub flag-there : (k : ℕ) → k < length (samples_of f t) → Flagged (drop k (samples_of f t)) (sync_at (syncs f t.stss) (k + 1))
  flag-there k h =
      let n = numbered-at k 0 0 (sizes f t.stsz) lasts lie (shifts f t.ctts) (syncs f t.stss) h in
      let c : n.head.sync ≡ sync_at (syncs f t.stss) n.head.number =
      (subst (λ (l : List Sample). All (λ s. s.sync ≡ sync_at (syncs f t.stss) s.number) l) n.is
      (all_drop (λ s. s.sync ≡ sync_at (syncs f t.stss) s.number) k (samples_of f t) (sync-is f t))).0 in
      let a : 0 + k + 1 ≡ k + 1 = omega arith in
      record { head = n.head; tail = n.tail; is = n.is; flag = c ∙ ap (λ (x : ℕ). sync_at (syncs f t.stss) x) (n.number ∙ a) }
