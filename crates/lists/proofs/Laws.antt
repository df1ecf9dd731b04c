-- What a walk over the samples left knows, step by step, of all samples. Assumes nothing.
use Rattle.std.specs.Prelude.{Result, Option, Ok, Err, Some, None}
use Prim.Native.Nat.{ℕ, ◌+◌, ◌*◌, ◌/◌, ◌≤◌, ◌<◌}
use mathlib.Core.Path.{◌≡◌, refl, sym, ap, ◌∙◌}
use mathlib.Core.List.{List, [], ◌∷◌}
use mathlib.Core.Bool.{Bool, true, false, ◌&&◌}
use native.Mathlib.Omega.{arith}
use lib.ListN.{length}
use lib.Seq.{sets, length-sets}
use lib.Dec.{leb}
use Rattle.numbers.specs.Field.{when}
use Rattle.numbers.specs.declared.Refusal.TheVariants as refusal
use Rattle.numbers.proofs.Chain.{by-true, by-false, is_le, not-le}
use Rattle.put.proofs.Stores.{sets-append}
use Rattle.samples.specs.Lists.{held, all_held}
use Rattle.samples.specs.Records.{numbers_of, records_of, put_of, output, list_of}
use Rattle.samples.specs.declared.Sample.{Sample}
use Rattle.tables.specs.Samples.{samples_of}
use Rattle.tables.specs.declared.Track.{Track}
use Rattle.tables.proofs.Lengths.{how-many}
use Rattle.samples.proofs.Views.{Stuck}
use Rattle.lists.specs.Count.{count_of, Filled}
use Rattle.numbers.specs.declared.Refusal.{Refusal}

-- WHETHER ALL FIT

module _ (l : List Sample) where
  pub held_none : l ≡ [] → all_held l ≡ true
  held_none e = rw e

  pub held-stuck : Stuck l → all_held l ≡ false
  held-stuck e = ap all_held e.is ∙ ap (λ (b : Bool). b && all_held e.tail) e.not-held

  pub held-rest : (s : Sample) (m : List Sample) → (l ≡ s ∷ m) × (held s ≡ true) → all_held l ≡ all_held m
  held-rest s m e = ap all_held e.0 ∙ ap (λ (b : Bool). b && all_held m) e.1

-- THE COUNT

module _ (l : List Sample) where
  pub count-all : (n : ℕ) → all_held l ≡ true → n ≡ length l → Some n ≡ count_of l
  unfolding count_of
  count-all n h e = by-true _ _ _ (all_held l) h (ap Some e)

  pub count-over : all_held l ≡ false → None ≡ count_of l
  unfolding count_of
  count-over h = by-false _ _ _ (all_held l) h refl

-- n samples of all are done, and l is left
pub record Walk (all l : List Sample) (n : ℕ) : Type 0 where
  pub fit : all_held l ≡ all_held all
  pub many : n + length l ≡ length all

pub begins : (all l : List Sample) → l ≡ all → Walk all l 0
begins all l e = record { fit = ap all_held e; many = omega (arith, ap length e) }

module _ (all l : List Sample) (n : ℕ) (w : Walk all l n) where
  pub goes_on : (s : Sample) (m : List Sample) → (l ≡ s ∷ m) × (held s ≡ true) → Walk all m (n + 1)
  goes_on s m e = record { fit = sym (held-rest l s m e) ∙ w.fit; many = omega (arith, w.many, ap length e.0) }

  pub ends : l ≡ [] → Some n ≡ count_of all
  ends e = count-all all n (sym w.fit ∙ held_none l e) (omega (arith, w.many, ap length e))

  pub stops : Stuck l → None ≡ count_of all
  stops e = count-over all (sym w.fit ∙ held-stuck l e)

-- a track has no more samples than stsz counts
pub few : (f : List ℕ) (t : Track) → length (samples_of f t) ≤ t.stsz.count
few f t = omega (arith, how-many f t)

-- THE LISTING

number_of : Option ℕ → ℕ
number_of (Some n) = n
number_of None = 0

module _ (l : List Sample) where
  pub told : (r : Option ℕ) (n : ℕ) → r ≡ count_of l → r ≡ Some n → (all_held l ≡ true) × (n ≡ length l)
  unfolding count_of when number_of
  told r n e q = cases (all_held l) (sym e ∙ q)
    where
      cases : (b : Bool) → when b (Some (length l)) None ≡ Some n → (b ≡ true) × (n ≡ length l)
      cases true w = (refl, sym (ap number_of w))
      cases false w = let z : ◌≡◌ {A = ℕ} 0 1 = cc in absurd (omega arith)

  pub told_over : (r : Option ℕ) → r ≡ count_of l → r ≡ None → all_held l ≡ false
  unfolding count_of when
  told_over r e q = cases (all_held l) (sym e ∙ q)
    where
      cases : (b : Bool) → when b (Some (length l)) None ≡ None → b ≡ false
      cases true w = let z : ◌≡◌ {A = ℕ} 0 1 = cc in absurd (omega arith)
      cases false w = refl

  module _ (o : List ℕ) where
    pub list_over : all_held l ≡ false → output (Err refusal.Overflow) o ≡ list_of l o
    list_over h = by-false _ _ _ (all_held l) h refl

    pub list-small : (n : ℕ) → (all_held l ≡ true) × (n ≡ length l) → length o / 7 < n → output (Err (refusal.TooSmall n)) o ≡ list_of l o
    list-small n h k =
        by-true _ _ _ (all_held l) h.0 (not-le _ _ _ (length l * 7) (length o) (omega (arith, k, h.1)) (ap (λ (j : ℕ). output (Err (refusal.TooSmall j)) o) h.1))

    pub list_all : (n : ℕ) (q : List ℕ) → (all_held l ≡ true) × (n ≡ length l) → n ≤ length o / 7 → q ≡ sets o 0 (records_of l) → output (Ok n) q ≡ list_of l o
    list_all n q h k e =
        by-true _ _ _ (all_held l) h.0 (is_le _ _ _ (length l * 7) (length o) (omega (arith, k, h.1)) (ap (λ (j : ℕ). output (Ok j) q) h.1 ∙ ap (output (Ok (length l))) e))

-- a record more: what is stored, and then the records after it
pub put-room : (o : List ℕ) (i : ℕ) (s : Sample) → i < length o / 7 → put_of o i s ≡ sets o (i * 7) (numbers_of s)
unfolding put_of
put-room o i s h = sym (is_le _ _ _ (i * 7 + 7) (length o) (omega arith) refl)

pub put-length : (o : List ℕ) (i : ℕ) (s : Sample) → length (put_of o i s) ≡ length o
unfolding put_of when
put-length o i s = cases (leb (i * 7 + 7) (length o))
  where
    cases : (b : Bool) → length (when b (sets o (i * 7) (numbers_of s)) o) ≡ length o
    cases true = length-sets o (i * 7) (numbers_of s)
    cases false = refl

pub put-more : (o : List ℕ) (i : ℕ) (s : Sample) (m : List Sample) → i < length o / 7 → sets (put_of o i s) ((i + 1) * 7) (records_of m) ≡ sets o (i * 7) (records_of (s ∷ m))
put-more o i s m h =
    let e : (i + 1) * 7 ≡ i * 7 + length (numbers_of s) = omega arith in
    ap (λ (p : List ℕ). sets p ((i + 1) * 7) (records_of m)) (put-room o i s h)
    ∙ ap (λ (k : ℕ). sets (sets o (i * 7) (numbers_of s)) k (records_of m)) e
    ∙ sets-append o (i * 7) (numbers_of s) (records_of m)

-- i of all samples are put: p is the buffer, which was o, and l is left
pub record Filling (all l : List Sample) (o p : List ℕ) (i : ℕ) : Type 0 where
  pub walk : Walk all l i
  pub same : length p ≡ length o
  pub then : length all ≤ length o / 7 → sets p (i * 7) (records_of l) ≡ sets o 0 (records_of all)

pub fills : (all l : List Sample) (o : List ℕ) → l ≡ all → Filling all l o o 0
fills all l o e = record { walk = begins all l e; same = refl; then = λ h. ap (λ (m : List Sample). sets o 0 (records_of m)) e }

module _ (all l : List Sample) (o p : List ℕ) (i : ℕ) (w : Filling all l o p i) where
  pub fills-on : (s : Sample) (m : List Sample) (q : List ℕ) → (l ≡ s ∷ m) × (held s ≡ true) → q ≡ put_of p i s → Filling all m o q (i + 1)
  fills-on s m q e g =
      record {
        walk = goes_on all l i w.walk s m e;
        same = ap length g ∙ put-length p i s ∙ w.same;
        then = λ room.
            let h : i < length p / 7 = omega (arith, w.walk.many, ap length e.0, room, w.same) in
            ap (λ (r : List ℕ). sets r ((i + 1) * 7) (records_of m)) g ∙ put-more p i s m h ∙ ap (λ (k : List Sample). sets p (i * 7) (records_of k)) (sym e.0) ∙ w.then room;
      }

  pub fills-end : l ≡ [] → (Some i ≡ count_of all) × Filled all o p
  fills-end e = (
    ends all l i w.walk e,
    λ room h. sym (ap (λ (k : List Sample). sets p (i * 7) (records_of k)) e) ∙ w.then room,
  )

  pub fills-not : Stuck l → (None ≡ count_of all) × Filled all o p
  fills-not e = (stops all l i w.walk e, λ room h. absurd (never h))
    where
      never : all_held all ≡ true → ⊥
      never h =
          let z : true ≡ false = sym h ∙ sym w.walk.fit ∙ held-stuck l e in
          let y : ◌≡◌ {A = ℕ} 0 1 = cc in
          omega arith

-- the listing, where all fit and have room
pub lists-all : (l : List Sample) (o p : List ℕ) (n : ℕ) → Filled l o p → (all_held l ≡ true) × (n ≡ length l) → n ≤ length o / 7 → output (Ok n) p ≡ list_of l o
lists-all l o p n f h k = list_all l o n p h k (f (omega (arith, k, h.1)) h.0)
