-- What becomes of a track's record. Assumes nothing.
use Rattle.std.specs.Prelude.{Result, Ok, Err}
use mathlib.Core.Path.{◌≡◌, refl, ap, ◌∙◌}
use mathlib.Core.List.{List, [], ◌∷◌}
use mathlib.Core.Logic.{⊎_elim}
use Prim.Native.Nat.{ℕ, ◌+◌, ◌<◌, ◌≤◌}
use native.Mathlib.Omega.{arith}
use lib.ListN.{length}
use lib.Dec.{ltb}
use borrow.Author.Tests.{ltb-true}
use Rattle.numbers.specs.Field.{when}
use Rattle.numbers.specs.declared.Refusal.TheVariants as refusal
use Rattle.numbers.specs.declared.Refusal.{Refusal}
use Rattle.numbers.proofs.Chain.{way}
use Rattle.tables.specs.Tables.{sum}
use Rattle.record.specs.Growth.{most, grown_by, holds, added_to, onward, all_to, answer_of, afterwards, Outcome, outcome, outcome_of, whole_of}
use Rattle.record.specs.declared.Track.{Track}

-- IN PLACE

abbrev joined : Outcome → Result Track Refusal
joined (outcome p t) = whole_of p t

same : (t : Track) (a : Result Track Refusal) → whole_of (answer_of a) (afterwards t a) ≡ a
same t (Ok n) = refl
same t (Err q) = refl

-- what is done in place is what is done by value
pub made-whole : (t : Track) (size duration : ℕ) (p : Result (Unit {0}) Refusal) (n : Track) → outcome p n ≡ outcome_of t size duration → whole_of p n ≡ added_to t size duration
made-whole t size duration p n e = ap joined e ∙ same t (added_to t size duration)

kept_by : (t : Track) (a : Result Track Refusal) (q : Refusal) (n : Track) → outcome (Err q) n ≡ outcome (answer_of a) (afterwards t a) → n ≡ t
kept_by t (Ok m) q n e = let z : ◌≡◌ {A = ℕ} 0 1 = cc in absurd (omega arith)
kept_by t (Err r) q n e = cc

-- a refusal leaves the record as it was
pub refused-keeps : (t : Track) (size duration : ℕ) (q : Refusal) (n : Track) → outcome (Err q) n ≡ outcome_of t size duration → n ≡ t
refused-keeps t size duration q n e = kept_by t (added_to t size duration) q n e

-- BY VALUE

-- a record that has a sample more is that record, and there was room for it
pub added_is : (t : Track) (size duration : ℕ) (n : Track) → added_to t size duration ≡ Ok n → (n ≡ grown_by t size duration) × (t.samples < most)
added_is t size duration n e =
    ⊎_elim
    (λ y. some y.1 (ltb-true t.samples most y.0))
    (λ y. lost (refusal.Limit 0) y.1)
    (way (ltb t.samples most) (when (holds t size duration) (Ok (grown_by t size duration)) (Err refusal.Overflow)) (Err (refusal.Limit 0)) (Ok n) e)
  where
    lost : (q : Refusal) → Err q ≡ Ok n → (n ≡ grown_by t size duration) × (t.samples < most)
    lost q f = let z : ◌≡◌ {A = ℕ} 0 1 = cc in absurd (omega arith)

    some : when (holds t size duration) (Ok (grown_by t size duration)) (Err refusal.Overflow) ≡ Ok n → t.samples < most → (n ≡ grown_by t size duration) × (t.samples < most)
    some w h =
        ⊎_elim
        (λ y. let f : ◌≡◌ {A = Result _ Refusal} (Ok (grown_by t size duration)) (Ok n) = y.1 in (cc, h))
        (λ y. lost refusal.Overflow y.1)
        (way (holds t size duration) (Ok (grown_by t size duration)) (Err refusal.Overflow) (Ok n) w)

-- no record has more samples than a track may have
pub added-few : (t : Track) (size duration : ℕ) (n : Track) → added_to t size duration ≡ Ok n → n.samples ≤ most
added-few t size duration n e =
    let k = added_is t size duration n e in
    omega (arith, ap (λ (x : Track). x.samples) k.0, k.1)

-- columns of the same length add their samples, their bytes and their durations
pub all-sums : (t : Track) (ss ds : List ℕ) → length ss ≡ length ds → (n : Track) → all_to t ss ds ≡ Ok n →
    (n.samples ≡ t.samples + length ss) × ((n.bytes ≡ t.bytes + sum ss) × (n.duration ≡ t.duration + sum ds))
unfolding all_to
all-sums t [] [] l n e =
    let same : t ≡ n = cc in
    (omega (arith, ap (λ (x : Track). x.samples) same), (omega (arith, ap (λ (x : Track). x.bytes) same), omega (arith, ap (λ (x : Track). x.duration) same)))
all-sums t [] (d ∷ ds) l n e = absurd (omega (arith, l))
all-sums t (s ∷ ss) [] l n e = absurd (omega (arith, l))
all-sums t (s ∷ ss) (d ∷ ds) l n e = cases (added_to t s d) refl (λ m g. all-sums m ss ds (omega (arith, l)) n g) e
  where
    cases : (a : Result Track Refusal) → added_to t s d ≡ a
        → ((m : Track) → all_to m ss ds ≡ Ok n → (n.samples ≡ m.samples + length ss) × ((n.bytes ≡ m.bytes + sum ss) × (n.duration ≡ m.duration + sum ds)))
        → onward a (λ m. all_to m ss ds) ≡ Ok n →
        (n.samples ≡ t.samples + length (s ∷ ss)) × ((n.bytes ≡ t.bytes + sum (s ∷ ss)) × (n.duration ≡ t.duration + sum (d ∷ ds)))
    cases (Err q) f on g = let z : ◌≡◌ {A = ℕ} 0 1 = cc in absurd (omega arith)
    cases (Ok m) f on g =
        let k = (added_is t s d m f).0 in
        let r = on m g in
        (omega (arith, r.0, ap (λ (x : Track). x.samples) k), (omega (arith, r.1.0, ap (λ (x : Track). x.bytes) k), omega (arith, r.1.1, ap (λ (x : Track). x.duration) k)))
