-- What a listing says: where the tables agree there are as many records as stsz counts, record i is the i-th sample's
-- numbers, what lies past the records stays; and a refusal leaves the buffer alone. Assumes nothing.
use Rattle.std.specs.Prelude.{Ok, Err}
use Prim.Native.Nat.{ℕ, zero, suc, ◌+◌, ◌*◌}
use mathlib.Core.Path.{◌≡◌, refl, ap, ◌∙◌}
use mathlib.Core.List.{List, [], ◌∷◌, ◌++◌}
use mathlib.Core.Bool.{Bool, true, false}
use native.Mathlib.Omega.{arith}
use lib.ListN.{length, take, drop, length-append}
use lib.Seq.{sets, sets-eq}
use lib.Dec.{leb}
use borrow.Author.Tests.{leb-true}
use Rattle.numbers.specs.Field.{when}
use Rattle.numbers.specs.declared.Refusal.TheVariants as refusal
use Rattle.numbers.specs.declared.Refusal.{Refusal}
use Rattle.samples.specs.Lists.{all_held}
use Rattle.samples.specs.Records.{numbers_of, records_of, output, list_of}
use Rattle.samples.specs.declared.Sample.{Sample}
use Rattle.tables.specs.Tables.{sum, total, values_of, pairs, groups}
use Rattle.tables.specs.Samples.{samples_of}
use Rattle.tables.specs.declared.Track.{Track}
use Rattle.tables.proofs.Lengths.{how-many}

-- stsz, stts and stsc agree on how many samples there are (F1 has no finding): there are as many
pub agreed : (f : List ℕ) (t : Track) → total (pairs f t.stts) ≡ t.stsz.count
    → sum (take t.stco.count (values_of (groups f t.stsc t.stco.count))) ≡ t.stsz.count
    → length (samples_of f t) ≡ t.stsz.count
agreed f t a b = omega (arith, how-many f t, a, b)

-- RECORDS

pub length-records : (l : List Sample) → length (records_of l) ≡ length l * 7
length-records [] = omega arith
length-records (s ∷ l) = omega (arith, length-append (numbers_of s) (records_of l), length-records l)

-- the records from the i-th on are its numbers, and then the others'
pub nth : (i : ℕ) (l m : List Sample) (s : Sample) (past : List ℕ) → drop i l ≡ s ∷ m → drop (i * 7) (records_of l ++ past) ≡ numbers_of s ++ (records_of m ++ past)
nth zero l m s past e =
    let z : 0 * 7 ≡ 0 = omega arith in
    ap (λ (k : ℕ). drop k (records_of l ++ past)) z ∙ ap (λ (k : List Sample). records_of k ++ past) e
nth (suc i) [] m s past e = let z : ◌≡◌ {A = ℕ} 0 1 = cc in absurd (omega arith)
nth (suc i) (x ∷ l) m s past e =
    let z : suc i * 7 ≡ suc (suc (suc (suc (suc (suc (suc (i * 7))))))) = omega arith in
    ap (λ (k : ℕ). drop k (records_of (x ∷ l) ++ past)) z ∙ nth i l m s past e

-- LISTINGS

-- all is told: how many there are, and the buffer
pub done-is : (l : List Sample) (o q : List ℕ) (n : ℕ) → output (Ok n) q ≡ list_of l o → (n ≡ length l) × (q ≡ records_of l ++ drop (length l * 7) o)
unfolding when
done-is l o q n e = cases (all_held l) (leb (length l * 7) (length o)) refl e
  where
    z : 0 + length (records_of l) ≡ length l * 7
    z = omega (arith, length-records l)

    cases : (a b : Bool) → leb (length l * 7) (length o) ≡ b
        → output (Ok n) q ≡ when a (when b (output (Ok (length l)) (sets o 0 (records_of l))) (output (Err (refusal.TooSmall (length l))) o)) (output (Err refusal.Overflow) o)
        → (n ≡ length l) × (q ≡ records_of l ++ drop (length l * 7) o)
    cases true true h w =
        let g : q ≡ sets o 0 (records_of l) = cc in
        (cc, g ∙ sets-eq (records_of l) o 0 (omega (arith, z, leb-true (length l * 7) (length o) h)) ∙ ap (λ (k : ℕ). records_of l ++ drop k o) z)
    cases true false h w = let y : ◌≡◌ {A = ℕ} 0 1 = cc in absurd (omega arith)
    cases false b h w = let y : ◌≡◌ {A = ℕ} 0 1 = cc in absurd (omega arith)

-- record i of a listing is the i-th sample's numbers
pub record_is : (l m : List Sample) (o q : List ℕ) (n i : ℕ) (s : Sample) → output (Ok n) q ≡ list_of l o → drop i l ≡ s ∷ m → take 7 (drop (i * 7) q) ≡ numbers_of s
record_is l m o q n i s e h =
    ap (λ (r : List ℕ). take 7 (drop (i * 7) r)) (done-is l o q n e).1 ∙ ap (take 7) (nth i l m s (drop (length l * 7) o) h)

-- a refusal leaves the buffer alone
pub refused-keeps : (l : List Sample) (o q : List ℕ) (r : Refusal) → output (Err r) q ≡ list_of l o → q ≡ o
unfolding when
refused-keeps l o q r e = cases (all_held l) (leb (length l * 7) (length o)) e
  where
    cases : (a b : Bool) → output (Err r) q ≡ when a (when b (output (Ok (length l)) (sets o 0 (records_of l))) (output (Err (refusal.TooSmall (length l))) o)) (output (Err refusal.Overflow) o) → q ≡ o
    cases true true w = let y : ◌≡◌ {A = ℕ} 0 1 = cc in absurd (omega arith)
    cases true false w = cc
    cases false b w = cc

-- where the tables agree, a listing has as many records as stsz counts
pub agreed-listing : (f : List ℕ) (t : Track) (o q : List ℕ) (n : ℕ) → total (pairs f t.stts) ≡ t.stsz.count
    → sum (take t.stco.count (values_of (groups f t.stsc t.stco.count))) ≡ t.stsz.count
    → output (Ok n) q ≡ list_of (samples_of f t) o → n ≡ t.stsz.count
agreed-listing f t o q n a b e = (done-is (samples_of f t) o q n e).0 ∙ agreed f t a b
