-- One sample as a record, by what a lookup tells of it and whether it is sync. Assumes nothing.
use Rattle.std.specs.Prelude.{Ok, Err}
use Prim.Native.Nat.{ℕ, zero, suc}
use mathlib.Core.Path.{◌≡◌, refl, sym, ap, ap₂, ◌∙◌}
use mathlib.Core.List.{List, [], ◌∷◌}
use mathlib.Core.Bool.{Bool, true, false, ◌&&◌}
use native.Mathlib.Omega.{arith}
use lib.ListN.{length, drop}
use lib.Seq.{sets}
use lib.Dec.{leb}
use Rattle.numbers.specs.Field.{when}
use Rattle.numbers.specs.declared.Refusal.TheVariants as refusal
use Rattle.numbers.specs.declared.Refusal.{Refusal}
use Rattle.samples.specs.Lists.{held, located, first_of, lookup_of}
use Rattle.samples.specs.Records.{output, numbers_of, put_of, list_of}
use Rattle.samples.specs.declared.Sample.{Sample}
use Rattle.samples.specs.declared.Located.{Located}
use Rattle.lookup.specs.Lookup.{flagged, sync_of}
use Rattle.tracksamples.specs.TrackSamples.{alone, one_of, sample_by, recorded}
use Rattle.tracksamples.proofs.Numbers.{Numbered}

-- A SAMPLE BY ITSELF

module _ (s : Sample) (o : List ℕ) where
  pub listed-unfit : held s ≡ false → output (Err refusal.Overflow) o ≡ list_of (s ∷ []) o
  unfolding when
  listed-unfit h = sym (ap (λ (b : Bool). when (b && true) (when (leb 7 (length o)) (output (Ok 1) (sets o 0 (numbers_of s))) (output (Err (refusal.TooSmall 1)) o)) (output (Err refusal.Overflow) o)) h)

  pub listed-fit : held s ≡ true → recorded o s ≡ list_of (s ∷ []) o
  unfolding when put_of
  listed-fit h =
      cases (leb 7 (length o))
      ∙ sym (ap (λ (b : Bool). when (b && true) (when (leb 7 (length o)) (output (Ok 1) (sets o 0 (numbers_of s))) (output (Err (refusal.TooSmall 1)) o)) (output (Err refusal.Overflow) o)) h)
    where
      cases : (b : Bool) → when b (output (Ok 1) (when b (sets o 0 (numbers_of s)) o)) (output (Err (refusal.TooSmall 1)) o)
          ≡ when b (output (Ok 1) (sets o 0 (numbers_of s))) (output (Err (refusal.TooSmall 1)) o)
      cases true = refl
      cases false = refl

-- THE FIRST OF A LIST

-- where nothing is found, the refusal is the lookup's
first-refused : (k : ℕ) (l : List Sample) (o : List ℕ) (q : Refusal) → Err q ≡ first_of k l → output (Err q) o ≡ alone k l o
unfolding when
first-refused k [] o q e = let p : q ≡ refusal.NoSample k = cc e in ap (λ (x : Refusal). output (Err x) o) p
first-refused k (s ∷ l) o q e = cases (held s) refl e
  where
    cases : (b : Bool) → held s ≡ b → Err q ≡ when b (Ok (located s)) (Err refusal.Overflow) → output (Err q) o ≡ list_of (s ∷ []) o
    cases true h g = let z : ◌≡◌ {A = ℕ} 0 1 = cc g in absurd (omega arith)
    cases false h g = let p : q ≡ refusal.Overflow = cc g in ap (λ (x : Refusal). output (Err x) o) p ∙ listed-unfit s o h

-- where a sample is found, it is sync or not
first-told : (k : ℕ) (l : List Sample) (p : Located) (q : Refusal) → Ok p ≡ first_of k l → Err q ≡ flagged k l → ⊥
first-told k [] p q e g = let z : ◌≡◌ {A = ℕ} 0 1 = cc e in absurd (omega arith)
first-told k (s ∷ l) p q e g = let z : ◌≡◌ {A = ℕ} 0 1 = cc g in absurd (omega arith)

-- where both are told, they are the first sample's
first-put : (k : ℕ) (l : List Sample) (o : List ℕ) (p : Located) (b : Bool) → ((s : Sample) (m : List Sample) → l ≡ s ∷ m → s.number ≡ k)
    → Ok p ≡ first_of k l → Ok b ≡ flagged k l → recorded o (sample_by k p b) ≡ alone k l o
unfolding when
first-put k [] o p b n e g = let z : ◌≡◌ {A = ℕ} 0 1 = cc e in absurd (omega arith)
first-put k (s ∷ l) o p b n e g = cases (held s) refl e
  where
    cases : (h : Bool) → held s ≡ h → Ok p ≡ when h (Ok (located s)) (Err refusal.Overflow) → recorded o (sample_by k p b) ≡ list_of (s ∷ []) o
    cases true h d =
        let ep : p ≡ located s = cc d in
        let eb : b ≡ s.sync = cc g in
        ap (λ (x : ℕ). recorded o (sample_by x p b)) (sym (n s l refl)) ∙ ap₂ (λ (x : Located) (y : Bool). recorded o (sample_by s.number x y)) ep eb
        ∙ listed-fit s o h
    cases false h d = let z : ◌≡◌ {A = ℕ} 0 1 = cc d in absurd (omega arith)

-- THE SAMPLE OF A NUMBER

module _ (l : List Sample) (o : List ℕ) where
  pub one-refused : (n : ℕ) (q : Refusal) → Err q ≡ lookup_of l n → output (Err q) o ≡ one_of l n o
  unfolding lookup_of one_of
  one-refused zero q e = let p : q ≡ refusal.NoSample 0 = cc e in ap (λ (x : Refusal). output (Err x) o) p
  one-refused (suc n) q e = first-refused (suc n) (drop n l) o q e

  pub one_told : (n : ℕ) (p : Located) (q : Refusal) → Ok p ≡ lookup_of l n → Err q ≡ sync_of l n → ⊥
  unfolding lookup_of sync_of
  one_told zero p q e g = let z : ◌≡◌ {A = ℕ} 0 1 = cc in absurd (omega arith)
  one_told (suc n) p q e g = first-told (suc n) (drop n l) p q e g

  pub one-put : Numbered l → (n : ℕ) (p : Located) (b : Bool) → Ok p ≡ lookup_of l n → Ok b ≡ sync_of l n → recorded o (sample_by n p b) ≡ one_of l n o
  unfolding lookup_of sync_of one_of
  one-put m zero p b e g = let z : ◌≡◌ {A = ℕ} 0 1 = cc in absurd (omega arith)
  one-put m (suc n) p b e g = first-put (suc n) (drop n l) o p b (λ s k i. omega (arith, m n s k i)) e g
