-- The conversions undo each other. Assumes nothing.
use Rattle.numbers.specs.declared.Refusal.{Refusal}
use Rattle.std.specs.Prelude.{Result, Ok, Err}
use mathlib.Core.Path.{◌≡◌, refl, sym, ap, ◌∙◌}
use mathlib.Core.Logic.{⊎_elim}
use Prim.Native.Nat.{ℕ}
use native.Mathlib.Omega.{arith}
use lib.Dec.{eqb}
use borrow.Author.Tests.{eqb-true}
use Rattle.numbers.specs.Field.{when}
use Rattle.numbers.specs.declared.Refusal.TheVariants as refusal
use Rattle.numbers.proofs.Chain.{way}
use Rattle.media.specs.Handlers.{kind_of, letters_of}
use Rattle.media.specs.Entries.{media_of, entry_of}
use Rattle.media.specs.declared.handlers.Kind.{Kind}
use Rattle.media.specs.declared.handlers.Kind.TheVariants.{Video, Audio, Subtitle}
use Rattle.media.specs.declared.entries.Media.{Media}
use Rattle.media.specs.declared.entries.Media.TheVariants.{H264, H265, VP9, AAC, TTXT}

-- a kind, its letters, and the kind again
pub kind-back : (k : Kind) → kind_of (letters_of k) ≡ Ok k
unfolding when
kind-back Video = refl
kind-back Audio = refl
kind-back Subtitle = refl

pub media-back : (m : Media) → media_of (entry_of m) ≡ Ok m
unfolding when
media-back H264 = refl
media-back H265 = refl
media-back VP9 = refl
media-back AAC = refl
media-back TTXT = refl

-- letters that are told a kind are that kind's
pub letters-back : (n : ℕ) (k : Kind) → kind_of n ≡ Ok k → letters_of k ≡ n
letters-back n k e = one Video _ (λ e. one Audio _ (λ e. one Subtitle _ none e) e) e
  where
    none : Err (refusal.Value 0) ≡ Ok k → letters_of k ≡ n
    none q = let z : ◌≡◌ {A = ℕ} 0 1 = cc in absurd (omega arith)

    own : (a b : Kind) → ◌≡◌ {A = Result _ Refusal} (Ok a) (Ok b) → a ≡ b
    own a b q = cc

    one : (a : Kind) (rest : Result _ Refusal) → (rest ≡ Ok k → letters_of k ≡ n) → when (eqb n (letters_of a)) (Ok a) rest ≡ Ok k → letters_of k ≡ n
    one a rest go e =
        ⊎_elim (λ y. ap letters_of (sym (own a k y.1)) ∙ sym (eqb-true n (letters_of a) y.0)) (λ y. go y.1)
        (way (eqb n (letters_of a)) (Ok a) rest (Ok k) e)

pub entry-back : (n : ℕ) (m : Media) → media_of n ≡ Ok m → entry_of m ≡ n
entry-back n m e = one H264 _ (λ e. one H265 _ (λ e. one VP9 _ (λ e. one AAC _ (λ e. one TTXT _ none e) e) e) e) e
  where
    none : Err (refusal.Value 0) ≡ Ok m → entry_of m ≡ n
    none q = let z : ◌≡◌ {A = ℕ} 0 1 = cc in absurd (omega arith)

    own : (a b : Media) → ◌≡◌ {A = Result _ Refusal} (Ok a) (Ok b) → a ≡ b
    own a b q = cc

    one : (a : Media) (rest : Result _ Refusal) → (rest ≡ Ok m → entry_of m ≡ n) → when (eqb n (entry_of a)) (Ok a) rest ≡ Ok m → entry_of m ≡ n
    one a rest go e =
        ⊎_elim (λ y. ap entry_of (sym (own a m y.1)) ∙ sym (eqb-true n (entry_of a) y.0)) (λ y. go y.1)
        (way (eqb n (entry_of a)) (Ok a) rest (Ok m) e)
