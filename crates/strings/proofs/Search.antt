-- The search for the 0, step by step. Assumes nothing.
use Rattle.std.specs.Prelude.{Some, None}
use mathlib.Core.Path.{◌≡◌, sym, ap, ◌∙◌}
use mathlib.Core.List.{List}
use Prim.Native.Nat.{ℕ, suc, ◌+◌, ◌≤◌, ◌<◌}
use native.Mathlib.Numerals.{add-one}
use lib.ListN.{length, get_or, drop, drop_of_length-le}
use lib.Seq.{drop-cons}
use borrow.Author.Tests.{eq-eqb, ne_eqb}
use Rattle.numbers.specs.Field.{when}
use Rattle.strings.specs.Text.{text_end, text_at}

pub here : (b : List ℕ) (i : ℕ) → i < length b → get_or b i 0 ≡ 0 → Some i ≡ text_at b i
unfolding text_end when
here b i h e =
    sym (ap (λ t. when t (Some i) (text_end (drop (suc i) b) (suc i))) (eq-eqb (get_or b i 0) 0 e)) ∙ sym (ap (λ s. text_end s i) (drop-cons b i 0 h))

pub not-here : (b : List ℕ) (i : ℕ) → i < length b → (get_or b i 0 ≡ 0 → ⊥) → text_at b (i + 1) ≡ text_at b i
unfolding text_end when
not-here b i h e =
    ap (text_at b) (add-one i)
    ∙ sym (ap (λ t. when t (Some i) (text_end (drop (suc i) b) (suc i))) (ne_eqb (get_or b i 0) 0 e)) ∙ sym (ap (λ s. text_end s i) (drop-cons b i 0 h))

pub nowhere : (b : List ℕ) (i : ℕ) → length b ≤ i → None ≡ text_at b i
unfolding text_end
nowhere b i h = sym (ap (λ s. text_end s i) (drop_of_length-le b h))
