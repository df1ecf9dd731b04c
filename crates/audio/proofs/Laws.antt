-- A frequency and its index undo each other. Assumes nothing.
use Rattle.std.specs.Prelude.{Result, Ok, Err}
use mathlib.Core.Path.{◌≡◌, sym, ap, ◌∙◌}
use mathlib.Core.List.{List, [], ◌∷◌}
use mathlib.Core.Bool.{Bool, false}
use mathlib.Core.Logic.{⊎_elim}
use Prim.Native.Nat.{ℕ, suc, ◌-◌, ◌≤◌, ◌<◌}
use native.Mathlib.Omega.{arith}
use lib.Dec.{T, eqb, eqb→eq}
use lib.ListN.{length, get_or}
use borrow.Author.Tests.{eqb-true}
use Rattle.numbers.specs.Field.{when}
use Rattle.numbers.proofs.Chain.{way, is_lt}
use Rattle.numbers.proofs.Table.{at}
use Rattle.audio.specs.Frequencies.{frequencies, frequency_of, place_of, index_of}
use Rattle.numbers.specs.declared.Refusal.{Refusal}

-- an index, its frequency, and the index again: at each of the 13 by one test
abbrev tells : ℕ → Result ℕ Refusal → Bool
tells i (Ok n) = eqb n i
tells i (Err q) = false

told : (i : ℕ) (u : Result ℕ Refusal) → T (tells i u) → u ≡ Ok i
told i (Ok n) t = ap Ok (eqb→eq n i t)
told i (Err q) t = absurd t

pub index_back : (i : ℕ) → i < 13 → index_of (get_or frequencies i 0) ≡ Ok i
unfolding place_of when
index_back i h = told i (index_of (get_or frequencies i 0)) (at (λ i x. tells i (index_of x)) frequencies tt i h)

-- a frequency that has an index is the one of that index
seen : (f : ℕ) (xs : List ℕ) (i k : ℕ) → place_of f xs i ≡ Ok k → (i ≤ k) × (k - i < length xs) × (get_or xs (k - i) 0 ≡ f)
unfolding place_of
seen f [] i k e = let z : ◌≡◌ {A = ℕ} 0 1 = cc in absurd (omega arith)
seen f (x ∷ xs) i k e =
    ⊎_elim (λ y. first (own i k y.1) (eqb-true x f y.0)) (λ y. later (seen f xs (suc i) k y.1))
    (way (eqb x f) (Ok i) (place_of f xs (suc i)) (Ok k) e)
  where
    own : (a b : ℕ) → ◌≡◌ {A = Result _ Refusal} (Ok a) (Ok b) → a ≡ b
    own a b q = cc

    first : i ≡ k → x ≡ f → (i ≤ k) × (k - i < length (x ∷ xs)) × (get_or (x ∷ xs) (k - i) 0 ≡ f)
    first a b = let o : k - i ≡ 0 = omega (arith, a) in (omega (arith, a), rw o (omega arith), rw o b)

    later : (suc i ≤ k) × (k - suc i < length xs) × (get_or xs (k - suc i) 0 ≡ f) → (i ≤ k) × (k - i < length (x ∷ xs)) × (get_or (x ∷ xs) (k - i) 0 ≡ f)
    later y =
        let o : k - i ≡ suc (k - suc i) = omega (arith, y.0) in
        (omega (arith, y.0), rw o (omega (arith, y.1)), rw o y.2)

pub frequency-back : (f i : ℕ) → index_of f ≡ Ok i → frequency_of i ≡ Ok f
frequency-back f i e =
    let s = seen f frequencies 0 i e in let o : i - 0 ≡ i = omega arith in
    sym (is_lt _ _ _ i 13 (omega (arith, s.1)) (ap Ok (sym (sym (ap (λ n. get_or frequencies n 0) o) ∙ s.2))))
