-- The walk over a column of sizes and one of durations, case by case, over plain variables. Assumes nothing.
use Rattle.std.specs.Prelude.{Result, Ok, Err}
use mathlib.Core.Path.{◌≡◌, sym, ap, ◌∙◌}
use mathlib.Core.List.{List, ◌∷◌}
use Prim.Native.Nat.{ℕ, ◌+◌, ◌<◌, ◌≤◌}
use native.Mathlib.Numerals.{add-one}
use lib.ListN.{length, get_or, drop, drop_of_length-le}
use lib.Seq.{drop-cons}
use Rattle.numbers.specs.declared.Refusal.{Refusal}
use Rattle.record.specs.Growth.{added_to, onward, all_to}
use Rattle.record.specs.declared.Track.{Track}

module _ (t : Track) (ss ds : List ℕ) (i : ℕ) where
  -- what the samples from i on give
  abbrev pub rest : Result Track Refusal
  rest = all_to t (drop i ss) (drop i ds)

  -- there is no size left
  pub no_size : length ss ≤ i → Ok t ≡ rest
  unfolding all_to
  no_size h = sym (ap (λ (l : List ℕ). all_to t l (drop i ds)) (drop_of_length-le ss h))

  module _ (h : i < length ss) where
    next : drop i ss ≡ get_or ss i 0 ∷ drop (i + 1) ss
    next = drop-cons ss i 0 h ∙ ap (λ (k : ℕ). get_or ss i 0 ∷ drop k ss) (sym (add-one i))

    -- there is no duration left
    pub no-duration : length ds ≤ i → Ok t ≡ rest
    unfolding all_to
    no-duration k =
        sym
        (ap (λ (l : List ℕ). all_to t l (drop i ds)) next
        ∙ ap (λ (l : List ℕ). all_to t (get_or ss i 0 ∷ drop (i + 1) ss) l) (drop_of_length-le ds k))

    module _ (k : i < length ds) (told : Result Track Refusal) (e : told ≡ added_to t (get_or ss i 0) (get_or ds i 0)) where
      here : rest ≡ onward told (λ n. all_to n (drop (i + 1) ss) (drop (i + 1) ds))
      unfolding all_to
      here =
          ap (λ (l : List ℕ). all_to t l (drop i ds)) next
          ∙ ap (λ (l : List ℕ). all_to t (get_or ss i 0 ∷ drop (i + 1) ss) l) (drop-cons ds i 0 k ∙ ap (λ (j : ℕ). get_or ds i 0 ∷ drop j ds) (sym (add-one i)))
          ∙ ap (λ (a : Result Track Refusal). onward a (λ n. all_to n (drop (i + 1) ss) (drop (i + 1) ds))) (sym e)

      -- the next sample is refused
      pub refused : (q : Refusal) → told ≡ Err q → Err q ≡ rest
      refused q f = sym (here ∙ ap (λ (a : Result Track Refusal). onward a (λ n. all_to n (drop (i + 1) ss) (drop (i + 1) ds))) f)

      -- it is taken, and the rest stays the same
      pub taken : (n : Track) → told ≡ Ok n → all_to n (drop (i + 1) ss) (drop (i + 1) ds) ≡ rest
      taken n f = sym (here ∙ ap (λ (a : Result Track Refusal). onward a (λ n. all_to n (drop (i + 1) ss) (drop (i + 1) ds))) f)
