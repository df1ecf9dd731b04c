-- The loops over tracks, track by track, and the sum over payloads. Assumes nothing.
use Rattle.std.specs.Prelude.{Option, Some, None}
use Prim.Native.Nat.{ℕ, ◌+◌, ◌-◌, ◌<◌, ◌≤◌, ◌^◌, min}
use mathlib.Core.Path.{◌≡◌, refl, sym, ap, ap₂, ◌∙◌}
use mathlib.Core.List.{List, [], ◌∷◌}
use mathlib.Core.Bool.{Bool, true, false, ◌||◌}
use native.Mathlib.Omega.{arith}
use lib.ListN.{length, take, drop, get_or}
use lib.Dec.{ltb}
use borrow.Author.Tests.{lt-ltb, le-ltb}
use Rattle.numbers.specs.Field.{when}
use Rattle.numbers.proofs.Chain.{is_lt, not-lt}
use Rattle.tables.specs.declared.Track.{Track}
use Rattle.agree.specs.Agree.{agree_of}
use Rattle.verdicts.specs.Findings.{Answer, passes, found, F1, asked, first_found, Span}
use Rattle.verdicts.specs.Sweep.{bytes}
use Rattle.verdicts.specs.declared.Finding.{Finding}
use Rattle.movie.specs.Movie.{has_samples}
use Rattle.movie.specs.Inside.{media_of, agreement, agreed}
use Rattle.movie.proofs.Rows.{at_row, no_row}
use Rattle.movie.proofs.Asked.{first_stops, first_goes}

-- F1

module _ (f : List ℕ) (n : ℕ) (t : Track) (b : Bool) (e : b ≡ agree_of f t) where
  pub agrees : b ≡ true → None ≡ asked (agreement f n t)
  unfolding agreement when
  agrees q = ap asked (sym (ap (λ (x : Bool). when x passes (found (F1 n))) (sym e ∙ q)))

  pub differs : b ≡ false → Some (F1 n) ≡ asked (agreement f n t)
  unfolding agreement when
  differs q = ap asked (sym (ap (λ (x : Bool). when x passes (found (F1 n))) (sym e ∙ q)))

module _ (f : List ℕ) (ns : List ℕ) (ts : List Track) (count : ℕ) where
  -- what is asked from track i on
  abbrev pub onward : ℕ → Answer
  onward i = first_found (agreed f (drop i (take count ns)) (drop i (take count ts)))

  module _ (i : ℕ) where
    pub agreed-none : length ns ≡ 4 → length ts ≡ 4 → min count 4 ≤ i → None ≡ asked (onward i)
    agreed-none h k g = sym (ap₂ (λ (x : List ℕ) (y : List Track). asked (first_found (agreed f x y))) (no_row ns count i g h) (no_row ts count i g k))

    module _ (d : Track) (c : i < count) (h : i < length ns) (k : i < length ts) (r : Option Finding) (e : r ≡ asked (agreement f (get_or ns i 0) (get_or ts i d))) where
      rest : List Answer
      rest = agreed f (drop (i + 1) (take count ns)) (drop (i + 1) (take count ts))

      one_more : onward i ≡ first_found (agreement f (get_or ns i 0) (get_or ts i d) ∷ rest)
      unfolding rest
      one_more = ap₂ (λ (x : List ℕ) (y : List Track). first_found (agreed f x y)) (at_row ns count i 0 c h) (at_row ts count i d c k)

      pub agreed-stops : (x : Finding) → r ≡ Some x → Some x ≡ asked (onward i)
      agreed-stops x q = first_stops (agreement f (get_or ns i 0) (get_or ts i d)) r e rest x q ∙ ap asked (sym one_more)

      pub agreed-goes : r ≡ None → onward (i + 1) ≡ onward i
      unfolding rest
      agreed-goes q = first_goes (agreement f (get_or ns i 0) (get_or ts i d)) r e rest q ∙ sym one_more

-- SAMPLES IN THE TABLES

module _ (ts : List Track) (count : ℕ) where
  abbrev pub some : ℕ → Bool
  some i = has_samples (drop i (take count ts))

  module _ (i : ℕ) where
    pub some-none : length ts ≡ 4 → min count 4 ≤ i → false ≡ some i
    some-none k g = sym (ap has_samples (no_row ts count i g k))

    module _ (d : Track) (c : i < count) (k : i < length ts) where
      some_more : some i ≡ ltb 0 (get_or ts i d).stsz.count || some (i + 1)
      some_more = ap has_samples (at_row ts count i d c k)

      pub some-here : 0 < (get_or ts i d).stsz.count → true ≡ some i
      some-here h = sym (some_more ∙ ap (λ (b : Bool). b || some (i + 1)) (lt-ltb 0 (get_or ts i d).stsz.count h))

      pub some-later : (get_or ts i d).stsz.count ≤ 0 → some (i + 1) ≡ some i
      some-later h = sym (some_more ∙ ap (λ (b : Bool). b || some (i + 1)) (le-ltb 0 (get_or ts i d).stsz.count h))

-- THE MEDIA DATA

module _ (m all : List Span) (sum : ℕ) (w : sum + bytes m ≡ bytes all) where
  pub media-all : sum < 2 ^ 64 → m ≡ [] → Some sum ≡ media_of (bytes all)
  unfolding media_of when
  media-all h e =
      let q : sum ≡ bytes all = omega (arith, w, ap bytes e) in
      is_lt _ _ _ (bytes all) (2 ^ 64) (omega (arith, q, h)) (ap Some q)

  module _ (c : Span) (l : List Span) (e : c ∷ l ≡ m) where
    pub media-over : (2 ^ 64 - 1) - sum < c.to - c.from → sum < 2 ^ 64 → None ≡ media_of (bytes all)
    unfolding media_of when
    media-over h k = not-lt _ _ _ (bytes all) (2 ^ 64) (omega (arith, w, h, ap bytes e)) refl

    pub media-more : (sum + (c.to - c.from)) + bytes l ≡ bytes all
    media-more = omega (arith, w, ap bytes e)

    pub media-less : length l < length m
    media-less = omega (arith, ap length e)
