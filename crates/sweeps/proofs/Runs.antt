-- A run of one track's samples: below where any other track has one, they are taken one after the other. Assumes nothing.
use Prim.Native.Nat.{ℕ, zero, suc, ◌+◌, ◌≤◌, ◌<◌}
use mathlib.Core.Path.{◌≡◌, refl, sym, ap, ap₂, ◌∙◌, subst}
use mathlib.Core.List.{List, [], ◌∷◌}
use mathlib.Core.Bool.{Bool, true, false}
use native.Mathlib.Omega.{arith}
use lib.ListN.{get_or, length, set, length-set}
use lib.Dec.{ltb, eqb}
use borrow.Author.Tests.{eqb-true, le-ltb, eq-eqb}
use Rattle.numbers.specs.Field.{when}
use Rattle.numbers.proofs.Chain.{is_ne, is_le}
use Rattle.samples.specs.declared.Sample.{Sample}
use Rattle.verdicts.specs.Findings.{Track, track, samples_of, Claim, claim, Span}
use Rattle.verdicts.specs.Sweep.{below, heads, advance, go, take, step, sweep_from}
use Rattle.verdicts.proofs.Steps.{sweep-goes}
use Rattle.payloads.specs.Payloads.{span}
use Rattle.sweeps.specs.Heads.{Later, Beyond, Passing}

-- LISTS

pub set-set : (ts : List Track) (i : ℕ) (x y : Track) → set (set ts i x) i y ≡ set ts i y
set-set [] i x y = refl
set-set (t ∷ ts) zero x y = refl
set-set (t ∷ ts) (suc i) x y = ap (λ (z : List Track). t ∷ z) (set-set ts i x y)

pub get_set : (ts : List Track) (i : ℕ) (x d : Track) → i < length ts → get_or (set ts i x) i d ≡ x
get_set [] i x d h = absurd (omega arith)
get_set (t ∷ ts) zero x d h = refl
get_set (t ∷ ts) (suc i) x d h = get_set ts i x d (omega arith)

set_same : (ts : List Track) (i : ℕ) (x d : Track) → get_or ts i d ≡ x → set ts i x ≡ ts
set_same [] i x d e = refl
set_same (t ∷ ts) zero x d e = ap (λ (z : Track). z ∷ ts) (sym e)
set_same (t ∷ ts) (suc i) x d e = ap (λ (z : List Track). t ∷ z) (set_same ts i x d e)

-- the track itself is no matter
pub beyond-set : (b i t : ℕ) (y : Track) (ts : List Track) (j : ℕ) → t ≡ i + j → Beyond b i t ts → Beyond b i t (set ts j y)
beyond-set b i t y [] j e w = tt
beyond-set b i t y (x ∷ ts) zero e w = (λ o. absurd (o (omega (arith, e))), w.1)
beyond-set b i t y (x ∷ ts) (suc j) e w = (w.0, beyond-set b (suc i) t y ts j (omega (arith, e)) w.1)

-- ONE SAMPLE

-- what is asked of the tracks ts at p: nothing starts below it, the heads are cs, and us is left
abbrev At : ℕ → List Track → List Claim → List Track → Type 0
At p ts cs us = (below p ts ≡ []) × (heads p ts ≡ cs) × (advance p ts ≡ us)

module _ (p b : ℕ) (near : p < b) where
  -- a track whose next sample starts later
  later-on : (n : ℕ) (a : Bool) (s : Sample) (l : List Sample) (ts : List Track) (cs : List Claim) (us : List Track) → ltb s.offset p ≡ false → eqb s.offset p ≡ false
      → At p ts cs us → At p (track n a (s ∷ l) ∷ ts) cs (track n a (s ∷ l) ∷ us)
  unfolding when
  later-on n a s l ts cs us f e i = (
    ap (λ (z : Bool). when z (claim n s ∷ below p ts) (below p ts)) f ∙ i.0,
    ap (λ (z : Bool). when z (claim n s ∷ heads p ts) (heads p ts)) e ∙ i.1,
    ap (λ (z : Bool). track n a (when z l (s ∷ l)) ∷ advance p ts) e ∙ ap (λ (z : List Track). track n a (s ∷ l) ∷ z) i.2,
  )

  passes-by : (x : Track) (ts : List Track) (cs : List Claim) (us : List Track) → Later b x → At p ts cs us → At p (x ∷ ts) cs (x ∷ us)
  passes-by (track n a []) ts cs us w i = (i.0, i.1, ap (λ (z : List Track). track n a [] ∷ z) i.2)
  passes-by (track n a (s ∷ l)) ts cs us w i = cases (eqb s.offset p) refl
    where
      cases : (y : Bool) → eqb s.offset p ≡ y → At p (track n a (s ∷ l) ∷ ts) cs (track n a (s ∷ l) ∷ us)
      cases true e = absurd (omega (arith, eqb-true s.offset p e, w, near))
      cases false e = later-on n a s l ts cs us (le-ltb s.offset p (omega (arith, w, near))) e i

  all-later : (i t : ℕ) (ts : List Track) → t < i → Beyond b i t ts → At p ts [] ts
  all-later i t [] h w = (refl, refl, refl)
  all-later i t (x ∷ ts) h w = passes-by x ts [] ts (w.0 (λ e. omega (arith, e, h))) (all-later (suc i) t ts (omega arith) w.1)

  -- the track whose sample is taken
  here : (n : ℕ) (a : Bool) (s : Sample) (l : List Sample) (ts : List Track) → ltb s.offset p ≡ false → eqb s.offset p ≡ true
      → At p ts [] ts → At p (track n a (s ∷ l) ∷ ts) (claim n s ∷ []) (track n a l ∷ ts)
  unfolding when
  here n a s l ts f e i = (
    ap (λ (z : Bool). when z (claim n s ∷ below p ts) (below p ts)) f ∙ i.0,
    ap (λ (z : Bool). when z (claim n s ∷ heads p ts) (heads p ts)) e ∙ ap (λ (z : List Claim). claim n s ∷ z) i.1,
    ap (λ (z : Bool). track n a (when z l (s ∷ l)) ∷ advance p ts) e ∙ ap (λ (z : List Track). track n a l ∷ z) i.2,
  )

  module _ (d : Track) (n : ℕ) (a : Bool) (s : Sample) (l : List Sample) (o : s.offset ≡ p) where
    one_at : (i t : ℕ) (ts : List Track) (j : ℕ) → t ≡ i + j → j < length ts → get_or ts j d ≡ track n a (s ∷ l) → Beyond b i t ts
        → At p ts (claim n s ∷ []) (set ts j (track n a l))
    one_at i t [] j q h e w = absurd (omega arith)
    one_at i t (x ∷ ts) zero q h e w =
        subst (λ (z : Track). At p (z ∷ ts) (claim n s ∷ []) (track n a l ∷ ts)) (sym e)
        (here n a s l ts (le-ltb s.offset p (omega (arith, o))) (eq-eqb s.offset p o) (all-later (suc i) t ts (omega (arith, q)) w.1))
    one_at i t (x ∷ ts) (suc j) q h e w =
        passes-by x ts (claim n s ∷ []) (set ts j (track n a l)) (w.0 (λ z. omega (arith, z, q))) (one_at (suc i) t ts j (omega (arith, q)) (omega arith) e w.1)

    -- it is taken
    pub goes_on : (all m : List Span) (e : ℕ) (ts : List Track) (t : ℕ) → b ≤ e → p + s.size ≤ e → t < length ts → get_or ts t d ≡ track n a (s ∷ l) → Beyond b 0 t ts
        → sweep_from all (span p e ∷ m) ts ≡ sweep_from all (span (p + s.size) e ∷ m) (set ts t (track n a l))
    goes_on all m e ts t be fits h g w =
        let i = one_at 0 t ts t (omega arith) h g w in
        sweep-goes all (span p e ∷ m) ts (span (p + s.size) e ∷ m) (set ts t (track n a l))
        (sym (is_ne _ _ _ p e (λ z. omega (arith, z, near, be)) (sym (ap₂ (take all (span p e) m ts) i.0 i.1)))
        ∙ sym (is_le _ _ _ (p + s.size) e fits refl)
        ∙ ap (λ (z : List Track). go (span (p + s.size) e ∷ m) z) i.2)

-- A RUN

pub starts : (b e p : ℕ) (y : Track) → p ≤ e → Passing b e p y p y
starts b e p y h = record {
  stays = h;
  fewer = omega arith;
  goes = λ all m ts t d l q w. ap (λ (z : List Track). sweep_from all (span p e ∷ m) z) (sym (set_same ts t y d q));
}

module _ (b e p : ℕ) (y : Track) (q : ℕ) (z : Track) (pass : Passing b e p y q z) where
  pub goes_further : (n : ℕ) (a : Bool) (s : Sample) (l : List Sample) → z ≡ track n a (s ∷ l) → s.offset ≡ q → q < b → b ≤ e → q + s.size ≤ e
      → Passing b e p y (q + s.size) (track n a l)
  goes_further n a s l is o near be fits = record {
    stays = fits;
    fewer = omega (arith, pass.fewer, ap (λ (x : Track). length (samples_of x)) is);
    goes = λ all m ts t d h g w.
        pass.goes all m ts t d h g w
        ∙ goes_on q b near d n a s l o all m e (set ts t z) t be fits (omega (arith, length-set ts t z, h)) (get_set ts t z d h ∙ is) (beyond-set b 0 t z ts t (omega arith) w)
        ∙ ap (λ (x : List Track). sweep_from all (span (q + s.size) e ∷ m) x) (set-set ts t z (track n a l));
  }
