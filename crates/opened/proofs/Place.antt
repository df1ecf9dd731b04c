-- The trak at a place, from one trak to the next. Assumes nothing.
use Prim.Native.Nat.{ℕ, zero, suc, ◌+◌, ◌-◌, ◌<◌, ◌≤◌, min}
use mathlib.Core.Path.{◌≡◌, refl, sym, ap, ◌∙◌}
use mathlib.Core.List.{List, [], ◌∷◌}
use mathlib.Core.Bool.{Bool, true, false, not}
use mathlib.Core.Logic.{◌⊎◌, inl, inr, ⊎_elim}
use native.Mathlib.Omega.{arith}
use lib.ListN.{length, get_or}
use lib.Dec.{eqb}
use borrow.Author.Tests.{eqb-true, eqb-false, eq-eqb, ne_eqb}
use Rattle.numbers.specs.Field.{when}
use Rattle.numbers.proofs.Chain.{is_eq, is_ne}
use Rattle.places.specs.Visit.{box_limit}
use Rattle.places.specs.Kinds.{moov, trak}
use Rattle.kin.specs.Kin.{Boxes}
use Rattle.inside.specs.Inside.{in_parent, rows_in, inside_of, child}
use Rattle.traks.specs.Traks.{next_trak}
use Rattle.traks.proofs.Laws.{next-none, next_more}
use Rattle.opened.specs.Opened.{trak_at}
use Rattle.opened.specs.Inside.{goes_on}

-- WHETHER IT GOES ON

pub some : (n : ℕ) → (n ≡ 0 → ⊥) → 0 < n
some zero h = absurd (h refl)
some (suc n) h = omega arith

module _ (row left : ℕ) where
  pub none : row ≡ 0 → false ≡ goes_on row left
  unfolding goes_on
  none h = is_eq _ _ _ row 0 h refl

  pub asked : (row ≡ 0 → ⊥) → not (eqb left 0) ≡ goes_on row left
  unfolding goes_on
  asked h = is_ne _ _ _ row 0 h refl

module _ (row left : ℕ) (b : Bool) (e : b ≡ goes_on row left) where
  pub one_more : b ≡ true → (row ≡ 0 → ⊥) × (0 < left)
  unfolding goes_on when
  one_more q = cases (eqb row 0) (eqb left 0) refl refl (sym e ∙ q)
    where
      never : false ≡ true → ⊥
      never z = let y : ◌≡◌ {A = ℕ} 0 1 = cc z in omega arith

      cases : (x y : Bool) → eqb row 0 ≡ x → eqb left 0 ≡ y → when x false (not y) ≡ true → (row ≡ 0 → ⊥) × (0 < left)
      cases true y h k z = absurd (never z)
      cases false true h k z = absurd (never z)
      cases false false h k z = (eqb-false row 0 h, some left (eqb-false left 0 k))

  pub no_more : b ≡ false → (row ≡ 0) ⊎ (left ≡ 0)
  unfolding goes_on when
  no_more q = cases (eqb row 0) (eqb left 0) refl refl (sym e ∙ q)
    where
      never : true ≡ false → ⊥
      never z = let y : ◌≡◌ {A = ℕ} 0 1 = cc z in omega arith

      cases : (x y : Bool) → eqb row 0 ≡ x → eqb left 0 ≡ y → when x false (not y) ≡ false → (row ≡ 0) ⊎ (left ≡ 0)
      cases true y h k z = inl (eqb-true row 0 h)
      cases false true h k z = inr (eqb-true left 0 k)
      cases false false h k z = absurd (never z)

-- THE WALK

module _ (t : Boxes) (n : ℕ) where
  -- the traks from a row on
  abbrev from : ℕ → List ℕ
  from row = inside_of t n trak (child t n moov 0) row

  -- this trak and those behind it; none where there is none
  abbrev ahead : ℕ → List ℕ
  ahead row = when (eqb row 0) [] (row ∷ from row)

  ahead-is : (before row : ℕ) → row ≡ next_trak t n before → ahead row ≡ from before
  unfolding when
  ahead-is before row e = cases (eqb row 0) refl
    where
      cases : (b : Bool) → eqb row 0 ≡ b → when b [] (row ∷ from row) ≡ from before
      cases true q = sym (next-none t n before row e (eqb-true row 0 q))
      cases false q = sym (next_more t n before row e (eqb-false row 0 q))

  ahead-one : (row : ℕ) → (row ≡ 0 → ⊥) → ahead row ≡ row ∷ from row
  unfolding when
  ahead-one row h = ap (λ (b : Bool). when b [] (row ∷ from row)) (ne_eqb row 0 h)

  ahead_none : (row : ℕ) → row ≡ 0 → ahead row ≡ []
  unfolding when
  ahead_none row h = ap (λ (b : Bool). when b [] (row ∷ from row)) (eq-eqb row 0 h)

  -- the trak so many behind this one is the one that is asked for
  abbrev pub Walking : ℕ → ℕ → ℕ → Type 0
  Walking place left row = get_or (ahead row) left 0 ≡ trak_at t n place

  pub begins : (place row : ℕ) → row ≡ next_trak t n 0 → Walking place place row
  begins place row e = ap (λ (l : List ℕ). get_or l place 0) (ahead-is 0 row e)

  module _ (place left row : ℕ) (w : Walking place left row) where
    pub goes : (next : ℕ) → (row ≡ 0 → ⊥) → 0 < left → next ≡ next_trak t n row → Walking place (left - 1) next
    goes next h k e = cases left k w
      where
        cases : (i : ℕ) → 0 < i → Walking place i row → Walking place (i - 1) next
        cases zero z v = absurd (omega arith)
        cases (suc i) z v =
            let d : suc i - 1 ≡ i = omega arith in
            ap (λ (j : ℕ). get_or (ahead next) j 0) d
            ∙ ap (λ (l : List ℕ). get_or l i 0) (ahead-is row next e) ∙ sym (ap (λ (l : List ℕ). get_or l (suc i) 0) (ahead-one row h)) ∙ v

    pub ends : (row ≡ 0) ⊎ (left ≡ 0) → row ≡ trak_at t n place
    ends h = ⊎_elim no-trak here h
      where
        no-trak : row ≡ 0 → row ≡ trak_at t n place
        no-trak z = z ∙ sym (ap (λ (l : List ℕ). get_or l left 0) (ahead_none row z)) ∙ w

        first : (b : Bool) → eqb row 0 ≡ b → row ≡ get_or (ahead row) 0 0
        first true q = eqb-true row 0 q ∙ sym (ap (λ (l : List ℕ). get_or l 0 0) (ahead_none row (eqb-true row 0 q)))
        first false q = sym (ap (λ (l : List ℕ). get_or l 0 0) (ahead-one row (eqb-false row 0 q)))

        here : left ≡ 0 → row ≡ trak_at t n place
        here z = first (eqb row 0) refl ∙ ap (λ (j : ℕ). get_or (ahead row) j 0) (sym z) ∙ w

-- ITS ROW

module _ (t : Boxes) (kind p : ℕ) where
  rows-most : (k i j : ℕ) → get_or (rows_in t kind p k i) j 0 ≤ i + k
  unfolding rows_in when
  rows-most zero i j = omega arith
  rows-most (suc k) i j = cases (rows_in t kind p k (i + 1)) (rows-most k (i + 1)) (in_parent t kind p i) j
    where
      cases : (l : List ℕ) → ((j : ℕ) → get_or l j 0 ≤ (i + 1) + k) → (b : Bool) (j : ℕ) → get_or (when b ((i + 1) ∷ l) l) j 0 ≤ i + suc k
      cases l h true zero = omega arith
      cases l h true (suc j) = omega (arith, h j)
      cases l h false j = omega (arith, h j)

  pub rows-some : (k i j : ℕ) → j < length (rows_in t kind p k i) → 0 < get_or (rows_in t kind p k i) j 0
  unfolding rows_in when
  rows-some zero i j h = absurd (omega arith)
  rows-some (suc k) i j h = cases (rows_in t kind p k (i + 1)) (rows-some k (i + 1)) (in_parent t kind p i) j h
    where
      cases : (l : List ℕ) → ((j : ℕ) → j < length l → 0 < get_or l j 0) → (b : Bool) (j : ℕ) → j < length (when b ((i + 1) ∷ l) l)
          → 0 < get_or (when b ((i + 1) ∷ l) l) j 0
      cases l g true zero h = omega arith
      cases l g true (suc j) h = g j (omega arith)
      cases l g false j h = g j h

-- a row of the tables, and 1
pub trak-most : (t : Boxes) (n place : ℕ) → trak_at t n place ≤ 4096
trak-most t n place = omega (arith, rows-most t trak (child t n moov 0) (min n box_limit - 0) 0 place)
