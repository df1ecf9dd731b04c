-- A reader's returns, field by field: each law takes the proof of what comes after. Any width, any answer type.
-- Assumes nothing.
use Rattle.std.specs.Prelude.{Result, Ok, Err}
use mathlib.Core.Path.{◌≡◌, refl, sym, ap, ◌∙◌}
use mathlib.Core.List.{List}
use mathlib.Core.Bool.{Bool, true, false}
use mathlib.Core.Logic.{◌⊎◌, inl, inr, ⊎_elim}
use Prim.Native.Nat.{ℕ, ◌+◌, ◌<◌, ◌≤◌}
use native.Mathlib.Omega.{arith}
use lib.ListN.{length}
use lib.Dec.{eqb, ltb, leb}
use borrow.Author.Tests.{eq-eqb, ne_eqb, lt-ltb, le-ltb, le-leb, lt-leb, leb-true, leb-false}
use Rattle.numbers.specs.Number.{be}
use Rattle.numbers.specs.Field.{when, fits, field}
use Rattle.numbers.specs.declared.Refusal.TheVariants as refusal
use Rattle.numbers.specs.declared.Refusal.{Refusal}

-- TESTS

module _ {A : Type 0} (x y z : A) where
  pub by-true : (t : Bool) → t ≡ true → z ≡ x → z ≡ when t x y
  unfolding when
  by-true t e q = q ∙ sym (ap (λ v. when v x y) e)

  pub by-false : (t : Bool) → t ≡ false → z ≡ y → z ≡ when t x y
  unfolding when
  by-false t e q = q ∙ sym (ap (λ v. when v x y) e)

  module _ (m k : ℕ) where
    pub is_eq : m ≡ k → z ≡ x → z ≡ when (eqb m k) x y
    is_eq e q = by-true (eqb m k) (eq-eqb m k e) q

    pub is_ne : (m ≡ k → ⊥) → z ≡ y → z ≡ when (eqb m k) x y
    is_ne e q = by-false (eqb m k) (ne_eqb m k e) q

    pub is_lt : m < k → z ≡ x → z ≡ when (ltb m k) x y
    is_lt e q = by-true (ltb m k) (lt-ltb m k e) q

    pub not-lt : k ≤ m → z ≡ y → z ≡ when (ltb m k) x y
    not-lt e q = by-false (ltb m k) (le-ltb m k e) q

    pub is_le : m ≤ k → z ≡ x → z ≡ when (leb m k) x y
    is_le e q = by-true (leb m k) (le-leb m k e) q

    pub not-le : k < m → z ≡ y → z ≡ when (leb m k) x y
    not-le e q = by-false (leb m k) (lt-leb m k e) q

-- by which way a choice was made
pub way : {A : Type 0} (t : Bool) (x y z : A) → when t x y ≡ z → ((t ≡ true) × (x ≡ z)) ⊎ ((t ≡ false) × (y ≡ z))
unfolding when
way true x y z e = inl (refl, e)
way false x y z e = inr (refl, e)

-- a choice is the same under a function
pub through : {A B : Type 0} (f : A → B) (t : Bool) (x y : A) → f (when t x y) ≡ when t (f x) (f y)
unfolding when
through f true x y = refl
through f false x y = refl

-- FIELDS

module _ (w : ℕ) (s : List ℕ) (at : ℕ) where
  -- the field is whole
  pub whole : {A : Type 0} (refused : Refusal → A) (go : ℕ → A) (x : A) (n : ℕ) → at + w ≤ length s → n ≡ be w s at → x ≡ go n → x ≡ field refused w s at go
  unfolding field
  whole refused go x n h e q = is_le _ _ x _ _ h (q ∙ ap go e)

  -- the bytes end in it
  pub ends : {A : Type 0} (refused : Refusal → A) (go : ℕ → A) (x : A) → length s < at + w → x ≡ refused (refusal.Cut at) → x ≡ field refused w s at go
  unfolding field
  ends refused go x h q = not-le _ _ x _ _ h q

  -- by which way a field was gone
  pub field-way : {A : Type 0} (refused : Refusal → A) (go : ℕ → A) (z : A) → field refused w s at go ≡ z →
      ((at + w ≤ length s) × (go (be w s at) ≡ z)) ⊎ ((length s < at + w) × (refused (refusal.Cut at) ≡ z))
  unfolding field
  field-way refused go z e =
      ⊎_elim (λ y. inl (leb-true (at + w) (length s) y.0, y.1)) (λ y. inr (leb-false (at + w) (length s) y.0, y.1))
      (way (fits w s at) (go (be w s at)) (refused (refusal.Cut at)) z e)

-- how an answer type tells a number or a refusal, and what it told
pub record Reader (U : Type 0) : Type 0 where
  pub is : ℕ → U
  pub refused : Refusal → U
  pub told : U → Result ℕ Refusal
  pub some : (n : ℕ) → told (is n) ≡ Ok n
  pub no : (q : Refusal) → told (refused q) ≡ Err q

abbrev pub by-result : Reader (Result ℕ Refusal)
by-result = record { is = Ok; refused = Err; told = λ r. r; some = λ n. refl; no = λ q. refl }

module _ {U : Type 0} (b : Reader U) (w : ℕ) (s : List ℕ) (at : ℕ) (r : U) (e : r ≡ field b.refused w s at b.is) where
  seen : b.told r ≡ field Err w s at Ok
  unfolding field
  seen =
      ap b.told e ∙ through b.told (fits w s at) (b.is (be w s at)) (b.refused (refusal.Cut at))
      ∙ ap (λ a. when (fits w s at) a (b.told (b.refused (refusal.Cut at)))) (b.some (be w s at))
      ∙ ap (λ a. when (fits w s at) (Ok (be w s at)) a) (b.no (refusal.Cut at))

  -- it was read, so it was there
  pub there : (n : ℕ) → r ≡ b.is n → (at + w ≤ length s) × (n ≡ be w s at)
  there n f =
      ⊎_elim (λ y. (y.0, cc y.1)) (λ y. let z : ◌≡◌ {A = ℕ} 0 1 = cc y.1 in absurd (omega arith))
      (field-way w s at Err Ok (Ok n) (sym seen ∙ ap b.told f ∙ b.some n))

  was-cut : (q : Refusal) → r ≡ b.refused q → (length s < at + w) × (q ≡ refusal.Cut at)
  was-cut q f =
      ⊎_elim (λ y. let z : ◌≡◌ {A = ℕ} 0 1 = cc y.1 in absurd (omega arith)) (λ y. (y.0, cc y.1))
      (field-way w s at Err Ok (Err q) (sym seen ∙ ap b.told f ∙ b.no q))

  -- it was refused, so it was cut
  pub lacks : (q : Refusal) → r ≡ b.refused q → length s < at + w
  lacks q f = (was-cut q f).0

  module _ {A : Type 0} (away : Refusal → A) (go : ℕ → A) (x : A) where
    pub has : (n : ℕ) → r ≡ b.is n → x ≡ go n → x ≡ field away w s at go
    has n f q = whole w s at away go x n (there n f).0 (there n f).1 q

    pub has-not : (q : Refusal) → r ≡ b.refused q → x ≡ away q → x ≡ field away w s at go
    has-not q f o = ends w s at away go x (was-cut q f).0 (o ∙ ap away (was-cut q f).1)
