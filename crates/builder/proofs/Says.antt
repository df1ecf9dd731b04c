-- What the builders answer, way by way. Assumes nothing.
use Rattle.std.specs.Prelude.{Ok, Err}
use Prim.Native.Nat.{ℕ, zero, suc, ◌+◌, ◌-◌, ◌*◌, ◌^◌, ◌≤◌, ◌<◌}
use mathlib.Core.Path.{◌≡◌, refl, sym, ap, ◌∙◌}
use mathlib.Core.List.{List, [], ◌∷◌}
use mathlib.Core.Bool.{Bool, true, false, not, ◌&&◌}
use native.Mathlib.Omega.{arith}
use lib.ListN.{length}
use lib.Dec.{eqb, leb}
use borrow.Author.Tests.{eq-eqb, leb-true, leb-false, not-true, not-false}
use Rattle.numbers.specs.Field.{when}
use Rattle.numbers.specs.declared.Refusal.TheVariants as refusal
use Rattle.numbers.proofs.Chain.{by-true, by-false, is_eq, is_ne}
use Rattle.put.specs.Put.{Wrote, wrote}
use Rattle.columns.specs.Columns.{column_of, low_at, lows_of, all_meet}
use Rattle.columns.specs.Entries.{words_of, placed_of, built_of, Filled}
use Rattle.columns.specs.declared.Rule.TheVariants.{Zero, Narrow, Signed}
use Rattle.columns.proofs.Written.{placed-done, built-none, built-many, built-unfit, built}
use Rattle.tables.specs.Tables.{list_from}
use Rattle.builder.specs.Built.{all_same, common_of, common_in}

-- no entries are placed in any buffer
pub nothing_placed : (ns o : List ℕ) → ns ≡ [] → wrote (Ok 0) o ≡ placed_of ns o
nothing_placed ns o e =
    placed-done [] o 0 0 o (omega arith) (omega arith) (record { many = refl; same = refl; held = λ h. refl })
    ∙ ap (λ (l : List ℕ). placed_of l o) (sym e)

-- entries that are there but for one case
module _ (t : Bool) (ns o : List ℕ) where
  pub left_out : t ≡ true → wrote (Ok 0) o ≡ placed_of (when t [] ns) o
  left_out e = nothing_placed (when t [] ns) o (sym (by-true [] ns [] t e refl))

  pub not-left-out : (x : Wrote) → t ≡ false → x ≡ placed_of ns o → x ≡ placed_of (when t [] ns) o
  not-left-out x e q = q ∙ ap (λ (l : List ℕ). placed_of l o) (by-false [] ns ns t e refl)

module _ (c : ℕ) (ns o : List ℕ) where
  pub not_listed : (c ≡ 0 → ⊥) → wrote (Ok 0) o ≡ placed_of (when (eqb c 0) ns []) o
  not_listed e = nothing_placed (when (eqb c 0) ns []) o (sym (is_ne ns [] [] c 0 e refl))

  pub is-listed : (x : Wrote) → c ≡ 0 → x ≡ placed_of ns o → x ≡ placed_of (when (eqb c 0) ns []) o
  is-listed x e q = q ∙ ap (λ (l : List ℕ). placed_of l o) (is_eq ns [] ns c 0 e refl)

-- COMMON SIZES

common-first : (rs : List ℕ) (n : ℕ) → 0 < n → common_of (lows_of rs n 2) ≡ when (all_same (low_at rs 2 0) (lows_of rs n 2)) (low_at rs 2 0) 0
common-first rs zero h = absurd (omega arith)
common-first rs (suc n) h =
    ap (λ (b : Bool). when (b && all_same (low_at rs 2 0) (list_from (low_at rs 2) n 1)) (low_at rs 2 0) 0) (sym (eq-eqb (low_at rs 2 0) (low_at rs 2 0) refl))

module _ (rs : List ℕ) (n : ℕ) where
  pub common-empty : n ≡ 0 → 0 ≡ common_in rs n
  unfolding common_in when
  common-empty e = sym (ap (λ (m : ℕ). common_in rs m) e)

  pub common-wide : all_meet Narrow (column_of rs n 2) ≡ false → 0 ≡ common_in rs n
  unfolding common_in
  common-wide e = by-false _ _ _ (all_meet Narrow (column_of rs n 2)) e refl

  module _ (z : n ≡ 0 → ⊥) (e : all_meet Narrow (column_of rs n 2) ≡ true) (x : ℕ) (f : x ≡ low_at rs 2 0) where
    by_first : common_of (lows_of rs n 2) ≡ when (all_same x (lows_of rs n 2)) x 0
    by_first = common-first rs n (omega arith) ∙ ap (λ (y : ℕ). when (all_same y (lows_of rs n 2)) y 0) (sym f)

    pub common-is : all_same x (lows_of rs n 2) ≡ true → x ≡ common_in rs n
    unfolding common_in
    common-is t = by-true _ _ _ (all_meet Narrow (column_of rs n 2)) e (by-true _ _ _ (all_same x (lows_of rs n 2)) t refl ∙ sym by_first)

    pub common-not : all_same x (lows_of rs n 2) ≡ false → 0 ≡ common_in rs n
    unfolding common_in
    common-not t = by-true _ _ _ (all_meet Narrow (column_of rs n 2)) e (by-false _ _ _ (all_same x (lows_of rs n 2)) t refl ∙ sym by_first)

-- ANSWERS

module _ (rs : List ℕ) (n : ℕ) (fit : Bool) (ns o : List ℕ) (has : Bool) (e : has ≡ leb (n * 7) (length rs)) where
  pub says_none : not has ≡ true → wrote (Err (refusal.NoSample n)) o ≡ built_of rs n fit ns o
  says_none t = built-none rs n fit ns o (leb-false (n * 7) (length rs) (sym e ∙ not-true has t))

  module _ (t : not has ≡ false) where
    there : n * 7 ≤ length rs
    there = leb-true (n * 7) (length rs) (sym e ∙ not-false has t)

    pub says-many : 0xffff_ffff < n → wrote (Err refusal.Unwritable) o ≡ built_of rs n fit ns o
    says-many h = built-many rs n fit ns o there (omega arith)

    pub says-unfit : (f : Bool) → n ≤ 0xffff_ffff → f ≡ fit → not f ≡ true → wrote (Err refusal.Unwritable) o ≡ built_of rs n fit ns o
    says-unfit f h g u = built-unfit rs n fit ns o there (omega arith) (sym g ∙ not-true f u)

    pub says : (x : Wrote) (f : Bool) → n ≤ 0xffff_ffff → f ≡ fit → not f ≡ false → x ≡ placed_of ns o → x ≡ built_of rs n fit ns o
    says x f h g u q = built rs n fit ns o x there (omega arith) (sym g ∙ not-false f u) q
