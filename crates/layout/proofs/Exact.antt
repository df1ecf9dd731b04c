-- One field more of a box that is as we write it. Assumes nothing.
use Rattle.std.specs.Prelude.{Result, Ok, Err}
use mathlib.Core.Path.{◌≡◌, refl, sym, ap, ap₂, ◌∙◌}
use mathlib.Core.List.{List, ◌∷◌}
use mathlib.Core.Bool.{Bool, true, false}
use Prim.Native.Nat.{ℕ, suc, ◌+◌, ◌-◌, ◌≤◌, ◌<◌}
use native.Mathlib.Numerals.{add-one}
use native.Mathlib.Omega.{arith}
use lib.ListN.{length, get_or, drop}
use lib.Seq.{drop-cons, drop-length}
use lib.Dec.{ltb, eqb}
use borrow.Author.Tests.{lt-ltb, le-ltb, eq-eqb, ne_eqb, eqb-true, eqb-false}
use Rattle.numbers.specs.Number.{be}
use Rattle.numbers.specs.Field.{when, number_of}
use Rattle.numbers.specs.declared.Refusal.{Refusal}
use Rattle.numbers.specs.declared.Refusal.TheVariants as refusal
use Rattle.numbers.proofs.Chain.{by-result, there, lacks, is_le}
use Rattle.layout.specs.Rule.{rule_of, refusal_of}
use Rattle.layout.specs.Read.{Got, got, fault, keep, one, decode}
use Rattle.layout.specs.Canonical.{standard, followed, exact, ours}
use Rattle.layout.specs.declared.Field.{Field}
use Rattle.layout.specs.declared.rule.Rule.{Rule}
use Rattle.layout.proofs.Cases.{width_of}

-- a field that is asked for by its rule is read, or it is cut
module _ (r : Rule) (f : Field) (v fl : ℕ) (e : r ≡ rule_of f v fl) (b : List ℕ) (at : ℕ) (u : Result ℕ Refusal) (q : u ≡ number_of r.width b at) where
  pub field-there : (x : ℕ) → u ≡ Ok x → (at + r.width ≤ length b) × (x ≡ be r.width b at)
  field-there x h = there by-result r.width b at u (q ∙ sym (is_le _ _ _ r.width 8 (width_of r f v fl e) refl)) x h

  pub field-lacks : (z : Refusal) → u ≡ Err z → length b < at + r.width
  field-lacks z h = lacks by-result r.width b at u (q ∙ sym (is_le _ _ _ r.width 8 (width_of r f v fl e) refl)) z h

neither : (t : Bool) → when t false false ≡ false
unfolding when
neither true = refl
neither false = refl

kept-followed : (n : ℕ) (b : List ℕ) (x : ℕ) (g : Got) → followed n b (keep true x g) ≡ followed n b g
kept-followed n b x (got vs e) = refl
kept-followed n b x (fault q) = refl

-- the faults of a field come first, by the tests of `one` and of `standard`
sorted : (n : ℕ) (b : List ℕ) (at x : ℕ) (q : Refusal) (short low high kept own s : Bool) (g : Got) →
    when (when kept s (when own s false)) (followed n b (when short (fault (refusal.Cut at)) (when low (fault q) (when high (fault q) (keep kept x g))))) false
    ≡ when short false (when (when low false (when high false (when kept true own))) (when s (followed n b g) false) false)
unfolding when
sorted n b at x q true low high kept own s g = neither (when kept s (when own s false))
sorted n b at x q false true high kept own s g = neither (when kept s (when own s false))
sorted n b at x q false false true kept own s g = neither (when kept s (when own s false))
sorted n b at x q false false false true own s g = ap (λ t. when s t false) (kept-followed n b x g)
sorted n b at x q false false false false true s g = refl
sorted n b at x q false false false false false s g = refl

-- the field first, then those after it
pub exact-step : (f : Field) (fs : List Field) (n : ℕ) (b : List ℕ) (at v fl : ℕ) →
    let r = rule_of f v fl in
    let x = be r.width b at in
    exact (f ∷ fs) n b at v fl ≡ when (ltb (length b) (at + r.width)) false (when (ours r x) (exact fs n b (at + r.width) (when r.version x v) (when r.flags x fl)) false)
unfolding exact standard decode one
exact-step f fs n b at v fl = sorted n b at (be (rule_of f v fl).width b at) (refusal_of (rule_of f v fl) at) _ _ _ _ _ _ _

-- the row from its i-th field on
module _ (layout : List Field) (d : Field) (n : ℕ) (b : List ℕ) (i at v fl : ℕ) (r : Rule) (inside : i < length layout) (e : r ≡ rule_of (get_or layout i d) v fl) where
  opened : (x : ℕ) → x ≡ be r.width b at →
      exact (drop i layout) n b at v fl ≡ when (ltb (length b) (at + r.width)) false (when (ours r x) (exact (drop (suc i) layout) n b (at + r.width) (when r.version x v) (when r.flags x fl)) false)
  opened x q =
      ap (λ l. exact l n b at v fl) (drop-cons layout i d inside) ∙ exact-step (get_or layout i d) (drop (suc i) layout) n b at v fl
      ∙ ap₂ (λ (r : Rule) (x : ℕ). when (ltb (length b) (at + r.width)) false (when (ours r x) (exact (drop (suc i) layout) n b (at + r.width) (when r.version x v) (when r.flags x fl)) false))
      (sym e) (sym (q ∙ ap (λ r. be r.width b at) e))

  pub cut_field : length b < at + r.width → false ≡ exact (drop i layout) n b at v fl
  unfolding when
  cut_field h = sym (opened (be r.width b at) refl ∙ simp (lt-ltb (length b) (at + r.width) h))

  pub other-value : (x : ℕ) → x ≡ be r.width b at → at + r.width ≤ length b → ours r x ≡ false → false ≡ exact (drop i layout) n b at v fl
  unfolding when
  other-value x q h o = sym (opened x q ∙ simp (le-ltb (length b) (at + r.width) h, o))

  pub next_field : (x : ℕ) → x ≡ be r.width b at → at + r.width ≤ length b → ours r x ≡ true → (v' fl' : ℕ) → v' ≡ when r.version x v → fl' ≡ when r.flags x fl →
      exact (drop (i + 1) layout) n b (at + r.width) v' fl' ≡ exact (drop i layout) n b at v fl
  unfolding when
  next_field x q h o v' fl' e1 e2 =
      let go : exact (drop i layout) n b at v fl ≡ exact (drop (suc i) layout) n b (at + r.width) (when r.version x v) (when r.flags x fl) =
      opened x q ∙ simp (le-ltb (length b) (at + r.width) h, o) in
      rw (e1, e2, add-one i) (sym go)

-- behind the last field
pub no-field-left : (layout : List Field) (n : ℕ) (b : List ℕ) (i at v fl : ℕ) → i ≡ length layout → at ≤ length b → eqb (length b - at) n ≡ exact (drop i layout) n b at v fl
unfolding exact standard decode when
no-field-left layout n b i at v fl e h =
    same (eqb (length b - at) n) refl ∙ sym (ap (λ l. exact l n b at v fl) (ap (λ n. drop n layout) e ∙ drop-length layout))
  where
    same : (t : Bool) → eqb (length b - at) n ≡ t → t ≡ eqb (at + n) (length b)
    same true q = sym (eq-eqb (at + n) (length b) (omega (arith, eqb-true (length b - at) n q)))
    same false q = sym (ne_eqb (at + n) (length b) (λ z. eqb-false (length b - at) n q (omega arith)))
