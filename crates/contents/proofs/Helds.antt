-- Numbers held against other boxes, box after box. Assumes nothing.
use Rattle.std.specs.Prelude.{Result, Ok, None}
use mathlib.Core.Path.{◌≡◌, refl, sym, ap, ◌∙◌}
use mathlib.Core.List.{List, [], ◌∷◌}
use mathlib.Core.Bool.{Bool, true, false, ◌&&◌}
use Prim.Native.Nat.{ℕ, zero, suc, ◌+◌, ◌-◌, ◌≤◌, ◌<◌}
use native.Mathlib.Omega.{arith}
use lib.Dec.{eqb, ltb, leb}
use borrow.Author.Tests.{leb-true, ltb-true, ltb-false}
use Rattle.numbers.specs.Field.{when}
use Rattle.numbers.proofs.Chain.{by-true, by-false, is_lt, not-lt}
use Rattle.places.specs.Kinds.{tfhd}
use Rattle.codings.specs.Codings.{Reader, pick, codings, coding_of}
use Rattle.codings.proofs.Picks.{further, unread}
use Rattle.readers.specs.Readers.{readers, fault_of}
use Rattle.keys.proofs.Picks as key
use Rattle.keys.specs.Key.{keys, key_of}
use Rattle.kin.specs.Before.{sum}
use Rattle.kin.specs.Kin.{Boxes, at, stands}
use Rattle.contents.specs.Held.{key_at, number_in, track_from}
use Rattle.numbers.specs.declared.Refusal.{Refusal}

-- TWO TESTS

module _ (z b : Bool) (t : Bool) where
  pub and-true : t ≡ true → z ≡ b → z ≡ ◌&&◌ t b
  and-true e q = q ∙ sym (ap (λ t. ◌&&◌ t b) e)

pub and-false : (t b : Bool) → t ≡ false → false ≡ ◌&&◌ t b
and-false t b e = sym (ap (λ t. ◌&&◌ t b) e)

-- A TYPE IS A NUMBER OF FOUR BYTES

abbrev typed : List Reader → Bool
typed [] = true
typed (r ∷ rs) = when (leb r.kind 4294967295) (typed rs) false

both : (t u : Bool) → when t u false ≡ true → (t ≡ true) × (u ≡ true)
unfolding when
both true u e = (refl, e)
both false u e = let z : ◌≡◌ {A = ℕ} 0 1 = cc e in absurd (omega arith)

pick-none : (other : Result (Unit {0}) Refusal) (kind : ℕ) (part : List ℕ) (rs : List Reader) → (Ok tt) ≡ other → 4294967295 < kind → typed rs ≡ true → (Ok tt) ≡ pick other kind part rs
pick-none other kind part [] o h e = unread other kind part (Ok tt) o
pick-none other kind part (r ∷ rs) o h e =
    let b = both (leb r.kind 4294967295) (typed rs) e in
    further other kind part r rs (Ok tt) (λ q. omega (arith, leb-true r.kind 4294967295 b.0)) (pick-none other kind part rs o h b.1)

pub no_reader : (kind : ℕ) (part : List ℕ) → 4294967295 < kind → (Ok tt) ≡ fault_of kind part
unfolding readers codings when
no_reader kind part h = pick-none (coding_of kind part) kind part readers (pick-none (Ok tt) kind part codings refl h refl) h refl

pub no_key : (kind : ℕ) (part : List ℕ) → 4294967295 < kind → None ≡ key_of kind part
unfolding keys
no_key kind part h =
    key.further kind part _ _ _ (λ e. omega arith)
    (key.further kind part _ _ _ (λ e. omega arith)
    (key.further kind part _ _ _ (λ e. omega arith)
    (key.further kind part _ _ _ (λ e. omega arith)
    (key.further kind part _ _ _ (λ e. omega arith)
    (key.further kind part _ _ _ (λ e. omega arith)
    (key.unkeyed kind part))))))

-- THE TRACK OF A RUN

module _ (s : List ℕ) (t : Boxes) (p k end : ℕ) (h : k < end) where
  step : track_from (end - k) s t p k ≡
      when (ltb (at t.parents k) p) 0
      (when (◌&&◌ (eqb (at t.parents k) p) (stands t tfhd k)) (number_in (key_at s t k)) (track_from (end - (k + 1)) s t p (k + 1)))
  unfolding track_from
  step = ap (λ n. track_from n s t p k) (let z : end - k ≡ suc (end - (k + 1)) = omega arith in z)

  pub track-left : at t.parents k < p → 0 ≡ track_from (end - k) s t p k
  track-left l = is_lt _ _ 0 (at t.parents k) p l refl ∙ sym step

  pub track-here : (x : ℕ) → p ≤ at t.parents k → ◌&&◌ (eqb (at t.parents k) p) (stands t tfhd k) ≡ true → x ≡ number_in (key_at s t k) → x ≡ track_from (end - k) s t p k
  track-here x l e q = not-lt _ _ x (at t.parents k) p l (by-true _ _ x _ e q) ∙ sym step

  pub track-on : p ≤ at t.parents k → ◌&&◌ (eqb (at t.parents k) p) (stands t tfhd k) ≡ false → track_from (end - (k + 1)) s t p (k + 1) ≡ track_from (end - k) s t p k
  track-on l e = not-lt _ _ _ (at t.parents k) p l (by-false _ _ _ _ e refl) ∙ sym step

pub track-none : (s : List ℕ) (t : Boxes) (p k end : ℕ) → end ≤ k → 0 ≡ track_from (end - k) s t p k
unfolding track_from
track-none s t p k end h = sym (ap (λ n. track_from n s t p k) (let z : end - k ≡ 0 = omega arith in z))

-- SUMS THAT PASS A LIMIT

-- a sum grows with each box
pub sum-grows : (f : ℕ → ℕ) (i j : ℕ) → j < i → sum f j + f j ≤ sum f i
unfolding sum
sum-grows f zero j h = absurd (omega arith)
sum-grows f (suc i) j h = by (ltb j i) refl (sum-grows f i j)
  where
    by : (t : Bool) → ltb j i ≡ t → (j < i → sum f j + f j ≤ sum f i) → sum f j + f j ≤ sum f i + f i
    by true q ih = omega (arith, ih (ltb-true j i q))
    by false q ih = omega (arith, ap (λ k. sum f k + f k) (let z : j ≡ i = omega (arith, ltb-false j i q) in z))
