-- Strings that end with a 0: where the 0 stands, and what it says of the bytes. Assumes nothing.
use Rattle.std.specs.Prelude.{Option, Result, Ok, Some, None}
use mathlib.Core.Path.{◌≡◌, refl, sym, ap, ap₂, ◌∙◌}
use mathlib.Core.List.{List, [], ◌∷◌, ◌++◌}
use mathlib.Core.Bool.{Bool, true, false}
use Prim.Native.Nat.{ℕ, suc, ◌+◌, ◌-◌, ◌≤◌, ◌<◌}
use native.Mathlib.Nat.{add-zero}
use native.Mathlib.Omega.{arith}
use lib.ListN.{length, take, drop, length-drop}
use lib.Dec.{eqb}
use borrow.Author.Tests.{eqb-true}
use Rattle.numbers.specs.Field.{when}
use Rattle.numbers.specs.declared.Refusal.{Refusal}
use Rattle.strings.specs.Text.{text_end, text_at}
use Rattle.emsg.specs.Emsg.{first_of, second_of, strings_of}

-- two answers that are equal have one value
pub one-answer : {A E : Type 0} (x y : A) → ◌≡◌ {A = Result A E} (Ok x) (Ok y) → x ≡ y
one-answer x y e = cc e

-- WHAT IT FINDS

-- the 0 is in the list; the bytes before it hold none
pub record Ended (s : List ℕ) (k e : ℕ) : Type 0 where
  pub from : k ≤ e
  pub within : e < k + length s
  pub same : take (e - k) s ++ (0 ∷ drop (suc (e - k)) s) ≡ s
  pub clear : text_end (take (e - k) s) 0 ≡ None

-- no 0 is none from any position on
pub clear_at : (s : List ℕ) (j k : ℕ) → text_end s j ≡ None → text_end s k ≡ None
unfolding text_end when
clear_at [] j k h = refl
clear_at (x ∷ s) j k h = by (eqb x 0) h (clear_at s (suc j) (suc k))
  where
    by : (t : Bool) → when t (Some j) (text_end s (suc j)) ≡ None → (text_end s (suc j) ≡ None → text_end s (suc k) ≡ None) → when t (Some k) (text_end s (suc k)) ≡ None
    by true h on = let z : ◌≡◌ {A = ℕ} 0 1 = cc in absurd (omega arith)
    by false h on = on h

pub ended : (s : List ℕ) (k e : ℕ) → text_end s k ≡ Some e → Ended s k e
unfolding text_end when
ended [] k e h = let z : ◌≡◌ {A = ℕ} 0 1 = cc in absurd (omega arith)
ended (x ∷ s) k e h = by (eqb x 0) refl h (ended s (suc k) e)
  where
    later : (n : ℕ) → e - k ≡ suc n → e - suc k ≡ n → eqb x 0 ≡ false → Ended s (suc k) e → Ended (x ∷ s) k e
    later n en em ex i =
        record {
          from = omega (arith, i.from);
          within = omega (arith, i.within);
          same =
              ap₂ (λ (m j : ℕ). take m (x ∷ s) ++ (0 ∷ drop (suc j) (x ∷ s))) en en
              ∙ ap (λ l. x ∷ l) (ap₂ (λ (m j : ℕ). take m s ++ (0 ∷ drop (suc j) s)) (sym em) (sym em) ∙ i.same);
          clear =
              ap (λ m. text_end (take m (x ∷ s)) 0) en ∙ ap (λ t. when t (Some 0) (text_end (take n s) 1)) ex
              ∙ ap (λ m. text_end (take m s) 1) (sym em) ∙ clear_at (take (e - suc k) s) 0 1 i.clear;
        }

    by : (t : Bool) → eqb x 0 ≡ t → when t (Some k) (text_end s (suc k)) ≡ Some e → (text_end s (suc k) ≡ Some e → Ended s (suc k) e) → Ended (x ∷ s) k e
    by true ex h on =
        let q : k ≡ e = cc in
        let z : e - k ≡ 0 = omega arith in
        record {
          from = omega arith;
          within = omega arith;
          same = ap₂ (λ (m j : ℕ). take m (x ∷ s) ++ (0 ∷ drop (suc j) (x ∷ s))) z z ∙ ap (λ x. x ∷ s) (sym (eqb-true x 0 ex));
          clear = ap (λ m. text_end (take m (x ∷ s)) 0) z;
        }
    by false ex h on = let i = on h in later (e - suc k) (omega (arith, i.from)) refl ex i

-- a string, its 0, and what lies behind it
pub joined : (s rest : List ℕ) (j k : ℕ) → text_end s j ≡ None → text_end (s ++ (0 ∷ rest)) k ≡ Some (k + length s)
unfolding text_end when
joined [] rest j k h = ap Some (sym (add-zero k))
joined (x ∷ s) rest j k h = by (eqb x 0) h (joined s rest (suc j) (suc k))
  where
    by : (t : Bool) → when t (Some j) (text_end s (suc j)) ≡ None → (text_end s (suc j) ≡ None → text_end (s ++ (0 ∷ rest)) (suc k) ≡ Some (suc k + length s)) →
        when t (Some k) (text_end (s ++ (0 ∷ rest)) (suc k)) ≡ Some (k + suc (length s))
    by true h on = let z : ◌≡◌ {A = ℕ} 0 1 = cc in absurd (omega arith)
    by false h on = on h ∙ ap Some (let e : suc k + length s ≡ k + suc (length s) = omega arith in e)

-- TWO STRINGS

pub at-end : (b : List ℕ) (at e : ℕ) → text_at b at ≡ Some e → (at ≤ e) × (e < length b)
at-end b at e h = let i = ended (drop at b) at e h in (i.from, omega (arith, i.from, i.within, length-drop at b))

-- the 0 of each
pub record Both (b : List ℕ) (at e f : ℕ) : Type 0 where
  pub from : at ≤ e
  pub next : e < f
  pub within : f < length b
  pub first : text_at b at ≡ Some e
  pub second : text_at b (e + 1) ≡ Some f

pub both : (b : List ℕ) (at e f : ℕ) → strings_of b at ≡ Ok (e, f) → Both b at e f
both b at e f h = by (text_at b at) refl h
  where
    on : (e' : ℕ) (t : Option ℕ) → text_at b at ≡ Some e' → text_at b (e' + 1) ≡ t → second_of e' t ≡ Ok (e, f) → Both b at e f
    on e' (Some f') h i q =
        let w = one-answer {A = ℕ × ℕ} {E = Refusal} (e', f') (e, f) q in
        let p : e' ≡ e = ap (λ x. x.0) w in
        let r : f' ≡ f = ap (λ x. x.1) w in
        let u = at-end b at e' h in
        let v = at-end b (e' + 1) f' i in
        record {
          from = omega (arith, u.0);
          next = omega (arith, v.0);
          within = omega (arith, v.1);
          first = h ∙ ap Some p;
          second = ap (λ n. text_at b (n + 1)) (sym p) ∙ i ∙ ap Some r;
        }
    on e' None h i q = let z : ◌≡◌ {A = ℕ} 0 1 = cc in absurd (omega arith)

    by : (t : Option ℕ) → text_at b at ≡ t → first_of b at t ≡ Ok (e, f) → Both b at e f
    by (Some e') h q = on e' (text_at b (e' + 1)) h refl q
    by None h q = let z : ◌≡◌ {A = ℕ} 0 1 = cc in absurd (omega arith)
