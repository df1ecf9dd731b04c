-- What a reader found, taken apart: the version says what stands first, and each place lies in the box. Assumes nothing.
use Rattle.std.specs.Prelude.{Result, Ok, Err}
use mathlib.Core.Path.{◌≡◌, refl, sym, ap}
use mathlib.Core.List.{List}
use mathlib.Core.Logic.{◌⊎◌, inl, inr, ⊎_elim}
use Prim.Native.Nat.{ℕ, ◌+◌, ◌-◌, ◌≤◌, ◌<◌}
use native.Mathlib.Omega.{arith}
use lib.ListN.{length, length-take, get_or, take}
use lib.Dec.{eqb}
use borrow.Author.Tests.{eqb-true, eqb-false}
use Rattle.numbers.proofs.Chain.{way}
use Rattle.layout.specs.Read.{read_of}
use Rattle.layout.specs.declared.read.Fields.{Fields}
use Rattle.emsg.specs.Emsg.{kind, fields, strings_of, numbers_of, emsg, places, after_strings, numbers_last, after_numbers, strings_last, strings_first, numbers_first, content_of, full_of, emsg_of}
use Rattle.emsg.specs.declared.Emsg.{Emsg}
use Rattle.emsg.specs.declared.Places.{Places}
use Rattle.emsg.proofs.Texts.{one-answer, Both, both}
use Rattle.emsg.proofs.FourNumbers.{Four, four}
use Rattle.numbers.specs.declared.Refusal.{Refusal}

-- WHAT WAS FOUND

module _ (b : List ℕ) (at fl : ℕ) (m : Emsg) (p : Places) where
  pub record Early : Type 0 where
    pub e : ℕ
    pub f : ℕ
    pub s : ℕ
    pub t : ℕ
    pub d : ℕ
    pub i : ℕ
    pub texts : Both b at e f
    pub numbers : Four 4 b (f + 1) s t d i
    pub is : m ≡ emsg 0 fl s t d i
    pub lies : p ≡ places at e f (f + 1 + 16) (length b)

  pub record Late : Type 0 where
    pub e : ℕ
    pub f : ℕ
    pub s : ℕ
    pub t : ℕ
    pub d : ℕ
    pub i : ℕ
    pub numbers : Four 8 b at s t d i
    pub texts : Both b (at + 20) e f
    pub is : m ≡ emsg 1 fl s t d i
    pub lies : p ≡ places (at + 20) e f (f + 1) (length b)

  pub early : strings_first b at fl ≡ Ok (m, p) → Early
  early h = by (strings_of b at) refl h
    where
      on : (e f : ℕ) (n : Result (ℕ × ℕ × ℕ × ℕ) Refusal) → strings_of b at ≡ Ok (e, f) → numbers_of 4 b (f + 1) ≡ n → numbers_last b at fl e f n ≡ Ok (m, p) → Early
      on e f (Ok (s, t, d, i)) es en q =
          let w = one-answer {A = Emsg × Places} {E = Refusal} (emsg 0 fl s t d i, places at e f (f + 1 + 16) (length b)) (m, p) q in
          record {
            e = e;
            f = f;
            s = s;
            t = t;
            d = d;
            i = i;
            texts = both b at e f es;
            numbers = four 4 b (f + 1) s t d i en;
            is = sym (ap (λ x. x.0) w);
            lies = sym (ap (λ x. x.1) w);
          }
      on e f (Err q) es en h = let z : ◌≡◌ {A = ℕ} 0 1 = cc in absurd (omega arith)

      by : (s : Result (ℕ × ℕ) Refusal) → strings_of b at ≡ s → after_strings b at fl s ≡ Ok (m, p) → Early
      by (Ok (e, f)) es q = on e f (numbers_of 4 b (f + 1)) es refl q
      by (Err q) es h = let z : ◌≡◌ {A = ℕ} 0 1 = cc in absurd (omega arith)

  pub late : numbers_first b at fl ≡ Ok (m, p) → Late
  late h = by (numbers_of 8 b at) refl h
    where
      on : (s t d i : ℕ) (x : Result (ℕ × ℕ) Refusal) → numbers_of 8 b at ≡ Ok (s, t, d, i) → strings_of b (at + 20) ≡ x → strings_last b (at + 20) fl s t d i x ≡ Ok (m, p) → Late
      on s t d i (Ok (e, f)) en es q =
          let w = one-answer {A = Emsg × Places} {E = Refusal} (emsg 1 fl s t d i, places (at + 20) e f (f + 1) (length b)) (m, p) q in
          record {
            e = e;
            f = f;
            s = s;
            t = t;
            d = d;
            i = i;
            numbers = four 8 b at s t d i en;
            texts = both b (at + 20) e f es;
            is = sym (ap (λ x. x.0) w);
            lies = sym (ap (λ x. x.1) w);
          }
      on s t d i (Err q) en es h = let z : ◌≡◌ {A = ℕ} 0 1 = cc in absurd (omega arith)

      by : (n : Result (ℕ × ℕ × ℕ × ℕ) Refusal) → numbers_of 8 b at ≡ n → after_numbers b at fl n ≡ Ok (m, p) → Late
      by (Ok (s, t, d, i)) en q = on s t d i (strings_of b (at + 20)) en refl q
      by (Err q) en h = let z : ◌≡◌ {A = ℕ} 0 1 = cc in absurd (omega arith)

-- a box that was read: its version and flags, and what follows them
pub record Opened (b : List ℕ) (m : Emsg) (p : Places) : Type 0 where
  pub g : Fields
  pub read : read_of kind fields b ≡ Ok g
  pub content :
      ((get_or g.values 0 0 ≡ 0) × Early (take g.end b) g.place (get_or g.values 1 0) m p)
      ⊎ ((get_or g.values 0 0 ≡ 0 → ⊥) × Late (take g.end b) g.place (get_or g.values 1 0) m p)

pub opened : (b : List ℕ) (m : Emsg) (p : Places) → emsg_of b ≡ Ok (m, p) → Opened b m p
opened b m p h = by (read_of kind fields b) refl h
  where
    by : (r : Result Fields Refusal) → read_of kind fields b ≡ r → full_of b r ≡ Ok (m, p) → Opened b m p
    by (Err q) e z = let y : ◌≡◌ {A = ℕ} 0 1 = cc z in absurd (omega arith)
    by (Ok g) e q =
        record {
          g = g;
          read = e;
          content =
              ⊎_elim (λ y. inl (eqb-true (get_or g.values 0 0) 0 y.0, early _ _ _ m p y.1))
              (λ y. inr (eqb-false (get_or g.values 0 0) 0 y.0, late _ _ _ m p y.1))
              (way (eqb (get_or g.values 0 0) 0) _ _ _ q);
        }

-- each part lies in the bytes that are lent
pub record Inside (b : List ℕ) (p : Places) : Type 0 where
  pub scheme : p.scheme ≤ p.scheme_end
  pub scheme-in : p.scheme_end ≤ length b
  pub apart : p.scheme_end < p.value
  pub value : p.value ≤ p.value_end
  pub value_in : p.value_end ≤ length b
  pub behind : p.value_end < p.message
  pub message : p.message ≤ p.end
  pub message-in : p.end ≤ length b

pub inside : (b : List ℕ) (m : Emsg) (p : Places) → emsg_of b ≡ Ok (m, p) → Inside b p
inside b m p h = ⊎_elim (λ y. as-early y.1) (λ y. as-late y.1) (opened b m p h).content
  where
    g : Fields
    g = (opened b m p h).g

    l : length (take g.end b) ≤ length b
    l = omega (arith, length-take g.end b)

    laid_in : (at e f k : ℕ) → p ≡ places at e f k (length (take g.end b)) → at ≤ e → e < f → f < k → k ≤ length (take g.end b) → Inside b p
    laid_in at e f k q h1 h2 h3 h4 =
        record {
          scheme = omega (arith, h1, ap (λ p. p.scheme) q, ap (λ p. p.scheme_end) q);
          scheme-in = omega (arith, h2, h3, h4, l, ap (λ p. p.scheme_end) q);
          apart = omega (arith, ap (λ p. p.scheme_end) q, ap (λ p. p.value) q);
          value = omega (arith, h2, ap (λ p. p.value) q, ap (λ p. p.value_end) q);
          value_in = omega (arith, h3, h4, l, ap (λ p. p.value_end) q);
          behind = omega (arith, h3, ap (λ p. p.value_end) q, ap (λ p. p.message) q);
          message = omega (arith, h4, ap (λ p. p.message) q, ap (λ p. p.end) q);
          message-in = omega (arith, l, ap (λ p. p.end) q);
        }

    as-early : Early (take g.end b) g.place (get_or g.values 1 0) m p → Inside b p
    as-early y = laid_in _ _ _ _ y.lies y.texts.from y.texts.next (omega arith) (omega (arith, y.numbers.within))

    as-late : Late (take g.end b) g.place (get_or g.values 1 0) m p → Inside b p
    as-late y = laid_in _ _ _ _ y.lies y.texts.from y.texts.next (omega arith) (omega (arith, y.texts.within))
