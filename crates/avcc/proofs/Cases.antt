-- What was found, taken apart. Assumes nothing.
use Rattle.std.specs.Prelude.{Result, Ok, Err}
use mathlib.Core.Path.{◌≡◌, refl, sym, ap, ◌∙◌, subst}
use mathlib.Core.List.{List}
use mathlib.Core.Logic.{⊎_elim}
use Prim.Native.Nat.{ℕ, ◌+◌, ◌%◌, ◌≤◌}
use native.Mathlib.Omega.{arith}
use lib.ListN.{length, take, length-take}
use lib.Dec.{eqb}
use borrow.Author.Tests.{eqb-true}
use Rattle.numbers.specs.Number.{be}
use Rattle.numbers.specs.Field.{field}
use Rattle.numbers.specs.declared.Refusal.TheVariants as refusal
use Rattle.numbers.specs.declared.Refusal.{Refusal}
use Rattle.numbers.proofs.Chain.{has, lacks, ends, field-way, way, is_eq, is_ne}
use Rattle.layout.specs.Read.{read_of}
use Rattle.layout.specs.declared.read.Fields.{Fields}
use Rattle.sets.specs.Sets.{end_of}
use Rattle.sets.proofs.SetsLaws.{end_after}
use Rattle.avcc.specs.Avcc.{kind, fields, head_of, avcc, places, last_of, second_of, first_of, content_of, behind_of, avcc_of}
use Rattle.avcc.specs.declared.Avcc.{Avcc}
use Rattle.avcc.specs.declared.Places.{Places}

-- WHAT WAS FOUND

-- the first six bytes
pub record Six (b : List ℕ) (at p c l z n : ℕ) : Type 0 where
  pub within : at + 6 ≤ length b
  pub version : be 1 b at ≡ 1
  pub profile : p ≡ be 1 b (at + 1)
  pub compatibility : c ≡ be 1 b (at + 2)
  pub level : l ≡ be 1 b (at + 3)
  pub size : z ≡ be 1 b (at + 4) % 4
  pub count : n ≡ be 1 b (at + 5) % 32

pub six : (b : List ℕ) (at p c l z n : ℕ) → head_of b at ≡ Ok (p, c, l, z, n) → Six b at p c l z n
six b at p c l z n e =
    ⊎_elim
    (λ y. ⊎_elim
    (λ v. ⊎_elim
    (λ y1. ⊎_elim
    (λ y2. ⊎_elim
    (λ y3. ⊎_elim
    (λ y4. ⊎_elim
    (λ y5.
    let q : ◌≡◌ {A = ℕ × ℕ × ℕ × ℕ × ℕ} (be 1 b (at + 1), be 1 b (at + 2), be 1 b (at + 3), be 1 b (at + 4) % 4, be 1 b (at + 5) % 32) (p, c, l, z, n) = cc y5.1 in
    record {
      within = omega (arith, y5.0);
      version = eqb-true (be 1 b at) 1 v.0;
      profile = sym (ap (λ (x : ℕ × ℕ × ℕ × ℕ × ℕ). x.0) q);
      compatibility = sym (ap (λ (x : ℕ × ℕ × ℕ × ℕ × ℕ). x.1) q);
      level = sym (ap (λ (x : ℕ × ℕ × ℕ × ℕ × ℕ). x.2) q);
      size = sym (ap (λ (x : ℕ × ℕ × ℕ × ℕ × ℕ). x.3) q);
      count = sym (ap (λ (x : ℕ × ℕ × ℕ × ℕ × ℕ). x.4) q);
    })
    (λ y5. refused _ y5.1)
    (field-way 1 b (at + 5) Err _ _ y4.1))
    (λ y4. refused _ y4.1)
    (field-way 1 b (at + 4) Err _ _ y3.1))
    (λ y3. refused _ y3.1)
    (field-way 1 b (at + 3) Err _ _ y2.1))
    (λ y2. refused _ y2.1)
    (field-way 1 b (at + 2) Err _ _ y1.1))
    (λ y1. refused _ y1.1)
    (field-way 1 b (at + 1) Err _ _ v.1))
    (λ v. refused _ v.1)
    (way (eqb (be 1 b at) 1) _ _ _ y.1))
    (λ y. refused _ y.1)
    (field-way 1 b at Err _ _ e)
  where
    refused : (q : Refusal) → ◌≡◌ {A = Result (ℕ × ℕ × ℕ × ℕ × ℕ) Refusal} (Err q) (Ok (p, c, l, z, n)) → Six b at p c l z n
    refused q e = let z : ◌≡◌ {A = ℕ} 0 1 = cc e in absurd (omega arith)

-- the lists and their places
pub record Content (b : List ℕ) (at : ℕ) (m : Avcc) (q : Places) : Type 0 where
  pub e : ℕ
  pub f : ℕ
  pub bytes : Six b at m.profile m.compatibility m.level m.length_size m.sps
  pub first : end_of m.sps b (at + 6) ≡ Ok e
  pub room : e + 1 ≤ length b
  pub number : m.pps ≡ be 1 b e
  pub second : end_of m.pps b (e + 1) ≡ Ok f
  pub lies : q ≡ places (at + 6) e f (length b)

pub content-way : (b : List ℕ) (at : ℕ) (m : Avcc) (q : Places) → content_of b at ≡ Ok (m, q) → Content b at m q
content-way b at m q h = by (head_of b at) refl h
  where
    refused : (r : Refusal) → ◌≡◌ {A = Result (Avcc × Places) Refusal} (Err r) (Ok (m, q)) → Content b at m q
    refused r e = let z : ◌≡◌ {A = ℕ} 0 1 = cc e in absurd (omega arith)

    third : (p c l z n e : ℕ) → Six b at p c l z n → end_of n b (at + 6) ≡ Ok e → e + 1 ≤ length b → (t : Result ℕ Refusal) → end_of (be 1 b e) b (e + 1) ≡ t →
        last_of b (at + 6) (avcc p c l z n (be 1 b e)) e t ≡ Ok (m, q) → Content b at m q
    third p c l z n e x es r (Ok f) et g =
        let w : ◌≡◌ {A = Avcc × Places} (avcc p c l z n (be 1 b e), places (at + 6) e f (length b)) (m, q) = cc g in
        let em : avcc p c l z n (be 1 b e) ≡ m = ap (λ (x : Avcc × Places). x.0) w in
        let eq : q ≡ places (at + 6) e f (length b) = sym (ap (λ (x : Avcc × Places). x.1) w) in
        subst (λ (m : Avcc). Content b at m q) em
        (record { e = e; f = f; bytes = x; first = es; room = r; number = refl; second = et; lies = eq })
    third p c l z n e x es r (Err k) et g = refused k g

    second : (p c l z n : ℕ) → Six b at p c l z n → (s : Result ℕ Refusal) → end_of n b (at + 6) ≡ s → second_of b (at + 6) p c l z n s ≡ Ok (m, q) → Content b at m q
    second p c l z n x (Ok e) es g =
        ⊎_elim (λ y. third p c l z n e x es y.0 (end_of (be 1 b e) b (e + 1)) refl y.1) (λ y. refused _ y.1) (field-way 1 b e Err _ _ g)
    second p c l z n x (Err k) es g = refused k g

    by : (r : Result (ℕ × ℕ × ℕ × ℕ × ℕ) Refusal) → head_of b at ≡ r → first_of b (at + 6) r ≡ Ok (m, q) → Content b at m q
    by (Ok (p, c, l, z, n)) eh g = second p c l z n (six b at p c l z n eh) (end_of n b (at + 6)) refl g
    by (Err k) eh g = refused k g

-- each place lies in the part that is lent
pub record Inside (b : List ℕ) (q : Places) : Type 0 where
  pub sps : q.sps ≤ q.sps_end
  pub sps-in : q.sps_end ≤ length b
  pub apart : q.pps ≡ q.sps_end + 1
  pub pps : q.pps ≤ q.pps_end
  pub pps-in : q.pps_end ≤ length b
  pub rest : q.pps_end ≤ q.end
  pub rest_in : q.end ≤ length b

pub avcc-way : (b : List ℕ) (m : Avcc) (q : Places) → avcc_of b ≡ Ok (m, q) → (g : Fields) × (read_of kind fields b ≡ Ok g) × Content (take g.end b) g.place m q
avcc-way b m q h = by (read_of kind fields b) refl h
  where
    by : (r : Result Fields Refusal) → read_of kind fields b ≡ r → behind_of b r ≡ Ok (m, q) → (g : Fields) × (read_of kind fields b ≡ Ok g) × Content (take g.end b) g.place m q
    by (Ok g) e h = (g, e, content-way (take g.end b) g.place m q h)
    by (Err r) e h = let z : ◌≡◌ {A = ℕ} 0 1 = cc h in absurd (omega arith)

pub inside : (b : List ℕ) (m : Avcc) (q : Places) → avcc_of b ≡ Ok (m, q) → Inside b q
inside b m q h =
    let w = avcc-way b m q h in
    let g = w.0 in
    let t = take g.end b in
    let x = w.2 in
    let l : length t ≤ length b = omega (arith, length-take g.end b) in
    let i = end_after m.sps t (g.place + 6) x.e x.first x.bytes.within in
    let j = end_after m.pps t (x.e + 1) x.f x.second x.room in
    record {
      sps = omega (arith, i.0, ap (λ p. p.sps) x.lies, ap (λ p. p.sps_end) x.lies);
      sps-in = omega (arith, i.1, l, ap (λ p. p.sps_end) x.lies);
      apart = omega (arith, ap (λ p. p.sps_end) x.lies, ap (λ p. p.pps) x.lies);
      pps = omega (arith, j.0, ap (λ p. p.pps) x.lies, ap (λ p. p.pps_end) x.lies);
      pps-in = omega (arith, j.1, l, ap (λ p. p.pps_end) x.lies);
      rest = omega (arith, j.1, ap (λ p. p.pps_end) x.lies, ap (λ p. p.end) x.lies);
      rest_in = omega (arith, l, ap (λ p. p.end) x.lies);
    }
