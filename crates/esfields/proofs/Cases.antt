-- The reader's returns, field by field, over plain variables; and where what was found lies. Assumes nothing.
use Rattle.std.specs.Prelude.{Result, Ok, Err}
use mathlib.Core.Path.{◌≡◌, refl, sym, ap, ap₂, ◌∙◌}
use mathlib.Core.List.{List}
use mathlib.Core.Bool.{Bool, true, false}
use mathlib.Core.Logic.{⊎_elim}
use Prim.Native.Nat.{ℕ, ◌+◌, ◌-◌, ◌^◌, ◌≤◌, ◌<◌}
use native.Mathlib.Omega.{arith}
use lib.ListN.{length}
use lib.Dec.{ltb}
use Rattle.numbers.specs.Number.{be}
use Rattle.numbers.specs.Field.{field, when}
use Rattle.numbers.specs.declared.Refusal.TheVariants as refusal
use Rattle.numbers.specs.declared.Refusal.{Refusal}
use Rattle.numbers.proofs.Chain.{by-result, whole, ends, has, lacks, by-true, by-false, field-way}
use Rattle.esfields.specs.EsFields.{is_set, wide, stream, fields_of}
use Rattle.esfields.specs.declared.Stream.{Stream}

-- A WIDTH BY A BIT

pub few : (t : Bool) (w : ℕ) → when t w 0 ≤ w
unfolding when
few true w = omega arith
few false w = omega arith

-- a field that is there, and one that is not
pub there-is : {A : Type 0} (refused : Refusal → A) (go : ℕ → A) (r : A) (w : ℕ) (s : List ℕ) (at : ℕ) (t : Bool) → t ≡ true → r ≡ field refused w s at go → r ≡ field refused (when t w 0) s at go
there-is refused go r w s at t e q = q ∙ ap (λ n. field refused n s at go) (by-true w 0 _ t e refl)

pub there-not : {A : Type 0} (refused : Refusal → A) (go : ℕ → A) (w : ℕ) (s : List ℕ) (at : ℕ) (t : Bool) → t ≡ false → at ≤ length s → go 0 ≡ field refused (when t w 0) s at go
unfolding be
there-not refused go w s at t e h =
    whole 0 s at refused go (go 0) 0 (omega arith) refl refl ∙ ap (λ n. field refused n s at go) (by-false w 0 _ t e refl)

pub fits-there : (n w : ℕ) (t r : Bool) → t ≡ true → r ≡ ltb n (256 ^ w) → r ≡ ltb n (256 ^ when t w 0)
fits-there n w t r e q = q ∙ ap (λ w. ltb n (256 ^ w)) (by-true w 0 _ t e refl)

pub fits_not : (n w : ℕ) (t : Bool) → t ≡ false → ltb n 1 ≡ ltb n (256 ^ when t w 0)
fits_not n w t e = ap (λ w. ltb n (256 ^ w)) (by-false w 0 _ t e refl)

-- THE RETURNS

module _ (s : List ℕ) (at : ℕ) (r1 : Result ℕ Refusal) (e1 : r1 ≡ field Err 2 s at Ok) where
  pub cut-id : (q : Refusal) → r1 ≡ Err q → Err (refusal.Cut at) ≡ fields_of s at
  cut-id q g = ends 2 s at _ _ _ (lacks by-result 2 s at r1 e1 q g) refl

  module _ (i : ℕ) (g1 : r1 ≡ Ok i) (r2 : Result ℕ Refusal) (e2 : r2 ≡ field Err 1 s (at + 2) Ok) where
    pub cut-flags : (q : Refusal) → r2 ≡ Err q → Err (refusal.Cut (at + 2)) ≡ fields_of s at
    cut-flags q g = has by-result 2 s at r1 e1 _ _ _ i g1 (ends 1 s (at + 2) _ _ _ (lacks by-result 1 s (at + 2) r2 e2 q g) refl)

    module _ (fl : ℕ) (g2 : r2 ≡ Ok fl) (a b c : Bool) (ea : a ≡ is_set fl 0x80) (eb : b ≡ is_set fl 0x40) (ec : c ≡ is_set fl 0x20)
        (r3 : Result ℕ Refusal) (e3 : r3 ≡ field Err (when a 2 0) s (at + 3) Ok) where
      third : r3 ≡ field Err (wide fl 0x80 2) s (at + 3) Ok
      third = e3 ∙ ap (λ t. field Err (when t 2 0) s (at + 3) Ok) ea

      pub cut-depends : (q : Refusal) → r3 ≡ Err q → Err (refusal.Cut (at + 3)) ≡ fields_of s at
      cut-depends q g =
          has by-result 2 s at r1 e1 _ _ _ i g1
          (has by-result 1 s (at + 2) r2 e2 _ _ _ fl g2
          (ends (wide fl 0x80 2) s (at + 3) _ _ _ (lacks by-result (wide fl 0x80 2) s (at + 3) r3 third q g) refl))

      module _ (d : ℕ) (g3 : r3 ≡ Ok d) (x : ℕ) (ex : x ≡ when a 2 0) (r4 : Result ℕ Refusal) (e4 : r4 ≡ field Err (when b 1 0) s (at + 3 + x) Ok) where
        x-is : at + 3 + x ≡ at + 3 + wide fl 0x80 2
        x-is = ap (λ n. at + 3 + n) (ex ∙ ap (λ t. when t 2 0) ea)

        fourth : r4 ≡ field Err (wide fl 0x40 1) s (at + 3 + wide fl 0x80 2) Ok
        fourth = e4 ∙ ap₂ (λ (t : Bool) (p : ℕ). field Err (when t 1 0) s p Ok) eb x-is

        pub cut-length : (q : Refusal) → r4 ≡ Err q → Err (refusal.Cut (at + 3 + x)) ≡ fields_of s at
        cut-length q g =
            has by-result 2 s at r1 e1 _ _ _ i g1
            (has by-result 1 s (at + 2) r2 e2 _ _ _ fl g2
            (has by-result (wide fl 0x80 2) s (at + 3) r3 third _ _ _ d g3
            (ends (wide fl 0x40 1) s (at + 3 + wide fl 0x80 2) _ _ _ (lacks by-result (wide fl 0x40 1) s (at + 3 + wide fl 0x80 2) r4 fourth q g)
            (ap (λ p. Err (refusal.Cut p)) x-is))))

        module _ (n : ℕ) (g4 : r4 ≡ Ok n) (y : ℕ) (ey : y ≡ when b 1 0) where
          y-is : at + 3 + x + y ≡ at + 3 + wide fl 0x80 2 + wide fl 0x40 1
          y-is = ap₂ (λ (p k : ℕ). p + k) x-is (ey ∙ ap (λ t. when t 1 0) eb)

          pub cut-url : at + 3 + x + y ≤ length s → length s - (at + 3 + x + y) < n → Err (refusal.Cut (at + 3 + x + y)) ≡ fields_of s at
          cut-url k h =
              has by-result 2 s at r1 e1 _ _ _ i g1
              (has by-result 1 s (at + 2) r2 e2 _ _ _ fl g2
              (has by-result (wide fl 0x80 2) s (at + 3) r3 third _ _ _ d g3
              (has by-result (wide fl 0x40 1) s (at + 3 + wide fl 0x80 2) r4 fourth _ _ _ n g4
              (ends n s (at + 3 + wide fl 0x80 2 + wide fl 0x40 1) _ _ _ (omega (arith, y-is, k, h)) (ap (λ p. Err (refusal.Cut p)) y-is)))))

          module _ (h : n ≤ length s - (at + 3 + x + y)) (k : at + 3 + x + y ≤ length s) (r5 : Result ℕ Refusal) (e5 : r5 ≡ field Err (when c 2 0) s (at + 3 + x + y + n) Ok) where
            n-is : at + 3 + x + y + n ≡ at + 3 + wide fl 0x80 2 + wide fl 0x40 1 + n
            n-is = ap (λ p. p + n) y-is

            fifth : r5 ≡ field Err (wide fl 0x20 2) s (at + 3 + wide fl 0x80 2 + wide fl 0x40 1 + n) Ok
            fifth = e5 ∙ ap₂ (λ (t : Bool) (p : ℕ). field Err (when t 2 0) s p Ok) ec n-is

            room : at + 3 + wide fl 0x80 2 + wide fl 0x40 1 + n ≤ length s
            room = omega (arith, y-is, h, k)

            pub cut-clock : (q : Refusal) → r5 ≡ Err q → Err (refusal.Cut (at + 3 + x + y + n)) ≡ fields_of s at
            cut-clock q g =
                has by-result 2 s at r1 e1 _ _ _ i g1
                (has by-result 1 s (at + 2) r2 e2 _ _ _ fl g2
                (has by-result (wide fl 0x80 2) s (at + 3) r3 third _ _ _ d g3
                (has by-result (wide fl 0x40 1) s (at + 3 + wide fl 0x80 2) r4 fourth _ _ _ n g4
                (whole n s (at + 3 + wide fl 0x80 2 + wide fl 0x40 1) _ _ _ (be n s (at + 3 + wide fl 0x80 2 + wide fl 0x40 1)) room refl
                (ends (wide fl 0x20 2) s (at + 3 + wide fl 0x80 2 + wide fl 0x40 1 + n) _ _ _ (lacks by-result (wide fl 0x20 2) s (at + 3 + wide fl 0x80 2 + wide fl 0x40 1 + n) r5 fifth q g)
                (ap (λ p. Err (refusal.Cut p)) n-is))))))

            pub all_read : (o : ℕ) → r5 ≡ Ok o → (z : ℕ) → z ≡ when c 2 0 → Ok (stream i fl d o, at + 3 + x + y, at + 3 + x + y + n, at + 3 + x + y + n + z) ≡ fields_of s at
            all_read o g5 z ez =
                let z-is : at + 3 + x + y + n + z ≡ at + 3 + wide fl 0x80 2 + wide fl 0x40 1 + n + wide fl 0x20 2 = ap₂ (λ (p k : ℕ). p + k) n-is (ez ∙ ap (λ t. when t 2 0) ec) in
                has by-result 2 s at r1 e1 _ _ _ i g1
                (has by-result 1 s (at + 2) r2 e2 _ _ _ fl g2
                (has by-result (wide fl 0x80 2) s (at + 3) r3 third _ _ _ d g3
                (has by-result (wide fl 0x40 1) s (at + 3 + wide fl 0x80 2) r4 fourth _ _ _ n g4
                (whole n s (at + 3 + wide fl 0x80 2 + wide fl 0x40 1) _ _ _ (be n s (at + 3 + wide fl 0x80 2 + wide fl 0x40 1)) room refl
                (has by-result (wide fl 0x20 2) s (at + 3 + wide fl 0x80 2 + wide fl 0x40 1 + n) r5 fifth _ _ _ o g5
                (ap₂ (λ (u v : ℕ). Ok (stream i fl d o, u, v, at + 3 + x + y + n + z)) y-is n-is
                ∙ ap (λ w. Ok (stream i fl d o, at + 3 + wide fl 0x80 2 + wide fl 0x40 1, at + 3 + wide fl 0x80 2 + wide fl 0x40 1 + n, w)) z-is))))))

-- WHERE THE URL LIES, and where the fields end
pub inside : (s : List ℕ) (at : ℕ) (m : Stream) (u v e : ℕ) → fields_of s at ≡ Ok (m, u, v, e) → (u ≤ v) × (v ≤ e) × (e ≤ length s)
inside s at m u v e h =
    ⊎_elim
    (λ y1. ⊎_elim
    (λ y2. ⊎_elim
    (λ y3. ⊎_elim
    (λ y4. ⊎_elim
    (λ y5. ⊎_elim (λ y6. lies _ _ _ y6.0 y6.1) (λ y. refused _ y.1) (field-way _ s _ Err _ _ y5.1))
    (λ y. refused _ y.1)
    (field-way _ s _ Err _ _ y4.1))
    (λ y. refused _ y.1)
    (field-way _ s _ Err _ _ y3.1))
    (λ y. refused _ y.1)
    (field-way _ s _ Err _ _ y2.1))
    (λ y. refused _ y.1)
    (field-way 1 s (at + 2) Err _ _ y1.1))
    (λ y. refused _ y.1)
    (field-way 2 s at Err _ _ h)
  where
    refused : (q : Refusal) → ◌≡◌ {A = Result (Stream × ℕ × ℕ × ℕ) Refusal} (Err q) (Ok (m, u, v, e)) → (u ≤ v) × (v ≤ e) × (e ≤ length s)
    refused q f = let z : ◌≡◌ {A = ℕ} 0 1 = cc f in absurd (omega arith)

    lies : (p n w : ℕ) {t : Stream} → p + n + w ≤ length s → ◌≡◌ {A = Result (Stream × ℕ × ℕ × ℕ) Refusal} (Ok (t, p, p + n, p + n + w)) (Ok (m, u, v, e)) → (u ≤ v) × (v ≤ e) × (e ≤ length s)
    lies p n w {t} k f =
        let r : ◌≡◌ {A = Stream × ℕ × ℕ × ℕ} (t, p, p + n, p + n + w) (m, u, v, e) = cc f in
        let a : p ≡ u = ap (λ (x : Stream × ℕ × ℕ × ℕ). x.1) r in
        let b : p + n ≡ v = ap (λ (x : Stream × ℕ × ℕ × ℕ). x.2) r in
        let c : p + n + w ≡ e = ap (λ (x : Stream × ℕ × ℕ × ℕ). x.3) r in
        (omega (arith, a, b), omega (arith, b, c), omega (arith, c, k))
