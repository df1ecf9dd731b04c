-- What a reader found, taken apart: the numbers lie in the bytes, and so does the info. Assumes nothing.
use Rattle.std.specs.Prelude.{Result, Option, Ok, Err, Some, None}
use mathlib.Core.Path.{◌≡◌, refl, sym, ap, ◌∙◌}
use mathlib.Core.List.{List}
use mathlib.Core.Bool.{true, false}
use mathlib.Core.Logic.{⊎_elim}
use Prim.Native.Nat.{ℕ, ◌+◌, ◌≤◌}
use native.Mathlib.Omega.{arith}
use lib.ListN.{length}
use Rattle.numbers.specs.declared.Refusal.{Refusal}
use Rattle.numbers.specs.declared.Refusal.TheVariants as refusal
use Rattle.numbers.proofs.Chain.{field-way, by-true, by-false, way}
use Rattle.descriptor.proofs.Laws.{headed}
use Rattle.descriptors.specs.Descriptors.{seek_of, span}
use Rattle.descriptors.proofs.Laws as walk
use Rattle.decoderconfig.specs.DecoderConfig.{numbers_of, later, is_whole, info_by, info_of, config, with_info, with_numbers, config_of}
use Rattle.decoderconfig.specs.declared.Config.{Config}
use Rattle.descriptors.specs.declared.Sought.{Sought}
use Rattle.descriptors.specs.Descriptors.{sought_record}

-- THE READER'S RETURNS

module _ (s : List ℕ) (at : ℕ) (x : Result (Option Sought) Refusal) (ex : x ≡ seek_of s at 5 5) where
  pub first-no : (q : Refusal) → x ≡ Err q → Err q ≡ info_of s at
  first-no q e = ap (info_by s) (sym e ∙ ex)

  pub first-end : x ≡ (Ok None) → (Ok None) ≡ info_of s at
  first-end e = ap (info_by s) (sym e ∙ ex)

  module _ (t p from to : ℕ) (e : x ≡ Ok (Some (sought_record t p from to))) where
    pub info-cut : is_whole (span s from to) ≡ false → Err (refusal.Cut to) ≡ info_of s at
    info-cut w = by-false _ _ _ (is_whole (span s from to)) w refl ∙ ap (info_by s) (sym e ∙ ex)

    module _ (w : is_whole (span s from to) ≡ true) (y : Result (Option Sought) Refusal) (ey : y ≡ seek_of s to 256 256) where
      behind : (z : Result (Option (ℕ × ℕ)) Refusal) → z ≡ later from to y → z ≡ info_of s at
      behind z q = by-true _ _ _ (is_whole (span s from to)) w (q ∙ ap (later from to) ey) ∙ ap (info_by s) (sym e ∙ ex)

      pub second-no : (q : Refusal) → y ≡ Err q → Err q ≡ info_of s at
      second-no q f = behind _ (ap (later from to) (sym f))

      pub second-end : y ≡ (Ok None) → Ok (Some (from, to)) ≡ info_of s at
      second-end f = behind _ (ap (later from to) (sym f))

      pub second_is : (u v g h : ℕ) → y ≡ Ok (Some (sought_record u v g h)) → Ok (Some (from, to)) ≡ info_of s at
      second_is u v g h f = behind _ (ap (later from to) (sym f))

module _ (s : List ℕ) (at : ℕ) (n : Result (ℕ × ℕ × ℕ × ℕ × ℕ) Refusal) (en : n ≡ numbers_of s at) where
  pub numbers-no : (q : Refusal) → n ≡ Err q → Err q ≡ config_of s at
  numbers-no q e = ap (with_numbers s at) (sym e ∙ en)

  module _ (o t z x a : ℕ) (e : n ≡ Ok (o, t, z, x, a)) (i : Result (Option (ℕ × ℕ)) Refusal) (ei : i ≡ info_of s (at + 13)) where
    pub info-no : (q : Refusal) → i ≡ Err q → Err q ≡ config_of s at
    info-no q f = ap (with_info o t z x a) (sym f ∙ ei) ∙ ap (with_numbers s at) (sym e ∙ en)

    pub info-none : i ≡ (Ok None) → Ok (config o t z x a false, 0, 0) ≡ config_of s at
    info-none f = ap (with_info o t z x a) (sym f ∙ ei) ∙ ap (with_numbers s at) (sym e ∙ en)

    pub info-some : (from to : ℕ) → i ≡ Ok (Some (from, to)) → Ok (config o t z x a true, from, to) ≡ config_of s at
    info-some from to f = ap (with_info o t z x a) (sym f ∙ ei) ∙ ap (with_numbers s at) (sym e ∙ en)

-- WHAT WAS FOUND

-- the numbers were read, so they were there
pub there : (s : List ℕ) (at o t z x a : ℕ) → numbers_of s at ≡ Ok (o, t, z, x, a) → at + 13 ≤ length s
there s at o t z x a e =
    ⊎_elim
    (λ y. ⊎_elim
    (λ x. ⊎_elim
    (λ v. ⊎_elim
    (λ u. ⊎_elim (λ w. omega (arith, w.0)) (λ w. refused _ w.1) (field-way 4 s (at + 9) Err _ _ u.1))
    (λ u. refused _ u.1)
    (field-way 4 s (at + 5) Err _ _ v.1))
    (λ v. refused _ v.1)
    (field-way 3 s (at + 2) Err _ _ x.1))
    (λ x. refused _ x.1)
    (field-way 1 s (at + 1) Err _ _ y.1))
    (λ y. refused _ y.1)
    (field-way 1 s at Err _ _ e)
  where
    refused : (q : Refusal) → ◌≡◌ {A = Result (ℕ × ℕ × ℕ × ℕ × ℕ) Refusal} (Err q) (Ok (o, t, z, x, a)) → at + 13 ≤ length s
    refused q e = let z : ◌≡◌ {A = ℕ} 0 1 = cc e in absurd (omega arith)

-- a descriptor that was found lies in the bytes
pub found_in : (s : List ℕ) (at one other t p from to : ℕ) → seek_of s at one other ≡ Ok (Some (sought_record t p from to)) → (from ≤ to) × (to ≤ length s)
found_in s at one other t p from to e =
    let h = headed s p t from to (walk.sought s one other t p from to at e) in
    (omega (arith, h.content), h.inside)

info-in : (s : List ℕ) (at from to : ℕ) → info_of s at ≡ Ok (Some (from, to)) → (from ≤ to) × (to ≤ length s)
info-in s at from to h = by (seek_of s at 5 5) refl h
  where
    moved : (f e : ℕ) → ◌≡◌ {A = Result (Option (ℕ × ℕ)) Refusal} (Ok (Some (f, e))) (Ok (Some (from, to))) → (f ≤ e) × (e ≤ length s) → (from ≤ to) × (to ≤ length s)
    moved f e h l =
        let r : ◌≡◌ {A = ℕ × ℕ} (f, e) (from, to) = cc h in
        let a : f ≡ from = ap (λ (x : ℕ × ℕ). x.0) r in
        let b : e ≡ to = ap (λ (x : ℕ × ℕ). x.1) r in
        (omega (arith, l.0), omega (arith, l.1))

    none : {x : Result (Option (ℕ × ℕ)) Refusal} → x ≡ Ok (Some (from, to)) → x ≡ Ok None → (from ≤ to) × (to ≤ length s)
    none h e = let z : ◌≡◌ {A = ℕ} 0 1 = cc (h, e) in absurd (omega arith)

    cut : (q : Refusal) → ◌≡◌ {A = Result (Option (ℕ × ℕ)) Refusal} (Err q) (Ok (Some (from, to))) → (from ≤ to) × (to ≤ length s)
    cut q e = let z : ◌≡◌ {A = ℕ} 0 1 = cc e in absurd (omega arith)

    same : (f e : ℕ) (x : Result (Option Sought) Refusal) → later f e x ≡ Ok (Some (from, to)) → (f ≤ e) × (e ≤ length s) → (from ≤ to) × (to ≤ length s)
    same f e (Ok None) h l = moved f e h l
    same f e (Ok (Some d)) h l = moved f e h l
    same f e (Err q) h l = cut q h

    by : (x : Result (Option Sought) Refusal) → seek_of s at 5 5 ≡ x → info_by s x ≡ Ok (Some (from, to)) → (from ≤ to) × (to ≤ length s)
    by (Ok None) e h = none h refl
    by (Ok (Some d)) e h =
        ⊎_elim (λ y. same d.from d.to (seek_of s d.to 256 256) y.1 (found_in s at 5 5 d.tag d.at d.from d.to e)) (λ y. cut _ y.1)
        (way (is_whole (span s d.from d.to)) _ _ _ h)
    by (Err q) e h = cut q h

-- where the info lies
pub inside : (s : List ℕ) (at : ℕ) (c : Config) (i j : ℕ) → config_of s at ≡ Ok (c, i, j) → (i ≤ j) × (j ≤ length s)
inside s at c i j h = by (numbers_of s at) h
  where
    moved : (d : Config) (f g : ℕ) → ◌≡◌ {A = Result (Config × ℕ × ℕ) Refusal} (Ok (d, f, g)) (Ok (c, i, j)) → (f ≤ g) × (g ≤ length s) → (i ≤ j) × (j ≤ length s)
    moved d f g q w =
        let r : ◌≡◌ {A = Config × ℕ × ℕ} (d, f, g) (c, i, j) = cc q in
        let k : f ≡ i = ap (λ (x : Config × ℕ × ℕ). x.1) r in
        let l : g ≡ j = ap (λ (x : Config × ℕ × ℕ). x.2) r in
        (omega (arith, w.0), omega (arith, w.1))

    refused : (q : Refusal) → ◌≡◌ {A = Result (Config × ℕ × ℕ) Refusal} (Err q) (Ok (c, i, j)) → (i ≤ j) × (j ≤ length s)
    refused q e = let z : ◌≡◌ {A = ℕ} 0 1 = cc e in absurd (omega arith)

    on : (o t z x a : ℕ) (n : Result (Option (ℕ × ℕ)) Refusal) → info_of s (at + 13) ≡ n → with_info o t z x a n ≡ Ok (c, i, j) → (i ≤ j) × (j ≤ length s)
    on o t z x a (Ok None) e q = moved _ 0 0 q (omega arith, omega arith)
    on o t z x a (Ok (Some (f, g))) e q = moved _ f g q (info-in s (at + 13) f g e)
    on o t z x a (Err r) e q = refused r q

    by : (n : Result (ℕ × ℕ × ℕ × ℕ × ℕ) Refusal) → with_numbers s at n ≡ Ok (c, i, j) → (i ≤ j) × (j ≤ length s)
    by (Ok (o, t, z, x, a)) q = on o t z x a (info_of s (at + 13)) refl q
    by (Err r) q = refused r q
