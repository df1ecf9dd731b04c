-- The ways of a field of bits, over plain variables. Assumes nothing.
use Rattle.std.specs.Prelude.{Result, Ok, Err}
use mathlib.Core.Path.{◌≡◌, refl, sym, ap, ap₂, ◌∙◌}
use mathlib.Core.List.{List}
use mathlib.Core.Bool.{true, false}
use mathlib.Core.Logic.{◌⊎◌, inl, inr, ⊎_elim}
use Prim.Native.Nat.{ℕ, zero, suc, ◌+◌, ◌*◌, ◌-◌, ◌/◌, ◌^◌, ◌≤◌, ◌<◌}
use native.Mathlib.Nat.{pow-suc, add-zero, add-mul, mul_assoc, add_assoc, pow-le-pow_right, one-le-pow, mul-le-mul_right}
use native.Mathlib.Omega.{arith}
use lib.ListN.{length}
use lib.Dec.{eqb, leb, ltb}
use borrow.Author.Tests.{leb-true, leb-false, ltb-true, ltb-false, eqb-true, eqb-false}
use Rattle.numbers.specs.Number.{bytes}
use Rattle.put.specs.Put.{wrote, placed, put_of}
use Rattle.numbers.specs.Field.{when, widest}
use Rattle.numbers.specs.declared.Refusal.TheVariants as refusal
use Rattle.numbers.specs.declared.Refusal.{Refusal}
use Rattle.numbers.proofs.Chain.{way, is_lt, not-lt, is_le, not-le, is_eq, is_ne, by-true}
use Rattle.asc.specs.Config.{bit_of, bits_of, bit_field, has_form, type_width, type_number, rate_width, rate_number, size, field_bytes}

pub under : (i w : ℕ) → i ≤ w → 2 ^ i ≤ 2 ^ w
under i w h = pow-le-pow_right (omega arith) h

pub pow_pos : (w : ℕ) → 0 < 2 ^ w
pow_pos w = one-le-pow w 2 (omega arith)

-- a bit has two values
pub bit_below : (s : List ℕ) (i : ℕ) → bit_of s i < 2
bit_below s i = omega arith

pub bits_below : (n : ℕ) (s : List ℕ) (i : ℕ) → bits_of n s i < 2 ^ n
unfolding bits_of
bits_below zero s i = omega arith
bits_below (suc n) s i =
    let g : bit_of s i * 2 ^ n ≤ 1 * 2 ^ n = mul-le-mul_right (2 ^ n) (omega (arith, bit_below s i)) in
    rw pow-suc (omega (arith, g, bits_below n s (suc i)))

-- one bit more at the low end
pub snoc : (n : ℕ) (s : List ℕ) (i : ℕ) → bits_of (suc n) s i ≡ bits_of n s i * 2 + bit_of s (i + n)
unfolding bits_of
snoc zero s i = ap (λ k. bit_of s k * 1 + 0) (sym (add-zero i)) ∙ (let q : bit_of s (i + 0) * 1 + 0 ≡ 0 * 2 + bit_of s (i + 0) = omega arith in q)
snoc (suc n) s i =
    let a : bit_of s i * 2 ^ suc n ≡ bit_of s i * 2 ^ n * 2 = ap (λ k. bit_of s i * k) (pow-suc 2 n) ∙ sym (mul_assoc (bit_of s i) (2 ^ n) 2) in
    let b : bits_of (suc n) s (suc i) ≡ bits_of n s (suc i) * 2 + bit_of s (suc i + n) = snoc n s (suc i) in
    let c : suc i + n ≡ i + suc n = omega arith in
    ap₂ (λ (x y : ℕ). x + y) a (b ∙ ap (λ k. bits_of n s (suc i) * 2 + bit_of s k) c)
    ∙ sym (add_assoc (bit_of s i * 2 ^ n * 2) (bits_of n s (suc i) * 2) (bit_of s (i + suc n)))
    ∙ ap (λ k. k + bit_of s (i + suc n)) (sym (add-mul (bit_of s i * 2 ^ n) (bits_of n s (suc i)) 2))

pub grows : (i n b : ℕ) → n < 2 ^ i → b < 2 → n * 2 + b < 2 ^ suc i
grows i n b h g = rw pow-suc (omega arith)

-- FIELDS

module _ (n : ℕ) (s : List ℕ) (i : ℕ) where
  pub whole : {A : Type 0} (refused : Refusal → A) (go : ℕ → A) (x : A) (v : ℕ) → i + n ≤ 8 * length s → v ≡ bits_of n s i → x ≡ go v → x ≡ bit_field refused n s i go
  unfolding bit_field
  whole refused go x v h e q = is_le _ _ x (i + n) (8 * length s) h (q ∙ ap go e)

  pub ends : {A : Type 0} (refused : Refusal → A) (go : ℕ → A) (x : A) → 8 * length s < i + n → x ≡ refused (refusal.Cut (length s)) → x ≡ bit_field refused n s i go
  unfolding bit_field
  ends refused go x h q = not-le _ _ x (i + n) (8 * length s) h q

  -- by which way a field was gone
  pub field-way : {A : Type 0} (refused : Refusal → A) (go : ℕ → A) (z : A) → bit_field refused n s i go ≡ z →
      ((i + n ≤ 8 * length s) × (go (bits_of n s i) ≡ z)) ⊎ ((8 * length s < i + n) × (refused (refusal.Cut (length s)) ≡ z))
  unfolding bit_field
  field-way refused go z e =
      ⊎_elim (λ y. inl (leb-true (i + n) (8 * length s) y.0, y.1)) (λ y. inr (leb-false (i + n) (8 * length s) y.0, y.1))
      (way (leb (i + n) (8 * length s)) (go (bits_of n s i)) (refused (refusal.Cut (length s))) z e)

  module _ (r : Result ℕ Refusal) (e : r ≡ bit_field Err n s i Ok) where
    -- it was read, so it was there
    pub there : (v : ℕ) → r ≡ Ok v → (i + n ≤ 8 * length s) × (v ≡ bits_of n s i) × (v < 2 ^ n)
    there v f =
        ⊎_elim (λ y. let q : v ≡ bits_of n s i = cc (y.1, f) in (y.0, q, omega (arith, q, bits_below n s i)))
        (λ y. let z : ◌≡◌ {A = ℕ} 0 1 = cc (y.1, f) in absurd (omega arith))
        (field-way Err Ok r (sym e))

    was-cut : (q : Refusal) → r ≡ Err q → (8 * length s < i + n) × (q ≡ refusal.Cut (length s))
    was-cut q f =
        ⊎_elim (λ y. let z : ◌≡◌ {A = ℕ} 0 1 = cc (y.1, f) in absurd (omega arith))
        (λ y. let o : q ≡ refusal.Cut (length s) = cc (y.1, f) in (y.0, o))
        (field-way Err Ok r (sym e))

    module _ {A : Type 0} (away : Refusal → A) (go : ℕ → A) (x : A) where
      pub has : (v : ℕ) → r ≡ Ok v → x ≡ go v → x ≡ bit_field away n s i go
      has v f q = whole away go x v (there v f).0 (there v f).1 q

      pub lacks : (q : Refusal) → r ≡ Err q → x ≡ away (refusal.Cut (length s)) → x ≡ bit_field away n s i go
      lacks q f o = ends away go x (was-cut q f).0 o

      pub has-not : (q : Refusal) → r ≡ Err q → x ≡ away q → x ≡ bit_field away n s i go
      has-not q f o = ends away go x (was-cut q f).0 (o ∙ ap away (was-cut q f).1)

-- FORMS

-- each field holds its value
pub record Formed (t f r c : ℕ) : Type 0 where
  pub no-escape : t ≡ 31 → ⊥
  pub type-most : t ≤ 95
  pub index-most : f ≤ 15
  pub channels-most : c ≤ 15
  pub rate : ((f ≡ 15) × (r < 2 ^ 24)) ⊎ ((f ≡ 15 → ⊥) × (r ≡ 0))

pub formed : (t f r c : ℕ) → has_form t f r c ≡ true → Formed t f r c
formed t f r c e =
    ⊎_elim (λ y. none y.1)
    (λ y. ⊎_elim (λ z. none z.1)
    (λ z. ⊎_elim (λ x. none x.1)
    (λ x. ⊎_elim (λ v. none v.1)
    (λ v.
    record {
      no-escape = eqb-false t 31 y.0;
      type-most = ltb-false 95 t z.0;
      index-most = ltb-false 15 f x.0;
      channels-most = ltb-false 15 c v.0;
      rate =
          ⊎_elim (λ u. inl (eqb-true f 15 u.0, ltb-true r (2 ^ 24) u.1)) (λ u. inr (eqb-false f 15 u.0, eqb-true r 0 u.1))
          (way (eqb f 15) (ltb r (2 ^ 24)) (eqb r 0) true v.1);
    })
    (way (ltb 15 c) _ _ _ x.1))
    (way (ltb 15 f) _ _ _ z.1))
    (way (ltb 95 t) _ _ _ y.1))
    (way (eqb t 31) _ _ _ e)
  where
    none : {A : Type 0} → false ≡ true → A
    none q = let z : ◌≡◌ {A = ℕ} 0 1 = cc in absurd (omega arith)

-- the type's bits, and the frequency's
pub short-type : (t : ℕ) → t < 32 → (type_width t ≡ 5) × (type_number t ≡ t)
short-type t h = (sym (is_lt _ _ _ t 32 h refl), sym (is_lt _ _ _ t 32 h refl))

pub long-type : (t : ℕ) → 32 ≤ t → (type_width t ≡ 11) × (type_number t ≡ 31 * 2 ^ 6 + (t - 32))
long-type t h = (sym (not-lt _ _ _ t 32 h refl), sym (not-lt _ _ _ t 32 h refl))

pub own-rate : (f r : ℕ) → f ≡ 15 → (rate_width f ≡ 28) × (rate_number f r ≡ 15 * 2 ^ 24 + r)
own-rate f r h = (sym (is_eq _ _ _ f 15 h refl), sym (is_eq _ _ _ f 15 h refl))

pub listed-rate : (f r : ℕ) → (f ≡ 15 → ⊥) → (rate_width f ≡ 4) × (rate_number f r ≡ f)
listed-rate f r h = (sym (is_ne _ _ _ f 15 h refl), sym (is_ne _ _ _ f 15 h refl))

-- how many bytes fields of so many bits have, and their number in them
abbrev pub size_by : ℕ → ℕ → ℕ
size_by tw fw = (tw + fw + 4 + 7) / 8

abbrev pub shifted_by : ℕ → ℕ → ℕ → ℕ → ℕ → ℕ
shifted_by tw tn fw fn c = ((tn * 2 ^ fw + fn) * 2 ^ 4 + c) * 2 ^ (8 * size_by tw fw - (tw + fw + 4))

module _ (t f r c tw tn fw fn : ℕ) (a : (type_width t ≡ tw) × (type_number t ≡ tn)) (b : (rate_width f ≡ fw) × (rate_number f r ≡ fn)) where
  pub size-by : size t f ≡ size_by tw fw
  size-by = ap₂ size_by a.0 b.0

  pub bytes-by : field_bytes t f r c ≡ bytes (size_by tw fw) (shifted_by tw tn fw fn c)
  bytes-by =
      ap₂ (λ (x y : ℕ). bytes (size_by x y) (shifted_by x (type_number t) y (rate_number f r) c)) a.0 b.0
      ∙ ap₂ (λ (x y : ℕ). bytes (size_by tw fw) (shifted_by tw x fw y c)) a.1 b.1

  -- one number of all fields is written
  pub as_one : (w n : ℕ) → w ≡ size_by tw fw → n ≡ shifted_by tw tn fw fn c → n < 256 ^ w → w ≤ 8 → (buf after : List ℕ) (p : Result ℕ Refusal) → has_form t f r c ≡ true →
      wrote p after ≡ put_of w n 0 buf → wrote p after ≡ when (has_form t f r c) (placed (field_bytes t f r c) (size t f) 0 buf) (wrote (Err refusal.Unwritable) buf)
  as_one w n d e g l buf after p h q =
      by-true _ _ _ (has_form t f r c) h
      (q ∙ sym (is_le _ _ _ w widest l (is_lt _ _ _ n (256 ^ w) g refl))
      ∙ ap₂ (λ (x : List ℕ) (k : ℕ). placed x k 0 buf) (ap₂ (λ (x y : ℕ). bytes x y) d e ∙ sym bytes-by) (d ∙ sym size-by))

module _ (t f r c : ℕ) (buf after : List ℕ) (p : Result ℕ Refusal) (h : has_form t f r c ≡ true) where
  abbrev pub Written : Type 0
  Written = wrote p after ≡ when (has_form t f r c) (placed (field_bytes t f r c) (size t f) 0 buf) (wrote (Err refusal.Unwritable) buf)

  its-form : Formed t f r c
  its-form = formed t f r c h

  small : r < 2 ^ 24
  small = ⊎_elim (λ y. y.1) (λ y. omega (arith, y.1)) its-form.rate

  pub in-2 : t < 32 → (f ≡ 15 → ⊥) → wrote p after ≡ put_of 2 ((t * 16 + f) * 128 + c * 8) 0 buf → Written
  in-2 a b q =
      as_one t f r c 5 t 4 f (short-type t a) (listed-rate f r b) 2 ((t * 16 + f) * 128 + c * 8) refl (omega arith)
      (omega (arith, a, its-form.index-most, its-form.channels-most)) (omega arith) buf after p h q

  pub in-5 : t < 32 → f ≡ 15 → wrote p after ≡ put_of 5 (((t * 16 + 15) * 0x100_0000 + r) * 128 + c * 8) 0 buf → Written
  in-5 a b q =
      as_one t f r c 5 t 28 (15 * 2 ^ 24 + r) (short-type t a) (own-rate f r b) 5 (((t * 16 + 15) * 0x100_0000 + r) * 128 + c * 8) refl (omega arith)
      (omega (arith, a, small, its-form.channels-most)) (omega arith) buf after p h q

  pub in-3 : 32 ≤ t → (f ≡ 15 → ⊥) → wrote p after ≡ put_of 3 (((31 * 64 + (t - 32)) * 16 + f) * 512 + c * 32) 0 buf → Written
  in-3 a b q =
      as_one t f r c 11 (31 * 2 ^ 6 + (t - 32)) 4 f (long-type t a) (listed-rate f r b) 3 (((31 * 64 + (t - 32)) * 16 + f) * 512 + c * 32) refl (omega arith)
      (omega (arith, its-form.type-most, its-form.index-most, its-form.channels-most)) (omega arith) buf after p h q

  pub in-6 : 32 ≤ t → f ≡ 15 → wrote p after ≡ put_of 6 ((((31 * 64 + (t - 32)) * 16 + 15) * 0x100_0000 + r) * 512 + c * 32) 0 buf → Written
  in-6 a b q =
      as_one t f r c 11 (31 * 2 ^ 6 + (t - 32)) 28 (15 * 2 ^ 24 + r) (long-type t a) (own-rate f r b) 6 ((((31 * 64 + (t - 32)) * 16 + 15) * 0x100_0000 + r) * 512 + c * 32) refl (omega arith)
      (omega (arith, its-form.type-most, small, its-form.channels-most)) (omega arith) buf after p h q
