-- What is written reads back the same, and what was read from a canonical form is written with its own bytes. A field of
-- bits is a part of the number that the bytes make; each form has its own row of parts. Assumes nothing.
use Rattle.std.specs.Prelude.{Ok, Err}
use mathlib.Core.Path.{◌≡◌, refl, sym, ap, ap₂, ◌∙◌}
use mathlib.Core.List.{List, [], ◌++◌}
use mathlib.Core.Bool.{Bool, true, false}
use mathlib.Core.Logic.{◌⊎◌, inl, inr, ⊎_elim}
use Prim.Native.Nat.{ℕ, zero, suc, ◌+◌, ◌*◌, ◌-◌, ◌/◌, ◌%◌, ◌^◌, ◌≤◌, ◌<◌}
use native.Mathlib.Nat.{zero-add, pow-suc, add-zero, add-mul, mul_assoc, add_assoc, mul_comm, div-add-mod', mod-lt, mod-one, mod-eq_of_lt, mul-add-mod_self_right, mul-add-div_right, div-eq_of_lt, div-one, div-div-eq-div-mul, mul-le-mul_right}
use native.Mathlib.Omega.{arith}
use lib.Pow.{pow-add}
use lib.ListN.{length, get_or, drop, length-append}
use lib.Seq.{sets, sets-eq}
use lib.Dec.{eqb, ltb}
use borrow.Author.Tests.{eqb-true, eqb-false, ltb-true, ltb-false, lt-ltb, eq-eqb}
use Rattle.numbers.specs.Number.{be, bytes}
use Rattle.numbers.specs.declared.Refusal.{Refusal}
use Rattle.numbers.proofs.Laws.{Bytes, join, be-below, be-bytes, length-bytes, to-bytes}
use Rattle.numbers.proofs.Laws as numbers-laws
use Rattle.numbers.proofs.Chain.{way, is_eq, is_ne, not-lt, is_le, by-true}
use Rattle.put.specs.Put.{wrote}
use Rattle.put.proofs.Placed.{Placed, placed-done}
use Rattle.asc.specs.Config.{bit_of, bits_of, config, channels_of, rate_of, config_of, has_form, width, size, spare, field_bytes, size_for, config_bytes, config_in, canonical}
use Rattle.asc.specs.declared.Config.{Config}
use Rattle.asc.proofs.Cases.{pow_pos, bits_below, whole, field-way, Formed, formed, short-type, long-type, own-rate, listed-rate, size_by, shifted_by, size-by, bytes-by}

-- BITS OF A NUMBER

-- the first w elements are bytes
abbrev pub Low : ℕ → List ℕ → Type 0
Low w s = (j : ℕ) → j < w → get_or s j 0 < 256

be-low : (w m : ℕ) (s : List ℕ) (at : ℕ) → ((j : ℕ) → j < m → get_or s j 0 < 256) → at + w ≤ m → be w s at < 256 ^ w
unfolding be
be-low zero m s at h l = omega arith
be-low (suc w) m s at h l =
    let g : get_or s at 0 * 256 ^ w ≤ 255 * 256 ^ w = mul-le-mul_right (256 ^ w) (omega (arith, h at (omega arith))) in
    rw pow-suc (omega (arith, g, be-low w m s (suc at) h (omega arith)))

-- byte j of the number in j + 1 + m bytes
byte_of : (j m : ℕ) (s : List ℕ) → Low (j + suc m) s → get_or s j 0 ≡ be (j + suc m) s 0 / 256 ^ m % 256
unfolding be
byte_of j m s h =
    let p = 256 ^ m in
    let g = get_or s j 0 in
    let y = be m s (suc j) in
    let a : be (j + suc m) s 0 ≡ be j s 0 * 256 ^ suc m + (g * p + y) =
    join j (suc m) s 0 ∙ ap (λ k. be j s 0 * 256 ^ suc m + (get_or s k 0 * p + be m s (suc k))) (let z : 0 + j ≡ j = omega arith in z) in
    let b : be j s 0 * 256 ^ suc m ≡ be j s 0 * 256 * p = ap (λ k. be j s 0 * k) (pow-suc 256 m ∙ mul_comm p 256) ∙ sym (mul_assoc (be j s 0) 256 p) in
    let c : be (j + suc m) s 0 ≡ (be j s 0 * 256 + g) * p + y =
    a ∙ ap (λ k. k + (g * p + y)) b ∙ sym (add_assoc (be j s 0 * 256 * p) (g * p) y) ∙ ap (λ k. k + y) (sym (add-mul (be j s 0 * 256) g p)) in
    let d : be (j + suc m) s 0 / p ≡ be j s 0 * 256 + g =
    ap (λ k. k / p) c ∙ mul-add-div_right (numbers-laws.pow_pos m) (be j s 0 * 256 + g) y
    ∙ ap (λ k. be j s 0 * 256 + g + k) (div-eq_of_lt (be-low m (j + suc m) s (suc j) h (omega arith))) ∙ add-zero (be j s 0 * 256 + g) in
    sym (ap (λ k. k % 256) d ∙ mul-add-mod_self_right (be j s 0) 256 g ∙ mod-eq_of_lt (h j (omega arith)))

-- a bit of a byte is a bit of the number that the byte ends
low-eight : (y q e : ℕ) → q + e ≡ 7 → y % 256 / 2 ^ q % 2 ≡ y / 2 ^ q % 2
low-eight y q e h =
    let z = y / 256 in
    let r = y % 256 in
    let p : 2 ^ e * 2 * 2 ^ q ≡ 256 = ap (λ k. k * 2 ^ q) (sym (pow-suc 2 e)) ∙ sym (pow-add 2 (suc e) q) ∙ ap (λ k. 2 ^ k) (let o : suc e + q ≡ 8 = omega (arith, h) in o) in
    let a : y ≡ z * (2 ^ e * 2) * 2 ^ q + r = sym (div-add-mod' y 256) ∙ ap (λ k. k + r) (ap (λ k. z * k) (sym p) ∙ sym (mul_assoc z (2 ^ e * 2) (2 ^ q))) in
    let b : y / 2 ^ q ≡ z * (2 ^ e * 2) + r / 2 ^ q = ap (λ k. k / 2 ^ q) a ∙ mul-add-div_right (pow_pos q) (z * (2 ^ e * 2)) r in
    sym (ap (λ k. k % 2) (b ∙ ap (λ k. k + r / 2 ^ q) (sym (mul_assoc z (2 ^ e) 2))) ∙ mul-add-mod_self_right (z * 2 ^ e) 2 (r / 2 ^ q))

bytes_bits : (m : ℕ) → 256 ^ m ≡ 2 ^ (8 * m)
bytes_bits zero = refl
bytes_bits (suc m) =
    pow-suc 256 m ∙ ap (λ k. k * 256) (bytes_bits m) ∙ sym (pow-add 2 (8 * m) 8) ∙ ap (λ k. 2 ^ k) (let o : 8 * m + 8 ≡ 8 * suc m = omega arith in o)

bit-of : (w i k : ℕ) (s : List ℕ) → Low w s → suc i + k ≡ 8 * w → bit_of s i ≡ be w s 0 / 2 ^ k % 2
bit-of w i k s h e =
    let j = i / 8 in
    let q = 7 - i % 8 in
    let m = w - 1 - j in
    let a : j + suc m ≡ w = omega (arith, e) in
    let b : 8 * m + q ≡ k = omega (arith, e) in
    let x = be w s 0 in
    let g : get_or s j 0 ≡ x / 256 ^ m % 256 = byte_of j m s (λ u l. h u (omega (arith, a, l))) ∙ ap (λ v. be v s 0 / 256 ^ m % 256) a in
    let d : x / 256 ^ m / 2 ^ q ≡ x / 2 ^ k =
    div-div-eq-div-mul x (256 ^ m) (2 ^ q) ∙ ap (λ v. x / v) (ap (λ v. v * 2 ^ q) (bytes_bits m) ∙ sym (pow-add 2 (8 * m) q) ∙ ap (λ v. 2 ^ v) b) in
    ap (λ v. v / 2 ^ q % 2) g ∙ low-eight (x / 256 ^ m) q (i % 8) (omega arith) ∙ ap (λ v. v % 2) d

-- p times 2: the digits of n above and below
digits : (p n : ℕ) → 0 < p → (n / p % 2) * p + n % p ≡ n % (p * 2)
digits p n h =
    let r = (n / p % 2) * p + n % p in
    let a : n / p * p + n % p ≡ n = div-add-mod' n p in
    let b : n / p / 2 * 2 + n / p % 2 ≡ n / p = div-add-mod' (n / p) 2 in
    let c : n / p / 2 * (p * 2) + r ≡ n =
    ap (λ k. k + r) (ap (λ k. n / p / 2 * k) (mul_comm p 2) ∙ sym (mul_assoc (n / p / 2) 2 p))
    ∙ sym (add_assoc (n / p / 2 * 2 * p) ((n / p % 2) * p) (n % p))
    ∙ ap (λ k. k + n % p) (sym (add-mul (n / p / 2 * 2) (n / p % 2) p) ∙ ap (λ k. k * p) b) ∙ a in
    let d : n % p < p = mod-lt n h in
    let e : (n / p % 2) * p ≤ 1 * p = mul-le-mul_right p (omega arith) in
    let f : r < p * 2 = omega arith in
    sym (mod-eq_of_lt f) ∙ sym (mul-add-mod_self_right (n / p / 2) (p * 2) r) ∙ ap (λ k. k % (p * 2)) c

-- n bits from bit i on, with k behind them, are a part of the number in w bytes
pub bits-of : (n w i k : ℕ) (s : List ℕ) → Low w s → i + n + k ≡ 8 * w → bits_of n s i ≡ be w s 0 / 2 ^ k % 2 ^ n
unfolding bits_of
bits-of zero w i k s h e = sym (mod-one (be w s 0 / 2 ^ k))
bits-of (suc n) w i k s h e =
    let m = be w s 0 / 2 ^ k in
    let a : bit_of s i ≡ m / 2 ^ n % 2 =
    bit-of w i (k + n) s h (omega (arith, e))
    ∙ ap (λ v. v % 2) (ap (λ v. be w s 0 / v) (pow-add 2 k n) ∙ sym (div-div-eq-div-mul (be w s 0) (2 ^ k) (2 ^ n))) in
    ap₂ (λ (x y : ℕ). x * 2 ^ n + y) a (bits-of n w (suc i) k s h (omega (arith, e)))
    ∙ digits (2 ^ n) m (pow_pos n) ∙ ap (λ v. m % v) (sym (pow-suc 2 n))

-- WRITTEN, THEN READ

bytes_low : (w n : ℕ) (rest : List ℕ) → Low w (bytes w n ++ rest)
unfolding bytes
bytes_low zero n rest j h = absurd (omega arith)
bytes_low (suc w) n rest zero h = omega arith
bytes_low (suc w) n rest (suc j) h = bytes_low w n rest j (omega arith)

module _ (w n : ℕ) (rest : List ℕ) (h : n < 256 ^ w) where
  front-is : be w (bytes w n ++ rest) 0 ≡ n
  front-is = be-bytes w n [] rest ∙ mod-eq_of_lt h

  front_long : length (bytes w n ++ rest) ≡ w + length rest
  front_long = length-append (bytes w n) rest ∙ ap (λ k. k + length rest) (length-bytes w n)

  part : (m i k : ℕ) → i + m + k ≡ 8 * w → bits_of m (bytes w n ++ rest) i ≡ n / 2 ^ k % 2 ^ m
  part m i k e = bits-of m w i k (bytes w n ++ rest) (bytes_low w n rest) e ∙ ap (λ v. v / 2 ^ k % 2 ^ m) front-is

module _ (t f r c : ℕ) (h : Formed t f r c) (rest : List ℕ) where
  -- a type of 5 bits and a listed frequency: 2 bytes
  reads-2 : t < 32 → (f ≡ 15 → ⊥) → r ≡ 0 → config_of (bytes 2 (shifted_by 5 t 4 f c) ++ rest) ≡ Ok (config t f r c)
  reads-2 a b z =
      let n = ((t * 2 ^ 4 + f) * 2 ^ 4 + c) * 2 ^ 3 in
      let s = bytes 2 n ++ rest in
      let l : n < 256 ^ 2 = omega (arith, a, h.index-most, h.channels-most) in
      let long : length s ≡ 2 + length rest = front_long 2 n rest l in
      let u : bits_of 5 s 0 ≡ t = part 2 n rest l 5 0 11 refl ∙ omega (arith, a, h.index-most, h.channels-most) in
      let v : bits_of 4 s 5 ≡ f = part 2 n rest l 4 5 7 refl ∙ omega (arith, a, h.index-most, h.channels-most) in
      let x : bits_of 4 s 9 ≡ c = part 2 n rest l 4 9 3 refl ∙ omega (arith, a, h.index-most, h.channels-most) in
      sym (whole 5 s 0 Err _ _ t (omega (arith, long)) (sym u) (is_ne _ _ _ t 31 h.no-escape
      (whole 4 s 5 Err _ _ f (omega (arith, long)) (sym v) (is_ne _ _ _ f 15 b
      (whole 4 s 9 Err _ _ c (omega (arith, long)) (sym x) (ap (λ k. Ok (config t f k c)) z))))))

  -- a type of 5 bits and a frequency of its own: 5 bytes
  reads-5 : t < 32 → f ≡ 15 → r < 2 ^ 24 → config_of (bytes 5 (shifted_by 5 t 28 (15 * 2 ^ 24 + r) c) ++ rest) ≡ Ok (config t f r c)
  reads-5 a b z =
      let n = ((t * 2 ^ 28 + (15 * 2 ^ 24 + r)) * 2 ^ 4 + c) * 2 ^ 3 in
      let s = bytes 5 n ++ rest in
      let l : n < 256 ^ 5 = omega (arith, a, z, h.channels-most) in
      let long : length s ≡ 5 + length rest = front_long 5 n rest l in
      let u : bits_of 5 s 0 ≡ t = part 5 n rest l 5 0 35 refl ∙ omega (arith, a, z, h.channels-most) in
      let v : bits_of 4 s 5 ≡ 15 = part 5 n rest l 4 5 31 refl ∙ omega (arith, a, z, h.channels-most) in
      let y : bits_of 24 s 9 ≡ r = part 5 n rest l 24 9 7 refl ∙ omega (arith, a, z, h.channels-most) in
      let x : bits_of 4 s 33 ≡ c = part 5 n rest l 4 33 3 refl ∙ omega (arith, a, z, h.channels-most) in
      sym (whole 5 s 0 Err _ _ t (omega (arith, long)) (sym u) (is_ne _ _ _ t 31 h.no-escape
      (whole 4 s 5 Err _ _ 15 (omega (arith, long)) (sym v) (is_eq _ _ _ 15 15 refl
      (whole 24 s 9 Err _ _ r (omega (arith, long)) (sym y)
      (whole 4 s 33 Err _ _ c (omega (arith, long)) (sym x) (ap (λ k. Ok (config t k r c)) b)))))))

  -- an escape and a listed frequency: 3 bytes
  reads-3 : 32 ≤ t → (f ≡ 15 → ⊥) → r ≡ 0 → config_of (bytes 3 (shifted_by 11 (31 * 2 ^ 6 + (t - 32)) 4 f c) ++ rest) ≡ Ok (config t f r c)
  reads-3 a b z =
      let n = (((31 * 2 ^ 6 + (t - 32)) * 2 ^ 4 + f) * 2 ^ 4 + c) * 2 ^ 5 in
      let s = bytes 3 n ++ rest in
      let l : n < 256 ^ 3 = omega (arith, h.type-most, h.index-most, h.channels-most) in
      let long : length s ≡ 3 + length rest = front_long 3 n rest l in
      let u : bits_of 5 s 0 ≡ 31 = part 3 n rest l 5 0 19 refl ∙ omega (arith, h.type-most, h.index-most, h.channels-most) in
      let w : bits_of 6 s 5 ≡ t - 32 = part 3 n rest l 6 5 13 refl ∙ omega (arith, h.type-most, h.index-most, h.channels-most) in
      let v : bits_of 4 s 11 ≡ f = part 3 n rest l 4 11 9 refl ∙ omega (arith, h.type-most, h.index-most, h.channels-most) in
      let x : bits_of 4 s 15 ≡ c = part 3 n rest l 4 15 5 refl ∙ omega (arith, h.type-most, h.index-most, h.channels-most) in
      let o : t ≡ 32 + (t - 32) = omega (arith, a) in
      sym (whole 5 s 0 Err _ _ 31 (omega (arith, long)) (sym u) (is_eq _ _ _ 31 31 refl
      (whole 6 s 5 Err _ _ (t - 32) (omega (arith, long)) (sym w)
      (whole 4 s 11 Err _ _ f (omega (arith, long)) (sym v) (is_ne _ _ _ f 15 b
      (whole 4 s 15 Err _ _ c (omega (arith, long)) (sym x) (ap₂ (λ (i k : ℕ). Ok (config i f k c)) o z)))))))

  -- an escape and a frequency of its own: 6 bytes
  reads-6 : 32 ≤ t → f ≡ 15 → r < 2 ^ 24 → config_of (bytes 6 (shifted_by 11 (31 * 2 ^ 6 + (t - 32)) 28 (15 * 2 ^ 24 + r) c) ++ rest) ≡ Ok (config t f r c)
  reads-6 a b z =
      let n = (((31 * 2 ^ 6 + (t - 32)) * 2 ^ 28 + (15 * 2 ^ 24 + r)) * 2 ^ 4 + c) * 2 ^ 5 in
      let s = bytes 6 n ++ rest in
      let l : n < 256 ^ 6 = omega (arith, h.type-most, z, h.channels-most) in
      let long : length s ≡ 6 + length rest = front_long 6 n rest l in
      let u : bits_of 5 s 0 ≡ 31 = part 6 n rest l 5 0 43 refl ∙ omega (arith, h.type-most, z, h.channels-most) in
      let w : bits_of 6 s 5 ≡ t - 32 = part 6 n rest l 6 5 37 refl ∙ omega (arith, h.type-most, z, h.channels-most) in
      let v : bits_of 4 s 11 ≡ 15 = part 6 n rest l 4 11 33 refl ∙ omega (arith, h.type-most, z, h.channels-most) in
      let y : bits_of 24 s 15 ≡ r = part 6 n rest l 24 15 9 refl ∙ omega (arith, h.type-most, z, h.channels-most) in
      let x : bits_of 4 s 39 ≡ c = part 6 n rest l 4 39 5 refl ∙ omega (arith, h.type-most, z, h.channels-most) in
      let o : t ≡ 32 + (t - 32) = omega (arith, a) in
      sym (whole 5 s 0 Err _ _ 31 (omega (arith, long)) (sym u) (is_eq _ _ _ 31 31 refl
      (whole 6 s 5 Err _ _ (t - 32) (omega (arith, long)) (sym w)
      (whole 4 s 11 Err _ _ 15 (omega (arith, long)) (sym v) (is_eq _ _ _ 15 15 refl
      (whole 24 s 15 Err _ _ r (omega (arith, long)) (sym y)
      (whole 4 s 39 Err _ _ c (omega (arith, long)) (sym x) (ap₂ (λ (i k : ℕ). Ok (config i k r c)) o b))))))))

  fields_read : config_of (field_bytes t f r c ++ rest) ≡ Ok (config t f r c)
  fields_read =
      ⊎_elim
      (λ y.
      let a : t < 32 = ltb-true t 32 y in
      ⊎_elim (λ z. ap (λ l. config_of (l ++ rest)) (bytes-by t f r c 5 t 28 (15 * 2 ^ 24 + r) (short-type t a) (own-rate f r z.0)) ∙ reads-5 a z.0 z.1)
      (λ z. ap (λ l. config_of (l ++ rest)) (bytes-by t f r c 5 t 4 f (short-type t a) (listed-rate f r z.0)) ∙ reads-2 a z.0 z.1)
      h.rate)
      (λ y.
      let a : 32 ≤ t = ltb-false t 32 y in
      ⊎_elim (λ z. ap (λ l. config_of (l ++ rest)) (bytes-by t f r c 11 (31 * 2 ^ 6 + (t - 32)) 28 (15 * 2 ^ 24 + r) (long-type t a) (own-rate f r z.0)) ∙ reads-6 a z.0 z.1)
      (λ z. ap (λ l. config_of (l ++ rest)) (bytes-by t f r c 11 (31 * 2 ^ 6 + (t - 32)) 4 f (long-type t a) (listed-rate f r z.0)) ∙ reads-3 a z.0 z.1)
      h.rate)
      (two_ways (ltb t 32))
    where
      two_ways : (b : Bool) → (b ≡ true) ⊎ (b ≡ false)
      two_ways true = inl refl
      two_ways false = inr refl

-- fields that have a form read back, whatever follows them
pub config-reads : (x : Config) (rest : List ℕ) → has_form x.object_type x.frequency_index x.frequency x.channels ≡ true → config_of (config_bytes x ++ rest) ≡ Ok x
config-reads x rest h = fields_read x.object_type x.frequency_index x.frequency x.channels (formed x.object_type x.frequency_index x.frequency x.channels h) rest

-- what is written reads back
pub config-back : (x : Config) (buf out : List ℕ) (p : ℕ) → config_in x buf ≡ wrote (Ok p) out → (config_of out ≡ Ok x) × (p ≡ size_for x)
config-back x buf out p e =
    ⊎_elim
    (λ y.
    let d : Placed (config_bytes x) (size_for x) 0 buf p out = placed-done (config_bytes x) (size_for x) 0 buf p out y.1 in
    let l : length (config_bytes x) ≡ size_for x = length-bytes (size_for x) _ in
    let s : out ≡ config_bytes x ++ drop (0 + length (config_bytes x)) buf = d.bytes ∙ sets-eq (config_bytes x) buf 0 (omega (arith, d.room, l)) in
    (ap config_of s ∙ config-reads x (drop (0 + length (config_bytes x)) buf) y.0, d.next ∙ zero-add (size_for x)))
    (λ y. let z : ◌≡◌ {A = ℕ} 0 1 = cc y.1 in absurd (omega arith))
    (way (has_form x.object_type x.frequency_index x.frequency x.channels) _ _ _ e)

-- READ, THEN WRITTEN

module _ (s : List ℕ) (x : Config) where
  refused : {A : Type 0} (q : Refusal) → Err q ≡ Ok x → A
  refused q e = let z : ◌≡◌ {A = ℕ} 0 1 = cc in absurd (omega arith)

  channels-read : (i t f r : ℕ) → channels_of s i t f r ≡ Ok x → x ≡ config t f r (bits_of 4 s i)
  channels-read i t f r e = ⊎_elim (λ y. let q : x ≡ config t f r (bits_of 4 s i) = cc y.1 in q) (λ y. refused _ y.1) (field-way 4 s i Err _ _ e)

  rate-read : (i t : ℕ) → rate_of s i t ≡ Ok x →
      ((bits_of 4 s i ≡ 15 → ⊥) × (x ≡ config t (bits_of 4 s i) 0 (bits_of 4 s (i + 4)))) ⊎ ((bits_of 4 s i ≡ 15) × (x ≡ config t 15 (bits_of 24 s (i + 4)) (bits_of 4 s (i + 28))))
  rate-read i t e =
      ⊎_elim
      (λ y. ⊎_elim
      (λ z. ⊎_elim (λ v. inr (eqb-true (bits_of 4 s i) 15 z.0, channels-read (i + 28) t 15 (bits_of 24 s (i + 4)) v.1)) (λ v. refused _ v.1)
      (field-way 24 s (i + 4) Err _ _ z.1))
      (λ z. inl (eqb-false (bits_of 4 s i) 15 z.0, channels-read (i + 4) t (bits_of 4 s i) 0 z.1))
      (way (eqb (bits_of 4 s i) 15) _ _ _ y.1))
      (λ y. refused _ y.1)
      (field-way 4 s i Err _ _ e)

-- a part of a number and the part above it
stack : (n k m hi lo : ℕ) → hi ≡ n / 2 ^ (k + m) → lo ≡ n / 2 ^ k % 2 ^ m → hi * 2 ^ m + lo ≡ n / 2 ^ k
stack n k m hi lo a b =
    ap₂ (λ (x y : ℕ). x * 2 ^ m + y) (a ∙ ap (λ v. n / v) (pow-add 2 k m) ∙ sym (div-div-eq-div-mul n (2 ^ k) (2 ^ m))) b ∙ div-add-mod' (n / 2 ^ k) (2 ^ m)

-- the tests of a form, passed
has-form : (t f r c : ℕ) → Formed t f r c → has_form t f r c ≡ true
has-form t f r c h =
    sym (is_ne _ _ _ t 31 h.no-escape (not-lt _ _ _ 95 t h.type-most (not-lt _ _ _ 15 f h.index-most (not-lt _ _ _ 15 c h.channels-most
    (⊎_elim (λ y. is_eq _ _ _ f 15 y.0 (sym (lt-ltb r (2 ^ 24) y.1))) (λ y. is_ne _ _ _ f 15 y.0 (sym (eq-eqb r 0 y.1))) h.rate)))))

module _ (s : List ℕ) where
  -- fields that have a form, and whose bytes are those that they were read from
  abbrev Own : Config → Type 0
  Own x = (has_form x.object_type x.frequency_index x.frequency x.channels ≡ true) × (Bytes s → canonical s x ≡ true → config_bytes x ≡ s)

  as_written : (x : Config) → canonical s x ≡ true →
      (length s ≡ size_for x) × (bits_of (spare x.object_type x.frequency_index) s (width x.object_type x.frequency_index) ≡ 0)
  as_written x e =
      ⊎_elim (λ y. (eqb-true (length s) (size_for x) y.0, eqb-true (bits_of (spare x.object_type x.frequency_index) s (width x.object_type x.frequency_index)) 0 y.1))
      (λ y. let z : ◌≡◌ {A = ℕ} 0 1 = cc y.1 in absurd (omega arith))
      (way (eqb (length s) (size_for x)) _ _ true e)

  -- a type of 5 bits, a listed frequency
  own-2 : (t f r c : ℕ) → t ≡ bits_of 5 s 0 → (t ≡ 31 → ⊥) → f ≡ bits_of 4 s 5 → (f ≡ 15 → ⊥) → r ≡ 0 → c ≡ bits_of 4 s 9 → Own (config t f r c)
  own-2 t f r c a g d o m i =
      let h : Formed t f r c = record { no-escape = g; type-most = omega (arith, a, bits_below 5 s 0); index-most = omega (arith, d, bits_below 4 s 5); rate = inr (o, m); channels-most = omega (arith, i, bits_below 4 s 9) } in (
        has-form t f r c h,
        λ b k.
            let is : (length s ≡ size t f) × (bits_of (spare t f) s (width t f) ≡ 0) = as_written (config t f r c) k in
            let long : length s ≡ 2 = is.0 ∙ size-by t f r c 5 t 4 f (short-type t (omega (arith, a, bits_below 5 s 0))) (listed-rate f r o) in
            let pad : bits_of 3 s 13 ≡ 0 = sym (ap₂ (λ (x y : ℕ). bits_of (8 * size_by x y - (x + y + 4)) s (x + y + 4)) (short-type t (omega (arith, a, bits_below 5 s 0))).0 (listed-rate f r o).0) ∙ is.1 in
            let n = be 2 s 0 in
            let l : n < 256 ^ 2 = be-below 2 s 0 b in
            let u : t ≡ n / 2 ^ 11 % 2 ^ 5 = a ∙ bits-of 5 2 0 11 s (λ j q. b j) refl in
            let x : f ≡ n / 2 ^ 7 % 2 ^ 4 = d ∙ bits-of 4 2 5 7 s (λ j q. b j) refl in
            let p : c ≡ n / 2 ^ 3 % 2 ^ 4 = i ∙ bits-of 4 2 9 3 s (λ j q. b j) refl in
            let z : n / 2 ^ 0 % 2 ^ 3 ≡ 0 = sym (bits-of 3 2 13 0 s (λ j q. b j) refl) ∙ pad in
            let top : t ≡ n / 2 ^ 11 = u ∙ mod-eq_of_lt (let q : n / 2 ^ 11 < 2 ^ 5 = omega (arith, l) in q) in
            let index : t * 2 ^ 4 + f ≡ n / 2 ^ 7 = stack n 7 4 t f top x in
            let channels : (t * 2 ^ 4 + f) * 2 ^ 4 + c ≡ n / 2 ^ 3 = stack n 3 4 (t * 2 ^ 4 + f) c index p in
            let e : shifted_by 5 t 4 f c ≡ n = sym (add-zero (((t * 2 ^ 4 + f) * 2 ^ 4 + c) * 2 ^ 3)) ∙ stack n 0 3 ((t * 2 ^ 4 + f) * 2 ^ 4 + c) 0 channels (sym z) ∙ div-one n in
            bytes-by t f r c 5 t 4 f (short-type t (omega (arith, a, bits_below 5 s 0))) (listed-rate f r o) ∙ ap (bytes 2) e ∙ to-bytes 2 s b long,
      )

  -- a type of 5 bits, a frequency of its own
  own-5 : (t f r c : ℕ) → t ≡ bits_of 5 s 0 → (t ≡ 31 → ⊥) → bits_of 4 s 5 ≡ 15 → f ≡ 15 → r ≡ bits_of 24 s 9 → c ≡ bits_of 4 s 33 → Own (config t f r c)
  own-5 t f r c a g d o m i =
      let h : Formed t f r c = record { no-escape = g; type-most = omega (arith, a, bits_below 5 s 0); index-most = omega (arith, o); rate = inl (o, omega (arith, m, bits_below 24 s 9)); channels-most = omega (arith, i, bits_below 4 s 33) } in (
        has-form t f r c h,
        λ b k.
            let is : (length s ≡ size t f) × (bits_of (spare t f) s (width t f) ≡ 0) = as_written (config t f r c) k in
            let long : length s ≡ 5 = is.0 ∙ size-by t f r c 5 t 28 (15 * 2 ^ 24 + r) (short-type t (omega (arith, a, bits_below 5 s 0))) (own-rate f r o) in
            let pad : bits_of 3 s 37 ≡ 0 = sym (ap₂ (λ (x y : ℕ). bits_of (8 * size_by x y - (x + y + 4)) s (x + y + 4)) (short-type t (omega (arith, a, bits_below 5 s 0))).0 (own-rate f r o).0) ∙ is.1 in
            let n = be 5 s 0 in
            let l : n < 256 ^ 5 = be-below 5 s 0 b in
            let u : t ≡ n / 2 ^ 35 % 2 ^ 5 = a ∙ bits-of 5 5 0 35 s (λ j q. b j) refl in
            let x : 15 ≡ n / 2 ^ 31 % 2 ^ 4 = sym d ∙ bits-of 4 5 5 31 s (λ j q. b j) refl in
            let y : r ≡ n / 2 ^ 7 % 2 ^ 24 = m ∙ bits-of 24 5 9 7 s (λ j q. b j) refl in
            let p : c ≡ n / 2 ^ 3 % 2 ^ 4 = i ∙ bits-of 4 5 33 3 s (λ j q. b j) refl in
            let z : n / 2 ^ 0 % 2 ^ 3 ≡ 0 = sym (bits-of 3 5 37 0 s (λ j q. b j) refl) ∙ pad in
            let top : t ≡ n / 2 ^ 35 = u ∙ mod-eq_of_lt (let q : n / 2 ^ 35 < 2 ^ 5 = omega (arith, l) in q) in
            let index : t * 2 ^ 4 + 15 ≡ n / 2 ^ 31 = stack n 31 4 t 15 top x in
            let rate : t * 2 ^ 28 + (15 * 2 ^ 24 + r) ≡ n / 2 ^ 7 = omega (arith, stack n 7 24 (t * 2 ^ 4 + 15) r index y) in
            let channels : (t * 2 ^ 28 + (15 * 2 ^ 24 + r)) * 2 ^ 4 + c ≡ n / 2 ^ 3 = stack n 3 4 (t * 2 ^ 28 + (15 * 2 ^ 24 + r)) c rate p in
            let e : shifted_by 5 t 28 (15 * 2 ^ 24 + r) c ≡ n = sym (add-zero (((t * 2 ^ 28 + (15 * 2 ^ 24 + r)) * 2 ^ 4 + c) * 2 ^ 3)) ∙ stack n 0 3 ((t * 2 ^ 28 + (15 * 2 ^ 24 + r)) * 2 ^ 4 + c) 0 channels (sym z) ∙ div-one n in
            bytes-by t f r c 5 t 28 (15 * 2 ^ 24 + r) (short-type t (omega (arith, a, bits_below 5 s 0))) (own-rate f r o) ∙ ap (bytes 5) e ∙ to-bytes 5 s b long,
      )

  -- an escape, a listed frequency
  own-3 : (t f r c : ℕ) → bits_of 5 s 0 ≡ 31 → t ≡ 32 + bits_of 6 s 5 → f ≡ bits_of 4 s 11 → (f ≡ 15 → ⊥) → r ≡ 0 → c ≡ bits_of 4 s 15 → Own (config t f r c)
  own-3 t f r c a g d o m i =
      let h : Formed t f r c = record { no-escape = λ q. omega (arith, g, q); type-most = omega (arith, g, bits_below 6 s 5); index-most = omega (arith, d, bits_below 4 s 11); rate = inr (o, m); channels-most = omega (arith, i, bits_below 4 s 15) } in (
        has-form t f r c h,
        λ b k.
            let is : (length s ≡ size t f) × (bits_of (spare t f) s (width t f) ≡ 0) = as_written (config t f r c) k in
            let long : length s ≡ 3 = is.0 ∙ size-by t f r c 11 (31 * 2 ^ 6 + (t - 32)) 4 f (long-type t (omega (arith, g))) (listed-rate f r o) in
            let pad : bits_of 5 s 19 ≡ 0 = sym (ap₂ (λ (x y : ℕ). bits_of (8 * size_by x y - (x + y + 4)) s (x + y + 4)) (long-type t (omega (arith, g))).0 (listed-rate f r o).0) ∙ is.1 in
            let n = be 3 s 0 in
            let l : n < 256 ^ 3 = be-below 3 s 0 b in
            let u : 31 ≡ n / 2 ^ 19 % 2 ^ 5 = sym a ∙ bits-of 5 3 0 19 s (λ j q. b j) refl in
            let v : t ≡ 32 + n / 2 ^ 13 % 2 ^ 6 = g ∙ ap (λ k. 32 + k) (bits-of 6 3 5 13 s (λ j q. b j) refl) in
            let x : f ≡ n / 2 ^ 9 % 2 ^ 4 = d ∙ bits-of 4 3 11 9 s (λ j q. b j) refl in
            let p : c ≡ n / 2 ^ 5 % 2 ^ 4 = i ∙ bits-of 4 3 15 5 s (λ j q. b j) refl in
            let z : n / 2 ^ 0 % 2 ^ 5 ≡ 0 = sym (bits-of 5 3 19 0 s (λ j q. b j) refl) ∙ pad in
            let top : 31 ≡ n / 2 ^ 19 = u ∙ mod-eq_of_lt (let q : n / 2 ^ 19 < 2 ^ 5 = omega (arith, l) in q) in
            let low : t - 32 ≡ n / 2 ^ 13 % 2 ^ 6 = omega (arith, v) in
            let kind : (31 * 2 ^ 6 + (t - 32)) ≡ n / 2 ^ 13 = stack n 13 6 31 (t - 32) top low in
            let index : (31 * 2 ^ 6 + (t - 32)) * 2 ^ 4 + f ≡ n / 2 ^ 9 = stack n 9 4 (31 * 2 ^ 6 + (t - 32)) f kind x in
            let channels : ((31 * 2 ^ 6 + (t - 32)) * 2 ^ 4 + f) * 2 ^ 4 + c ≡ n / 2 ^ 5 = stack n 5 4 ((31 * 2 ^ 6 + (t - 32)) * 2 ^ 4 + f) c index p in
            let e : shifted_by 11 (31 * 2 ^ 6 + (t - 32)) 4 f c ≡ n = sym (add-zero ((((31 * 2 ^ 6 + (t - 32)) * 2 ^ 4 + f) * 2 ^ 4 + c) * 2 ^ 5)) ∙ stack n 0 5 (((31 * 2 ^ 6 + (t - 32)) * 2 ^ 4 + f) * 2 ^ 4 + c) 0 channels (sym z) ∙ div-one n in
            bytes-by t f r c 11 (31 * 2 ^ 6 + (t - 32)) 4 f (long-type t (omega (arith, g))) (listed-rate f r o) ∙ ap (bytes 3) e ∙ to-bytes 3 s b long,
      )

  -- an escape, a frequency of its own
  own-6 : (t f r c : ℕ) → bits_of 5 s 0 ≡ 31 → t ≡ 32 + bits_of 6 s 5 → bits_of 4 s 11 ≡ 15 → f ≡ 15 → r ≡ bits_of 24 s 15 → c ≡ bits_of 4 s 39 → Own (config t f r c)
  own-6 t f r c a g d o m i =
      let h : Formed t f r c = record { no-escape = λ q. omega (arith, g, q); type-most = omega (arith, g, bits_below 6 s 5); index-most = omega (arith, o); rate = inl (o, omega (arith, m, bits_below 24 s 15)); channels-most = omega (arith, i, bits_below 4 s 39) } in (
        has-form t f r c h,
        λ b k.
            let is : (length s ≡ size t f) × (bits_of (spare t f) s (width t f) ≡ 0) = as_written (config t f r c) k in
            let long : length s ≡ 6 = is.0 ∙ size-by t f r c 11 (31 * 2 ^ 6 + (t - 32)) 28 (15 * 2 ^ 24 + r) (long-type t (omega (arith, g))) (own-rate f r o) in
            let pad : bits_of 5 s 43 ≡ 0 = sym (ap₂ (λ (x y : ℕ). bits_of (8 * size_by x y - (x + y + 4)) s (x + y + 4)) (long-type t (omega (arith, g))).0 (own-rate f r o).0) ∙ is.1 in
            let n = be 6 s 0 in
            let l : n < 256 ^ 6 = be-below 6 s 0 b in
            let u : 31 ≡ n / 2 ^ 43 % 2 ^ 5 = sym a ∙ bits-of 5 6 0 43 s (λ j q. b j) refl in
            let v : t ≡ 32 + n / 2 ^ 37 % 2 ^ 6 = g ∙ ap (λ k. 32 + k) (bits-of 6 6 5 37 s (λ j q. b j) refl) in
            let x : 15 ≡ n / 2 ^ 33 % 2 ^ 4 = sym d ∙ bits-of 4 6 11 33 s (λ j q. b j) refl in
            let y : r ≡ n / 2 ^ 9 % 2 ^ 24 = m ∙ bits-of 24 6 15 9 s (λ j q. b j) refl in
            let p : c ≡ n / 2 ^ 5 % 2 ^ 4 = i ∙ bits-of 4 6 39 5 s (λ j q. b j) refl in
            let z : n / 2 ^ 0 % 2 ^ 5 ≡ 0 = sym (bits-of 5 6 43 0 s (λ j q. b j) refl) ∙ pad in
            let top : 31 ≡ n / 2 ^ 43 = u ∙ mod-eq_of_lt (let q : n / 2 ^ 43 < 2 ^ 5 = omega (arith, l) in q) in
            let low : t - 32 ≡ n / 2 ^ 37 % 2 ^ 6 = omega (arith, v) in
            let kind : (31 * 2 ^ 6 + (t - 32)) ≡ n / 2 ^ 37 = stack n 37 6 31 (t - 32) top low in
            let index : (31 * 2 ^ 6 + (t - 32)) * 2 ^ 4 + 15 ≡ n / 2 ^ 33 = stack n 33 4 (31 * 2 ^ 6 + (t - 32)) 15 kind x in
            let rate : (31 * 2 ^ 6 + (t - 32)) * 2 ^ 28 + (15 * 2 ^ 24 + r) ≡ n / 2 ^ 9 = omega (arith, stack n 9 24 ((31 * 2 ^ 6 + (t - 32)) * 2 ^ 4 + 15) r index y) in
            let channels : ((31 * 2 ^ 6 + (t - 32)) * 2 ^ 28 + (15 * 2 ^ 24 + r)) * 2 ^ 4 + c ≡ n / 2 ^ 5 = stack n 5 4 ((31 * 2 ^ 6 + (t - 32)) * 2 ^ 28 + (15 * 2 ^ 24 + r)) c rate p in
            let e : shifted_by 11 (31 * 2 ^ 6 + (t - 32)) 28 (15 * 2 ^ 24 + r) c ≡ n = sym (add-zero ((((31 * 2 ^ 6 + (t - 32)) * 2 ^ 28 + (15 * 2 ^ 24 + r)) * 2 ^ 4 + c) * 2 ^ 5)) ∙ stack n 0 5 (((31 * 2 ^ 6 + (t - 32)) * 2 ^ 28 + (15 * 2 ^ 24 + r)) * 2 ^ 4 + c) 0 channels (sym z) ∙ div-one n in
            bytes-by t f r c 11 (31 * 2 ^ 6 + (t - 32)) 28 (15 * 2 ^ 24 + r) (long-type t (omega (arith, g))) (own-rate f r o) ∙ ap (bytes 6) e ∙ to-bytes 6 s b long,
      )

  same : (x y : Config) → x ≡ y → Own y → Own x
  same x y e o = rw e o

  own-fields : (x : Config) → config_of s ≡ Ok x → Own x
  own-fields x e =
      ⊎_elim
      (λ y. ⊎_elim
      (λ z. ⊎_elim
      (λ v. ⊎_elim
      (λ u. same x _ u.1 (own-3 (32 + bits_of 6 s 5) (bits_of 4 s 11) 0 (bits_of 4 s 15) (eqb-true (bits_of 5 s 0) 31 z.0) refl refl u.0 refl refl))
      (λ u. same x _ u.1 (own-6 (32 + bits_of 6 s 5) 15 (bits_of 24 s 15) (bits_of 4 s 39) (eqb-true (bits_of 5 s 0) 31 z.0) refl u.0 refl refl refl))
      (rate-read s x 11 (32 + bits_of 6 s 5) v.1))
      (λ v. refused s x _ v.1)
      (field-way 6 s 5 Err _ _ z.1))
      (λ z. ⊎_elim
      (λ u. same x _ u.1 (own-2 (bits_of 5 s 0) (bits_of 4 s 5) 0 (bits_of 4 s 9) refl (eqb-false (bits_of 5 s 0) 31 z.0) refl u.0 refl refl))
      (λ u. same x _ u.1 (own-5 (bits_of 5 s 0) 15 (bits_of 24 s 9) (bits_of 4 s 33) refl (eqb-false (bits_of 5 s 0) 31 z.0) u.0 refl refl refl))
      (rate-read s x 5 (bits_of 5 s 0) z.1))
      (way (eqb (bits_of 5 s 0) 31) _ _ _ y.1))
      (λ y. refused s x _ y.1)
      (field-way 5 s 0 Err _ _ e)

  module _ (x : Config) (e : config_of s ≡ Ok x) where
    -- what was read has a form
    pub read-has-form : has_form x.object_type x.frequency_index x.frequency x.channels ≡ true
    read-has-form = (own-fields x e).0

    -- from canonical bytes: its own
    pub config-bytes-own : Bytes s → canonical s x ≡ true → config_bytes x ≡ s
    config-bytes-own = (own-fields x e).1

    pub config-own : Bytes s → canonical s x ≡ true → (buf : List ℕ) → size_for x ≤ length buf → config_in x buf ≡ wrote (Ok (size_for x)) (sets buf 0 s)
    config-own b k buf r =
        sym (by-true _ _ _ (has_form x.object_type x.frequency_index x.frequency x.channels) read-has-form
        (is_le _ _ _ (0 + size_for x) (length buf) (omega (arith, r))
        (ap₂ (λ (i : ℕ) (l : List ℕ). wrote (Ok i) (sets buf 0 l)) (sym (zero-add (size_for x))) (sym (config-bytes-own b k)))))
