-- Laws of numbers as bytes, each over the width. Assumes nothing.
use mathlib.Core.Path.{◌≡◌, refl, sym, ap, ap₂, ◌∙◌}
use mathlib.Core.List.{List, [], ◌∷◌, ◌++◌, append_assoc, append-nil}
use Prim.Native.Nat.{ℕ, zero, suc, ◌+◌, ◌*◌, ◌-◌, ◌/◌, ◌%◌, ◌^◌, ◌≤◌, ◌<◌}
use native.Mathlib.Nat.{pow-zero, pow-suc, mul-one, add-zero, zero-mul, zero-add, suc-add, add-mul, mul_assoc, add_assoc, pow-le-pow_right, one-le-pow, div-add-mod', mul_comm, mod-lt, mod-one, mul-le-mul_right, mod-eq_of_lt, mul-add-mod_self_right, mul-add-div_right, div-eq_of_lt, div-one, div-div-eq-div-mul}
use native.Mathlib.Numerals.{add-one}
use native.Mathlib.Omega.{arith}
use lib.ListN.{length, get_or, take, drop, length-append}
use lib.Pow.{pow-add}
use lib.Seq.{get_or-append_seam, drop-cons, take_all}
use Rattle.std.proofs.lemmas.List.{get_or-take, get_or-drop}
use Rattle.numbers.specs.Number.{be, bytes}

-- READING

-- m + n bytes are the m bytes, moved up by n, and the n bytes after them
pub join : (m n : ℕ) (s : List ℕ) (at : ℕ) → be (m + n) s at ≡ be m s at * 256 ^ n + be n s (at + m)
unfolding be
join zero n s at = simp (zero-add, add-zero, zero-mul)
join (suc m) n s at =
    let i : suc at + m ≡ at + suc m = omega arith in
    ap (λ k. be k s at) (suc-add m n)
    ∙ ap (λ k. get_or s at 0 * 256 ^ (m + n) + k) (join m n s (suc at) ∙ ap (λ k. be m s (suc at) * 256 ^ n + be n s k) i)
    ∙ simp (pow-add, add-mul, mul_assoc, add_assoc)

-- one byte
pub one : (s : List ℕ) (at : ℕ) → be 1 s at ≡ get_or s at 0
unfolding be
one s at = simp (pow-zero, mul-one, add-zero)

-- one byte more at the low end
pub snoc : (w : ℕ) (s : List ℕ) (at : ℕ) → be (suc w) s at ≡ be w s at * 256 + get_or s (at + w) 0
snoc w s at = ap (λ k. be k s at) (sym (add-one w)) ∙ join w 1 s at ∙ ap (λ k. be w s at * 256 + k) (one s (at + w))

-- a number of i bytes and one byte more
pub grows : (i n b : ℕ) → n < 256 ^ i → b < 256 → n * 256 + b < 256 ^ suc i
grows i n b h g = rw pow-suc (omega arith)

pub under : (i w : ℕ) → i ≤ w → 256 ^ i ≤ 256 ^ w
under i w h = pow-le-pow_right (omega arith) h

pub pow_pos : (w : ℕ) → 0 < 256 ^ w
pow_pos w = one-le-pow w 256 (omega arith)

-- every element is a byte
abbrev pub Bytes : List ℕ → Type 0
Bytes s = (i : ℕ) → get_or s i 0 < 256

-- what is read fits its width
pub be-below : (w : ℕ) (s : List ℕ) (at : ℕ) → Bytes s → be w s at < 256 ^ w
unfolding be
be-below zero s at h = rw pow-zero (omega arith)
be-below (suc w) s at h =
    let g : get_or s at 0 * 256 ^ w ≤ 255 * 256 ^ w = mul-le-mul_right (256 ^ w) (omega (arith, h at)) in
    rw pow-suc (omega (arith, be-below w s (suc at) h))

-- WRITING

pub length-bytes : (w n : ℕ) → length (bytes w n) ≡ w
unfolding bytes
length-bytes zero n = refl
length-bytes (suc w) n = ap suc (length-bytes w n)

-- four bytes, written out
pub four : (n : ℕ) → (n / 0x100_0000 % 256) ∷ (n / 0x1_0000 % 256) ∷ (n / 0x100 % 256) ∷ (n % 256) ∷ [] ≡ bytes 4 n
unfolding bytes
four n = ap (λ k. (n / 0x100_0000 % 256) ∷ (n / 0x1_0000 % 256) ∷ (n / 0x100 % 256) ∷ (k % 256) ∷ []) (sym (div-one n))

-- p times 256: the digits of n above and below
digits : (p n : ℕ) → 0 < p → (n / p % 256) * p + n % p ≡ n % (p * 256)
digits p n h =
    let r = (n / p % 256) * p + n % p in
    let a : n / p * p + n % p ≡ n = div-add-mod' n p in
    let b : n / p / 256 * 256 + n / p % 256 ≡ n / p = div-add-mod' (n / p) 256 in
    let c : n / p / 256 * (p * 256) + r ≡ n =
    ap (λ k. k + r) (ap (λ k. n / p / 256 * k) (mul_comm p 256) ∙ sym (mul_assoc (n / p / 256) 256 p))
    ∙ sym (add_assoc (n / p / 256 * 256 * p) ((n / p % 256) * p) (n % p))
    ∙ ap (λ k. k + n % p) (sym (add-mul (n / p / 256 * 256) (n / p % 256) p) ∙ ap (λ k. k * p) b) ∙ a in
    let d : n % p < p = mod-lt n h in
    let e : (n / p % 256) * p ≤ 255 * p = mul-le-mul_right p (omega arith) in
    let f : r < p * 256 = omega arith in
    sym (mod-eq_of_lt f) ∙ sym (mul-add-mod_self_right (n / p / 256) (p * 256) r) ∙ ap (λ k. k % (p * 256)) c

-- written between other bytes, then read
pub be-bytes : (w n : ℕ) (pre rest : List ℕ) → be w (pre ++ (bytes w n ++ rest)) (length pre) ≡ n % 256 ^ w
unfolding be bytes
be-bytes zero n pre rest = sym (ap (λ k. n % k) (pow-zero 256) ∙ mod-one n)
be-bytes (suc w) n pre rest =
    let h = n / 256 ^ w % 256 in
    let g : get_or (pre ++ (h ∷ (bytes w n ++ rest))) (length pre) 0 ≡ h = get_or-append_seam pre h (bytes w n ++ rest) 0 in
    let s : (pre ++ (h ∷ [])) ++ (bytes w n ++ rest) ≡ pre ++ (h ∷ (bytes w n ++ rest)) = simp append_assoc in
    let l : length (pre ++ (h ∷ [])) ≡ suc (length pre) = simp length-append (omega arith) in
    let i : be w (pre ++ (h ∷ (bytes w n ++ rest))) (suc (length pre)) ≡ n % 256 ^ w =
    ap₂ (λ (b : List ℕ) (k : ℕ). be w b k) (sym s) (sym l) ∙ be-bytes w n (pre ++ (h ∷ [])) rest in
    ap₂ (λ (m k : ℕ). m * 256 ^ w + k) g i ∙ digits (256 ^ w) n (pow_pos w) ∙ ap (λ k. n % k) (sym (pow-suc 256 w))

-- what stands above the w bytes is not written
pub higher : (w a n : ℕ) → bytes w (a * 256 ^ w + n) ≡ bytes w n
unfolding bytes
higher zero a n = refl
higher (suc w) a n =
    let p = 256 ^ w in
    let e : a * 256 ^ suc w + n ≡ a * 256 * p + n =
    ap (λ k. k + n) (ap (λ k. a * k) (pow-suc 256 w ∙ mul_comm p 256) ∙ sym (mul_assoc a 256 p)) in
    let d : (a * 256 * p + n) / p ≡ a * 256 + n / p = mul-add-div_right (pow_pos w) (a * 256) n in
    let h : (a * 256 ^ suc w + n) / p % 256 ≡ n / p % 256 =
    ap (λ k. k / p % 256) e ∙ ap (λ k. k % 256) d ∙ mul-add-mod_self_right a 256 (n / p) in
    ap₂ (λ (x : ℕ) (l : List ℕ). x ∷ l) h (ap (bytes w) e ∙ higher w (a * 256) n)

-- read, then written: the bytes themselves
pub bytes-be : (w : ℕ) (s : List ℕ) (at : ℕ) → Bytes s → at + w ≤ length s → bytes w (be w s at) ≡ take w (drop at s)
unfolding be bytes
bytes-be zero s at h f = refl
bytes-be (suc w) s at h f =
    let p = 256 ^ w in
    let g = get_or s at 0 in
    let y = be w s (suc at) in
    let d : (g * p + y) / p ≡ g + y / p = mul-add-div_right (pow_pos w) g y in
    let z : y / p ≡ 0 = div-eq_of_lt (be-below w s (suc at) h) in
    let q : (g * p + y) / p % 256 ≡ g = ap (λ k. k % 256) d ∙ mod-eq_of_lt (omega (arith, h at)) ∙ omega arith in
    ap₂ (λ (x : ℕ) (l : List ℕ). x ∷ l) q (higher w g y ∙ bytes-be w s (suc at) h (omega arith))
    ∙ sym (ap (take (suc w)) (drop-cons s at 0 (omega arith)))

-- THE BYTES ALONE: a number that has w bytes is those bytes, and the other way round

pub of-bytes : (w n : ℕ) → n < 256 ^ w → be w (bytes w n) 0 ≡ n
of-bytes w n h = ap (λ l. be w l 0) (sym (append-nil (bytes w n))) ∙ be-bytes w n [] [] ∙ mod-eq_of_lt h

pub to-bytes : (w : ℕ) (s : List ℕ) → Bytes s → length s ≡ w → bytes w (be w s 0) ≡ s
to-bytes w s h e = bytes-be w s 0 h (omega arith) ∙ take_all w s (omega arith)

-- m bytes of a and n bytes of b are the m + n bytes of one number
pub bytes-join : (m n a b : ℕ) → b < 256 ^ n → bytes (m + n) (a * 256 ^ n + b) ≡ bytes m a ++ bytes n b
unfolding bytes
bytes-join zero n a b h = ap (λ k. bytes k (a * 256 ^ n + b)) (zero-add n) ∙ higher n a b
bytes-join (suc m) n a b h =
    let q : (a * 256 ^ n + b) / 256 ^ n ≡ a = mul-add-div_right (pow_pos n) a b ∙ ap (λ k. a + k) (div-eq_of_lt h) ∙ add-zero a in
    let p : 256 ^ (m + n) ≡ 256 ^ n * 256 ^ m = pow-add 256 m n ∙ mul_comm (256 ^ m) (256 ^ n) in
    let d : (a * 256 ^ n + b) / 256 ^ (m + n) ≡ a / 256 ^ m =
    ap (λ k. (a * 256 ^ n + b) / k) p ∙ sym (div-div-eq-div-mul (a * 256 ^ n + b) (256 ^ n) (256 ^ m)) ∙ ap (λ k. k / 256 ^ m) q in
    ap (λ k. bytes k (a * 256 ^ n + b)) (suc-add m n)
    ∙ ap₂ (λ (x : ℕ) (l : List ℕ). (x % 256) ∷ l) d (bytes-join m n a b h)

-- one byte more at the low end, as a loop says it
pub snoc_at : (w i j : ℕ) (s : List ℕ) (at : ℕ) → j ≡ at + i → w ≡ i + 1 → be w s at ≡ be i s at * 256 + get_or s j 0
snoc_at w i j s at e f = ap (λ k. be k s at) (f ∙ add-one i) ∙ snoc i s at ∙ ap (λ k. be i s at * 256 + get_or s k 0) (sym e)

-- a number of i bytes and one byte more stays in 8 bytes
pub room_for_more : (i n b : ℕ) → n < 256 ^ i → i < 8 → b < 256 → (n * 256 + b < 2 ^ 64) × (n * 256 + b < 256 ^ (i + 1))
room_for_more i n b h k g =
    let u : 256 ^ i ≤ 256 ^ 7 = under i 7 (omega arith) in
    let v : n * 256 + b < 256 ^ suc i = grows i n b h g in
    (omega arith, rw add-one v)

-- a byte of a part is a byte of the whole
pub part_byte : (w at i : ℕ) (s : List ℕ) → i < w → get_or (take w (drop at s)) i 0 ≡ get_or s (at + i) 0
part_byte w at i s h = get_or-take w (drop at s) i 0 h ∙ get_or-drop at s i 0
