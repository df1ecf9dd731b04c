-- What is written reads back the same, what was read from its shortest form is written with its own bytes, and no form is
-- shorter: lengths, and the heads of descriptors. Each over the number of bytes. Assumes nothing.
use Rattle.std.specs.Prelude.{Result, Ok, Err}
use mathlib.Core.Path.{◌≡◌, refl, sym, ap, ap₂, ◌∙◌}
use mathlib.Core.List.{List, [], ◌∷◌, ◌++◌, append_assoc}
use mathlib.Core.Logic.{⊎_elim}
use mathlib.Core.Bool.{Bool, true, false}
use Prim.Native.Nat.{ℕ, zero, suc, ◌+◌, ◌*◌, ◌-◌, ◌/◌, ◌%◌, ◌^◌, ◌≤◌, ◌<◌}
use native.Mathlib.Nat.{pow-suc, add-zero, zero-mul, zero-add, add-mul, mul_assoc, add_assoc, div-add-mod', mul_comm, mod-lt, mul-le-mul_right, mod-eq_of_lt, mul-add-mod_self_right, mul-add-div_right, div-eq_of_lt}
use native.Mathlib.Numerals.{add-one}
use native.Mathlib.Omega.{arith}
use lib.ListN.{length, get_or, take, drop, length-append, length-drop}
use lib.Seq.{sets, sets-eq, get_or-append_seam, drop-cons, length-take-le}
use lib.Dec.{ltb, leb}
use borrow.Author.Tests.{ltb-true, ltb-false, leb-true, leb-false}
use Rattle.numbers.specs.Number.{be}
use Rattle.numbers.specs.declared.Refusal.{Refusal}
use Rattle.numbers.proofs.Laws.{Bytes, one}
use Rattle.numbers.proofs.Chain.{way, field-way, whole, is_lt, is_le}
use Rattle.put.specs.Put.{wrote}
use Rattle.put.proofs.Placed.{Placed, placed-done}
use Rattle.descriptor.specs.Descriptor.{length_from, length_of, size_for, high, groups, length_bytes, length_in, head_by, head_of, head_bytes, head_in}
use Rattle.descriptor.proofs.Cases.{last, more, pow_pos, under, size_is, head-is}
use Rattle.descriptor.specs.declared.Length.{Length}
use Rattle.descriptor.specs.declared.Head.{Head}
use Rattle.descriptor.specs.Descriptor.{head_record}
use Rattle.descriptor.specs.Descriptor.{length_record}

-- THE BYTES OF A LENGTH

pub length-groups : (w n : ℕ) → length (groups w n) ≡ w
unfolding groups
length-groups zero n = refl
length-groups (suc w) n = ap suc (length-groups w n)

-- what stands above the w bytes is not written
higher : (w a n : ℕ) → groups w (a * 128 ^ w + n) ≡ groups w n
unfolding groups
higher zero a n = refl
higher (suc w) a n =
    let p = 128 ^ w in
    let e : a * 128 ^ suc w + n ≡ a * 128 * p + n =
    ap (λ k. k + n) (ap (λ k. a * k) (pow-suc 128 w ∙ mul_comm p 128) ∙ sym (mul_assoc a 128 p)) in
    let d : (a * 128 * p + n) / p ≡ a * 128 + n / p = mul-add-div_right (pow_pos w) (a * 128) n in
    let h : (a * 128 ^ suc w + n) / p % 128 ≡ n / p % 128 =
    ap (λ k. k / p % 128) e ∙ ap (λ k. k % 128) d ∙ mul-add-mod_self_right a 128 (n / p) in
    ap₂ (λ (x : ℕ) (l : List ℕ). (high w + x) ∷ l) h (ap (groups w) e ∙ higher w (a * 128) n)

-- p times 128: the digits of n above and below
digits : (p n : ℕ) → 0 < p → (n / p % 128) * p + n % p ≡ n % (p * 128)
digits p n h =
    let r = (n / p % 128) * p + n % p in
    let a : n / p * p + n % p ≡ n = div-add-mod' n p in
    let b : n / p / 128 * 128 + n / p % 128 ≡ n / p = div-add-mod' (n / p) 128 in
    let c : n / p / 128 * (p * 128) + r ≡ n =
    ap (λ k. k + r) (ap (λ k. n / p / 128 * k) (mul_comm p 128) ∙ sym (mul_assoc (n / p / 128) 128 p))
    ∙ sym (add_assoc (n / p / 128 * 128 * p) ((n / p % 128) * p) (n % p))
    ∙ ap (λ k. k + n % p) (sym (add-mul (n / p / 128 * 128) (n / p % 128) p) ∙ ap (λ k. k * p) b) ∙ a in
    let d : n % p < p = mod-lt n h in
    let e : (n / p % 128) * p ≤ 127 * p = mul-le-mul_right p (omega arith) in
    let f : r < p * 128 = omega arith in
    sym (mod-eq_of_lt f) ∙ sym (mul-add-mod_self_right (n / p / 128) (p * 128) r) ∙ ap (λ k. k % (p * 128)) c

-- one byte more above
joins : (acc d m w : ℕ) → (acc * 128 + d) * 128 ^ w + m ≡ acc * 128 ^ suc w + (d * 128 ^ w + m)
joins acc d m w =
    ap (λ k. k + m) (add-mul (acc * 128) d (128 ^ w) ∙ ap (λ k. k + d * 128 ^ w) (mul_assoc acc 128 (128 ^ w) ∙ ap (λ k. acc * k) (mul_comm 128 (128 ^ w) ∙ sym (pow-suc 128 w))))
    ∙ add_assoc (acc * 128 ^ suc w) (d * 128 ^ w) m

-- WRITTEN, THEN READ

-- a byte that stands at a seam
seam : (first k acc b : ℕ) (pre rest : List ℕ) → 128 ≤ b → length_from first (suc k) acc (pre ++ (b ∷ rest)) (length pre) ≡ length_from first k (acc * 128 + b % 128) ((pre ++ (b ∷ [])) ++ rest) (length (pre ++ (b ∷ [])))
seam first k acc b pre rest h =
    let g : get_or (pre ++ (b ∷ rest)) (length pre) 0 ≡ b = get_or-append_seam pre b rest 0 in
    let s : (pre ++ (b ∷ [])) ++ rest ≡ pre ++ (b ∷ rest) = simp append_assoc in
    let l : length (pre ++ (b ∷ [])) ≡ suc (length pre) = simp length-append (omega arith) in
    let t : length (pre ++ (b ∷ rest)) ≡ length pre + suc (length rest) = length-append pre (b ∷ rest) in
    sym (more first acc (pre ++ (b ∷ rest)) (length pre) (suc k) k refl (omega arith) (acc * 128 + b % 128) (ap (λ x. acc * 128 + x % 128) (sym g)) (omega arith))
    ∙ ap₂ (λ (x : List ℕ) (i : ℕ). length_from first k (acc * 128 + b % 128) x i) (sym s) (sym l)

seam-last : (first k acc b : ℕ) (pre rest : List ℕ) → b < 128 → length_from first (suc k) acc (pre ++ (b ∷ rest)) (length pre) ≡ Ok (length_record (acc * 128 + b % 128) (suc (length pre)))
seam-last first k acc b pre rest h =
    let g : get_or (pre ++ (b ∷ rest)) (length pre) 0 ≡ b = get_or-append_seam pre b rest 0 in
    let t : length (pre ++ (b ∷ rest)) ≡ length pre + suc (length rest) = length-append pre (b ∷ rest) in
    sym (last first acc (pre ++ (b ∷ rest)) (length pre) (suc k) k refl (omega arith) (acc * 128 + b % 128) (ap (λ x. acc * 128 + x % 128) (sym g)) (omega arith))

reads : (first k w acc n : ℕ) (pre rest : List ℕ) → w < k → length_from first k acc (pre ++ (groups (suc w) n ++ rest)) (length pre) ≡ Ok (length_record (acc * 128 ^ suc w + n % 128 ^ suc w) (length pre + suc w))
unfolding groups high
reads first zero w acc n pre rest h = absurd (omega arith)
reads first (suc k) zero acc n pre rest h =
    seam-last first k acc (0 + n / 128 ^ 0 % 128) pre rest (omega arith)
    ∙ ap₂ (λ (x i : ℕ). Ok (length_record x i)) (let q : acc * 128 + (0 + n / 1 % 128) % 128 ≡ acc * 128 + n % 128 = ap (λ x. acc * 128 + x) (let r : (0 + n / 1 % 128) % 128 ≡ n % 128 = omega arith in r) in q) (sym (add-one (length pre)))
reads first (suc k) (suc w) acc n pre rest h =
    let p = 128 ^ suc w in
    let d = n / p % 128 in
    let b = 128 + d in
    let m : b % 128 ≡ d = omega arith in
    let l : length (pre ++ (b ∷ [])) + suc w ≡ length pre + suc (suc w) = simp length-append (omega arith) in
    let v : (acc * 128 + b % 128) * p + n % p ≡ acc * 128 ^ suc (suc w) + n % 128 ^ suc (suc w) =
    ap (λ x. (acc * 128 + x) * p + n % p) m ∙ joins acc d (n % p) (suc w)
    ∙ ap (λ x. acc * 128 ^ suc (suc w) + x) (digits p n (pow_pos (suc w)) ∙ ap (λ x. n % x) (sym (pow-suc 128 (suc w)))) in
    seam first k acc b pre (groups (suc w) n ++ rest) (omega arith)
    ∙ reads first k w (acc * 128 + b % 128) n (pre ++ (b ∷ [])) rest (omega arith)
    ∙ ap₂ (λ (x i : ℕ). Ok (length_record x i)) v l

-- a length in any number of bytes that hold it, among other bytes
pub groups-read : (w n : ℕ) (pre rest : List ℕ) → 0 < w → w ≤ 4 → n < 128 ^ w → length_of (pre ++ (groups w n ++ rest)) (length pre) ≡ Ok (length_record n (length pre + w))
groups-read zero n pre rest a b h = absurd (omega arith)
groups-read (suc w) n pre rest a b h =
    reads (length pre) 4 w 0 n pre rest (omega arith)
    ∙ ap (λ x. Ok (length_record x (length pre + suc w))) (let q : 0 * 128 ^ suc w + n % 128 ^ suc w ≡ n = ap (λ x. x + n % 128 ^ suc w) (zero-mul (128 ^ suc w)) ∙ zero-add (n % 128 ^ suc w) ∙ mod-eq_of_lt h in q)

-- the shortest form holds a length that four bytes hold
pub size_holds : (n : ℕ) → n < 128 ^ 4 → n < 128 ^ size_for n
size_holds n h =
    ⊎_elim (λ y. ap-lt 1 y.1 (ltb-true n (128 ^ 1) y.0))
    (λ y. ⊎_elim (λ z. ap-lt 2 z.1 (ltb-true n (128 ^ 2) z.0))
    (λ z. ⊎_elim (λ x. ap-lt 3 x.1 (ltb-true n (128 ^ 3) x.0)) (λ x. ap-lt 4 x.1 h)
    (way (ltb n (128 ^ 3)) _ _ _ z.1))
    (way (ltb n (128 ^ 2)) _ _ _ y.1))
    (way (ltb n (128 ^ 1)) _ _ (size_for n) refl)
  where
    ap-lt : (w : ℕ) → w ≡ size_for n → n < 128 ^ w → n < 128 ^ size_for n
    ap-lt w e g = rw (sym e) g

-- the shortest form among other bytes
pub length-reads : (n : ℕ) (pre rest : List ℕ) → n < 128 ^ 4 → length_of (pre ++ (length_bytes n ++ rest)) (length pre) ≡ Ok (length_record n (length pre + size_for n))
length-reads n pre rest h = groups-read (size_for n) n pre rest (size_is n).0 (size_is n).1 (size_holds n h)

-- READ

-- a length that was read: how many bytes it has, and what they tell
pub record Taken (k acc : ℕ) (s : List ℕ) (at n after : ℕ) : Type 0 where
  pub count : ℕ
  pub some : 0 < count
  pub few : count ≤ k
  pub next : after ≡ at + count
  pub inside : after ≤ length s
  pub own : ℕ
  pub value : n ≡ acc * 128 ^ count + own
  pub below : own < 128 ^ count
  pub bytes : Bytes s → groups count own ≡ take count (drop at s)

one_byte : (s : List ℕ) (at : ℕ) → at < length s → get_or s at 0 < 128 → groups 1 (get_or s at 0 % 128) ≡ take 1 (drop at s)
unfolding groups high
one_byte s at h b =
    let q : 0 + get_or s at 0 % 128 / 128 ^ 0 % 128 ≡ get_or s at 0 = omega arith in
    ap (λ x. x ∷ []) q ∙ sym (ap (take 1) (drop-cons s at 0 h))

goes-high : (c : ℕ) → 0 < c → high c ≡ 128
unfolding high
goes-high zero h = absurd (omega arith)
goes-high (suc c) h = refl

byte_more : (s : List ℕ) (at c m : ℕ) → at < length s → 128 ≤ get_or s at 0 → get_or s at 0 < 256 → 0 < c → m < 128 ^ c → groups c m ≡ take c (drop (suc at) s) →
    groups (suc c) (get_or s at 0 % 128 * 128 ^ c + m) ≡ take (suc c) (drop at s)
unfolding groups
byte_more s at c m h b f g l e =
    let d = get_or s at 0 % 128 in
    let p = 128 ^ c in
    let q : (d * p + m) / p ≡ d = mul-add-div_right (pow_pos c) d m ∙ ap (λ k. d + k) (div-eq_of_lt l) ∙ add-zero d in
    let o : high c + (d * p + m) / p % 128 ≡ get_or s at 0 = ap₂ (λ (x y : ℕ). x + y % 128) (goes-high c g) q ∙ omega arith in
    ap₂ (λ (x : ℕ) (t : List ℕ). x ∷ t) o (higher c d m ∙ e) ∙ sym (ap (take (suc c)) (drop-cons s at 0 h))

module _ (first : ℕ) (s : List ℕ) (n after : ℕ) where
  refused : {A : Type 0} (q : Refusal) → ◌≡◌ {A = Result Length Refusal} (Err q) (Ok (length_record n after)) → A
  refused q e = let z : ◌≡◌ {A = ℕ} 0 1 = cc e in absurd (omega arith)

  taken-last : (k acc at : ℕ) → at < length s → get_or s at 0 < 128 → ◌≡◌ {A = Result Length Refusal} (Ok (length_record (acc * 128 + get_or s at 0 % 128) (suc at))) (Ok (length_record n after)) → Taken (suc k) acc s at n after
  taken-last k acc at h b e =
      let l : ◌≡◌ {A = Length} (length_record (acc * 128 + get_or s at 0 % 128) (suc at)) (length_record n after) = cc e in
      let v : acc * 128 + get_or s at 0 % 128 ≡ n = ap (λ (x : Length). x.value) l in
      let a : suc at ≡ after = ap (λ (x : Length). x.after) l in
      record { count = 1; some = omega arith; few = omega arith; next = omega arith; inside = omega arith; own = get_or s at 0 % 128; value = sym v; below = omega arith; bytes = λ u. one_byte s at h b }

  taken_more : (k acc at : ℕ) → at < length s → 128 ≤ get_or s at 0 → Taken k (acc * 128 + get_or s at 0 % 128) s (suc at) n after → Taken (suc k) acc s at n after
  taken_more k acc at h b t =
      let d = get_or s at 0 % 128 in
      let g : d * 128 ^ t.count ≤ 127 * 128 ^ t.count = mul-le-mul_right (128 ^ t.count) (omega arith) in
      let l : d * 128 ^ t.count + t.own < 128 ^ suc t.count = rw pow-suc (omega (arith, g, t.below)) in
      record { count = suc t.count; some = omega arith; few = omega (arith, t.few); next = omega (arith, t.next); inside = t.inside; own = d * 128 ^ t.count + t.own; value = t.value ∙ joins acc d t.own t.count; below = l; bytes = λ u. byte_more s at t.count t.own h b (u at) t.some t.below (t.bytes u) }

  pub taken : (k acc at : ℕ) → length_from first k acc s at ≡ Ok (length_record n after) → Taken k acc s at n after
  unfolding length_from
  taken zero acc at e = refused _ e
  taken (suc k) acc at e =
      ⊎_elim
      (λ y. ⊎_elim (λ z. taken-last k acc at (ltb-true at (length s) y.0) (ltb-true (get_or s at 0) 128 z.0) z.1)
      (λ z. taken_more k acc at (ltb-true at (length s) y.0) (ltb-false (get_or s at 0) 128 z.0) (taken k (acc * 128 + get_or s at 0 % 128) (suc at) z.1))
      (way (ltb (get_or s at 0) 128) _ _ _ y.1))
      (λ y. refused _ y.1)
      (way (ltb at (length s)) _ _ _ e)

-- it lies in the bytes, and is below 2 ^ 28
pub length-within : (s : List ℕ) (at n after : ℕ) → length_of s at ≡ Ok (length_record n after) → (after ≤ length s) × (at < after) × (n < 128 ^ 4)
length-within s at n after e =
    let t : Taken 4 0 s at n after = taken at s n after 4 0 at e in
    let u : 128 ^ t.count ≤ 128 ^ 4 = under t.count 4 t.few in
    let v : n ≡ t.own = t.value ∙ ap (λ x. x + t.own) (zero-mul (128 ^ t.count)) ∙ zero-add t.own in
    (t.inside, omega (arith, t.next, t.some), omega (arith, u, v, t.below))

-- a list that was stored, among the bytes of the buffer
among : (bs buf : List ℕ) (at : ℕ) → at + length bs ≤ length buf → sets buf at bs ≡ take at buf ++ (bs ++ drop (at + length bs) buf)
among bs buf at h = sets-eq bs buf at h ∙ append_assoc (take at buf) bs (drop (at + length bs) buf)

-- what is written reads back
pub length_back : (n at : ℕ) (buf out : List ℕ) (p : ℕ) → length_in n at buf ≡ wrote (Ok p) out → (length_of out at ≡ Ok (length_record n p)) × (p ≡ at + size_for n)
length_back n at buf out p e =
    ⊎_elim
    (λ y.
    let b : n < 128 ^ 4 = ltb-true n (128 ^ 4) y.0 in
    let d : Placed (length_bytes n) (size_for n) at buf p out = placed-done (length_bytes n) (size_for n) at buf p out y.1 in
    let l : length (length_bytes n) ≡ size_for n = length-groups (size_for n) n in
    let t : length (take at buf) ≡ at = length-take-le at buf (omega (arith, d.room)) in
    let s : out ≡ take at buf ++ (length_bytes n ++ drop (at + length (length_bytes n)) buf) = d.bytes ∙ among (length_bytes n) buf at (omega (arith, d.room, l)) in (
      ap₂ (λ (x : List ℕ) (i : ℕ). length_of x i) s (sym t) ∙ length-reads n (take at buf) (drop (at + length (length_bytes n)) buf) b
          ∙ ap (λ b. Ok (length_record n b)) (ap (λ k. k + size_for n) t ∙ sym d.next),
      d.next,
    ))
    (λ y. let z : ◌≡◌ {A = ℕ} 0 1 = cc y.1 in absurd (omega arith))
    (way (ltb n (128 ^ 4)) _ _ _ e)

-- a number below 128 ^ w has at most w bytes
pub size-least : (n w : ℕ) → 0 < w → n < 128 ^ w → size_for n ≤ w
size-least n w a h =
    ⊎_elim (λ y. omega (arith, y.1))
    (λ y.
    let one : 1 < w = passed 1 (ltb-false n (128 ^ 1) y.0) in
    ⊎_elim (λ z. omega (arith, z.1))
    (λ z.
    let two : 2 < w = passed 2 (ltb-false n (128 ^ 2) z.0) in
    ⊎_elim (λ x. omega (arith, x.1)) (λ x. let three : 3 < w = passed 3 (ltb-false n (128 ^ 3) x.0) in omega (arith, x.1, three))
    (way (ltb n (128 ^ 3)) _ _ _ z.1))
    (way (ltb n (128 ^ 2)) _ _ _ y.1))
    (way (ltb n (128 ^ 1)) _ _ (size_for n) refl)
  where
    passed : (k : ℕ) → 128 ^ k ≤ n → k < w
    passed k g = by (leb w k) refl
      where
        by : (t : Bool) → leb w k ≡ t → k < w
        by true e = absurd (omega (arith, under w k (leb-true w k e)))
        by false e = leb-false w k e

-- no length has a longer form than a greater one
pub size-grows : (a b : ℕ) → a ≤ b → b < 128 ^ 4 → size_for a ≤ size_for b
size-grows a b h l = size-least a (size_for b) (size_is b).0 (omega (arith, h, size_holds b l))

module _ (s : List ℕ) (at n after : ℕ) (e : length_of s at ≡ Ok (length_record n after)) where
  its : Taken 4 0 s at n after
  its = taken at s n after 4 0 at e

  its_own : n ≡ its.own
  its_own = its.value ∙ ap (λ x. x + its.own) (zero-mul (128 ^ its.count)) ∙ zero-add its.own

  -- no form of a length is shorter than the one that is written
  pub shortest : at + size_for n ≤ after
  shortest = omega (arith, its.next, size-least n its.count its.some (omega (arith, its_own, its.below)))

  -- the bytes that were read are those of the shortest form, where there are as many
  pub length-bytes-own : Bytes s → after ≡ at + size_for n → length_bytes n ≡ take (size_for n) (drop at s)
  length-bytes-own b f =
      let c : its.count ≡ size_for n = omega (arith, its.next, f) in
      ap₂ (λ (k m : ℕ). groups k m) (sym c) its_own ∙ its.bytes b ∙ ap (λ k. take k (drop at s)) c

  -- a length that was read from its shortest form is written with its own bytes
  pub length-own : Bytes s → after ≡ at + size_for n → (p : ℕ) (buf : List ℕ) → p + size_for n ≤ length buf →
      length_in n p buf ≡ wrote (Ok (p + size_for n)) (sets buf p (take (size_for n) (drop at s)))
  length-own b f p buf r =
      sym (is_lt _ _ _ n (128 ^ 4) (length-within s at n after e).2 (is_le _ _ _ (p + size_for n) (length buf) r (ap (λ l. wrote (Ok (p + size_for n)) (sets buf p l)) (sym (length-bytes-own b f)))))

-- HEADS

-- where a head was read, the content lies in the bytes, and the tag and the length stand before it
pub record Headed (s : List ℕ) (at tag from to : ℕ) : Type 0 where
  pub tag_is : tag ≡ get_or s at 0
  pub value : ℕ
  pub length-is : length_of s (at + 1) ≡ Ok (length_record value from)
  pub content : to ≡ from + value
  pub small : value < 128 ^ 4
  pub before : at + 2 ≤ from
  pub inside : to ≤ length s

pub headed : (s : List ℕ) (at tag from to : ℕ) → head_of s at ≡ Ok (head_record tag from to) → Headed s at tag from to
unfolding head_by
headed s at tag from to e =
    ⊎_elim (λ y. by (be 1 s at) (length_of s (at + 1)) refl (one s at) y.1) (λ y. refuse _ y.1)
    (field-way 1 s at Err _ _ e)
  where
    refuse : {A : Type 0} (q : Refusal) → ◌≡◌ {A = Result Head Refusal} (Err q) (Ok (head_record tag from to)) → A
    refuse q f = let z : ◌≡◌ {A = ℕ} 0 1 = cc f in absurd (omega arith)

    by : (x : ℕ) (l : Result Length Refusal) → length_of s (at + 1) ≡ l → x ≡ get_or s at 0 → head_by s at x l ≡ Ok (head_record tag from to) → Headed s at tag from to
    by x (Err q) g o f = refuse q f
    by x (Ok l) g o f =
        ⊎_elim
        (λ y.
        let i : l.after + l.value ≤ length s = leb-true (l.after + l.value) (length s) y.0 in
        let h : ◌≡◌ {A = Head} (head_record x l.after (l.after + l.value)) (head_record tag from to) = cc y.1 in
        let t : x ≡ tag = ap (λ (h : Head). h.tag) h in
        let u : l.after ≡ from = ap (λ (h : Head). h.from) h in
        let v : l.after + l.value ≡ to = ap (λ (h : Head). h.to) h in
        let w : (l.after ≤ length s) × (at + 1 < l.after) × (l.value < 128 ^ 4) = length-within s (at + 1) l.value l.after g in
        record { tag_is = sym t ∙ o; value = l.value; length-is = g ∙ ap (λ i. Ok (length_record l.value i)) u; content = sym v ∙ ap (λ k. k + l.value) u; small = w.2; before = omega (arith, w.1, u); inside = omega (arith, i, v) })
        (λ y. refuse _ y.1)
        (way (leb (l.after + l.value) (length s)) _ _ _ f)

-- a head among other bytes, with its content after it
pub head-reads : (tag n : ℕ) (pre rest : List ℕ) → n < 128 ^ 4 → n ≤ length rest →
    head_of (pre ++ (head_bytes tag n ++ rest)) (length pre) ≡ Ok (head_record tag (length pre + 1 + size_for n) (length pre + 1 + size_for n + n))
head-reads tag n pre rest h r =
    let s = pre ++ (head_bytes tag n ++ rest) in
    let t : (pre ++ (tag ∷ [])) ++ (length_bytes n ++ rest) ≡ s = simp append_assoc in
    let l : length (pre ++ (tag ∷ [])) ≡ length pre + 1 = simp length-append (omega arith) in
    let g : get_or s (length pre) 0 ≡ tag = get_or-append_seam pre tag (length_bytes n ++ rest) 0 in
    let long : length s ≡ length pre + 1 + size_for n + length rest = ap length (sym t) ∙ length-append (pre ++ (tag ∷ [])) (length_bytes n ++ rest) ∙ omega (arith, l, length-append (length_bytes n) rest, length-groups (size_for n) n) in
    let v : length_of s (length pre + 1) ≡ Ok (length_record n (length pre + 1 + size_for n)) =
    ap₂ (λ (x : List ℕ) (i : ℕ). length_of x i) (sym t) (sym l) ∙ length-reads n (pre ++ (tag ∷ [])) rest h ∙ ap (λ i. Ok (length_record n (i + size_for n))) l in
    sym (whole 1 s (length pre) Err _ _ tag (omega (arith, long)) (sym (one s (length pre) ∙ g))
    (head-is s (length pre) tag (length_of s (length pre + 1)) n (length pre + 1 + size_for n) v (omega (arith, long, r))))

-- what is written reads back, where the content lies in the buffer
pub head-back : (tag n at : ℕ) (buf out : List ℕ) (p : ℕ) → head_in tag n at buf ≡ wrote (Ok p) out → p + n ≤ length out → (head_of out at ≡ Ok (head_record tag p (p + n))) × (p ≡ at + (size_for n + 1))
head-back tag n at buf out p e r =
    ⊎_elim
    (λ y.
    let b : n < 128 ^ 4 = ltb-true n (128 ^ 4) y.0 in
    let d : Placed (head_bytes tag n) (size_for n + 1) at buf p out = placed-done (head_bytes tag n) (size_for n + 1) at buf p out y.1 in
    let l : length (head_bytes tag n) ≡ size_for n + 1 = ap suc (length-groups (size_for n) n) ∙ sym (add-one (size_for n)) in
    let t : length (take at buf) ≡ at = length-take-le at buf (omega (arith, d.room)) in
    let rest = drop (at + length (head_bytes tag n)) buf in
    let s : out ≡ take at buf ++ (head_bytes tag n ++ rest) = d.bytes ∙ among (head_bytes tag n) buf at (omega (arith, d.room, l)) in
    let k : n ≤ length rest = omega (arith, length-drop (at + length (head_bytes tag n)) buf, d.long, d.next, r, l) in
    let q : at + 1 + size_for n ≡ p = omega (arith, d.next) in (
      ap₂ (λ (x : List ℕ) (i : ℕ). head_of x i) s (sym t) ∙ head-reads tag n (take at buf) rest b k
          ∙ ap (λ i. Ok (head_record tag (i + 1 + size_for n) (i + 1 + size_for n + n))) t ∙ ap (λ i. Ok (head_record tag i (i + n))) q,
      d.next,
    ))
    (λ y. let z : ◌≡◌ {A = ℕ} 0 1 = cc y.1 in absurd (omega arith))
    (way (ltb n (128 ^ 4)) _ _ _ e)

module _ (s : List ℕ) (at tag from to : ℕ) (e : head_of s at ≡ Ok (head_record tag from to)) where
  its-head : Headed s at tag from to
  its-head = headed s at tag from to e

  told_is : to - from ≡ its-head.value
  told_is = omega (arith, its-head.content)

  -- a head that was read, with its length in its shortest form, is written with its own bytes
  pub head-bytes-own : Bytes s → from ≡ at + 1 + size_for (to - from) → head_bytes tag (to - from) ≡ take (size_for (to - from) + 1) (drop at s)
  head-bytes-own b f =
      let v : length_of s (at + 1) ≡ Ok (length_record (to - from) from) = its-head.length-is ∙ ap (λ k. Ok (length_record k from)) (sym told_is) in
      let h : at < length s = omega (arith, its-head.inside, its-head.before, its-head.content) in
      ap₂ (λ (x : ℕ) (l : List ℕ). x ∷ l) its-head.tag_is (length-bytes-own s (at + 1) (to - from) from v b f ∙ ap (λ k. take (size_for (to - from)) (drop k s)) (add-one at))
      ∙ sym (ap (take (suc (size_for (to - from)))) (drop-cons s at 0 h)) ∙ ap (λ k. take k (drop at s)) (sym (add-one (size_for (to - from))))

  pub head-own : Bytes s → from ≡ at + 1 + size_for (to - from) → (p : ℕ) (buf : List ℕ) → p + (size_for (to - from) + 1) ≤ length buf →
      head_in tag (to - from) p buf ≡ wrote (Ok (p + (size_for (to - from) + 1))) (sets buf p (take (size_for (to - from) + 1) (drop at s)))
  head-own b f p buf r =
      sym (is_lt _ _ _ (to - from) (128 ^ 4) (omega (arith, its-head.small, told_is))
      (is_le _ _ _ (p + (size_for (to - from) + 1)) (length buf) r (ap (λ l. wrote (Ok (p + (size_for (to - from) + 1))) (sets buf p l)) (sym (head-bytes-own b f)))))
