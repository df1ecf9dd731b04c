-- What `write` answers, way by way. Assumes nothing.
use Rattle.std.specs.Prelude.{Result, Ok, Err}
use mathlib.Core.Path.{◌≡◌, refl, sym, ap, ap₂, ◌∙◌}
use mathlib.Core.List.{List, [], ◌∷◌, ◌++◌, append_assoc}
use mathlib.Core.Bool.{Bool, true, false}
use Prim.Native.Nat.{ℕ, zero, suc, ◌+◌, ◌*◌, ◌-◌, ◌/◌, ◌%◌, ◌^◌, ◌≤◌, ◌<◌}
use native.Mathlib.Nat.{add-zero, zero-add}
use native.Mathlib.Omega.{arith}
use lib.ListN.{length, get_or, drop, take, set, length-append, length-replicate}
use lib.Seq.{sets, sets-eq, take_at, length-sets, length-take-le}
use lib.Dec.{ltb}
use borrow.Author.Tests.{lt-ltb, le-ltb}
use Rattle.numbers.specs.Number.{be, bytes}
use Rattle.numbers.specs.Field.{when}
use Rattle.numbers.specs.declared.Refusal.TheVariants as refusal
use Rattle.put.specs.Put.{Wrote, wrote}
use Rattle.put.specs.Put as put
use Rattle.put.proofs.Placed.{has_room}
use Rattle.boxes.specs.Header.{plain_bytes, header_in}
use Rattle.numbers.proofs.Chain.{is_lt, not-lt}
use Rattle.layout.specs.Read.{zeros}
use Rattle.layout.specs.Write.{Made, made, bad, coded_of, full, place, placed}
use Rattle.layout.specs.declared.Coded.{Coded}
use Rattle.numbers.proofs.Laws.{length-bytes}
use Rattle.put.proofs.Stores.{sets-append}
use Rattle.numbers.specs.declared.Refusal.{Refusal}

pub length-full : (kind : ℕ) (cs tail : List ℕ) → length (full kind cs tail) ≡ 8 + length cs + length tail
length-full kind cs tail =
    simp length-append (omega (arith, length-bytes 4 (8 + length cs + length tail), length-bytes 4 kind))

-- the bytes that were coded are the first of the local ones
pub coded-bytes : (cs : List ℕ) → length cs ≤ 192 → take (length cs) (sets (zeros 192) 0 cs) ≡ cs
coded-bytes cs h =
    let f : 0 + length cs ≤ length (zeros 192) = omega (arith, length-replicate {A = ℕ} 192 0) in
    ap (take (length cs)) (sets-eq cs (zeros 192) 0 f) ∙ take_at cs (drop (0 + length cs) (zeros 192)) (length cs) refl

-- three runs of stores are one
three : (buf a b c : List ℕ) (n : ℕ) → length a ≡ 8 → n ≡ 8 + length b → length (a ++ b ++ c) ≤ length buf →
    sets (sets (sets buf 0 a) 8 b) n c ≡ (a ++ b ++ c) ++ drop (length (a ++ b ++ c)) buf
three buf a b c n ea en h =
    let l1 : 8 ≡ 0 + length a = omega arith in
    let s1 : sets (sets buf 0 a) 8 b ≡ sets buf 0 (a ++ b) = ap (λ k. sets (sets buf 0 a) k b) l1 ∙ sets-append buf 0 a b in
    let l2 : n ≡ 0 + length (a ++ b) = simp length-append (omega arith) in
    let s2 : sets (sets (sets buf 0 a) 8 b) n c ≡ sets buf 0 (a ++ b ++ c) =
    ap₂ (λ (s : List ℕ) (k : ℕ). sets s k c) s1 l2 ∙ sets-append buf 0 (a ++ b) c in
    s2 ∙ sets-eq (a ++ b ++ c) buf 0 (let f : 0 + length (a ++ b ++ c) ≤ length buf = omega arith in f)
    ∙ ap (λ k. (a ++ b ++ c) ++ drop k buf) (zero-add (length (a ++ b ++ c)))

-- a header and a part, written where there is room for them
pub headed : (kind size : ℕ) (buf out : List ℕ) (p : Result ℕ Refusal) → 8 ≤ size → size < 2 ^ 32 → 8 ≤ length buf → wrote p out ≡ header_in kind size 0 buf → out ≡ sets buf 0 (plain_bytes kind size)
headed kind size buf out p a b h e =
    cc (e ∙ sym (not-lt _ _ _ size 8 a (is_lt _ _ _ size (2 ^ 32) b (has_room (plain_bytes kind size) 8 0 buf (let l : 0 + 8 ≤ length buf = omega arith in l)))))

pub parted : (s : List ℕ) (at : ℕ) (buf out : List ℕ) (p : Result ℕ Refusal) → at + length s ≤ length buf → wrote p out ≡ put.placed s (length s) at buf → out ≡ sets buf at s
parted s at buf out p h e = cc (e ∙ sym (has_room s (length s) at buf h))

module _ (kind : ℕ) (tail buf : List ℕ) (c : Coded) where
  pub not_made : (m : Made) → c ≡ coded_of (zeros 192) 0 m → c.ok ≡ false → wrote (Err refusal.Unwritable) buf ≡ placed kind tail buf m
  not_made (made cs) e f = let z : true ≡ false = sym (ap (λ c. c.ok) e) ∙ f in let y : ◌≡◌ {A = ℕ} 0 1 = cc in absurd (omega arith)
  not_made bad e f = refl

  pub too_long : (m : Made) → c ≡ coded_of (zeros 192) 0 m → c.ok ≡ true → c.len ≤ 192 → 4294967295 - 8 - c.len < length tail →
      wrote (Err refusal.Unwritable) buf ≡ placed kind tail buf m
  unfolding when
  too_long (made cs) e f l h =
      let n : c.len ≡ 0 + length cs = ap (λ c. c.len) e in
      simp (lt-ltb 4294967295 (length (full kind cs tail)) (omega (arith, length-full kind cs tail)))
  too_long bad e f l h = refl

  pub too_small : (m : Made) → c ≡ coded_of (zeros 192) 0 m → c.ok ≡ true → c.len ≤ 192 → length tail ≤ 4294967295 - 8 - c.len →
      length buf < 8 + c.len + length tail → wrote (Err (refusal.TooSmall (8 + c.len + length tail))) buf ≡ placed kind tail buf m
  unfolding when
  too_small (made cs) e f l h b =
      let n : c.len ≡ 0 + length cs = ap (λ c. c.len) e in
      let t : 8 + c.len + length tail ≡ length (full kind cs tail) = omega (arith, length-full kind cs tail) in
      ap (λ n. wrote (Err (refusal.TooSmall n)) buf) t
      ∙ sym (simp (le-ltb 4294967295 (length (full kind cs tail)) (omega arith), lt-ltb (length buf) (length (full kind cs tail)) (omega arith)))
  too_small bad e f l h b = let z : true ≡ false = sym f ∙ ap (λ c. c.ok) e in let y : ◌≡◌ {A = ℕ} 0 1 = cc in absurd (omega arith)

  pub all_placed : (m : Made) → c ≡ coded_of (zeros 192) 0 m → c.ok ≡ true → c.len ≤ 192 → length tail ≤ 4294967295 - 8 - c.len →
      8 + c.len + length tail ≤ length buf → (b1 b2 b3 : List ℕ) (p q r : Result ℕ Refusal) → wrote p b1 ≡ header_in kind (8 + c.len + length tail) 0 buf →
      wrote q b2 ≡ put.placed (take c.len c.bytes) (length (take c.len c.bytes)) 8 b1 → wrote r b3 ≡ put.placed tail (length tail) (8 + c.len) b2 →
      wrote (Ok (8 + c.len + length tail)) b3 ≡ placed kind tail buf m
  unfolding when
  all_placed (made cs) e f l h b b1 b2 b3 p q r e1 e2 e3 =
      let n : c.len ≡ length cs = ap (λ c. c.len) e ∙ zero-add (length cs) in
      let t : 8 + c.len + length tail ≡ length (full kind cs tail) = omega (arith, length-full kind cs tail) in
      let head = plain_bytes kind (8 + length cs + length tail) in
      let ec : take c.len c.bytes ≡ cs = ap₂ (λ (n : ℕ) (s : List ℕ). take n s) n (ap (λ c. c.bytes) e) ∙ coded-bytes cs (omega arith) in
      let f1 : b1 ≡ sets buf 0 head =
      headed kind (8 + c.len + length tail) buf b1 p (omega arith) (omega arith) (omega arith) e1 ∙ ap (λ n. sets buf 0 (plain_bytes kind (8 + n + length tail))) n in
      let l1 : length b1 ≡ length buf = ap length f1 ∙ length-sets buf 0 head in
      let f2 : b2 ≡ sets b1 8 cs = parted (take c.len c.bytes) 8 b1 b2 q (omega (arith, ap length ec)) e2 ∙ ap (sets b1 8) ec in
      let l2 : length b2 ≡ length b1 = ap length f2 ∙ length-sets b1 8 cs in
      let f3 : b3 ≡ sets b2 (8 + c.len) tail = parted tail (8 + c.len) b2 b3 r (omega arith) e3 in
      let done : b3 ≡ full kind cs tail ++ drop (length (full kind cs tail)) buf =
      f3 ∙ ap (λ b. sets b (8 + c.len) tail) (f2 ∙ ap (λ b. sets b 8 cs) f1)
      ∙ three buf head cs tail (8 + c.len) (length-append (bytes 4 (8 + length cs + length tail)) (bytes 4 kind) ∙ ap₂ (λ (i j : ℕ). i + j) (length-bytes 4 (8 + length cs + length tail)) (length-bytes 4 kind)) (omega arith) (omega arith) in
      ap₂ (λ (n : ℕ) (b : List ℕ). wrote (Ok n) b) t done
      ∙ sym (simp (le-ltb 4294967295 (length (full kind cs tail)) (omega arith), le-ltb (length buf) (length (full kind cs tail)) (omega arith)))
  all_placed bad e f l h b b1 b2 b3 p q r e1 e2 e3 = let z : true ≡ false = sym f ∙ ap (λ c. c.ok) e in let y : ◌≡◌ {A = ℕ} 0 1 = cc in absurd (omega arith)

pub coded-length : (c : Coded) (m : Made) → c ≡ coded_of (zeros 192) 0 m → length c.bytes ≡ 192
coded-length c (made cs) e = ap (λ c. length c.bytes) e ∙ simp length-sets (length-replicate {A = ℕ} 192 0)
coded-length c bad e = ap (λ c. length c.bytes) e ∙ length-replicate {A = ℕ} 192 0

pub part_length : (c : Coded) (m : Made) → c ≡ coded_of (zeros 192) 0 m → c.len ≤ 192 → length (take c.len c.bytes) ≡ c.len
part_length c m e h = length-take-le c.len c.bytes (omega (arith, coded-length c m e))
