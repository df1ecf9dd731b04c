-- What `write` does, step by step. Assumes nothing.
use Rattle.std.specs.Prelude.{Result, Ok, Err}
use mathlib.Core.Path.{◌≡◌, refl, sym, ap, ap₂, ◌∙◌}
use mathlib.Core.List.{List, [], ◌∷◌, ◌++◌, append_assoc}
use mathlib.Core.Bool.{Bool, true, false, ◌&&◌}
use Prim.Native.Nat.{ℕ, ◌+◌, ◌-◌, ◌%◌, ◌^◌, ◌≤◌, ◌<◌, min}
use native.Mathlib.Nat.{zero-add, div-one, mod-eq_of_lt}
use native.Mathlib.Omega.{arith}
use lib.ListN.{length, drop, length-append}
use lib.Seq.{sets, sets-eq, length-sets}
use lib.Dec.{ltb}
use borrow.Author.Tests.{lt-ltb, le-ltb, ltb-true}
use Rattle.numbers.specs.Number.{bytes}
use Rattle.numbers.specs.Field.{when}
use Rattle.numbers.specs.declared.Refusal.TheVariants as refusal
use Rattle.numbers.proofs.Laws.{length-bytes}
use Rattle.numbers.proofs.Chain.{is_lt, not-lt, by-true, by-false}
use Rattle.put.specs.Put.{Wrote, wrote, put_of}
use Rattle.put.specs.Put as put
use Rattle.put.proofs.Placed.{done}
use Rattle.put.proofs.Stores.{sets-append}
use Rattle.boxes.specs.Header.{plain_bytes, header_in}
use Rattle.layout.specs.Rule.{rule_of}
use Rattle.layout.specs.Write.{made, lay, encode, full, place, placed, slotted}
use Rattle.layout.proofs.Writes.{length-full, headed, parted}
use Rattle.sets.specs.Sets.{filled_by}
use Rattle.avcc.specs.Avcc.{kind, fields, sound, laid, avcc_in}
use Rattle.avcc.specs.declared.Avcc.{Avcc}
use Rattle.numbers.specs.declared.Refusal.{Refusal}

-- WHETHER IT CAN BE WRITTEN

and_first : (a b c d : Bool) → a ≡ false → false ≡ a && b && c && d
and_first a b c d p = sym (simp p)

and_second : (a b c d : Bool) → a ≡ true → b ≡ false → false ≡ a && b && c && d
and_second a b c d p q = sym (simp (p, q))

and-third : (a b c d : Bool) → a ≡ true → b ≡ true → c ≡ false → false ≡ a && b && c && d
and-third a b c d p q r = sym (simp (p, q, r))

pub and_last : (a b c d : Bool) → a ≡ true → b ≡ true → c ≡ true → d ≡ a && b && c && d
and_last a b c d p q r = sym (simp (p, q, r))

pub and-true : (a b : Bool) → a && b ≡ true → (a ≡ true) × (b ≡ true)
and-true true b h = (refl, h)
and-true false b h = let z : ◌≡◌ {A = ℕ} 0 1 = cc in absurd (omega arith)

module _ (m : Avcc) (s p : List ℕ) where
  pub size-bits : 3 < m.length_size → false ≡ sound m s p
  size-bits h = and_first _ _ _ _ (le-ltb m.length_size 4 (omega arith))

  module _ (hz : m.length_size ≤ 3) where
    pub count_bits : 31 < m.sps → false ≡ sound m s p
    count_bits h = and_second _ _ _ _ (lt-ltb m.length_size 4 (omega arith)) (le-ltb m.sps 32 (omega arith))

    module _ (hn : m.sps ≤ 31) where
      pub sps-unfilled : filled_by m.sps s ≡ false → false ≡ sound m s p
      sps-unfilled h = and-third _ _ _ _ (lt-ltb m.length_size 4 (omega arith)) (lt-ltb m.sps 32 (omega arith)) h

      pub pps-says : filled_by m.sps s ≡ true → filled_by m.pps p ≡ sound m s p
      pps-says h = and_last _ _ _ _ (lt-ltb m.length_size 4 (omega arith)) (lt-ltb m.sps 32 (omega arith)) h

pub record Sound (m : Avcc) (s p : List ℕ) : Type 0 where
  pub size : m.length_size ≤ 3
  pub count : m.sps ≤ 31
  pub first : filled_by m.sps s ≡ true
  pub second : filled_by m.pps p ≡ true

pub sounds : (m : Avcc) (s p : List ℕ) → sound m s p ≡ true → Sound m s p
sounds m s p h =
    let x = and-true (ltb m.length_size 4 && ltb m.sps 32 && filled_by m.sps s) (filled_by m.pps p) h in
    let y = and-true (ltb m.length_size 4 && ltb m.sps 32) (filled_by m.sps s) x.0 in
    let z = and-true (ltb m.length_size 4) (ltb m.sps 32) y.0 in
    record {
      size = omega (arith, ltb-true m.length_size 4 z.0);
      count = omega (arith, ltb-true m.sps 32 z.1);
      first = y.1;
      second = x.1;
    }

-- BEHIND THE HEADER

abbrev pub opening : Avcc → List ℕ
opening m = 1 ∷ m.profile ∷ m.compatibility ∷ m.level ∷ (252 + m.length_size) ∷ (224 + m.sps) ∷ []

pub length-laid : (m : Avcc) (s p x : List ℕ) → length (laid m s p x) ≡ 7 + length s + length p + length x
length-laid m s p x = omega (arith, length-append s (m.pps ∷ (p ++ x)), length-append p x)

joined : (m : Avcc) (s p x : List ℕ) → opening m ++ s ++ (m.pps ∷ []) ++ p ++ x ≡ laid m s p x
joined m s p x = simp append_assoc

byte-is : (n : ℕ) → n < 256 → bytes 1 n ≡ n ∷ []
unfolding bytes
byte-is n h = ap (λ k. k ∷ []) (ap (λ k. k % 256) (div-one n) ∙ mod-eq_of_lt h)

-- a run behind another
more : (buf x y a c : List ℕ) (at n : ℕ) → x ≡ sets buf at a → y ≡ sets x n c → n ≡ at + length a → y ≡ sets buf at (a ++ c)
more buf x y a c at n ex ey en = ey ∙ ap₂ (λ (b : List ℕ) (n : ℕ). sets b n c) ex en ∙ sets-append buf at a c

same-long : (buf x a : List ℕ) (at : ℕ) → x ≡ sets buf at a → length x ≡ length buf
same-long buf x a at e = ap length e ∙ length-sets buf at a

pub content-put : (m : Avcc) (s p x buf b1 b2 b3 b4 b5 : List ℕ) (q1 q2 q3 q4 q5 : Result ℕ Refusal) → 8 + length (laid m s p x) ≤ length buf → m.pps < 256 →
    wrote q1 b1 ≡ put.placed (opening m) 6 8 buf → wrote q2 b2 ≡ put.placed s (length s) 14 b1 →
    wrote q3 b3 ≡ put_of 1 m.pps (14 + length s) b2 → wrote q4 b4 ≡ put.placed p (length p) (14 + length s + 1) b3 →
    wrote q5 b5 ≡ put.placed x (length x) (14 + length s + 1 + length p) b4 → b5 ≡ sets buf 8 (laid m s p x)
content-put m s p x buf b1 b2 b3 b4 b5 q1 q2 q3 q4 q5 h hk e1 e2 e3 e4 e5 =
    let o = opening m in
    let k = m.pps ∷ [] in
    let l = length-laid m s p x in
    let n2 = 14 + length s in
    let n3 = 14 + length s + 1 in
    let n4 = 14 + length s + 1 + length p in
    let f1 : b1 ≡ sets buf 8 o = parted o 8 buf b1 q1 (omega (arith, h, l)) e1 in
    let l1 : length b1 ≡ length buf = same-long buf b1 o 8 f1 in
    let f2 : b2 ≡ sets b1 14 s = parted s 14 b1 b2 q2 (omega (arith, h, l, l1)) e2 in
    let l2 : length b2 ≡ length b1 = same-long b1 b2 s 14 f2 in
    let f3 : b3 ≡ sets b2 n2 k =
    cc (e3 ∙ sym (done 1 m.pps n2 b2 (omega arith) (omega (arith, hk)) (omega (arith, h, l, l1, l2)))) ∙ ap (sets b2 n2) (byte-is m.pps hk) in
    let l3 : length b3 ≡ length b2 = same-long b2 b3 k n2 f3 in
    let f4 : b4 ≡ sets b3 n3 p = parted p n3 b3 b4 q4 (omega (arith, h, l, l1, l2, l3)) e4 in
    let l4 : length b4 ≡ length b3 = same-long b3 b4 p n3 f4 in
    let f5 : b5 ≡ sets b4 n4 x = parted x n4 b4 b5 q5 (omega (arith, h, l, l1, l2, l3, l4)) e5 in
    let g2 : b2 ≡ sets buf 8 (o ++ s) = more buf b1 b2 o s 8 14 f1 f2 refl in
    let g3 : b3 ≡ sets buf 8 (o ++ s ++ k) = more buf b2 b3 (o ++ s) k 8 n2 g2 f3 (omega (arith, length-append o s)) in
    let g4 : b4 ≡ sets buf 8 (o ++ s ++ k ++ p) = more buf b3 b4 (o ++ s ++ k) p 8 n3 g3 f4 (omega (arith, length-append o s, length-append (o ++ s) k)) in
    let g5 : b5 ≡ sets buf 8 (o ++ s ++ k ++ p ++ x) =
    more buf b4 b5 (o ++ s ++ k ++ p) x 8 n4 g4 f5 (omega (arith, length-append o s, length-append (o ++ s) k, length-append (o ++ s ++ k) p)) in
    g5 ∙ ap (sets buf 8) (joined m s p x)

-- THE WRITER'S RETURNS

-- the row has no bytes
coded : encode fields (slotted []) 0 0 0 ≡ made []
unfolding encode rule_of lay when bytes
coded = refl

module _ (m : Avcc) (s p x buf : List ℕ) where
  pub unsound : sound m s p ≡ false → wrote (Err refusal.Unwritable) buf ≡ avcc_in m s p x buf
  unsound h = by-false _ _ _ (sound m s p) h refl

  module _ (hs : sound m s p ≡ true) (n1 n2 n : ℕ) (e1 : n1 ≡ min (15 + length s) (2 ^ 32)) (e2 : n2 ≡ min (n1 + length p) (2 ^ 32)) (e3 : n ≡ min (n2 + length x) (2 ^ 32)) where
    all : List ℕ
    all = full kind [] (laid m s p x)

    long : length all ≡ 8 + length (laid m s p x)
    unfolding all
    long = omega (arith, length-full kind [] (laid m s p x))

    is-long : n ≡ min (length all) (2 ^ 32)
    is-long = omega (arith, long, length-laid m s p x, e1, e2, e3)

    so : (z : Wrote) → z ≡ place buf all → z ≡ avcc_in m s p x buf
    unfolding all
    so z q = by-true _ _ _ (sound m s p) hs (q ∙ ap (placed kind (laid m s p x) buf) (sym coded))

    pub too_long : 2 ^ 32 - 1 < n → wrote (Err refusal.Unwritable) buf ≡ avcc_in m s p x buf
    too_long h = so _ (is_lt _ _ _ (2 ^ 32 - 1) (length all) (omega (arith, is-long)) refl)

    module _ (h : n ≤ 2 ^ 32 - 1) where
      same : n ≡ length all
      same = omega (arith, is-long)

      pub content-in : n ≤ length buf → 8 + length (laid m s p x) ≤ length buf
      content-in b = omega (arith, same, long)

      pub too_small : length buf < n → wrote (Err (refusal.TooSmall n)) buf ≡ avcc_in m s p x buf
      too_small b =
          so _ (not-lt _ _ _ (2 ^ 32 - 1) (length all) (omega (arith, same))
          (is_lt _ _ _ (length buf) (length all) (omega (arith, same)) (ap (λ n. wrote (Err (refusal.TooSmall n)) buf) same)))

      pub all-put : n ≤ length buf → (b1 b2 : List ℕ) (q : Result ℕ Refusal) → wrote q b1 ≡ header_in kind n 0 buf → b2 ≡ sets b1 8 (laid m s p x) →
          wrote (Ok n) b2 ≡ avcc_in m s p x buf
      unfolding all
      all-put b b1 b2 q f1 f2 =
          let head = plain_bytes kind n in
          let lh : length head ≡ 8 = length-append (bytes 4 n) (bytes 4 kind) ∙ ap₂ (λ (i j : ℕ). i + j) (length-bytes 4 n) (length-bytes 4 kind) in
          let g1 : b1 ≡ sets buf 0 head = headed kind n buf b1 q (omega (arith, same, long)) (omega arith) (omega (arith, same, long)) f1 in
          let t2 : b2 ≡ sets buf 0 (head ++ laid m s p x) = more buf b1 b2 head (laid m s p x) 0 8 g1 f2 (omega (arith, lh)) in
          let ea : head ++ laid m s p x ≡ all =
          ap (λ n. bytes 4 n ++ bytes 4 kind ++ laid m s p x) (same ∙ length-full kind [] (laid m s p x)) ∙ nothing-between (8 + 0 + length (laid m s p x)) in
          let t4 : b2 ≡ all ++ drop (length all) buf =
          t2 ∙ ap (sets buf 0) ea ∙ sets-eq all buf 0 (let f : 0 + length all ≤ length buf = omega (arith, same) in f)
          ∙ ap (λ k. all ++ drop k buf) (zero-add (length all)) in
          so _ (not-lt _ _ _ (2 ^ 32 - 1) (length all) (omega (arith, same))
          (not-lt _ _ _ (length buf) (length all) (omega (arith, same)) (ap₂ (λ (n : ℕ) (b : List ℕ). wrote (Ok n) b) same t4)))
        where
          nothing-between : (i : ℕ) → bytes 4 i ++ bytes 4 kind ++ laid m s p x ≡ bytes 4 i ++ bytes 4 kind ++ [] ++ laid m s p x
          nothing-between i = simp append_assoc
