-- What is written reads back the same, and what was read and is canonical is written with its own bytes: headers, and the
-- version and flags of full boxes. Assumes nothing.
use Rattle.std.specs.Prelude.{Ok, Err}
use mathlib.Core.Path.{◌≡◌, refl, sym, ap, ap₂, ◌∙◌}
use mathlib.Core.List.{List, [], ◌∷◌, ◌++◌, append_assoc, append-nil}
use mathlib.Core.Bool.{Bool, true, false}
use mathlib.Core.Logic.{◌⊎◌, inl, inr, ⊎_elim}
use Prim.Native.Nat.{ℕ, zero, suc, ◌+◌, ◌*◌, ◌-◌, ◌%◌, ◌^◌, ◌≤◌, ◌<◌}
use native.Mathlib.Nat.{add-zero, mod-eq_of_lt}
use native.Mathlib.Omega.{arith}
use lib.ListN.{length, get_or, take, drop, length-append}
use lib.Seq.{sets, sets-eq, length-sets, length-take-le, take-add, drop-drop}
use lib.Dec.{leb, ltb, eqb}
use borrow.Author.Tests.{ltb-true, ltb-false, leb-true, leb-false, eqb-true, eq-eqb}
use Rattle.numbers.specs.Number.{be, bytes}
use Rattle.numbers.specs.Field.{field, when, fits}
use Rattle.numbers.specs.declared.Refusal.{Refusal}
use Rattle.numbers.proofs.Laws.{Bytes, be-bytes, bytes-be, be-below, length-bytes}
use Rattle.numbers.proofs.Chain.{whole, way, field-way, is_eq, is_ne, is_lt, not-lt, is_le, by-true}
use Rattle.put.specs.Put.{Wrote, wrote, placed}
use Rattle.put.proofs.Placed.{Placed, placed-done}
use Rattle.boxes.specs.Header.{header, within, typed_of, large_of, header_of, plain_bytes, large_bytes, header_in, length_for, canonical}
use Rattle.boxes.specs.Full.{full_of, full_in}
use Rattle.boxes.specs.declared.header.Header.{Header}
use Rattle.boxes.specs.declared.full.Full.{Full}

-- BYTES THAT WERE PLACED

-- a number among bytes that were stored reads back
reads_at : (w n : ℕ) (pre post buf : List ℕ) (at : ℕ) → at + length (pre ++ (bytes w n ++ post)) ≤ length buf → n < 256 ^ w →
    be w (sets buf at (pre ++ (bytes w n ++ post))) (at + length pre) ≡ n
reads_at w n pre post buf at h b =
    let rest = drop (at + length (pre ++ (bytes w n ++ post))) buf in
    let s : sets buf at (pre ++ (bytes w n ++ post)) ≡ (take at buf ++ pre) ++ (bytes w n ++ (post ++ rest)) =
    sets-eq (pre ++ (bytes w n ++ post)) buf at h ∙ simp append_assoc in
    let l : length (take at buf ++ pre) ≡ at + length pre = length-append (take at buf) pre ∙ ap (λ k. k + length pre) (length-take-le at buf (omega arith)) in
    ap₂ (λ (x : List ℕ) (k : ℕ). be w x k) s (sym l) ∙ be-bytes w n (take at buf ++ pre) (post ++ rest) ∙ mod-eq_of_lt b

-- WRITTEN, THEN READ

module _ (kind size at : ℕ) (buf out : List ℕ) (p : ℕ) (top : Bool) (k : kind < 2 ^ 32) (z : size < 2 ^ 64) where
  plain_back : Placed (plain_bytes kind size) 8 at buf p out → 8 ≤ size → size < 2 ^ 32 → at + size ≤ length out → header_of out at top ≡ Ok (header kind size 8)
  plain_back d a b r =
      let l : at + length (plain_bytes kind size) ≤ length buf =
      omega (arith, d.room, length-append (bytes 4 size) (bytes 4 kind), length-bytes 4 size, length-bytes 4 kind) in
      let n : be 4 out at ≡ size =
      ap₂ (λ (x : List ℕ) (i : ℕ). be 4 x i) d.bytes (sym (add-zero at)) ∙ reads_at 4 size [] (bytes 4 kind) buf at l b in
      let pre : at + length (bytes 4 size) ≡ at + 4 = ap (λ i. at + i) (length-bytes 4 size) in
      let nil : plain_bytes kind size ≡ bytes 4 size ++ (bytes 4 kind ++ []) = ap (λ x. bytes 4 size ++ x) (sym (append-nil (bytes 4 kind))) in
      let c : be 4 out (at + 4) ≡ kind =
      ap₂ (λ (x : List ℕ) (i : ℕ). be 4 x i) (d.bytes ∙ ap (sets buf at) nil) (sym pre)
      ∙ reads_at 4 kind (bytes 4 size) [] buf at (omega (arith, l, ap length nil)) k in
      sym (whole 4 out at Err _ _ size (omega arith) (sym n)
      (is_ne _ _ _ size 1 (λ e. omega arith)
      (is_ne _ _ _ size 0 (λ e. omega arith)
      (not-lt _ _ _ (length out - at) size (omega arith)
      (not-lt _ _ _ size 8 a
      (whole 4 out (at + 4) Err _ _ kind (omega (arith, d.room, d.long)) (sym c) refl))))))

  large-back : Placed (large_bytes kind size) 16 at buf p out → 2 ^ 32 ≤ size → at + size ≤ length out → header_of out at top ≡ Ok (header kind size 16)
  large-back d a r =
      let la : length (bytes 4 1 ++ bytes 4 kind) ≡ 8 = length-append (bytes 4 1) (bytes 4 kind) ∙ ap₂ (λ (i j : ℕ). i + j) (length-bytes 4 1) (length-bytes 4 kind) in
      let l : at + length (large_bytes kind size) ≤ length buf =
      omega (arith, d.room, length-append (bytes 4 1 ++ bytes 4 kind) (bytes 8 size), la, length-bytes 8 size) in
      let s1 : large_bytes kind size ≡ [] ++ (bytes 4 1 ++ (bytes 4 kind ++ bytes 8 size)) = append_assoc (bytes 4 1) (bytes 4 kind) (bytes 8 size) in
      let s2 : large_bytes kind size ≡ bytes 4 1 ++ (bytes 4 kind ++ bytes 8 size) = append_assoc (bytes 4 1) (bytes 4 kind) (bytes 8 size) in
      let s3 : large_bytes kind size ≡ (bytes 4 1 ++ bytes 4 kind) ++ (bytes 8 size ++ []) = ap (λ x. (bytes 4 1 ++ bytes 4 kind) ++ x) (sym (append-nil (bytes 8 size))) in
      let n : be 4 out at ≡ 1 =
      ap₂ (λ (x : List ℕ) (i : ℕ). be 4 x i) (d.bytes ∙ ap (sets buf at) s1) (sym (add-zero at))
      ∙ reads_at 4 1 [] (bytes 4 kind ++ bytes 8 size) buf at (omega (arith, l, ap length s1)) (omega arith) in
      let c : be 4 out (at + 4) ≡ kind =
      ap₂ (λ (x : List ℕ) (i : ℕ). be 4 x i) (d.bytes ∙ ap (sets buf at) s2) (ap (λ i. at + i) (sym (length-bytes 4 1)))
      ∙ reads_at 4 kind (bytes 4 1) (bytes 8 size) buf at (omega (arith, l, ap length s2)) k in
      let m : be 8 out (at + 8) ≡ size =
      ap₂ (λ (x : List ℕ) (i : ℕ). be 8 x i) (d.bytes ∙ ap (sets buf at) s3) (ap (λ i. at + i) (sym la))
      ∙ reads_at 8 size (bytes 4 1 ++ bytes 4 kind) [] buf at (omega (arith, l, ap length s3)) (omega arith) in
      sym (whole 4 out at Err _ _ 1 (omega (arith, d.room, d.long)) (sym n)
      (is_eq _ _ _ 1 1 refl
      (whole 4 out (at + 4) Err _ _ kind (omega (arith, d.room, d.long)) (sym c)
      (whole 8 out (at + 8) Err _ _ size (omega (arith, d.room, d.long)) (sym m)
      (not-lt _ _ _ (length out - at) size (omega arith) (not-lt _ _ _ size 16 (omega arith) refl))))))

  -- a header that was written reads back, where its box lies in the buffer
  pub header-back : header_in kind size at buf ≡ wrote (Ok p) out → at + size ≤ length out → (header_of out at top ≡ Ok (header kind size (length_for size))) × (p ≡ at + length_for size)
  header-back e r =
      ⊎_elim (λ y. let x : ◌≡◌ {A = ℕ} 0 1 = cc y.1 in absurd (omega arith))
      (λ y.
      let a : 8 ≤ size = ltb-false size 8 y.0 in
      ⊎_elim
      (λ v.
      let b : size < 2 ^ 32 = ltb-true size (2 ^ 32) v.0 in
      let d : Placed (plain_bytes kind size) 8 at buf p out = placed-done (plain_bytes kind size) 8 at buf p out v.1 in
      let w : ◌≡◌ {A = ℕ} 8 (length_for size) = is_lt _ _ _ size (2 ^ 32) b refl in
      (plain_back d a b r ∙ ap (λ i. Ok (header kind size i)) w, d.next ∙ ap (λ i. at + i) w))
      (λ v.
      let b : 2 ^ 32 ≤ size = ltb-false size (2 ^ 32) v.0 in
      let d : Placed (large_bytes kind size) 16 at buf p out = placed-done (large_bytes kind size) 16 at buf p out v.1 in
      let w : ◌≡◌ {A = ℕ} 16 (length_for size) = not-lt _ _ _ size (2 ^ 32) b refl in
      (large-back d b r ∙ ap (λ i. Ok (header kind size i)) w, d.next ∙ ap (λ i. at + i) w))
      (way (ltb size (2 ^ 32)) _ _ _ y.1))
      (way (ltb size 8) _ _ _ e)

-- READ, THEN WRITTEN

-- where the fields of a header that was read stand
pub record Plain (s : List ℕ) (at : ℕ) (h : Header) : Type 0 where
  pub length-is : h.length ≡ 8
  pub there : at + 8 ≤ length s
  pub kind-is : h.kind ≡ be 4 s (at + 4)
  pub least : 8 ≤ h.size

pub record Large (s : List ℕ) (at : ℕ) (h : Header) : Type 0 where
  pub length-is : h.length ≡ 16
  pub there : at + 16 ≤ length s
  pub one : be 4 s at ≡ 1
  pub kind-is : h.kind ≡ be 4 s (at + 4)
  pub size_is : h.size ≡ be 8 s (at + 8)

module _ (s : List ℕ) (at : ℕ) (h : Header) where
  refused : {A : Type 0} (q : Refusal) → Err q ≡ Ok h → A
  refused q e = let z : ◌≡◌ {A = ℕ} 0 1 = cc in absurd (omega arith)

  typed-fields : (n : ℕ) → (at + 8 ≤ length s → 8 ≤ n) → typed_of s at n ≡ Ok h → Plain s at h ⊎ Large s at h
  typed-fields n f e =
      ⊎_elim
      (λ y.
      let size : h.size ≡ n = cc y.1 in
      inl (record { length-is = cc y.1; there = omega (arith, y.0); kind-is = cc y.1; least = omega (arith, f (omega (arith, y.0))) }))
      (λ y. refused _ y.1)
      (field-way 4 s (at + 4) Err _ _ e)

  pub fields : (top : Bool) → header_of s at top ≡ Ok h → Plain s at h ⊎ Large s at h
  fields top e =
      ⊎_elim
      (λ y. ⊎_elim
      (λ v. ⊎_elim
      (λ u. ⊎_elim
      (λ t. ⊎_elim (λ o. refused _ o.1)
      (λ o. ⊎_elim (λ i. refused _ i.1)
      (λ i. inr (record { length-is = cc i.1; there = omega (arith, t.0); one = eqb-true (be 4 s at) 1 v.0; kind-is = cc i.1; size_is = cc i.1 }))
      (way (ltb (be 8 s (at + 8)) 16) _ _ _ o.1))
      (way (ltb (length s - at) (be 8 s (at + 8))) _ _ _ t.1))
      (λ t. refused _ t.1)
      (field-way 8 s (at + 8) Err _ _ u.1))
      (λ u. refused _ u.1)
      (field-way 4 s (at + 4) Err _ _ v.1))
      (λ v. ⊎_elim
      (λ u. ⊎_elim (λ t. typed-fields (length s - at) (λ g. omega arith) t.1) (λ t. refused _ t.1) (way top _ _ _ u.1))
      (λ u. ⊎_elim (λ t. refused _ t.1)
      (λ t. ⊎_elim (λ o. refused _ o.1)
      (λ o. typed-fields (be 4 s at) (λ g. ltb-false (be 4 s at) 8 o.0) o.1)
      (way (ltb (be 4 s at) 8) _ _ _ t.1))
      (way (ltb (length s - at) (be 4 s at)) _ _ _ u.1))
      (way (eqb (be 4 s at) 0) _ _ _ v.1))
      (way (eqb (be 4 s at) 1) _ _ _ y.1))
      (λ y. refused _ y.1)
      (field-way 4 s at Err _ _ e)

-- two numbers that stand side by side
side_by_side : (m n : ℕ) (s : List ℕ) (at : ℕ) → Bytes s → at + (m + n) ≤ length s → bytes m (be m s at) ++ bytes n (be n s (at + m)) ≡ take (m + n) (drop at s)
side_by_side m n s at b h =
    ap₂ (λ (x y : List ℕ). x ++ y) (bytes-be m s at b (omega arith)) (bytes-be n s (at + m) b (omega arith))
    ∙ ap (λ l. take m (drop at s) ++ take n l) (sym (drop-drop m at s)) ∙ sym (take-add m n (drop at s))

module _ (s : List ℕ) (at : ℕ) (b : Bytes s) (p : ℕ) (buf : List ℕ) where
  -- a canonical header that was read is written with its own bytes
  pub header-own : (top : Bool) (h : Header) → header_of s at top ≡ Ok h → canonical s at h ≡ true → p + h.length ≤ length buf →
      header_in h.kind h.size p buf ≡ wrote (Ok (p + h.length)) (sets buf p (take h.length (drop at s)))
  header-own top h e c r =
      ⊎_elim
      (λ y.
      let size : be 4 s at ≡ h.size = eqb-true (be 4 s at) h.size (by-true _ _ _ _ (eq-eqb h.length 8 y.length-is) refl ∙ c) in
      let small : h.size < 2 ^ 32 = omega (arith, be-below 4 s at b) in
      let own : plain_bytes h.kind h.size ≡ take 8 (drop at s) =
      ap₂ (λ (i j : ℕ). bytes 4 i ++ bytes 4 j) (sym size) y.kind-is ∙ side_by_side 4 4 s at b y.there in
      sym (not-lt _ _ _ h.size 8 y.least
      (is_lt _ _ _ h.size (2 ^ 32) small
      (is_le _ _ _ (p + 8) (length buf) (omega (arith, y.length-is))
      (ap₂ (λ (i : ℕ) (l : List ℕ). wrote (Ok (p + i)) (sets buf p (take i l))) y.length-is refl ∙ ap (λ l. wrote (Ok (p + 8)) (sets buf p l)) (sym own))))))
      (λ y.
      let big : 2 ^ 32 ≤ h.size = leb-true (2 ^ 32) h.size (is_ne _ _ _ h.length 8 (λ i. omega (arith, y.length-is)) refl ∙ c) in
      let front : bytes 4 1 ++ bytes 4 h.kind ≡ take 8 (drop at s) =
      ap₂ (λ (i j : ℕ). bytes 4 i ++ bytes 4 j) (sym y.one) y.kind-is ∙ side_by_side 4 4 s at b (omega (arith, y.there)) in
      let back : bytes 8 h.size ≡ take 8 (drop 8 (drop at s)) =
      ap (bytes 8) y.size_is ∙ bytes-be 8 s (at + 8) b (omega (arith, y.there)) ∙ ap (take 8) (sym (drop-drop 8 at s)) in
      let own : large_bytes h.kind h.size ≡ take 16 (drop at s) =
      ap₂ (λ (x z : List ℕ). x ++ z) front back ∙ sym (take-add 8 8 (drop at s)) in
      sym (not-lt _ _ _ h.size 8 (omega arith)
      (not-lt _ _ _ h.size (2 ^ 32) big
      (is_le _ _ _ (p + 16) (length buf) (omega (arith, y.length-is))
      (ap₂ (λ (i : ℕ) (l : List ℕ). wrote (Ok (p + i)) (sets buf p (take i l))) y.length-is refl ∙ ap (λ l. wrote (Ok (p + 16)) (sets buf p l)) (sym own))))))
      (fields s at h top e)

-- VERSION AND FLAGS

-- what was written reads back
pub full_back : (v f at : ℕ) (buf out : List ℕ) (p : ℕ) → v < 2 ^ 8 → full_in v f at buf ≡ wrote (Ok p) out → (full_of out at ≡ Ok (record { version = v; flags = f })) × (p ≡ at + 4)
full_back v f at buf out p a e =
    ⊎_elim
    (λ y.
    let b : f < 2 ^ 24 = ltb-true f (2 ^ 24) y.0 in
    let d : Placed (bytes 1 v ++ bytes 3 f) 4 at buf p out = placed-done (bytes 1 v ++ bytes 3 f) 4 at buf p out y.1 in
    let l : at + length (bytes 1 v ++ bytes 3 f) ≤ length buf =
    omega (arith, d.room, length-append (bytes 1 v) (bytes 3 f), length-bytes 1 v, length-bytes 3 f) in
    let n : be 1 out at ≡ v = ap₂ (λ (x : List ℕ) (i : ℕ). be 1 x i) d.bytes (sym (add-zero at)) ∙ reads_at 1 v [] (bytes 3 f) buf at l a in
    let nil : bytes 1 v ++ bytes 3 f ≡ bytes 1 v ++ (bytes 3 f ++ []) = ap (λ x. bytes 1 v ++ x) (sym (append-nil (bytes 3 f))) in
    let c : be 3 out (at + 1) ≡ f =
    ap₂ (λ (x : List ℕ) (i : ℕ). be 3 x i) (d.bytes ∙ ap (sets buf at) nil) (ap (λ i. at + i) (sym (length-bytes 1 v)))
    ∙ reads_at 3 f (bytes 1 v) [] buf at (omega (arith, l, ap length nil)) b in (
      sym (whole 1 out at Err _ _ v (omega (arith, d.room, d.long)) (sym n)
          (whole 3 out (at + 1) Err _ _ f (omega (arith, d.room, d.long)) (sym c) refl)),
      d.next,
    ))
    (λ y. let z : ◌≡◌ {A = ℕ} 0 1 = cc y.1 in absurd (omega arith))
    (way (ltb f (2 ^ 24)) _ _ _ e)

-- what was read is written with its own bytes
pub full-own : (s : List ℕ) (at : ℕ) → Bytes s → (x : Full) → full_of s at ≡ Ok x → (p : ℕ) (buf : List ℕ) → p + 4 ≤ length buf →
    full_in x.version x.flags p buf ≡ wrote (Ok (p + 4)) (sets buf p (take 4 (drop at s)))
full-own s at b x e p buf r =
    ⊎_elim
    (λ y. ⊎_elim
    (λ v.
    let a : x.version ≡ be 1 s at = cc v.1 in
    let f : x.flags ≡ be 3 s (at + 1) = cc v.1 in
    let own : bytes 1 x.version ++ bytes 3 x.flags ≡ take 4 (drop at s) =
    ap₂ (λ (i j : ℕ). bytes 1 i ++ bytes 3 j) a f ∙ side_by_side 1 3 s at b (omega (arith, v.0)) in
    sym (is_lt _ _ _ x.flags (2 ^ 24) (omega (arith, be-below 3 s (at + 1) b))
    (is_le _ _ _ (p + 4) (length buf) r (ap (λ l. wrote (Ok (p + 4)) (sets buf p l)) (sym own)))))
    (λ v. let z : ◌≡◌ {A = ℕ} 0 1 = cc v.1 in absurd (omega arith))
    (field-way 3 s (at + 1) Err _ _ y.1))
    (λ y. let z : ◌≡◌ {A = ℕ} 0 1 = cc y.1 in absurd (omega arith))
    (field-way 1 s at Err _ _ e)
