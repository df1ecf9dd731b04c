-- What writing means, each law over the width: what is written reads back, the rest stays, a refusal changes nothing, and
-- writing what was read changes nothing. Assumes nothing.
use Rattle.std.specs.Prelude.{Ok, Err}
use mathlib.Core.Path.{◌≡◌, refl, sym, ap, ap₂, ◌∙◌}
use mathlib.Core.Logic.{◌⊎◌, inl, inr}
use mathlib.Core.Bool.{Bool, true, false}
use mathlib.Core.List.{List, [], ◌∷◌, ◌++◌, append_assoc}
use Prim.Native.Nat.{ℕ, suc, ◌+◌, ◌^◌, ◌≤◌, ◌<◌}
use native.Mathlib.Nat.{mod-eq_of_lt}
use native.Mathlib.Omega.{arith}
use lib.ListN.{length, get_or, set, take, drop, take-append-drop}
use lib.Seq.{sets, sets-eq, length-sets, get_or-set_other, length-take-le, take-add}
use lib.Dec.{leb, ltb}
use borrow.Author.Tests.{leb-true, ltb-true}
use Rattle.numbers.specs.Number.{be, bytes}
use Rattle.numbers.specs.Field.{when, fits, field, widest}
use Rattle.numbers.specs.declared.Refusal.TheVariants as refusal
use Rattle.numbers.specs.declared.Refusal.{Refusal}
use Rattle.numbers.proofs.Laws.{Bytes, be-bytes, bytes-be, be-below, length-bytes, of-bytes, to-bytes}
use Rattle.numbers.proofs.Chain.{whole, is_le, is_lt}
use Rattle.put.specs.Put.{Wrote, wrote, placed, put_of}

-- A RUN OF STORES

-- what lies before and after it stays
pub beside : (vs l : List ℕ) (i k : ℕ) → (k < i) ⊎ (i + length vs ≤ k) → get_or (sets l i vs) k 0 ≡ get_or l k 0
beside [] l i k h = refl
beside (v ∷ vs) l i k (inl h) = beside vs (set l i v) (suc i) k (inl (omega arith)) ∙ get_or-set_other l i k v 0 (λ e. omega arith)
beside (v ∷ vs) l i k (inr h) = beside vs (set l i v) (suc i) k (inr (omega arith)) ∙ get_or-set_other l i k v 0 (λ e. omega arith)

-- the number that it stores
pub stored_is : (w n at : ℕ) (buf : List ℕ) → n < 256 ^ w → at + w ≤ length buf → be w (sets buf at (bytes w n)) at ≡ n
stored_is w n at buf g h =
    let l : length (bytes w n) ≡ w = length-bytes w n in
    let rest = drop (at + length (bytes w n)) buf in
    let s : sets buf at (bytes w n) ≡ take at buf ++ (bytes w n ++ rest) = sets-eq (bytes w n) buf at (omega arith) ∙ append_assoc (take at buf) (bytes w n) rest in
    ap₂ (λ (b : List ℕ) (k : ℕ). be w b k) s (sym (length-take-le at buf (omega arith))) ∙ be-bytes w n (take at buf) rest ∙ mod-eq_of_lt g

-- WHAT AN ANSWER TELLS

module _ {A : Type 0} where
  -- not the second of two ways, so the first
  first : (t : Bool) (x y z : A) → when t x y ≡ z → (y ≡ z → ⊥) → (t ≡ true) × (x ≡ z)
  unfolding when
  first true x y z e other = (refl, e)
  first false x y z e other = absurd (other e)

  -- so or so
  both : (P : A → Type 0) (t : Bool) (x y : A) → P x → P y → P (when t x y)
  unfolding when
  both P true x y p q = p
  both P false x y p q = q

module _ (w n at : ℕ) (buf out : List ℕ) where
  not_done : (p : ℕ) (q : Refusal) (l : List ℕ) → wrote (Err q) l ≡ wrote (Ok p) out → ⊥
  not_done p q l e = let z : ◌≡◌ {A = ℕ} 0 1 = cc in omega arith

  module _ (p : ℕ) (e : put_of w n at buf ≡ wrote (Ok p) out) where
    -- it was written, so the number has w bytes, and there was room for them
    has_width : (leb w widest ≡ true) × (when (ltb n (256 ^ w)) (placed (bytes w n) w at buf) (wrote (Err refusal.Unwritable) buf) ≡ wrote (Ok p) out)
    has_width = first _ _ _ _ e (not_done p _ _)

    has-bytes : (ltb n (256 ^ w) ≡ true) × (placed (bytes w n) w at buf ≡ wrote (Ok p) out)
    has-bytes = first _ _ _ _ has_width.1 (not_done p _ _)

    has_room : (fits w buf at ≡ true) × (wrote (Ok (at + w)) (sets buf at (bytes w n)) ≡ wrote (Ok p) out)
    has_room =
        first _ _ _ _ has-bytes.1
        (both (λ v. v ≡ wrote (Ok p) out → ⊥) _ _ _ (not_done p _ _) (not_done p _ _))

    -- the position after it, and the buffer
    pub position-after : p ≡ at + w
    position-after = cc has_room.1

    pub buffer-after : out ≡ sets buf at (bytes w n)
    buffer-after = cc has_room.1

    pub length-stays : length out ≡ length buf
    length-stays = ap length buffer-after ∙ length-sets buf at (bytes w n)

    -- what is written reads back, in a reader of any answer
    pub written-reads-back : {A : Type 0} (refused : Refusal → A) (go : ℕ → A) → field refused w out at go ≡ go n
    written-reads-back refused go =
        let h : at + w ≤ length buf = leb-true (at + w) (length buf) has_room.0 in
        let g : n < 256 ^ w = ltb-true n (256 ^ w) has-bytes.0 in
        let l : length out ≡ length buf = length-stays in
        sym (whole w out at refused go (go n) n (omega arith) (sym (ap (λ b. be w b at) buffer-after ∙ stored_is w n at buf g h)) refl)

    -- the bytes before and after stay
    pub outside-stays : (k : ℕ) → (k < at) ⊎ (at + w ≤ k) → get_or out k 0 ≡ get_or buf k 0
    outside-stays k h = ap (λ b. get_or b k 0) buffer-after ∙ beside (bytes w n) buf at k (rw length-bytes h)

  -- a refusal leaves the buffer as it was
  pub a-refusal-keeps : (q : Refusal) → put_of w n at buf ≡ wrote (Err q) out → out ≡ buf
  a-refusal-keeps q =
      both Kept (leb w widest) (when (ltb n (256 ^ w)) (placed (bytes w n) w at buf) no) no
      (both Kept (ltb n (256 ^ w)) (placed (bytes w n) w at buf) no
      (both Kept (fits w buf at) (wrote (Ok (at + w)) (sets buf at (bytes w n))) (when (ltb (at + w) (2 ^ 64)) small (wrote (Err refusal.Overflow) buf))
      (λ e. let z : ◌≡◌ {A = ℕ} 0 1 = cc e in absurd (omega arith))
      (both Kept (ltb (at + w) (2 ^ 64)) small (wrote (Err refusal.Overflow) buf) (λ e. cc e) (λ e. cc e)))
      (λ e. cc e)) (λ e. cc e)
    where
      Kept : Wrote → Type 0
      Kept v = v ≡ wrote (Err q) out → out ≡ buf

      no : Wrote
      no = wrote (Err refusal.Unwritable) buf

      small : Wrote
      small = wrote (Err (refusal.TooSmall (at + w))) buf

-- READING AND WRITING UNDO EACH OTHER

-- the number of w bytes is one, and so are the bytes of a number
pub fits-unique : (w m n : ℕ) → bytes w m ≡ bytes w n → m < 256 ^ w → n < 256 ^ w → m ≡ n
fits-unique w m n e f g = sym (of-bytes w m f) ∙ ap (λ l. be w l 0) e ∙ of-bytes w n g

pub reads-unique : (w : ℕ) (s t : List ℕ) → Bytes s → Bytes t → length s ≡ w → length t ≡ w → be w s 0 ≡ be w t 0 → s ≡ t
reads-unique w s t f g k l e = sym (to-bytes w s f k) ∙ ap (bytes w) e ∙ to-bytes w t g l

-- what was read, written where it stood, changes nothing
pub read-writes-back : (w at : ℕ) (s : List ℕ) → Bytes s → w ≤ 8 → at + w ≤ length s → put_of w (be w s at) at s ≡ wrote (Ok (at + w)) s
read-writes-back w at s h v f =
    let n = be w s at in
    let l : length (bytes w n) ≡ w = length-bytes w n in
    let same : sets s at (bytes w n) ≡ s =
    sets-eq (bytes w n) s at (omega arith)
    ∙ ap₂ (λ (b : List ℕ) (k : ℕ). take at s ++ b ++ drop (at + k) s) (bytes-be w s at h f) l
    ∙ ap (λ b. b ++ drop (at + w) s) (sym (take-add at w s)) ∙ take-append-drop (at + w) s in
    sym (is_le _ _ _ w widest v (is_lt _ _ _ n (256 ^ w) (be-below w s at h) (is_le _ _ _ (at + w) (length s) f (ap (wrote (Ok (at + w))) (sym same)))))
