-- Entries that stand in a file, as the builders put them, read back as the lists that they were built from.
-- Assumes nothing.
use Prim.Native.Nat.{ℕ, zero, suc, ◌+◌, ◌-◌, ◌*◌, ◌%◌, ◌^◌, ◌≤◌, ◌<◌}
use mathlib.Core.Path.{◌≡◌, refl, sym, ap, ap₂, subst, ◌∙◌}
use mathlib.Core.List.{List, [], ◌∷◌, ◌++◌, append_assoc}
use mathlib.Core.Bool.{Bool, true, false, ◌&&◌}
use native.Mathlib.Nat.{mod-eq_of_lt}
use native.Mathlib.Omega.{arith}
use lib.ListN.{length, length-append}
use lib.Dec.{eqb}
use borrow.Author.Tests.{eqb-true}
use Rattle.numbers.specs.Number.{be, bytes}
use Rattle.numbers.specs.Field.{when, or_zero}
use Rattle.numbers.proofs.Laws.{length-bytes, be-bytes}
use Rattle.numbers.proofs.Chain.{whole, is_ne}
use Rattle.tables.specs.Tables.{list_from, pair_at, pairs, number_at, numbers, size_at, sizes}
use Rattle.tables.specs.declared.Row.{Row}
use Rattle.tables.proofs.Lists.{list_same}
use Rattle.merging.specs.Merging.{merged_of}
use Rattle.merging.proofs.Rows.{All, nothing, each, Right, merged-right}
use Rattle.columns.specs.Entries.{words_of}
use Rattle.builder.specs.Built.{pairs_of, all_same}

-- a number has 32 bits
abbrev pub Small : ℕ → Type 0
Small x = x < 2 ^ 32

pub four-at : (f pre post : List ℕ) (x at : ℕ) → f ≡ pre ++ (bytes 4 x ++ post) → at ≡ length pre → Small x → or_zero 4 f at ≡ x
four-at f pre post x at e a h =
    let room : at + 4 ≤ length f = omega (arith, ap length e, length-append pre (bytes 4 x ++ post), length-append (bytes 4 x) post, length-bytes 4 x) in
    let is : x ≡ be 4 f at = sym (ap₂ (λ (l : List ℕ) (k : ℕ). be 4 l k) e a ∙ be-bytes 4 x pre post ∙ mod-eq_of_lt h) in
    sym (whole 4 f at (λ q. 0) (λ n. n) x x room is refl)

pub next_place : (pre post w : List ℕ) (x : ℕ) → pre ++ ((bytes 4 x ++ w) ++ post) ≡ (pre ++ bytes 4 x) ++ (w ++ post)
next_place pre post w x = ap (λ (l : List ℕ). pre ++ l) (append_assoc (bytes 4 x) w post) ∙ sym (append_assoc pre (bytes 4 x) (w ++ post))

module _ (f : List ℕ) (at : ℕ) where
  pub words-read : (ns pre post : List ℕ) (i : ℕ) → f ≡ pre ++ (words_of ns ++ post) → at + i * 4 ≡ length pre → All Small ns → list_from (λ (j : ℕ). or_zero 4 f (at + j * 4)) (length ns) i ≡ ns
  words-read [] pre post i e a nothing = refl
  words-read (x ∷ ns) pre post i e a (each h k) =
      let b : at + suc i * 4 ≡ length (pre ++ bytes 4 x) = omega (arith, length-append pre (bytes 4 x), length-bytes 4 x) in
      ap₂ (λ (y : ℕ) (l : List ℕ). y ∷ l)
      (four-at f pre (words_of ns ++ post) x (at + i * 4) (e ∙ ap (λ (l : List ℕ). pre ++ l) (append_assoc (bytes 4 x) (words_of ns) post)) a h)
      (words-read ns (pre ++ bytes 4 x) post (suc i) (e ∙ next_place pre post (words_of ns) x) b k)

  pub pairs-read : (rs : List Row) (pre post : List ℕ) (i : ℕ) → f ≡ pre ++ (words_of (pairs_of rs) ++ post) → at + i * 8 ≡ length pre → All (Right Small) rs → list_from (pair_at f at) (length rs) i ≡ rs
  unfolding pair_at
  pairs-read [] pre post i e a nothing = refl
  pairs-read (r ∷ rs) pre post i e a (each h k) =
      let w = words_of (pairs_of rs) in
      let c = r.count in
      let v = r.value in
      let e₁ : f ≡ (pre ++ bytes 4 c) ++ ((bytes 4 v ++ w) ++ post) = e ∙ next_place pre post (bytes 4 v ++ w) c in
      let e₂ : f ≡ (pre ++ bytes 4 c ++ bytes 4 v) ++ (w ++ post) = e₁ ∙ next_place (pre ++ bytes 4 c) post w v in
      let a₁ : at + (i * 8 + 4) ≡ length (pre ++ bytes 4 c) = omega (arith, length-append pre (bytes 4 c), length-bytes 4 c) in
      let a₂ : at + suc i * 8 ≡ length (pre ++ bytes 4 c ++ bytes 4 v) = omega (arith, length-append pre (bytes 4 c), length-append (pre ++ bytes 4 c) (bytes 4 v), length-bytes 4 c, length-bytes 4 v) in
      let first : or_zero 4 f (at + i * 8) ≡ c =
      four-at f pre ((bytes 4 v ++ w) ++ post) c (at + i * 8) (e ∙ ap (λ (l : List ℕ). pre ++ l) (append_assoc (bytes 4 c) (bytes 4 v ++ w) post)) a (omega (arith, h.bounded)) in
      let second : or_zero 4 f (at + (i * 8 + 4)) ≡ v =
      four-at f (pre ++ bytes 4 c) (w ++ post) v (at + (i * 8 + 4)) (e₁ ∙ ap (λ (l : List ℕ). (pre ++ bytes 4 c) ++ l) (append_assoc (bytes 4 v) w post)) a₁ h.own in
      ap₂ (λ (y : Row) (l : List Row). y ∷ l) (ap₂ (λ (x y : ℕ). record { count = x; value = y }) first second)
      (pairs-read rs (pre ++ bytes 4 c ++ bytes 4 v) post (suc i) e₂ a₂ k)

-- the entries of stts or ctts that are built from values stand in a file: they are the merged rows
pub pairs-back : (vs pre post : List ℕ) → All Small vs →
    pairs (pre ++ (words_of (pairs_of (merged_of vs)) ++ post)) (record { at = length pre; count = length (merged_of vs) }) ≡ merged_of vs
pairs-back vs pre post h =
    pairs-read (pre ++ (words_of (pairs_of (merged_of vs)) ++ post)) (length pre) (merged_of vs) pre post 0 refl (omega arith) (merged-right Small vs h)

-- the entries of stss, or the listed sizes of stsz
pub numbers-back : (ns pre post : List ℕ) → All Small ns → numbers (pre ++ (words_of ns ++ post)) (record { at = length pre; count = length ns }) ≡ ns
unfolding number_at
numbers-back ns pre post h = words-read (pre ++ (words_of ns ++ post)) (length pre) ns pre post 0 refl (omega arith) h

pub sizes-back : (ns pre post : List ℕ) → All Small ns → sizes (pre ++ (words_of ns ++ post)) (record { at = length pre; count = length ns; common = 0 }) ≡ ns
unfolding size_at when
sizes-back ns pre post h = words-read (pre ++ (words_of ns ++ post)) (length pre) ns pre post 0 refl (omega arith) h

-- the size that all samples have in common
common-read : (ns : List ℕ) (x i : ℕ) → all_same x ns ≡ true → list_from (λ (j : ℕ). x) (length ns) i ≡ ns
common-read [] x i e = refl
common-read (y ∷ ns) x i e = cases (eqb y x) refl e (common-read ns x (suc i))
  where
    cases : (b : Bool) → eqb y x ≡ b → (b && all_same x ns) ≡ true → (all_same x ns ≡ true → list_from (λ (j : ℕ). x) (length ns) (suc i) ≡ ns) → x ∷ list_from (λ (j : ℕ). x) (length ns) (suc i) ≡ y ∷ ns
    cases true q h r = ap₂ (λ (a : ℕ) (l : List ℕ). a ∷ l) (sym (eqb-true y x q)) (r h)
    cases false q h r = let z : ◌≡◌ {A = ℕ} 0 1 = cc in absurd (omega arith)

pub common-back : (f ns : List ℕ) (at x : ℕ) → (x ≡ 0 → ⊥) → all_same x ns ≡ true → sizes f (record { at = at; count = length ns; common = x }) ≡ ns
unfolding size_at
common-back f ns at x z e =
    list_same (λ (j : ℕ). when (eqb x 0) (or_zero 4 f (at + j * 4)) x) (λ (j : ℕ). x) (length ns) 0 (λ k. sym (is_ne (or_zero 4 f (at + k * 4)) x x x 0 z refl))
    ∙ common-read ns x 0 e
