-- The entries of stsc, and the places of chunks in stco, as they are built, read back from a file. Assumes nothing.
use Prim.Native.Nat.{ℕ, zero, suc, ◌+◌, ◌-◌, ◌*◌, ◌/◌, ◌%◌, ◌^◌, ◌≤◌, ◌<◌}
use mathlib.Core.Path.{◌≡◌, refl, sym, ap, ap₂, subst, ◌∙◌}
use mathlib.Core.List.{List, [], ◌∷◌, ◌++◌, append_assoc}
use mathlib.Core.Bool.{Bool, true, false}
use native.Mathlib.Nat.{mod-eq_of_lt}
use native.Mathlib.Omega.{arith}
use lib.ListN.{length, length-append}
use lib.Dec.{leb}
use borrow.Author.Tests.{leb-false}
use Rattle.numbers.specs.Number.{be, bytes}
use Rattle.numbers.specs.Field.{when, or_zero}
use Rattle.numbers.proofs.Laws.{length-bytes, be-bytes, bytes-join}
use Rattle.numbers.proofs.Chain.{whole}
use Rattle.tables.specs.Tables.{Group, list_from, group_at, offset_at, chunks}
use Rattle.tables.specs.declared.Row.{Row}
use Rattle.tables.specs.declared.Chunks.{Chunks}
use Rattle.merging.proofs.Rows.{All, nothing, each}
use Rattle.columns.specs.Entries.{words_of}
use Rattle.builder.proofs.Bytes.{Small, four-at, next_place, words-read}
use Rattle.chunking.specs.declared.Chunk.{Chunk}
use Rattle.chunking.specs.Entries.{offset_words, offsets_by, any_wide, group_words}
use Rattle.chunking.proofs.Back.{places_of, entries_of}

-- STSC

-- the numbers of the entries have 32 bits
pub data Fit : ℕ → List Row → Type 0 where
  none : {f : ℕ} → Fit f []
  one : {f : ℕ} {r : Row} {rs : List Row} → Small f → Small r.value → Fit (f + r.count) rs → Fit f (r ∷ rs)

module _ (f : List ℕ) (at : ℕ) where
  groups-read : (g : ℕ) (rs : List Row) (pre post : List ℕ) (i : ℕ) → f ≡ pre ++ (words_of (group_words g rs) ++ post) → at + i * 12 ≡ length pre → Fit g rs
      → list_from (group_at f at) (length rs) i ≡ entries_of g rs
  unfolding group_at
  groups-read g [] pre post i e a none = refl
  groups-read g (r ∷ rs) pre post i e a (one h k l) =
      let w = words_of (group_words (g + r.count) rs) in
      let v = r.value in
      let p₁ = pre ++ bytes 4 g in
      let p₂ = p₁ ++ bytes 4 v in
      let p₃ = p₂ ++ bytes 4 1 in
      let e₁ : f ≡ p₁ ++ ((bytes 4 v ++ (bytes 4 1 ++ w)) ++ post) = e ∙ next_place pre post (bytes 4 v ++ (bytes 4 1 ++ w)) g in
      let e₂ : f ≡ p₂ ++ ((bytes 4 1 ++ w) ++ post) = e₁ ∙ next_place p₁ post (bytes 4 1 ++ w) v in
      let e₃ : f ≡ p₃ ++ (w ++ post) = e₂ ∙ next_place p₂ post w 1 in
      let l₁ : length (pre ++ bytes 4 g) ≡ length pre + 4 = length-append pre (bytes 4 g) ∙ ap (λ (n : ℕ). length pre + n) (length-bytes 4 g) in
      let l₂ : length (pre ++ bytes 4 g ++ bytes 4 v) ≡ length (pre ++ bytes 4 g) + 4 = length-append (pre ++ bytes 4 g) (bytes 4 v) ∙ ap (λ (n : ℕ). length (pre ++ bytes 4 g) + n) (length-bytes 4 v) in
      let l₃ : length (pre ++ bytes 4 g ++ bytes 4 v ++ bytes 4 1) ≡ length (pre ++ bytes 4 g ++ bytes 4 v) + 4 = length-append (pre ++ bytes 4 g ++ bytes 4 v) (bytes 4 1) ∙ ap (λ (n : ℕ). length (pre ++ bytes 4 g ++ bytes 4 v) + n) (length-bytes 4 1) in
      let a₁ : at + (i * 12 + 4) ≡ length (pre ++ bytes 4 g) = omega arith in
      let a₃ : at + suc i * 12 ≡ length (pre ++ bytes 4 g ++ bytes 4 v ++ bytes 4 1) = omega arith in
      let first : or_zero 4 f (at + i * 12) ≡ g =
      four-at f pre ((bytes 4 v ++ (bytes 4 1 ++ w)) ++ post) g (at + i * 12) (e ∙ ap (λ (x : List ℕ). pre ++ x) (append_assoc (bytes 4 g) (bytes 4 v ++ (bytes 4 1 ++ w)) post)) a h in
      let second : or_zero 4 f (at + (i * 12 + 4)) ≡ v =
      four-at f (pre ++ bytes 4 g) ((bytes 4 1 ++ w) ++ post) v (at + (i * 12 + 4)) (e₁ ∙ ap (λ (x : List ℕ). (pre ++ bytes 4 g) ++ x) (append_assoc (bytes 4 v) (bytes 4 1 ++ w) post)) a₁ k in
      ap₂ (λ (y : Group) (x : List Group). y ∷ x) (ap₂ (λ (x y : ℕ). record { first = x; per = y }) first second)
      (groups-read (g + r.count) rs (pre ++ bytes 4 g ++ bytes 4 v ++ bytes 4 1) post (suc i) e₃ a₃ l)

-- the entries of stsc stand in a file, for rows that begin with chunk 1
pub groups-back : (rs : List Row) (pre post : List ℕ) → Fit 1 rs → list_from (group_at (pre ++ (words_of (group_words 1 rs) ++ post)) (length pre)) (length rs) 0 ≡ entries_of 1 rs
groups-back rs pre post h = groups-read (pre ++ (words_of (group_words 1 rs) ++ post)) (length pre) 1 rs pre post 0 refl (omega arith) h

-- STCO

length-narrow : (cs : List Chunk) → length (offsets_by false cs) ≡ length cs
unfolding offset_words
length-narrow [] = refl
length-narrow (c ∷ cs) = omega (arith, length-narrow cs)

-- where no place is wide, the numbers of stco are the places
narrow-places : (cs : List Chunk) → any_wide cs ≡ false → (offsets_by false cs ≡ places_of cs) × All Small (places_of cs)
unfolding offset_words when
narrow-places [] e = (refl, nothing)
narrow-places (c ∷ cs) e = cases (leb (2 ^ 32) c.at) refl e (narrow-places cs)
  where
    cases : (b : Bool) → leb (2 ^ 32) c.at ≡ b → when b true (any_wide cs) ≡ false → (any_wide cs ≡ false → (offsets_by false cs ≡ places_of cs) × All Small (places_of cs))
        → (c.at % 2 ^ 32 ∷ offsets_by false cs ≡ c.at ∷ places_of cs) × All Small (c.at ∷ places_of cs)
    cases true q h r = let z : ◌≡◌ {A = ℕ} 0 1 = cc in absurd (omega arith)
    cases false q h r =
        let s : c.at < 2 ^ 32 = leb-false (2 ^ 32) c.at q in
        (ap₂ (λ (x : ℕ) (l : List ℕ). x ∷ l) (mod-eq_of_lt s) (r h).0, each s (r h).1)

-- the entries of stco stand in a file
pub narrow_back : (cs : List Chunk) (pre post : List ℕ) → any_wide cs ≡ false →
    chunks (pre ++ (words_of (offsets_by false cs) ++ post)) (record { at = length pre; count = length cs; wide = false }) ≡ places_of cs
unfolding offset_at when
narrow_back cs pre post e =
    let f = pre ++ (words_of (offsets_by false cs) ++ post) in
    let n = narrow-places cs e in
    ap (λ (k : ℕ). list_from (λ (j : ℕ). or_zero 4 f (length pre + j * 4)) k 0) (sym (length-narrow cs))
    ∙ words-read f (length pre) (offsets_by false cs) pre post 0 refl (omega arith) (subst (λ (l : List ℕ). All Small l) (sym n.0) n.1)
    ∙ n.0

-- CO64

eight-at : (f pre post : List ℕ) (x at : ℕ) → f ≡ pre ++ (bytes 8 x ++ post) → at ≡ length pre → x < 2 ^ 64 → or_zero 8 f at ≡ x
eight-at f pre post x at e a h =
    let room : at + 8 ≤ length f = omega (arith, ap length e, length-append pre (bytes 8 x ++ post), length-append (bytes 8 x) post, length-bytes 8 x) in
    let is : x ≡ be 8 f at = sym (ap₂ (λ (l : List ℕ) (k : ℕ). be 8 l k) e a ∙ be-bytes 8 x pre post ∙ mod-eq_of_lt h) in
    sym (whole 8 f at (λ q. 0) (λ n. n) x x room is refl)

-- the two numbers of a wide place are its eight bytes
wide-bytes : (x : ℕ) → bytes 4 (x / 2 ^ 32) ++ bytes 4 (x % 2 ^ 32) ≡ bytes 8 x
wide-bytes x =
    let e : x / 2 ^ 32 * 256 ^ 4 + x % 2 ^ 32 ≡ x = omega arith in
    sym (bytes-join 4 4 (x / 2 ^ 32) (x % 2 ^ 32) (omega arith)) ∙ ap (bytes 8) e

module _ (f : List ℕ) (at : ℕ) where
  wide_read : (cs : List Chunk) (pre post : List ℕ) (i : ℕ) → f ≡ pre ++ (words_of (offsets_by true cs) ++ post) → at + i * 8 ≡ length pre → All (λ (c : Chunk). c.at < 2 ^ 64) cs
      → list_from (λ (j : ℕ). or_zero 8 f (at + j * 8)) (length cs) i ≡ places_of cs
  unfolding offset_words
  wide_read [] pre post i e a nothing = refl
  wide_read (c ∷ cs) pre post i e a (each h k) =
      let x = c.at in
      let w = words_of (offsets_by true cs) in
      let joined : bytes 4 (x / 2 ^ 32) ++ (bytes 4 (x % 2 ^ 32) ++ w) ≡ bytes 8 x ++ w =
      sym (append_assoc (bytes 4 (x / 2 ^ 32)) (bytes 4 (x % 2 ^ 32)) w) ∙ ap (λ (l : List ℕ). l ++ w) (wide-bytes x) in
      let e₁ : f ≡ pre ++ (bytes 8 x ++ (w ++ post)) = e ∙ ap (λ (l : List ℕ). pre ++ (l ++ post)) joined ∙ ap (λ (l : List ℕ). pre ++ l) (append_assoc (bytes 8 x) w post) in
      let e₂ : f ≡ (pre ++ bytes 8 x) ++ (w ++ post) = e₁ ∙ sym (append_assoc pre (bytes 8 x) (w ++ post)) in
      let b : at + suc i * 8 ≡ length (pre ++ bytes 8 x) = omega (arith, length-append pre (bytes 8 x), length-bytes 8 x) in
      ap₂ (λ (y : ℕ) (l : List ℕ). y ∷ l) (eight-at f pre (w ++ post) x (at + i * 8) e₁ a h) (wide_read cs (pre ++ bytes 8 x) post (suc i) e₂ b k)

-- the entries of co64 stand in a file
pub wide_back : (cs : List Chunk) (pre post : List ℕ) → All (λ (c : Chunk). c.at < 2 ^ 64) cs →
    chunks (pre ++ (words_of (offsets_by true cs) ++ post)) (record { at = length pre; count = length cs; wide = true }) ≡ places_of cs
unfolding offset_at when
wide_back cs pre post h = wide_read (pre ++ (words_of (offsets_by true cs) ++ post)) (length pre) cs pre post 0 refl (omega arith) h
