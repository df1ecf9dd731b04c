-- The entries of stsc and stss, as they are built, are what the boxes' writers and readers allow (A21): first chunks begin
-- at 1 and rise, no chunk has 0 samples, and sync samples rise. Assumes nothing.
use Rattle.std.specs.Prelude.{Result, Ok, Err}
use Prim.Native.Nat.{ℕ, suc, ◌+◌, ◌-◌, ◌≤◌, ◌<◌}
use mathlib.Core.Path.{◌≡◌, refl, sym, ap, ap₂, ◌∙◌}
use mathlib.Core.List.{List, [], ◌∷◌, ◌++◌, append_assoc, append-nil}
use mathlib.Core.Bool.{Bool, true, false}
use native.Mathlib.Nat.{mod-eq_of_lt}
use native.Mathlib.Omega.{arith}
use lib.ListN.{length, length-append}
use lib.Dec.{eqb, ltb}
use borrow.Author.Tests.{eq-eqb, lt-ltb, le-leb, eqb-true}
use Rattle.numbers.specs.Number.{be, bytes}
use Rattle.numbers.specs.Field.{when}
use Rattle.numbers.specs.declared.Refusal.TheVariants as refusal
use Rattle.numbers.proofs.Laws.{length-bytes, be-bytes}
use Rattle.numbers.proofs.Chain.{whole, by-true}
use Rattle.rows.specs.Rows.{width_of, allowed_of, last_of, cells_of, entry_of, step, entries_of}
use Rattle.rows.specs.declared.Cell.{Cell}
use Rattle.rows.specs.declared.Cell.TheVariants.{FromOne, Least, Rising, Any, Nothing}
use Rattle.tables.specs.declared.Row.{Row}
use Rattle.merging.proofs.Rows.{All, nothing, each, Right}
use Rattle.columns.specs.Entries.{words_of}
use Rattle.builder.specs.Built.{sync_word, syncs_from}
use Rattle.builder.proofs.Bytes.{Small, next_place}
use Rattle.chunking.specs.Entries.{group_words}
use Rattle.chunking.proofs.Bytes.{Fit}
use Rattle.stsc.specs.Stsc as stsc
use Rattle.stss.specs.Stss as stss
use Rattle.numbers.specs.declared.Refusal.{Refusal}

pub word-is : (b pre post : List ℕ) (x at : ℕ) → b ≡ pre ++ (bytes 4 x ++ post) → at ≡ length pre → Small x → (at + 4 ≤ length b) × (x ≡ be 4 b at)
word-is b pre post x at e a h = (
  omega (arith, ap length e, length-append pre (bytes 4 x ++ post), length-append (bytes 4 x) post, length-bytes 4 x),
  sym (ap₂ (λ (l : List ℕ) (k : ℕ). be 4 l k) e a ∙ be-bytes 4 x pre post ∙ mod-eq_of_lt h),
)

-- a field that is whole and allowed, and what comes behind it
cell-fine : (c : Cell) (cs : List Cell) (b : List ℕ) (at last x : ℕ) (z : Result (ℕ × ℕ) Refusal) → at + width_of c ≤ length b → x ≡ be (width_of c) b at → allowed_of c last x ≡ true
    → z ≡ cells_of cs b (at + width_of c) (last_of c last x) → z ≡ cells_of (c ∷ cs) b at last
unfolding cells_of
cell-fine c cs b at last x z h e a q =
    whole (width_of c) b at Err
    (λ y. when (allowed_of c last y) (cells_of cs b (at + width_of c) (last_of c last y)) (Err (refusal.Value at))) z x h e
    (by-true _ _ _ (allowed_of c last x) a q)

nothing-fine : (cs : List Cell) (b : List ℕ) (at last : ℕ) (z : Result (ℕ × ℕ) Refusal) → at ≤ length b → z ≡ cells_of cs b (at + 0) last → z ≡ cells_of (Nothing ∷ cs) b at last
unfolding width_of allowed_of last_of
nothing-fine cs b at last z h q = cell-fine Nothing cs b at last (be 0 b at) z (omega arith) refl refl q

no_cells : (b : List ℕ) (at last : ℕ) → Ok (at, last) ≡ cells_of [] b at last
unfolding cells_of
no_cells b at last = refl

next-entry : (n : ℕ) (cells : List Cell) (b : List ℕ) (at last p l : ℕ) → Ok (p, l) ≡ entry_of cells b at last → entries_of n cells b p l ≡ (Ok tt) → entries_of (suc n) cells b at last ≡ (Ok tt)
unfolding entries_of
next-entry n cells b at last p l e q = sym (ap (step (λ p l. entries_of n cells b p l)) e) ∙ q

no-entries : (cells : List Cell) (b : List ℕ) (at last : ℕ) → entries_of 0 cells b at last ≡ (Ok tt)
unfolding entries_of
no-entries cells b at last = refl

least : (last v : ℕ) → 0 < v → allowed_of (Least 4 1) last v ≡ true
unfolding allowed_of
least last v z = le-leb 1 v (omega arith)

any : (last x : ℕ) → allowed_of (Any 4) last x ≡ true
unfolding allowed_of
any last x = refl

rising : (last x : ℕ) → last < x → allowed_of (Rising 4) last x ≡ true
unfolding allowed_of
rising last x h = lt-ltb last x h

-- STSC

from_one : (last g : ℕ) → last < g → (last ≡ 0 → g ≡ 1) → allowed_of (FromOne 4) last g ≡ true
unfolding allowed_of when
from_one last g h k = cases (eqb last 0) refl
  where
    cases : (b : Bool) → eqb last 0 ≡ b → when b (eqb g 1) (ltb last g) ≡ true
    cases true e = eq-eqb g 1 (k (eqb-true last 0 e))
    cases false e = lt-ltb last g h

group-entry : (b p₁ p₂ p₃ q₁ q₂ q₃ : List ℕ) (at last g v : ℕ) → b ≡ p₁ ++ (bytes 4 g ++ q₁) → b ≡ p₂ ++ (bytes 4 v ++ q₂) → b ≡ p₃ ++ (bytes 4 1 ++ q₃) → at ≡ length p₁ → at + 4 ≡ length p₂ → at + 4 + 4 ≡ length p₃
    → Small g → Small v → last < g → (last ≡ 0 → g ≡ 1) → 0 < v → Ok (at + 4 + 4 + 4 + 0, g) ≡ entry_of stsc.cells b at last
unfolding width_of last_of
group-entry b p₁ p₂ p₃ q₁ q₂ q₃ at last g v e₁ e₂ e₃ a₁ a₂ a₃ hg hv h k z =
    let w₁ = word-is b p₁ q₁ g at e₁ a₁ hg in
    let w₂ = word-is b p₂ q₂ v (at + 4) e₂ a₂ hv in
    let w₃ = word-is b p₃ q₃ 1 (at + 4 + 4) e₃ a₃ (omega arith) in
    cell-fine (FromOne 4) (Least 4 1 ∷ Any 4 ∷ Nothing ∷ []) b at last g (Ok (at + 4 + 4 + 4 + 0, g)) w₁.0 w₁.1 (from_one last g h k)
    (cell-fine (Least 4 1) (Any 4 ∷ Nothing ∷ []) b (at + 4) g v (Ok (at + 4 + 4 + 4 + 0, g)) w₂.0 w₂.1 (least g v z)
    (cell-fine (Any 4) (Nothing ∷ []) b (at + 4 + 4) g 1 (Ok (at + 4 + 4 + 4 + 0, g)) w₃.0 w₃.1 (any g 1)
    (nothing-fine [] b (at + 4 + 4 + 4) g (Ok (at + 4 + 4 + 4 + 0, g)) w₃.0 (no_cells b (at + 4 + 4 + 4 + 0) g))))

groups-from : (b : List ℕ) (g : ℕ) (rs : List Row) (pre post : List ℕ) (at last : ℕ) → b ≡ pre ++ (words_of (group_words g rs) ++ post) → at ≡ length pre → Fit g rs → All (Right (λ (v : ℕ). 0 < v)) rs → last < g → (last ≡ 0 → g ≡ 1)
    → entries_of (length rs) stsc.cells b at last ≡ (Ok tt)
groups-from b g [] pre post at last e a Fit.none nothing h k = no-entries stsc.cells b at last
groups-from b g (r ∷ rs) pre post at last e a (Fit.one f v i) (each q qs) h k =
    let w = words_of (group_words (g + r.count) rs) in
    let x = r.value in
    let p₁ = pre ++ bytes 4 g in
    let p₂ = p₁ ++ bytes 4 x in
    let e₁ : b ≡ p₁ ++ ((bytes 4 x ++ (bytes 4 1 ++ w)) ++ post) = e ∙ next_place pre post (bytes 4 x ++ (bytes 4 1 ++ w)) g in
    let e₂ : b ≡ p₂ ++ ((bytes 4 1 ++ w) ++ post) = e₁ ∙ next_place p₁ post (bytes 4 1 ++ w) x in
    let e₃ : b ≡ (p₂ ++ bytes 4 1) ++ (w ++ post) = e₂ ∙ next_place p₂ post w 1 in
    let l₁ : length (pre ++ bytes 4 g) ≡ length pre + 4 = length-append pre (bytes 4 g) ∙ ap (λ (n : ℕ). length pre + n) (length-bytes 4 g) in
    let l₂ : length (pre ++ bytes 4 g ++ bytes 4 x) ≡ length (pre ++ bytes 4 g) + 4 = length-append (pre ++ bytes 4 g) (bytes 4 x) ∙ ap (λ (n : ℕ). length (pre ++ bytes 4 g) + n) (length-bytes 4 x) in
    let l₃ : length (pre ++ bytes 4 g ++ bytes 4 x ++ bytes 4 1) ≡ length (pre ++ bytes 4 g ++ bytes 4 x) + 4 = length-append (pre ++ bytes 4 g ++ bytes 4 x) (bytes 4 1) ∙ ap (λ (n : ℕ). length (pre ++ bytes 4 g ++ bytes 4 x) + n) (length-bytes 4 1) in
    next-entry (length rs) stsc.cells b at last (at + 4 + 4 + 4 + 0) g
    (group-entry b pre p₁ p₂ ((bytes 4 x ++ (bytes 4 1 ++ w)) ++ post) ((bytes 4 1 ++ w) ++ post) (w ++ post) at last g x
    (e ∙ ap (λ (y : List ℕ). pre ++ y) (append_assoc (bytes 4 g) (bytes 4 x ++ (bytes 4 1 ++ w)) post))
    (e₁ ∙ ap (λ (y : List ℕ). p₁ ++ y) (append_assoc (bytes 4 x) (bytes 4 1 ++ w) post))
    (e₂ ∙ ap (λ (y : List ℕ). p₂ ++ y) (append_assoc (bytes 4 1) w post)) a (omega arith) (omega arith) f v h k q.own)
    (groups-from b (g + r.count) rs (p₂ ++ bytes 4 1) post (at + 4 + 4 + 4 + 0) g e₃ (omega arith) i qs (omega (arith, q.some)) (λ y. absurd (omega arith)))

pub groups-fine : (rs : List Row) → Fit 1 rs → All (Right (λ (v : ℕ). 0 < v)) rs → entries_of (length rs) stsc.cells (words_of (group_words 1 rs)) 0 0 ≡ (Ok tt)
groups-fine rs f q = groups-from (words_of (group_words 1 rs)) 1 rs [] [] 0 0 (sym (append-nil (words_of (group_words 1 rs)))) refl f q (omega arith) (λ y. refl)

-- STSS

-- numbers that rise from one that comes before them
pub data Rises : ℕ → List ℕ → Type 0 where
  none : {last : ℕ} → Rises last []
  one : {last x : ℕ} {ns : List ℕ} → last < x → Rises x ns → Rises last (x ∷ ns)

pub syncs-rise : (last i : ℕ) (l : List ℕ) → last ≤ i → Rises last (syncs_from i l)
unfolding sync_word when
syncs-rise last i [] h = Rises.none
syncs-rise last i (x ∷ l) h = cases (eqb x 0) (syncs-rise last (i + 1) l (omega arith)) (syncs-rise (i + 1) (i + 1) l (omega arith))
  where
    cases : (b : Bool) → Rises last (syncs_from (i + 1) l) → Rises (i + 1) (syncs_from (i + 1) l) → Rises last (when b [] ((i + 1) ∷ []) ++ syncs_from (i + 1) l)
    cases true r s = r
    cases false r s = let k : last < i + 1 = omega arith in Rises.one k s

numbers-from : (b ns pre post : List ℕ) (at last : ℕ) → b ≡ pre ++ (words_of ns ++ post) → at ≡ length pre → All Small ns → Rises last ns → entries_of (length ns) stss.cells b at last ≡ (Ok tt)
unfolding width_of last_of
numbers-from b [] pre post at last e a nothing Rises.none = no-entries stss.cells b at last
numbers-from b (x ∷ ns) pre post at last e a (each f fs) (Rises.one h hs) =
    let w = word-is b pre (words_of ns ++ post) x at (e ∙ ap (λ (y : List ℕ). pre ++ y) (append_assoc (bytes 4 x) (words_of ns) post)) a f in
    let l₁ : length (pre ++ bytes 4 x) ≡ length pre + 4 = length-append pre (bytes 4 x) ∙ ap (λ (n : ℕ). length pre + n) (length-bytes 4 x) in
    let go : Ok (at + 4 + 0 + 0 + 0, x) ≡ entry_of stss.cells b at last =
    cell-fine (Rising 4) (Nothing ∷ Nothing ∷ Nothing ∷ []) b at last x (Ok (at + 4 + 0 + 0 + 0, x)) w.0 w.1 (rising last x h)
    (nothing-fine (Nothing ∷ Nothing ∷ []) b (at + 4) x (Ok (at + 4 + 0 + 0 + 0, x)) w.0
    (nothing-fine (Nothing ∷ []) b (at + 4 + 0) x (Ok (at + 4 + 0 + 0 + 0, x)) (omega (arith, w.0))
    (nothing-fine [] b (at + 4 + 0 + 0) x (Ok (at + 4 + 0 + 0 + 0, x)) (omega (arith, w.0)) (no_cells b (at + 4 + 0 + 0 + 0) x)))) in
    next-entry (length ns) stss.cells b at last (at + 4 + 0 + 0 + 0) x go
    (numbers-from b ns (pre ++ bytes 4 x) post (at + 4 + 0 + 0 + 0) x (e ∙ next_place pre post (words_of ns) x) (omega arith) fs hs)

pub numbers-fine : (ns : List ℕ) → All Small ns → Rises 0 ns → entries_of (length ns) stss.cells (words_of ns) 0 0 ≡ (Ok tt)
numbers-fine ns f h = numbers-from (words_of ns) ns [] [] 0 0 (sym (append-nil (words_of ns))) refl f h
