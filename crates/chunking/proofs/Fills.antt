-- The loops over the samples, step by step. Assumes nothing.
use Prim.Native.Nat.{ℕ, zero, suc, ◌+◌, ◌-◌, ◌*◌, ◌^◌, ◌≤◌, ◌<◌}
use mathlib.Core.Path.{◌≡◌, refl, sym, ap, ap₂, subst, ◌∙◌}
use mathlib.Core.List.{List, [], ◌∷◌, ◌++◌, append-nil, append_assoc}
use mathlib.Core.Bool.{Bool, true, false}
use native.Mathlib.Nat.{add-zero}
use native.Mathlib.Omega.{arith}
use lib.ListN.{length, drop, length-append}
use lib.Dec.{leb}
use Rattle.numbers.specs.Field.{when}
use Rattle.tables.specs.Tables.{listed, total}
use Rattle.tables.specs.declared.Row.{Row}
use Rattle.tables.proofs.Lists.{list-cons, list-nil, length-list}
use Rattle.merging.specs.declared.Open.{Open}
use Rattle.merging.specs.declared.Step as run
use Rattle.merging.specs.Merging as merging
use Rattle.merging.proofs.Steps.{Way, first, longer, closes, way_of}
use Rattle.merging.proofs.Rows.{few-rows}
use Rattle.columns.specs.Columns.{cell_of, low_at}
use Rattle.columns.specs.Entries.{Filled, Emitted}
use Rattle.columns.proofs.Written.{Writing, begins, emitted, ends}
use Rattle.chunking.specs.declared.Chunk.{Chunk}
use Rattle.chunking.specs.declared.Step.{Step}
use Rattle.chunking.specs.declared.Step.TheVariants.{Longer, Closed}
use Rattle.chunking.specs.declared.Group.{Group}
use Rattle.chunking.specs.Chunking.{Piece, piece, piece_at, empty, step_of, finish_of, closed_of, open_of, chunks_from, chunks_in}
use Rattle.chunking.specs.Entries.{offset_words, offsets_by, any_wide, counts_of, group_words, groups_in, closed_rows, open_after, Joined, Grouped}

-- CHUNKS

few-closed : (s : Step) → length (closed_of s) ≤ 1
few-closed (Longer c) = omega arith
few-closed (Closed c o) = omega arith

pub few-chunks : (t : ℕ) (c : Chunk) (ps : List Piece) → length (chunks_from t c ps) ≤ 1 + length ps
few-chunks t c [] = omega (arith, few-closed (finish_of c))
few-chunks t c (p ∷ ps) =
    omega (arith, length-append (closed_of (step_of t c p)) (chunks_from t (open_of (step_of t c p)) ps), few-closed (step_of t c p), few-chunks t (open_of (step_of t c p)) ps)

abbrev pub pieces : List ℕ → ℕ → List Piece
pieces rs n = listed (piece_at rs) n

module _ (t : ℕ) (rs : List ℕ) (n : ℕ) where
  pub chunks-few : length (chunks_in t rs n) ≤ 1 + n
  chunks-few = omega (arith, few-chunks t empty (pieces rs n), length-list (piece_at rs) n 0)

  module _ (c : Chunk) (i : ℕ) (s : Step) where
    pub one-sample : (o z d : ℕ) (next : Chunk) → i < n → o ≡ cell_of rs 1 i → z ≡ low_at rs 2 i → d ≡ low_at rs 4 i → s ≡ step_of t c (piece o z d) → next ≡ open_of s
        → chunks_from t c (drop i (pieces rs n)) ≡ closed_of s ++ chunks_from t next (drop (i + 1) (pieces rs n))
    one-sample o z d next h eo ez ed f g =
        let rest = drop (i + 1) (pieces rs n) in
        let same : piece_at rs i ≡ piece o z d = ap₂ (λ (a : ℕ) (b : ℕ). piece a b (low_at rs 4 i)) (sym eo) (sym ez) ∙ ap (piece o z) (sym ed) in
        ap (chunks_from t c) (list-cons (piece_at rs) n i h)
        ∙ ap (λ (p : Piece). closed_of (step_of t c p) ++ chunks_from t (open_of (step_of t c p)) rest) same
        ∙ ap (λ (x : Step). closed_of x ++ chunks_from t (open_of x) rest) (sym f)
        ∙ ap (λ (x : Chunk). closed_of s ++ chunks_from t x rest) (sym g)

    pub no-sample : n ≤ i → s ≡ finish_of c → chunks_from t c (drop i (pieces rs n)) ≡ closed_of s
    no-sample h f = ap (chunks_from t c) (list-nil (piece_at rs) n i h) ∙ ap closed_of (sym f)

-- PLACES

offsets-append : (w : Bool) (a b : List Chunk) → offsets_by w (a ++ b) ≡ offsets_by w a ++ offsets_by w b
offsets-append w [] b = refl
offsets-append w (c ∷ a) b =
    ap (λ (l : List ℕ). offset_words w c.at ++ l) (offsets-append w a b) ∙ sym (append_assoc (offset_words w c.at) (offsets_by w a) (offsets_by w b))

few_words : (w : Bool) (at : ℕ) → length (offset_words w at) ≤ 2
unfolding offset_words
few_words true at = omega arith
few_words false at = omega arith

few-offsets : (w : Bool) (cs : List Chunk) → length (offsets_by w cs) ≤ 2 * length cs
few-offsets w [] = omega arith
few-offsets w (c ∷ cs) = omega (arith, length-append (offset_words w c.at) (offsets_by w cs), few_words w c.at, few-offsets w cs)

module _ (t : ℕ) (rs : List ℕ) (n : ℕ) (w : Bool) where
  abbrev all : List ℕ
  all = offsets_by w (chunks_in t rs n)

  pub offsets-few : length (offsets_by w (chunks_in t rs n)) ≤ 2 * (1 + n)
  offsets-few = omega (arith, few-offsets w (chunks_in t rs n), chunks-few t rs n)

  pub offsets-begin : (o : List ℕ) (c : Chunk) → c ≡ empty → Writing (offsets_by w (chunks_in t rs n)) (offsets_by w (chunks_from t c (pieces rs n))) o o 0
  offsets-begin o c e = begins all (offsets_by w (chunks_from t c (pieces rs n))) o (ap (λ (x : Chunk). offsets_by w (chunks_from t x (pieces rs n))) e)

  module _ (o p q : List ℕ) (k r : ℕ) (left : List Chunk) (u : Writing (offsets_by w (chunks_in t rs n)) (offsets_by w left) o p k) (s : Step) (m : Emitted (offsets_by w (closed_of s)) p k q r) where
    pub offsets-on : (rest : List Chunk) → left ≡ closed_of s ++ rest → Writing (offsets_by w (chunks_in t rs n)) (offsets_by w rest) o q r
    offsets-on rest e =
        emitted (offsets_by w (closed_of s)) all (offsets_by w left) (offsets_by w rest) o p q k r u (ap (offsets_by w) e ∙ offsets-append w (closed_of s) rest) m

    pub offsets-end : left ≡ closed_of s → Filled (offsets_by w (chunks_in t rs n)) o q r
    offsets-end e =
        ends all [] o q r
        (emitted (offsets_by w (closed_of s)) all (offsets_by w left) [] o p q k r u (ap (offsets_by w) e ∙ sym (append-nil (offsets_by w (closed_of s)))) m) refl

any_append : (a b : List Chunk) → any_wide (a ++ b) ≡ when (any_wide a) true (any_wide b)
unfolding when
any_append [] b = refl
any_append (c ∷ a) b = cases (leb (2 ^ 32) c.at) (any_append a b)
  where
    cases : (x : Bool) → any_wide (a ++ b) ≡ when (any_wide a) true (any_wide b) → when x true (any_wide (a ++ b)) ≡ when (when x true (any_wide a)) true (any_wide b)
    cases true e = refl
    cases false e = e

module _ (left rest : List Chunk) (s : Step) (e : left ≡ closed_of s ++ rest) where
  pub wide-found : any_wide (closed_of s) ≡ true → true ≡ any_wide left
  unfolding when
  wide-found f = sym (ap any_wide e ∙ any_append (closed_of s) rest ∙ ap (λ (b : Bool). when b true (any_wide rest)) f)

  pub wide-on : any_wide (closed_of s) ≡ false → any_wide rest ≡ any_wide left
  unfolding when
  wide-on f = sym (ap any_wide e ∙ any_append (closed_of s) rest ∙ ap (λ (b : Bool). when b true (any_wide rest)) f)

-- SAMPLES PER CHUNK

counts-append : (a b : List Chunk) → counts_of (a ++ b) ≡ counts_of a ++ counts_of b
counts-append [] b = refl
counts-append (c ∷ a) b = ap (λ (l : List ℕ). c.count ∷ l) (counts-append a b)

pub length-counts : (cs : List Chunk) → length (counts_of cs) ≡ length cs
length-counts [] = refl
length-counts (c ∷ cs) = omega (arith, length-counts cs)

words_append : (f : ℕ) (a b : List Row) → group_words f (a ++ b) ≡ group_words f a ++ group_words (f + total a) b
words_append f [] b = ap (λ (n : ℕ). group_words n b) (sym (add-zero f))
words_append f (r ∷ a) b =
    let n : f + r.count + total a ≡ f + (r.count + total a) = omega arith in
    ap (λ (l : List ℕ). f ∷ r.value ∷ 1 ∷ l) (words_append (f + r.count) a b ∙ ap (λ (m : ℕ). group_words (f + r.count) a ++ group_words m b) n)

length-words : (f : ℕ) (rs : List Row) → length (group_words f rs) ≡ 3 * length rs
length-words f [] = omega arith
length-words f (r ∷ rs) = omega (arith, length-words (f + r.count) rs)

-- values that go into a run close rows, and the others come after
merged-append : (o : Open) (a b : List ℕ) → merging.merged_from o (a ++ b) ≡ closed_rows o a ++ merging.merged_from (open_after o a) b
merged-append o [] b = refl
merged-append o (v ∷ a) b =
    ap (λ (l : List Row). merging.rows_of (merging.step_of o v) ++ l) (merged-append (merging.open_of (merging.step_of o v)) a b)
    ∙ sym (append_assoc (merging.rows_of (merging.step_of o v)) (closed_rows (merging.open_of (merging.step_of o v)) a) (merging.merged_from (open_after (merging.open_of (merging.step_of o v)) a) b))

total-append : (a b : List Row) → total (a ++ b) ≡ total a + total b
total-append [] b = omega arith
total-append (r ∷ a) b = omega (arith, total-append a b)

-- no value is lost
one-counted : (o : Open) (v : ℕ) → total (merging.rows_of (merging.step_of o v)) + (merging.open_of (merging.step_of o v)).count ≡ o.count + 1
one-counted o v = cases (way_of o v)
  where
    cases : Way o v → total (merging.rows_of (merging.step_of o v)) + (merging.open_of (merging.step_of o v)).count ≡ o.count + 1
    cases (first z e) = ap (λ s. total (merging.rows_of s) + (merging.open_of s).count) e ∙ ap (λ (m : ℕ). m + 1) (sym z)
    cases (longer z q h e) = ap (λ s. total (merging.rows_of s) + (merging.open_of s).count) e ∙ rest
      where
        rest : 0 + (o.count + 1) ≡ o.count + 1
        rest = omega arith
    cases (closes z q e) = ap (λ s. total (merging.rows_of s) + (merging.open_of s).count) e ∙ rest
      where
        rest : o.count + 0 + 1 ≡ o.count + 1
        rest = omega arith

all-counted : (o : Open) (l : List ℕ) → total (closed_rows o l) + (open_after o l).count ≡ o.count + length l
all-counted o [] = omega arith
all-counted o (v ∷ l) =
    omega (arith, total-append (merging.rows_of (merging.step_of o v)) (closed_rows (merging.open_of (merging.step_of o v)) l), one-counted o v, all-counted (merging.open_of (merging.step_of o v)) l)

-- the group g of chunks is open, `left` are the chunks that come after
pub record Going (full o p : List ℕ) (left : List Chunk) (g : Group) (bound : ℕ) : Type 0 where
  pub words : Writing full (group_words g.first (merging.merged_from g.run (counts_of left))) o p g.k
  pub number : g.first + g.run.count + length left ≤ bound

module _ (t : ℕ) (rs : List ℕ) (n : ℕ) where
  pub groups-few : length (groups_in t rs n) ≤ 3 * (2 + n)
  groups-few =
      omega
      (arith, length-words 1 (merging.merged_of (counts_of (chunks_in t rs n))), few-rows merging.fresh (counts_of (chunks_in t rs n)), length-counts (chunks_in t rs n), chunks-few t rs n)

  pub groups-begin : (o : List ℕ) (c : Chunk) (r : Open) → c ≡ empty → r ≡ merging.fresh → Going (groups_in t rs n) o o (chunks_from t c (pieces rs n)) (record { run = r; first = 1; k = 0 }) (2 + n)
  groups-begin o c r e f =
      record {
        words = begins (groups_in t rs n) (group_words 1 (merging.merged_from r (counts_of (chunks_from t c (pieces rs n))))) o (ap₂ (λ (x : Open) (y : Chunk). group_words 1 (merging.merged_from x (counts_of (chunks_from t y (pieces rs n))))) f e);
        number = omega (arith, ap (λ (x : Open). x.count) f, few-chunks t c (pieces rs n), length-list (piece_at rs) n 0);
      }

module _ (full o p q : List ℕ) (left : List Chunk) (g h : Group) (bound : ℕ) (u : Going full o p left g bound) where
  pub groups-on : (s : Step) (rest : List Chunk) → left ≡ closed_of s ++ rest → Grouped (closed_of s) g p q h → Going full o q rest h bound
  groups-on s rest e m =
      let cs = counts_of (closed_of s) in
      let after : merging.merged_from g.run (counts_of left) ≡ closed_rows g.run cs ++ merging.merged_from h.run (counts_of rest) =
      ap (λ (l : List Chunk). merging.merged_from g.run (counts_of l)) e
      ∙ ap (merging.merged_from g.run) (counts-append (closed_of s) rest)
      ∙ merged-append g.run cs (counts_of rest)
      ∙ ap (λ (x : Open). closed_rows g.run cs ++ merging.merged_from x (counts_of rest)) (sym m.going) in
      let split : group_words g.first (merging.merged_from g.run (counts_of left)) ≡ group_words g.first (closed_rows g.run cs) ++ group_words h.first (merging.merged_from h.run (counts_of rest)) =
      ap (group_words g.first) after ∙ words_append g.first (closed_rows g.run cs) (merging.merged_from h.run (counts_of rest))
      ∙ ap (λ (f : ℕ). group_words g.first (closed_rows g.run cs) ++ group_words f (merging.merged_from h.run (counts_of rest))) (sym m.next) in
      record {
        words = emitted (group_words g.first (closed_rows g.run cs)) full (group_words g.first (merging.merged_from g.run (counts_of left))) (group_words h.first (merging.merged_from h.run (counts_of rest))) o p q g.k h.k u.words split m.words;
        number = omega (arith, u.number, m.next, ap (λ (x : Open). x.count) m.going, all-counted g.run cs, length-counts (closed_of s), ap length e, length-append (closed_of s) rest);
      }

  pub groups-end : (s : run.Step) → left ≡ [] → s ≡ merging.finish_of g.run → Joined s g p q h → Filled full o q h.k
  groups-end s e f m =
      let last : group_words g.first (merging.merged_from g.run (counts_of left)) ≡ group_words g.first (merging.rows_of s) ++ [] =
      ap (λ (l : List Chunk). group_words g.first (merging.merged_from g.run (counts_of l))) e
      ∙ ap (λ (x : run.Step). group_words g.first (merging.rows_of x)) (sym f) ∙ sym (append-nil (group_words g.first (merging.rows_of s))) in
      ends full [] o q h.k
      (emitted (group_words g.first (merging.rows_of s)) full (group_words g.first (merging.merged_from g.run (counts_of left))) [] o p q g.k h.k u.words last m.words) refl
