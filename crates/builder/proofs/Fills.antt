-- The loops that put entries, step by step. Assumes nothing.
use Prim.Native.Nat.{ℕ, zero, suc, ◌+◌, ◌-◌, ◌*◌, ◌^◌, ◌≤◌, ◌<◌}
use mathlib.Core.Path.{◌≡◌, refl, sym, ap, ap₂, subst, ◌∙◌}
use mathlib.Core.List.{List, [], ◌∷◌, ◌++◌, append-nil}
use mathlib.Core.Bool.{Bool, true, false, ◌&&◌}
use native.Mathlib.Nat.{add-zero}
use native.Mathlib.Omega.{arith}
use lib.ListN.{length, drop, length-append}
use lib.Dec.{eqb}
use borrow.Author.Tests.{eq-eqb, ne_eqb}
use Rattle.numbers.specs.Field.{when}
use Rattle.tables.specs.Tables.{listed}
use Rattle.tables.specs.declared.Row.{Row}
use Rattle.tables.proofs.Lists.{list-cons, list-nil, length-list}
use Rattle.merging.specs.declared.Open.{Open}
use Rattle.merging.specs.declared.Step.{Step}
use Rattle.merging.specs.declared.Step.TheVariants.{Longer, Closed}
use Rattle.merging.specs.Merging.{fresh, step_of, finish_of, rows_of, open_of, merged_from, merged_of}
use Rattle.merging.proofs.Rows.{few-rows}
use Rattle.columns.specs.Columns.{cell_of, column_of, low_at, lows_of}
use Rattle.columns.specs.Entries.{words_of, word_of, Filled, emit_of, Emitted}
use Rattle.columns.proofs.Written.{Writing, begins, one_word, emitted, ends}
use Rattle.builder.specs.Built.{pairs_of, runs_of, all_same, sync_word, syncs_from, syncs_in}

-- PAIRS

pub pairs-append : (a b : List Row) → pairs_of (a ++ b) ≡ pairs_of a ++ pairs_of b
pairs-append [] b = refl
pairs-append (r ∷ a) b = ap (λ (l : List ℕ). r.count ∷ r.value ∷ l) (pairs-append a b)

pub length_pairs : (rs : List Row) → length (pairs_of rs) ≡ 2 * length rs
length_pairs [] = omega arith
length_pairs (r ∷ rs) = omega (arith, length_pairs rs)

module _ (step : Step) (p : List ℕ) (k : ℕ) where
  pub closed_none : (o : Open) → step ≡ Longer o → Emitted (pairs_of (rows_of step)) p k p k
  closed_none o e = subst (λ s. Emitted (pairs_of (rows_of s)) p k p k) (sym e) (record { next = sym (add-zero k); put = refl })

  pub closed_some : (r o : Open) (p₁ q : List ℕ) → step ≡ Closed r o → p₁ ≡ word_of p k r.count → q ≡ word_of p₁ (k + 1) r.value → Emitted (pairs_of (rows_of step)) p k q (k + 2)
  closed_some r o p₁ q e a b =
      subst (λ s. Emitted (pairs_of (rows_of s)) p k q (k + 2)) (sym e)
      (record { next = omega arith; put = b ∙ ap (λ (l : List ℕ). word_of l (k + 1) r.value) a })

module _ (rs : List ℕ) (n c : ℕ) where
  pub runs-few : length (runs_of rs n c) ≤ 2 * (1 + n)
  runs-few = omega (arith, length_pairs (merged_of (lows_of rs n c)), few-rows fresh (lows_of rs n c), length-list (low_at rs c) n 0)

  pub merge-begins : (o : List ℕ) (r : Open) → r ≡ fresh → Writing (runs_of rs n c) (pairs_of (merged_from r (lows_of rs n c))) o o 0
  merge-begins o r e = begins (runs_of rs n c) (pairs_of (merged_from r (lows_of rs n c))) o (ap (λ (x : Open). pairs_of (merged_from x (lows_of rs n c))) e)

  module _ (o p q : List ℕ) (i k r : ℕ) (run : Open) (t : Writing (runs_of rs n c) (pairs_of (merged_from run (drop i (lows_of rs n c)))) o p k) (s : Step) (m : Emitted (pairs_of (rows_of s)) p k q r) where
    pub merge_on : (v : ℕ) (next : Open) → i < n → v ≡ low_at rs c i → s ≡ step_of run v → next ≡ open_of s → Writing (runs_of rs n c) (pairs_of (merged_from next (drop (i + 1) (lows_of rs n c)))) o q r
    merge_on v next h e f g =
        let rest = drop (i + 1) (lows_of rs n c) in
        let split : pairs_of (merged_from run (drop i (lows_of rs n c))) ≡ pairs_of (rows_of s) ++ pairs_of (merged_from next rest) =
        ap (λ (l : List ℕ). pairs_of (merged_from run l)) (list-cons (low_at rs c) n i h)
        ∙ ap (λ (x : ℕ). pairs_of (rows_of (step_of run x) ++ merged_from (open_of (step_of run x)) rest)) (sym e)
        ∙ ap (λ (x : Step). pairs_of (rows_of x ++ merged_from (open_of x) rest)) (sym f)
        ∙ pairs-append (rows_of s) (merged_from (open_of s) rest)
        ∙ ap (λ (x : Open). pairs_of (rows_of s) ++ pairs_of (merged_from x rest)) (sym g) in
        emitted (pairs_of (rows_of s)) (runs_of rs n c) (pairs_of (merged_from run (drop i (lows_of rs n c)))) (pairs_of (merged_from next rest)) o p q k r t split m

    pub merge-ends : n ≤ i → s ≡ finish_of run → Filled (runs_of rs n c) o q r
    merge-ends h f =
        let last : pairs_of (merged_from run (drop i (lows_of rs n c))) ≡ pairs_of (rows_of s) ++ [] =
        ap (λ (l : List ℕ). pairs_of (merged_from run l)) (list-nil (low_at rs c) n i h)
        ∙ ap (λ (x : Step). pairs_of (rows_of x)) (sym f) ∙ sym (append-nil (pairs_of (rows_of s))) in
        ends (runs_of rs n c) [] o q r (emitted (pairs_of (rows_of s)) (runs_of rs n c) (pairs_of (merged_from run (drop i (lows_of rs n c)))) [] o p q k r t last m) refl

-- SIZES

module _ (rs : List ℕ) (n c : ℕ) where
  pub list_on : (o p q : List ℕ) (i x : ℕ) → Writing (lows_of rs n c) (drop i (lows_of rs n c)) o p i → i < n → x ≡ low_at rs c i → q ≡ word_of p i x
      → Writing (lows_of rs n c) (drop (i + 1) (lows_of rs n c)) o q (i + 1)
  list_on o p q i x t h e g =
      let cons : drop i (lows_of rs n c) ≡ x ∷ drop (i + 1) (lows_of rs n c) = list-cons (low_at rs c) n i h ∙ ap (λ (y : ℕ). y ∷ drop (i + 1) (lows_of rs n c)) (sym e) in
      let u : Writing (lows_of rs n c) (x ∷ drop (i + 1) (lows_of rs n c)) o p i = subst (λ (l : List ℕ). Writing (lows_of rs n c) l o p i) cons t in
      subst (λ (l : List ℕ). Writing (lows_of rs n c) (drop (i + 1) (lows_of rs n c)) o l (i + 1)) (sym g) (one_word (lows_of rs n c) (drop (i + 1) (lows_of rs n c)) o p i x u)

  pub list-ends : (o p : List ℕ) (i : ℕ) → Writing (lows_of rs n c) (drop i (lows_of rs n c)) o p i → n ≤ i → Filled (lows_of rs n c) o p n
  list-ends o p i t h =
      let f : Filled (lows_of rs n c) o p i = ends (lows_of rs n c) (drop i (lows_of rs n c)) o p i t (list-nil (low_at rs c) n i h) in
      let same : i ≡ n = f.many ∙ length-list (low_at rs c) n 0 in
      subst (λ (m : ℕ). Filled (lows_of rs n c) o p m) same f

  module _ (size i : ℕ) where
    pub same_end : n ≤ i → true ≡ all_same size (drop i (lows_of rs n c))
    same_end h = sym (ap (all_same size) (list-nil (low_at rs c) n i h))

    module _ (x : ℕ) (h : i < n) (e : x ≡ low_at rs c i) where
      split : all_same size (drop i (lows_of rs n c)) ≡ eqb x size && all_same size (drop (i + 1) (lows_of rs n c))
      split =
          ap (all_same size) (list-cons (low_at rs c) n i h) ∙ ap (λ (y : ℕ). eqb y size && all_same size (drop (i + 1) (lows_of rs n c))) (sym e)

      pub same_more : x ≡ size → all_same size (drop (i + 1) (lows_of rs n c)) ≡ all_same size (drop i (lows_of rs n c))
      same_more t = sym (split ∙ ap (λ (b : Bool). b && all_same size (drop (i + 1) (lows_of rs n c))) (eq-eqb x size t))

      pub same_stop : (x ≡ size → ⊥) → false ≡ all_same size (drop i (lows_of rs n c))
      same_stop t = sym (split ∙ ap (λ (b : Bool). b && all_same size (drop (i + 1) (lows_of rs n c))) (ne_eqb x size t))

-- SYNC SAMPLES

module _ (x number : ℕ) (p : List ℕ) (k : ℕ) where
  pub sync-none : x ≡ 0 → Emitted (sync_word x number) p k p k
  unfolding sync_word when
  sync-none e = subst (λ (b : Bool). Emitted (when b [] (number ∷ [])) p k p k) (sym (eq-eqb x 0 e)) (record { next = sym (add-zero k); put = refl })

  pub sync-some : (q : List ℕ) → (x ≡ 0 → ⊥) → q ≡ word_of p k number → Emitted (sync_word x number) p k q (k + 1)
  unfolding sync_word when
  sync-some q e f = subst (λ (b : Bool). Emitted (when b [] (number ∷ [])) p k q (k + 1)) (sym (ne_eqb x 0 e)) (record { next = refl; put = f })

few-sync : (x number : ℕ) → length (sync_word x number) ≤ 1
unfolding sync_word when
few-sync x number = cases (eqb x 0)
  where
    cases : (b : Bool) → length (when b [] (number ∷ [])) ≤ 1
    cases true = omega arith
    cases false = omega arith

few-syncs : (i : ℕ) (l : List ℕ) → length (syncs_from i l) ≤ length l
few-syncs i [] = omega arith
few-syncs i (x ∷ l) = omega (arith, length-append (sync_word x (i + 1)) (syncs_from (i + 1) l), few-sync x (i + 1), few-syncs (i + 1) l)

module _ (rs : List ℕ) (n : ℕ) where
  pub syncs-few : length (syncs_in rs n) ≤ n
  syncs-few = omega (arith, few-syncs 0 (column_of rs n 6), length-list (cell_of rs 6) n 0)

  pub sync-begins : (o : List ℕ) → Writing (syncs_in rs n) (syncs_in rs n) o o 0
  sync-begins o = begins (syncs_in rs n) (syncs_in rs n) o refl

  pub sync-on : (o p q : List ℕ) (i k r x : ℕ) → Writing (syncs_in rs n) (syncs_from i (drop i (column_of rs n 6))) o p k → i < n → x ≡ cell_of rs 6 i → Emitted (sync_word x (i + 1)) p k q r
      → Writing (syncs_in rs n) (syncs_from (i + 1) (drop (i + 1) (column_of rs n 6))) o q r
  sync-on o p q i k r x t h e m =
      let rest = drop (i + 1) (column_of rs n 6) in
      let split : syncs_from i (drop i (column_of rs n 6)) ≡ sync_word x (i + 1) ++ syncs_from (i + 1) rest =
      ap (syncs_from i) (list-cons (cell_of rs 6) n i h) ∙ ap (λ (y : ℕ). sync_word y (i + 1) ++ syncs_from (i + 1) rest) (sym e) in
      emitted (sync_word x (i + 1)) (syncs_in rs n) (syncs_from i (drop i (column_of rs n 6))) (syncs_from (i + 1) rest) o p q k r t split m

  pub sync-ends : (o p : List ℕ) (i k : ℕ) → Writing (syncs_in rs n) (syncs_from i (drop i (column_of rs n 6))) o p k → n ≤ i → Filled (syncs_in rs n) o p k
  sync-ends o p i k t h = ends (syncs_in rs n) (syncs_from i (drop i (column_of rs n 6))) o p k t (ap (syncs_from i) (list-nil (cell_of rs 6) n i h))
