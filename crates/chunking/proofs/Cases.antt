-- What a sample does to an open chunk, way by way. Assumes nothing.
use Prim.Native.Nat.{ℕ, suc, ◌+◌, ◌-◌, ◌*◌, ◌/◌, ◌%◌, ◌^◌, ◌≤◌, ◌<◌}
use mathlib.Core.Path.{◌≡◌, refl, sym, ap, ap₂, subst, ◌∙◌}
use mathlib.Core.List.{List, [], ◌∷◌, ◌++◌, append-nil}
use mathlib.Core.Bool.{Bool, true, false, ◌&&◌}
use native.Mathlib.Nat.{add-zero}
use native.Mathlib.Omega.{arith}
use lib.ListN.{length}
use lib.Seq.{sets}
use lib.Dec.{eqb, ltb, leb}
use borrow.Author.Tests.{eq-eqb, ne_eqb, lt-ltb, le-ltb, ltb-true}
use Rattle.numbers.specs.Number.{bytes}
use Rattle.numbers.specs.Field.{when}
use Rattle.numbers.proofs.Laws.{higher}
use Rattle.numbers.proofs.Chain.{by-true, by-false, is_eq, is_ne}
use Rattle.tables.specs.Tables.{total}
use Rattle.merging.specs.declared.Open.{Open}
use Rattle.merging.specs.declared.Step.{Step}
use Rattle.merging.specs.declared.Step.TheVariants as run
use Rattle.merging.specs.Merging as merging
use Rattle.columns.specs.Columns.{column_of, all_meet}
use Rattle.columns.specs.declared.Rule.TheVariants.{Narrow}
use Rattle.columns.specs.Entries.{word_of, emit_of, Emitted}
use Rattle.chunking.specs.declared.Chunk.{Chunk}
use Rattle.chunking.specs.declared.Step as chunk
use Rattle.chunking.specs.declared.Step.TheVariants.{Longer, Closed}
use Rattle.chunking.specs.declared.Group.{Group}
use Rattle.chunking.specs.Chunking.{Piece, empty, alone, joined, goes_on, step_of, finish_of, closed_of, open_of}
use Rattle.chunking.specs.Entries.{fits_in, offset_words, offsets_by, any_wide, counts_of, group_words, closed_rows, open_after, Rowed, Joined, Grouped}

-- WHETHER A SAMPLE JOINS

module _ (t : ℕ) (c : Chunk) (o : ℕ) where
  pub full : t ≤ c.lasts → false ≡ goes_on t c o
  unfolding goes_on
  full h = sym (ap (λ (b : Bool). b && (eqb o (c.last + c.size) && ltb c.count merging.most)) (le-ltb c.lasts t h))

  pub apart : c.lasts < t → (o ≡ c.last + c.size → ⊥) → false ≡ goes_on t c o
  unfolding goes_on
  apart h e = sym (ap₂ (λ (a b : Bool). a && (b && ltb c.count merging.most)) (lt-ltb c.lasts t h) (ne_eqb o (c.last + c.size) e))

  pub behind : c.lasts < t → o ≡ c.last + c.size → ltb c.count merging.most ≡ goes_on t c o
  unfolding goes_on
  behind h e = sym (ap₂ (λ (a b : Bool). a && (b && ltb c.count merging.most)) (lt-ltb c.lasts t h) (eq-eqb o (c.last + c.size) e))

  -- it joins, so the chunk is not full
  pub has_room : goes_on t c o ≡ true → (c.lasts < t) × (c.count < merging.most)
  unfolding goes_on
  has_room e = cases (ltb c.lasts t) refl (eqb o (c.last + c.size)) (ltb c.count merging.most) refl e
    where
      cases : (a : Bool) → ltb c.lasts t ≡ a → (b d : Bool) → ltb c.count merging.most ≡ d → (a && (b && d)) ≡ true → (c.lasts < t) × (c.count < merging.most)
      cases true p true true q h = (ltb-true c.lasts t p, ltb-true c.count merging.most q)
      cases true p true false q h = let z : ◌≡◌ {A = ℕ} 0 1 = cc in absurd (omega arith)
      cases true p false d q h = let z : ◌≡◌ {A = ℕ} 0 1 = cc in absurd (omega arith)
      cases false p b d q h = let z : ◌≡◌ {A = ℕ} 0 1 = cc in absurd (omega arith)

module _ (t : ℕ) (c : Chunk) (p : Piece) where
  pub step-first : c.count ≡ 0 → Longer (alone p) ≡ step_of t c p
  unfolding step_of
  step-first z = is_eq _ _ _ c.count 0 z refl

  pub step-closed : (c.count ≡ 0 → ⊥) → goes_on t c p.offset ≡ false → Closed c (alone p) ≡ step_of t c p
  unfolding step_of
  step-closed z e = is_ne _ _ _ c.count 0 z (by-false _ _ _ (goes_on t c p.offset) e refl)

  pub step-joined : (c.count ≡ 0 → ⊥) → goes_on t c p.offset ≡ true → Longer (joined c p) ≡ step_of t c p
  unfolding step_of
  step-joined z e = is_ne _ _ _ c.count 0 z (by-true _ _ _ (goes_on t c p.offset) e refl)

module _ (c : Chunk) where
  pub finish-none : c.count ≡ 0 → Longer empty ≡ finish_of c
  unfolding finish_of
  finish-none z = is_eq _ _ _ c.count 0 z refl

  pub finish-chunk : (c.count ≡ 0 → ⊥) → Closed c empty ≡ finish_of c
  unfolding finish_of
  finish-chunk z = is_ne _ _ _ c.count 0 z refl

module _ (rs : List ℕ) (n : ℕ) where
  pub fit-not : all_meet Narrow (column_of rs n 2) ≡ false → false ≡ fits_in rs n
  unfolding fits_in
  fit-not e = by-false _ _ _ (all_meet Narrow (column_of rs n 2)) e refl

  pub fit-by : (b : Bool) → all_meet Narrow (column_of rs n 2) ≡ true → b ≡ all_meet Narrow (column_of rs n 4) → b ≡ fits_in rs n
  unfolding fits_in
  fit-by b e q = by-true _ _ _ (all_meet Narrow (column_of rs n 2)) e q

-- PLACES

module _ (wide : Bool) (at : ℕ) (p : List ℕ) (k : ℕ) where
  pub offset-wide : (p₁ q : List ℕ) → wide ≡ true → p₁ ≡ word_of p k (at / 2 ^ 32) → q ≡ word_of p₁ (k + 1) (at % 2 ^ 32) → Emitted (offset_words wide at) p k q (k + 2)
  unfolding offset_words
  offset-wide p₁ q e a b =
      subst (λ (w : Bool). Emitted (offset_words w at) p k q (k + 2)) (sym e)
      (record { next = omega arith; put = b ∙ ap (λ (l : List ℕ). word_of l (k + 1) (at % 2 ^ 32)) a })

  pub offset-narrow : (q : List ℕ) → wide ≡ false → q ≡ word_of p k (at % 2 ^ 32) → Emitted (offset_words wide at) p k q (k + 1)
  unfolding offset_words
  offset-narrow q e a = subst (λ (w : Bool). Emitted (offset_words w at) p k q (k + 1)) (sym e) (record { next = refl; put = a })

module _ (wide : Bool) (step : chunk.Step) (p : List ℕ) (k : ℕ) where
  pub no-offset : (c : Chunk) → step ≡ Longer c → Emitted (offsets_by wide (closed_of step)) p k p k
  no-offset c e = subst (λ s. Emitted (offsets_by wide (closed_of s)) p k p k) (sym e) (record { next = sym (add-zero k); put = refl })

  pub an-offset : (c o : Chunk) (q : List ℕ) (r : ℕ) → step ≡ Closed c o → Emitted (offset_words wide c.at) p k q r → Emitted (offsets_by wide (closed_of step)) p k q r
  an-offset c o q r e m =
      subst (λ s. Emitted (offsets_by wide (closed_of s)) p k q r) (sym e)
      (subst (λ (l : List ℕ). Emitted l p k q r) (sym (append-nil (offset_words wide c.at))) m)

pub is-far : (step : chunk.Step) (c o : Chunk) → step ≡ Closed c o → leb (2 ^ 32) c.at ≡ any_wide (closed_of step)
unfolding when
is-far step c o e = one (leb (2 ^ 32) c.at) ∙ sym (ap (λ s. any_wide (closed_of s)) e)
  where
    one : (b : Bool) → b ≡ when b true false
    one true = refl
    one false = refl

-- SAMPLES PER CHUNK

-- of a number only its lower 32 bits are written
low-bytes : (f : ℕ) → bytes 4 (f % 2 ^ 32) ≡ bytes 4 f
low-bytes f =
    let e : f / 2 ^ 32 * 256 ^ 4 + f % 2 ^ 32 ≡ f = omega arith in
    sym (higher 4 (f / 2 ^ 32) (f % 2 ^ 32)) ∙ ap (bytes 4) e

word_low : (p : List ℕ) (k f : ℕ) → word_of p k (f % 2 ^ 32) ≡ word_of p k f
unfolding word_of
word_low p k f = ap (λ (b : List ℕ). when (leb (k * 4 + 4) (length p)) (sets p (k * 4) b) p) (low-bytes f)

module _ (step : Step) (g : Group) (p : List ℕ) where
  pub run_on : (o : Open) → step ≡ run.Longer o → Joined step g p p (record { run = o; first = g.first; k = g.k })
  run_on o e =
      subst (λ s. Joined s g p p (record { run = o; first = g.first; k = g.k })) (sym e)
      (record { words = record { next = sym (add-zero g.k); put = refl }; next = sym (add-zero g.first); going = refl })

  pub run-closed : (r o : Open) (p₁ p₂ q : List ℕ) → step ≡ run.Closed r o → p₁ ≡ word_of p g.k (g.first % 2 ^ 32) → p₂ ≡ word_of p₁ (g.k + 1) r.value → q ≡ word_of p₂ (g.k + 2) 1
      → Joined step g p q (record { run = o; first = g.first + r.count; k = g.k + 3 })
  run-closed r o p₁ p₂ q e a b d =
      let k = g.k in
      let n : k + 2 ≡ k + 1 + 1 = omega arith in
      subst (λ s. Joined s g p q (record { run = o; first = g.first + r.count; k = g.k + 3 })) (sym e)
      (record {
        words =
            record {
              next = omega arith;
              put = d ∙ ap₂ (λ (l : List ℕ) (m : ℕ). word_of l m 1) (b ∙ ap (λ (l : List ℕ). word_of l (k + 1) r.value) (a ∙ word_low p k g.first)) n;
            };
        next = omega arith;
        going = refl;
      })

module _ (step : chunk.Step) (g : Group) (p : List ℕ) where
  pub no_chunk : (c : Chunk) → step ≡ Longer c → Grouped (closed_of step) g p p g
  no_chunk c e =
      subst (λ s. Grouped (closed_of s) g p p g) (sym e)
      (record { words = record { next = sym (add-zero g.k); put = refl }; next = sym (add-zero g.first); going = refl })

  pub a-chunk : (c o : Chunk) (s : Step) (q : List ℕ) (h : Group) → step ≡ Closed c o → s ≡ merging.step_of g.run c.count → Joined s g p q h → Grouped (closed_of step) g p q h
  a-chunk c o s q h e f j =
      let i : Joined (merging.step_of g.run c.count) g p q h = subst (λ (x : Step). Joined x g p q h) f j in
      subst (λ x. Grouped (closed_of x) g p q h) (sym e)
      (subst (λ rows. Rowed rows (merging.open_of (merging.step_of g.run c.count)) g p q h) (sym (append-nil (merging.rows_of (merging.step_of g.run c.count)))) i)
