-- The answer from the answers of its parts. Assumes nothing.
use Rattle.std.specs.Prelude.{Result, Ok, Err}
use Prim.Native.Nat.{ℕ, suc, ◌-◌}
use mathlib.Core.Path.{◌≡◌, refl, sym, ap, ap₂, ◌∙◌}
use mathlib.Core.List.{List, [], ◌∷◌}
use mathlib.Core.Bool.{Bool}
use lib.ListN.{length, replicate}
use native.Mathlib.Omega.{arith}
use lib.Dec.{ltb}
use borrow.Author.Tests.{lt-ltb}
use Rattle.numbers.specs.declared.Refusal.TheVariants as refusal
use Rattle.numbers.specs.declared.Refusal.{Refusal}
use Rattle.numbers.proofs.Chain.{is_eq, is_ne}
use Rattle.rows.specs.Judge.{settle}
use Rattle.places.specs.Kinds.{trak}
use Rattle.samples.specs.Records.{Output, output, list_of}
use Rattle.samples.specs.declared.Sample.{Sample}
use Rattle.kin.specs.Kin.{Boxes, boxes}
use Rattle.contents.specs.Held.{part_of}
use Rattle.tables.specs.declared.Track.{Track}
use Rattle.traks.specs.Traks.{number_of, tables_of}
use Rattle.tree.specs.Tables.{out, tables as columns, scan_of}
use Rattle.tree.specs.declared.Scanned.{Scanned}
use Rattle.opening.specs.Opening.{recorded as rows, refusal_of}
use Rattle.runs.specs.declared.Run.{Run}
use Rattle.runtable.specs.Table.{rows_of}
use Rattle.moofs.specs.Moofs as moofs
use Rattle.moofs.specs.Moofs.{Fragment, fragments_of, fill_of}
use Rattle.moofs.proofs.Laws.{Rows, filled}
use Rattle.follows.specs.Fragments.{moofs_of}
use Rattle.movie.specs.Movie.{is_fragmented}
use Rattle.tracksamples.specs.TrackSamples.{samples_from, one_of, count_of, total_of}
use Rattle.figures.specs.Words.{figures_of}
use Rattle.audit.specs.Boxes.{empty, boxes_of, count_of as row_count}
use Rattle.audit.proofs.Answers.{fragments-refused, scanned, recorded, judgement}
use Rattle.opened.specs.Opened.{by_total, by_count, answer_of, source_of, trak_at, by_tables, by_trak, tell_in, tell_of}
use Rattle.opened.specs.declared.Question.{Question}
use Rattle.opened.specs.declared.Question.TheVariants as question
use Rattle.moofs.specs.declared.Filled.{Filled}

-- THE FIGURES

module _ (bytes : List ℕ) (l : List Sample) (o : List ℕ) (z : Output) (x : Result ℕ Refusal) (e : x ≡ count_of l) where
  by-count : z ≡ by_count bytes l o x → z ≡ by_count bytes l o (count_of l)
  by-count h = h ∙ ap (by_count bytes l o) e

  pub count-refused : (q : Refusal) → x ≡ Err q → z ≡ output (Err q) o → z ≡ by_count bytes l o (count_of l)
  count-refused q w h = by-count (h ∙ ap (by_count bytes l o) (sym w))

  module _ (count : ℕ) (w : x ≡ Ok count) (y : Result ℕ Refusal) (ey : y ≡ total_of l) where
    by-total : z ≡ by_total bytes count o y → z ≡ by_count bytes l o (count_of l)
    by-total h = by-count (h ∙ ap (by_total bytes count o) ey ∙ ap (by_count bytes l o) (sym w))

    pub total-refused : (q : Refusal) → y ≡ Err q → z ≡ output (Err q) o → z ≡ by_count bytes l o (count_of l)
    total-refused q v h = by-total (h ∙ ap (by_total bytes count o) (sym v))

    pub figured : (total : ℕ) → y ≡ Ok total → z ≡ figures_of bytes count total o → z ≡ by_count bytes l o (count_of l)
    figured total v h = by-total (h ∙ ap (by_total bytes count o) (sym v))

-- THE QUESTION

module _ (number : ℕ) (bytes : List ℕ) (l : List Sample) (o : List ℕ) (z : Output) (x : Question) where
  pub numbered : x ≡ question.Number → z ≡ output (Ok number) o → z ≡ answer_of x number bytes l o
  unfolding answer_of
  numbered e h = h ∙ ap (λ (y : Question). answer_of y number bytes l o) (sym e)

  pub listed : x ≡ question.List → z ≡ list_of l o → z ≡ answer_of x number bytes l o
  unfolding answer_of
  listed e h = h ∙ ap (λ (y : Question). answer_of y number bytes l o) (sym e)

  pub one : (n : ℕ) → x ≡ question.Sample n → z ≡ one_of l n o → z ≡ answer_of x number bytes l o
  unfolding answer_of
  one n e h = h ∙ ap (λ (y : Question). answer_of y number bytes l o) (sym e)

  pub summed : x ≡ question.Summary → z ≡ by_count bytes l o (count_of l) → z ≡ answer_of x number bytes l o
  unfolding answer_of
  summed e h = h ∙ ap (λ (y : Question). answer_of y number bytes l o) (sym e)

-- THE TRACK

module _ (f : List ℕ) (t : Boxes) (n : ℕ) (rs : List Run) (b : Bool) (row : ℕ) (q : Question) (o : List ℕ) (z : Output) where
  pub tables-refused : (x : Result Track Refusal) → x ≡ tables_of f t n row → (r : Refusal) → x ≡ Err r → z ≡ output (Err r) o
      → z ≡ by_tables f t n rs b row q o (tables_of f t n row)
  tables-refused x e r w h = h ∙ ap (by_tables f t n rs b row q o) (sym w ∙ e)

  pub by-tables : (x : Result Track Refusal) → x ≡ tables_of f t n row → (y : Track) → x ≡ Ok y → (k : ℕ) → k ≡ number_of f t n row
      → (bytes : List ℕ) → bytes ≡ part_of f t (row - 1) → z ≡ answer_of q k bytes (samples_from f (source_of y k b) rs) o → z ≡ by_tables f t n rs b row q o (tables_of f t n row)
  by-tables x e y w k ek bytes eb h =
      h ∙ ap₂ (λ (s : List ℕ) (j : ℕ). answer_of q j s (samples_from f (source_of y j b) rs) o) eb ek ∙ ap (by_tables f t n rs b row q o) (sym w ∙ e)

module _ (f : List ℕ) (t : Boxes) (n : ℕ) (rs : List Run) (b : Bool) (place row : ℕ) (e : row ≡ trak_at t n place) (q : Question) (o : List ℕ) (z : Output) where
  pub no-trak : row ≡ 0 → z ≡ output (Err (refusal.Missing trak)) o → z ≡ by_trak f t n rs b (trak_at t n place) q o
  unfolding by_trak
  no-trak h w = is_eq _ _ _ row 0 h w ∙ ap (λ (r : ℕ). by_trak f t n rs b r q o) e

  pub a-trak : (row ≡ 0 → ⊥) → z ≡ by_tables f t n rs b row q o (tables_of f t n row) → z ≡ by_trak f t n rs b (trak_at t n place) q o
  unfolding by_trak
  a-trak h w = is_ne _ _ _ row 0 h w ∙ ap (λ (r : ℕ). by_trak f t n rs b r q o) e

-- THE FRAGMENTS

some-moof : (f : List ℕ) (xs : List Fragment) → ltb 0 (length xs) ≡ is_fragmented (moofs_of f xs)
some-moof f [] = refl
some-moof f (x ∷ xs) = lt-ltb 0 (suc (length xs)) (omega arith)

module _ (f : List ℕ) (t : Boxes) (n place : ℕ) (q : Question) (o : List ℕ) (z : Output)
    (s : Result Filled Refusal) (x y : List ℕ) (e : moofs.output s x y ≡ fill_of (fragments_of f t n) (replicate 49152 0) (replicate 12288 0)) where
  pub not-filled : (r : Refusal) → s ≡ Err r → z ≡ output (Err r) o → z ≡ tell_in f t n place q o (fragments_of f t n)
  unfolding tell_in
  not-filled r w h = h ∙ sym (ap (tell_in f t n place q o) (fragments-refused f t n s x y e r w))

  pub by-fragments : (g : Filled) → s ≡ Ok g → z ≡ by_trak f t n (rows_of x g.runs) (ltb 0 g.moofs) (trak_at t n place) q o
      → z ≡ tell_in f t n place q o (fragments_of f t n)
  unfolding tell_in
  by-fragments g w h =
      let v : Rows (fragments_of f t n) g.runs g.moofs x y = filled f t n (replicate 49152 0) (replicate 12288 0) g x y (ap (λ (s : Result Filled Refusal). moofs.output s x y) (sym w) ∙ e) in
      h
      ∙ ap₂ (λ (rs : List Run) (b : Bool). by_trak f t n rs b (trak_at t n place) q o) v.run-rows (ap (ltb 0) v.moofs ∙ some-moof f v.fragments)
      ∙ sym (ap (tell_in f t n place q o) v.is)

-- THE FILE

module _ (f a b k p d l : List ℕ) (s : Scanned) (e : out s (columns a b k p d l) ≡ scan_of f empty) (place : ℕ) (q : Question) (o : List ℕ) (z : Output)
    (j : Result (Unit {0}) Refusal) (ej : j ≡ refusal_of f (boxes a b k p l) s) where
  pub file-refused : (r : Refusal) → j ≡ Err r → z ≡ output (Err r) o → z ≡ tell_of f place q o
  unfolding tell_of
  file-refused r w h =
      h ∙ sym (ap (settle (tell_in f (boxes_of f) (row_count f) place q o (fragments_of f (boxes_of f) (row_count f))) (λ x. output (Err x) o)) (sym (judgement f a b k p d l s e j ej) ∙ w))

  pub file-fine : j ≡ (Ok tt) → (n : ℕ) → n ≡ rows s → z ≡ tell_in f (boxes a b k p l) n place q o (fragments_of f (boxes a b k p l) n) → z ≡ tell_of f place q o
  unfolding tell_of
  file-fine w n en h =
      h
      ∙ ap₂ (λ (x : Boxes) (y : ℕ). tell_in f x y place q o (fragments_of f x y)) (recorded f a b k p d l s e) (en ∙ ap rows (scanned f a b k p d l s e))
      ∙ sym (ap (settle (tell_in f (boxes_of f) (row_count f) place q o (fragments_of f (boxes_of f) (row_count f))) (λ x. output (Err x) o)) (sym (judgement f a b k p d l s e j ej) ∙ w))
