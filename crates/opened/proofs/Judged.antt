-- What is told of a track is what the audit judges: where a file opens as a movie, the track at a place in the moov is the
-- track at that place in the movie. Assumes nothing.
use Rattle.std.specs.Prelude.{Result, Ok, Err}
use Prim.Native.Nat.{ℕ, zero, suc, ◌-◌, ◌<◌, min}
use mathlib.Core.Path.{◌≡◌, refl, sym, ap, ap₂, ◌∙◌}
use mathlib.Core.List.{List, [], ◌∷◌}
use mathlib.Core.Bool.{Bool}
use native.Mathlib.Omega.{arith}
use lib.ListN.{length, get_or, drop, length-take}
use lib.Seq.{get_or-take}
use Rattle.numbers.specs.declared.Refusal.{Refusal}
use Rattle.numbers.proofs.Chain.{is_ne}
use Rattle.rows.specs.Judge.{settle}
use Rattle.places.specs.Visit.{box_limit}
use Rattle.places.specs.Kinds as kinds
use Rattle.samples.specs.Records.{output, list_of}
use Rattle.samples.specs.declared.Sample.{Sample}
use Rattle.kin.specs.Kin.{Boxes}
use Rattle.inside.specs.Inside.{child}
use Rattle.contents.specs.Held.{part_of}
use Rattle.tables.specs.declared.Track as tables
use Rattle.traks.specs.Traks.{traks_of, number_of, tables_of}
use Rattle.runs.specs.declared.Run.{Run}
use Rattle.moofs.specs.Moofs.{All, all, refused, Fragment, fragments_of, all_runs}
use Rattle.payloads.specs.Payloads.{payloads_from}
use Rattle.follows.specs.Fragments.{moofs_of}
use Rattle.opening.specs.Opening.{refusal_of}
use Rattle.verdicts.specs.Findings.{Track, track, samples_of}
use Rattle.movie.specs.Movie.{Movie, movie_of, is_fragmented, samples_by, tracks_by, tracks_of, refusal_in}
use Rattle.tracksamples.specs.TrackSamples.{one_of}
use Rattle.audit.specs.Boxes.{scanned_of, boxes_of, count_of}
use Rattle.audit.specs.File.{first_traks, numbers_of, with_tables, tables_in, Opened, is, is_not, with_all, movie_in, unless_refused, open_of}
use Rattle.opened.specs.Opened.{answer_of, trak_at, by_tables, by_trak, tell_in, tell_of}
use Rattle.opened.specs.declared.Question.{Question}
use Rattle.opened.specs.declared.Question.TheVariants as question
use Rattle.opened.proofs.Place.{rows-some}

-- A FILE THAT OPENS

-- what is known of it, and what its movie is made of
record Parts (f : List ℕ) (m : Movie) : Type 0 where
  pub fine : refusal_of f (boxes_of f) (scanned_of f) ≡ (Ok tt)
  pub fragments : List Fragment
  pub fragments-are : fragments_of f (boxes_of f) (count_of f) ≡ all fragments
  pub tables : List tables.Track
  pub tables-are : tables_in f (boxes_of f) (count_of f) (first_traks (boxes_of f) (count_of f)) ≡ all tables
  pub made_of : m ≡ movie_of f (payloads_from f (boxes_of f) (count_of f) 0) (numbers_of f (boxes_of f) (count_of f) (first_traks (boxes_of f) (count_of f))) tables (all_runs fragments) (moofs_of f fragments)

module _ (f : List ℕ) (m : Movie) where
  abbrev made : List Fragment → List tables.Track → Movie
  made frs ts = movie_of f (payloads_from f (boxes_of f) (count_of f) 0) (numbers_of f (boxes_of f) (count_of f) (first_traks (boxes_of f) (count_of f))) ts (all_runs frs) (moofs_of f frs)

  never : {A : Type 0} (q : Refusal) → is_not q ≡ is m → A
  never q z = let y : ◌≡◌ {A = ℕ} 0 1 = cc z in absurd (omega arith)

  movie_or : Opened → Movie
  movie_or (is x) = x
  movie_or (is_not q) = m

  settled : (x : Movie) (j : Result (Unit {0}) Refusal) → settle (is x) is_not j ≡ is m → m ≡ x
  unfolding movie_or
  settled x (Ok tt) z = sym (ap movie_or z)
  settled x (Err q) z = never q z

  parts : open_of f ≡ is m → Parts f m
  unfolding open_of movie_in
  parts e =
      cases (refusal_of f (boxes_of f) (scanned_of f)) refl (fragments_of f (boxes_of f) (count_of f)) refl (tables_in f (boxes_of f) (count_of f) (first_traks (boxes_of f) (count_of f))) refl e
    where
      cases : (j : Result (Unit {0}) Refusal) → refusal_of f (boxes_of f) (scanned_of f) ≡ j → (a : All Fragment) → fragments_of f (boxes_of f) (count_of f) ≡ a
          → (b : All tables.Track) → tables_in f (boxes_of f) (count_of f) (first_traks (boxes_of f) (count_of f)) ≡ b
          → settle (unless_refused (with_all a (λ frs. with_all b (λ ts. is (made frs ts))))) is_not j ≡ is m → Parts f m
      cases (Err q) ej a ea b eb z = never q z
      cases (Ok tt) ej (refused q) ea b eb z = never q z
      cases (Ok tt) ej (all frs) ea (refused q) eb z = never q z
      cases (Ok tt) ej (all frs) ea (all ts) eb z =
          record { fine = ej; fragments = frs; fragments-are = ea; tables = ts; tables-are = eb; made_of = settled (made frs ts) (refusal_in (made frs ts)) z }

-- A TRACK OF ITS MOVIE

abbrev pub number_in : Track → ℕ
number_in (track n a l) = n

module _ (f : List ℕ) (t : Boxes) (n : ℕ) (b : Bool) (rs : List Run) where
  -- the trak that tells it
  record Told (rows : List ℕ) (place : ℕ) (tr : Track) : Type 0 where
    pub row : ℕ
    pub tables : tables.Track
    pub there : place < length rows
    pub at : get_or rows place 0 ≡ row
    pub reads : tables_of f t n row ≡ Ok tables
    pub named : number_of f t n row ≡ number_in tr
    pub are : samples_by b f tables rs (number_of f t n row) ≡ samples_of tr

  abbrev list_in : All tables.Track → List tables.Track
  list_in (all ts) = ts
  list_in (refused q) = []

  abbrev head_or : Track → List Track → Track
  head_or d [] = d
  head_or d (x ∷ xs) = x

  no-track : {A : Type 0} (tr : Track) (rest : List Track) → [] ≡ tr ∷ rest → A
  no-track tr rest z = let y : ◌≡◌ {A = ℕ} 0 1 = cc z in absurd (omega arith)

  dropped : (place : ℕ) → ◌≡◌ {A = List Track} (drop place []) []
  dropped zero = refl
  dropped (suc i) = refl

  told : (rows : List ℕ) (ts : List tables.Track) → tables_in f t n rows ≡ all ts → (place : ℕ) (tr : Track) (rest : List Track)
      → drop place (tracks_by b f rs (numbers_of f t n rows) ts) ≡ tr ∷ rest → Told rows place tr
  told [] ts e place tr rest h = no-track tr rest (sym (dropped place) ∙ h)
  told (p ∷ ps) ts e place tr rest h =
      cases (λ us eu i k. told ps us eu i tr rest k) (tables_of f t n p) refl (tables_in f t n ps) refl e place h
    where
      cut : {A : Type 0} (q : Refusal) → ◌≡◌ {A = All tables.Track} (refused q) (all ts) → A
      cut q z = let y : ◌≡◌ {A = ℕ} 0 1 = cc z in absurd (omega arith)

      cases : ((us : List tables.Track) → tables_in f t n ps ≡ all us → (i : ℕ) → drop i (tracks_by b f rs (numbers_of f t n ps) us) ≡ tr ∷ rest → Told ps i tr)
          → (x : Result tables.Track Refusal) → tables_of f t n p ≡ x → (us : All tables.Track) → tables_in f t n ps ≡ us → with_tables x us ≡ all ts → (i : ℕ)
          → drop i (tracks_by b f rs (number_of f t n p ∷ numbers_of f t n ps) ts) ≡ tr ∷ rest → Told (p ∷ ps) i tr
      cases on (Err q) ex us eu z i k = cut q z
      cases on (Ok y) ex (refused q) eu z i k = cut q z
      cases on (Ok y) ex (all us) eu z zero k =
          let w = ap (λ (vs : List tables.Track). tracks_by b f rs (number_of f t n p ∷ numbers_of f t n ps) vs) (ap list_in z) ∙ k in
          record { row = p; tables = y; there = omega arith; at = refl; reads = ex; named = ap (λ (l : List Track). number_in (head_or tr l)) w; are = ap (λ (l : List Track). samples_of (head_or tr l)) w }
      cases on (Ok y) ex (all us) eu z (suc i) k =
          let w = on us eu i (ap (λ (vs : List tables.Track). drop (suc i) (tracks_by b f rs (number_of f t n p ∷ numbers_of f t n ps) vs)) (ap list_in z) ∙ k) in
          record { row = w.row; tables = w.tables; there = omega (arith, w.there); at = w.at; reads = w.reads; named = w.named; are = w.are }

-- WHAT IS TOLD OF IT

module _ (f : List ℕ) (m : Movie) (e : open_of f ≡ is m) (place : ℕ) (tr : Track) (rest : List Track) (h : drop place (tracks_of m) ≡ tr ∷ rest) where
  opens : Parts f m
  opens = parts f m e

  abbrev runs : List Run
  runs = all_runs opens.fragments

  abbrev fragmented : Bool
  fragmented = is_fragmented (moofs_of f opens.fragments)

  tells : Told f (boxes_of f) (count_of f) fragmented runs (first_traks (boxes_of f) (count_of f)) place tr
  tells =
      told f (boxes_of f) (count_of f) fragmented runs (first_traks (boxes_of f) (count_of f)) opens.tables opens.tables-are place tr rest
      (sym (ap (λ (x : Movie). drop place (tracks_of x)) opens.made_of) ∙ h)

  few : place < min 4 (length (traks_of (boxes_of f) (count_of f)))
  few = omega (arith, tells.there, length-take 4 (traks_of (boxes_of f) (count_of f)))

  row_is : trak_at (boxes_of f) (count_of f) place ≡ tells.row
  row_is = sym (get_or-take 4 (traks_of (boxes_of f) (count_of f)) place 0 (omega (arith, few))) ∙ tells.at

  row-some : 0 < trak_at (boxes_of f) (count_of f) place
  row-some = rows-some (boxes_of f) kinds.trak (child (boxes_of f) (count_of f) kinds.moov 0) (min (count_of f) box_limit - 0) 0 place (omega (arith, few))

  -- the answer to any question, by the trak's bytes and the samples that are judged
  pub track-told : (q : Question) (o : List ℕ) → tell_of f place q o ≡ answer_of q (number_in tr) (part_of f (boxes_of f) (trak_at (boxes_of f) (count_of f) place - 1)) (samples_of tr) o
  unfolding tell_of tell_in by_trak
  track-told q o =
      let t : Boxes = boxes_of f in
      let n : ℕ = count_of f in
      let row : ℕ = trak_at t n place in
      ap (settle (tell_in f t n place q o (fragments_of f t n)) (λ r. output (Err r) o)) opens.fine
      ∙ ap (tell_in f t n place q o) opens.fragments-are
      ∙ sym (is_ne _ _ _ row 0 (λ z. omega (arith, row-some, z)) refl)
      ∙ ap (by_tables f t n runs fragmented row q o) (ap (tables_of f t n) row_is ∙ tells.reads)
      ∙ ap₂ (λ (k : ℕ) (l : List Sample). answer_of q k (part_of f t (row - 1)) l o) (ap (number_of f t n) row_is ∙ tells.named) (ap (λ (r : ℕ). samples_by fragmented f tells.tables runs (number_of f t n r)) row_is ∙ tells.are)

  -- so the number and the list are those of the track that is judged, and a sample is one of its samples
  pub number-told : (o : List ℕ) → tell_of f place question.Number o ≡ output (Ok (number_in tr)) o
  unfolding answer_of
  number-told o = track-told question.Number o

  pub list-told : (o : List ℕ) → tell_of f place question.List o ≡ list_of (samples_of tr) o
  unfolding answer_of
  list-told o = track-told question.List o

  pub sample-told : (n : ℕ) (o : List ℕ) → tell_of f place (question.Sample n) o ≡ one_of (samples_of tr) n o
  unfolding answer_of
  sample-told n o = track-told (question.Sample n) o
