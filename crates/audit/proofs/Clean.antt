-- What clean means, of a file's bytes, in both directions; and that a finding is the first. Assumes nothing.
use Rattle.std.specs.Prelude.{Result, Ok, Err}
use Prim.Native.Nat.{ℕ}
use mathlib.Core.Path.{◌≡◌, refl, sym, ap, subst, ◌∙◌}
use mathlib.Core.List.{List, [], ◌∷◌}
use mathlib.Core.Bool.{Bool, true, false}
use native.Mathlib.Omega.{arith}
use lib.ListN.{length}
use Rattle.numbers.specs.Field.{when}
use Rattle.numbers.specs.declared.Refusal.{Refusal}
use Rattle.rows.specs.Judge.{settle}
use Rattle.kin.specs.Kin.{Boxes}
use Rattle.tables.specs.declared.Track as tables
use Rattle.agree.specs.Agree.{agree_of}
use Rattle.runs.specs.declared.Run.{Run}
use Rattle.moofs.specs.Moofs.{All, all, refused, Fragment, fragments_of, all_runs}
use Rattle.payloads.specs.Payloads.{payloads_from}
use Rattle.follows.specs.Fragments.{moofs_of}
use Rattle.opening.specs.Opening.{refusal_of}
use Rattle.verdicts.specs.Findings.{Track, track}
use Rattle.verdicts.specs.Sweep.{total, bytes}
use Rattle.verdicts.specs.Fragments.{Moof}
use Rattle.verdicts.specs.Audit.{audit_of, audited, questions}
use Rattle.verdicts.specs.Meaning.{All as Each, NeighboursIn, Next, Neighbours, FollowsInTime, CleanFile, InOrder}
use Rattle.verdicts.specs.declared.Finding.{Finding}
use Rattle.verdicts.specs.declared.Verdict.{Verdict}
use Rattle.verdicts.specs.declared.Verdict.TheVariants as verdict
use Rattle.verdicts.specs.declared.Audited.{Audited}
use Rattle.verdicts.specs.declared.Audited.TheVariants.{Clean, Found, Refused}
use Rattle.verdicts.proofs.Clean.{audit-sound, audit-complete, audit-numbers, audit-bytes, audit-rises}
use Rattle.verdicts.proofs.Order.{FirstIn, audit-first}
use Rattle.movie.specs.Movie.{Movie, movie_of, is_fragmented, tracks_by, tracks_of, refusal_in, samples_by}
use Rattle.audit.specs.Boxes.{boxes_of, count_of, scanned_of}
use Rattle.audit.specs.File.{first_traks, numbers_of, tables_in, Opened, is, is_not, with_all, movie_in, unless_refused, open_of, answer_to, audit_file}
use Rattle.audit.specs.Meaning.{Witnessed}
use Rattle.audit.proofs.Recorded.{media-in-order}
use Rattle.audit.proofs.Times.{tables-next, runs-next}

-- THE MOVIE THAT IS OPENED

-- what a movie is made of
pub record Made (f : List ℕ) (m : Movie) : Type 0 where
  pub fragments : List Fragment
  pub file : m.file ≡ f
  pub payloads : m.payloads ≡ payloads_from f (boxes_of f) (count_of f) 0
  pub runs : m.runs ≡ all_runs fragments
  pub moofs : m.moofs ≡ moofs_of f fragments

module _ (f : List ℕ) where
  abbrev movie_or : Movie → Opened → Movie
  movie_or d (is m) = m
  movie_or d (is_not q) = d

  made_in : (m : Movie) → movie_in f (boxes_of f) (count_of f) ≡ is m → Made f m
  unfolding movie_in
  made_in m e = cases (fragments_of f (boxes_of f) (count_of f)) (tables_in f (boxes_of f) (count_of f) (first_traks (boxes_of f) (count_of f))) e
    where
      never : (q : Refusal) → is_not q ≡ is m → ⊥
      never q z = let y : ◌≡◌ {A = ℕ} 0 1 = cc z in omega arith

      cases : (a : All Fragment) (b : All tables.Track)
          → with_all a (λ frs. with_all b (λ ts. is (movie_of f (payloads_from f (boxes_of f) (count_of f) 0) (numbers_of f (boxes_of f) (count_of f) (first_traks (boxes_of f) (count_of f))) ts (all_runs frs) (moofs_of f frs)))) ≡ is m
          → Made f m
      cases (all frs) (all ts) z =
          let w = sym (ap (movie_or m) z) in
          record { fragments = frs; file = ap (λ (x : Movie). x.file) w; payloads = ap (λ (x : Movie). x.payloads) w; runs = ap (λ (x : Movie). x.runs) w; moofs = ap (λ (x : Movie). x.moofs) w }
      cases (all frs) (refused q) z = absurd (never q z)
      cases (refused q) b z = absurd (never q z)

  pub made : (m : Movie) → open_of f ≡ is m → Made f m
  unfolding open_of
  made m e = cases (refusal_of f (boxes_of f) (scanned_of f)) (movie_in f (boxes_of f) (count_of f)) refl e
    where
      never : (q : Refusal) → is_not q ≡ is m → ⊥
      never q z = let y : ◌≡◌ {A = ℕ} 0 1 = cc z in omega arith

      fine : (x : Movie) (j : Result (Unit {0}) Refusal) → settle (is x) is_not j ≡ is m → x ≡ m
      fine x (Ok tt) z = ap (movie_or m) z
      fine x (Err q) z = absurd (never q z)

      cases : (j : Result (Unit {0}) Refusal) (o : Opened) → movie_in f (boxes_of f) (count_of f) ≡ o → settle (unless_refused o) is_not j ≡ is m → Made f m
      cases (Ok tt) (is x) g z = made_in m (g ∙ ap is (fine x (refusal_in x) z))
      cases (Ok tt) (is_not q) g z = absurd (never q z)
      cases (Err q) o g z = absurd (never q z)

  module _ (m : Movie) (e : open_of f ≡ is m) where
    in_order : InOrder m.payloads
    in_order = subst InOrder (sym (made m e).payloads) (media-in-order f)

    answered : audit_file f ≡ audited (audit_of (tracks_of m) m.payloads m.moofs)
    unfolding audit_file
    answered = ap answer_to e

    -- clean means this ..
    module _ (h : CleanFile (tracks_of m) m.payloads m.moofs) where
      pub clean-file : audit_file f ≡ Clean (length (tracks_of m)) (total (tracks_of m)) (bytes m.payloads)
      clean-file = answered ∙ ap audited (audit-complete (tracks_of m) m.payloads m.moofs in_order h)

-- a verdict by its answer
verdict-clean : (v : Verdict) (a b c : ℕ) → audited v ≡ Clean a b c → v ≡ verdict.Clean a b c
verdict-clean (verdict.Clean x y z) a b c e = ap back e
  where
    back : Audited → Verdict
    back (Clean i j k) = verdict.Clean i j k
    back (Found w) = verdict.Found w
    back (Refused q) = verdict.Clean 0 0 0
verdict-clean (verdict.Found x) a b c e = let y : ◌≡◌ {A = ℕ} 0 1 = cc e in absurd (omega arith)

verdict-found : (v : Verdict) (w : Finding) → audited v ≡ Found w → v ≡ verdict.Found w
verdict-found (verdict.Clean x y z) w e = let y : ◌≡◌ {A = ℕ} 0 1 = cc e in absurd (omega arith)
verdict-found (verdict.Found x) w e = ap back e
  where
    back : Audited → Verdict
    back (Clean i j k) = verdict.Clean i j k
    back (Found w) = verdict.Found w
    back (Refused q) = verdict.Clean 0 0 0

-- DECODE TIMES

module _ (f : List ℕ) (fs : List Fragment) where
  tracks-next : (b : Bool) (ns : List ℕ) (ts : List tables.Track) → (b ≡ true → Each (FollowsInTime (moofs_of f fs)) (tracks_by b f (all_runs fs) ns ts)) → NeighboursIn Next (tracks_by b f (all_runs fs) ns ts)
  unfolding when
  tracks-next b [] ts h = tt
  tracks-next b (n ∷ ns) [] h = tt
  tracks-next true (n ∷ ns) (t ∷ ts) h = (runs-next f n fs (h refl).0, tracks-next true ns ts (λ e. (h refl).1))
  tracks-next false (n ∷ ns) (t ∷ ts) h = (tables-next f t, tracks-next false ns ts (λ e. absurd (never e)))
    where
      never : false ≡ true → ⊥
      never z = let y : ◌≡◌ {A = ℕ} 0 1 = cc z in omega arith

-- a file's tracks, of these bytes, runs and moofs
abbrev Timed : List ℕ → List tables.Track → List ℕ → List Run → List Moof → Type 0
Timed ns ts f rs ms = Each (FollowsInTime ms) (tracks_by (is_fragmented ms) f rs ns ts) → NeighboursIn Next (tracks_by (is_fragmented ms) f rs ns ts)

module _ (f : List ℕ) (m : Movie) (w : Made f m) where
  timed : Timed m.numbers m.tables f (all_runs w.fragments) (moofs_of f w.fragments)
  timed h = tracks-next f w.fragments (is_fragmented (moofs_of f w.fragments)) m.numbers m.tables (λ e. h)

  times-next : Timed m.numbers m.tables m.file m.runs m.moofs
  times-next =
      subst (λ (x : List ℕ). Timed m.numbers m.tables x m.runs m.moofs) (sym w.file)
      (subst (λ (x : List Run). Timed m.numbers m.tables f x m.moofs) (sym w.runs)
      (subst (λ (x : List Moof). Timed m.numbers m.tables f (all_runs w.fragments) x) (sym w.moofs) timed))

-- ALL OF IT

module _ (f : List ℕ) where
  -- the file opens as this movie, of which the verdict is so much
  pub record Opens (P : Movie → Type 0) : Type 0 where
    pub movie : Movie
    pub opens : open_of f ≡ is movie
    pub holds : P movie

  -- .. and says so much: of how many tracks, samples and bytes
  pub file-clean : (a b c : ℕ) → audit_file f ≡ Clean a b c
      → Opens (λ m. Witnessed m × (Clean a b c ≡ Clean (length (tracks_of m)) (total (tracks_of m)) (bytes m.payloads)))
  unfolding audit_file
  file-clean a b c e = cases (open_of f) refl e
    where
      never : (q : Refusal) → Refused q ≡ Clean a b c → ⊥
      never q z = let y : ◌≡◌ {A = ℕ} 0 1 = cc z in omega arith

      cases : (o : Opened) → open_of f ≡ o → answer_to o ≡ Clean a b c → Opens (λ m. Witnessed m × (Clean a b c ≡ Clean (length (tracks_of m)) (total (tracks_of m)) (bytes m.payloads)))
      cases (is_not q) g z = absurd (never q z)
      cases (is m) g z =
          let v = verdict-clean (audit_of (tracks_of m) m.payloads m.moofs) a b c z in
          let o = in_order f m g in
          let h = audit-sound (tracks_of m) m.payloads m.moofs a b c o v in
          record {
            movie = m;
            opens = g;
            holds = (
              record {
                clean = h;
                rising = audit-rises (tracks_of m) m.payloads m.moofs a b c o (times-next f m (made f m g) h.times) v;
                sizes = audit-bytes (tracks_of m) m.payloads m.moofs a b c o v;
              },
              ap audited (audit-numbers (tracks_of m) m.payloads m.moofs a b c v),
            );
          }

  -- a finding is the first of all questions in 01's order that finds
  pub file-first : (x : Finding) → audit_file f ≡ Found x → Opens (λ m. FirstIn (questions (tracks_of m) m.payloads m.moofs) x)
  unfolding audit_file
  file-first x e = cases (open_of f) refl e
    where
      never : (q : Refusal) → Refused q ≡ Found x → ⊥
      never q z = let y : ◌≡◌ {A = ℕ} 0 1 = cc z in omega arith

      cases : (o : Opened) → open_of f ≡ o → answer_to o ≡ Found x → Opens (λ m. FirstIn (questions (tracks_of m) m.payloads m.moofs) x)
      cases (is_not q) g z = absurd (never q z)
      cases (is m) g z =
          record { movie = m; opens = g; holds = audit-first (tracks_of m) m.payloads m.moofs x (verdict-found (audit_of (tracks_of m) m.payloads m.moofs) x z) }
