-- The answer to a file from the answers of its parts. Assumes nothing.
use Rattle.std.specs.Prelude.{Result, Ok, Err}
use Prim.Native.Nat.{ℕ}
use mathlib.Core.Path.{◌≡◌, refl, sym, ap, ap₂, ◌∙◌}
use mathlib.Core.List.{List, []}
use native.Mathlib.Omega.{arith}
use lib.ListN.{length, replicate, length-replicate}
use Rattle.numbers.specs.declared.Refusal.{Refusal}
use Rattle.rows.specs.Judge.{settle}
use Rattle.kin.specs.Kin.{Boxes, boxes}
use Rattle.tables.specs.declared.Track as tables
use Rattle.tree.specs.Tables.{out, tables as columns, scan_of}
use Rattle.tree.specs.declared.Scanned.{Scanned}
use Rattle.opening.specs.Opening.{recorded as rows, refusal_of}
use Rattle.runtable.specs.Table as runtable
use Rattle.mooftable.specs.Table as mooftable
use Rattle.moofs.specs.Moofs.{All, all, refused, Fragment, fragments_of, all_runs, Output, output, fill_of}
use Rattle.moofs.proofs.Laws.{has_room, Rows, filled}
use Rattle.follows.specs.Follows.{moofs_in}
use Rattle.follows.specs.Fragments.{moofs_of}
use Rattle.follows.proofs.Laws.{moofs-of-rows}
use Rattle.payloads.specs.Payloads.{payloads_from}
use Rattle.verdicts.specs.Audit.{audit_of, audited}
use Rattle.verdicts.specs.declared.Audited.{Audited}
use Rattle.verdicts.specs.declared.Audited.TheVariants.{Refused}
use Rattle.movie.specs.Movie.{movie_of, tracks_of, refusal_in, judge_of}
use Rattle.audit.specs.Boxes.{empty, answer_in, boxes_in, scanned_of, boxes_of, count_of}
use Rattle.audit.specs.File.{first_traks, numbers_of, tables_in, Opened, is, is_not, with_all, movie_in, unless_refused, open_of, answer_to, audit_file}
use Rattle.audit.proofs.Recorded.{full}
use Rattle.audit.specs.Inside.{judged_all, judged_with, judged_by}
use Rattle.moofs.specs.declared.Filled.{Filled}

-- FRAGMENTS

module _ (f : List ℕ) (t : Boxes) (n : ℕ) where
  -- tables of 4,096 rows have room: only the fragments themselves are refused
  only-refused : (q : Refusal) (x y : List ℕ) → output (Err q) x y ≡ fill_of (fragments_of f t n) (replicate 49152 0) (replicate 12288 0) → fragments_of f t n ≡ refused q
  only-refused q x y e = cases (fragments_of f t n) refl e
    where
      whose : Output → Refusal
      whose (output (Err p) a b) = p
      whose (output (Ok g) a b) = q

      cases : (a : All Fragment) → fragments_of f t n ≡ a → output (Err q) x y ≡ fill_of a (replicate 49152 0) (replicate 12288 0) → fragments_of f t n ≡ refused q
      cases (refused p) g w = g ∙ ap refused (sym (ap whose w))
      cases (all fs) g w =
          let z = has_room f t n (replicate 49152 0) (replicate 12288 0) fs g (omega (arith, full 49152 0)) (omega (arith, full 12288 0)) in
          let v = w ∙ ap (λ (a : All Fragment). fill_of a (replicate 49152 0) (replicate 12288 0)) (sym g) ∙ sym z in
          let u : ◌≡◌ {A = ℕ} 0 1 = cc v in
          absurd (omega arith)

  pub fragments-refused : (r : Result Filled Refusal) (x y : List ℕ) → output r x y ≡ fill_of (fragments_of f t n) (replicate 49152 0) (replicate 12288 0) → (q : Refusal) → r ≡ Err q → fragments_of f t n ≡ refused q
  fragments-refused r x y e q z = only-refused q x y (ap (λ (s : Result Filled Refusal). output s x y) (sym z) ∙ e)

  pub opened-refused : (q : Refusal) → fragments_of f t n ≡ refused q → Refused q ≡ judged_all (movie_in f t n)
  unfolding movie_in
  opened-refused q e =
      sym (ap (λ (a : All Fragment). judged_all (with_all a (λ frs. with_all (tables_in f t n (first_traks t n)) (λ ts. is (movie_of f (payloads_from f t n 0) (numbers_of f t n (first_traks t n)) ts (all_runs frs) (moofs_of f frs)))))) e)

  opened-all : (fs : List Fragment) → fragments_of f t n ≡ all fs → judged_by f t n (all_runs fs) (moofs_of f fs) ≡ judged_all (movie_in f t n)
  unfolding movie_in
  opened-all fs e =
      cases (tables_in f t n (first_traks t n))
      ∙ sym (ap (λ (a : All Fragment). judged_all (with_all a (λ frs. with_all (tables_in f t n (first_traks t n)) (λ ts. is (movie_of f (payloads_from f t n 0) (numbers_of f t n (first_traks t n)) ts (all_runs frs) (moofs_of f frs)))))) e)
    where
      cases : (a : All tables.Track) → judged_with f t n (all_runs fs) (moofs_of f fs) [] [] (numbers_of f t n (first_traks t n)) a
          ≡ judged_all (with_all a (λ ts. is (movie_of f (payloads_from f t n 0) (numbers_of f t n (first_traks t n)) ts (all_runs fs) (moofs_of f fs))))
      cases (all ts) = refl
      cases (refused q) = refl

  -- the tables that were filled, and the answer by them
  pub opened : (s : Result Filled Refusal) (x y : List ℕ) → output s x y ≡ fill_of (fragments_of f t n) (replicate 49152 0) (replicate 12288 0) → (g : Filled) → s ≡ Ok g
      → (r : Audited) → r ≡ judged_by f t n (runtable.rows_of x g.runs) (moofs_in f (runtable.rows_of x g.runs) (mooftable.rows_of y g.moofs)) → r ≡ judged_all (movie_in f t n)
  opened s x y e' g z r er =
      let e = ap (λ (s : Result Filled Refusal). output s x y) (sym z) ∙ e' in
      let w : Rows (fragments_of f t n) g.runs g.moofs x y = filled f t n (replicate 49152 0) (replicate 12288 0) g x y e in
      er
      ∙ ap₂ (λ a b. judged_by f t n a (moofs_in f a b)) w.run-rows w.moof-rows
      ∙ ap (judged_by f t n (all_runs w.fragments)) (moofs-of-rows f w.fragments)
      ∙ opened-all w.fragments w.is

-- THE FILE

-- a movie is judged as it is opened and audited
judged-is : (o : Opened) → judged_all o ≡ answer_to (unless_refused o)
unfolding judge_of
judged-is (is m) = cases (refusal_in m)
  where
    cases : (j : Result (Unit {0}) Refusal) → settle (audited (audit_of (tracks_of m) m.payloads m.moofs)) Refused j ≡ answer_to (settle (is m) is_not j)
    cases (Ok tt) = refl
    cases (Err q) = refl
judged-is (is_not q) = refl

module _ (f a b k p d l : List ℕ) (s : Scanned) (e : out s (columns a b k p d l) ≡ scan_of f empty) where
  pub scanned : s ≡ scanned_of f
  unfolding scanned_of
  scanned = ap answer_in e

  pub recorded : boxes a b k p l ≡ boxes_of f
  unfolding boxes_of
  recorded = ap boxes_in e

  module _ (j : Result (Unit {0}) Refusal) (ej : j ≡ refusal_of f (boxes a b k p l) s) where
    pub judgement : j ≡ refusal_of f (boxes_of f) (scanned_of f)
    judgement = ej ∙ ap₂ (refusal_of f) recorded scanned

    pub answers-refused : (q : Refusal) → j ≡ Err q → Refused q ≡ audit_file f
    unfolding audit_file open_of
    answers-refused q z = sym (ap (λ (x : Result (Unit {0}) Refusal). answer_to (settle (unless_refused (movie_in f (boxes_of f) (count_of f))) is_not x)) (sym judgement ∙ z))

    pub answers : j ≡ (Ok tt) → (n : ℕ) → n ≡ rows s → (r : Audited) → r ≡ judged_all (movie_in f (boxes a b k p l) n) → r ≡ audit_file f
    unfolding audit_file open_of
    answers z n en r er =
        er ∙ ap₂ (λ (x : Boxes) (y : ℕ). judged_all (movie_in f x y)) recorded (en ∙ ap rows scanned) ∙ judged-is (movie_in f (boxes_of f) (count_of f))
        ∙ sym (ap (λ (x : Result (Unit {0}) Refusal). answer_to (settle (unless_refused (movie_in f (boxes_of f) (count_of f))) is_not x)) (sym judgement ∙ z))
