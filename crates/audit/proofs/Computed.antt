-- The answer to a file in a form that computes. Where a definition chooses between a list with one more row and the same
-- list without it, both are computed, and so twice as much with each row; here the list is computed once. Assumes nothing.
use Prim.Native.Nat.{ℕ, zero, suc, ◌+◌, ◌-◌, min}
use mathlib.Core.Path.{◌≡◌, refl, ap, ap₂, ◌∙◌}
use mathlib.Core.List.{List, [], ◌∷◌}
use mathlib.Core.Bool.{Bool, true, false}
use lib.ListN.{take}
use Rattle.numbers.specs.Field.{when}
use Rattle.rows.specs.Judge.{settle}
use Rattle.places.specs.Visit.{box_limit}
use Rattle.places.specs.Kinds.{moov, trak}
use Rattle.kin.specs.Kin.{Boxes, track_limit}
use Rattle.inside.specs.Inside.{in_parent, rows_in, child}
use Rattle.opening.specs.Opening.{refusal_of}
use Rattle.moofs.specs.Moofs.{fragments_of, all_runs}
use Rattle.payloads.specs.Payloads.{is_media, span, from_of, to_of, payloads_in}
use Rattle.follows.specs.Fragments.{moofs_of}
use Rattle.verdicts.specs.Findings.{Span}
use Rattle.verdicts.specs.declared.Audited.{Audited}
use Rattle.movie.specs.Movie.{movie_of}
use Rattle.audit.specs.Boxes.{scanned_of, boxes_of, count_of}
use Rattle.audit.specs.File.{numbers_of, tables_in, Opened, is, is_not, with_all, movie_in, unless_refused, open_of, answer_to, audit_file}

abbrev pub keep : {A : Type 0} → Bool → A → List A → List A
keep true x l = x ∷ l
keep false x l = l

kept : {A : Type 0} (b : Bool) (x : A) (l : List A) → when b (x ∷ l) l ≡ keep b x l
unfolding when
kept true x l = refl
kept false x l = refl

-- THE ROWS OF A PARENT

unfoldable pub rows_by : Boxes → ℕ → ℕ → ℕ → ℕ → List ℕ
rows_by t kind p zero i = []
rows_by t kind p (suc k) i = keep (in_parent t kind p i) (i + 1) (rows_by t kind p k (i + 1))

rows_are : (t : Boxes) (kind p k i : ℕ) → rows_in t kind p k i ≡ rows_by t kind p k i
unfolding rows_in rows_by
rows_are t kind p zero i = refl
rows_are t kind p (suc k) i =
    kept (in_parent t kind p i) (i + 1) (rows_in t kind p k (i + 1)) ∙ ap (keep (in_parent t kind p i) (i + 1)) (rows_are t kind p k (i + 1))

-- THE PAYLOADS

unfoldable pub spans_by : List ℕ → Boxes → ℕ → ℕ → List Span
spans_by f t zero i = []
spans_by f t (suc k) i = keep (is_media t i) (span (from_of f t i) (to_of f t i)) (spans_by f t k (i + 1))

spans-are : (f : List ℕ) (t : Boxes) (k i : ℕ) → payloads_in f t k i ≡ spans_by f t k i
unfolding payloads_in spans_by
spans-are f t zero i = refl
spans-are f t (suc k) i =
    kept (is_media t i) (span (from_of f t i) (to_of f t i)) (payloads_in f t k (i + 1))
    ∙ ap (keep (is_media t i) (span (from_of f t i) (to_of f t i))) (spans-are f t k (i + 1))

-- THE MOVIE AND THE ANSWER

abbrev pub movie_by : List ℕ → Boxes → ℕ → List ℕ → List Span → Opened
movie_by f t n rows media =
    with_all (fragments_of f t n)
    (λ frs. with_all (tables_in f t n (take track_limit rows))
    (λ ts. is (movie_of f media (numbers_of f t n (take track_limit rows)) ts (all_runs frs) (moofs_of f frs))))

abbrev pub opened_by : List ℕ → Boxes → ℕ → Opened
opened_by f t n = movie_by f t n (rows_by t trak (child t n moov 0) (min n box_limit - 0) 0) (spans_by f t (min n box_limit - 0) 0)

movie-is : (f : List ℕ) (t : Boxes) (n : ℕ) → movie_in f t n ≡ opened_by f t n
unfolding movie_in
movie-is f t n = ap₂ (movie_by f t n) (rows_are t trak (child t n moov 0) (min n box_limit - 0) 0) (spans-are f t (min n box_limit - 0) 0)

abbrev pub answer_by : List ℕ → Audited
answer_by f = answer_to (settle (unless_refused (opened_by f (boxes_of f) (count_of f))) is_not (refusal_of f (boxes_of f) (scanned_of f)))

pub computed : (f : List ℕ) → audit_file f ≡ answer_by f
unfolding audit_file open_of
computed f = ap (λ (o : Opened). answer_to (settle (unless_refused o) is_not (refusal_of f (boxes_of f) (scanned_of f)))) (movie-is f (boxes_of f) (count_of f))
