-- What callers use: the rows of fragments give back their moofs, and the clocks are those of the audit. Assumes nothing.
use Rattle.std.proofs.Common.{◌≡◌, ℕ, ◌+◌, List, [], ◌∷◌, ◌++◌, length, take, drop, sym, refl, ap, ◌∙◌, ap₂, append_assoc, append-nil, length-append}
use lib.Seq.{take-append-add, take-append_seam, drop-append_seam}
use Rattle.runs.specs.declared.Run.{Run}
use Rattle.verdicts.specs.Findings.{Track, track}
use Rattle.verdicts.specs.Fragments.{Moof, Clock, free, clocks_of, follow, follow_from}
use Rattle.follows.specs.Follows.{as_trafs, end_before, moofs_in, track_numbers, clocks, gaps_fit, answer, followed_of}
use Rattle.moofs.specs.Moofs.{Fragment, all_runs, moofs_from}
use Rattle.follows.specs.Fragments.{moofs_of}

-- THE ROWS OF FRAGMENTS

-- the runs of the first of these, behind others
module _ (before own : List Run) where
  runs-back : (after : List Run) → drop (length before) (take (length before + length own) (before ++ (own ++ after))) ≡ own
  runs-back after =
      ap (drop (length before)) (take-append-add before (own ++ after) (length own) ∙ ap (λ (l : List Run). before ++ l) (take-append_seam own after)) ∙ drop-append_seam before own

  end_of : (xs : List Fragment) → end_before (before ++ (own ++ all_runs xs)) (moofs_from (length before + length own) xs) ≡ length before + length own
  end_of [] = ap (λ (l : List Run). length (before ++ l)) (append-nil own) ∙ length-append before own
  end_of (x ∷ xs) = refl

moofs-behind : (f : List ℕ) (xs : List Fragment) (before : List Run) → moofs_in f (before ++ all_runs xs) (moofs_from (length before) xs) ≡ moofs_of f xs
moofs-behind f [] before = refl
moofs-behind f (x ∷ xs) before =
    let all : List Run = before ++ (x.runs ++ all_runs xs) in
    ap₂ (λ (l : List Run) (ms : List Moof). record { start = x.start; number = x.number; trafs = as_trafs f l } ∷ ms)
    (ap (λ n. drop (length before) (take n all)) (end_of before x.runs xs) ∙ runs-back before x.runs (all_runs xs))
    (ap₂ (λ (l : List Run) (n : ℕ). moofs_in f l (moofs_from n xs)) (sym (append_assoc before x.runs (all_runs xs))) (sym (length-append before x.runs))
    ∙ moofs-behind f xs (before ++ x.runs))

-- the moofs of fragments, by the rows in which they are kept
pub moofs-of-rows : (f : List ℕ) (xs : List Fragment) → moofs_in f (all_runs xs) (moofs_from 0 xs) ≡ moofs_of f xs
moofs-of-rows f xs = moofs-behind f xs []

-- THE CLOCKS OF THE AUDIT

pub clocks-of-tracks : (ts : List Track) → clocks_of ts ≡ clocks (track_numbers ts)
clocks-of-tracks [] = refl
clocks-of-tracks (track n a l ∷ ts) = ap (λ (cs : List Clock). record { track = n; next = free } ∷ cs) (clocks-of-tracks ts)

-- so its questions are those that are answered here
pub follow-of-tracks : (ts : List Track) (ms : List Moof) → follow ts ms ≡ follow_from free (clocks (track_numbers ts)) ms
follow-of-tracks ts ms = ap (λ (cs : List Clock). follow_from free cs ms) (clocks-of-tracks ts)

-- what is answered of fragments that are kept as rows
pub followed-of-fragments : (f : List ℕ) (xs : List Fragment) (ts : List Track)
    → followed_of f (all_runs xs) (moofs_from 0 xs) (track_numbers ts) ≡ answer (gaps_fit (track_numbers ts) (moofs_of f xs)) (follow ts (moofs_of f xs))
unfolding followed_of
followed-of-fragments f xs ts =
    ap (λ (ms : List Moof). answer (gaps_fit (track_numbers ts) ms) (follow_from free (clocks (track_numbers ts)) ms)) (moofs-of-rows f xs)
    ∙ ap (answer (gaps_fit (track_numbers ts) (moofs_of f xs))) (sym (follow-of-tracks ts (moofs_of f xs)))
