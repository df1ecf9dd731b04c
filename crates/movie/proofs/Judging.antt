-- The audit of a movie from the answers of its parts. Assumes nothing.
use Rattle.std.specs.Prelude.{Result, Option, Ok, Err, Some, None}
use Prim.Native.Nat.{ℕ, zero, suc, ◌+◌, ◌≤◌, ◌^◌, min}
use mathlib.Core.Path.{◌≡◌, refl, sym, ap, ap₂, ◌∙◌}
use mathlib.Core.List.{List, [], ◌∷◌, map}
use mathlib.Core.Bool.{Bool, true, false, ◌&&◌}
use native.Mathlib.Omega.{arith}
use lib.ListN.{length, take, drop, get_or}
use lib.Seq.{drop-cons, take_all}
use lib.Dec.{ltb, leb}
use borrow.Author.Tests.{leb-true, leb-false}
use Rattle.numbers.specs.Field.{when}
use Rattle.numbers.specs.declared.Refusal.TheVariants as refusal
use Rattle.rows.specs.Judge.{settle}
use Rattle.samples.specs.Lists.{all_held}
use Rattle.samples.specs.declared.Sample.{Sample}
use Rattle.tables.specs.declared.Track as tables
use Rattle.tables.specs.Samples.{samples_of}
use Rattle.tables.specs.Tables.{list_from, pairs, size_at}
use Rattle.tables.proofs.Lists.{length-list}
use Rattle.tables.proofs.Lengths.{length-values}
use Rattle.agree.specs.Agree.{agree_of}
use Rattle.agree.proofs.Theorems as agreement-is
use Rattle.fragments.specs.Samples.{samples_of_runs}
use Rattle.runs.specs.declared.Run.{Run}
use Rattle.mooftable.specs.declared.Moof as row
use Rattle.verdicts.specs.Findings.{Track, track, Span, Answer, passes, found, F1, first_found, asked}
use Rattle.verdicts.specs.Sweep.{total, bytes, sweep}
use Rattle.verdicts.specs.Fragments.{Moof, Clock, free, clocks_of, follow, follow_from}
use Rattle.verdicts.specs.Audit.{agreements, passed, verdict, audit_of, audited}
use Rattle.verdicts.specs.declared.Audited.{Audited}
use Rattle.verdicts.specs.declared.Audited.TheVariants as answer
use Rattle.verdicts.proofs.Order.{or_else, audit-parts}
use Rattle.passes.specs.Passed.{tell}
use Rattle.passes.specs.declared.Passed.{Passed}
use Rattle.passes.specs.declared.Passed.TheVariants as pass
use Rattle.follows.specs.Follows as follows
use Rattle.follows.specs.declared.Followed.{Followed}
use Rattle.follows.specs.declared.Followed.TheVariants as follow-is
use Rattle.sweeps.specs.Tracks.{placed_by, fitting, tracks_in}
use Rattle.sweeps.proofs.Laws.{fitting-all}
use Rattle.sweeps.proofs.Bare.{bare_of, sites-are, sweep-alike}
use Rattle.lanes.specs.Site.{bare}
use Rattle.movie.specs.Movie.{Movie, movie_of, is_fragmented, samples_by, tracks_by, tracks_of, samples_fit, sums_fit, has_samples, refusal_in, judge_of}
use Rattle.movie.specs.Inside.{agreement, agreed, pass_all, is_over, first_of, samples_in, breaks, last_of, or_asked, told_of, is_some, media_of}
use Rattle.movie.proofs.Booleans.{both, not-true, not-false}
use Rattle.verdicts.specs.declared.Finding.{Finding}

-- TRACKS, by what the sweep and the questions have of them

module _ (b : Bool) (f : List ℕ) (rs : List Run) where
  agreed-is : (ns : List ℕ) (ts : List tables.Track) → agreements (tracks_by b f rs ns ts) ≡ agreed f ns ts
  unfolding agreement
  agreed-is [] ts = refl
  agreed-is (n ∷ ns) [] = refl
  agreed-is (n ∷ ns) (t ∷ ts) = ap (λ (l : List Answer). when (agree_of f t) passes (found (F1 n)) ∷ l) (agreed-is ns ts)

  first-agrees : (n : ℕ) (t : tables.Track) (l : List Answer) → first_found (agreement f n t ∷ l) ≡ passes → (agree_of f t ≡ true) × (first_found l ≡ passes)
  unfolding agreement when
  first-agrees n t l e = cases (agree_of f t) e
    where
      cases : (x : Bool) → first_found (when x passes (found (F1 n)) ∷ l) ≡ passes → (x ≡ true) × (first_found l ≡ passes)
      cases true e = (refl, e)
      cases false e = let z : ◌≡◌ {A = ℕ} 0 1 = cc e in absurd (omega arith)

  -- where the tables agree and every sample fits, the sweep has the places of the tracks' samples
  same-places : (c : Bool) (n : ℕ) (t : tables.Track) → agree_of f t ≡ true → all_held (samples_of f t) && all_held (samples_by c f t rs n) ≡ true
      → map bare (fitting (placed_by c f t rs n)) ≡ map bare (samples_by c f t rs n)
  unfolding when
  same-places true n t u h = ap (map bare) (fitting-all (samples_of_runs f rs n) (both (all_held (samples_of f t)) (all_held (samples_of_runs f rs n)) h).1)
  same-places false n t u h = sites-are f t (omega (arith, (agreement-is.agreeing f t u).timed, length-values (pairs f t.stts), length-list (size_at f t.stsz) t.stsz.count 0)) (both (all_held (samples_of f t)) (all_held (samples_of f t)) h).0

  same-tracks : (ns : List ℕ) (ts : List tables.Track) → first_found (agreed f ns ts) ≡ passes → samples_fit b f rs ns ts ≡ true
      → map bare_of (tracks_in b f rs ns ts) ≡ map bare_of (tracks_by b f rs ns ts)
  same-tracks [] ts e h = refl
  same-tracks (n ∷ ns) [] e h = refl
  same-tracks (n ∷ ns) (t ∷ ts) e h =
      let (u, v) = first-agrees n t (agreed f ns ts) e in
      let (x, y) = both (all_held (samples_of f t) && all_held (samples_by b f t rs n)) (samples_fit b f rs ns ts) h in
      ap₂ (λ (c : Bool) (l : List Sample). track n c l ∷ map bare_of (tracks_in b f rs ns ts)) (sym u) (same-places b n t u x)
      ∙ ap (λ (l : List Track). track n (agree_of f t) (map bare (samples_by b f t rs n)) ∷ l) (same-tracks ns ts v y)

  same-clocks : (ns : List ℕ) (ts : List tables.Track) → length ns ≡ length ts → clocks_of (tracks_by b f rs ns ts) ≡ follows.clocks ns
  same-clocks [] ts e = refl
  same-clocks (n ∷ ns) [] e = absurd (omega arith)
  same-clocks (n ∷ ns) (t ∷ ts) e = ap (λ (l : List Clock). record { track = n; next = free } ∷ l) (same-clocks ns ts (omega arith))

  how-many : (ns : List ℕ) (ts : List tables.Track) → length ns ≡ length ts → length (tracks_by b f rs ns ts) ≡ length ns
  how-many [] ts e = refl
  how-many (n ∷ ns) [] e = absurd (omega arith)
  how-many (n ∷ ns) (t ∷ ts) e = omega (arith, how-many ns ts (omega arith))

-- ANSWERS

or-asked : (a b : Answer) → or_asked (asked a) (asked b) ≡ asked (or_else a b)
or-asked passes b = refl
or-asked (found x) b = refl

or-nested : (a b c d : Answer) → or_else (or_else a b) (or_else c d) ≡ or_else a (or_else b (or_else c d))
or-nested passes b c d = refl
or-nested (found x) b c d = refl

told-verdict : (ts : List Track) (m : List Span) (a : Answer) → told_of (asked a) (length ts) (total ts) (bytes m) ≡ audited (verdict ts m a)
told-verdict ts m passes = refl
told-verdict ts m (found x) = refl

-- only where all passes are the numbers told
any-numbers : (a : Option Finding) (i j k l m n : ℕ) → (a ≡ None → (i ≡ l) × (j ≡ m) × (k ≡ n)) → told_of a i j k ≡ told_of a l m n
any-numbers None i j k l m n h =
    let (p, q, r) = h refl in
    ap (λ (x : ℕ). answer.Clean x j k) p ∙ ap₂ (λ (x y : ℕ). answer.Clean l x y) q r
any-numbers (Some x) i j k l m n h = refl

passes-first : (a b : Option Finding) → or_asked a b ≡ None → (a ≡ None) × (b ≡ None)
passes-first None b e = (refl, e)
passes-first (Some x) b e = let z : ◌≡◌ {A = ℕ} 0 1 = cc e in absurd (omega arith)

-- THE PASS

module _ (b : Bool) (f : List ℕ) (rs : List Run) (ns : List ℕ) (ts : List tables.Track) (p : Passed) (e : p ≡ pass_all b f rs ns ts) where
  by-pass : (x : Bool) (k : ℕ) (a : Answer) → p ≡ when x (tell k a) pass.Over
      → (is_over p ≡ true → x ≡ false) × (is_over p ≡ false → (x ≡ true) × (first_of p ≡ asked a) × (first_of p ≡ None → samples_in p ≡ k))
  unfolding when
  by-pass true k passes q = rw q (λ z. absurd (not-true z), λ z. (refl, refl, λ y. refl))
  by-pass true k (found w) q = rw q (λ z. absurd (not-true z), λ z. (refl, refl, λ y. absurd (worse y)))
    where
      worse : Some w ≡ None → ⊥
      worse z = let y : ◌≡◌ {A = ℕ} 0 1 = cc z in omega arith
  by-pass false k a q = rw q (λ z. refl, λ z. absurd (not-false z))

  pub pass-told : (is_over p ≡ true → samples_fit b f rs ns ts ≡ false)
      × (is_over p ≡ false → (samples_fit b f rs ns ts ≡ true) × (first_of p ≡ asked (first_found (passed (tracks_by b f rs ns ts)))) × (first_of p ≡ None → samples_in p ≡ total (tracks_by b f rs ns ts)))
  unfolding pass_all
  pass-told = by-pass (samples_fit b f rs ns ts) (total (tracks_by b f rs ns ts)) (first_found (passed (tracks_by b f rs ns ts))) e

-- FRAGMENTS

module _ (ns : List ℕ) where
  from_row : (n i : ℕ) → i + n ≤ length ns → list_from (λ k. get_or ns k 0) n i ≡ take n (drop i ns)
  from_row zero i h = refl
  from_row (suc n) i h =
      ap (λ (l : List ℕ). get_or ns i 0 ∷ l) (from_row n (suc i) (omega arith))
      ∙ sym (ap (take (suc n)) (drop-cons ns i 0 (omega arith)))

  pub first-numbers : (count : ℕ) → length ns ≡ 4 → follows.numbers_in ns (min count 4) ≡ take count ns
  first-numbers count h = from_row (min count 4) 0 (omega (arith, h)) ∙ cases (leb count 4) refl
    where
      cases : (x : Bool) → leb count 4 ≡ x → take (min count 4) ns ≡ take count ns
      cases true e = ap (λ (k : ℕ). take k ns) (let z : min count 4 ≡ count = omega (arith, leb-true count 4 e) in z)
      cases false e = take_all (min count 4) ns (omega (arith, h, leb-false count 4 e)) ∙ sym (take_all count ns (omega (arith, h, leb-false count 4 e)))

module _ (p : Followed) where
  by-follow : (x : Bool) (a : Answer) → p ≡ when x (follows.tell a) follow-is.Over → (breaks p ≡ true → x ≡ false) × (breaks p ≡ false → (x ≡ true) × (last_of p ≡ asked a))
  unfolding when
  by-follow true passes q = rw q (λ z. absurd (not-true z), λ z. (refl, refl))
  by-follow true (found w) q = rw q (λ z. absurd (not-true z), λ z. (refl, refl))
  by-follow false a q = rw q (λ z. refl, λ z. absurd (not-false z))

  pub follow-told : (f : List ℕ) (rs : List Run) (ms : List row.Moof) (ns : List ℕ) → p ≡ follows.followed_of f rs ms ns
      → (breaks p ≡ true → follows.gaps_fit ns (follows.moofs_in f rs ms) ≡ false)
      × (breaks p ≡ false → (follows.gaps_fit ns (follows.moofs_in f rs ms) ≡ true) × (last_of p ≡ asked (first_found (follow_from free (follows.clocks ns) (follows.moofs_in f rs ms)))))
  unfolding follows.followed_of follows.answer
  follow-told f rs ms ns e = by-follow (follows.gaps_fit ns (follows.moofs_in f rs ms)) (first_found (follow_from free (follows.clocks ns) (follows.moofs_in f rs ms))) e

pub fragmented-is : (f : List ℕ) (rs : List Run) (ms : List row.Moof) → is_some ms ≡ is_fragmented (follows.moofs_in f rs ms)
fragmented-is f rs [] = refl
fragmented-is f rs (m ∷ ms) = refl

-- THE MEDIA DATA

pub media-fits : (s : Option ℕ) (n : ℕ) → s ≡ media_of n → ((k : ℕ) → s ≡ Some k → (k ≡ n) × (ltb n (2 ^ 64) ≡ true)) × (s ≡ None → ltb n (2 ^ 64) ≡ false)
unfolding media_of when
media-fits s n e = cases (ltb n (2 ^ 64)) e
  where
    number_in : Option ℕ → ℕ
    number_in (Some k) = k
    number_in None = 0

    some : Some n ≡ None → ⊥
    some z = let y : ◌≡◌ {A = ℕ} 0 1 = cc z in omega arith

    cases : (x : Bool) → s ≡ when x (Some n) None → ((k : ℕ) → s ≡ Some k → (k ≡ n) × (x ≡ true)) × (s ≡ None → x ≡ false)
    cases true e = (λ k q. (ap number_in (sym q ∙ e), refl), λ q. absurd (some (sym e ∙ q)))
    cases false e = (λ k q. absurd (none k (sym q ∙ e)), λ q. refl)
      where
        none : (k : ℕ) → Some k ≡ None → ⊥
        none k z = let y : ◌≡◌ {A = ℕ} 0 1 = cc z in omega arith

-- ALL TOGETHER

module _ (m : Movie) where
  pub judged-9 : sums_fit m ≡ false → answer.Refused refusal.Overflow ≡ judge_of m
  unfolding judge_of refusal_in when
  judged-9 e = sym (ap (λ (x : Bool). settle (audited (audit_of (tracks_of m) m.payloads m.moofs)) answer.Refused (when x (when (is_fragmented m.moofs && has_samples m.tables) (Err refusal.Mixed) (Ok tt)) (Err refusal.Overflow))) e)

  module _ (e : sums_fit m ≡ true) where
    by-mixed : (x : Bool) → is_fragmented m.moofs && has_samples m.tables ≡ x
        → judge_of m ≡ settle (audited (audit_of (tracks_of m) m.payloads m.moofs)) answer.Refused (when x (Err refusal.Mixed) (Ok tt))
    unfolding judge_of refusal_in when
    by-mixed x q =
        ap₂ (λ (y z : Bool). settle (audited (audit_of (tracks_of m) m.payloads m.moofs)) answer.Refused (when y (when z (Err refusal.Mixed) (Ok tt)) (Err refusal.Overflow))) e q

    pub judged-10 : is_fragmented m.moofs && has_samples m.tables ≡ true → answer.Refused refusal.Mixed ≡ judge_of m
    unfolding when
    judged-10 q = sym (by-mixed true q)

    pub judged : is_fragmented m.moofs && has_samples m.tables ≡ false → audited (audit_of (tracks_of m) m.payloads m.moofs) ≡ judge_of m
    unfolding when
    judged q = sym (by-mixed false q)

    -- the questions one after the other, each by what the code asked
    module _ (b : Bool) (fb : b ≡ is_fragmented m.moofs) (same : length m.numbers ≡ length m.tables) (fit : samples_fit b m.file m.runs m.numbers m.tables ≡ true)
        (A P S F : Option Finding) (ea : A ≡ asked (first_found (agreed m.file m.numbers m.tables)))
        (ep : P ≡ asked (first_found (passed (tracks_by b m.file m.runs m.numbers m.tables))))
        (es : S ≡ asked (sweep m.payloads (tracks_in b m.file m.runs m.numbers m.tables)))
        (ef : F ≡ asked (first_found (follow_from free (follows.clocks m.numbers) m.moofs)))
      where
        abbrev ts : List Track
        ts = tracks_by b m.file m.runs m.numbers m.tables

        abbrev agreeing : Answer
        agreeing = first_found (agreements ts)

        agreeing-is : first_found (agreed m.file m.numbers m.tables) ≡ agreeing
        agreeing-is = sym (ap first_found (agreed-is b m.file m.runs m.numbers m.tables))

        following-is : first_found (follow_from free (follows.clocks m.numbers) m.moofs) ≡ first_found (follow ts m.moofs)
        following-is = ap (λ (c : List Clock). first_found (follow_from free c m.moofs)) (sym (same-clocks b m.file m.runs m.numbers m.tables same))

        -- the sweep counts only where all tables agree
        only_then : (a : Answer) → agreeing ≡ a → (l : Answer) → or_else a (or_else l (or_else (sweep m.payloads (tracks_in b m.file m.runs m.numbers m.tables)) (first_found (follow ts m.moofs))))
            ≡ or_else a (or_else l (or_else (sweep m.payloads ts) (first_found (follow ts m.moofs))))
        only_then passes q l =
            ap (λ (x : Answer). or_else l (or_else x (first_found (follow ts m.moofs))))
            (sweep-alike m.payloads (tracks_in b m.file m.runs m.numbers m.tables) ts (same-tracks b m.file m.runs m.numbers m.tables (agreeing-is ∙ q) fit))
        only_then (found x) q l = refl

        all_asked : or_asked (or_asked A P) (or_asked S F) ≡ asked (or_else agreeing (or_else (first_found (passed ts)) (or_else (sweep m.payloads ts) (first_found (follow ts m.moofs)))))
        all_asked =
            ap₂ (λ (x y : Option Finding). or_asked (or_asked x P) (or_asked S y)) (ea ∙ ap asked agreeing-is) (ef ∙ ap asked following-is)
            ∙ ap₂ (λ (x y : Option Finding). or_asked (or_asked (asked agreeing) x) (or_asked y (asked (first_found (follow ts m.moofs))))) ep es
            ∙ ap₂ or_asked (or-asked agreeing (first_found (passed ts))) (or-asked (sweep m.payloads (tracks_in b m.file m.runs m.numbers m.tables)) (first_found (follow ts m.moofs)))
            ∙ or-asked (or_else agreeing (first_found (passed ts))) (or_else (sweep m.payloads (tracks_in b m.file m.runs m.numbers m.tables)) (first_found (follow ts m.moofs)))
            ∙ ap asked (or-nested agreeing (first_found (passed ts)) (sweep m.payloads (tracks_in b m.file m.runs m.numbers m.tables)) (first_found (follow ts m.moofs)) ∙ only_then agreeing refl (first_found (passed ts)))

        pub all-judged : is_fragmented m.moofs && has_samples m.tables ≡ false → (k s c : ℕ) → k ≡ length m.numbers → (P ≡ None → s ≡ total ts) → c ≡ bytes m.payloads
            → (r : Audited) → r ≡ told_of (or_asked (or_asked A P) (or_asked S F)) k s c → r ≡ judge_of m
        all-judged q k s c ek et ec r er =
            er
            ∙ any-numbers (or_asked (or_asked A P) (or_asked S F)) k s c (length ts) (total ts) (bytes m.payloads)
            (λ z. (ek ∙ sym (how-many b m.file m.runs m.numbers m.tables same), et (passes-first A P (passes-first (or_asked A P) (or_asked S F) z).0).1, ec))
            ∙ ap (λ (x : Option Finding). told_of x (length ts) (total ts) (bytes m.payloads)) all_asked
            ∙ told-verdict ts m.payloads (or_else agreeing (or_else (first_found (passed ts)) (or_else (sweep m.payloads ts) (first_found (follow ts m.moofs)))))
            ∙ ap audited (sym (audit-parts ts m.payloads m.moofs))
            ∙ ap (λ (x : Bool). audited (audit_of (tracks_by x m.file m.runs m.numbers m.tables) m.payloads m.moofs)) fb
            ∙ judged q

-- ONE ANSWER AFTER THE OTHER, as the code asks

module _ (f : List ℕ) (pay : List Span) (ns : List ℕ) (ts : List tables.Track) (rs : List Run) (ms : List row.Moof) (b : Bool) (eb : b ≡ is_some ms) (p : Passed) (ep : p ≡ pass_all b f rs ns ts) where
  abbrev whole : Movie
  whole = movie_of f pay ns ts rs (follows.moofs_in f rs ms)

  fragmented : b ≡ is_fragmented whole.moofs
  fragmented = eb ∙ fragmented-is f rs ms

  -- the sums, by three tests
  sums_by : (x y z : Bool) → samples_fit b f rs ns ts ≡ x → follows.gaps_fit ns (follows.moofs_in f rs ms) ≡ y → ltb (bytes pay) (2 ^ 64) ≡ z → sums_fit whole ≡ x && (y && z)
  sums_by x y z h j k =
      ap (λ (c : Bool). samples_fit c f rs ns ts && (follows.gaps_fit ns (follows.moofs_in f rs ms) && ltb (bytes pay) (2 ^ 64))) (sym fragmented)
      ∙ ap₂ (λ (c d : Bool). c && (d && ltb (bytes pay) (2 ^ 64))) h j ∙ ap (λ (c : Bool). x && (y && c)) k

  module _ (o : Bool) (eo : o ≡ is_over p) where
    pub over-9 : o ≡ true → (r : Audited) → r ≡ answer.Refused refusal.Overflow → r ≡ judge_of whole
    over-9 q r er = er ∙ judged-9 whole (sums_by false _ _ ((pass-told b f rs ns ts p ep).0 (sym eo ∙ q)) refl refl)

    module _ (fine : o ≡ false) (w : Followed) (ew : w ≡ follows.followed_of f rs ms ns) (k : Bool) (ek : k ≡ breaks w) where
      samples : samples_fit b f rs ns ts ≡ true
      samples = ((pass-told b f rs ns ts p ep).1 (sym eo ∙ fine)).0

      pub breaks-9 : k ≡ true → (r : Audited) → r ≡ answer.Refused refusal.Overflow → r ≡ judge_of whole
      breaks-9 q r er = er ∙ judged-9 whole (sums_by true false _ samples ((follow-told w f rs ms ns ew).0 (sym ek ∙ q)) refl)

      module _ (follows_on : k ≡ false) (s : Option ℕ) (es : s ≡ media_of (bytes pay)) where
        gaps : follows.gaps_fit ns (follows.moofs_in f rs ms) ≡ true
        gaps = ((follow-told w f rs ms ns ew).1 (sym ek ∙ follows_on)).0

        pub media-9 : s ≡ None → (r : Audited) → r ≡ answer.Refused refusal.Overflow → r ≡ judge_of whole
        media-9 q r er = er ∙ judged-9 whole (sums_by true true false samples gaps ((media-fits s (bytes pay) es).1 q))

        module _ (c : ℕ) (ec : s ≡ Some c) (h : Bool) (eh : h ≡ has_samples ts) where
          sums : sums_fit whole ≡ true
          sums = sums_by true true true samples gaps ((media-fits s (bytes pay) es).0 c ec).1

          mixed-is : b && h ≡ is_fragmented whole.moofs && has_samples ts
          mixed-is = ap₂ (λ (x y : Bool). x && y) fragmented eh

          pub mixed-10 : b && h ≡ true → (r : Audited) → r ≡ answer.Refused refusal.Mixed → r ≡ judge_of whole
          mixed-10 q r er = er ∙ judged-10 whole sums (sym mixed-is ∙ q)

          pub ends : b && h ≡ false → length ns ≡ length ts → (A S : Option Finding) → A ≡ asked (first_found (agreed f ns ts)) → S ≡ asked (sweep pay (tracks_in b f rs ns ts))
              → (n i : ℕ) → n ≡ length ns → i ≡ samples_in p → (r : Audited) → r ≡ told_of (or_asked (or_asked A (first_of p)) (or_asked S (last_of w))) n i c → r ≡ judge_of whole
          ends q same A S ea es' n i en ei r er =
              let (u, v, x) = (pass-told b f rs ns ts p ep).1 (sym eo ∙ fine) in
              let (y, z) = (follow-told w f rs ms ns ew).1 (sym ek ∙ follows_on) in
              all-judged whole sums b fragmented same samples A (first_of p) S (last_of w) ea v es' z (sym mixed-is ∙ q) n i c en (λ g. ei ∙ x g) ((media-fits s (bytes pay) es).0 c ec).0 r er
