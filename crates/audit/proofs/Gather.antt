-- The tracks of the moov one by one, until there are no more or there are enough. Assumes nothing.
use Rattle.std.specs.Prelude.{Result, Ok, Err}
use Prim.Native.Nat.{ℕ, suc, ◌+◌, ◌-◌, ◌<◌, ◌≤◌}
use mathlib.Core.Path.{◌≡◌, refl, sym, ap, ap₂, ◌∙◌}
use mathlib.Core.List.{List, [], ◌∷◌, ◌++◌, append_assoc, append-nil}
use mathlib.Core.Bool.{Bool, true, false}
use mathlib.Core.Logic.{◌⊎◌, inl, inr, ⊎_elim}
use native.Mathlib.Omega.{arith}
use lib.ListN.{length, take, set, length-set}
use lib.Seq.{take-nil, take-suc-set}
use native.Mathlib.Numerals.{add-one}
use lib.Dec.{eqb, ltb}
use borrow.Author.Tests.{eqb-true, eqb-false, eq-eqb, ne_eqb, ltb-true, ltb-false}
use Rattle.numbers.specs.Field.{when}
use Rattle.numbers.proofs.Chain.{is_eq, is_ne}
use Rattle.numbers.specs.declared.Refusal.{Refusal}
use Rattle.places.specs.Kinds.{moov}
use Rattle.places.specs.Kinds as kinds
use Rattle.kin.specs.Kin.{Boxes}
use Rattle.tables.specs.declared.Track as tables
use Rattle.inside.specs.Inside.{inside_of, child}
use Rattle.traks.specs.Traks.{next_trak, number_of, tables_of}
use Rattle.traks.proofs.Laws.{next-none, next_more}
use Rattle.runs.specs.declared.Run.{Run}
use Rattle.moofs.specs.Moofs.{All, all, refused, before}
use Rattle.payloads.specs.Payloads.{payloads_from}
use Rattle.verdicts.specs.Fragments.{Moof}
use Rattle.verdicts.specs.declared.Audited.{Audited}
use Rattle.verdicts.specs.declared.Audited.TheVariants.{Refused}
use Rattle.movie.specs.Movie.{movie_of, judge_of}
use Rattle.audit.specs.File.{numbers_of, with_tables, tables_in}
use Rattle.audit.specs.Inside.{more_of, judged_with, judged_by}
use Rattle.tables.specs.declared.Track.{Track}

module _ (trak count : ℕ) where
  pub none : trak ≡ 0 → false ≡ more_of trak count
  unfolding more_of
  none h = is_eq _ _ _ trak 0 h refl

  pub room : (trak ≡ 0 → ⊥) → ltb count 4 ≡ more_of trak count
  unfolding more_of
  room h = is_ne _ _ _ trak 0 h refl

module _ (trak count : ℕ) (b : Bool) (e : b ≡ more_of trak count) where
  pub one_more : b ≡ true → (trak ≡ 0 → ⊥) × (count < 4)
  unfolding more_of when
  one_more q = cases (eqb trak 0) refl (sym e ∙ q)
    where
      never : false ≡ true → ⊥
      never z = let y : ◌≡◌ {A = ℕ} 0 1 = cc z in omega arith

      cases : (x : Bool) → eqb trak 0 ≡ x → when x false (ltb count 4) ≡ true → (trak ≡ 0 → ⊥) × (count < 4)
      cases true h z = absurd (never z)
      cases false h z = (eqb-false trak 0 h, ltb-true count 4 z)

  pub no_more : b ≡ false → (trak ≡ 0) ⊎ (4 ≤ count)
  unfolding more_of when
  no_more q = cases (eqb trak 0) refl (sym e ∙ q)
    where
      cases : (x : Bool) → eqb trak 0 ≡ x → when x false (ltb count 4) ≡ false → (trak ≡ 0) ⊎ (4 ≤ count)
      cases true h z = inl (eqb-true trak 0 h)
      cases false h z = inr (ltb-false count 4 z)

module _ (f : List ℕ) (t : Boxes) (n : ℕ) (rs : List Run) (ms : List Moof) where
  -- the traks from row `from` on
  abbrev in_moov : ℕ → List ℕ
  in_moov from = inside_of t n kinds.trak (child t n moov 0) from

  -- the traks that are left, where this one is the next
  abbrev left : ℕ → List ℕ
  left trak = when (eqb trak 0) [] (trak ∷ in_moov trak)

  left_is : (from r : ℕ) → r ≡ next_trak t n from → left r ≡ in_moov from
  unfolding when
  left_is from r e = cases (eqb r 0) refl
    where
      cases : (b : Bool) → eqb r 0 ≡ b → when b [] (r ∷ in_moov r) ≡ in_moov from
      cases true q = sym (next-none t n from r e (eqb-true r 0 q))
      cases false q = sym (next_more t n from r e (eqb-false r 0 q))

  left_one : (r : ℕ) → (r ≡ 0 → ⊥) → left r ≡ r ∷ in_moov r
  unfolding when
  left_one r h = ap (λ (b : Bool). when b [] (r ∷ in_moov r)) (ne_eqb r 0 h)

  left-none : (r : ℕ) → r ≡ 0 → left r ≡ []
  unfolding when
  left-none r h = ap (λ (b : Bool). when b [] (r ∷ in_moov r)) (eq-eqb r 0 h)

  -- the answer, where these tracks are there and those are still to come
  abbrev answer : List ℕ → List tables.Track → List ℕ → Audited
  answer ns ts ps = judged_with f t n rs ms ns ts (numbers_of f t n ps) (tables_in f t n ps)

  -- so many tracks are there
  pub record Gathering (numbers : List ℕ) (tracks : List tables.Track) (count trak : ℕ) : Type 0 where
    pub few : count ≤ 4
    pub four : length numbers ≡ 4
    pub as_many : length tracks ≡ 4
    pub same : answer (take count numbers) (take count tracks) (take (4 - count) (left trak)) ≡ judged_by f t n rs ms

  pub gathers : (ns : List ℕ) (ts : List tables.Track) (r : ℕ) → length ns ≡ 4 → length ts ≡ 4 → r ≡ next_trak t n 0 → Gathering ns ts 0 r
  gathers ns ts r h k e =
      record { few = omega arith; four = h; as_many = k; same = ap (λ (l : List ℕ). answer [] [] (take 4 l)) (left_is 0 r e) }

  module _ (numbers : List ℕ) (tracks : List tables.Track) (count trak : ℕ) (w : Gathering numbers tracks count trak) where
    -- NO MORE
    ended : take (4 - count) (left trak) ≡ [] → judge_of (movie_of f (payloads_from f t n 0) (take count numbers) (take count tracks) rs ms) ≡ judged_by f t n rs ms
    ended e =
        ap₂ (λ (ns : List ℕ) (ts : List tables.Track). judge_of (movie_of f (payloads_from f t n 0) ns ts rs ms)) (sym (append-nil (take count numbers))) (sym (append-nil (take count tracks)))
        ∙ ap (answer (take count numbers) (take count tracks)) (sym e) ∙ w.same

    ends-none : trak ≡ 0 → judge_of (movie_of f (payloads_from f t n 0) (take count numbers) (take count tracks) rs ms) ≡ judged_by f t n rs ms
    ends-none e = ended (ap (take (4 - count)) (left-none trak e) ∙ nothing (4 - count))
      where
        nothing : (k : ℕ) → ◌≡◌ {A = List ℕ} (take k []) []
        nothing k = take-nil k

    ends-full : 4 ≤ count → judge_of (movie_of f (payloads_from f t n 0) (take count numbers) (take count tracks) rs ms) ≡ judged_by f t n rs ms
    ends-full h = ended (ap (λ (k : ℕ). take k (left trak)) (let z : 4 - count ≡ 0 = omega arith in z))

    pub ends : (trak ≡ 0) ⊎ (4 ≤ count) → judge_of (movie_of f (payloads_from f t n 0) (take count numbers) (take count tracks) rs ms) ≡ judged_by f t n rs ms
    ends h = ⊎_elim ends-none ends-full h

    -- ONE MORE
    module _ (here : trak ≡ 0 → ⊥) (room : count < 4) where
      next_up : take (4 - count) (left trak) ≡ trak ∷ take (4 - (count + 1)) (in_moov trak)
      next_up = ap₂ (λ (k : ℕ) (l : List ℕ). take k l) (let z : 4 - count ≡ suc (4 - (count + 1)) = omega arith in z) (left_one trak here)

      pub refuses : (q : Refusal) → tables_of f t n trak ≡ Err q → Refused q ≡ judged_by f t n rs ms
      refuses q e =
          sym (ap (λ (x : Result Track Refusal). judged_with f t n rs ms (take count numbers) (take count tracks) (numbers_of f t n (trak ∷ take (4 - (count + 1)) (in_moov trak))) (with_tables x (tables_in f t n (take (4 - (count + 1)) (in_moov trak))))) e)
          ∙ ap (answer (take count numbers) (take count tracks)) (sym next_up) ∙ w.same

      shifted : (ns : List ℕ) (ts : List tables.Track) (x : ℕ) (y : tables.Track) (more : List ℕ) (us : All tables.Track)
          → judged_with f t n rs ms (ns ++ (x ∷ [])) (ts ++ (y ∷ [])) more us ≡ judged_with f t n rs ms ns ts (x ∷ more) (before y us)
      shifted ns ts x y more (all us) =
          ap₂ (λ (a : List ℕ) (b : List tables.Track). judge_of (movie_of f (payloads_from f t n 0) a b rs ms)) (append_assoc ns (x ∷ []) more) (append_assoc ts (y ∷ []) us)
      shifted ns ts x y more (refused q) = refl

      pub gathers-on : (x : tables.Track) (k r : ℕ) → tables_of f t n trak ≡ Ok x → k ≡ number_of f t n trak → r ≡ next_trak t n trak
          → Gathering (set numbers count k) (set tracks count x) (count + 1) r
      gathers-on x k r e ek er =
          let ps : List ℕ = take (4 - (count + 1)) (in_moov trak) in
          record {
            few = omega arith;
            four = length-set numbers count k ∙ w.four;
            as_many = length-set tracks count x ∙ w.as_many;
            same =
                ap (λ (l : List ℕ). answer (take (count + 1) (set numbers count k)) (take (count + 1) (set tracks count x)) (take (4 - (count + 1)) l)) (left_is trak r er)
                ∙ ap₂ (λ (ns : List ℕ) (ts : List tables.Track). answer ns ts ps)
                (ap (λ (j : ℕ). take j (set numbers count k)) (add-one count) ∙ take-suc-set numbers count k (omega (arith, w.four)))
                (ap (λ (j : ℕ). take j (set tracks count x)) (add-one count) ∙ take-suc-set tracks count x (omega (arith, w.as_many)))
                ∙ shifted (take count numbers) (take count tracks) k x (numbers_of f t n ps) (tables_in f t n ps)
                ∙ ap (λ (j : ℕ). judged_with f t n rs ms (take count numbers) (take count tracks) (j ∷ numbers_of f t n ps) (before x (tables_in f t n ps))) ek
                ∙ ap (λ (y : Result Track Refusal). judged_with f t n rs ms (take count numbers) (take count tracks) (number_of f t n trak ∷ numbers_of f t n ps) (with_tables y (tables_in f t n ps))) (sym e)
                ∙ ap (answer (take count numbers) (take count tracks)) (sym next_up) ∙ w.same;
          }
