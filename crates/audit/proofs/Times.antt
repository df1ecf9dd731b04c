-- Samples follow on in time: those of tables always, those of runs where the track's fragments do. Assumes nothing.
use Prim.Native.Nat.{ℕ, zero, suc, ◌+◌}
use mathlib.Core.Path.{◌≡◌, refl, sym, ap, ap₂, subst, ◌∙◌}
use mathlib.Core.List.{List, [], ◌∷◌, ◌++◌}
use mathlib.Core.Bool.{Bool, true, false}
use native.Mathlib.Omega.{arith}
use lib.Dec.{eqb}
use Rattle.numbers.specs.Field.{when}
use Rattle.samples.specs.declared.Sample.{Sample}
use Rattle.tables.specs.declared.Track as tables
use Rattle.tables.specs.Tables.{values_of, pairs, groups, chunks, sizes, shifts, Syncs, syncs}
use Rattle.tables.specs.Samples.{place, rest, past_of, zipped, samples_of}
use Rattle.runs.specs.Values.{duration_at, size_at}
use Rattle.runs.specs.Samples.{sample_at, samples_from, run_samples, sum_from, durations_in}
use Rattle.runs.specs.declared.Run.{Run}
use Rattle.fragments.specs.Samples.{count_of, mine, samples_after, samples_of_runs}
use Rattle.moofs.specs.Moofs.{Fragment, all_runs}
use Rattle.verdicts.specs.Fragments.{Traf, Moof, next_time, own_trafs}
use Rattle.verdicts.specs.Meaning.{First, Neighbours, Next, trafs_of}
use Rattle.follows.specs.Follows.{traf_of, as_trafs}
use Rattle.follows.specs.Fragments.{moofs_of}

-- samples one behind the other in time, from m up to e
abbrev Chain : ℕ → List Sample → ℕ → Type 0
Chain m [] e = m ≡ e
Chain m (s ∷ l) e = (s.time ≡ m) × Chain (m + s.duration) l e

chain-join : (m k e : ℕ) (l r : List Sample) → Chain m l k → Chain k r e → Chain m (l ++ r) e
chain-join m k e [] r h g = subst (λ (j : ℕ). Chain j r e) (sym h) g
chain-join m k e (s ∷ l) r h g = (h.0, chain-join (m + s.duration) k e l r h.1 g)

chain_next : (m e : ℕ) (l : List Sample) → Chain m l e → Neighbours Next l
chain_next m e [] h = tt
chain_next m e (s ∷ []) h = (tt, tt)
chain_next m e (s ∷ u ∷ l) h = (h.1.0 ∙ ap (λ (j : ℕ). j + s.duration) (sym h.0), chain_next (m + s.duration) e (u ∷ l) h.1)

-- TABLES

zipped-chain : (n m : ℕ) (ss ds os cs : List ℕ) (ys : Syncs) → (e : ℕ) × Chain m (zipped n m ss ds os cs ys) e
zipped-chain n m [] ds os cs ys = (m, refl)
zipped-chain n m (z ∷ ss) [] os cs ys = (m, refl)
zipped-chain n m (z ∷ ss) (d ∷ ds) [] cs ys = (m, refl)
zipped-chain n m (z ∷ ss) (d ∷ ds) (o ∷ os) cs ys =
    let (e, h) = zipped-chain (n + 1) (m + d) ss ds os (rest cs) (past_of ys (n + 1)) in
    (e, (refl, h))

pub tables-next : (f : List ℕ) (t : tables.Track) → Neighbours Next (samples_of f t)
tables-next f t =
    let (e, h) =
    zipped-chain 0 0 (sizes f t.stsz) (values_of (pairs f t.stts))
    (place (values_of (groups f t.stsc t.stco.count)) (chunks f t.stco) (sizes f t.stsz)) (shifts f t.ctts) (syncs f t.stss)
    in
    chain_next 0 e (samples_of f t) h

-- RUNS

module _ (f : List ℕ) where
  from-chain : (r : Run) (k i n at time : ℕ) → Chain time (samples_from f r k i n at time) (time + sum_from (duration_at f r) k i)
  unfolding sample_at
  from-chain r zero i n at time = omega arith
  from-chain r (suc k) i n at time = (
    refl,
    subst (Chain (time + duration_at f r i) (samples_from f r k (i + 1) (n + 1) (at + size_at f r i) (time + duration_at f r i))) (let z : (time + duration_at f r i) + sum_from (duration_at f r) k (i + 1) ≡ time + (duration_at f r i + sum_from (duration_at f r) k (i + 1)) = omega arith in z)
        (from-chain r k (i + 1) (n + 1) (at + size_at f r i) (time + duration_at f r i)),
  )

  run-chain : (r : Run) (n : ℕ) → Chain r.time (run_samples f r n) (r.time + durations_in f r)
  unfolding run_samples durations_in
  run-chain r n = from-chain r r.trun.sample_count 0 n r.start r.time

  -- each begins when the one before is over, the first at d
  abbrev Follows : ℕ → List Traf → Type 0
  Follows d [] = Unit {0}
  Follows d (x ∷ l) = (x.tfdt ≡ d) × Follows (next_time x) l

  neighbours-follow : (d : ℕ) (l : List Traf) → First (λ y. y.tfdt ≡ d) l → Neighbours (λ x y. y.tfdt ≡ next_time x) l → Follows d l
  neighbours-follow d [] h g = tt
  neighbours-follow d (x ∷ l) h g = (h, neighbours-follow (next_time x) l g.0 g.1)

  module _ (t : ℕ) where
    abbrev own : List Run → List Traf
    own rs = own_trafs t (as_trafs f rs)

    after-chain : (rs : List Run) (n d : ℕ) → Follows d (own rs) → (e : ℕ) × Chain d (samples_after f t n rs) e
    unfolding mine when
    after-chain [] n d h = (d, refl)
    after-chain (r ∷ rs) n d h = cases (eqb r.track t) h (after-chain rs (n + count_of t r))
      where
        cases : (b : Bool) → Follows d (when b (traf_of f r ∷ own rs) (own rs)) → ((k : ℕ) → Follows k (own rs) → (e : ℕ) × Chain k (samples_after f t (n + count_of t r) rs) e)
            → (e : ℕ) × Chain d (when b (run_samples f r n) [] ++ samples_after f t (n + count_of t r) rs) e
        cases true g ih =
            let (e, c) = ih (r.time + durations_in f r) g.1 in
            (e, chain-join d (r.time + durations_in f r) e (run_samples f r n) (samples_after f t (n + count_of t r) rs) (subst (λ (j : ℕ). Chain j (run_samples f r n) (r.time + durations_in f r)) g.0 (run-chain r n)) c)
        cases false g ih = ih d g

    after_next : (rs : List Run) (n : ℕ) → Neighbours (λ x y. y.tfdt ≡ next_time x) (own rs) → Neighbours Next (samples_after f t n rs)
    unfolding mine when
    after_next [] n h = tt
    after_next (r ∷ rs) n h = cases (eqb r.track t) h (after_next rs (n + count_of t r))
      where
        cases : (b : Bool) → Neighbours (λ x y. y.tfdt ≡ next_time x) (when b (traf_of f r ∷ own rs) (own rs)) → (Neighbours (λ x y. y.tfdt ≡ next_time x) (own rs) → Neighbours Next (samples_after f t (n + count_of t r) rs))
            → Neighbours Next (when b (run_samples f r n) [] ++ samples_after f t (n + count_of t r) rs)
        cases true g ih =
            let (e, c) = after-chain rs (n + count_of t r) (r.time + durations_in f r) (neighbours-follow (r.time + durations_in f r) (own rs) g.0 g.1) in
            chain_next r.time e (run_samples f r n ++ samples_after f t (n + count_of t r) rs) (chain-join r.time (r.time + durations_in f r) e (run_samples f r n) (samples_after f t (n + count_of t r) rs) (run-chain r n) c)
        cases false g ih = ih g

    -- the trafs of a track through the moofs are those of its runs
    own-join : (l r : List Traf) → own_trafs t (l ++ r) ≡ own_trafs t l ++ own_trafs t r
    unfolding when
    own-join [] r = refl
    own-join (x ∷ l) r = cases (eqb x.track t) (own-join l r)
      where
        cases : (b : Bool) → own_trafs t (l ++ r) ≡ own_trafs t l ++ own_trafs t r → when b (x ∷ own_trafs t (l ++ r)) (own_trafs t (l ++ r)) ≡ when b (x ∷ own_trafs t l) (own_trafs t l) ++ own_trafs t r
        cases true e = ap (λ (z : List Traf). x ∷ z) e
        cases false e = e

    as-join : (l r : List Run) → as_trafs f (l ++ r) ≡ as_trafs f l ++ as_trafs f r
    as-join [] r = refl
    as-join (x ∷ l) r = ap (λ (z : List Traf). traf_of f x ∷ z) (as-join l r)

    own_runs : (fs : List Fragment) → trafs_of t (moofs_of f fs) ≡ own (all_runs fs)
    own_runs [] = refl
    own_runs (x ∷ fs) =
        ap (λ (z : List Traf). own_trafs t (as_trafs f x.runs) ++ z) (own_runs fs) ∙ sym (own-join (as_trafs f x.runs) (as_trafs f (all_runs fs))) ∙ ap (own_trafs t) (sym (as-join x.runs (all_runs fs)))

    pub runs-next : (fs : List Fragment) → Neighbours (λ x y. y.tfdt ≡ next_time x) (trafs_of t (moofs_of f fs)) → Neighbours Next (samples_of_runs f (all_runs fs) t)
    runs-next fs h = after_next (all_runs fs) 0 (subst (Neighbours (λ x y. y.tfdt ≡ next_time x)) (own_runs fs) h)
