-- The cursor of places: one law for each return of its `next`, what a caller learns from an answer, and what a cursor that
-- begins has left: the places of the track's samples. Assumes nothing.
use Prim.Native.Nat.{ℕ, zero, suc, ◌+◌, ◌-◌, ◌^◌, ◌≤◌, ◌<◌}
use mathlib.Core.Path.{◌≡◌, refl, sym, ap, ◌∙◌}
use mathlib.Core.List.{List, [], ◌∷◌, map}
use mathlib.Core.Bool.{Bool, true}
use native.Mathlib.Omega.{arith}
use lib.ListN.{drop, length, length-drop}
use Rattle.samples.proofs.Fits.{held-is, no_end, view-held, view-not}
use Rattle.samples.proofs.Views.{Stuck, view-none, view-over, view-one}
use Rattle.samples.specs.Lists.{held, none, over, one, view}
use Rattle.samples.specs.declared.Sample.{Sample}
use Rattle.tables.specs.Tables.{groups, chunks, sizes, size_at, Syncs}
use Rattle.tables.specs.Samples.{zipped, first_or, rest, flag_of, past_of}
use Rattle.tables.specs.Rows.{group_rows, rows_of}
use Rattle.tables.specs.declared.Rows.{Rows}
use Rattle.tables.specs.declared.Row.{Row}
use Rattle.tables.specs.declared.Track.{Track}
use Rattle.tables.proofs.Lists.{list-cons, list-nil, rows-groups, length-list}
use Rattle.lanes.specs.Lane.{runs_at, places_at, places_left}
use Rattle.lanes.specs.Site.{sample, bare, sited, sites_of, left, fresh, shows}
use Rattle.lanes.specs.Steps.{SamePlaces, PlaceReady}
use Rattle.lanes.specs.declared.Place.{Place}
use Rattle.lanes.specs.declared.site.Site.{Site}
use Rattle.lanes.specs.declared.site.Stood.{Stood}
use Rattle.lanes.specs.declared.site.Stood.TheVariants as stood
use Rattle.lanes.proofs.Cases.{place-one}

-- THE RETURNS

module _ (f : List ℕ) (t : Track) (l : Site) where
  abbrev per_chunk : List Row
  per_chunk = groups f t.stsc t.stco.count

  abbrev ends : List ℕ
  ends = drop l.done (sizes f t.stsz)

  abbrev places : List ℕ → List ℕ
  places ss = places_left per_chunk (chunks f t.stco) l.place ss

  left_is : (ss os : List ℕ) → ends ≡ ss → places ss ≡ os → left f t l ≡ sited l.done ss os
  unfolding left
  left_is ss os a b = ap (λ (x : List ℕ). sited l.done x (places x)) a ∙ ap (sited l.done ss) b

  pub no_size : t.stsz.count ≤ l.done → none ≡ view (left f t l)
  no_size h = sym (ap view (left_is [] (places []) (list-nil (size_at f t.stsz) t.stsz.count l.done h) refl))

  -- the sizes after the next one
  abbrev later : List ℕ
  later = drop (l.done + 1) (sizes f t.stsz)

  module _ (h : l.done < t.stsz.count) (z : ℕ) (ez : z ≡ size_at f t.stsz l.done) (g : Rows) (eg : g ≡ group_rows t.stsc t.stco.count)
      (p : Place) (ep : SamePlaces (rows_of f g) (chunks f t.stco) p l.place) where
    these : ends ≡ z ∷ later
    these = list-cons (size_at f t.stsz) t.stsz.count l.done h ∙ ap (λ (k : ℕ). k ∷ later) (sym ez)

    as-groups : rows_of f g ≡ per_chunk
    as-groups = ap (rows_of f) eg ∙ rows-groups f t.stsc t.stco.count

    lie : (ss : List ℕ) → places_left per_chunk (chunks f t.stco) p ss ≡ places ss
    lie ss =
        sym (ap (λ (rs : List Row). places_left rs (chunks f t.stco) p ss) as-groups) ∙ ep ss
        ∙ ap (λ (rs : List Row). places_left rs (chunks f t.stco) l.place ss) as-groups

    pub no_place : p.left ≡ 0 → PlaceReady (rows_of f g) (chunks f t.stco) p → none ≡ view (left f t l)
    no_place w r =
        let q : [] ≡ places (z ∷ later) = r w (z ∷ later) ∙ ap (λ (rs : List Row). places_left rs (chunks f t.stco) p (z ∷ later)) as-groups ∙ lie (z ∷ later) in
        sym (ap view (left_is (z ∷ later) [] these (sym q)))

    module _ (w : p.left ≡ 0 → ⊥) where
      abbrev after : Site
      after = record { done = l.done + 1; place = record { left = p.left - 1; at = p.at + z; chunk = p.chunk; groups = p.groups } }

      left_one : left f t l ≡ sample (l.done + 1) p.at z ∷ left f t after
      unfolding left
      left_one =
          left_is (z ∷ later) (p.at ∷ places_at per_chunk (chunks f t.stco) (p.left - 1) (p.at + z) p.chunk p.groups later) these
          (sym (lie (z ∷ later)) ∙ sym (place-one per_chunk (chunks f t.stco) p w z later))

      pub over-end : 2 ^ 64 ≤ p.at + z → over ≡ view (left f t l)
      over-end k = sym (ap view left_one ∙ view-not (sample (l.done + 1) p.at z) (left f t after) (no_end (sample (l.done + 1) p.at z) k))

      pub stands : p.at + z < 2 ^ 64 → l.done + 1 < 2 ^ 32 → shows f t (stood.One (l.done + 1) p.at z after) ≡ view (left f t l)
      stands k small =
          sym (ap view left_one ∙ view-held (sample (l.done + 1) p.at z) (left f t after) (held-is (sample (l.done + 1) p.at z) small k (omega arith)))

-- WHAT A CALLER LEARNS

module _ (f : List ℕ) (t : Track) (l : Site) (r : Stood) (e : shows f t r ≡ view (left f t l)) where
  pub at-end : r ≡ stood.End → left f t l ≡ []
  at-end q = view-none (left f t l) (sym (ap (shows f t) q) ∙ e)

  pub at-over : r ≡ stood.Over → Stuck (left f t l)
  at-over q = view-over (left f t l) (sym (ap (shows f t) q) ∙ e)

  pub at_one : (n o z : ℕ) (k : Site) → r ≡ stood.One n o z k → (left f t l ≡ sample n o z ∷ left f t k) × (held (sample n o z) ≡ true)
  at_one n o z k q = view-one (sample n o z) (left f t k) (left f t l) (sym (ap (shows f t) q) ∙ e)

-- THE START

pub left-fresh : (f : List ℕ) (t : Track) → left f t fresh ≡ sites_of f t
unfolding left runs_at places_at
left-fresh f t = refl

-- WHAT IT IS OF THE SAMPLES

-- where there is a duration for each, the places are those of the samples
pub sites-zipped : (n m : ℕ) (ss ds os cs : List ℕ) (ys : Syncs) → length ss ≤ length ds → map bare (zipped n m ss ds os cs ys) ≡ sited n ss os
sites-zipped n m [] ds os cs ys h = refl
sites-zipped n m (z ∷ ss) [] os cs ys h = absurd (omega arith)
sites-zipped n m (z ∷ ss) (d ∷ ds) [] cs ys h = refl
sites-zipped n m (z ∷ ss) (d ∷ ds) (o ∷ os) cs ys h =
    ap (λ (l : List Sample). sample (n + 1) o z ∷ l) (sites-zipped (n + 1) (m + d) ss ds os (rest cs) (past_of ys (n + 1)) (omega arith))
