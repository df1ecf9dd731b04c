-- One law for each return of `next`: what it tells is what is left. Assumes nothing.
use Prim.Native.Nat.{ℕ, ◌+◌, ◌-◌, ◌^◌, ◌≤◌, ◌<◌}
use mathlib.Core.Path.{◌≡◌, refl, sym, ap, ap₂, ◌∙◌}
use mathlib.Core.List.{List, [], ◌∷◌}
use mathlib.Core.Bool.{Bool}
use lib.ListN.{drop}
use lib.IntN.{ℤ}
use lib.Dec.{eqb}
use Rattle.samples.proofs.Fits.{held-is, no_end, view-held, view-not}
use Rattle.samples.proofs.Fits as fits
use Rattle.numbers.specs.Field.{when}
use Rattle.signed.specs.Signed.{signed}
use Rattle.tables.specs.Tables.{pairs, groups, chunks, sizes, size_at, Syncs}
use Rattle.tables.specs.Samples.{first_or, rest, flag_of, past_of, zipped}
use Rattle.samples.specs.Lists.{none, over, one, view}
use Rattle.samples.specs.declared.Sample.{Sample}
use Rattle.lanes.specs.Lane.{runs_left, places_at, places_left, shifts_left, syncs_left, sizes_left, left, shows}
use Rattle.tables.specs.Rows.{pair_rows, group_rows, rows_of}
use Rattle.lanes.specs.Steps.{Ready, after_of, SamePlaces, PlaceReady, MarkReady, sync_of, samples_from}
use Rattle.tables.specs.declared.Rows.{Rows}
use Rattle.tables.specs.declared.Row.{Row}
use Rattle.lanes.specs.declared.Runs.{Runs}
use Rattle.lanes.specs.declared.Place.{Place}
use Rattle.lanes.specs.declared.Marks.{Marks}
use Rattle.tables.specs.declared.Track.{Track}
use Rattle.lanes.specs.declared.Lane.{Lane}
use Rattle.lanes.specs.declared.Taken.{Taken}
use Rattle.lanes.specs.declared.Taken.TheVariants as taken
use Rattle.lanes.proofs.Cases.{run-one, place-one, mark-tells}
use Rattle.tables.proofs.Lists.{list-cons, list-nil, rows-pairs, rows-groups}

module _ (f : List ℕ) (t : Track) (l : Lane) where
  -- what the lane has left of each table, and of the tables themselves

  abbrev times : List ℕ
  times = runs_left (pairs f t.stts) l.times

  abbrev per_chunk : List Row
  per_chunk = groups f t.stsc t.stco.count

  abbrev places : List ℕ → List ℕ
  places ss = places_left per_chunk (chunks f t.stco) l.place ss

  abbrev composed : List ℕ
  composed = shifts_left f t.ctts l.shifts

  left_is : (ss ds os : List ℕ) → sizes_left f t l ≡ ss → times ≡ ds → places ss ≡ os
      → left f t l ≡ zipped l.done l.time ss ds os composed (syncs_left f t.stss l.syncs)
  unfolding left
  left_is ss ds os a b c =
      ap (λ (x : List ℕ). zipped l.done l.time x times (places x) composed (syncs_left f t.stss l.syncs)) a
      ∙ ap₂ (λ (x y : List ℕ). zipped l.done l.time ss x y composed (syncs_left f t.stss l.syncs)) b c

  pub no_size : t.stsz.count ≤ l.done → none ≡ view (left f t l)
  no_size h = sym (ap view (left_is [] times (places []) (list-nil (size_at f t.stsz) t.stsz.count l.done h) refl refl))

  -- the sizes after the next one
  abbrev later : List ℕ
  later = drop (l.done + 1) (sizes f t.stsz)

  module _ (h : l.done < t.stsz.count) (z : ℕ) (ez : z ≡ size_at f t.stsz l.done) where
    these : sizes_left f t l ≡ z ∷ later
    these = list-cons (size_at f t.stsz) t.stsz.count l.done h ∙ ap (λ (k : ℕ). k ∷ later) (sym ez)

    module _ (r : Rows) (er : r ≡ pair_rows t.stts) (s : Runs) (es : runs_left (rows_of f r) s ≡ runs_left (rows_of f r) l.times) where
      as-pairs : rows_of f r ≡ pairs f t.stts
      as-pairs = ap (rows_of f) er ∙ rows-pairs f t.stts

      looked : runs_left (pairs f t.stts) s ≡ times
      looked = sym (ap (λ (rs : List Row). runs_left rs s) as-pairs) ∙ es ∙ ap (λ (rs : List Row). runs_left rs l.times) as-pairs

      pub no-time : s.left ≡ 0 → Ready (rows_of f r) s → none ≡ view (left f t l)
      no-time e h =
          let w : [] ≡ times = h e ∙ es ∙ ap (λ (rs : List Row). runs_left rs l.times) as-pairs in
          sym (ap view (left_is (z ∷ later) [] (places (z ∷ later)) these (sym w) refl))

      module _ (ds : s.left ≡ 0 → ⊥) (g : Rows) (eg : g ≡ group_rows t.stsc t.stco.count) (p : Place)
          (ep : SamePlaces (rows_of f g) (chunks f t.stco) p l.place) where
        lasts : times ≡ s.value ∷ runs_left (pairs f t.stts) (after_of s)
        lasts = sym looked ∙ sym (run-one (pairs f t.stts) s ds)

        as-groups : rows_of f g ≡ per_chunk
        as-groups = ap (rows_of f) eg ∙ rows-groups f t.stsc t.stco.count

        lie : (ss : List ℕ) → places_left per_chunk (chunks f t.stco) p ss ≡ places ss
        lie ss =
            sym (ap (λ (rs : List Row). places_left rs (chunks f t.stco) p ss) as-groups) ∙ ep ss
            ∙ ap (λ (rs : List Row). places_left rs (chunks f t.stco) l.place ss) as-groups

        pub no_place : p.left ≡ 0 → PlaceReady (rows_of f g) (chunks f t.stco) p → none ≡ view (left f t l)
        no_place w h =
            let q : [] ≡ places (z ∷ later) = h w (z ∷ later) ∙ ap (λ (rs : List Row). places_left rs (chunks f t.stco) p (z ∷ later)) as-groups ∙ lie (z ∷ later) in
            sym (ap view (left_is (z ∷ later) (s.value ∷ runs_left (pairs f t.stts) (after_of s)) [] these lasts (sym q)))

        pub gives : (p.left ≡ 0 → ⊥) → (c : Runs) → c ≡ after_of s → (r : Taken)
            → shows f t r ≡ view (samples_from f t l (l.done + 1) z s.value c p) → shows f t r ≡ view (left f t l)
        unfolding samples_from
        gives w c ec r x =
            x ∙ ap (λ (k : Runs). view (samples_from f t l (l.done + 1) z s.value k p)) ec
            ∙ sym (ap view (left_is (z ∷ later) (s.value ∷ runs_left (pairs f t.stts) (after_of s))
            (p.at ∷ places_at per_chunk (chunks f t.stco) (p.left - 1) (p.at + z) p.chunk p.groups later) these lasts
            (sym (lie (z ∷ later)) ∙ sym (place-one per_chunk (chunks f t.stco) p w z later))))

-- the sample that is given

module _ (f : List ℕ) (t : Track) (l : Lane) (n z d : ℕ) (c : Runs) (p : Place) where
  abbrev first : Sample
  first = record {
    number = n;
    offset = p.at;
    size = z;
    time = l.time;
    duration = d;
    composition = signed 4 (first_or 0 (shifts_left f t.ctts l.shifts));
    sync = flag_of (syncs_left f t.stss l.syncs) n;
  }

  abbrev more : List Sample
  more =
      zipped n (l.time + d) (drop n (sizes f t.stsz)) (runs_left (pairs f t.stts) c)
      (places_at (groups f t.stsc t.stco.count) (chunks f t.stco) (p.left - 1) (p.at + z) p.chunk p.groups (drop n (sizes f t.stsz)))
      (rest (shifts_left f t.ctts l.shifts)) (past_of (syncs_left f t.stss l.syncs) n)

  pub over-end : 2 ^ 64 ≤ p.at + z → over ≡ view (samples_from f t l n z d c p)
  unfolding samples_from
  over-end k = sym (view-not first more (no_end first k))

  pub over-time : 2 ^ 63 ≤ l.time → over ≡ view (samples_from f t l n z d c p)
  unfolding samples_from
  over-time k = sym (view-not first more (fits.no-time first k))

  pub takes : (v : ℕ) (rs : Runs) (m : Marks) (b : Bool) (i : ℕ) (co : ℤ) → p.at + z < 2 ^ 64 → l.time < 2 ^ 63 → 0 < n → n < 2 ^ 32
      → v ≡ first_or 0 (shifts_left f t.ctts l.shifts) → shifts_left f t.ctts rs ≡ rest (shifts_left f t.ctts l.shifts)
      → syncs_left f t.stss m ≡ syncs_left f t.stss l.syncs → MarkReady f t.stss m
      → b ≡ sync_of t.stss m n → i ≡ when (eqb m.number n) 0 m.number
      → co ≡ signed 4 v
      → shows f t (taken.One
      (record { number = n; offset = p.at; size = z; time = l.time; duration = d; composition = co; sync = b })
      (record {
        done = n;
        time = l.time + d;
        times = c;
        shifts = rs;
        syncs = record { next = m.next; number = i };
        place = record { left = p.left - 1; at = p.at + z; chunk = p.chunk; groups = p.groups };
      }))
      ≡ view (samples_from f t l n z d c p)
  unfolding left samples_from
  takes v rs m b i co k e y small ev er em h eb ei ec =
      let w = mark-tells f m n y t.stss h in
      let sb : b ≡ flag_of (syncs_left f t.stss l.syncs) n = eb ∙ w.0 ∙ ap (λ (s : Syncs). flag_of s n) em in
      let sp : syncs_left f t.stss (record { next = m.next; number = i }) ≡ past_of (syncs_left f t.stss l.syncs) n = ap (λ (j : ℕ). syncs_left f t.stss (record { next = m.next; number = j })) ei ∙ w.1 ∙ ap (λ (s : Syncs). past_of s n) em in
      let same : one (record { number = n; offset = p.at; size = z; time = l.time; duration = d; composition = co; sync = b })
      (zipped n (l.time + d) (drop n (sizes f t.stsz)) (runs_left (pairs f t.stts) c)
      (places_at (groups f t.stsc t.stco.count) (chunks f t.stco) (p.left - 1) (p.at + z) p.chunk p.groups (drop n (sizes f t.stsz)))
      (shifts_left f t.ctts rs) (syncs_left f t.stss (record { next = m.next; number = i })))
      ≡ one first more = rw (ec, ev, er, sb, sp) in
      same ∙ sym (view-held first more (held-is first small k e))
