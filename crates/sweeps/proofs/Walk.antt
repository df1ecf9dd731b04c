-- The walk: what holds at every turn of it, and what each turn does. Assumes nothing.
use Rattle.std.specs.Prelude.{Some, None}
use Prim.Native.Nat.{ℕ, ◌-◌, ◌≤◌, ◌<◌, min}
use mathlib.Core.Path.{◌≡◌, refl, sym, ap, ◌∙◌, subst}
use mathlib.Core.List.{List, [], ◌∷◌}
use mathlib.Core.Bool.{Bool, true, false}
use native.Mathlib.Omega.{arith}
use lib.ListN.{get_or, length, set, take, replicate, length-set}
use Rattle.numbers.proofs.Chain.{is_eq}
use Rattle.kin.specs.Kin.{Boxes, stands}
use Rattle.tables.specs.declared.Track as tables
use Rattle.lanes.specs.declared.site.Site as tabled
use Rattle.lanes.specs.Site as table
use Rattle.runs.specs.declared.Run.{Run}
use Rattle.fragments.specs.declared.Lane as ran
use Rattle.fragments.specs.Lane as run
use Rattle.verdicts.specs.declared.Finding.{Finding}
use Rattle.verdicts.specs.Findings.{Track, track, Span, asked}
use Rattle.verdicts.specs.Sweep.{sweep_from}
use Rattle.verdicts.proofs.Steps.{sweep-goes}
use Rattle.payloads.specs.Payloads.{span, payloads_from, next_of}
use Rattle.payloads.specs.declared.Payload.{Payload}
use Rattle.payloads.specs.declared.Payload.TheVariants.{At, End}
use Rattle.payloads.proofs.Laws.{told-end, told_more, told-forward}
use Rattle.sweeps.specs.declared.Head.{Head}
use Rattle.sweeps.specs.declared.Turn.{Turn}
use Rattle.sweeps.specs.declared.Turn.TheVariants.{Skip, Take, Stray, Stop}
use Rattle.sweeps.specs.Tracks.{fitting, tracks_in}
use Rattle.sweeps.specs.Heads.{stray_of, left_in, State, weight, Passed, Takes, TurnBy, TurnIs}
use Rattle.sweeps.proofs.Turns.{sweep-left}
use Rattle.sweeps.proofs.Lanes.{lane_of, lanes_in, lane_at, lane-at, set-table, set-run, passed-run, passed-table, begun, so-many}

-- THE NEXT PAYLOAD

module _ (f : List ℕ) (t : Boxes) (n i : ℕ) (r : Payload) (e : r ≡ next_of f t n i) where
  pub no_more : r ≡ End → payloads_from f t n i ≡ []
  no_more q = sym (told-end f t n i r e q)

  pub one_more : (a b j : ℕ) → r ≡ At a b j → (payloads_from f t n i ≡ span a b ∷ payloads_from f t n j) × (a ≤ b)
  one_more a b j q = (sym (told_more f t n i r e a b j q), told-forward f t n i r e a b j q)

-- AT EVERY TURN

-- p is in a payload that goes up to e, and m are those after it; the first k of n tracks are filled. What is left to be
-- swept has the answer of the whole
pub record Sweeping (all : List Span) (start : List Track) (n : ℕ) (hs : List Head) (xs : List Track) (k p e : ℕ) (m : List Span) : Type 0 where
  pub left : List Track
  pub as_many : length left ≡ n
  pub state : State k hs xs left
  pub inside : p ≤ e
  pub same : sweep_from all (span p e ∷ m) left ≡ sweep_from all all start

-- an empty payload is passed
passed : (all m : List Span) (p e : ℕ) (ts : List Track) → p ≡ e → sweep_from all (span p e ∷ m) ts ≡ sweep_from all m ts
passed all m p e ts q = sweep-goes all (span p e ∷ m) ts m ts (sym (is_eq _ _ _ p e q refl))

module _ (all : List Span) (start : List Track) (n : ℕ) (hs : List Head) (xs : List Track) (k p e : ℕ) (m : List Span) (w : Sweeping all start n hs xs k p e m) (r : Turn) (i : TurnIs hs k n p e r) where
  by : (s : Turn) → r ≡ s → TurnBy all (span p e) m k hs xs w.left s
  by s q = subst (TurnBy all (span p e) m k hs xs w.left) q (i all m xs w.left w.as_many w.state)

  at-stop : (f : Finding) → r ≡ Stop f → Some f ≡ asked (sweep_from all all start)
  at-stop f q = ap asked (sym (by (Stop f) q) ∙ w.same)

  at-stray : (h : Head) → r ≡ Stray h → stray_of all h ≡ sweep_from all all start
  at-stray h q = sym (by (Stray h) q) ∙ w.same

  module _ (q : r ≡ Skip) where
    onward : sweep_from all m w.left ≡ sweep_from all all start
    onward = sym (passed all m p e w.left (by Skip q).1) ∙ w.same

    at-end : m ≡ [] → left_in all hs ≡ sweep_from all all start
    at-end o = sweep-left all k hs xs w.left (by Skip q).0 w.state ∙ ap (λ (z : List Span). sweep_from all z w.left) (sym o) ∙ onward

    at_next : (a b : ℕ) (o : List Span) → (m ≡ span a b ∷ o) × (a ≤ b) → Sweeping all start n hs xs k a b o
    at_next a b o g = record {
      left = w.left;
      as_many = w.as_many;
      state = w.state;
      inside = g.1;
      same = ap (λ (z : List Span). sweep_from all z w.left) (sym g.0) ∙ onward;
    }

  module _ (t q u k' : ℕ) (o : r ≡ Take t q u k') where
    it : Takes all (span p e) m k hs xs w.left t q u k'
    it = by (Take t q u k') o

    it-low : t < 4
    it-low = it.low

    it-inside : (q ≤ e) × (u ≤ e)
    it-inside = (it.stays, it.bounded)

    at_take : (d : Track) (q' : ℕ) (h : Head) (x : Track) → Passed u e q (get_or xs t d) q' h x
        → Sweeping all start n (set hs t h) (set xs t x) k' q' e m × (weight n k' (set hs t h) (set xs t x) < weight n k hs xs)
    at_take d q' h x g = (
      record {
        left = set it.after t g.rest;
        as_many = length-set it.after t g.rest ∙ it.as_many ∙ w.as_many;
        state = it.refilled h x g.rest g.known;
        inside = g.passing.stays;
        same = sym (it.goes ∙ g.passing.goes all m it.after t d it.within (it.lane d) it.beyond) ∙ w.same;
      },
      subst (λ (z : ℕ). weight z k' (set hs t h) (set xs t x) < weight z k hs xs) w.as_many (it.less d h x g.rest g.known g.passing.fewer),
    )

-- WITH THE LANES

-- the same by the lanes, of which the code has four of each kind
pub record Walking (all : List Span) (start : List Track) (n : ℕ) (b : Bool) (f : List ℕ) (rs : List Run) (ns : List ℕ) (ts : List tables.Track) (hs : List Head) (ls : List tabled.Site) (gs : List ran.Lane) (k p e : ℕ) (m : List Span) : Type 0 where
  pub sweeping : Sweeping all start n hs (lanes_in b f rs ns ts ls gs) k p e m
  pub numbers-four : length ns ≡ 4
  pub tracks-four : length ts ≡ 4
  pub tables-four : length ls ≡ 4
  pub runs-four : length gs ≡ 4

-- it begins at the end of an empty payload before the first
pub begins : (b : Bool) (f : List ℕ) (rs : List Run) (z : Head) (l : tabled.Site) (g : ran.Lane) → z.live ≡ false → l ≡ table.fresh → g ≡ run.fresh
    → (all : List Span) (k n : ℕ) (ns : List ℕ) (ts : List tables.Track) → length ns ≡ 4 → length ts ≡ 4 → n ≡ min k 4
    → Walking all (tracks_in b f rs (take k ns) (take k ts)) n b f rs ns ts (replicate 4 z) (replicate 4 l) (replicate 4 g) 0 0 0 all
begins b f rs z l g dead el eg all k n ns ts p q e = record {
  sweeping = record {
    left = tracks_in b f rs (take k ns) (take k ts);
    as_many = so-many b f rs z l g dead el eg 4 k ns ts p q ∙ sym e;
    state = begun b f rs z l g dead el eg 4 k ns ts p q;
    inside = omega arith;
    same = passed all all 0 0 (tracks_in b f rs (take k ns) (take k ts)) refl;
  };
  numbers-four = p;
  tracks-four = q;
  tables-four = refl;
  runs-four = refl;
}

-- what stands behind the last of a list is no matter
abbrev no-track : Track
no-track = track 0 true []

abbrev no-tables : tables.Track
no-tables = record {
  stts = record { at = 0; count = 0 };
  ctts = None;
  stsc = record { at = 0; count = 0 };
  stsz = record { at = 0; count = 0; common = 0 };
  stco = record { at = 0; count = 0; wide = false };
  stss = None;
}

module _ (all : List Span) (start : List Track) (n : ℕ) (b : Bool) (f : List ℕ) (rs : List Run) (ns : List ℕ) (ts : List tables.Track) (hs : List Head) (ls : List tabled.Site) (gs : List ran.Lane) (k p e : ℕ) (m : List Span)
    (w : Walking all start n b f rs ns ts hs ls gs k p e m) (r : Turn) (i : TurnIs hs k n p e r) where
  pub stops : (x : Finding) → r ≡ Stop x → Some x ≡ asked (sweep_from all all start)
  stops x q = at-stop all start n hs (lanes_in b f rs ns ts ls gs) k p e m w.sweeping r i x q

  pub strays : (h : Head) → r ≡ Stray h → stray_of all h ≡ sweep_from all all start
  strays h q = at-stray all start n hs (lanes_in b f rs ns ts ls gs) k p e m w.sweeping r i h q

  module _ (q : r ≡ Skip) where
    pub ends : m ≡ [] → left_in all hs ≡ sweep_from all all start
    ends o = at-end all start n hs (lanes_in b f rs ns ts ls gs) k p e m w.sweeping r i q o

    pub moves : (x y : ℕ) (o : List Span) → (m ≡ span x y ∷ o) × (x ≤ y) → Walking all start n b f rs ns ts hs ls gs k x y o
    moves x y o g = record {
      sweeping = at_next all start n hs (lanes_in b f rs ns ts ls gs) k p e m w.sweeping r i q x y o g;
      numbers-four = w.numbers-four;
      tracks-four = w.tracks-four;
      tables-four = w.tables-four;
      runs-four = w.runs-four;
    }

  module _ (t q u k' : ℕ) (o : r ≡ Take t q u k') where
    pub take-low : t < 4
    take-low = it-low all start n hs (lanes_in b f rs ns ts ls gs) k p e m w.sweeping r i t q u k' o

    pub take-inside : (q ≤ e) × (u ≤ e)
    take-inside = it-inside all start n hs (lanes_in b f rs ns ts ls gs) k p e m w.sweeping r i t q u k' o

    module _ (n₀ : ℕ) (t₀ : tables.Track) (l₀ : tabled.Site) (g₀ : ran.Lane) (q' : ℕ) (h : Head) where
      ins : t < length ns
      ins = omega (arith, take-low, w.numbers-four)

      its : t < length ts
      its = omega (arith, take-low, w.tracks-four)

      ils : t < length ls
      ils = omega (arith, take-low, w.tables-four)

      igs : t < length gs
      igs = omega (arith, take-low, w.runs-four)

      -- a lane went as far as it could: what holds after it, and that less is to be done
      given : (x : Track) (ys : List Track) → set (lanes_in b f rs ns ts ls gs) t x ≡ ys → Passed u e q (lane_at b f rs n₀ t₀ l₀ g₀ no-track ns ts ls gs t) q' h x
          → Sweeping all start n (set hs t h) ys k' q' e m × (weight n k' (set hs t h) ys < weight n k hs (lanes_in b f rs ns ts ls gs))
      given x ys s g =
          subst (λ (z : List Track). Sweeping all start n (set hs t h) z k' q' e m × (weight n k' (set hs t h) z < weight n k hs (lanes_in b f rs ns ts ls gs))) s
          (at_take all start n hs (lanes_in b f rs ns ts ls gs) k p e m w.sweeping r i t q u k' o no-track q' h x
          (subst (λ (z : Track). Passed u e q z q' h x) (sym (lane-at b f rs n₀ t₀ l₀ g₀ no-track ns ts ls gs t ins its ils igs)) g))

    module _ (q' : ℕ) (h : Head) where
      pub run-gives : (n₀ : ℕ) (g₀ : ran.Lane) → b ≡ true → (g : ran.Lane)
          → Passed u e q (track (get_or ns t n₀) true (fitting (run.left f rs (get_or ns t n₀) (get_or gs t g₀)))) q' h (track (get_or ns t n₀) true (fitting (run.left f rs (get_or ns t n₀) g)))
          → Walking all start n b f rs ns ts (set hs t h) ls (set gs t g) k' q' e m
          × (weight n k' (set hs t h) (lanes_in b f rs ns ts ls (set gs t g)) < weight n k hs (lanes_in b f rs ns ts ls gs))
      run-gives n₀ g₀ z g y =
          let v = given n₀ no-tables table.fresh g₀ q' h (lane_of b f rs (get_or ns t n₀) (get_or ts t no-tables) (get_or ls t table.fresh) g) (lanes_in b f rs ns ts ls (set gs t g))
          (set-run b f rs n₀ no-tables table.fresh g₀ no-track g ns ts ls gs t (ins n₀ no-tables table.fresh g₀ q' h) (its n₀ no-tables table.fresh g₀ q' h) (ils n₀ no-tables table.fresh g₀ q' h) (igs n₀ no-tables table.fresh g₀ q' h))
          (passed-run f rs u e q q' h (get_or ns t n₀) (get_or ts t no-tables) b (get_or ls t table.fresh) (get_or gs t g₀) g z y) in (
            record { sweeping = v.0; numbers-four = w.numbers-four; tracks-four = w.tracks-four; tables-four = w.tables-four; runs-four = length-set gs t g ∙ w.runs-four },
            v.1,
          )

      pub table-gives : (n₀ : ℕ) (t₀ : tables.Track) (l₀ : tabled.Site) → b ≡ false → (l : tabled.Site)
          → Passed u e q (track (get_or ns t n₀) true (fitting (table.left f (get_or ts t t₀) (get_or ls t l₀)))) q' h (track (get_or ns t n₀) true (fitting (table.left f (get_or ts t t₀) l)))
          → Walking all start n b f rs ns ts (set hs t h) (set ls t l) gs k' q' e m
          × (weight n k' (set hs t h) (lanes_in b f rs ns ts (set ls t l) gs) < weight n k hs (lanes_in b f rs ns ts ls gs))
      table-gives n₀ t₀ l₀ z l y =
          let v = given n₀ t₀ l₀ run.fresh q' h (lane_of b f rs (get_or ns t n₀) (get_or ts t t₀) l (get_or gs t run.fresh)) (lanes_in b f rs ns ts (set ls t l) gs)
          (set-table b f rs n₀ t₀ l₀ run.fresh no-track l ns ts ls gs t (ins n₀ t₀ l₀ run.fresh q' h) (its n₀ t₀ l₀ run.fresh q' h) (ils n₀ t₀ l₀ run.fresh q' h) (igs n₀ t₀ l₀ run.fresh q' h))
          (passed-table f rs u e q q' h (get_or ns t n₀) (get_or ts t t₀) b (get_or ls t l₀) l (get_or gs t run.fresh) z y) in (
            record { sweeping = v.0; numbers-four = w.numbers-four; tracks-four = w.tracks-four; tables-four = length-set ls t l ∙ w.tables-four; runs-four = w.runs-four },
            v.1,
          )
