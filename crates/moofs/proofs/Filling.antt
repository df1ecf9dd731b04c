-- What a walk over the rows knows, row after row: how many rows there will be, and, where they have room, that the tables
-- will hold them all. Assumes nothing.
use Rattle.std.specs.Prelude.{Result, Ok, Err}
use Prim.Native.Nat.{ℕ, ◌+◌, ◌*◌, ◌-◌, ◌^◌, ◌<◌, ◌≤◌, suc, min}
use mathlib.Core.Path.{◌≡◌, refl, sym, ap, ap₂, subst, ◌∙◌}
use mathlib.Core.List.{List, [], ◌∷◌}
use mathlib.Core.Bool.{Bool, true, false}
use native.Mathlib.Omega.{arith}
use native.Mathlib.Nat.{add-zero}
use lib.ListN.{length}
use lib.Dec.{ltb}
use lib.Seq.{sets, length-sets}
use Rattle.numbers.specs.Field.{when}
use Rattle.numbers.specs.declared.Refusal.TheVariants as refusal
use Rattle.numbers.specs.declared.Refusal.{Refusal}
use Rattle.numbers.proofs.Chain.{is_lt, is_le, not-le}
use Rattle.kin.specs.Kin.{Boxes}
use Rattle.put.specs.Put.{wrote}
use Rattle.put.proofs.Stores.{sets-append}
use Rattle.runs.specs.declared.Run.{Run}
use Rattle.runtable.specs.Table as runtable
use Rattle.mooftable.specs.Table as mooftable
use Rattle.mooftable.specs.declared.Moof.{Moof}
use Rattle.moofs.specs.Moofs.{Fragment, All, all, refused, fragments_of, all_runs, moofs_from, run_numbers, moof_numbers, output, fill_of, filled_record}
use Rattle.moofs.specs.Walk.{Move, still, begins, adds, stop, row, begun, added, move_of, table_of, Turned, turned, turn_of, Plan, plan, none, run_first, moof_first, left_by, left_in, plan_of, tally, Stored}
use Rattle.moofs.specs.declared.State.{State}
use Rattle.moofs.proofs.Left.{all_left}
use Rattle.moofs.specs.declared.Filled.{Filled}

-- ONE ROW MORE

module _ (x : Run) (i : ℕ) (r : List ℕ) where
  pub run_length : length (table_of (runtable.store_of x i r)) ≡ length r
  unfolding when
  run_length = by (ltb i (runtable.holds r)) (ltb (i + 1) (2 ^ 64))
    where
      by : (a b : Bool) → length (table_of (when a (wrote (Ok (i + 1)) (sets r (i * 12) (runtable.numbers_of x))) (when b (wrote (Err (refusal.TooSmall (i + 1))) r) (wrote (Err refusal.Overflow) r)))) ≡ length r
      by true b = length-sets r (i * 12) (runtable.numbers_of x)
      by false true = refl
      by false false = refl

  run_room : i < runtable.holds r → table_of (runtable.store_of x i r) ≡ sets r (i * 12) (runtable.numbers_of x)
  run_room h = ap table_of (sym (is_lt _ _ _ i (runtable.holds r) h refl))

  run_more : (rs : List Run) → i < runtable.holds r → sets (table_of (runtable.store_of x i r)) ((i + 1) * 12) (run_numbers rs) ≡ sets r (i * 12) (run_numbers (x ∷ rs))
  run_more rs h =
      let e : (i + 1) * 12 ≡ i * 12 + length (runtable.numbers_of x) = omega arith in
      ap (λ (o : List ℕ). sets o ((i + 1) * 12) (run_numbers rs)) (run_room h)
      ∙ ap (λ (k : ℕ). sets (sets r (i * 12) (runtable.numbers_of x)) k (run_numbers rs)) e
      ∙ sets-append r (i * 12) (runtable.numbers_of x) (run_numbers rs)

module _ (x : Moof) (i : ℕ) (m : List ℕ) where
  moof-length : length (table_of (mooftable.store_of x i m)) ≡ length m
  unfolding when
  moof-length = by (ltb i (mooftable.holds m)) (ltb (i + 1) (2 ^ 64))
    where
      by : (a b : Bool) → length (table_of (when a (wrote (Ok (i + 1)) (sets m (i * 3) (mooftable.numbers_of x))) (when b (wrote (Err (refusal.TooSmall (i + 1))) m) (wrote (Err refusal.Overflow) m)))) ≡ length m
      by true b = length-sets m (i * 3) (mooftable.numbers_of x)
      by false true = refl
      by false false = refl

  moof-room : i < mooftable.holds m → table_of (mooftable.store_of x i m) ≡ sets m (i * 3) (mooftable.numbers_of x)
  moof-room h = ap table_of (sym (is_lt _ _ _ i (mooftable.holds m) h refl))

  moof-more : (ms : List Moof) → i < mooftable.holds m → sets (table_of (mooftable.store_of x i m)) ((i + 1) * 3) (moof_numbers ms) ≡ sets m (i * 3) (moof_numbers (x ∷ ms))
  moof-more ms h =
      let e : (i + 1) * 3 ≡ i * 3 + length (mooftable.numbers_of x) = omega arith in
      ap (λ (o : List ℕ). sets o ((i + 1) * 3) (moof_numbers ms)) (moof-room h)
      ∙ ap (λ (k : ℕ). sets (sets m (i * 3) (mooftable.numbers_of x)) k (moof_numbers ms)) e
      ∙ sets-append m (i * 3) (mooftable.numbers_of x) (moof_numbers ms)

tally-run : (x : Run) (i k : ℕ) (p : Plan) → tally (i + 1) k p ≡ tally i k (run_first x p)
tally-run x i k (plan rs ms) = let e : i + 1 + length rs ≡ i + suc (length rs) = omega arith in ap (λ (a : ℕ). Ok (filled_record a (k + length ms))) e
tally-run x i k (none q) = refl

tally-moof : (x : Moof) (i k : ℕ) (p : Plan) → tally i (k + 1) p ≡ tally i k (moof_first x p)
tally-moof x i k (plan rs ms) = let e : k + 1 + length ms ≡ k + suc (length ms) = omega arith in ap (λ (a : ℕ). Ok (filled_record (i + length rs) a)) e
tally-moof x i k (none q) = refl

pub are-same : (f g : Filled) → ◌≡◌ {A = Result Filled Refusal} (Ok f) (Ok g) → f ≡ g
are-same f g e = cc e

-- THE WALK

abbrev runs_of : Plan → List Run
runs_of (plan rs ms) = rs
runs_of (none q) = []

abbrev moofs_of : Plan → List Moof
moofs_of (plan rs ms) = ms
moofs_of (none q) = []

-- before row j: the state, what is left, and the tables r and m, which were ro and mo
pub record Filling (whole left : Plan) (σ : State) (j : ℕ) (ro r mo m : List ℕ) : Type 0 where
  pub told : tally σ.runs σ.moofs left ≡ tally 0 0 whole
  pub few-runs : σ.runs ≤ j
  pub few-moofs : σ.moofs ≤ j
  pub same_runs : length r ≡ length ro
  pub same-moofs : length m ≡ length mo
  pub run-rows : (rs : List Run) (ms : List Moof) → left ≡ plan rs ms → σ.runs + length rs ≤ runtable.holds ro → sets r (σ.runs * 12) (run_numbers rs) ≡ sets ro 0 (run_numbers (runs_of whole))
  pub moof-rows : (rs : List Run) (ms : List Moof) → left ≡ plan rs ms → σ.moofs + length ms ≤ mooftable.holds mo → sets m (σ.moofs * 3) (moof_numbers ms) ≡ sets mo 0 (moof_numbers (moofs_of whole))

-- after a row: the walk goes on with what is left, or it is refused
abbrev After : Plan → (State → Plan) → ℕ → List ℕ → List ℕ → Turned → Type 0
After whole go j ro mo (turned (Ok o) r m) = Filling whole (go o) o (j + 1) ro r mo m
After whole go j ro mo (turned (Err q) r m) = (Err q ≡ tally 0 0 whole) × (length r ≡ length ro) × (length m ≡ length mo)

after : (whole : Plan) (go : State → Plan) (σ : State) (j : ℕ) (ro r mo m : List ℕ) (mv : Move) → Filling whole (left_by σ mv go) σ j ro r mo m → After whole go j ro mo (turn_of σ mv r m)
after whole go σ j ro r mo m still w =
    record {
      told = w.told;
      few-runs = omega (arith, w.few-runs);
      few-moofs = omega (arith, w.few-moofs);
      same_runs = w.same_runs;
      same-moofs = w.same-moofs;
      run-rows = w.run-rows;
      moof-rows = w.moof-rows;
    }
after whole go σ j ro r mo m (begins start number) w =
    let x = row start number σ.runs in
    record {
      told = tally-moof x σ.runs σ.moofs (go (begun start σ)) ∙ w.told;
      few-runs = omega (arith, w.few-runs);
      few-moofs = omega (arith, w.few-moofs);
      same_runs = w.same_runs;
      same-moofs = moof-length x σ.moofs m ∙ w.same-moofs;
      run-rows = λ rs ms e room. w.run-rows rs (x ∷ ms) (ap (moof_first x) e) room;
      moof-rows = λ rs ms e room.
          moof-more x σ.moofs m ms (omega (arith, room, w.same-moofs)) ∙ w.moof-rows rs (x ∷ ms) (ap (moof_first x) e) (omega (arith, room));
    }
after whole go σ j ro r mo m (adds x z) w =
    record {
      told = tally-run x σ.runs σ.moofs (go (added z σ)) ∙ w.told;
      few-runs = omega (arith, w.few-runs);
      few-moofs = omega (arith, w.few-moofs);
      same_runs = run_length x σ.runs r ∙ w.same_runs;
      same-moofs = w.same-moofs;
      run-rows = λ rs ms e room.
          run_more x σ.runs r rs (omega (arith, room, w.same_runs)) ∙ w.run-rows (x ∷ rs) ms (ap (run_first x) e) (omega (arith, room));
      moof-rows = λ rs ms e room. w.moof-rows (x ∷ rs) ms (ap (run_first x) e) room;
    }
after whole go σ j ro r mo m (stop q) w = (w.told, w.same_runs, w.same-moofs)

module _ (s : List ℕ) (t : Boxes) (n end : ℕ) (whole : Plan) (ro mo : List ℕ) where
  pub starts : (σ : State) → end ≡ min n 4096 → whole ≡ plan_of (fragments_of s t n) → σ.inside ≡ false → σ.runs ≡ 0 → σ.moofs ≡ 0
      → Filling whole (left_in s t n (end - 0) 0 σ) σ 0 ro ro mo mo
  starts σ e w h a b =
      record {
        told = ap (tally σ.runs σ.moofs) is ∙ ap₂ (λ (i k : ℕ). tally i k whole) a b;
        few-runs = omega (arith, a);
        few-moofs = omega (arith, b);
        same_runs = refl;
        same-moofs = refl;
        run-rows = λ rs ms g room.
            ap₂ (λ (i : ℕ) (l : List Run). sets ro i (run_numbers l)) (let z : σ.runs * 12 ≡ 0 = omega (arith, a) in z) (ap runs_of (sym g ∙ is));
        moof-rows = λ rs ms g room.
            ap₂ (λ (i : ℕ) (l : List Moof). sets mo i (moof_numbers l)) (let z : σ.moofs * 3 ≡ 0 = omega (arith, b) in z) (ap moofs_of (sym g ∙ is));
      }
    where
      is : left_in s t n (end - 0) 0 σ ≡ whole
      is =
          let z : end - 0 ≡ min n 4096 = omega (arith, e) in
          ap (λ (k : ℕ). left_in s t n k 0 σ) z ∙ all_left s t n (min n 4096) σ h a ∙ sym w

  module _ (σ : State) (j : ℕ) (r m : List ℕ) (w : Filling whole (left_in s t n (end - j) j σ) σ j ro r mo m) where
    opened : j < end → Filling whole (left_by σ (move_of s t n j σ) (left_in s t n (end - (j + 1)) (j + 1))) σ j ro r mo m
    unfolding left_in
    opened h = let z : end - j ≡ suc (end - (j + 1)) = omega arith in subst (λ (k : ℕ). Filling whole (left_in s t n k j σ) σ j ro r mo m) z w

    turns : j < end → (a : Turned) → a ≡ turn_of σ (move_of s t n j σ) r m → After whole (left_in s t n (end - (j + 1)) (j + 1)) j ro mo a
    turns h a e =
        subst (After whole (left_in s t n (end - (j + 1)) (j + 1)) j ro mo) (sym e)
        (after whole (left_in s t n (end - (j + 1)) (j + 1)) σ j ro r mo m (move_of s t n j σ) (opened h))

    pub goes_on : (o : State) (x y : List ℕ) (a : _) → j < end → turned a x y ≡ turn_of σ (move_of s t n j σ) r m → a ≡ Ok o
        → Filling whole (left_in s t n (end - (j + 1)) (j + 1) o) o (j + 1) ro x mo y
    goes_on o x y a h e g = turns h (turned (Ok o) x y) (ap (λ a. turned a x y) (sym g) ∙ e)

    pub is-refused : (q : Refusal) (x y : List ℕ) (a : _) → j < end → turned a x y ≡ turn_of σ (move_of s t n j σ) r m → a ≡ Err q
        → (Err q ≡ tally 0 0 whole) × (length x ≡ length ro) × (length y ≡ length mo)
    is-refused q x y a h e g = turns h (turned (Err q) x y) (ap (λ a. turned a x y) (sym g) ∙ e)

    ends-left : end ≤ j → left_in s t n (end - j) j σ ≡ plan [] []
    unfolding left_in
    ends-left h = let z : end - j ≡ 0 = omega arith in ap (λ (k : ℕ). left_in s t n k j σ) z

    pub counts : end ≤ j → Ok (filled_record σ.runs σ.moofs) ≡ tally 0 0 whole
    counts h =
        sym (ap₂ (λ (i k : ℕ). Ok (filled_record i k)) (add-zero σ.runs) (add-zero σ.moofs)) ∙ sym (ap (tally σ.runs σ.moofs) (ends-left h)) ∙ w.told

    pub stores : end ≤ j → Stored whole ro r mo m
    stores h rs ms e = (
      λ room. w.run-rows [] [] (ends-left h) (omega (arith, room, many)) ∙ ap (λ (p : Plan). sets ro 0 (run_numbers (runs_of p))) e,
      λ room. w.moof-rows [] [] (ends-left h) (omega (arith, room, few)) ∙ ap (λ (p : Plan). sets mo 0 (moof_numbers (moofs_of p))) e,
    )
      where
        same : filled_record σ.runs σ.moofs ≡ filled_record (0 + length rs) (0 + length ms)
        same = are-same _ _ (counts h ∙ ap (tally 0 0) e)

        many : σ.runs ≡ length rs
        many = omega (arith, ap (λ (f : Filled). f.runs) same)

        few : σ.moofs ≡ length ms
        few = omega (arith, ap (λ (f : Filled). f.moofs) same)

-- a walk that is refused stores nothing that counts
pub stores-none : (q : Refusal) (whole : Plan) (ro r mo m : List ℕ) → Err q ≡ tally 0 0 whole → Stored whole ro r mo m
stores-none q whole ro r mo m h rs ms e =
    let z : ◌≡◌ {A = Result Filled Refusal} (Err q) (Ok (filled_record (0 + length rs) (0 + length ms))) = h ∙ ap (tally 0 0) e in
    let y : ◌≡◌ {A = ℕ} 0 1 = cc z in
    absurd (omega arith)

-- THE TABLES

pub length-moofs : (i : ℕ) (fs : List Fragment) → length (moofs_from i fs) ≡ length fs
length-moofs i [] = refl
length-moofs i (f ∷ fs) = ap suc (length-moofs (i + length f.runs) fs)

module _ (r m : List ℕ) where
  pub fill-refused : (fs : All Fragment) (q : Refusal) (a : Result Filled Refusal) → a ≡ tally 0 0 (plan_of fs) → a ≡ Err q → output (Err q) r m ≡ fill_of fs r m
  unfolding plan_of
  fill-refused (all fs) q a e g =
      let z : ◌≡◌ {A = Result Filled Refusal} (Err q) (Ok (filled_record (0 + length (all_runs fs)) (0 + length (moofs_from 0 fs)))) = sym g ∙ e in
      let y : ◌≡◌ {A = ℕ} 0 1 = cc z in
      absurd (omega arith)
  fill-refused (refused p) q a e g = ap (λ (a : Result Filled Refusal). output a r m) (sym g ∙ e)

  -- how many there are
  module _ (f : Filled) where
    told-all : (fs : List Fragment) (a : Result Filled Refusal) → a ≡ tally 0 0 (plan_of (all fs)) → a ≡ Ok f → (f.runs ≡ length (all_runs fs)) × (f.moofs ≡ length fs)
    unfolding plan_of
    told-all fs a e g =
        let z : f ≡ filled_record (0 + length (all_runs fs)) (0 + length (moofs_from 0 fs)) = are-same _ _ (sym g ∙ e) in
        (omega (arith, ap (λ (f : Filled). f.runs) z), omega (arith, ap (λ (f : Filled). f.moofs) z, length-moofs 0 fs))

    told_none : {A : Type 0} (p : Refusal) (a : Result Filled Refusal) → a ≡ tally 0 0 (plan_of (refused p)) → a ≡ Ok f → A
    unfolding plan_of
    told_none p a e g =
        let z : ◌≡◌ {A = Result Filled Refusal} (Ok f) (Err p) = sym g ∙ e in
        let y : ◌≡◌ {A = ℕ} 0 1 = cc z in
        absurd (omega arith)

    pub small-runs : (fs : All Fragment) (a : Result Filled Refusal) → a ≡ tally 0 0 (plan_of fs) → a ≡ Ok f → runtable.holds r < f.runs → output (Err (refusal.TooSmall f.runs)) r m ≡ fill_of fs r m
    small-runs (all fs) a e g h =
        let n = told-all fs a e g in
        not-le _ _ _ (length (all_runs fs)) (runtable.holds r) (omega (arith, h, n.0)) (ap (λ (i : ℕ). output (Err (refusal.TooSmall i)) r m) n.0)
    small-runs (refused p) a e g h = told_none p a e g

    pub small-moofs : (fs : All Fragment) (a : Result Filled Refusal) → a ≡ tally 0 0 (plan_of fs) → a ≡ Ok f → f.runs ≤ runtable.holds r → mooftable.holds m < f.moofs → output (Err (refusal.TooSmall f.moofs)) r m ≡ fill_of fs r m
    small-moofs (all fs) a e g h l =
        let n = told-all fs a e g in
        is_le _ _ _ (length (all_runs fs)) (runtable.holds r) (omega (arith, h, n.0))
        (not-le _ _ _ (length fs) (mooftable.holds m) (omega (arith, l, n.1)) (ap (λ (i : ℕ). output (Err (refusal.TooSmall i)) r m) n.1))
    small-moofs (refused p) a e g h l = told_none p a e g

    pub fills : (fs : All Fragment) (a z : Result Filled Refusal) (x y : List ℕ) → a ≡ tally 0 0 (plan_of fs) → a ≡ Ok f → f.runs ≤ runtable.holds r → f.moofs ≤ mooftable.holds m
        → z ≡ tally 0 0 (plan_of fs) → Stored (plan_of fs) r x m y → output z x y ≡ fill_of fs r m
    unfolding plan_of
    fills (all fs) a z x y e g h l o w =
        let n = told-all fs a e g in
        let p = w (all_runs fs) (moofs_from 0 fs) refl in
        let i : 0 + length (all_runs fs) ≡ length (all_runs fs) = omega arith in
        let k : 0 + length (moofs_from 0 fs) ≡ length fs = omega (arith, length-moofs 0 fs) in
        is_le _ _ _ (length (all_runs fs)) (runtable.holds r) (omega (arith, h, n.0))
        (is_le _ _ _ (length fs) (mooftable.holds m) (omega (arith, l, n.1))
        (ap (λ (z : Result Filled Refusal). output z x y) o ∙ ap₂ (λ (i k : ℕ). output (Ok (filled_record i k)) x y) i k
        ∙ ap₂ (λ (x y : List ℕ). output (Ok (filled_record (length (all_runs fs)) (length fs))) x y) (p.0 (omega (arith, h, n.0))) (p.1 (omega (arith, l, n.1, length-moofs 0 fs)))))
    fills (refused p) a z x y e g h l o w = told_none p a e g
