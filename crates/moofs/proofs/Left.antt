-- What a walk has left to store is what the definition says: of the moof that it is in, the runs that are left, and then
-- the fragments behind it. Assumes nothing.
use Rattle.std.specs.Prelude.{Result, Option, Ok, Err, Some, None}
use Prim.Native.Nat.{ℕ, zero, suc, ◌+◌}
use mathlib.Core.Path.{◌≡◌, refl, sym, ap, ◌∙◌}
use mathlib.Core.List.{List, [], ◌∷◌, ◌++◌}
use mathlib.Core.Bool.{Bool, true, false}
use native.Mathlib.Omega.{arith}
use native.Mathlib.Nat.{add-zero}
use lib.ListN.{length}
use Rattle.numbers.specs.Field.{when}
use Rattle.numbers.specs.declared.Refusal.TheVariants as refusal
use Rattle.places.specs.Kinds.{moof, traf, mfhd}
use Rattle.kin.specs.Kin.{Boxes, at, stands}
use Rattle.inside.specs.Inside.{child}
use Rattle.mfhd.specs.Mfhd.{mfhd_of}
use Rattle.runs.specs.Samples.{end_of}
use Rattle.runs.specs.declared.Run.{Run}
use Rattle.trafs.specs.Trafs.{bytes_of, run_of}
use Rattle.moofs.specs.Moofs.{Fragment, fragment, All, all, refused, before, with_end, with_run, runs_in, with_number, with_runs, fragments_in, all_runs, moofs_from}
use Rattle.moofs.specs.Walk.{Move, still, begins, stop, row, begun, added, begin_of, add_to, add_by, add_of, move_of, Plan, plan, none, run_first, moof_first, left_by, left_in, plan_of}
use Rattle.moofs.specs.declared.State.{State}
use Rattle.numbers.specs.declared.Refusal.{Refusal}
use Rattle.mfhd.specs.declared.Mfhd.{Mfhd}

-- the runs that are left of a moof, and the fragments behind it, after i runs
abbrev joined : ℕ → All Run → All Fragment → Plan
joined i (all rs) (all fs) = plan (rs ++ all_runs fs) (moofs_from (i + length rs) fs)
joined i (all rs) (refused q) = none q
joined i (refused q) fs = none q

joined-run : (r : Run) (i : ℕ) (rs : All Run) (fs : All Fragment) → run_first r (joined (i + 1) rs fs) ≡ joined i (before r rs) fs
joined-run r i (all rs) (all fs) =
    let e : i + 1 + length rs ≡ i + suc (length rs) = omega arith in
    ap (λ (k : ℕ). plan (r ∷ (rs ++ all_runs fs)) (moofs_from k fs)) e
joined-run r i (all rs) (refused q) = refl
joined-run r i (refused q) fs = refl

joined-moof : (start number i : ℕ) (rs : All Run) (fs : All Fragment) →
    moof_first (row start number i) (joined i rs fs) ≡ joined i (all []) (with_runs rs (λ l. before (fragment start number l) fs))
joined-moof start number i (all rs) (all fs) = sym (ap (λ (k : ℕ). plan (rs ++ all_runs fs) (row start number k ∷ moofs_from (k + length rs) fs)) (add-zero i))
joined-moof start number i (all rs) (refused q) = refl
joined-moof start number i (refused q) fs = refl

module _ (s : List ℕ) (t : Boxes) (n : ℕ) where
  -- the runs left of the moof of a state, in k rows from row j on
  abbrev runs_left : ℕ → ℕ → State → All Run
  runs_left k j σ = runs_in s t n σ.start k j σ.first σ.previous

  abbrev Inside : ℕ → ℕ → Type 0
  Inside k j = (σ : State) → σ.inside ≡ true → left_in s t n k j σ ≡ joined σ.runs (runs_left k j σ) (fragments_in s t n k j)

  -- what a moof in row j gives, by its mfhd
  abbrev opened : ℕ → ℕ → Result Mfhd Refusal → All Fragment
  opened k j f =
      with_number f (refused (refusal.Value (at t.starts j)))
      (λ number. with_runs (runs_in s t n (at t.starts j) k (j + 1) true (at t.starts j))
      (λ rs. before (fragment (at t.starts j) number rs) (fragments_in s t n k (j + 1))))

  by-moof : (k j : ℕ) (σ : State) (f : Result Mfhd Refusal) → Inside k (j + 1)
      → left_by σ (with_number f (stop (refusal.Value (at t.starts j))) (begins (at t.starts j))) (left_in s t n k (j + 1)) ≡ joined σ.runs (all []) (opened k j f)
  by-moof k j σ (Ok h) ih =
      ap (moof_first (row (at t.starts j) h.sequence_number σ.runs)) (ih (begun (at t.starts j) σ) refl)
      ∙ joined-moof (at t.starts j) h.sequence_number σ.runs (runs_in s t n (at t.starts j) k (j + 1) true (at t.starts j)) (fragments_in s t n k (j + 1))
  by-moof k j σ (Err q) ih = refl

  by_end : (k j : ℕ) (σ : State) (r : Run) (y : Option ℕ) → Inside k (j + 1)
      → left_by σ (add_to r y) (left_in s t n k (j + 1)) ≡ joined σ.runs (with_end r y (λ e. runs_in s t n σ.start k (j + 1) false e)) (fragments_in s t n k (j + 1))
  by_end k j σ r (Some e) ih =
      ap (run_first r) (ih (added e σ) refl) ∙ joined-run r σ.runs (runs_in s t n σ.start k (j + 1) false e) (fragments_in s t n k (j + 1))
  by_end k j σ r None ih = refl

  by-run : (k j : ℕ) (σ : State) (d : Result Run Refusal) → Inside k (j + 1)
      → left_by σ (add_by s d) (left_in s t n k (j + 1)) ≡ joined σ.runs (with_run s d (λ e. runs_in s t n σ.start k (j + 1) false e)) (fragments_in s t n k (j + 1))
  by-run k j σ (Ok r) ih = by_end k j σ r (end_of s r) ih
  by-run k j σ (Err q) ih = refl

  by_tests : (i : ℕ) (b c : Bool) (σ : State) (mm mr : Move) (go : State → Plan) (rr ro : All Run) (fm fo : All Fragment)
      → left_by σ mm go ≡ joined i (all []) fm → left_by σ mr go ≡ joined i rr fo → go σ ≡ joined i ro fo
      → left_by σ (when b mm (when c mr still)) go ≡ joined i (when b (all []) (when c rr ro)) (when b fm fo)
  unfolding when
  by_tests i true c σ mm mr go rr ro fm fo em er eo = em
  by_tests i false true σ mm mr go rr ro fm fo em er eo = er
  by_tests i false false σ mm mr go rr ro fm fo em er eo = eo

  by-test : (i : ℕ) (b : Bool) (σ : State) (mm : Move) (go : State → Plan) (fm fo : All Fragment)
      → left_by σ mm go ≡ joined i (all []) fm → go σ ≡ joined i (all []) fo
      → left_by σ (when b mm still) go ≡ joined i (all []) (when b fm fo)
  unfolding when
  by-test i true σ mm go fm fo em eo = em
  by-test i false σ mm go fm fo em eo = eo

  move-inside : (j : ℕ) (σ : State) → σ.inside ≡ true → move_of s t n j σ ≡ when (stands t moof j) (begin_of s t n j) (when (stands t traf j) (add_of s t n j σ) still)
  unfolding move_of when
  move-inside j σ h = ap (λ (x : Bool). when (stands t moof j) (begin_of s t n j) (when x (when (stands t traf j) (add_of s t n j σ) still) still)) h

  move-outside : (j : ℕ) (σ : State) → σ.inside ≡ false → move_of s t n j σ ≡ when (stands t moof j) (begin_of s t n j) still
  unfolding move_of when
  move-outside j σ h = ap (λ (x : Bool). when (stands t moof j) (begin_of s t n j) (when x (when (stands t traf j) (add_of s t n j σ) still) still)) h

  left-inside : (k j : ℕ) → Inside k j
  unfolding left_in runs_in fragments_in begin_of add_of
  left-inside zero j σ h = refl
  left-inside (suc k) j σ h =
      ap (λ (m : Move). left_by σ m (left_in s t n k (j + 1))) (move-inside j σ h)
      ∙ by_tests σ.runs (stands t moof j) (stands t traf j) σ (begin_of s t n j) (add_of s t n j σ) (left_in s t n k (j + 1))
      (with_run s (run_of s t n (j + 1) σ.start σ.first σ.previous) (λ e. runs_in s t n σ.start k (j + 1) false e)) (runs_left k (j + 1) σ)
      (opened k j (mfhd_of (bytes_of s t (child t n mfhd (j + 1))))) (fragments_in s t n k (j + 1))
      (by-moof k j σ (mfhd_of (bytes_of s t (child t n mfhd (j + 1)))) (left-inside k (j + 1)))
      (by-run k j σ (run_of s t n (j + 1) σ.start σ.first σ.previous) (left-inside k (j + 1)))
      (left-inside k (j + 1) σ h)

  left-outside : (k j : ℕ) (σ : State) → σ.inside ≡ false → left_in s t n k j σ ≡ joined σ.runs (all []) (fragments_in s t n k j)
  unfolding left_in fragments_in begin_of
  left-outside zero j σ h = refl
  left-outside (suc k) j σ h =
      ap (λ (m : Move). left_by σ m (left_in s t n k (j + 1))) (move-outside j σ h)
      ∙ by-test σ.runs (stands t moof j) σ (begin_of s t n j) (left_in s t n k (j + 1)) (opened k j (mfhd_of (bytes_of s t (child t n mfhd (j + 1))))) (fragments_in s t n k (j + 1))
      (by-moof k j σ (mfhd_of (bytes_of s t (child t n mfhd (j + 1)))) (left-inside k (j + 1)))
      (left-outside k (j + 1) σ h)

  -- before the first row all fragments are left
  pub all_left : (k : ℕ) (σ : State) → σ.inside ≡ false → σ.runs ≡ 0 → left_in s t n k 0 σ ≡ plan_of (fragments_in s t n k 0)
  unfolding plan_of
  all_left k σ h e = left-outside k 0 σ h ∙ ap (λ (i : ℕ). joined i (all []) (fragments_in s t n k 0)) e ∙ by (fragments_in s t n k 0)
    where
      by : (fs : All Fragment) → joined 0 (all []) fs ≡ plan_of fs
      by (all fs) = let z : 0 + 0 ≡ 0 = omega arith in ap (λ (k : ℕ). plan (all_runs fs) (moofs_from k fs)) z
      by (refused q) = refl
