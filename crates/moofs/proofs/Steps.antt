-- What a row does, case after case. Assumes nothing.
use Rattle.std.specs.Prelude.{Result, Option, Ok, Err, Some, None}
use Prim.Native.Nat.{ℕ, ◌+◌}
use mathlib.Core.Path.{◌≡◌, refl, sym, ap, ◌∙◌}
use mathlib.Core.List.{List}
use mathlib.Core.Bool.{Bool, true, false}
use native.Mathlib.Omega.{arith}
use Rattle.std.specs.Option.{ok_or}
use Rattle.numbers.specs.declared.Refusal.TheVariants as refusal
use Rattle.numbers.specs.declared.Refusal.{Refusal}
use Rattle.numbers.proofs.Chain.{by-true, by-false}
use Rattle.places.specs.Kinds.{moof, traf, mfhd}
use Rattle.kin.specs.Kin.{Boxes, at, stands}
use Rattle.inside.specs.Inside.{child}
use Rattle.put.specs.Put.{wrote}
use Rattle.mfhd.specs.Mfhd.{mfhd_of}
use Rattle.mfhd.specs.declared.Mfhd.{Mfhd}
use Rattle.runs.specs.Samples.{end_of}
use Rattle.runs.specs.declared.Run.{Run}
use Rattle.trafs.specs.Trafs.{bytes_of, run_of}
use Rattle.runtable.specs.Table as runtable
use Rattle.mooftable.specs.Table as mooftable
use Rattle.moofs.specs.Moofs.{with_number}
use Rattle.moofs.specs.Walk.{Move, still, begins, stop, row, begun, added, begin_of, add_to, add_by, add_of, move_of, table_of, Turned, turned, turn_of}
use Rattle.moofs.specs.declared.State.{State}

module _ (s : List ℕ) (t : Boxes) (n j : ℕ) (σ : State) (r m : List ℕ) where
  -- A MOOF

  module _ (f : Result Mfhd Refusal) (e : f ≡ mfhd_of (bytes_of s t (child t n mfhd (j + 1)))) where
    pub no-mfhd : (q : Refusal) → f ≡ Err q → turned (Err (refusal.Value (at t.starts j))) r m ≡ turn_of σ (begin_of s t n j) r m
    unfolding begin_of
    no-mfhd q o = ap (λ f. turn_of σ (with_number f (stop (refusal.Value (at t.starts j))) (begins (at t.starts j))) r m) (sym o ∙ e)

    pub moof-begins : (h : Mfhd) (p : Result ℕ Refusal) (o : List ℕ) → f ≡ Ok h
        → wrote p o ≡ mooftable.store_of (row (at t.starts j) h.sequence_number σ.runs) σ.moofs m
        → turned (Ok (begun (at t.starts j) σ)) r o ≡ turn_of σ (begin_of s t n j) r m
    unfolding begin_of
    moof-begins h p o q w =
        ap (λ (l : List ℕ). turned (Ok (begun (at t.starts j) σ)) r l) (ap table_of w)
        ∙ ap (λ f. turn_of σ (with_number f (stop (refusal.Value (at t.starts j))) (begins (at t.starts j))) r m) (sym q ∙ e)

  -- A TRAF

  module _ (d : Result Run Refusal) (e : d ≡ run_of s t n (j + 1) σ.start σ.first σ.previous) where
    pub no_run : (q : Refusal) → d ≡ Err q → turned (Err q) r m ≡ turn_of σ (add_of s t n j σ) r m
    unfolding add_of
    no_run q o = ap (λ d. turn_of σ (add_by s d) r m) (sym o ∙ e)

    module _ (x : Run) (q : d ≡ Ok x) (y : Option ℕ) (g : y ≡ end_of s x) where
      by_end : turn_of σ (add_to x y) r m ≡ turn_of σ (add_of s t n j σ) r m
      unfolding add_of
      by_end = ap (λ y. turn_of σ (add_to x y) r m) g ∙ ap (λ d. turn_of σ (add_by s d) r m) (sym q ∙ e)

      pub no_end : y ≡ None → turned (Err refusal.Overflow) r m ≡ turn_of σ (add_of s t n j σ) r m
      no_end o = ap (λ y. turn_of σ (add_to x y) r m) (sym o) ∙ by_end

      pub run-added : (z : ℕ) (p : Result ℕ Refusal) (o : List ℕ) → y ≡ Some z → wrote p o ≡ runtable.store_of x σ.runs r → turned (Ok (added z σ)) o m ≡ turn_of σ (add_of s t n j σ) r m
      run-added z p o h w =
          ap (λ (l : List ℕ). turned (Ok (added z σ)) l m) (ap table_of w) ∙ ap (λ y. turn_of σ (add_to x y) r m) (sym h) ∙ by_end

  -- ANY ROW

  module _ (a : Turned) (b : Bool) (e : b ≡ stands t moof j) where
    pub is-moof : b ≡ true → a ≡ turn_of σ (begin_of s t n j) r m → a ≡ turn_of σ (move_of s t n j σ) r m
    unfolding move_of
    is-moof q w = w ∙ ap (λ (x : Move). turn_of σ x r m) (by-true _ _ _ (stands t moof j) (sym e ∙ q) refl)

    module _ (q : b ≡ false) where
      pub is-outside : σ.inside ≡ false → a ≡ turn_of σ still r m → a ≡ turn_of σ (move_of s t n j σ) r m
      unfolding move_of
      is-outside h w = w ∙ ap (λ (x : Move). turn_of σ x r m) (by-false _ _ _ (stands t moof j) (sym e ∙ q) (by-false _ _ _ σ.inside h refl))

      module _ (h : σ.inside ≡ true) (c : Bool) (g : c ≡ stands t traf j) where
        pub is-traf : c ≡ true → a ≡ turn_of σ (add_of s t n j σ) r m → a ≡ turn_of σ (move_of s t n j σ) r m
        unfolding move_of
        is-traf o w =
            w
            ∙ ap (λ (x : Move). turn_of σ x r m)
            (by-false _ _ _ (stands t moof j) (sym e ∙ q) (by-true _ _ _ σ.inside h (by-true _ _ _ (stands t traf j) (sym g ∙ o) refl)))

        pub is-other : c ≡ false → a ≡ turn_of σ still r m → a ≡ turn_of σ (move_of s t n j σ) r m
        unfolding move_of
        is-other o w =
            w
            ∙ ap (λ (x : Move). turn_of σ x r m)
            (by-false _ _ _ (stands t moof j) (sym e ∙ q) (by-true _ _ _ σ.inside h (by-false _ _ _ (stands t traf j) (sym g ∙ o) refl)))
