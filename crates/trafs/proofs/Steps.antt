-- The run of a traf, box after box: each law takes the proof of what comes after. Assumes nothing.
use Rattle.std.specs.Prelude.{Result, Ok, Err}
use mathlib.Core.Path.{◌≡◌, refl, sym, ap, ◌∙◌}
use mathlib.Core.List.{List}
use mathlib.Core.Bool.{Bool}
use Prim.Native.Nat.{ℕ, ◌+◌, ◌-◌, ◌<◌, ◌≤◌}
use lib.Dec.{ltb}
use Rattle.numbers.specs.Field.{when}
use Rattle.numbers.specs.declared.Refusal.TheVariants as refusal
use Rattle.numbers.proofs.Chain.{is_eq, is_ne, is_lt, not-lt}
use Rattle.samples.specs.Lists.{end_bound}
use Rattle.parts.specs.Parts.{part_of}
use Rattle.places.specs.Kinds.{tfhd, tfdt, trun}
use Rattle.kin.specs.Kin.{Boxes, at}
use Rattle.inside.specs.Inside.{child}
use Rattle.numbers.specs.declared.Refusal.{Refusal}
use Rattle.tfhd.specs.Tfhd.{tfhd_of}
use Rattle.tfhd.specs.declared.Tfhd.{Tfhd}
use Rattle.trex.specs.declared.Trex.{Trex}
use Rattle.tfdt.specs.Tfdt.{tfdt_of}
use Rattle.tfdt.specs.declared.Tfdt.{Tfdt}
use Rattle.trun.specs.Trun.{trun_of}
use Rattle.trun.specs.declared.Trun.{Trun}
use Rattle.runstarts.specs.Make.{base_of, make_of}
use Rattle.trafs.specs.Trafs.{of_box, bytes_of, trex_by, with_tfhd, with_trex, with_tfdt, with_trun, lacking, run_of}
use Rattle.runs.specs.declared.Run.{Run}

-- WHAT THE TABLES SAY OF A BOX

module _ (column : List ℕ) (p : ℕ) where
  pub of_none : p ≡ 0 → 0 ≡ of_box column p
  of_none h = is_eq _ _ _ p 0 h refl

  pub of-past : (p ≡ 0 → ⊥) → 4096 < p → 0 ≡ of_box column p
  of-past o h = is_ne _ _ _ p 0 o (is_lt _ _ _ 4096 p h refl)

  pub of_row : (p ≡ 0 → ⊥) → p ≤ 4096 → at column (p - 1) ≡ of_box column p
  of_row o h = is_ne _ _ _ p 0 o (not-lt _ _ _ 4096 p h refl)

-- the bytes of a box, by the name that was found for it
pub part-of : (s part : List ℕ) (t : Boxes) (p q start size : ℕ) → part ≡ part_of start size s → start ≡ of_box t.starts p → size ≡ of_box t.sizes p → p ≡ q → part ≡ bytes_of s t q
part-of s part t p q start size e a b g = e ∙ rw (a, b, g)

-- BOX AFTER BOX

module _ (z without : Result Run Refusal) where
  module _ (f r : Result Tfhd Refusal) (go : Tfhd → Result Run Refusal) (e : r ≡ f) where
    tfhd-has : (h : Tfhd) → r ≡ Ok h → z ≡ go h → z ≡ with_tfhd f without go
    tfhd-has h q w = w ∙ ap (λ f. with_tfhd f without go) (sym q ∙ e)

    tfhd-lacks : (q : Refusal) → r ≡ Err q → z ≡ without → z ≡ with_tfhd f without go
    tfhd-lacks q o w = w ∙ ap (λ f. with_tfhd f without go) (sym o ∙ e)

  module _ (f r : Result Trex Refusal) (go : Trex → Result Run Refusal) (e : r ≡ f) where
    trex-has : (x : Trex) → r ≡ Ok x → z ≡ go x → z ≡ with_trex f without go
    trex-has x q w = w ∙ ap (λ f. with_trex f without go) (sym q ∙ e)

    trex-lacks : (q : Refusal) → r ≡ Err q → z ≡ without → z ≡ with_trex f without go
    trex-lacks q o w = w ∙ ap (λ f. with_trex f without go) (sym o ∙ e)

  module _ (f r : Result Tfdt Refusal) (go : Tfdt → Result Run Refusal) (e : r ≡ f) where
    tfdt-has : (d : Tfdt) → r ≡ Ok d → z ≡ go d → z ≡ with_tfdt f without go
    tfdt-has d q w = w ∙ ap (λ f. with_tfdt f without go) (sym q ∙ e)

    tfdt-lacks : (q : Refusal) → r ≡ Err q → z ≡ without → z ≡ with_tfdt f without go
    tfdt-lacks q o w = w ∙ ap (λ f. with_tfdt f without go) (sym o ∙ e)

  module _ (f r : Result (Trun × ℕ) Refusal) (go : Trun → ℕ → Result Run Refusal) (e : r ≡ f) where
    trun-has : (m : Trun) (place : ℕ) → r ≡ Ok (m, place) → z ≡ go m place → z ≡ with_trun f without go
    trun-has m place q w = w ∙ ap (λ f. with_trun f without go) (sym q ∙ e)

    trun-lacks : (q : Refusal) → r ≡ Err q → z ≡ without → z ≡ with_trun f without go
    trun-lacks q o w = w ∙ ap (λ f. with_trun f without go) (sym o ∙ e)

-- THE RUN

module _ (s : List ℕ) (t : Boxes) (n traf moof : ℕ) (first : Bool) (previous : ℕ) (z : Result Run Refusal) (hs : Result Tfhd Refusal) (eh : hs ≡ tfhd_of (bytes_of s t (child t n tfhd traf))) where
  pub no-tfhd : (q : Refusal) → hs ≡ Err q → z ≡ lacking t traf → z ≡ run_of s t n traf moof first previous
  unfolding run_of
  no-tfhd q o w = tfhd-lacks z (lacking t traf) _ hs _ eh q o w

  module _ (h : Tfhd) (qh : hs ≡ Ok h) (xs : Result Trex Refusal) (ex : xs ≡ trex_by s t n h.track_id) where
    pub no-trex : (q : Refusal) → xs ≡ Err q → z ≡ lacking t traf → z ≡ run_of s t n traf moof first previous
    unfolding run_of
    no-trex q o w = tfhd-has z (lacking t traf) _ hs _ eh h qh (trex-lacks z (lacking t traf) _ xs _ ex q o w)

    module _ (x : Trex) (qx : xs ≡ Ok x) (ds : Result Tfdt Refusal) (ed : ds ≡ tfdt_of (bytes_of s t (child t n tfdt traf))) where
      pub no-tfdt : (q : Refusal) → ds ≡ Err q → z ≡ lacking t traf → z ≡ run_of s t n traf moof first previous
      unfolding run_of
      no-tfdt q o w = tfhd-has z (lacking t traf) _ hs _ eh h qh (trex-has z (lacking t traf) _ xs _ ex x qx (tfdt-lacks z (lacking t traf) _ ds _ ed q o w))

      module _ (d : Tfdt) (qd : ds ≡ Ok d) (ms : Result (Trun × ℕ) Refusal) (em : ms ≡ trun_of (bytes_of s t (child t n trun traf))) where
        pub no-trun : (q : Refusal) → ms ≡ Err q → z ≡ lacking t traf → z ≡ run_of s t n traf moof first previous
        unfolding run_of
        no-trun q o w = tfhd-has z (lacking t traf) _ hs _ eh h qh (trex-has z (lacking t traf) _ xs _ ex x qx (tfdt-has z (lacking t traf) _ ds _ ed d qd (trun-lacks z (lacking t traf) _ ms _ em q o w)))

        module _ (m : Trun) (place start : ℕ) (qm : ms ≡ Ok (m, place)) (es : start ≡ of_box t.starts (child t n trun traf)) where
          step : z ≡ when (ltb (start + place) end_bound) (make_of h x d m (start + place) (base_of h moof first previous)) (Err refusal.Overflow) → z ≡ run_of s t n traf moof first previous
          unfolding run_of
          step w =
              tfhd-has z (lacking t traf) _ hs _ eh h qh (trex-has z (lacking t traf) _ xs _ ex x qx (tfdt-has z (lacking t traf) _ ds _ ed d qd (trun-has z (lacking t traf) _ ms _ em m place qm
              (w ∙ ap (λ (a : ℕ). when (ltb (a + place) end_bound) (make_of h x d m (a + place) (base_of h moof first previous)) (Err refusal.Overflow)) es))))

          pub too_far : end_bound ≤ start + place → z ≡ Err refusal.Overflow → z ≡ run_of s t n traf moof first previous
          too_far l w = step (not-lt _ _ _ (start + place) end_bound l w)

          pub made : (base : ℕ) → start + place < end_bound → base ≡ base_of h moof first previous → z ≡ make_of h x d m (start + place) base → z ≡ run_of s t n traf moof first previous
          made base l b w = step (is_lt _ _ _ (start + place) end_bound l (w ∙ ap (make_of h x d m (start + place)) b))
