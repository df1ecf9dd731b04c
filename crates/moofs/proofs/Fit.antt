-- The numbers of the runs and moofs that are told have as many bits as their fields, since the readers say so. Assumes
-- nothing.
use Rattle.std.specs.Prelude.{Result, Option, Ok, Err, Some, None}
use Prim.Native.Nat.{ℕ, zero, suc, ◌+◌, ◌^◌, ◌<◌, min}
use mathlib.Core.Path.{◌≡◌, refl, sym, ap, subst, ◌∙◌}
use mathlib.Core.List.{List}
use mathlib.Core.Bool.{Bool, true, false}
use native.Mathlib.Omega.{arith}
use lib.ListN.{take}
use lib.Dec.{ltb}
use lib.IntN.{ℤ, pos, negsuc, ◌+ℤ◌}
use Rattle.numbers.specs.Field.{when}
use Rattle.numbers.specs.declared.Refusal.TheVariants as refusal
use Rattle.numbers.specs.declared.Refusal.{Refusal}
use Rattle.numbers.proofs.Chain.{through}
use Rattle.samples.specs.Lists.{end_bound, time_bound}
use Rattle.layout.specs.Rule.{rule_of, is_set}
use Rattle.layout.specs.Read.{read_of, answer}
use Rattle.layout.specs.Table.{cut_of, uncut, tabled}
use Rattle.layout.specs.Canonical.{most, limit}
use Rattle.layout.specs.declared.read.Fields.{Fields}
use Rattle.rounds.proofs.Boxes.{fits}
use Rattle.places.specs.Kinds.{moof, traf, mfhd, tfhd, tfdt, trun}
use Rattle.kin.specs.Kin.{Boxes, at, stands}
use Rattle.inside.specs.Inside.{child}
use Rattle.mfhd.specs.Mfhd as mfhd-box
use Rattle.mfhd.specs.declared.Mfhd.{Mfhd}
use Rattle.tfhd.specs.Tfhd as tfhd-box
use Rattle.tfhd.specs.declared.Tfhd.{Tfhd}
use Rattle.trex.specs.Trex as trex-box
use Rattle.trex.specs.declared.Trex.{Trex}
use Rattle.tfdt.specs.Tfdt as tfdt-box
use Rattle.tfdt.specs.declared.Tfdt.{Tfdt}
use Rattle.trun.specs.Trun as trun-box
use Rattle.trun.specs.declared.Trun.{Trun}
use Rattle.runstarts.specs.Make as make
use Rattle.runs.specs.Samples.{end_of}
use Rattle.runs.specs.declared.Run.{Run}
use Rattle.trafs.specs.Trafs.{of_box, bytes_of, trex_by, with_tfhd, with_trex, with_tfdt, with_trun, run_of}
use Rattle.runtable.proofs.Back as run-back
use Rattle.mooftable.proofs.Back as moof-back
use Rattle.mooftable.specs.declared.Moof.{Moof}
use Rattle.moofs.specs.Moofs.{Fragment, all, with_number, fragments_of, all_runs, moofs_from}
use Rattle.moofs.specs.Walk.{Move, still, begins, adds, stop, row, begun, added, begin_of, add_to, add_by, add_of, move_of, Plan, plan, none, run_first, moof_first, left_by, left_in, plan_of}
use Rattle.moofs.specs.declared.State.{State}
use Rattle.moofs.proofs.Left.{all_left}
use Rattle.moofs.proofs.Few.{fresh}
use Rattle.moofs.proofs.Back.{RunsFit, MoofsFit}

-- WHAT WAS READ

pub record TfhdFits (h : Tfhd) : Type 0 where
  pub track : h.track_id < 2 ^ 32
  pub duration : h.default_sample_duration < 2 ^ 32
  pub size : h.default_sample_size < 2 ^ 32
  pub flags : h.default_sample_flags < 2 ^ 32

tfhd-fits : (b : List ℕ) (h : Tfhd) → tfhd-box.tfhd_of b ≡ Ok h → TfhdFits h
unfolding limit most rule_of when
tfhd-fits b h e = by (read_of tfhd-box.kind tfhd-box.fields b) refl e
  where
    by : (r : Result Fields Refusal) → read_of tfhd-box.kind tfhd-box.fields b ≡ r → answer tfhd-box.from r ≡ Ok h → TfhdFits h
    by (Ok f) g e =
        let z : tfhd-box.from f.values ≡ h = cc e in
        record {
          track = omega (arith, ap (λ (h : Tfhd). h.track_id) z, fits tfhd-box.kind tfhd-box.fields b 2 4294967295 f g refl);
          duration = omega (arith, ap (λ (h : Tfhd). h.default_sample_duration) z, fits tfhd-box.kind tfhd-box.fields b 5 4294967295 f g refl);
          size = omega (arith, ap (λ (h : Tfhd). h.default_sample_size) z, fits tfhd-box.kind tfhd-box.fields b 6 4294967295 f g refl);
          flags = omega (arith, ap (λ (h : Tfhd). h.default_sample_flags) z, fits tfhd-box.kind tfhd-box.fields b 7 4294967295 f g refl);
        }
    by (Err q) g e = let z : ◌≡◌ {A = ℕ} 0 1 = cc e in absurd (omega arith)

pub record TrexFits (x : Trex) : Type 0 where
  pub duration : x.default_sample_duration < 2 ^ 32
  pub size : x.default_sample_size < 2 ^ 32
  pub flags : x.default_sample_flags < 2 ^ 32

trex-fits : (b : List ℕ) (x : Trex) → trex-box.trex_of b ≡ Ok x → TrexFits x
unfolding limit most rule_of when
trex-fits b x e = by (read_of trex-box.kind trex-box.fields b) refl e
  where
    by : (r : Result Fields Refusal) → read_of trex-box.kind trex-box.fields b ≡ r → answer trex-box.from r ≡ Ok x → TrexFits x
    by (Ok f) g e =
        let z : trex-box.from f.values ≡ x = cc e in
        record {
          duration = omega (arith, ap (λ (x : Trex). x.default_sample_duration) z, fits trex-box.kind trex-box.fields b 4 4294967295 f g refl);
          size = omega (arith, ap (λ (x : Trex). x.default_sample_size) z, fits trex-box.kind trex-box.fields b 5 4294967295 f g refl);
          flags = omega (arith, ap (λ (x : Trex). x.default_sample_flags) z, fits trex-box.kind trex-box.fields b 6 4294967295 f g refl);
        }
    by (Err q) g e = let z : ◌≡◌ {A = ℕ} 0 1 = cc e in absurd (omega arith)

pub record TrunFits (m : Trun) : Type 0 where
  pub version : m.version < 2 ^ 8
  pub flags : m.flags < 2 ^ 32
  pub count : m.sample_count < 2 ^ 32
  pub offset : m.data_offset < 2 ^ 32
  pub first : m.first_sample_flags < 2 ^ 32

trun-fits : (b : List ℕ) (m : Trun) (place : ℕ) → trun-box.trun_of b ≡ Ok (m, place) → TrunFits m
unfolding limit most rule_of when
trun-fits b m place e = by (read_of trun-box.kind trun-box.fields b) refl e
  where
    by-table : (f : Fields) → read_of trun-box.kind trun-box.fields b ≡ Ok f → (c : Option ℕ) → uncut {R = Trun × ℕ} (trun-box.from f.values, f.place) c ≡ Ok (m, place) → TrunFits m
    by-table f g None e =
        let y : ◌≡◌ {A = Trun × ℕ} (trun-box.from f.values, f.place) (m, place) = cc e in
        let z : trun-box.from f.values ≡ m = ap (λ (x : Trun × ℕ). x.0) y in
        record {
          version = omega (arith, ap (λ (m : Trun). m.version) z, fits trun-box.kind trun-box.fields b 0 1 f g refl);
          flags = omega (arith, ap (λ (m : Trun). m.flags) z, fits trun-box.kind trun-box.fields b 1 16777215 f g refl);
          count = omega (arith, ap (λ (m : Trun). m.sample_count) z, fits trun-box.kind trun-box.fields b 2 4294967295 f g refl);
          offset = omega (arith, ap (λ (m : Trun). m.data_offset) z, fits trun-box.kind trun-box.fields b 3 4294967295 f g refl);
          first = omega (arith, ap (λ (m : Trun). m.first_sample_flags) z, fits trun-box.kind trun-box.fields b 4 4294967295 f g refl);
        }
    by-table f g (Some p) e = let z : ◌≡◌ {A = ℕ} 0 1 = cc e in absurd (omega arith)

    by : (r : Result Fields Refusal) → read_of trun-box.kind trun-box.fields b ≡ r → tabled trun-box.from trun-box.cells 4 b r ≡ Ok (m, place) → TrunFits m
    by (Ok f) g e = by-table f g (cut_of (trun-box.cells (trun-box.from f.values)) 4 (take f.end b) f.place) e
    by (Err q) g e = let z : ◌≡◌ {A = ℕ} 0 1 = cc e in absurd (omega arith)

mfhd-fits : (b : List ℕ) (h : Mfhd) → mfhd-box.mfhd_of b ≡ Ok h → h.sequence_number < 2 ^ 32
unfolding limit most rule_of when
mfhd-fits b h e = by (read_of mfhd-box.kind mfhd-box.fields b) refl e
  where
    by : (r : Result Fields Refusal) → read_of mfhd-box.kind mfhd-box.fields b ≡ r → answer mfhd-box.from r ≡ Ok h → h.sequence_number < 2 ^ 32
    by (Ok f) g e =
        let z : mfhd-box.from f.values ≡ h = cc e in
        omega (arith, ap (λ (h : Mfhd). h.sequence_number) z, fits mfhd-box.kind mfhd-box.fields b 2 4294967295 f g refl)
    by (Err q) g e = let z : ◌≡◌ {A = ℕ} 0 1 = cc e in absurd (omega arith)

-- A RUN

abbrev MadeFits : Result Run Refusal → Type 0
MadeFits (Ok r) = run-back.Fits r
MadeFits (Err q) = Unit {0}

one_below : (t : Bool) (a b : ℕ) → a < 2 ^ 32 → b < 2 ^ 32 → when t a b < 2 ^ 32
unfolding when
one_below true a b h k = h
one_below false a b h k = k

by-test : (t : Bool) (d : Result Run Refusal) (q : Refusal) → MadeFits d → MadeFits (when t d (Err q))
unfolding when
by-test true d q w = w
by-test false d q w = tt

-- a run that begins somewhere, whatever its start is
module _ (go : ℕ → Run) (w : (s : ℕ) → run-back.Fits (go s)) where
  by-position : (z : ℤ) → MadeFits (make.made_by go (make.position z))
  by-position (pos n) =
      let e : make.made_by go (make.position (pos n)) ≡ when (ltb n end_bound) (Ok (go n)) (Err refusal.Overflow) = through (make.made_by go) (ltb n end_bound) _ _ in
      subst MadeFits (sym e) (by-test (ltb n end_bound) (Ok (go n)) refusal.Overflow (w n))
  by-position (negsuc k) = tt

  by-offset : (base : ℕ) (o : Option ℤ) → MadeFits (make.made_by go (make.start_by base o))
  by-offset base None = w base
  by-offset base (Some z) = by-position (pos base +ℤ z)

make-fits : (h : Tfhd) (x : Trex) (d : Tfdt) (m : Trun) (a base : ℕ) → TfhdFits h → TrexFits x → TrunFits m → MadeFits (make.make_of h x d m a base)
make-fits h x d m a base fh fx fm =
    by-test (ltb d.base_media_decode_time time_bound) (make.made_by (make.run_of h x d m a) (make.start_of m base)) refusal.Overflow
    (by-offset (make.run_of h x d m a) fit base (trun-box.offset_of m))
  where
    fit : (s : ℕ) → run-back.Fits (make.run_of h x d m a s)
    fit s =
        record {
          track = fh.track;
          version = fm.version;
          set = fm.flags;
          count = fm.count;
          offset = fm.offset;
          first = fm.first;
          duration = one_below (is_set h.flags make.default_duration_bit) _ _ fh.duration fx.duration;
          size = one_below (is_set h.flags make.default_size_bit) _ _ fh.size fx.size;
          flags = one_below (is_set h.flags make.default_flags_bit) _ _ fh.flags fx.flags;
        }

by-tfhd : (f : Result Tfhd Refusal) (q : Refusal) (go : Tfhd → Result Run Refusal) → ((h : Tfhd) → f ≡ Ok h → MadeFits (go h)) → MadeFits (with_tfhd f (Err q) go)
by-tfhd (Ok h) q go w = w h refl
by-tfhd (Err p) q go w = tt

by-trex : (f : Result Trex Refusal) (q : Refusal) (go : Trex → Result Run Refusal) → ((x : Trex) → f ≡ Ok x → MadeFits (go x)) → MadeFits (with_trex f (Err q) go)
by-trex (Ok x) q go w = w x refl
by-trex (Err p) q go w = tt

by-tfdt : (f : Result Tfdt Refusal) (q : Refusal) (go : Tfdt → Result Run Refusal) → ((d : Tfdt) → MadeFits (go d)) → MadeFits (with_tfdt f (Err q) go)
by-tfdt (Ok d) q go w = w d
by-tfdt (Err p) q go w = tt

by-trun : (f : Result (Trun × ℕ) Refusal) (q : Refusal) (go : Trun → ℕ → Result Run Refusal) → ((m : Trun) (place : ℕ) → f ≡ Ok (m, place) → MadeFits (go m place)) → MadeFits (with_trun f (Err q) go)
by-trun (Ok (m, place)) q go w = w m place refl
by-trun (Err p) q go w = tt

run_fits : (s : List ℕ) (t : Boxes) (n p start : ℕ) (first : Bool) (previous : ℕ) → MadeFits (run_of s t n p start first previous)
unfolding run_of
run_fits s t n p start first previous =
    let q = refusal.Value (of_box t.starts p) in
    by-tfhd (tfhd-box.tfhd_of (bytes_of s t (child t n tfhd p))) q _
    (λ h eh. by-trex (trex_by s t n h.track_id) q _
    (λ x ex. by-tfdt (tfdt-box.tfdt_of (bytes_of s t (child t n tfdt p))) q _
    (λ d. by-trun (trun-box.trun_of (bytes_of s t (child t n trun p))) q _
    (λ m place em. by-test (ltb (of_box t.starts (child t n trun p) + place) end_bound) _ refusal.Overflow
    (make-fits h x d m _ _ (tfhd-fits _ h eh) (trex-fits _ x ex) (trun-fits _ m place em))))))

-- A ROW

abbrev MoveFits : Move → Type 0
MoveFits still = Unit {0}
MoveFits (begins start number) = number < 2 ^ 32
MoveFits (adds r e) = run-back.Fits r
MoveFits (stop q) = Unit {0}

begin-fits : (s : List ℕ) (t : Boxes) (n j : ℕ) → MoveFits (begin_of s t n j)
unfolding begin_of
begin-fits s t n j = by (mfhd-box.mfhd_of (bytes_of s t (child t n mfhd (j + 1)))) (λ h e. mfhd-fits _ h e)
  where
    by : (f : Result Mfhd Refusal) → ((h : Mfhd) → f ≡ Ok h → h.sequence_number < 2 ^ 32) → MoveFits (with_number f (stop (refusal.Value (at t.starts j))) (begins (at t.starts j)))
    by (Ok h) w = w h refl
    by (Err q) w = tt

add-fits : (s : List ℕ) (t : Boxes) (n j : ℕ) (σ : State) → MoveFits (add_of s t n j σ)
unfolding add_of
add-fits s t n j σ = by (run_of s t n (j + 1) σ.start σ.first σ.previous) (run_fits s t n (j + 1) σ.start σ.first σ.previous)
  where
    by_end : (r : Run) (y : Option ℕ) → run-back.Fits r → MoveFits (add_to r y)
    by_end r (Some e) w = w
    by_end r None w = tt

    by : (d : Result Run Refusal) → MadeFits d → MoveFits (add_by s d)
    by (Ok r) w = by_end r (end_of s r) w
    by (Err q) w = tt

move-fits : (s : List ℕ) (t : Boxes) (n j : ℕ) (σ : State) → MoveFits (move_of s t n j σ)
unfolding move_of when
move-fits s t n j σ = by (stands t moof j) σ.inside (stands t traf j)
  where
    by : (a b c : Bool) → MoveFits (when a (begin_of s t n j) (when b (when c (add_of s t n j σ) still) still))
    by true b c = begin-fits s t n j
    by false true true = add-fits s t n j σ
    by false true false = tt
    by false false c = tt

-- ALL ROWS

abbrev PlanFits : Plan → Type 0
PlanFits (plan rs ms) = RunsFit rs × MoofsFit ms
PlanFits (none q) = Unit {0}

first_run : (r : Run) (p : Plan) → run-back.Fits r → PlanFits p → PlanFits (run_first r p)
first_run r (plan rs ms) h w = ((h, w.0), w.1)
first_run r (none q) h w = tt

first-moof : (m : Moof) (p : Plan) → moof-back.Fits m → PlanFits p → PlanFits (moof_first m p)
first-moof m (plan rs ms) h w = (w.0, (h, w.1))
first-moof m (none q) h w = tt

one-fits : (σ : State) (mv : Move) (go : State → Plan) → MoveFits mv → ((o : State) → PlanFits (go o)) → PlanFits (left_by σ mv go)
one-fits σ still go h w = w σ
one-fits σ (begins start number) go h w = first-moof (row start number σ.runs) (go (begun start σ)) (record { number = h }) (w (begun start σ))
one-fits σ (adds r e) go h w = first_run r (go (added e σ)) h (w (added e σ))
one-fits σ (stop q) go h w = tt

module _ (s : List ℕ) (t : Boxes) (n : ℕ) where
  left-fits : (k j : ℕ) (σ : State) → PlanFits (left_in s t n k j σ)
  unfolding left_in
  left-fits zero j σ = (tt, tt)
  left-fits (suc k) j σ = one-fits σ (move_of s t n j σ) (left_in s t n k (j + 1)) (move-fits s t n j σ) (left-fits k (j + 1))

  pub all_fit : (fs : List Fragment) → fragments_of s t n ≡ all fs → RunsFit (all_runs fs) × MoofsFit (moofs_from 0 fs)
  unfolding plan_of
  all_fit fs e = subst PlanFits (all_left s t n (min n 4096) fresh refl refl ∙ ap plan_of e) (left-fits (min n 4096) 0 fresh)
