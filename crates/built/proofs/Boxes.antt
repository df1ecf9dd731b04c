-- A box that is written around entries, and stands in a file, reads back there: its record, and where its entries stand.
-- Assumes nothing.
use Rattle.std.specs.Prelude.{Result, Ok, Err, Some, None}
use Prim.Native.Nat.{ℕ, ◌+◌, ◌-◌, ◌*◌, ◌^◌, ◌≤◌, ◌<◌}
use mathlib.Core.Path.{◌≡◌, refl, sym, ap, ap₂, ◌∙◌}
use mathlib.Core.List.{List, ◌++◌, append_assoc}
use native.Mathlib.Omega.{arith}
use lib.ListN.{length, take, drop, length-append, take-append-drop}
use lib.Seq.{sets, take-length, take_at, drop_at, length-take-le}
use borrow.Author.Tests.{le-leb}
use Rattle.numbers.specs.Field.{when}
use Rattle.numbers.specs.declared.Refusal.{Refusal}
use Rattle.parts.specs.Parts.{part_of}
use Rattle.put.specs.Put.{wrote}
use Rattle.layout.specs.Read.{read_of, zeros}
use Rattle.layout.specs.Canonical.{slots, firsts}
use Rattle.layout.specs.Table.{cut_of, uncut, tabled, write_table}
use Rattle.layout.specs.declared.Field.{Field}
use Rattle.rows.specs.Judge.{settle, judged_of, write_judged}
use Rattle.rows.proofs.Moved.{moved}
use Rattle.rounds.proofs.Boxes.{reads-back, fields_in}
use Rattle.rounds.proofs.TableBoxes.{holds, as_many}
use Rattle.rounds.proofs.JudgedBoxes.{sound}
use Rattle.stbl.specs.Stbl.{last, entries_at, fault_in, missing, table_in, optional_in, entries_in}
use Rattle.built.specs.Written.{Stands}

-- the bytes of a box are read as a record, with the entries from a place in it up to its end
pub record Reads {R : Type 0} (got : R) (is : ℕ → R) (box entries : List ℕ) : Type 0 where
  pub place : ℕ
  pub reads : got ≡ is place
  pub ends : drop place box ≡ entries
  pub within : place + length entries ≡ length box

module _ {M : Type 0} (from : List ℕ → M) (to : M → List ℕ) (n : M → ℕ) (w : ℕ) (kind : ℕ) (fs : List Field) where
  pub table-reads : kind < 4294967296 → ((m : M) → from (sets (zeros 24) 0 (firsts (slots fs) 0 (to m))) ≡ m) →
      (m : M) (rows buf : List ℕ) (k : ℕ) (out : List ℕ) → write_table kind fs (to m) (n m * w) rows buf ≡ wrote (Ok k) out →
      (length rows ≡ n m * w) × Reads (tabled from n w (take k out) (read_of kind fs (take k out))) (λ b. Ok (m, b)) (take k out) rows
  table-reads hk ft m rows buf k out t =
      let a = as_many kind fs (to m) (n m * w) rows buf k out t in
      let p = reads-back kind fs (to m) rows buf k out hk a.1 in
      let o = take k out in
      let g = fields_in (length o) p.0 (firsts (slots fs) 0 (to m)) in
      let c : cut_of (n (from g.values)) w (take (length o) o) p.0 ≡ None =
      ap₂ (λ (m : M) (l : List ℕ). cut_of (n m) w l p.0) (ft m) (take-length o) ∙ holds (n m) w (take k out) p.0 (omega (arith, a.0, p.3)) in (
        a.0,
        record {
          place = p.0;
          reads = ap (tabled from n w o) p.1 ∙ ap (uncut (from g.values, p.0)) c ∙ ap (λ (m : M). Ok (m, p.0)) (ft m);
          ends = p.2;
          within = p.3;
        },
      )

module _ {M : Type 0} (from : List ℕ → M) (to : M → List ℕ) (size : M → ℕ) (judge : M → List ℕ → ℕ → Result (Unit {0}) Refusal)
    (move : (m : M) (s : ℕ) (b : List ℕ) → s ≤ length b → judge m b s ≡ moved s (judge m (drop s b) 0)) (kind : ℕ) (fs : List Field) where
  pub judged-reads : kind < 4294967296 → ((m : M) → from (sets (zeros 24) 0 (firsts (slots fs) 0 (to m))) ≡ m) →
      (m : M) (rows buf : List ℕ) (k : ℕ) (out : List ℕ) → write_judged kind fs (to m) (size m) (judge m rows 0) rows buf ≡ wrote (Ok k) out →
      (length rows ≡ size m) × Reads (judged_of from judge (take k out) (read_of kind fs (take k out))) (λ b. Ok (m, b)) (take k out) rows
  judged-reads hk ft m rows buf k out t =
      let a = sound kind fs (to m) (size m) (judge m rows 0) rows buf k out t in
      let p = reads-back kind fs (to m) rows buf k out hk a.2 in
      let o = take k out in
      let g = fields_in (length o) p.0 (firsts (slots fs) 0 (to m)) in
      let j : judge m (take k out) p.0 ≡ (Ok tt) =
      move m p.0 (take k out) (omega (arith, p.3)) ∙ ap (λ l. moved p.0 (judge m l 0)) p.2 ∙ ap (moved p.0) a.1 in
      let c : judge (from g.values) (take (length o) o) p.0 ≡ (Ok tt) = ap₂ (λ (m : M) (l : List ℕ). judge m l p.0) (ft m) (take-length o) ∙ j in (
        a.0,
        record {
          place = p.0;
          reads = ap (judged_of from judge o) p.1 ∙ ap (settle (Ok (from g.values, p.0)) Err) c ∙ ap (λ (m : M). Ok (m, p.0)) (ft m);
          ends = p.2;
          within = p.3;
        },
      )

-- IN A FILE

module _ (f box : List ℕ) (start : ℕ) (s : Stands f start box) where
  pub part-is : part_of start (length box) f ≡ box
  part-is =
      ap (take (length box)) (ap (drop start) s.there ∙ drop_at s.before (box ++ s.behind) start (sym s.place))
      ∙ take_at box s.behind (length box) refl

  module _ (entries : List ℕ) (place : ℕ) (d : drop place box ≡ entries) (n : place + length entries ≡ length box) where
    pub entries-stand : Stands f (start + place) entries
    entries-stand =
        let split : box ≡ take place box ++ entries = sym (take-append-drop place box) ∙ ap (λ (x : List ℕ). take place box ++ x) d in
        record {
          before = s.before ++ take place box;
          behind = s.behind;
          there = s.there ∙ ap (λ (x : List ℕ). s.before ++ (x ++ s.behind)) split ∙ ap (λ (x : List ℕ). s.before ++ x) (append_assoc (take place box) entries s.behind) ∙ sym (append_assoc s.before (take place box) (entries ++ s.behind));
          place = omega (arith, s.place, length-append s.before (take place box), length-take-le place box (omega arith));
        }

    pub in_reach : length f < 2 ^ 64 → start + place ≤ last
    in_reach h =
        let l : length f ≡ length s.before + (length box + length s.behind) = ap length s.there ∙ length-append s.before (box ++ s.behind) ∙ ap (λ (x : ℕ). length s.before + x) (length-append box s.behind) in
        omega (arith, s.place)

-- entries at a place that there is
module _ (start place count common : ℕ) (h : start + place ≤ last) where
  pub no-fault : fault_in (entries_at start place count common) ≡ (Ok tt)
  unfolding when
  no-fault = simp (le-leb (start + place) last h)

  pub not-missing : (kind : ℕ) → missing kind (entries_at start place count common) ≡ (Ok tt)
  unfolding when
  not-missing kind = simp (le-leb (start + place) last h)

  pub table-is-there : table_in (entries_at start place count common) ≡ record { at = start + place; count = count }
  unfolding when
  table-is-there = simp (le-leb (start + place) last h)

  pub optional-is-there : optional_in (entries_at start place count common) ≡ Some (record { at = start + place; count = count })
  unfolding when
  optional-is-there = simp (le-leb (start + place) last h)

  pub common-is-there : (entries_in (entries_at start place count common)).common ≡ common
  unfolding when
  common-is-there = simp (le-leb (start + place) last h)
