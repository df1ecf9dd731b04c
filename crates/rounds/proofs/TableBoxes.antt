-- Boxes with a table in place: what is written reads back the same, and a canonical box gives its own bytes. Assumes nothing.
use Rattle.std.specs.Prelude.{Option, Result, Ok, Err, Some, None}
use mathlib.Core.Path.{◌≡◌, refl, sym, ap, ap₂, ◌∙◌}
use mathlib.Core.List.{List, [], ◌∷◌, ◌++◌}
use mathlib.Core.Bool.{Bool, true, false}
use Prim.Native.Nat.{ℕ, zero, suc, ◌+◌, ◌*◌, ◌-◌, ◌/◌, ◌%◌, ◌≤◌, ◌<◌}
use native.Mathlib.Nat.{suc-mul}
use native.Mathlib.Omega.{arith}
use lib.ListN.{length, get_or, take, drop, length-drop}
use lib.Seq.{sets, take-length}
use lib.Dec.{eqb, ltb, leb}
use borrow.Author.Tests.{lt-ltb, le-ltb, eq-eqb, ne_eqb, eqb-true}
use Rattle.numbers.specs.Field.{when}
use Rattle.numbers.specs.declared.Refusal.TheVariants as refusal
use Rattle.numbers.specs.declared.Refusal.{Refusal}
use Rattle.put.specs.Put.{Wrote, wrote}
use Rattle.layout.specs.Read.{read_of, zeros}
use Rattle.layout.specs.Write.{write_of}
use Rattle.layout.specs.Canonical.{Canonical, slots, firsts}
use Rattle.layout.specs.Table.{cut_of, uncut, tabled, write_table}
use Rattle.layout.specs.declared.Field.{Field}
use Rattle.layout.specs.declared.read.Fields.{Fields}
use Rattle.rounds.proofs.Boxes.{reads-back, own_read, own-bytes, fields_in, same_read}

pub holds : (n w : ℕ) (b : List ℕ) (at : ℕ) → at + n * w ≤ length b → cut_of n w b at ≡ None
unfolding cut_of when
holds zero w b at h = refl
holds (suc n) w b at h =
    let m : suc n * w ≡ n * w + w = suc-mul n w in
    simp (le-ltb (length b) (at + w) (omega arith)) (holds n w b (at + w) (omega arith))

pub as_many : (kind : ℕ) (fs : List Field) (xs : List ℕ) (size : ℕ) (rows buf : List ℕ) (k : ℕ) (out : List ℕ) → write_table kind fs xs size rows buf ≡ wrote (Ok k) out →
    (length rows ≡ size) × (write_of kind fs xs rows buf ≡ wrote (Ok k) out)
unfolding when
as_many kind fs xs size rows buf k out e = by (eqb (length rows) size) refl e
  where
    by : (t : Bool) → eqb (length rows) size ≡ t → when t (write_of kind fs xs rows buf) (wrote (Err refusal.Unwritable) buf) ≡ wrote (Ok k) out →
        (length rows ≡ size) × (write_of kind fs xs rows buf ≡ wrote (Ok k) out)
    by true q e = (eqb-true (length rows) size q, e)
    by false q e = let z : ◌≡◌ {A = ℕ} 0 1 = cc in absurd (omega arith)

module _ {M : Type 0} (from : List ℕ → M) (n : M → ℕ) (w : ℕ) (b : List ℕ) where
  -- the record that a table's value was made of
  pub whole_of : (r : Result Fields Refusal) (m : M) (p : ℕ) → tabled from n w b r ≡ Ok (m, p) → (f : Fields) × (r ≡ Ok f) × (from f.values ≡ m) × (f.place ≡ p)
  whole_of (Ok f) m p e = by (cut_of (n (from f.values)) w (take f.end b) f.place) e
    where
      by : (c : Option ℕ) → uncut {R = M × ℕ} (from f.values, f.place) c ≡ Ok (m, p) → (g : Fields) × (◌≡◌ {A = Result Fields Refusal} (Ok f) (Ok g)) × (from g.values ≡ m) × (g.place ≡ p)
      by None q = let z : ◌≡◌ {A = M × ℕ} (from f.values, f.place) (m, p) = cc q in (f, refl, ap (λ (x : M × ℕ). x.0) z, ap (λ (x : M × ℕ). x.1) z)
      by (Some k) q = let z : ◌≡◌ {A = ℕ} 0 1 = cc q in absurd (omega arith)
  whole_of (Err q) m p e = let z : ◌≡◌ {A = ℕ} 0 1 = cc e in absurd (omega arith)

module _ {M : Type 0} (from : List ℕ → M) (to : M → List ℕ) (n : M → ℕ) (w : ℕ) (kind : ℕ) (fs : List Field) where
  pub table-back : kind < 4294967296 → ((m : M) → from (sets (zeros 24) 0 (firsts (slots fs) 0 (to m))) ≡ m) →
      (m : M) (rows buf : List ℕ) (k : ℕ) (out : List ℕ) → write_table kind fs (to m) (n m * w) rows buf ≡ wrote (Ok k) out →
      (e : ℕ) × (tabled from n w (take k out) (read_of kind fs (take k out)) ≡ Ok (m, e)) × (drop e (take k out) ≡ rows)
  table-back hk ft m rows buf k out t =
      let a = as_many kind fs (to m) (n m * w) rows buf k out t in
      let p = reads-back kind fs (to m) rows buf k out hk a.1 in
      let o = take k out in
      let g = fields_in (length o) p.0 (firsts (slots fs) 0 (to m)) in
      let c : cut_of (n (from g.values)) w (take (length o) o) p.0 ≡ None =
      ap₂ (λ (m : M) (l : List ℕ). cut_of (n m) w l p.0) (ft m) (take-length o) ∙ holds (n m) w (take k out) p.0 (omega (arith, a.0, p.3)) in
      (p.0, ap (tabled from n w o) p.1 ∙ ap (uncut (from g.values, p.0)) c ∙ ap (λ (m : M). Ok (m, p.0)) (ft m), p.2)

  pub table-own : ((vs : List ℕ) → firsts (slots fs) 0 (to (from vs)) ≡ firsts (slots fs) 0 vs) → slots fs ≤ 24 →
      (b : List ℕ) (m : M) (p : ℕ) → Canonical kind fs (n m * w) b → tabled from n w b (read_of kind fs b) ≡ Ok (m, p) → (buf : List ℕ) → length b ≤ length buf →
      write_table kind fs (to m) (n m * w) (drop p b) buf ≡ wrote (Ok (length b)) (b ++ drop (length b) buf)
  unfolding when
  table-own tf hs b m p c a buf hl =
      let o = own_read kind fs (n m * w) b c in
      let q = whole_of from n w b (read_of kind fs b) m p a in
      let f = q.0 in
      let own : f ≡ fields_in (length b) c.end c.values = same_read f (fields_in (length b) c.end c.values) (sym q.1 ∙ o) in
      let e : p ≡ c.end = sym q.3 ∙ ap (λ r. r.place) own in
      let l : length (drop p b) ≡ n m * w = length-drop p b ∙ (let z : length b - p ≡ n m * w = omega (arith, c.rest) in z) in
      simp (eq-eqb (length (drop p b)) (n m * w) l)
      (ap (λ p. write_of kind fs (to m) (drop p b) buf) (sym q.3)
      ∙ own-bytes kind fs (n m * w) b c f q.1 (to m) buf hs (ap (λ m. firsts (slots fs) 0 (to m)) (sym q.2) ∙ tf f.values) hl)
