-- Boxes whose entries are judged: what is written reads back the same, and a canonical box gives its own bytes.
-- Assumes nothing.
use Rattle.std.specs.Prelude.{Result, Ok, Err}
use mathlib.Core.Path.{◌≡◌, refl, sym, ap, ap₂, ◌∙◌}
use mathlib.Core.List.{List, [], ◌∷◌, ◌++◌}
use mathlib.Core.Bool.{Bool, true, false}
use Prim.Native.Nat.{ℕ, zero, suc, ◌+◌, ◌-◌, ◌≤◌, ◌<◌}
use native.Mathlib.Omega.{arith}
use lib.ListN.{length, get_or, take, drop, length-drop}
use lib.Seq.{sets, take-length}
use lib.Dec.{eqb}
use borrow.Author.Tests.{eq-eqb, ne_eqb, eqb-true}
use Rattle.numbers.specs.Field.{when}
use Rattle.numbers.specs.declared.Refusal.TheVariants as refusal
use Rattle.numbers.specs.declared.Refusal.{Refusal}
use Rattle.put.specs.Put.{Wrote, wrote}
use Rattle.layout.specs.Read.{read_of, zeros}
use Rattle.layout.specs.Write.{write_of}
use Rattle.layout.specs.Canonical.{Canonical, slots, firsts}
use Rattle.layout.specs.declared.Field.{Field}
use Rattle.layout.specs.declared.read.Fields.{Fields}
use Rattle.rows.specs.Judge.{settle, judged_of, write_judged}
use Rattle.rows.proofs.Moved.{moved}
use Rattle.rounds.proofs.Boxes.{reads-back, own_read, own-bytes, fields_in, same_read}

moved-fine : (s : ℕ) (j : Result (Unit {0}) Refusal) → j ≡ (Ok tt) → moved s j ≡ (Ok tt)
moved-fine s j e = ap (moved s) e

unmoved-fine : (s : ℕ) (j : Result (Unit {0}) Refusal) → moved s j ≡ (Ok tt) → j ≡ (Ok tt)
unmoved-fine s (Ok tt) e = refl
unmoved-fine s (Err r) e = let z : ◌≡◌ {A = ℕ} 0 1 = cc in absurd (omega arith)

pub sound : (kind : ℕ) (fs : List Field) (xs : List ℕ) (size : ℕ) (v : Result (Unit {0}) Refusal) (rows buf : List ℕ) (k : ℕ) (out : List ℕ) → write_judged kind fs xs size v rows buf ≡ wrote (Ok k) out →
    (length rows ≡ size) × (v ≡ (Ok tt)) × (write_of kind fs xs rows buf ≡ wrote (Ok k) out)
unfolding when
sound kind fs xs size v rows buf k out e = by (eqb (length rows) size) refl v e
  where
    by : (t : Bool) → eqb (length rows) size ≡ t → (v : Result (Unit {0}) Refusal) → when t (settle (write_of kind fs xs rows buf) (λ r. wrote (Err refusal.Unwritable) buf) v) (wrote (Err refusal.Unwritable) buf) ≡ wrote (Ok k) out →
        (length rows ≡ size) × (v ≡ (Ok tt)) × (write_of kind fs xs rows buf ≡ wrote (Ok k) out)
    by true q (Ok tt) e = (eqb-true (length rows) size q, refl, e)
    by true q (Err r) e = let z : ◌≡◌ {A = ℕ} 0 1 = cc in absurd (omega arith)
    by false q v e = let z : ◌≡◌ {A = ℕ} 0 1 = cc in absurd (omega arith)

-- a verdict that is known settles the answer
pub settles : {R : Type 0} (r : R) (away : Refusal → R) (v j : Result (Unit {0}) Refusal) → j ≡ v → j ≡ (Ok tt) → (a : R) → a ≡ r → a ≡ settle r away v
settles r away v j e f a h = h ∙ sym (ap (settle r away) (sym e ∙ f))

pub unsettles : {R : Type 0} (r : R) (away : Refusal → R) (v j : Result (Unit {0}) Refusal) → j ≡ v → (q : Refusal) → j ≡ Err q → (a : R) → a ≡ away q → a ≡ settle r away v
unsettles r away v j e q f a h = h ∙ sym (ap (settle r away) (sym e ∙ f))

module _ {M : Type 0} (from : List ℕ → M) (judge : M → List ℕ → ℕ → Result (Unit {0}) Refusal) (b : List ℕ) where
  -- the record that the value was made of, and its entries are fine
  pub fine_of : (r : Result Fields Refusal) (m : M) (p : ℕ) → judged_of from judge b r ≡ Ok (m, p) →
      (f : Fields) × (r ≡ Ok f) × (judge (from f.values) (take f.end b) f.place ≡ (Ok tt)) × (from f.values ≡ m) × (f.place ≡ p)
  fine_of (Ok f) m p e = by (judge (from f.values) (take f.end b) f.place) refl e
    where
      by : (j : Result (Unit {0}) Refusal) → judge (from f.values) (take f.end b) f.place ≡ j → settle {R = Result (M × ℕ) Refusal} (Ok (from f.values, f.place)) Err j ≡ Ok (m, p) →
          (g : Fields) × (◌≡◌ {A = Result Fields Refusal} (Ok f) (Ok g)) × (judge (from g.values) (take g.end b) g.place ≡ (Ok tt)) × (from g.values ≡ m) × (g.place ≡ p)
      by (Ok tt) h q = let z : ◌≡◌ {A = M × ℕ} (from f.values, f.place) (m, p) = cc q in (f, refl, h, ap (λ (x : M × ℕ). x.0) z, ap (λ (x : M × ℕ). x.1) z)
      by (Err r) h q = let z : ◌≡◌ {A = ℕ} 0 1 = cc q in absurd (omega arith)
  fine_of (Err q) m p e = let z : ◌≡◌ {A = ℕ} 0 1 = cc e in absurd (omega arith)

module _ {M : Type 0} (from : List ℕ → M) (to : M → List ℕ) (size : M → ℕ) (judge : M → List ℕ → ℕ → Result (Unit {0}) Refusal)
    (move : (m : M) (s : ℕ) (b : List ℕ) → s ≤ length b → judge m b s ≡ moved s (judge m (drop s b) 0)) (kind : ℕ) (fs : List Field) where
  pub judged-back : kind < 4294967296 → ((m : M) → from (sets (zeros 24) 0 (firsts (slots fs) 0 (to m))) ≡ m) →
      (m : M) (rows buf : List ℕ) (k : ℕ) (out : List ℕ) → write_judged kind fs (to m) (size m) (judge m rows 0) rows buf ≡ wrote (Ok k) out →
      (e : ℕ) × (judged_of from judge (take k out) (read_of kind fs (take k out)) ≡ Ok (m, e)) × (drop e (take k out) ≡ rows)
  judged-back hk ft m rows buf k out t =
      let a = sound kind fs (to m) (size m) (judge m rows 0) rows buf k out t in
      let p = reads-back kind fs (to m) rows buf k out hk a.2 in
      let o = take k out in
      let g = fields_in (length o) p.0 (firsts (slots fs) 0 (to m)) in
      let j : judge m (take k out) p.0 ≡ (Ok tt) =
      move m p.0 (take k out) (omega (arith, p.3)) ∙ ap (λ l. moved p.0 (judge m l 0)) p.2 ∙ moved-fine p.0 (judge m rows 0) a.1 in
      let c : judge (from g.values) (take (length o) o) p.0 ≡ (Ok tt) = ap₂ (λ (m : M) (l : List ℕ). judge m l p.0) (ft m) (take-length o) ∙ j in
      (p.0, ap (judged_of from judge o) p.1 ∙ ap (settle (Ok (from g.values, p.0)) Err) c ∙ ap (λ (m : M). Ok (m, p.0)) (ft m), p.2)

  pub judged-own : ((vs : List ℕ) → firsts (slots fs) 0 (to (from vs)) ≡ firsts (slots fs) 0 vs) → slots fs ≤ 24 →
      (b : List ℕ) (m : M) (p : ℕ) → Canonical kind fs (size m) b → judged_of from judge b (read_of kind fs b) ≡ Ok (m, p) → (buf : List ℕ) → length b ≤ length buf →
      write_judged kind fs (to m) (size m) (judge m (drop p b) 0) (drop p b) buf ≡ wrote (Ok (length b)) (b ++ drop (length b) buf)
  unfolding when
  judged-own tf hs b m p c a buf hl =
      let o = own_read kind fs (size m) b c in
      let q = fine_of from judge b (read_of kind fs b) m p a in
      let f = q.0 in
      let own : f ≡ fields_in (length b) c.end c.values = same_read f (fields_in (length b) c.end c.values) (sym q.1 ∙ o) in
      let e : p ≡ c.end = sym q.4 ∙ ap (λ r. r.place) own in
      let l : length (drop p b) ≡ size m = length-drop p b ∙ (let z : length b - p ≡ size m = omega (arith, c.rest) in z) in
      let j : judge m (drop p b) 0 ≡ (Ok tt) =
      unmoved-fine p (judge m (drop p b) 0) (sym (move m p b (omega (arith, c.rest))) ∙ sym (ap₂ (λ (m : M) (p : ℕ). judge m b p) q.3 q.4) ∙ sym (ap (λ l. judge (from f.values) l f.place) (ap (λ n. take n b) (ap (λ r. r.end) own) ∙ take-length b)) ∙ q.2) in
      simp (eq-eqb (length (drop p b)) (size m) l, j)
      (ap (λ p. write_of kind fs (to m) (drop p b) buf) (sym q.4)
      ∙ own-bytes kind fs (size m) b c f q.1 (to m) buf hs (ap (λ m. firsts (slots fs) 0 (to m)) (sym q.3) ∙ tf f.values) hl)
