-- A writer that is lent no buffer tells the size: what it asks for is what it writes. Assumes nothing.
use Rattle.std.specs.Prelude.{Result, Ok, Err}
use mathlib.Core.Path.{◌≡◌, refl, sym, ap, ◌∙◌}
use mathlib.Core.List.{List, [], ◌++◌}
use mathlib.Core.Bool.{Bool, true, false}
use Prim.Native.Nat.{ℕ, ◌+◌, ◌≤◌}
use native.Mathlib.Omega.{arith}
use lib.ListN.{length, drop}
use lib.Dec.{ltb, eqb}
use borrow.Author.Tests.{lt-ltb, le-ltb, ltb-false, eq-eqb}
use Rattle.numbers.specs.Field.{when}
use Rattle.numbers.specs.declared.Refusal.TheVariants as refusal
use Rattle.put.specs.Put.{Wrote, wrote}
use Rattle.layout.specs.Write.{Made, made, bad, encode, full, placed, write_of}
use Rattle.layout.specs.Table.{write_table}
use Rattle.layout.specs.declared.Field.{Field}
use Rattle.layout.proofs.Writes.{length-full}
use Rattle.rows.specs.Judge.{settle, write_judged}
use Rattle.rounds.proofs.Boxes.{placed-done}
use Rattle.rounds.proofs.TableBoxes.{as_many}
use Rattle.rounds.proofs.JudgedBoxes.{sound}
use Rattle.numbers.specs.declared.Refusal.{Refusal}

-- what a writer answers that is lent no buffer, where the box has n bytes
abbrev pub asks : ℕ → Wrote
asks n = wrote (Err (refusal.TooSmall n)) []

other-refusal : (n : ℕ) → wrote (Err refusal.Unwritable) [] ≡ asks n → ⊥
other-refusal n e =
    let q : refusal.Unwritable ≡ refusal.TooSmall n = cc e in
    let z : ◌≡◌ {A = ℕ} 0 1 = cc q in
    omega arith

placed-asks : (kind : ℕ) (tail : List ℕ) (m : Made) (n : ℕ) → placed kind tail [] m ≡ asks n →
    (cs : List ℕ) × (m ≡ made cs) × (n ≡ length (full kind cs tail)) × (length (full kind cs tail) ≤ 4294967295)
unfolding when
placed-asks kind tail bad n e = absurd (other-refusal n e)
placed-asks kind tail (made cs) n e = by (ltb 4294967295 (length a)) (ltb 0 (length a)) refl e
  where
    a : List ℕ
    a = full kind cs tail

    by : (p q : Bool) → ltb 4294967295 (length a) ≡ p →
        when p (wrote (Err refusal.Unwritable) []) (when q (asks (length a)) (wrote (Ok (length a)) (a ++ drop (length a) []))) ≡ asks n →
        (ds : List ℕ) × (made cs ≡ made ds) × (n ≡ length (full kind ds tail)) × (length (full kind ds tail) ≤ 4294967295)
    by true q ep e = absurd (other-refusal n e)
    by false true ep e = (cs, refl, let q : n ≡ length a = cc e in q, ltb-false 4294967295 (length a) ep)
    by false false ep e = let z : ◌≡◌ {A = ℕ} 0 1 = cc in absurd (omega arith)

module _ (kind : ℕ) (fs : List Field) (xs tail : List ℕ) where
  -- WHAT IS WRITTEN HAS THE SIZE THAT WAS ASKED FOR
  pub size-told : (buf : List ℕ) (n : ℕ) (out : List ℕ) → write_of kind fs xs tail buf ≡ wrote (Ok n) out → write_of kind fs xs tail [] ≡ asks n
  unfolding when
  size-told buf n out w =
      let p = placed-done kind tail buf (encode fs xs 0 0 0) n out w in
      let a = full kind p.0 tail in
      ap (placed kind tail []) p.1
      ∙ simp (le-ltb 4294967295 (length a) p.4, lt-ltb 0 (length a) (omega (arith, length-full kind p.0 tail))) (ap asks (sym p.2))

  -- and a buffer of the size that is asked for is enough
  pub size-enough : (n : ℕ) → write_of kind fs xs tail [] ≡ asks n → (buf : List ℕ) → n ≤ length buf → (out : List ℕ) × (write_of kind fs xs tail buf ≡ wrote (Ok n) out)
  unfolding when
  size-enough n w buf h =
      let p = placed-asks kind tail (encode fs xs 0 0 0) n w in
      let a = full kind p.0 tail in (
        a ++ drop (length a) buf,
        ap (placed kind tail buf) p.1
            ∙ simp (le-ltb 4294967295 (length a) p.3, le-ltb (length buf) (length a) (omega (arith, p.2))) (ap (λ n. wrote (Ok n) (a ++ drop (length a) buf)) (sym p.2)),
      )

-- the same with a table of entries
module _ (kind : ℕ) (fs : List Field) (xs : List ℕ) (size : ℕ) (rows : List ℕ) where
  pub table-size-told : (buf : List ℕ) (n : ℕ) (out : List ℕ) → write_table kind fs xs size rows buf ≡ wrote (Ok n) out → write_table kind fs xs size rows [] ≡ asks n
  unfolding when
  table-size-told buf n out w =
      let p = as_many kind fs xs size rows buf n out w in
      simp (eq-eqb (length rows) size p.0) (size-told kind fs xs rows buf n out p.1)

  pub table-size-enough : (n : ℕ) → write_table kind fs xs size rows [] ≡ asks n → (buf : List ℕ) → n ≤ length buf → (out : List ℕ) × (write_table kind fs xs size rows buf ≡ wrote (Ok n) out)
  unfolding when
  table-size-enough n w buf h = by (eqb (length rows) size) w
    where
      by : (t : Bool) → when t (write_of kind fs xs rows []) (wrote (Err refusal.Unwritable) []) ≡ asks n →
          (out : List ℕ) × (when t (write_of kind fs xs rows buf) (wrote (Err refusal.Unwritable) buf) ≡ wrote (Ok n) out)
      by true e = size-enough kind fs xs rows n e buf h
      by false e = absurd (other-refusal n e)

  -- and with entries that are judged
  module _ (v : Result (Unit {0}) Refusal) where
    pub judged-size-told : (buf : List ℕ) (n : ℕ) (out : List ℕ) → write_judged kind fs xs size v rows buf ≡ wrote (Ok n) out → write_judged kind fs xs size v rows [] ≡ asks n
    unfolding when
    judged-size-told buf n out w =
        let p = sound kind fs xs size v rows buf n out w in
        simp (eq-eqb (length rows) size p.0, p.1) (size-told kind fs xs rows buf n out p.2)

    pub judged-size-enough : (n : ℕ) → write_judged kind fs xs size v rows [] ≡ asks n → (buf : List ℕ) → n ≤ length buf → (out : List ℕ) × (write_judged kind fs xs size v rows buf ≡ wrote (Ok n) out)
    unfolding when
    judged-size-enough n w buf h = by (eqb (length rows) size) v w
      where
        by : (t : Bool) (v : Result (Unit {0}) Refusal) → when t (settle (write_of kind fs xs rows []) (λ q. wrote (Err refusal.Unwritable) []) v) (wrote (Err refusal.Unwritable) []) ≡ asks n →
            (out : List ℕ) × (when t (settle (write_of kind fs xs rows buf) (λ q. wrote (Err refusal.Unwritable) buf) v) (wrote (Err refusal.Unwritable) buf) ≡ wrote (Ok n) out)
        by true (Ok tt) e = size-enough kind fs xs rows n e buf h
        by true (Err r) e = absurd (other-refusal n e)
        by false v e = absurd (other-refusal n e)
