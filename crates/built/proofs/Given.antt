-- What a builder that does not refuse has seen, and the bytes that it has written. Assumes nothing.
use Rattle.std.specs.Prelude.{Ok, Err}
use Prim.Native.Nat.{ℕ, ◌+◌, ◌-◌, ◌*◌, ◌^◌, ◌≤◌, ◌<◌}
use mathlib.Core.Path.{◌≡◌, sym, ap, ◌∙◌}
use mathlib.Core.List.{List, [], ◌∷◌}
use mathlib.Core.Bool.{Bool, true, false}
use mathlib.Core.Logic.{⊎_elim}
use native.Mathlib.Omega.{arith}
use lib.ListN.{length, take, drop, length-append}
use lib.Seq.{sets, sets-eq, take_at}
use lib.Dec.{eqb, leb, ltb}
use borrow.Author.Tests.{leb-true, ltb-true}
use Rattle.numbers.specs.Number.{bytes}
use Rattle.numbers.specs.Field.{when}
use Rattle.numbers.specs.declared.Refusal.{Refusal}
use Rattle.numbers.specs.declared.Refusal.TheVariants as refusal
use Rattle.numbers.proofs.Laws.{length-bytes}
use Rattle.numbers.proofs.Chain.{way}
use Rattle.put.specs.Put.{Wrote, wrote}
use Rattle.columns.specs.Columns.{column_of, all_meet}
use Rattle.columns.specs.declared.Rule.TheVariants.{Narrow}
use Rattle.columns.specs.Entries.{words_of, placed_of, built_of}
use Rattle.chunking.specs.Entries.{fits_in, chunked_of}
use Rattle.built.specs.Written.{Gives}

pub length-words : (ns : List ℕ) → length (words_of ns) ≡ length ns * 4
length-words [] = omega arith
length-words (x ∷ ns) = omega (arith, length-append (bytes 4 x) (words_of ns), length-bytes 4 x, length-words ns)

pub first-bytes : (es o : List ℕ) (n : ℕ) → n ≡ length es → n ≤ length o → take n (sets o 0 es) ≡ es
first-bytes es o n e h =
    ap (take n) (sets-eq es o 0 (omega arith)) ∙ take_at es (drop (0 + length es) o) n (sym e)

-- where no refusal is the answer, its way is the other one
module _ (t : Bool) (x : Wrote) (q : Refusal) (n : ℕ) (o p : List ℕ) where
  pub not-refused : when t x (wrote (Err q) o) ≡ wrote (Ok n) p → (t ≡ true) × (x ≡ wrote (Ok n) p)
  not-refused e = ⊎_elim (λ y. y) (λ y. lost y.1) (way t x (wrote (Err q) o) (wrote (Ok n) p) e)
    where
      lost : wrote (Err q) o ≡ wrote (Ok n) p → (t ≡ true) × (x ≡ wrote (Ok n) p)
      lost f = let z : ◌≡◌ {A = ℕ} 0 1 = cc f in absurd (omega arith)

  pub not-refused-first : when t (wrote (Err q) o) x ≡ wrote (Ok n) p → (t ≡ false) × (x ≡ wrote (Ok n) p)
  not-refused-first e = ⊎_elim (λ y. lost y.1) (λ y. y) (way t (wrote (Err q) o) x (wrote (Ok n) p) e)
    where
      lost : wrote (Err q) o ≡ wrote (Ok n) p → (t ≡ false) × (x ≡ wrote (Ok n) p)
      lost f = let z : ◌≡◌ {A = ℕ} 0 1 = cc f in absurd (omega arith)

placed-given : (ns o es p : List ℕ) (n : ℕ) → placed_of ns o ≡ wrote (Ok n) p → take n p ≡ es → es ≡ words_of ns
unfolding placed_of
placed-given ns o es p n e b =
    let w = not-refused (leb (length ns * 4) (length o)) (wrote (Ok (length ns * 4)) (sets o 0 (words_of ns))) (refusal.TooSmall (length ns * 4)) n o p e in
    let room : length ns * 4 ≤ length o = leb-true (length ns * 4) (length o) w.0 in
    let f = w.1 in
    let size : length ns * 4 ≡ n = cc in
    let buffer : sets o 0 (words_of ns) ≡ p = cc in
    sym b ∙ ap (take n) (sym buffer) ∙ first-bytes (words_of ns) o n (omega (arith, length-words ns)) (omega arith)

-- a builder does not refuse: there are so many records, 32 bits count them, their numbers fit; and these are its bytes
pub record Built (rs : List ℕ) (n : ℕ) (fit : Bool) (ns es : List ℕ) : Type 0 where
  pub there : n * 7 ≤ length rs
  pub counted : n < 2 ^ 32
  pub fits : fit ≡ true
  pub bytes : es ≡ words_of ns

pub built-given : (rs : List ℕ) (n : ℕ) (fit : Bool) (ns o es : List ℕ) → Gives (built_of rs n fit ns o) es → Built rs n fit ns es
unfolding built_of
built-given rs n fit ns o es g =
    let a = not-refused (leb (n * 7) (length rs)) (when (ltb n (2 ^ 32)) (when fit (placed_of ns o) (wrote (Err refusal.Unwritable) o)) (wrote (Err refusal.Unwritable) o)) (refusal.NoSample n) g.size o g.buffer g.done in
    let b = not-refused (ltb n (2 ^ 32)) (when fit (placed_of ns o) (wrote (Err refusal.Unwritable) o)) refusal.Unwritable g.size o g.buffer a.1 in
    let c = not-refused fit (placed_of ns o) refusal.Unwritable g.size o g.buffer b.1 in
    record {
      there = leb-true (n * 7) (length rs) a.0;
      counted = ltb-true n (2 ^ 32) b.0;
      fits = c.0;
      bytes = placed-given ns o es g.buffer g.size c.1 g.bytes;
    }

pub chunked-given : (t : ℕ) (rs : List ℕ) (n : ℕ) (ns o es : List ℕ) → Gives (chunked_of t rs n ns o) es → Built rs n (fits_in rs n) ns es
chunked-given t rs n ns o es g =
    let a = not-refused-first (eqb t 0) (built_of rs n (fits_in rs n) ns o) (refusal.Value 0) g.size o g.buffer g.done in
    built-given rs n (fits_in rs n) ns o es (record { size = g.size; buffer = g.buffer; done = a.1; bytes = g.bytes })

pub fits_both : (rs : List ℕ) (n : ℕ) → fits_in rs n ≡ true → (all_meet Narrow (column_of rs n 2) ≡ true) × (all_meet Narrow (column_of rs n 4) ≡ true)
unfolding fits_in
fits_both rs n e =
    ⊎_elim (λ y. y) (λ y. lost y.1) (way (all_meet Narrow (column_of rs n 2)) (all_meet Narrow (column_of rs n 4)) false true e)
  where
    lost : false ≡ true → (all_meet Narrow (column_of rs n 2) ≡ true) × (all_meet Narrow (column_of rs n 4) ≡ true)
    lost f = let z : ◌≡◌ {A = ℕ} 0 1 = cc in absurd (omega arith)
