-- The boxes' own writers give the boxes of the sample table. Assumes nothing.
use Rattle.std.specs.Prelude.{Result, Ok}
use Prim.Native.Nat.{ℕ, suc, ◌+◌, ◌-◌, ◌*◌, ◌^◌, ◌<◌}
use mathlib.Core.Path.{◌≡◌, refl, sym, ap, ◌∙◌}
use mathlib.Core.List.{List, [], ◌∷◌, ◌++◌, append_assoc}
use native.Mathlib.Omega.{arith}
use lib.ListN.{length, drop, length-append}
use lib.Seq.{sets, take_at}
use borrow.Author.Tests.{le-ltb}
use Rattle.numbers.specs.Number.{bytes}
use Rattle.numbers.specs.Field.{when}
use Rattle.numbers.proofs.Laws.{length-bytes}
use Rattle.numbers.proofs.Chain.{is_le, is_eq, not-lt}
use Rattle.put.specs.Put.{Wrote}
use Rattle.layout.specs.Rule.{rule_of}
use Rattle.layout.specs.Write.{made, lay, encode, full, place, placed, padded, slotted, write_of}
use Rattle.layout.specs.Table.{write_table}
use Rattle.layout.specs.declared.Field.TheVariants.{Number, Version, Flags}
use Rattle.rows.specs.Judge.{settle, write_judged}
use Rattle.columns.specs.Entries.{words_of, placed_of}
use Rattle.sampletable.specs.SampleTable.{box_of}
use Rattle.built.specs.Written.{Gives}
use Rattle.built.proofs.Given.{length-words, first-bytes}
use Rattle.numbers.specs.declared.Refusal.{Refusal}

-- THE BYTES BEFORE THE ENTRIES

one_number : (c : ℕ) → c < 2 ^ 32 → encode (padded (Version 0 0 ∷ Flags ∷ Number 4 ∷ [])) (slotted (0 ∷ 0 ∷ c ∷ [])) 0 0 0 ≡ made (bytes 4 0 ++ bytes 4 c)
unfolding encode lay rule_of when bytes
one_number c h = simp (le-ltb c 0 (omega arith), le-ltb 4294967295 c (omega arith))

-- ctts has a version 1 too
shift-number : (c : ℕ) → c < 2 ^ 32 → encode (padded (Version 0 1 ∷ Flags ∷ Number 4 ∷ [])) (slotted (0 ∷ 0 ∷ c ∷ [])) 0 0 0 ≡ made (bytes 4 0 ++ bytes 4 c)
unfolding encode lay rule_of when bytes
shift-number c h = simp (le-ltb c 0 (omega arith), le-ltb 4294967295 c (omega arith))

two-numbers : (c d : ℕ) → c < 2 ^ 32 → d < 2 ^ 32 → encode (padded (Version 0 0 ∷ Flags ∷ Number 4 ∷ Number 4 ∷ [])) (slotted (0 ∷ 0 ∷ c ∷ d ∷ [])) 0 0 0 ≡ made (bytes 4 0 ++ (bytes 4 c ++ bytes 4 d))
unfolding encode lay rule_of when bytes
two-numbers c d h k = simp (le-ltb c 0 (omega arith), le-ltb 4294967295 c (omega arith), le-ltb d 0 (omega arith), le-ltb 4294967295 d (omega arith))

-- a buffer that is just as long gets the bytes
pub place-gives : (bs : List ℕ) (x : Wrote) → length bs < 2 ^ 32 → x ≡ place bs bs → Gives x bs
place-gives bs x h e =
    record {
      size = length bs;
      buffer = bs ++ drop (length bs) bs;
      done = e ∙ sym (not-lt _ _ _ (2 ^ 32 - 1) (length bs) (omega arith) (not-lt _ _ _ (length bs) (length bs) (omega arith) refl));
      bytes = take_at bs (drop (length bs) bs) (length bs) refl;
    }

pub placed-gives : (ns : List ℕ) (x : Wrote) → x ≡ placed_of ns (words_of ns) → Gives x (words_of ns)
unfolding placed_of
placed-gives ns x e =
    let l : length (words_of ns) ≡ length ns * 4 = length-words ns in
    record {
      size = length ns * 4;
      buffer = sets (words_of ns) 0 (words_of ns);
      done = e ∙ sym (is_le _ _ _ (length ns * 4) (length (words_of ns)) (omega arith) refl);
      bytes = first-bytes (words_of ns) (words_of ns) (length ns * 4) (sym l) (omega arith);
    }

-- the box as numbers is the box as fields
one-box : (kind c : ℕ) (es : List ℕ) → full kind (bytes 4 0 ++ bytes 4 c) (words_of es) ≡ words_of (box_of kind (c ∷ es))
one-box kind c es =
    let size : 8 + length (bytes 4 0 ++ bytes 4 c) + length (words_of es) ≡ 12 + suc (length es) * 4 = omega (arith, length-append (bytes 4 0) (bytes 4 c), length-bytes 4 0, length-bytes 4 c, length-words es) in
    let w = words_of es in
    ap (λ (n : ℕ). bytes 4 n ++ bytes 4 kind ++ (bytes 4 0 ++ bytes 4 c) ++ words_of es) size
    ∙ append_assoc (bytes 4 (12 + suc (length es) * 4) ++ bytes 4 kind) (bytes 4 0 ++ bytes 4 c) w
    ∙ append_assoc (bytes 4 (12 + suc (length es) * 4)) (bytes 4 kind) (bytes 4 0 ++ bytes 4 c ++ w)
    ∙ ap (λ (x : List ℕ). bytes 4 (12 + suc (length es) * 4) ++ (bytes 4 kind ++ x)) (append_assoc (bytes 4 0) (bytes 4 c) w)

two-box : (kind c d : ℕ) (es : List ℕ) → full kind (bytes 4 0 ++ (bytes 4 c ++ bytes 4 d)) (words_of es) ≡ words_of (box_of kind (c ∷ d ∷ es))
two-box kind c d es =
    let size : 8 + length (bytes 4 0 ++ (bytes 4 c ++ bytes 4 d)) + length (words_of es) ≡ 12 + suc (suc (length es)) * 4 =
    omega (arith, length-append (bytes 4 0) (bytes 4 c ++ bytes 4 d), length-append (bytes 4 c) (bytes 4 d), length-bytes 4 0, length-bytes 4 c, length-bytes 4 d, length-words es) in
    let w = words_of es in
    let s = bytes 4 (12 + suc (suc (length es)) * 4) in
    ap (λ (n : ℕ). bytes 4 n ++ bytes 4 kind ++ (bytes 4 0 ++ (bytes 4 c ++ bytes 4 d)) ++ words_of es) size
    ∙ append_assoc (s ++ bytes 4 kind) (bytes 4 0 ++ (bytes 4 c ++ bytes 4 d)) w
    ∙ append_assoc s (bytes 4 kind) (bytes 4 0 ++ (bytes 4 c ++ bytes 4 d) ++ w)
    ∙ ap (λ (x : List ℕ). s ++ (bytes 4 kind ++ x)) (append_assoc (bytes 4 0) (bytes 4 c ++ bytes 4 d) w ∙ ap (λ (x : List ℕ). bytes 4 0 ++ x) (append_assoc (bytes 4 c) (bytes 4 d) w))

module _ (kind c : ℕ) (es : List ℕ) (h : c < 2 ^ 32) (k : length (box_of kind (c ∷ es)) * 4 < 2 ^ 32) where
  abbrev box : List ℕ
  box = words_of (box_of kind (c ∷ es))

  one_written : write_of kind (padded (Version 0 0 ∷ Flags ∷ Number 4 ∷ [])) (slotted (0 ∷ 0 ∷ c ∷ [])) (words_of es) box ≡ place box box
  one_written = ap (placed kind (words_of es) box) (one_number c h) ∙ ap (place box) (one-box kind c es)

  pub table-gives : (size : ℕ) → length es * 4 ≡ size → Gives (write_table kind (padded (Version 0 0 ∷ Flags ∷ Number 4 ∷ [])) (slotted (0 ∷ 0 ∷ c ∷ [])) size (words_of es) box) box
  table-gives size e =
      place-gives box _ (omega (arith, length-words (box_of kind (c ∷ es))))
      (sym (is_eq _ _ _ (length (words_of es)) size (length-words es ∙ e) refl) ∙ one_written)

  pub shifts-gives : (size : ℕ) → length es * 4 ≡ size → Gives (write_table kind (padded (Version 0 1 ∷ Flags ∷ Number 4 ∷ [])) (slotted (0 ∷ 0 ∷ c ∷ [])) size (words_of es) box) box
  shifts-gives size e =
      place-gives box _ (omega (arith, length-words (box_of kind (c ∷ es))))
      (sym (is_eq _ _ _ (length (words_of es)) size (length-words es ∙ e) refl) ∙ ap (placed kind (words_of es) box) (shift-number c h) ∙ ap (place box) (one-box kind c es))

  pub judged-gives : (size : ℕ) (v : Result (Unit {0}) Refusal) → length es * 4 ≡ size → v ≡ (Ok tt) → Gives (write_judged kind (padded (Version 0 0 ∷ Flags ∷ Number 4 ∷ [])) (slotted (0 ∷ 0 ∷ c ∷ [])) size v (words_of es) box) box
  judged-gives size v e f =
      place-gives box _ (omega (arith, length-words (box_of kind (c ∷ es))))
      (sym (is_eq _ _ _ (length (words_of es)) size (length-words es ∙ e) refl) ∙ ap (settle _ _) f ∙ one_written)

module _ (kind c d : ℕ) (es : List ℕ) (h : c < 2 ^ 32) (g : d < 2 ^ 32) (k : length (box_of kind (c ∷ d ∷ es)) * 4 < 2 ^ 32) where
  pub sizes-gives : (size : ℕ) → length es * 4 ≡ size →
      Gives (write_table kind (padded (Version 0 0 ∷ Flags ∷ Number 4 ∷ Number 4 ∷ [])) (slotted (0 ∷ 0 ∷ c ∷ d ∷ [])) size (words_of es) (words_of (box_of kind (c ∷ d ∷ es)))) (words_of (box_of kind (c ∷ d ∷ es)))
  sizes-gives size e =
      let b = words_of (box_of kind (c ∷ d ∷ es)) in
      place-gives b _ (omega (arith, length-words (box_of kind (c ∷ d ∷ es))))
      (sym (is_eq _ _ _ (length (words_of es)) size (length-words es ∙ e) refl) ∙ ap (placed kind (words_of es) b) (two-numbers c d h g) ∙ ap (place b) (two-box kind c d es))
