-- A box whose entries are judged: read where all are fine, and written only where they are. Assumes nothing.
use Rattle.std.specs.Prelude.{ℕ, ◌+◌, List, length, take, eqb, Result, Ok, Err}
use Rattle.numbers.specs.Field.{when}
use Rattle.numbers.specs.declared.Refusal.TheVariants as refusal
use Rattle.numbers.specs.declared.Refusal.{Refusal}
use Rattle.put.specs.Put.{Wrote, wrote}
use Rattle.layout.specs.Write.{write_of}
use Rattle.layout.specs.declared.Field.{Field}
use Rattle.layout.specs.declared.read.Fields.{Fields}

-- by a verdict: the answer, or the refusal
abbrev pub settle : {R : Type 0} → R → (Refusal → R) → Result (Unit {0}) Refusal → R
settle r refused (Ok tt) = r
settle r refused (Err q) = refused q

-- the value made of the slots and the position of the entries, or the first refusal: a field's, then an entry's
abbrev pub judged_of : {M : Type 0} → (List ℕ → M) → (M → List ℕ → ℕ → Result (Unit {0}) Refusal) → List ℕ → Result Fields Refusal → Result (M × ℕ) Refusal
judged_of from judge b (Ok f) = settle (Ok (from f.values, f.place)) Err (judge (from f.values) (take f.end b) f.place)
judged_of from judge b (Err q) = Err q

-- entries are written only where they are as many bytes as the count says, and fine
abbrev pub write_judged : ℕ → List Field → List ℕ → ℕ → Result (Unit {0}) Refusal → List ℕ → List ℕ → Wrote
write_judged kind fs xs size verdict entries out =
    when (eqb (length entries) size)
    (settle (write_of kind fs xs entries out) (λ q. wrote (Err refusal.Unwritable) out) verdict)
    (wrote (Err refusal.Unwritable) out)
