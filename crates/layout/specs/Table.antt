-- A table that lies in place: n fields of w bytes, one after the other (A9). Assumes nothing.
use Rattle.std.specs.Prelude.{ℕ, zero, suc, ◌+◌, List, length, take, eqb, ltb, Option, Result, Ok, Err, Some, None}
use Rattle.numbers.specs.Field.{when}
use Rattle.numbers.specs.declared.Refusal.TheVariants as refusal
use Rattle.numbers.specs.declared.Refusal.{Refusal}
use Rattle.put.specs.Put.{Wrote, wrote}
use Rattle.layout.specs.Write.{write_of}
use Rattle.layout.specs.declared.Field.{Field}
use Rattle.layout.specs.declared.read.Fields.{Fields}

-- the first field that is not whole
unfoldable pub cut_of : ℕ → ℕ → List ℕ → ℕ → Option ℕ
cut_of zero w b at = None
cut_of (suc n) w b at = when (ltb (length b) (at + w)) (Some at) (cut_of n w b (at + w))

abbrev pub uncut : {R : Type 0} → R → Option ℕ → Result R Refusal
uncut r None = Ok r
uncut r (Some p) = Err (refusal.Cut p)

-- the value made of the slots and the position of the table, or the refusal; `n` says how many fields the table has
abbrev pub tabled : {M : Type 0} → (List ℕ → M) → (M → ℕ) → ℕ → List ℕ → Result Fields Refusal → Result (M × ℕ) Refusal
tabled from n w b (Ok f) = uncut (from f.values, f.place) (cut_of (n (from f.values)) w (take f.end b) f.place)
tabled from n w b (Err q) = Err q

-- a table's bytes are written only where they are as many as its count says
abbrev pub write_table : ℕ → List Field → List ℕ → ℕ → List ℕ → List ℕ → Wrote
write_table kind fs xs size rows buf = when (eqb (length rows) size) (write_of kind fs xs rows buf) (wrote (Err refusal.Unwritable) buf)
