-- Writing a box that is a row of fields. Assumes nothing.
use Rattle.std.specs.Prelude.{ℕ, ◌+◌, ◌-◌, ◌^◌, List, [], ◌∷◌, ◌++◌, Bool, true, false, length, get_or, drop, replicate, ltb, Ok, Err}
use Rattle.std.proofs.lemmas.List.Edits.{sets}
use Rattle.numbers.specs.Number.{bytes}
use Rattle.numbers.specs.Field.{when}
use Rattle.numbers.specs.declared.Refusal.TheVariants as refusal
use Rattle.put.specs.Put.{Wrote, wrote}
use Rattle.layout.specs.Rule.{rule_of, version_after, flags_after}
use Rattle.layout.specs.Read.{zeros}
use Rattle.layout.specs.declared.Field.{Field}
use Rattle.layout.specs.declared.Field.TheVariants.{Nothing}
use Rattle.layout.specs.declared.rule.Rule.{Rule}
use Rattle.layout.specs.declared.Coded.{Coded}

-- the bytes, or that a value cannot be written
pub data Made : Type 0 where
  made : List ℕ → Made
  bad : Made

abbrev pub after : List ℕ → Made → Made
after bs (made cs) = made (bs ++ cs)
after bs bad = bad

-- one field: what is kept comes from slot k; what is reserved has its own value
abbrev pub written : Rule → List ℕ → ℕ → ℕ
written r xs k = when r.kept (get_or xs k 0) r.fixed

abbrev pub slot_after : Rule → ℕ → ℕ
slot_after r k = when r.kept (k + 1) k

unfoldable pub lay : Rule → ℕ → Made → Made
lay r x m = when (ltb x r.low) bad (when (ltb r.high x) bad (after (bytes r.width x) m))

unfoldable pub encode : List Field → List ℕ → ℕ → ℕ → ℕ → Made
encode [] xs k v fl = made []
encode (f ∷ fs) xs k v fl =
    let r = rule_of f v fl in
    let x = written r xs k in
    lay r x (encode fs xs (slot_after r k) (version_after r x v) (flags_after r x fl))

abbrev pub badly : Coded
badly = record { ok = false; len = 0; bytes = zeros 192 }

abbrev pub coded_of : List ℕ → ℕ → Made → Coded
coded_of bs n (made cs) = record { ok = true; len = n + length cs; bytes = sets bs n cs }
coded_of bs n bad = badly

-- a whole box: size and type, the fields, the tail
abbrev pub full : ℕ → List ℕ → List ℕ → List ℕ
full kind fields tail = bytes 4 (8 + length fields + length tail) ++ bytes 4 kind ++ fields ++ tail

-- 13 where a size has no four bytes, then 12; else the bytes from the buffer's start on, and what lies behind them
abbrev pub place : List ℕ → List ℕ → Wrote
place buf bs =
    when (ltb (2 ^ 32 - 1) (length bs)) (wrote (Err refusal.Unwritable) buf)
    (when (ltb (length buf) (length bs)) (wrote (Err (refusal.TooSmall (length bs))) buf)
    (wrote (Ok (length bs)) (bs ++ drop (length bs) buf)))

abbrev pub placed : ℕ → List ℕ → List ℕ → Made → Wrote
placed kind tail buf (made fields) = place buf (full kind fields tail)
placed kind tail buf bad = wrote (Err refusal.Unwritable) buf

abbrev pub write_of : ℕ → List Field → List ℕ → List ℕ → List ℕ → Wrote
write_of kind fs xs tail buf = placed kind tail buf (encode fs xs 0 0 0)

-- a row of fields with nothing after it, and slots with zeros after them
abbrev pub padded : List Field → List Field
padded fs = fs ++ replicate (24 - length fs) Nothing

abbrev pub slotted : List ℕ → List ℕ
slotted xs = xs ++ zeros (24 - length xs)
