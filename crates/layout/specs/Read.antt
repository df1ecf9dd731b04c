-- Reading a box that is a row of fields: each field first whole (1), then allowed (7, 8), at its own position.
-- Assumes nothing.
use Rattle.std.specs.Prelude.{ℕ, ◌+◌, ◌-◌, List, [], ◌∷◌, Bool, true, false, length, take, drop, replicate, eqb, ltb, Result, Ok, Err}
use Rattle.std.proofs.lemmas.List.Edits.{sets}
use Rattle.numbers.specs.Number.{be}
use Rattle.numbers.specs.Field.{when}
use Rattle.numbers.specs.declared.Refusal.TheVariants as refusal
use Rattle.numbers.specs.declared.Refusal.{Refusal}
use Rattle.boxes.specs.Header.{header_of}
use Rattle.layout.specs.Rule.{rule_of, refusal_of, version_after, flags_after}
use Rattle.layout.specs.declared.Field.{Field}
use Rattle.layout.specs.declared.rule.Rule.{Rule}
use Rattle.layout.specs.declared.read.Fields.{Fields}
use Rattle.boxes.specs.declared.header.Header.{Header}

-- the values kept and the position after the last field, or the first fault
pub data Got : Type 0 where
  got : List ℕ → ℕ → Got
  fault : Refusal → Got

abbrev pub keep : Bool → ℕ → Got → Got
keep true x (got xs e) = got (x ∷ xs) e
keep true x (fault q) = fault q
keep false x g = g

-- one field: whole, then allowed, then on
unfoldable pub one : Rule → List ℕ → ℕ → (ℕ → Got) → Got
one r b at go =
    when (ltb (length b) (at + r.width)) (fault (refusal.Cut at))
    (when (ltb (be r.width b at) r.low) (fault (refusal_of r at))
    (when (ltb r.high (be r.width b at)) (fault (refusal_of r at))
    (keep r.kept (be r.width b at) (go (be r.width b at)))))

unfoldable pub decode : List Field → List ℕ → ℕ → ℕ → ℕ → Got
decode [] b at v fl = got [] at
decode (f ∷ fs) b at v fl =
    one (rule_of f v fl) b at (λ x. decode fs b (at + (rule_of f v fl).width) (version_after (rule_of f v fl) x v) (flags_after (rule_of f v fl) x fl))

-- the same in a record: the box's end and the values, zeros after them
abbrev pub zeros : ℕ → List ℕ
zeros n = replicate n 0

abbrev pub fields_of : ℕ → List ℕ → ℕ → Got → Result Fields Refusal
fields_of end vs k (got xs e) = Ok (record { place = e; end = end; values = sets vs k xs })
fields_of end vs k (fault q) = Err q

-- a box of a type: its header (at the top, since the part that is lent ends where the box may), its type, its fields
abbrev pub headed : ℕ → List Field → List ℕ → Result Header Refusal → Result Fields Refusal
headed kind fs b (Err q) = Err q
headed kind fs b (Ok h) =
    when (eqb h.kind kind) (fields_of (length (take h.size b)) (zeros 24) 0 (decode fs (take h.size b) h.length 0 0)) (Err (refusal.Value 4))

abbrev pub read_of : ℕ → List Field → List ℕ → Result Fields Refusal
read_of kind fs b = headed kind fs b (header_of b 0 true)

-- the value made of the slots, or the refusal
abbrev pub answer : {M : Type 0} → (List ℕ → M) → Result Fields Refusal → Result M Refusal
answer from (Ok f) = Ok (from f.values)
answer from (Err q) = Err q

-- what lies behind the fields, up to the box's end; nothing of a box that is refused
abbrev pub rest_of : Result Fields Refusal → List ℕ → List ℕ
rest_of (Ok f) b = take (f.end - f.place) (drop f.place b)
rest_of (Err q) b = []
