-- A box that is as we write it (document 01, Canonical), and how many values a row keeps. Assumes nothing.
use Rattle.std.specs.Prelude.{ℕ, zero, suc, ◌+◌, ◌-◌, ◌^◌, ◌<◌, ◌≤◌, min, max, ◌≡◌, List, [], ◌∷◌, Bool, true, false, length, get_or, eqb, ltb}
use Rattle.numbers.specs.Number.{be}
use Rattle.numbers.specs.Field.{when, field}
use Rattle.layout.specs.Rule.{rule_of, version_after, flags_after}
use Rattle.layout.specs.Read.{Got, got, fault, decode}
use Rattle.layout.specs.declared.Field.{Field}
use Rattle.layout.specs.declared.Field.TheVariants.{Number, Reserved, Wide, Optional, Least, Version, Flags, Nothing}
use Rattle.layout.specs.declared.rule.Rule.{Rule}

-- each reserved field from `at` on has its own value
unfoldable pub standard : List Field → List ℕ → ℕ → ℕ → ℕ → Bool
standard [] b at v fl = true
standard (f ∷ fs) b at v fl =
    let r = rule_of f v fl in
    let x = be r.width b at in
    let s = standard fs b (at + r.width) (version_after r x v) (flags_after r x fl) in
    when r.kept s (when (eqb x r.fixed) s false)

-- what we write in one field: its range, and its own value where it has one
abbrev pub ours : Rule → ℕ → Bool
ours r x = when (ltb x r.low) false (when (ltb r.high x) false (when r.kept true (eqb x r.fixed)))

-- n bytes follow the fields
abbrev pub followed : ℕ → List ℕ → Got → Bool
followed n b (got xs e) = eqb (e + n) (length b)
followed n b (fault q) = false

-- the fields from `at` on are as we write them: each is read, the reserved ones have their values, and n bytes follow
unfoldable pub exact : List Field → ℕ → List ℕ → ℕ → ℕ → ℕ → Bool
exact fs n b at v fl = when (standard fs b at v fl) (followed n b (decode fs b at v fl)) false

-- whether b is a box of this type as we write it, size and type in 4 bytes each
abbrev pub canonical_of : ℕ → List Field → ℕ → List ℕ → Bool
canonical_of kind fs n b =
    field (λ q. false) 4 b 0 (λ size. when (eqb size (length b))
    (field (λ q. false) 4 b 4 (λ type. when (eqb type kind) (exact fs n b 8 0 0) false)) false)

-- the same as a statement, of bytes: the size is the length, the fields are read, the reserved ones have their values,
-- and n bytes follow them
pub record Canonical (kind : ℕ) (fs : List Field) (n : ℕ) (b : List ℕ) : Type 0 where
  pub byte : (i : ℕ) → get_or b i 0 < 256
  pub size : be 4 b 0 ≡ length b
  pub type : be 4 b 4 ≡ kind
  pub long : 8 ≤ length b
  pub values : List ℕ
  pub end : ℕ
  pub fields : decode fs b 8 0 0 ≡ got values end
  pub reserved : standard fs b 8 0 0 ≡ true
  pub rest : end + n ≡ length b

-- how many values a row of fields keeps, and the first n values from slot k on
unfoldable pub slots : List Field → ℕ
slots [] = 0
slots (f ∷ fs) = when (rule_of f 0 0).kept (suc (slots fs)) (slots fs)

unfoldable pub firsts : ℕ → ℕ → List ℕ → List ℕ
firsts zero k xs = []
firsts (suc n) k xs = get_or xs k 0 ∷ firsts n (suc k) xs

-- the greatest value of a field, and of what a row of fields keeps in slot k
unfoldable pub most : Field → ℕ
most (Number w) = 256 ^ min w 8 - 1
most (Reserved w c) = 0
most (Wide a b) = 256 ^ max (min a 8) (min b 8) - 1
most (Optional w bit) = 256 ^ min w 8 - 1
most (Least w n) = 256 ^ min w 8 - 1
most (Version lo hi) = min hi 255
most Flags = 16777215
most Nothing = 0

unfoldable pub limit : List Field → ℕ → ℕ
limit [] k = 0
limit (f ∷ fs) zero = when (rule_of f 0 0).kept (most f) (limit fs zero)
limit (f ∷ fs) (suc k) = when (rule_of f 0 0).kept (limit fs k) (limit fs (suc k))
