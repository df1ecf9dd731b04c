-- Lists of parameter sets, as a decoder's configuration holds them (ISO/IEC 14496-15, 5.3.3.1.2): each set is its length
-- in two bytes, then so many bytes. A list does not say how many sets it has: its reader is told. A length that is cut is
-- 1 at its first byte, a set that is cut is 1 at its own (A28). Assumes nothing.
use Rattle.std.specs.Prelude.{ℕ, zero, suc, ◌+◌, ◌-◌, ◌^◌, List, [], ◌∷◌, ◌++◌, Bool, false, length, take, drop, eqb, leb, ltb, Result, Ok, Err}
use Rattle.numbers.specs.Number.{bytes}
use Rattle.numbers.specs.Field.{field, when}
use Rattle.numbers.specs.declared.Refusal.TheVariants as refusal
use Rattle.put.specs.Put.{Wrote, wrote, placed}
use Rattle.numbers.specs.declared.Refusal.{Refusal}

-- READING

-- the position after the set at `at`
abbrev pub one_of : List ℕ → ℕ → Result ℕ Refusal
one_of s at = field Err 2 s at (λ n. when (leb (at + 2 + n) (length s)) (Ok (at + 2 + n)) (Err (refusal.Cut (at + 2))))

-- on from there, unless it is refused
abbrev pub onward : (ℕ → Result ℕ Refusal) → Result ℕ Refusal → Result ℕ Refusal
onward go (Ok e) = go e
onward go (Err q) = Err q

-- the position after n sets from `at` on
unfoldable pub end_of : ℕ → List ℕ → ℕ → Result ℕ Refusal
end_of zero s at = Ok at
end_of (suc n) s at = onward (end_of n s) (one_of s at)

-- the set at `at` without its length, and the i-th from `at` on, counted from 0; no bytes where it is not whole
abbrev pub body_of : List ℕ → ℕ → Result ℕ Refusal → List ℕ
body_of s at (Ok e) = take (e - (at + 2)) (drop (at + 2) s)
body_of s at (Err q) = []

abbrev pub next_of : List ℕ → Result ℕ Refusal → List ℕ
next_of s (Ok at) = body_of s at (one_of s at)
next_of s (Err q) = []

abbrev pub nth_of : ℕ → List ℕ → ℕ → List ℕ
nth_of i s at = next_of s (end_of i s at)

-- n sets are all of a list
abbrev pub reaches : ℕ → Result ℕ Refusal → Bool
reaches n (Ok e) = eqb e n
reaches n (Err q) = false

abbrev pub filled_by : ℕ → List ℕ → Bool
filled_by n l = reaches (length l) (end_of n l 0)

-- WRITING

-- a set with its length, and a list of them
abbrev pub set_bytes : List ℕ → List ℕ
set_bytes x = bytes 2 (length x) ++ x

abbrev pub list_of : List (List ℕ) → List ℕ
list_of [] = []
list_of (x ∷ xs) = set_bytes x ++ list_of xs

-- a set at `at` of a list; 13 where its length has no two bytes
abbrev pub set_in : List ℕ → ℕ → List ℕ → Wrote
set_in x at buf = when (ltb (length x) (2 ^ 16)) (placed (set_bytes x) (2 + length x) at buf) (wrote (Err refusal.Unwritable) buf)
