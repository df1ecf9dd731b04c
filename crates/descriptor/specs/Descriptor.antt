-- A descriptor's head: its tag, and its length (ISO/IEC 14496-1, 7.2.6 and 8.3.3, sizeOfInstance). A length has 7 bits a
-- byte, the highest first; the high bit says that another byte follows; at most 4 bytes. The bytes end where the parent
-- does. Stricter than the standard: a fourth byte with the high bit is 8 at the length's first byte, a descriptor that
-- passes its parent is 1 at its tag (A29); a length that four bytes do not hold is not written (13, A64). Assumes nothing.
use Rattle.std.specs.Prelude.{ℕ, zero, suc, ◌+◌, ◌*◌, ◌/◌, ◌%◌, ◌^◌, List, [], ◌∷◌, length, get_or, leb, ltb, Result, Ok, Err}
use Rattle.numbers.specs.Field.{field, when}
use Rattle.numbers.specs.declared.Refusal.TheVariants as refusal
use Rattle.put.specs.Put.{Wrote, wrote, placed}
use Rattle.descriptor.specs.declared.Head.{Head}
use Rattle.numbers.specs.declared.Refusal.{Refusal}
use Rattle.descriptor.specs.declared.Length.{Length}

abbrev pub length_record : ℕ → ℕ → Length
length_record n p = record { value = n; after = p }

abbrev pub head_record : ℕ → ℕ → ℕ → Head
head_record tag from to = record { tag = tag; from = from; to = to }

-- the length that begins at `first`, from `at` on: at most k bytes, and n is what the bytes before tell
unfoldable pub length_from : ℕ → ℕ → ℕ → List ℕ → ℕ → Result Length Refusal
length_from first zero n s at = Err (refusal.Value first)
length_from first (suc k) n s at =
    when (ltb at (length s))
    (when (ltb (get_or s at 0) 128) (Ok (length_record (n * 128 + get_or s at 0 % 128) (suc at))) (length_from first k (n * 128 + get_or s at 0 % 128) s (suc at)))
    (Err (refusal.Cut first))

abbrev pub length_of : List ℕ → ℕ → Result Length Refusal
length_of s at = length_from at 4 0 s at

-- how many bytes the shortest form has
abbrev pub size_for : ℕ → ℕ
size_for n = when (ltb n (128 ^ 1)) 1 (when (ltb n (128 ^ 2)) 2 (when (ltb n (128 ^ 3)) 3 4))

-- the high bit of a byte that has so many behind it
unfoldable pub high : ℕ → ℕ
high zero = 0
high (suc left) = 128

-- a length in w bytes
unfoldable pub groups : ℕ → ℕ → List ℕ
groups zero n = []
groups (suc w) n = (high w + n / 128 ^ w % 128) ∷ groups w n

-- a length in its shortest form
abbrev pub length_bytes : ℕ → List ℕ
length_bytes n = groups (size_for n) n

-- the bytes of a length at `at`; 13 where four bytes do not hold it
abbrev pub length_in : ℕ → ℕ → List ℕ → Wrote
length_in n at out = when (ltb n (128 ^ 4)) (placed (length_bytes n) (size_for n) at out) (wrote (Err refusal.Unwritable) out)

-- the length behind a tag is known: the content lies in the parent, or 1 at the tag
unfoldable pub head_by : List ℕ → ℕ → ℕ → Result Length Refusal → Result Head Refusal
head_by s at tag (Ok l) = when (leb (l.after + l.value) (length s)) (Ok (head_record tag l.after (l.after + l.value))) (Err (refusal.Cut at))
head_by s at tag (Err q) = Err q

abbrev pub head_of : List ℕ → ℕ → Result Head Refusal
head_of s at = field Err 1 s at (λ tag. head_by s at tag (length_of s (at + 1)))

abbrev pub head_bytes : ℕ → ℕ → List ℕ
head_bytes tag n = tag ∷ length_bytes n

-- a tag and a length at `at`
abbrev pub head_in : ℕ → ℕ → ℕ → List ℕ → Wrote
head_in tag n at out = when (ltb n (128 ^ 4)) (placed (head_bytes tag n) (size_for n + 1) at out) (wrote (Err refusal.Unwritable) out)
