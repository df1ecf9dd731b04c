-- The entries of a table in a lent buffer: numbers of four bytes, one behind the other; and what a builder of entries
-- answers. Assumes nothing.
use Rattle.std.specs.Prelude.{ℕ, ◌+◌, ◌*◌, ◌^◌, ◌≤◌, ◌≡◌, List, [], ◌∷◌, ◌++◌, Bool, ◌&&◌, length, leb, ltb, Ok, Err}
use Rattle.std.proofs.lemmas.List.Edits.{sets}
use Rattle.numbers.specs.Number.{bytes}
use Rattle.numbers.specs.Field.{when}
use Rattle.numbers.specs.declared.Refusal.TheVariants as refusal
use Rattle.put.specs.Put.{Wrote, wrote}
use Rattle.samples.specs.Records.{record-length}

abbrev pub words_of : List ℕ → List ℕ
words_of [] = []
words_of (x ∷ l) = bytes 4 x ++ words_of l

-- x as number k of the buffer, where there is room for it
unfoldable pub word_of : List ℕ → ℕ → ℕ → List ℕ
word_of o k x = when (leb (k * 4 + 4) (length o)) (sets o (k * 4) (bytes 4 x)) o

-- the numbers at the buffer's start, what lies past them as it was; 12 with the length needed where they have no room (A61)
unfoldable pub placed_of : List ℕ → List ℕ → Wrote
placed_of ns o =
    when (leb (length ns * 4) (length o)) (wrote (Ok (length ns * 4)) (sets o 0 (words_of ns))) (wrote (Err (refusal.TooSmall (length ns * 4))) o)

-- the entries of n samples: 11 with n where the buffer has no n records; 13 where there are more samples than 32 bits
-- count, or a number does not fit its field (A60)
unfoldable pub built_of : List ℕ → ℕ → Bool → List ℕ → List ℕ → Wrote
built_of rs n fit ns o =
    when (leb (n * record-length) (length rs))
    (when (ltb n (2 ^ 32)) (when fit (placed_of ns o) (wrote (Err refusal.Unwritable) o)) (wrote (Err refusal.Unwritable) o))
    (wrote (Err (refusal.NoSample n)) o)

-- INSIDE

-- how many numbers were put, and the buffer p afterwards, where all of them have room
pub record Filled (ns o p : List ℕ) (r : ℕ) : Type 0 where
  pub many : r ≡ length ns
  pub same : length p ≡ length o
  pub held : length ns * 4 ≤ length o → p ≡ sets o 0 (words_of ns)

-- some numbers put one after the other, from number k on
abbrev pub emit_of : List ℕ → ℕ → List ℕ → List ℕ
emit_of p k [] = p
emit_of p k (x ∷ ns) = emit_of (word_of p k x) (k + 1) ns

pub record Emitted (ns p : List ℕ) (k : ℕ) (q : List ℕ) (r : ℕ) : Type 0 where
  pub next : r ≡ k + length ns
  pub put : q ≡ emit_of p k ns
