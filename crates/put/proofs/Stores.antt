-- Runs of stores. Assumes nothing.
use mathlib.Core.Path.{◌≡◌, refl, sym, ap, ◌∙◌}
use mathlib.Core.List.{List, [], ◌∷◌, ◌++◌}
use Prim.Native.Nat.{ℕ, zero, suc, ◌+◌, ◌-◌, ◌/◌, ◌%◌, ◌^◌, ◌<◌}
use native.Mathlib.Nat.{add-zero}
use native.Mathlib.Numerals.{add-one}
use native.Mathlib.Omega.{arith}
use lib.ListN.{length, get_or, drop, set}
use lib.Seq.{sets, drop-cons, drop-length}
use Rattle.numbers.specs.Number.{bytes}

-- one byte more is stored
pub stored : (buf : List ℕ) (left p n d : ℕ) → 0 < left → d ≡ 256 ^ (left - 1) →
    sets (set buf p (n / d % 256)) (p + 1) (bytes (left - 1) n) ≡ sets buf p (bytes left n)
unfolding bytes
stored buf zero p n d h e = absurd (omega arith)
stored buf (suc l) p n d h e = let q : suc l - 1 ≡ l = omega arith in rw (e, q, add-one p)

pub none_left : (buf : List ℕ) (left p n : ℕ) → left ≡ 0 → sets buf p (bytes left n) ≡ buf
unfolding bytes
none_left buf left p n e = ap (λ k. sets buf p (bytes k n)) e

-- one byte more of a copy
pub copied : (buf src : List ℕ) (at i : ℕ) → i < length src →
    sets (set buf (at + i) (get_or src i 0)) (at + (i + 1)) (drop (i + 1) src) ≡ sets buf (at + i) (drop i src)
copied buf src at i h =
    let n : at + (i + 1) ≡ suc (at + i) = omega arith in
    rw (n, add-one i, drop-cons src i 0)

pub all-copied : (buf src : List ℕ) (at i : ℕ) → i ≡ length src → sets buf (at + i) (drop i src) ≡ buf
all-copied buf src at i e = ap (sets buf (at + i)) (ap (λ n. drop n src) e ∙ drop-length src)

-- two runs of stores, one after the other
pub sets-append : (l : List ℕ) (i : ℕ) (a b : List ℕ) → sets (sets l i a) (i + length a) b ≡ sets l i (a ++ b)
sets-append l i [] b = ap (λ n. sets l n b) (add-zero i)
sets-append l i (x ∷ a) b =
    let n : i + suc (length a) ≡ suc i + length a = omega arith in
    ap (λ n. sets (sets (set l i x) (suc i) a) n b) n ∙ sets-append (set l i x) (suc i) a b
