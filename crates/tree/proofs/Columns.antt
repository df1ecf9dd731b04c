-- The tables as columns of the recorded boxes, and how a column is copied. Assumes nothing.
use mathlib.Core.Path.{◌≡◌, refl, sym, ap, ◌∙◌}
use mathlib.Core.List.{List, [], ◌∷◌, ◌++◌, map}
use Prim.Native.Nat.{ℕ, suc, ◌+◌, ◌-◌, ◌≤◌, ◌<◌}
use native.Mathlib.Numerals.{add-one}
use native.Mathlib.Omega.{arith}
use lib.ListN.{length, get_or, set, take, drop, length-map}
use lib.Seq.{sets, sets-eq, drop-cons, take_at}
use Rattle.tree.specs.Tables.{Tables, tables, bit, put, puts}
use Rattle.places.specs.declared.Node.{Node}

-- one number more of a copy
pub copied : (to from : List ℕ) (n i : ℕ) → i < n → i < length from →
    sets (set to i (get_or from i 0)) (i + 1) (take (n - (i + 1)) (drop (i + 1) from)) ≡ sets to i (take (n - i) (drop i from))
copied to from n i h g =
    let e : n - i ≡ suc (n - (i + 1)) = omega arith in
    ap (λ k. sets (set to i (get_or from i 0)) k (take (n - (i + 1)) (drop k from))) (add-one i)
    ∙ sym (ap (λ k. sets to i (take k (drop i from))) e ∙ ap (λ l. sets to i (take (suc (n - (i + 1))) l)) (drop-cons from i 0 g))

pub all-copied : (to from : List ℕ) (n i : ℕ) → n ≤ i → to ≡ sets to i (take (n - i) (drop i from))
all-copied to from n i h = let e : n - i ≡ 0 = omega arith in sym (ap (λ k. sets to i (take k (drop i from))) e)

-- each table is a column: the numbers of the boxes from row i on, other rows as they were
pub columns : (a b c d e f : List ℕ) (i : ℕ) (xs : List Node) → puts (tables a b c d e f) i xs
    ≡ tables (sets a i (map (λ x. x.start) xs)) (sets b i (map (λ x. x.size) xs)) (sets c i (map (λ x. x.kind) xs)) (sets d i (map (λ x. x.parent) xs)) (sets e i (map (λ x. x.depth) xs)) (sets f i (map (λ x. bit x.placed) xs))
unfolding puts
columns a b c d e f i [] = refl
columns a b c d e f i (x ∷ xs) =
    columns (set a i x.start) (set b i x.size) (set c i x.kind) (set d i x.parent) (set e i x.depth) (set f i (bit x.placed)) (suc i) xs

-- a column that was made in a table of its own, copied into another
pub moved : (m : Node → ℕ) (xs : List Node) (to from : List ℕ) → length xs ≤ length from → sets to 0 (take (length xs) (sets from 0 (map m xs))) ≡ sets to 0 (map m xs)
moved m xs to from h =
    let col = map m xs in
    let k : length col ≡ length xs = length-map xs m in
    let a : sets from 0 col ≡ col ++ drop (0 + length col) from = sets-eq col from 0 (omega arith) in
    ap (sets to 0) (ap (take (length xs)) a ∙ take_at col (drop (0 + length col) from) (length xs) k)
